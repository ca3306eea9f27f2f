-- What the command `encrypt` comes to.
use Rattle.std.specs.Prelude.{◌≡◌, ◌⊎◌, List, Option, None}
use Rattle.std.specs.Option.{option_or}
use Rattle.esdk_args.specs.declared.request.EncryptWords.{EncryptWords}
use Rattle.esdk_fields.specs.declared.refusals.Outside.TheVariants as outsides
use Rattle.esdk_fields.specs.declared.refusals.Refusal.{Refusal}
use Rattle.context_codec.specs.Context.{KeyValue}
use Rattle.keyring_trait.specs.Keyring.{KeyringMeaning}
use Rattle.keyring_trait.specs.Requests.{EncRequestValue, required_absent}
use Rattle.keyring_trait.specs.Wrapping.{WrapKeyValue}
use Rattle.esdk_encrypt.specs.declared.errors.EncryptError.{EncryptError}
use Rattle.esdk_encrypt.specs.declared.errors.EncryptError.TheVariants as errors
use Rattle.esdk_encrypt.specs.Encrypt.{EncryptAsked, Encrypts, EncryptEnds}
use Rattle.esdk_encrypt.specs.Told.{NoneForRequest, Writer}
use Rattle.esdk_report.specs.declared.failure.Failure.{Failure}
use Rattle.esdk_report.specs.declared.failure.Failure.TheVariants as failures
use Rattle.esdk_run.specs.ArmouredMessage.{output_gains}
use Rattle.esdk_run.specs.Giving.{TreeGaveBy, TreeGives, refusal_over}
use Rattle.esdk_run.specs.Objects.{Objects, Unchanged, same_streams}
use Rattle.esdk_run.specs.Pairs.{RefusesWordPairs, required_in}
use Rattle.esdk_run.specs.Trees.{HasNoTree, HasTree, IsUntouched, TreeLacksMemory, Trees}

-- ---- what is asked for

-- the request: it is for the context, and requires the keys that the words require
abbrev pub request_asked : EncryptWords → List KeyValue → EncRequestValue
request_asked asked context =
    record { context = context; required = required_in asked.pairs; declared = None }

-- Q4, where a required key has no pair; else Q1, where a key has the reserved prefix; else Q5 or
-- Q6, where the tree refuses to make a data key
unfoldable pub refusal_asked : EncryptWords → List KeyValue → KeyringMeaning → Option Refusal
refusal_asked asked context tree =
    option_or (required_absent context (required_in asked.pairs)) (refusal_over context tree)

-- what is asked for, of a tree that means this before and that after the run
abbrev pub encrypt_asked : EncryptWords → List KeyValue → KeyringMeaning → KeyringMeaning
    → EncryptAsked
encrypt_asked asked context tree left = record {
  wraps = tree.wraps;
  gives = λ random materials. TreeGives (refusal_asked asked context tree) tree
      (request_asked asked context) random materials
      × TreeGaveBy tree left (request_asked asked context) random materials;
  gives_none = NoneForRequest (refusal_asked asked context tree) tree.faults left.faults;
  size = asked.frame;
  max_keys = asked.max_keys;
}

-- who writes where the tree tells these keys: they, over the context of the words' pairs, with the
-- keys that the words require
abbrev pub run_writer : EncryptWords → List KeyValue → List WrapKeyValue → Writer
run_writer asked context keys = record {
  keys = keys;
  context = context;
  required = required_in asked.pairs;
  size = asked.frame;
  max_keys = asked.max_keys;
}

-- ---- how it ends

-- The words give a context, the keyring file is read as a tree, and the output gained the message
-- of the whole input, in the form that the words ask for.
pub record EncryptsInput (trees : Trees) (asked : EncryptWords) (before after : Objects)
    : Type 0 where
  pub context : List KeyValue
  pub tree : KeyringMeaning
  pub left : KeyringMeaning
  pub has : HasTree trees asked.pairs asked.keyring before.shelf after.shelf context tree left
  pub done : Encrypts (encrypt_asked asked context tree left) before.input after.input
      (output_gains asked.armour before.output after.output) before.entropy after.entropy

-- The words give a context, the keyring file is read as a tree, and the encryption ended with this
-- error. With X4 the tree that is given back means what it meant when it was read.
pub record EncryptionFails (trees : Trees) (asked : EncryptWords) (before after : Objects)
    (untouched : Type 0) (error : EncryptError) : Type 0 where
  pub context : List KeyValue
  pub tree : KeyringMeaning
  pub left : KeyringMeaning
  pub has : HasTree trees asked.pairs asked.keyring before.shelf after.shelf context tree left
  pub ended : EncryptEnds (encrypt_asked asked context tree left) before.input after.input
      (output_gains asked.armour before.output after.output) before.entropy after.entropy untouched
      (left ≡ tree) error

-- Why an input wasn't encrypted, and what that left. Memory runs out before there is a tree, with
-- nothing read but its file, or in the encryption, before anything is taken or written.
abbrev pub EncryptFails : Trees → EncryptWords → Objects → Objects → Unchanged → Failure → Type 0
EncryptFails trees asked before after unchanged (failures.File refusal) =
    HasNoTree trees asked.pairs asked.keyring before.shelf after.shelf (failures.File refusal)
    × IsUntouched trees (same_streams unchanged × unchanged.entropy)
EncryptFails trees asked before after unchanged (failures.Outside outsides.ShelfFault) =
    HasNoTree trees asked.pairs asked.keyring before.shelf after.shelf
    (failures.Outside outsides.ShelfFault)
    × IsUntouched trees (same_streams unchanged × unchanged.entropy)
EncryptFails trees asked before after unchanged (failures.Outside outside) =
    EncryptionFails trees asked before after (same_streams unchanged) (errors.Outside outside)
EncryptFails trees asked before after unchanged (failures.Refusal refusal) =
    (RefusesWordPairs asked.pairs refusal unchanged.shelf
    × IsUntouched trees (same_streams unchanged × unchanged.entropy))
    ⊎ EncryptionFails trees asked before after (same_streams unchanged) (errors.Refusal refusal)
EncryptFails trees asked before after unchanged failures.Memory =
    (TreeLacksMemory trees asked.pairs asked.keyring before.shelf after.shelf unchanged.shelf
    × IsUntouched trees (same_streams unchanged × unchanged.entropy))
    ⊎ EncryptionFails trees asked before after (same_streams unchanged) errors.Memory
EncryptFails trees asked before after unchanged failure = ⊥
