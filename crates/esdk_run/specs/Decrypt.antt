-- What the command `decrypt` comes to.
use Rattle.std.specs.Prelude.{◌≡◌, ◌⊎◌, ℕ, List, ⊤, Some, None, IfSome, Ok}
use Rattle.esdk_args.specs.declared.request.DecryptWords.{DecryptWords}
use Rattle.esdk_fields.specs.Counts.{Rose}
use Rattle.esdk_fields.specs.declared.faults.Fault.TheVariants.{NoKeyOpens}
use Rattle.esdk_fields.specs.declared.refusals.Outside.TheVariants as outsides
use Rattle.context_codec.specs.Context.{KeyValue}
use Rattle.context_codec.specs.Parts.{only_given, whole_of}
use Rattle.header_codec.specs.declared.settings.Settings.{Settings}
use Rattle.keyring_trait.specs.declared.manager_errors.ManagerError.{ManagerError}
use Rattle.keyring_trait.specs.declared.manager_errors.ManagerError.TheVariants as managers
use Rattle.keyring_trait.specs.Keyring.{FindsBy, KeyringMeaning, Opens}
use Rattle.keyring_trait.specs.Uses.{AskedOnce}
use Rattle.keyring_trait.specs.Materials.{DecMaterialsValue}
use Rattle.keyring_trait.specs.Requests.{DecRequestValue}
use Rattle.keyring_trait.specs.Unlocking.{pair_offence}
use Rattle.keyring_trait.specs.Wrapping.{WrapKeyValue, unwrapped}
use Rattle.esdk_decrypt.specs.declared.errors.DecryptError.{DecryptError}
use Rattle.esdk_decrypt.specs.declared.errors.DecryptError.TheVariants as errors
use Rattle.esdk_decrypt.specs.Decrypt.{Answering, DecryptAsked}
use Rattle.esdk_decrypt.specs.Told.{Reader}
use Rattle.esdk_report.specs.declared.failure.Failure.{Failure}
use Rattle.esdk_report.specs.declared.failure.Failure.TheVariants as failures
use Rattle.esdk_run.specs.Objects.{Objects, Unchanged, same_streams}
use Rattle.esdk_run.specs.Pairs.{RefusesWordPairs, required_in}
use Rattle.esdk_run.specs.Trees.{HasNoTree, HasTree, IsUntouched, TreeLacksMemory, Trees}
use Rattle.esdk_run.specs.UnarmouredDecrypt.{DecryptsAs, DecryptEndsAs}

-- the limits that the words set, and whether they allow a message without a commitment
abbrev pub decrypt_settings : DecryptWords → Settings
decrypt_settings asked =
    record { max_keys = asked.max_keys; max_unit = asked.max_unit; uncommitted = asked.uncommitted }

-- ---- what is answered to a header

-- What is found for a header's pairs and entries, where nothing is wrong with the pairs: the whole
-- context, its pairs that are only authenticated, and a data key. Where the tree tells its keys,
-- one of them opens an entry with this data key; where no keyring failed, it is the first that
-- opens.
pub record TreeFinds (required : List (List ℕ)) (tree left : KeyringMeaning)
    (request : DecRequestValue) (materials : DecMaterialsValue) : Type 0 where
  pub sound : pair_offence request.stored request.given required ≡ None
  pub context : materials.context ≡ whole_of request.stored request.given
  pub only : materials.only ≡ only_given request.stored request.given
  pub opens : Opens tree left (whole_of request.stored request.given) request.entries
      (Some materials.key)

-- Nothing is wrong with the pairs, and none of the keys opens an entry, where the tree tells them.
pub record OpensNone (required : List (List ℕ)) (tree : KeyringMeaning) (request : DecRequestValue)
    : Type 0 where
  pub sound : pair_offence request.stored request.given required ≡ None
  pub none : IfSome tree.keys (λ keys. unwrapped keys request.entries
      (whole_of request.stored request.given) ≡ None)

-- Why nothing is found: M15, where no key opens an entry; else what is wrong with the pairs; or,
-- where nothing is wrong with them, a keyring that failed. Want of memory is free.
abbrev pub TreeFindsNone : List (List ℕ) → KeyringMeaning → KeyringMeaning → DecRequestValue
    → ManagerError → Type 0
TreeFindsNone required tree left request (managers.Fault NoKeyOpens) =
    OpensNone required tree request
TreeFindsNone required tree left request (managers.Fault fault) =
    pair_offence request.stored request.given required ≡ Some fault
TreeFindsNone required tree left request managers.KeyringFault =
    (pair_offence request.stored request.given required ≡ None) × Rose tree.faults left.faults
TreeFindsNone required tree left request (managers.Refusal refusal) = ⊥
TreeFindsNone required tree left request managers.Memory = ⊤

-- The data key is the one that the first opens of the keys that the tree's leaves went by in the
-- run, each asked once, whatever failed.
abbrev pub TreeFoundBy : KeyringMeaning → KeyringMeaning → DecRequestValue → DecMaterialsValue
    → Type 0
TreeFoundBy tree left request materials = AskedOnce tree.uses left.uses
    (FindsBy (whole_of request.stored request.given) request.entries (Ok (Some materials.key)))

-- what a tree may answer
abbrev pub tree_answering : List (List ℕ) → KeyringMeaning → KeyringMeaning → Answering
tree_answering required tree left = record {
  finds = λ request materials. TreeFinds required tree left request materials
      × TreeFoundBy tree left request materials;
  finds_none = TreeFindsNone required tree left;
}

-- what is asked for, of a tree that means this before and that after the run: with the pairs that
-- the words give, and the keys that they require
abbrev pub decrypt_asked : DecryptWords → List KeyValue → KeyringMeaning → KeyringMeaning
    → DecryptAsked
decrypt_asked asked given tree left = record {
  manager = tree_answering (required_in asked.pairs) tree left;
  settings = decrypt_settings asked;
  given = given;
}

-- who reads where the tree tells these keys
abbrev pub reader_of : DecryptWords → List KeyValue → List WrapKeyValue → Reader
reader_of asked given keys = record {
  keys = keys;
  settings = decrypt_settings asked;
  given = given;
  required = required_in asked.pairs;
}

-- ---- how it ends

-- The words give these pairs, the keyring file is read as a tree, the whole input, which may be
-- read as armour, is a whole message to them, and the output gained its content. This is its whole
-- context.
pub record DecryptsInput (trees : Trees) (asked : DecryptWords) (before after : Objects)
    (context : List KeyValue) : Type 0 where
  pub given : List KeyValue
  pub tree : KeyringMeaning
  pub left : KeyringMeaning
  pub has : HasTree trees asked.pairs asked.keyring before.shelf after.shelf given tree left
  pub done : DecryptsAs asked.armour (decrypt_asked asked given tree left) before.input after.input
      before.output after.output context

-- The words give these pairs, the keyring file is read as a tree, and the decryption ended with
-- this error.
pub record DecryptionFails (trees : Trees) (asked : DecryptWords) (before after : Objects)
    (unwritten : Type 0) (error : DecryptError) : Type 0 where
  pub given : List KeyValue
  pub tree : KeyringMeaning
  pub left : KeyringMeaning
  pub has : HasTree trees asked.pairs asked.keyring before.shelf after.shelf given tree left
  pub ended : DecryptEndsAs asked.armour (decrypt_asked asked given tree left) before.input
      after.input before.output after.output unwritten error

-- Why an input wasn't decrypted, and what that left. Memory runs out before there is a tree, with
-- nothing read but its file, or in the decryption.
abbrev pub DecryptFails : Trees → DecryptWords → Objects → Objects → Unchanged → Failure → Type 0
DecryptFails trees asked before after unchanged (failures.File refusal) =
    HasNoTree trees asked.pairs asked.keyring before.shelf after.shelf (failures.File refusal)
    × IsUntouched trees (same_streams unchanged)
DecryptFails trees asked before after unchanged (failures.Outside outsides.ShelfFault) =
    HasNoTree trees asked.pairs asked.keyring before.shelf after.shelf
    (failures.Outside outsides.ShelfFault) × IsUntouched trees (same_streams unchanged)
DecryptFails trees asked before after unchanged (failures.Outside outside) =
    DecryptionFails trees asked before after unchanged.output (errors.Outside outside)
DecryptFails trees asked before after unchanged (failures.Fault fault) =
    DecryptionFails trees asked before after unchanged.output (errors.Fault fault)
DecryptFails trees asked before after unchanged (failures.Refusal refusal) = RefusesWordPairs
    asked.pairs refusal unchanged.shelf × IsUntouched trees (same_streams unchanged)
DecryptFails trees asked before after unchanged failures.Memory =
    (TreeLacksMemory trees asked.pairs asked.keyring before.shelf after.shelf unchanged.shelf
    × IsUntouched trees (same_streams unchanged))
    ⊎ DecryptionFails trees asked before after unchanged.output errors.Memory
DecryptFails trees asked before after unchanged failure = ⊥
