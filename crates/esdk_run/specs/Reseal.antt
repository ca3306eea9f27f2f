-- What the command `reseal` comes to.
use Rattle.std.specs.Prelude.{◌≡◌, ◌⊎◌, List, ⊤, true, None, Some}
use Rattle.esdk_args.specs.declared.request.ResealWords.{ResealWords}
use Rattle.esdk_base.specs.Streams.{ShelfState}
use Rattle.esdk_fields.specs.declared.refusals.Outside.TheVariants as outsides
use Rattle.context_codec.specs.Context.{KeyValue}
use Rattle.header_codec.specs.declared.settings.Settings.{Settings}
use Rattle.keyring_trait.specs.declared.manager_errors.ManagerError.{ManagerError}
use Rattle.keyring_trait.specs.declared.manager_errors.ManagerError.TheVariants as managers
use Rattle.keyring_trait.specs.Keyring.{KeyringMeaning}
use Rattle.keyring_trait.specs.Requests.{EncRequestValue}
use Rattle.keyring_trait.specs.Wrapping.{WrapKeyValue}
use Rattle.reseal_core.specs.declared.errors.InputError.{InputError}
use Rattle.reseal_core.specs.declared.errors.InputError.TheVariants as errors
use Rattle.reseal_core.specs.Reseal.{ResealEnds, Resealing, ResealsInput}
use Rattle.esdk_report.specs.declared.failure.Failure.{Failure}
use Rattle.esdk_report.specs.declared.failure.Failure.TheVariants as failures
use Rattle.esdk_run.specs.Decrypt.{tree_answering}
use Rattle.esdk_run.specs.FileReading.{FileFails}
use Rattle.esdk_run.specs.Giving.{TreeGives, refusal_over}
use Rattle.esdk_run.specs.Objects.{Objects, Unchanged, same_streams}
use Rattle.esdk_run.specs.Pairs.{RefusesWordPairs, required_in}
use Rattle.esdk_run.specs.Trees.{HasNoTree, HasTree, IsLawful, IsUntouched, TreeGoes, TreeIs}
use Rattle.esdk_run.specs.Trees.{TreeLacksMemory, Trees}

-- the limit that the words set, and whether they allow a message without a commitment
abbrev pub reseal_settings : ResealWords → Settings
reseal_settings asked = record
    { max_keys = None; max_unit = asked.max_unit; uncommitted = asked.uncommitted }

-- ---- what the second tree gives

-- Why nothing is given: the tree refuses the request. It doesn't fail. Want of memory is free.
abbrev pub TreeSealsNone : KeyringMeaning → EncRequestValue → ManagerError → Type 0
TreeSealsNone tree request (managers.Refusal refusal) =
    refusal_over request.context tree ≡ Some refusal
TreeSealsNone tree request managers.Memory = ⊤
TreeSealsNone tree request error = ⊥

-- What is asked for, with these pairs given: of a first tree that means this before and that after
-- the run, and of this second one.
abbrev pub reseal_asked : ResealWords → List KeyValue → KeyringMeaning → KeyringMeaning
    → KeyringMeaning → Resealing
reseal_asked asked given tree left second = record {
  opening = record {
    manager = tree_answering (required_in asked.pairs) tree left;
    settings = reseal_settings asked;
    given = given;
  };
  wraps = second.wraps;
  gives = λ request. TreeGives (refusal_over request.context second) second request;
  gives_none = TreeSealsNone second;
  size = asked.frame;
}

-- ---- the two files

-- The words give these pairs, and the first keyring file is read as a tree, of which this is left.
-- Then this was the shelf, and it told the files that it told before.
pub record HasFirst (trees : Trees) (asked : ResealWords) (old : ShelfState) (given : List KeyValue)
    (tree left : KeyringMeaning) (between : ShelfState) : Type 0 where
  pub has : HasTree trees asked.pairs asked.keyring old between given tree left
  pub files : between.files ≡ old.files

-- The second file is read as a tree, in which no plug stands: it never fails, and tells its keys.
pub record HasSecond (trees : Trees) (asked : ResealWords) (between new : ShelfState)
    (second : KeyringMeaning) : Type 0 where
  pub file : TreeIs trees.plain between new asked.to_keyring second
  pub lawful : IsLawful second
  pub steady : second.steady ≡ true
  pub keys : List WrapKeyValue
  pub told : second.keys ≡ Some keys

-- The second file gives no tree for this reason; want of memory is as `FileFails` says. The first
-- tree is given back as it was.
pub record HasNoSecond (trees : Trees) (asked : ResealWords) (old new : ShelfState)
    (untouched : Type 0) (failure : Failure) : Type 0 where
  pub given : List KeyValue
  pub tree : KeyringMeaning
  pub between : ShelfState
  pub first : HasFirst trees asked old given tree tree between
  pub cause : FileFails trees.plain between new asked.to_keyring failure
  pub same : untouched

-- ---- how it ends

-- Both files are read as trees, of which these are left, and this is so of the run with them;
-- `unasked` says that both are left as they were read.
pub record HasBoth (trees : Trees) (asked : ResealWords) (before after : Objects)
    (law : Resealing → (unasked : Type 0) → Type 0) : Type 0 where
  pub given : List KeyValue
  pub tree : KeyringMeaning
  pub left : KeyringMeaning
  pub between : ShelfState
  pub first : HasFirst trees asked before.shelf given tree left between
  pub second : KeyringMeaning
  pub later : KeyringMeaning
  pub sealing : HasSecond trees asked between after.shelf second
  pub goes : TreeGoes second later
  pub so : law (reseal_asked asked given tree left second) ((left ≡ tree) × (later ≡ second))

-- the whole input is a whole message to the first tree, with this whole context, and the output
-- gained the new message of its content
abbrev pub ResealsAs : Trees → ResealWords → Objects → Objects → List KeyValue → Type 0
ResealsAs trees asked before after context =
    HasBoth trees asked before after
    (λ run unasked. ResealsInput run before.input after.input before.output after.output
    before.entropy after.entropy context)

-- The resealing ended with this error. With X4 both trees mean what they meant when they were read.
abbrev pub ResealingFails : Trees → ResealWords → Objects → Objects → Unchanged → InputError
    → Type 0
ResealingFails trees asked before after unchanged error =
    HasBoth trees asked before after
    (λ run unasked. ResealEnds run before.input after.input before.output after.output
    before.entropy after.entropy (same_streams unchanged) unasked error)

-- input, output and entropy are as before
abbrev pub untouched : Unchanged → Type 0
untouched unchanged = same_streams unchanged × unchanged.entropy

-- Why an input wasn't resealed, and what that left. Memory runs out before there is a tree, with
-- nothing read but its file; or at the second file, with nothing read but both; or in the
-- resealing.
abbrev pub ResealFails : Trees → ResealWords → Objects → Objects → Unchanged → Failure → Type 0
ResealFails trees asked before after unchanged (failures.File refusal) =
    (HasNoTree trees asked.pairs asked.keyring before.shelf after.shelf (failures.File refusal)
    × IsUntouched trees (untouched unchanged))
    ⊎ HasNoSecond trees asked before.shelf after.shelf (untouched unchanged) (failures.File refusal)
ResealFails trees asked before after unchanged (failures.Outside outsides.ShelfFault) =
    (HasNoTree trees asked.pairs asked.keyring before.shelf after.shelf
    (failures.Outside outsides.ShelfFault) × IsUntouched trees (untouched unchanged))
    ⊎ HasNoSecond trees asked before.shelf after.shelf (untouched unchanged)
    (failures.Outside outsides.ShelfFault)
ResealFails trees asked before after unchanged (failures.Outside outside) = ResealingFails trees
    asked before after unchanged (errors.Outside outside)
ResealFails trees asked before after unchanged (failures.Fault fault) = ResealingFails trees asked
    before after unchanged (errors.Fault fault)
ResealFails trees asked before after unchanged (failures.Refusal refusal) =
    (RefusesWordPairs asked.pairs refusal unchanged.shelf × IsUntouched trees (untouched unchanged))
    ⊎ ResealingFails trees asked before after unchanged (errors.Refusal refusal)
ResealFails trees asked before after unchanged failures.Memory =
    (TreeLacksMemory trees asked.pairs asked.keyring before.shelf after.shelf unchanged.shelf
    × IsUntouched trees (untouched unchanged))
    ⊎ HasNoSecond trees asked before.shelf after.shelf (untouched unchanged) failures.Memory
    ⊎ ResealingFails trees asked before after unchanged errors.Memory
ResealFails trees asked before after unchanged failure = ⊥
