-- The keyring tree that a keyring file on a shelf is read as, and what a run leaves of it.
use Rattle.std.specs.Prelude.{◌≡◌, ◌⊎◌, ◌≤◌, ℕ, List, [], ◌∷◌, length, true, Option, option_map}
use Rattle.std.specs.Prelude.{Some, None, IfSome, Result, Ok, Err}
use Rattle.esdk_fields.specs.Counts.{Stayed}
use Rattle.esdk_base.specs.Streams.{ShelfState}
use Rattle.esdk_fields.specs.declared.refusals.FileRefusal.{FileRefusal}
use Rattle.context_codec.specs.Context.{KeyValue}
use Rattle.esdk_args.specs.declared.pair_words.PairWord.{PairWord}
use Rattle.keyring_trait.specs.Keyring.{KeyringMeaning}
use Rattle.keyring_trait.specs.Wrapping.{active}
use Rattle.multi_keyring.specs.Forest.{Forest}
use Rattle.multi_keyring.specs.declared.tree.Node.{Node}
use Rattle.multi_keyring.specs.Tree.{leaves, meanings, tree_meaning}
use Rattle.keyring_file.specs.declared.plugs.Plug.{Plug}
use Rattle.keyring_file.specs.Found.{wraps_of}
use Rattle.keyring_file.specs.KeyFile.{tree_of}
use Rattle.whole_input.specs.File.{IsFile}
use Rattle.esdk_report.specs.declared.failure.Failure.{Failure}
use Rattle.esdk_report.specs.declared.failure.Failure.TheVariants as failures
use Rattle.esdk_run.specs.FileReading.{FileFails, FileIs}
use Rattle.esdk_run.specs.Pairs.{GivesContext}

-- how a file's bytes are read: as one tree, of which what it means to its callers stands alone in a
-- list; or as a refusal
abbrev pub TreeReading : Type 0
TreeReading = List ℕ → Result (List KeyringMeaning) FileRefusal

-- How a run reads keyring files: as trees, with its plugs and without, and as what the leaves of
-- those with plugs mean; and what it gives back: what is left of the tree, where it read one.
pub record Trees : Type 0 where
  pub read : TreeReading
  pub plain : TreeReading
  pub leaves : TreeReading
  pub kept : Option KeyringMeaning

-- ---- what a file is

-- the file was read without a failure, and is read as this tree
abbrev pub TreeIs : TreeReading → ShelfState → ShelfState → (name : List ℕ) → KeyringMeaning
    → Type 0
TreeIs read old new name tree = FileIs read old new name (tree ∷ [])

-- The same, and its leaves mean this.
pub record TreeHas (trees : Trees) (old new : ShelfState) (name : List ℕ) (tree : KeyringMeaning)
    (leaves : List KeyringMeaning) : Type 0 where
  pub bytes : List ℕ
  pub file : IsFile old new name bytes
  pub is : trees.read bytes ≡ Ok (tree ∷ [])
  pub leaves_are : trees.leaves bytes ≡ Ok leaves

-- ---- what a tree keeps

-- What every tree keeps: as many of the keys that it tells wrap as it makes entries, and it makes
-- at most 64.
pub record IsLawful (tree : KeyringMeaning) : Type 0 where
  pub told : IfSome tree.keys (λ keys. length (active keys) ≡ tree.wraps)
  pub few : tree.wraps ≤ 64

-- What a run leaves of a tree: all that it tells and means, but for the count of its failures. That
-- never falls, and of a steady tree it stays.
pub record TreeGoes (old new : KeyringMeaning) : Type 0 where
  pub keys : new.keys ≡ old.keys
  pub wraps : new.wraps ≡ old.wraps
  pub refuses : new.refuses_none ≡ old.refuses_none
  pub steady : new.steady ≡ old.steady
  pub later : old.faults ≤ new.faults
  pub still : old.steady ≡ true → Stayed old.faults new.faults

-- ---- what a run has

-- The words give a context, the keyring file is read as a tree, and what is left of that is given
-- back.
pub record HasTree (trees : Trees) (words : List PairWord) (name : List ℕ) (old new : ShelfState)
    (context : List KeyValue) (tree left : KeyringMeaning) : Type 0 where
  pub given : GivesContext words context
  pub file : TreeIs trees.read old new name tree
  pub lawful : IsLawful tree
  pub kept : trees.kept ≡ Some left
  pub goes : TreeGoes tree left

-- The words give a context, and the keyring file gives no tree for this reason.
pub record HasNoTree (trees : Trees) (words : List PairWord) (name : List ℕ) (old new : ShelfState)
    (failure : Failure) : Type 0 where
  pub context : List KeyValue
  pub given : GivesContext words context
  pub cause : FileFails trees.read old new name failure

-- Memory ran out before there was a tree: for the words' pairs, and then no file was read, which
-- `unread` says; or for the keyring file, behind them.
abbrev pub TreeLacksMemory : Trees → List PairWord → (name : List ℕ) → (old new : ShelfState)
    → (unread : Type 0) → Type 0
TreeLacksMemory trees words name old new unread =
    unread ⊎ HasNoTree trees words name old new failures.Memory

-- What a run leaves that ends before it has a tree: these things are as before, and no tree is
-- given back.
pub record IsUntouched (trees : Trees) (unchanged : Type 0) : Type 0 where
  pub same : unchanged
  pub none : trees.kept ≡ None

-- ---- the trees of a run that was handed these plugs

abbrev pub means : {P : Type 0} → (P → KeyringMeaning) → Result (Forest P) FileRefusal
    → Result (List KeyringMeaning) FileRefusal
means meaning (Ok forest) = Ok (meanings meaning forest)
means meaning (Err refusal) = Err refusal

-- how files are read with these plugs, of which `meaning` says what they mean
abbrev pub reading : {P : Type 0} → (P → KeyringMeaning) → List (Plug P) → TreeReading
reading meaning plugs = λ bytes. means meaning (tree_of (wraps_of meaning) bytes plugs)

-- what the leaves of such a tree mean
abbrev pub leaves_mean : {P : Type 0} → (P → KeyringMeaning) → Result (Forest P) FileRefusal
    → Result (List KeyringMeaning) FileRefusal
leaves_mean meaning (Ok forest) = Ok (leaves meaning forest)
leaves_mean meaning (Err refusal) = Err refusal

abbrev pub leaf_reading : {P : Type 0} → (P → KeyringMeaning) → List (Plug P) → TreeReading
leaf_reading meaning plugs = λ bytes. leaves_mean meaning (tree_of (wraps_of meaning) bytes plugs)

-- and what is given back, where this tree is
abbrev pub trees_of : {P : Type 0} → (P → KeyringMeaning) → List (Plug P) → Option (Node P) → Trees
trees_of meaning plugs tree = record {
  read = reading meaning plugs;
  plain = reading meaning [];
  leaves = leaf_reading meaning plugs;
  kept = option_map (tree_meaning meaning) tree;
}
