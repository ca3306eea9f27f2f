-- What a command has that seals or opens, before it begins; or why it doesn't begin.
use Rattle.std.specs.Prelude.{◌≡◌, ℕ, List}
use Rattle.esdk_args.specs.declared.pair_words.PairWord.{PairWord}
use Rattle.esdk_base.specs.Streams.{ShelfState}
use Rattle.esdk_fields.specs.declared.refusals.Outside.TheVariants as outsides
use Rattle.context_codec.specs.Context.{KeyValue}
use Rattle.esdk_report.specs.declared.failure.Failure.{Failure}
use Rattle.esdk_report.specs.declared.failure.Failure.TheVariants as failures
use Rattle.keyring_trait.specs.Keyring.{KeyringMeaning}
use Rattle.esdk_run.specs.Pairs.{GivesContext, RefusesWordPairs, required_in}
use Rattle.esdk_run.specs.Trees.{HasNoTree, IsLawful, TreeIs, TreeLacksMemory, Trees}

-- The words give this context and require these keys, and the keyring file is read as this tree.
pub record IsPrepared (trees : Trees) (words : List PairWord) (name : List ℕ) (old new : ShelfState)
    (context : List KeyValue) (required : List (List ℕ)) (tree : KeyringMeaning) : Type 0 where
  pub given : GivesContext words context
  pub keys : required ≡ required_in words
  pub file : TreeIs trees.read old new name tree
  pub lawful : IsLawful tree

-- Why a command doesn't begin: its pairs are refused, and then no file was read, which `unread`
-- says; or else the keyring file gives no tree. Memory runs out for the pairs, with no file read,
-- or for that file.
abbrev pub IsNotPrepared : Trees → List PairWord → List ℕ → ShelfState → ShelfState → Type 0
    → Failure → Type 0
IsNotPrepared trees words name old new unread (failures.Refusal refusal) =
    RefusesWordPairs words refusal unread
IsNotPrepared trees words name old new unread (failures.File refusal) =
    HasNoTree trees words name old new (failures.File refusal)
IsNotPrepared trees words name old new unread (failures.Outside outsides.ShelfFault) =
    HasNoTree trees words name old new (failures.Outside outsides.ShelfFault)
IsNotPrepared trees words name old new unread failures.Memory =
    TreeLacksMemory trees words name old new unread
IsNotPrepared trees words name old new unread failure = ⊥
