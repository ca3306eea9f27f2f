-- The tree that a run gives back is what is left of the one that it read.
use Rattle.std.proofs.Common.{◌≡◌, ◌⊎◌, ◌∙◌, ℕ, List, None, Some, Ok, inl, inr, refl, sym, subst}
use Rattle.esdk_fields.specs.Counts.{Stayed}
use Rattle.esdk_fields.specs.declared.refusals.Outside.TheVariants as outsides
use Rattle.esdk_args.specs.declared.pair_words.PairWord.{PairWord}
use Rattle.esdk_args.specs.declared.request.DecryptWords.{DecryptWords}
use Rattle.esdk_base.specs.Streams.{ShelfState}
use Rattle.context_codec.specs.Context.{KeyValue}
use Rattle.keyring_trait.specs.Keyring.{KeyringMeaning}
use Rattle.keyring_trait.specs.Wrapping.{WrapKeyValue}
use Rattle.esdk_decrypt.specs.declared.errors.DecryptError.TheVariants as errors
use Rattle.esdk_report.specs.declared.failure.Failure.{Failure}
use Rattle.esdk_report.specs.declared.failure.Failure.TheVariants as failures
use Rattle.esdk_run.specs.Decrypt.{DecryptFails, decrypt_asked}
use Rattle.esdk_run.specs.Objects.{Objects, Unchanged}
use Rattle.esdk_run.specs.Pairs.{context_in}
use Rattle.esdk_report.specs.Report.{Reports}
use Rattle.esdk_run.specs.Run.{DecryptRuns}
use Rattle.esdk_run.specs.Told.{ComesBack, GivesTree, HoldsTree, TreeWasReadAnd, IsLeft}
use Rattle.esdk_run.specs.Trees.{HasTree, TreeGoes, Trees}
use Rattle.esdk_run.proofs.Files.{held_is_read, held_is_taken, tree_is_held}
use Rattle.esdk_run.proofs.Given.{pairs_not_refused}
use Rattle.esdk_run.proofs.Reading.{Ending}
use Rattle.esdk_run.proofs.Statuses.{memory_status}

-- ---- what is given back is one tree

pub none_is_some : (trees : Trees) (left : KeyringMeaning) → trees.kept ≡ Some left → trees.kept ≡ None → ⊥
none_is_some trees left kept none = let same : Some left ≡ None = sym kept ∙ none in cc

pub one_left : (trees : Trees) (left other : KeyringMeaning) → trees.kept ≡ Some left → trees.kept ≡ Some other → left ≡ other
one_left trees left other kept is = let same : Some left ≡ Some other = sym kept ∙ is in cc

-- the keys that what is left tells were told before
pub told_then : (trees : Trees) (tree left other : KeyringMeaning) (keys : List WrapKeyValue) → TreeGoes tree left → trees.kept ≡ Some left → trees.kept ≡ Some other → other.keys ≡ Some keys
    → tree.keys ≡ Some keys
told_then trees tree left other keys goes kept is told = sym goes.keys ∙ (λ i. (one_left trees left other kept is i).keys) ∙ told

pub left_is : (trees : Trees) (words : List PairWord) (name : List ℕ) (old new : ShelfState) (context : List KeyValue) (tree left other : KeyringMeaning)
    → HasTree trees words name old new context tree left → trees.kept ≡ Some other → IsLeft trees name old new other
left_is trees words name old new context tree left other has kept =
    subst (λ (l : KeyringMeaning). IsLeft trees name old new l) (one_left trees left other has.kept kept) (record { tree = tree; file = has.file; goes = has.goes })

-- the tree that a shelf told comes back
pub gives_held : (trees : Trees) (words : List PairWord) (name : List ℕ) (old new : ShelfState) (context : List KeyValue) (tree left held : KeyringMeaning)
    → HoldsTree trees old.files name held → HasTree trees words name old new context tree left → GivesTree trees held
gives_held trees words name old new context tree left held holds has =
    (left, has.kept, subst (λ (t : KeyringMeaning). TreeGoes t left) (tree_is_held trees old new name tree held holds has.file) has.goes)

-- where the run had a tree, this is so where none of its keyrings failed
pub if_none_failed : (trees : Trees) (words : List PairWord) (name : List ℕ) (old new : ShelfState) (context : List KeyValue) (tree left : KeyringMeaning) (So : Type 0)
    → HasTree trees words name old new context tree left → (Stayed tree.faults left.faults → So) → TreeWasReadAnd trees name old new So
if_none_failed trees words name old new context tree left So has so = (tree, has.file, record { left = left; kept = has.kept; goes = has.goes; so = so })

-- ---- of `decrypt`

-- The run read a tree, and the decryption with it ended so.
pub record HadTree (trees : Trees) (asked : DecryptWords) (before after : Objects) (unwritten : Type 0) (code : ℕ) : Type 0 where
  pub given : List KeyValue
  pub tree : KeyringMeaning
  pub left : KeyringMeaning
  pub has : HasTree trees asked.pairs asked.keyring before.shelf after.shelf given tree left
  pub ended : Ending asked.armour (decrypt_asked asked given tree left) before after unwritten code

failed_with : (trees : Trees) (asked : DecryptWords) (before after : Objects) (unchanged : Unchanged) (code : ℕ) (left : KeyringMeaning)
    (failure : Failure) → trees.kept ≡ Some left → DecryptFails trees asked before after unchanged failure → Reports failure code before.report after.report
    → HadTree trees asked before after unchanged.output code
failed_with trees asked before after unchanged code left failures.NotRead kept fails said = absurd fails
failed_with trees asked before after unchanged code left (failures.BadNumber option) kept fails said = absurd fails
failed_with trees asked before after unchanged code left (failures.BadPair number) kept fails said = absurd fails
failed_with trees asked before after unchanged code left (failures.Fault fault) kept fails said =
    record { given = fails.given; tree = fails.tree; left = fails.left; has = fails.has; ended = inr (errors.Fault fault, fails.ended, said) }
failed_with trees asked before after unchanged code left (failures.File refusal) kept fails said = absurd (none_is_some trees left kept fails.1.none)
failed_with trees asked before after unchanged code left (failures.Outside outsides.ShelfFault) kept fails said =
    absurd (none_is_some trees left kept fails.1.none)
failed_with trees asked before after unchanged code left (failures.Outside outside) kept fails said =
    record { given = fails.given; tree = fails.tree; left = fails.left; has = fails.has; ended = inr (errors.Outside outside, fails.ended, said) }
failed_with trees asked before after unchanged code left (failures.Refusal refusal) kept fails said = absurd (none_is_some trees left kept fails.1.none)
failed_with trees asked before after unchanged code left failures.Memory kept (inl none) said = absurd (none_is_some trees left kept none.1.none)
failed_with trees asked before after unchanged code left failures.Memory kept (inr fails) said =
    record { given = fails.given; tree = fails.tree; left = fails.left; has = fails.has; ended = inr (errors.Memory, fails.ended, said) }

pub had_tree : (trees : Trees) (asked : DecryptWords) (before after : Objects) (unchanged : Unchanged) (code : ℕ) (left : KeyringMeaning)
    → trees.kept ≡ Some left → DecryptRuns trees asked before after unchanged code → HadTree trees asked before after unchanged.output code
had_tree trees asked before after unchanged code left kept (inl done) = record {
  given = done.done.given;
  tree = done.done.tree;
  left = done.done.left;
  has = done.done.has;
  ended = inl (done.context, done.done.done, done.told);
}
had_tree trees asked before after unchanged code left kept (inr fails) =
    failed_with trees asked before after unchanged code left fails.failure kept fails.because fails.said

fails_back : (trees : Trees) (asked : DecryptWords) (before after : Objects) (unchanged : Unchanged) (code : ℕ) (failure : Failure)
    (context : List KeyValue) (tree : KeyringMeaning) → context_in asked.pairs ≡ Ok context → HoldsTree trees before.shelf.files asked.keyring tree
    → Stayed before.shelf.faults after.shelf.faults → DecryptFails trees asked before after unchanged failure → Reports failure code before.report after.report
    → (code ≡ 5) ⊎ GivesTree trees tree
fails_back trees asked before after unchanged code failures.NotRead context tree is holds stayed fails said = absurd fails
fails_back trees asked before after unchanged code (failures.BadNumber option) context tree is holds stayed fails said = absurd fails
fails_back trees asked before after unchanged code (failures.BadPair number) context tree is holds stayed fails said = absurd fails
fails_back trees asked before after unchanged code (failures.Fault fault) context tree is holds stayed fails said =
    inr (gives_held trees _ _ _ _ _ fails.tree fails.left tree holds fails.has)
fails_back trees asked before after unchanged code (failures.File refusal) context tree is holds stayed fails said =
    absurd (held_is_taken trees before.shelf after.shelf asked.keyring tree refusal holds fails.0.cause)
fails_back trees asked before after unchanged code (failures.Outside outsides.ShelfFault) context tree is holds stayed fails said =
    absurd (held_is_read trees before.shelf after.shelf asked.keyring tree holds stayed fails.0.cause)
fails_back trees asked before after unchanged code (failures.Outside outside) context tree is holds stayed fails said =
    inr (gives_held trees _ _ _ _ _ fails.tree fails.left tree holds fails.has)
fails_back trees asked before after unchanged code (failures.Refusal refusal) context tree is holds stayed fails said =
    absurd (pairs_not_refused asked.pairs context refusal is fails.0.refused)
fails_back trees asked before after unchanged code failures.Memory context tree is holds stayed fails said =
    inl (memory_status failures.Memory code before.report after.report refl said)

pub decrypt_comes_back : (trees : Trees) (asked : DecryptWords) (before after : Objects) (unchanged : Unchanged) (code : ℕ)
    → DecryptRuns trees asked before after unchanged code → ComesBack trees asked.pairs asked.keyring before.shelf after.shelf code
decrypt_comes_back trees asked before after unchanged code runs = record {
  read = λ left kept.
      let had = had_tree trees asked before after unchanged code left kept runs in
      left_is trees _ _ _ _ _ had.tree had.left left had.has kept;
  held = λ context tree is holds stayed. elim runs [
    | inl done ↦ inr (gives_held trees _ _ _ _ _ done.done.tree done.done.left tree holds done.done.has)
    | inr fails ↦ fails_back trees asked before after unchanged code fails.failure context tree is holds stayed fails.because fails.said
  ];
}
