-- What a told file holds is what was read.
use Rattle.std.proofs.Common.{◌≡◌, ◌≤◌, ◌∙◌, ℕ, List, [], ◌∷◌, length, true, Some, None, Ok, Err, inl, inr, sym, ap, arith}
use Rattle.std.specs.declared.option.Option.{Option}
use Rattle.std.specs.declared.result.Result.{Result}
use Rattle.std.specs.Prelude.{◌⊎◌}
use Rattle.esdk_fields.specs.Counts.{Stayed}
use Rattle.esdk_base.specs.Shelf.{Files, Holds, is_missing}
use Rattle.esdk_base.specs.Streams.{FailsToRead, ShelfState}
use Rattle.esdk_fields.specs.declared.refusals.FileRefusal.{FileRefusal}
use Rattle.esdk_fields.specs.declared.refusals.FileRefusal.TheVariants.{FileTooLong}
use Rattle.keyring_trait.specs.Keyring.{KeyringMeaning}
use Rattle.whole_input.specs.File.{IsUnread, most_file, IsLong}
use Rattle.esdk_run.specs.FileReading.{FileIs, RefusesFile}
use Rattle.esdk_run.specs.Told.{HoldsTree}
use Rattle.esdk_run.specs.Trees.{TreeIs, Trees}

-- what was read of a file is what it holds
pub file_is_held : {A : Type 0} (read : List ℕ → Result A FileRefusal) (old new : ShelfState) (name bytes : List ℕ) (value held : A) → Holds old.files name bytes → read bytes ≡ Ok held
    → FileIs read old new name value → value ≡ held
file_is_held {A = A} read old new name bytes value held holds is file =
    let same : Ok value ≡ Ok held = sym file.is ∙ ap read (sym (file.file.whole bytes holds)) ∙ is in cc

-- the tree that was read
pub tree_is_held : (trees : Trees) (old new : ShelfState) (name : List ℕ) (read held : KeyringMeaning) → HoldsTree trees old.files name held → TreeIs trees.read old new name read → read ≡ held
tree_is_held trees old new name read held holds is =
    let one : read ∷ [] ≡ held ∷ [] = file_is_held trees.read old new name holds.bytes (read ∷ []) (held ∷ []) holds.holds holds.is is in cc

-- a held file is there
held_is_there : (files : Option Files) (name bytes : List ℕ) → Holds files name bytes → is_missing files name ≡ true → ⊥
held_is_there None name bytes holds missing = absurd cc
held_is_there (Some files) name bytes holds missing = absurd cc

-- no read of it fails, unless the shelf does
pub no_read_fails : (old new : ShelfState) (name bytes : List ℕ) → Holds old.files name bytes → Stayed old.faults new.faults → FailsToRead old new name → ⊥
no_read_fails old new name bytes holds stayed (inl rose) = absurd (omega (arith, stayed, rose))
no_read_fails old new name bytes holds stayed (inr missing) = held_is_there old.files name bytes holds missing.0

-- it is read
pub held_is_read : (trees : Trees) (old new : ShelfState) (name : List ℕ) (tree : KeyringMeaning) → HoldsTree trees old.files name tree → Stayed old.faults new.faults → IsUnread old new name → ⊥
held_is_read trees old new name tree held stayed unread = no_read_fails old new name held.bytes held.holds stayed unread.cause

-- it isn't refused
pub not_refused : {A : Type 0} (read : List ℕ → Result A FileRefusal) (old new : ShelfState) (name bytes : List ℕ) (value : A) (refusal : FileRefusal) → Holds old.files name bytes
    → length bytes ≤ most_file → read bytes ≡ Ok value → (((refusal ≡ FileTooLong) × IsLong old new name) ⊎ RefusesFile read old new name refusal) → ⊥
not_refused read old new name bytes value refusal holds few is (inl long) = absurd (omega (arith, few, long.1.many bytes holds))
not_refused read old new name bytes value refusal holds few is (inr refused) =
    let same : Ok value ≡ Err refusal = sym is ∙ ap read (refused.file.whole bytes holds) ∙ refused.is in absurd cc

pub held_is_taken : (trees : Trees) (old new : ShelfState) (name : List ℕ) (tree : KeyringMeaning) (refusal : FileRefusal) → HoldsTree trees old.files name tree
    → (((refusal ≡ FileTooLong) × IsLong old new name) ⊎ RefusesFile trees.read old new name refusal) → ⊥
held_is_taken trees old new name tree refusal held refused =
    not_refused trees.read old new name held.bytes (tree ∷ []) refusal held.holds held.few held.is refused
