-- A file of a shelf as a source.
use Rattle.std.specs.Prelude.{◌≡◌, ℕ, ◌+◌, ◌-◌, ◌^◌, ◌<◌, ◌≤◌, List, [], ◌∷◌, drop, true, false}
use Rattle.std.specs.Prelude.{Option, Some, None}
use Rattle.std.specs.FinMap.{get}
use Rattle.esdk_fields.specs.Counts.{Rose}
use Rattle.esdk_base.specs.Shelf.{Files, is_missing}
use Rattle.esdk_base.specs.Streams.{ShelfState}

-- What is left of a file from an offset on. Each read of a file that isn't there fails; it is seen
-- as one byte that no read gives, so that its end is never seen.
abbrev pub left_from : ℕ → Option (List ℕ) → List ℕ
left_from at (Some bytes) = drop at bytes
left_from at None = 0 ∷ []

-- where the shelf tells its files
abbrev pub file_left : Option Files → List ℕ → ℕ → Option (List ℕ)
file_left (Some files) name at = Some (left_from at (get files name))
file_left None name at = None

-- Between two moments of the source, at which it had come so far and had failed so often: the files
-- of the shelf are as they were, the shelf gave no more than was read, and where a read failed,
-- short of the offset 2^64 - 1, the shelf failed or has no file of the name.
pub record FileReadsOn (old new : ShelfState) (name : List ℕ) (at now_at before now : ℕ)
    : Type 0 where
  pub files : new.files ≡ old.files
  pub on : at ≤ now_at
  pub given : new.given ≤ old.given + (now_at - at)
  pub later : old.faults ≤ new.faults
  pub failures : before ≤ now
  pub absent : is_missing old.files name ≡ true → (now_at ≡ at) × (new.faults ≡ old.faults)
  pub failed : before < now → now_at < 2 ^ 64 - 1 → is_missing old.files name ≡ false
      → Rose old.faults new.faults
  pub same : now ≡ before → now < 2 ^ 64 - 1 → new.faults ≡ old.faults
