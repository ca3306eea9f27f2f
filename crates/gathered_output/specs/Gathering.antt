-- What a receiver gains of bytes that are gathered before it.
use Rattle.std.specs.Prelude.{◌≡◌, ℕ, ◌≤◌, List, ◌++◌, length, Result, Ok, Err}
use Rattle.gathered_output.specs.declared.gathering.Gathering.{Gathering}

-- Behind the bytes that were held these came: of all of them the receiver took some that come
-- first, and the others are held now.
pub record Gathers {R : Type 0} (takes : R → R → List ℕ → Type 0) (old new : R)
    (before after bytes : List ℕ) : Type 0 where
  pub handed : List ℕ
  pub took : takes old new handed
  pub left : before ++ bytes ≡ handed ++ after

-- The receiver failed while it was given some of these bytes that come first.
pub record FailsAtFirst {R E : Type 0} (fails : R → R → List ℕ → E → Type 0) (old new : R)
    (bytes : List ℕ) (error : E) : Type 0 where
  pub given : List ℕ
  pub rest : List ℕ
  pub some : 1 ≤ length given
  pub is : bytes ≡ given ++ rest
  pub failed : fails old new given error

-- The receiver took these bytes, which may be none, or it failed at them.
abbrev pub HandsOn : {R E T : Type 0} → (R → R → List ℕ → Type 0) → (R → R → List ℕ → E → Type 0)
    → List ℕ → R → R → Result T E → Type 0
HandsOn takes fails bytes old new (Ok done) = takes old new bytes
HandsOn takes fails bytes old new (Err error) = (1 ≤ length bytes) × fails old new bytes error

-- ---- between two moments of a gathering receiver

-- it has the same receiver before it, and the same bytes in its hands, changed or not
pub record IsSameGathering {R : Type 0} (old new : Gathering R) : Type 0 where
  pub output : new.output.ghost_name ≡ old.output.ghost_name
  pub gathered : new.gathered.ghost_name ≡ old.gathered.ghost_name

-- it took these bytes
abbrev pub GatheringTakes : {R : Type 0} → (R → R → List ℕ → Type 0) → Gathering R → Gathering R
    → List ℕ → Type 0
GatheringTakes takes old new bytes =
    IsSameGathering old new
    × Gathers takes old.output.now new.output.now old.gathered.now new.gathered.now bytes

-- the receiver before it failed
abbrev pub GatheringFails : {R E : Type 0} → (R → R → List ℕ → E → Type 0) → Gathering R
    → Gathering R → List ℕ → E → Type 0
GatheringFails fails old new bytes error =
    IsSameGathering old new
    × FailsAtFirst fails old.output.now new.output.now (old.gathered.now ++ bytes) error
