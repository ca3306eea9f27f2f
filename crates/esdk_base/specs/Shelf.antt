-- The files of a shelf, and what its calls do to them.
use Rattle.std.specs.Prelude.{◌≡◌, ◌⊎◌, ℕ, ◌+◌, ◌<◌, ◌≤◌, List, [], ◌++◌, length, take, drop, Bool}
use Rattle.std.specs.Prelude.{true, false, is_none, IfOk, IsErr, OnOk, OnErr, Result, MatchResult}
use Rattle.std.specs.declared.option.Option.{Option}
use Rattle.std.specs.declared.option.Option.TheVariants.{None, Some}
use Rattle.std.specs.Option.{option_and_then, option_map, option_map_or}
use Rattle.std.specs.Cmp.Lexicographic.{slice_cmp}
use Rattle.std.specs.Ordering.{nat_cmp}
use Rattle.std.specs.FinMap.{FinMap, get, insert}
use Rattle.esdk_fields.specs.Counts.{Rose}

-- Files: a finite map from the names, as bytes of text, to the bytes that they hold.
abbrev pub Files : Type 0
Files = FinMap (slice_cmp nat_cmp) (List ℕ)

-- the files once the name holds no bytes, whether it was there or not
abbrev pub created : Files → List ℕ → Files
created files name = insert files name []

-- the files once these bytes were appended to the name; where it isn't there, as they were
unfoldable pub appended : Files → List ℕ → List ℕ → Files
appended files name bytes = option_map_or (λ before. insert files name (before ++ bytes))
    (get files name) files

-- what the name holds, where the files are told and the name is there
abbrev pub file_of : Option Files → List ℕ → Option (List ℕ)
file_of told name = option_and_then (λ files. get files name) told

-- the files are told, and the name holds just these bytes
abbrev pub Holds : Option Files → List ℕ → List ℕ → Type 0
Holds told name bytes = file_of told name ≡ Some bytes

-- the files are told, and the name isn't there
abbrev pub is_missing : Option Files → List ℕ → Bool
is_missing None name = false
is_missing (Some files) name = is_none (get files name)

-- A read or an append fails where the name is missing, and leaves the count then. Else it fails
-- only where the count of faults rose.
pub record HasCauseOrMissing {T E : Type 0} (missing : Bool) (before now : ℕ)
    (result : Result T E) : Type 0 where
  pub later : before ≤ now
  pub failed : missing ≡ false → OnErr result (Rose before now)
  pub same : OnOk result (now ≡ before)
  pub absent : missing ≡ true → IsErr result
  pub uncounted : missing ≡ true → now ≡ before

-- Ok(n) put the first n of the bytes that stand from the offset on into the front of out, where the
-- files are told and the name is there
abbrev pub ReadsFrom : {E : Type 0} → Option Files → Result ℕ E → List ℕ → ℕ → List ℕ → Type 0
ReadsFrom told result name at out =
    IfOk result (λ n. (bytes : List ℕ) → Holds told name bytes
    → drop at bytes ≡ take n out ++ drop (at + n) bytes)

-- Ok(0) comes only at the end of what the name holds, past it, or with no room
abbrev pub EndsAt : {E : Type 0} → Option Files → Result ℕ E → List ℕ → ℕ → List ℕ → Type 0
EndsAt told result name at out =
    IfOk result (λ n. (bytes : List ℕ) → Holds told name bytes → n ≡ 0 → 0 < length out
    → drop at bytes ≡ [])

-- Ok made the name hold no bytes, and an error did that or nothing
abbrev pub Creates : {T E : Type 0} → Option Files → Option Files → Result T E → List ℕ → Type 0
Creates old new result name =
    let after : Option Files = option_map (λ files. created files name) old in
    MatchResult result (λ _. new ≡ after) (λ _. (new ≡ old) ⊎ (new ≡ after))

-- Ok appended all the bytes to the name, and an error a front of them; where it isn't there, all
-- stays
abbrev pub AppendsTo : {T E : Type 0} → Option Files → Option Files → Result T E → List ℕ → List ℕ
    → Type 0
AppendsTo old new result name bytes =
    let after : List ℕ → Option Files =
    λ more. option_map (λ files. appended files name more) old in
    MatchResult result (λ _. new ≡ after bytes) (λ _. (n : ℕ) × (new ≡ after (take n bytes)))
