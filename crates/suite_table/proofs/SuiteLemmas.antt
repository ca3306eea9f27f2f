-- A suite is found by its own id, and by no other.
use Rattle.std.proofs.Common.{◌≡◌, ℕ, Bool, true, false, eqb, Some, None, refl, ◌∙◌, ap}
use Rattle.std.specs.Prelude.{if◌then◌else◌}
use Rattle.std.proofs.lemmas.Bool.{eqb-true}
use Rattle.suite_table.specs.declared.suite.Suite.{Suite}
use Rattle.suite_table.specs.declared.suite.Suite.TheVariants.{Committing, Uncommitted}
use Rattle.suite_table.specs.Suites.{suite_id, suite_with}

found_by : (first second : Bool) (id : ℕ) (suite : Suite) → eqb id 0x0478 ≡ first → eqb id 0x0178 ≡ second
    → (if first then Some Committing else if second then Some Uncommitted else None) ≡ Some suite → id ≡ suite_id suite
found_by true second id Committing one two e = eqb-true id 0x0478 one
found_by true second id Uncommitted one two e = absurd cc
found_by false true id Committing one two e = absurd cc
found_by false true id Uncommitted one two e = eqb-true id 0x0178 two
found_by false false id suite one two e = absurd cc

pub found_has_id : (id : ℕ) (suite : Suite) → suite_with id ≡ Some suite → id ≡ suite_id suite
found_has_id id suite e = found_by (eqb id 0x0478) (eqb id 0x0178) id suite refl refl e

pub found_by_own_id : (suite : Suite) → suite_with (suite_id suite) ≡ Some suite
found_by_own_id Committing = refl
found_by_own_id Uncommitted = refl

pub is_found_by_id : (id : ℕ) (suite : Suite) → id ≡ suite_id suite → suite_with id ≡ Some suite
is_found_by_id id suite e = ap suite_with e ∙ found_by_own_id suite
