-- What the laws of this crate say of the suites, and of the keys that are derived.
use Rattle.std.specs.Prelude.{◌≡◌, ◌<◌, ◌↔◌, ℕ, List, length, All, Some}
use Rattle.suite_table.specs.declared.suite.Suite.{Suite}
use Rattle.suite_table.specs.Suites.{suite_id, suite_with}
use Rattle.suite_table.specs.Keys.{key_length}

-- Each has 32 bytes.
abbrev pub HaveKeyLength : (List ℕ → List ℕ → List ℕ) → Type 0
HaveKeyLength made = (key id : List ℕ) → length (made key id) ≡ key_length

-- Each is made of bytes.
abbrev pub AreMadeOfBytes : (List ℕ → List ℕ → List ℕ) → Type 0
AreMadeOfBytes made = (key id : List ℕ) → All (λ b. b < 256) (made key id)

-- A suite is found by its own id, and by no other.
abbrev pub AreFoundById : Type 0
AreFoundById = (id : ℕ) (suite : Suite) → (suite_with id ≡ Some suite) ↔ (id ≡ suite_id suite)
