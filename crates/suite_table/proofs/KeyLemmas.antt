-- The length and the bytes of the keys that are derived.
use Rattle.std.proofs.Common.{◌≡◌, ◌<◌, ℕ, List, [], length}
use Rattle.std.specs.Prelude.{All}
use Rattle.cipher_spec.proofs.HkdfLemmas.{length-hkdf256, length-hkdf512, bytes-hkdf256, bytes-hkdf512}
use Rattle.suite_table.specs.declared.suite.Suite.{Suite}
use Rattle.suite_table.specs.declared.suite.Suite.TheVariants.{Committing, Uncommitted}
use Rattle.suite_table.specs.Keys.{derived, commitment}

pub length-derived : (suite : Suite) (key id : List ℕ) → length (derived suite key id) ≡ 32
unfolding derived
length-derived Committing key id = length-hkdf512 key id _ 32
length-derived Uncommitted key id = length-hkdf256 key [] _ 32

pub bytes-derived : (suite : Suite) (key id : List ℕ) → All (λ b. b < 256) (derived suite key id)
unfolding derived
bytes-derived Committing key id = bytes-hkdf512 key id _ 32
bytes-derived Uncommitted key id = bytes-hkdf256 key [] _ 32

pub length-commitment : (key id : List ℕ) → length (commitment key id) ≡ 32
unfolding commitment
length-commitment key id = length-hkdf512 key id _ 32

pub bytes-commitment : (key id : List ℕ) → All (λ b. b < 256) (commitment key id)
unfolding commitment
bytes-commitment key id = bytes-hkdf512 key id _ 32
