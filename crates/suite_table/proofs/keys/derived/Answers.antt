-- What is derived under each suite.
use Rattle.std.proofs.Common.{rules}
use Rattle.cipher_spec.specs.Hkdf.{hkdf, hkdf512}
use Rattle.suite_table.specs.Keys.{derived}
use Rattle.suite_table.proofs.keys.derived.Goals as goal

pub returns-in-Committing : goal.returns-in-Committing
unfolding derived hkdf512 hkdf
returns-in-Committing c = search rules

pub returns-in-Uncommitted : goal.returns-in-Uncommitted
unfolding derived
returns-in-Uncommitted c = search rules
