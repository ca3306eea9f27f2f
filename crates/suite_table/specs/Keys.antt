-- What a suite derives from a data key, by HKDF (RFC 5869) whose input is the data key. Standard:
-- AWS Encryption SDK Specification, "Supported algorithm suites".
use Rattle.std.specs.Prelude.{ℕ, List, [], ◌∷◌, ◌++◌, codes}
use Rattle.cipher_spec.specs.Hkdf.{hkdf256, hkdf512}
use Rattle.suite_table.specs.declared.suite.Suite.{Suite}
use Rattle.suite_table.specs.declared.suite.Suite.TheVariants.{Committing, Uncommitted}

-- the length of a derived key, and of a commitment
abbrev pub key_length : ℕ
key_length = 32

-- "Encryption Key": the key under which the header's tag and the body stand, of the suite, the data
-- key and the message id. Suite 0x0478: HKDF with SHA-512, the salt is the message id, and the info
-- the suite's id and DERIVEKEY. Suite 0x0178: HKDF with SHA-256, no salt, and the info the suite's
-- id and the message id.
unfoldable pub derived : Suite → List ℕ → List ℕ → List ℕ
derived Committing key id = hkdf512 key id (0x04 ∷ 0x78 ∷ [] ++ codes "DERIVEKEY") key_length
derived Uncommitted key id = hkdf256 key [] (0x01 ∷ 0x78 ∷ [] ++ id) key_length

-- "Commit Key": the commitment to the data key under suite 0x0478, of the data key and the message
-- id. HKDF with SHA-512, the salt is the message id, and the info COMMITKEY.
unfoldable pub commitment : List ℕ → List ℕ → List ℕ
commitment key id = hkdf512 key id (codes "COMMITKEY") key_length
