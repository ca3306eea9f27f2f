-- What sealing a unit gives: as many bytes as its content has, a tag of 16 bytes, and what opens again.
use Rattle.std.proofs.Common.{◌≡◌, ℕ, List, length, Some, refl}
use Rattle.cipher_spec.specs.Gcm.{cipher_of, sealed, opened}
use Rattle.cipher_spec.proofs.GcmLemmas.{length-cipher_of, length-tag_of, opened_from_sealed}

pub length-sealed_cipher : (key iv aad text : List ℕ) → length (sealed key iv aad text).0 ≡ length text
unfolding sealed
length-sealed_cipher key iv aad text = length-cipher_of key iv text

pub length-sealed_tag : (key iv aad text : List ℕ) → length (sealed key iv aad text).1 ≡ 16
unfolding sealed
length-sealed_tag key iv aad text = length-tag_of key iv aad (cipher_of key iv text)

pub opened-sealed : (key iv aad text : List ℕ) → opened key iv aad (sealed key iv aad text).0 (sealed key iv aad text).1 ≡ Some text
opened-sealed key iv aad text = opened_from_sealed key iv aad text (sealed key iv aad text).0 (sealed key iv aad text).1 refl
