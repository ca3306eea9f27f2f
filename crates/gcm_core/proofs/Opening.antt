-- Opening, by what the comparison of the tags said.
use Rattle.std.proofs.Common.{◌≡◌, List, ℕ, Bool, cond, Some, None, refl}
use Rattle.std.specs.Str.{bytes_eq}
use Rattle.cipher_spec.specs.Gcm.{cipher_of, tag_of, opened}

-- where b says whether the tag is right, opening gives the text if it is, and else nothing
pub opened-same : (key iv aad cipher tag right : List ℕ) (b : Bool) → right ≡ tag_of key iv aad cipher → b ≡ bytes_eq right tag → opened key iv aad cipher tag ≡ cond b (Some (cipher_of key iv cipher)) None
unfolding opened
opened-same key iv aad cipher tag right b is same = rw (same, is) refl
