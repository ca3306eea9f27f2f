-- What resealing comes to over managers that are exact and tell their wrapping keys, that of the
-- old message not failing and that of the new one plain: the judgement is determined by the bytes,
-- the keys and the pairs, and the new message by what is released, the other keys and the bytes
-- drawn.
use Rattle.std.specs.Prelude.{ℕ, List, length, None}
use Rattle.keyring_trait.specs.Manager.{ManagerMeaning}
use Rattle.keyring_trait.specs.Wrapping.{WrapKeyValue, active}
use Rattle.esdk_encrypt.specs.Told.{asked_told as encryption_told}
use Rattle.esdk_decrypt.specs.Told.{Reader, decrypting_by}
use Rattle.reseal_core.specs.Reseal.{Resealing}

-- what this reader opens is sealed by a manager that meant this before and that after it, and tells
-- these keys
abbrev pub resealing_told : Reader → List WrapKeyValue → ManagerMeaning → ManagerMeaning → ℕ
    → Resealing
resealing_told reader keys old new size = record {
  opening = decrypting_by reader;
  wraps = length (active keys);
  gives = λ request random materials. (encryption_told keys old new request size None).gives random
      materials;
  gives_none = λ request error. (encryption_told keys old new request size None).gives_none error;
  size = size;
}
