-- What the keyring keeps, the default manager keeps.
use Rattle.std.proofs.Common.{◌≡◌, true, arith, refl, ◌∙◌, sym}
use Rattle.esdk_fields.specs.Counts.{Stayed}
use Rattle.keyring_trait.specs.Keyring.{KeyringMeaning, KeyringGoes}
use Rattle.keyring_trait.specs.Manager.{Went}
use Rattle.cmm_default.specs.DefaultCmm.{default_now}

pub went_default : (old new : KeyringMeaning) → KeyringGoes old new → Went (default_now old) (default_now new)
went_default old new goes = record {
  goes = record {
    wraps = goes.wraps;
    refuses = goes.refuses_none;
    steady = goes.steady;
    fresh = refl;
    plain = refl;
    demands = refl;
    later = goes.later;
    still = goes.still;
  };
  tells = λ keys told. goes.keys ∙ told;
  same = λ _ keys told. sym goes.keys ∙ told;
  exact = λ x. x;
  limits = λ lines within. within;
}

-- A keyring that isn't asked goes on as it is.
pub went_unasked : (ring : KeyringMeaning) → (ring.steady ≡ true → Stayed ring.faults ring.faults) → Went (default_now ring) (default_now ring)
went_unasked ring steady = went_default ring ring (record {
  keys = refl;
  wraps = refl;
  refuses_key = refl;
  refuses_none = refl;
  steady = refl;
  later = omega arith;
  still = steady;
})
