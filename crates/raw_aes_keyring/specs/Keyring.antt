-- What a raw AES keyring is to its callers.
-- AWS Encryption SDK Specification, "Raw AES Keyring", OnEncrypt and OnDecrypt.
use Rattle.std.specs.Prelude.{true, [], ◌∷◌, Some, None, if◌then◌else◌}
use Rattle.keyring_trait.specs.Wrapping.{WrapKeyValue}
use Rattle.keyring_trait.specs.Keyring.{KeyringMeaning}
use Rattle.keyring_trait.specs.Uses.{Fixed}
use Rattle.keyring_trait.specs.declared.ring_refusals.RingRefusal.TheVariants.{NoGenerator}

-- It tells its one wrapping key, by which each call goes, and never fails. Where the key isn't
-- retired, it makes one entry and refuses nothing; a retired key makes none, and refuses to
-- generate a data key.
abbrev pub raw_meaning : WrapKeyValue → KeyringMeaning
raw_meaning w = record {
  keys = Some (w ∷ []);
  wraps = if w.retired then 0 else 1;
  refuses_key = None;
  refuses_none = if w.retired then Some NoGenerator else None;
  faults = 0;
  steady = true;
  uses = Some (Fixed w ∷ []);
}
