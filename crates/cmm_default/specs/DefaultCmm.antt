-- What the default materials manager is to its callers, over a keyring.
-- AWS Encryption SDK Specification, "Default CMM".
use Rattle.std.specs.Prelude.{◌≡◌, ℕ, true, List, [], ⊤, Option, Some, None, Ok}
use Rattle.context_codec.specs.Parts.{whole_of}
use Rattle.keyring_trait.specs.Keyring.{KeyringMeaning, FindsBy, WrapsBy}
use Rattle.keyring_trait.specs.Manager.{AllDirect, ManagerMeaning, ManagerNow}
use Rattle.keyring_trait.specs.Materials.{DecMaterialsValue, EncMaterialsValue}
use Rattle.keyring_trait.specs.Requests.{DecRequestValue, EncRequestValue}
use Rattle.keyring_trait.specs.Uses.{AskedOnce, KeyUse}
use Rattle.keyring_trait.specs.Wrapping.{WrapKeyValue}

-- It wraps, refuses and fails as its keyring does, draws each data key for the request, has no
-- cache, and requires no key by itself.
abbrev pub default_meaning : KeyringMeaning → ManagerMeaning
default_meaning ring = record {
  wraps = ring.wraps;
  refuses = ring.refuses_none;
  faults = ring.faults;
  steady = ring.steady;
  fresh = true;
  plain = true;
  demands = [];
}

-- it tells the wrapping keys that its keyring tells
abbrev pub default_tells : KeyringMeaning → List WrapKeyValue → Type 0
default_tells ring keys = ring.keys ≡ Some keys

-- The keyring was asked once, and the entries are what the keys that it went by made of the data
-- key, over the context of the request, with these random bytes.
abbrev pub default_gave : KeyringMeaning → Option (List KeyUse) → EncRequestValue → List ℕ
    → EncMaterialsValue → Type 0
default_gave ring before request random made =
    AskedOnce before ring.uses
    (WrapsBy ring.wraps request.context random None
    (Ok (record { key = made.key; entries = made.entries })))

-- It was asked once, and the data key is the one that the first opens of the keys that it went by,
-- over the whole context.
abbrev pub default_found : KeyringMeaning → Option (List KeyUse) → DecRequestValue
    → DecMaterialsValue → Type 0
default_found ring before request found =
    AskedOnce before ring.uses
    (FindsBy (whole_of request.stored request.given) request.entries (Ok (Some found.key)))

-- It is exact. It bears what was served directly, and so is all that it serves. It keeps nothing,
-- so that each answer is what its keyring gave in the call.
abbrev pub default_now : KeyringMeaning → ManagerNow
default_now ring = record {
  meaning = default_meaning ring;
  tells = default_tells ring;
  exact = ⊤;
  bears = AllDirect;
  within = AllDirect;
  uses = ring.uses;
  gave = λ before request _ random made. default_gave ring before request random made;
  found = λ before request _ found. default_found ring before request found;
}
