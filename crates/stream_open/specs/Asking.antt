-- What is heard of a cryptographic materials manager that is asked about a header.
-- AWS Encryption SDK Specification, "Decrypt", "Get the decryption materials".
use Rattle.std.specs.Prelude.{◌≡◌, ◌⊎◌, ℕ, List, Option, Some, None}
use Rattle.esdk_fields.specs.declared.faults.Fault.{Fault}
use Rattle.context_codec.specs.Context.{KeyValue}
use Rattle.header_codec.specs.Header.{HeaderValue}
use Rattle.keyring_trait.specs.declared.manager_errors.ManagerError.TheVariants as managers
use Rattle.keyring_trait.specs.declared.served.Served.{Served}
use Rattle.keyring_trait.specs.Materials.{DecMaterialsValue}
use Rattle.keyring_trait.specs.Saying.{Saying}
pub use Rattle.message_format.specs.Unlocking.{request_of, BearsHeard}

-- What a step hears from the manager: nothing, the materials that it found, the fault that it
-- named, or that it failed.
pub data Heard : Type 0 where
  Nothing : Heard
  Found : (materials : DecMaterialsValue) → Heard
  Named : (fault : Fault) → Heard
  Failed : Heard

-- It is heard about this header at this moment, where one is asked about; nothing is heard where
-- none is, or where memory ran out.
abbrev pub IsHeard : Saying → ℕ → List KeyValue → Option HeaderValue → Type 0 → Heard → Type 0
IsHeard manager now given asked short Nothing = (asked ≡ None) ⊎ short
IsHeard manager now given asked short (Found materials) =
    (h : HeaderValue) × (asked ≡ Some h) × manager.finds (request_of given h) now materials
IsHeard manager now given asked short (Named fault) =
    (h : HeaderValue) × (asked ≡ Some h)
    × manager.finds_none (request_of given h) (managers.Fault fault)
IsHeard manager now given asked short Failed =
    (h : HeaderValue) × (asked ≡ Some h)
    × manager.finds_none (request_of given h) managers.KeyringFault

-- how the materials were served, where there are any
abbrev pub served_in : Heard → Option Served
served_in Nothing = None
served_in (Found materials) = Some materials.served
served_in (Named fault) = None
served_in Failed = None
