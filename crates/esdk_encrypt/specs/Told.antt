-- What encrypting comes to over a manager that is exact and plain, and tells its wrapping keys: the
-- message is determined by the request, the keys and the bytes drawn.
use Rattle.std.specs.Prelude.{◌≡◌, ℕ, List, length, take, drop, ⊤, Option, Some, None}
use Rattle.esdk_fields.specs.Counts.{Rose}
use Rattle.esdk_fields.specs.declared.refusals.Refusal.{Refusal}
use Rattle.context_codec.specs.Context.{KeyValue}
use Rattle.context_codec.specs.KeySet.{with_keys}
use Rattle.keyring_trait.specs.declared.manager_errors.ManagerError.{ManagerError}
use Rattle.keyring_trait.specs.declared.manager_errors.ManagerError.TheVariants as managers
use Rattle.keyring_trait.specs.declared.served.Served.TheVariants.{Direct}
use Rattle.keyring_trait.specs.Manager.{ManagerMeaning, request_refusal}
use Rattle.keyring_trait.specs.Materials.{EncMaterialsValue}
use Rattle.keyring_trait.specs.Requests.{EncRequestValue}
use Rattle.keyring_trait.specs.Wrapping.{WrapKeyValue, active, ivs_of, made}
use Rattle.stream_seal.specs.Start.{message_of, drawn_id, drawn_rest}
use Rattle.esdk_encrypt.specs.Encrypt.{EncryptAsked}

-- The wrapping keys; the context, and the keys of it that are required of the reader; the frame
-- length, and the limit on entries.
pub record Writer : Type 0 where
  pub keys : List WrapKeyValue
  pub context : List KeyValue
  pub required : List (List ℕ)
  pub size : ℕ
  pub max_keys : Option ℕ

-- how many wraps the keys make
abbrev pub writer_wraps : Writer → ℕ
writer_wraps writer = length (active writer.keys)

-- the materials that these random bytes give: the first 32 are the data key, and then comes an IV
-- for each wrap
abbrev pub drawn_materials : Writer → List ℕ → EncMaterialsValue
drawn_materials writer random = record {
  context = writer.context;
  required = writer.required;
  key = take 32 random;
  entries = made writer.keys writer.context (take 32 random)
      (ivs_of (writer_wraps writer) (drop 32 random));
  served = Direct;
}

-- the message of a text that is made with the bytes drawn
abbrev pub message_by : Writer → List ℕ → List ℕ → List ℕ
message_by writer drawn text =
    message_of (drawn_materials writer (drawn_rest drawn)) writer.size (drawn_id drawn) text

-- why there are no materials: the request's refusal, or a failure that was counted where there is
-- none; want of memory is free
abbrev pub NoneForRequest : Option Refusal → ℕ → ℕ → ManagerError → Type 0
NoneForRequest refusal old new (managers.Refusal r) = refusal ≡ Some r
NoneForRequest refusal old new managers.KeyringFault = (refusal ≡ None) × Rose old new
NoneForRequest refusal old new (managers.Fault fault) = ⊥
NoneForRequest refusal old new managers.Memory = ⊤

-- what is asked for: these materials and no others, where the request isn't refused; `old` and
-- `new` count the failures of the keyrings
abbrev pub encrypting_by : Writer → Option Refusal → ℕ → ℕ → EncryptAsked
encrypting_by writer refusal old new = record {
  wraps = writer_wraps writer;
  gives = λ random materials. (refusal ≡ None) × (materials ≡ drawn_materials writer random);
  gives_none = NoneForRequest refusal old new;
  size = writer.size;
  max_keys = writer.max_keys;
}

-- who writes where a manager tells these keys: the keys that it demands are required too
abbrev pub writer_of : List WrapKeyValue → ManagerMeaning → EncRequestValue → ℕ → Option ℕ → Writer
writer_of keys m request size max_keys =
    record {
      keys = keys;
      context = request.context;
      required = with_keys request.required
          m.demands;
      size = size;
      max_keys = max_keys;
    }

-- what is asked of an exact and plain manager that means this before and that after it, and tells
-- these keys
abbrev pub asked_told : List WrapKeyValue → ManagerMeaning → ManagerMeaning → EncRequestValue → ℕ
    → Option ℕ → EncryptAsked
asked_told keys old new request size max_keys =
    encrypting_by (writer_of keys old request size max_keys) (request_refusal old request.context)
    old.faults new.faults
