-- What decrypting comes to over a manager that is exact, tells its wrapping keys, and doesn't fail:
-- the judgement is determined by the bytes, the keys and the pairs.
use Rattle.std.specs.Prelude.{◌≡◌, ℕ, List, ⊤}
use Rattle.context_codec.specs.Context.{KeyValue}
use Rattle.header_codec.specs.declared.settings.Settings.{Settings}
use Rattle.keyring_trait.specs.declared.manager_errors.ManagerError.{ManagerError}
use Rattle.keyring_trait.specs.declared.manager_errors.ManagerError.TheVariants as managers
use Rattle.keyring_trait.specs.Requests.{DecRequestValue}
use Rattle.keyring_trait.specs.Unlocking.{Unlocking, Refuses, Unlocks, unlock}
use Rattle.keyring_trait.specs.Wrapping.{WrapKeyValue}
use Rattle.message_format.specs.Judgement.{Judged}
use Rattle.message_format.specs.Reading.{read, unlocking}
use Rattle.esdk_decrypt.specs.Decrypt.{Answering, DecryptAsked}

-- The wrapping keys, the limits, the pairs that are given, and the keys that are required of the
-- giver.
pub record Reader : Type 0 where
  pub keys : List WrapKeyValue
  pub settings : Settings
  pub given : List KeyValue
  pub required : List (List ℕ)

-- the judgement of bytes by this reader
abbrev pub judged_by : Reader → List ℕ → Judged
judged_by reader bytes = read bytes reader.settings reader.given reader.required reader.keys

-- what the reader answers to a header
abbrev pub unlocked_by : Reader → DecRequestValue → Unlocking
unlocked_by reader request =
    unlock request.stored request.entries request.given reader.required reader.keys

-- why there are no materials: the answer's fault; want of memory is free
abbrev pub NoneForAnswer : Unlocking → ManagerError → Type 0
NoneForAnswer answer (managers.Fault fault) = answer ≡ Refuses fault
NoneForAnswer answer (managers.Refusal refusal) = ⊥
NoneForAnswer answer managers.KeyringFault = ⊥
NoneForAnswer answer managers.Memory = ⊤

-- the reader's answers and no others
abbrev pub answering_by : Reader → Answering
answering_by reader = record {
  finds = λ request materials. unlocked_by reader request
      ≡ Unlocks materials.context materials.only materials.key;
  finds_none = λ request error. NoneForAnswer (unlocked_by reader request) error;
}

abbrev pub decrypting_by : Reader → DecryptAsked
decrypting_by reader =
    record { manager = answering_by reader; settings = reader.settings; given = reader.given }

-- what the bytes unlock to for this reader
abbrev pub unlocked_to : Reader → List ℕ → Unlocking
unlocked_to reader bytes = unlocking bytes reader.settings reader.given reader.required reader.keys
