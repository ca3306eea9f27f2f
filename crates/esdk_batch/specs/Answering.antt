-- What a decrypt job has of the manager: its answer to the header of what the job reads, and how
-- the materials were served. AWS Encryption SDK Specification, "Decrypt", "Get the decryption
-- materials".
use Rattle.std.specs.Prelude.{◌≡◌, ℕ, List, ⊤, Option, Some, None}
use Rattle.context_codec.specs.Context.{KeyValue}
use Rattle.header_codec.specs.declared.settings.Settings.{Settings}
use Rattle.keyring_trait.specs.declared.served.Served.{Served}
use Rattle.keyring_trait.specs.Saying.{Saying}
use Rattle.keyring_trait.specs.Unlocking.{Unlocking, Refuses, Unlocks}
use Rattle.stream_open.specs.Feeding as opens
use Rattle.stream_open.specs.Session.{OpeningValue, answer_kept}
use Rattle.esdk_decrypt.specs.Decrypt.{AnswersTo, FailsTo, answers_at}

-- what the manager may say where the materials that it finds are served so
abbrev pub serving : Saying → Option Served → Saying
serving manager served = record manager {
  finds = λ request now materials.
      manager.finds request now materials × (served ≡ Some materials.served);
}

-- where the answer refuses, none were
abbrev pub IsUnserved : Unlocking → Option Served → Type 0
IsUnserved (Unlocks whole only key) served = ⊤
IsUnserved (Refuses fault) served = served ≡ None

-- The answer is the manager's, at some moment, to the header at the front of the bytes, and its
-- materials were served so; of bytes that are refused before an answer none were.
pub record HasAnswer (manager : Saying) (settings : Settings) (given : List KeyValue)
    (bytes : List ℕ) (served : Option Served) (answer : Unlocking) : Type 0 where
  pub moment : ℕ
  pub answered : AnswersTo (answers_at (serving manager served) moment) settings given bytes answer
  pub unserved : IsUnserved answer served

-- The manager failed, at some moment, when it was asked about the header at the front of the bytes.
pub record HasFailed (manager : Saying) (settings : Settings) (given : List KeyValue)
    (bytes : List ℕ) : Type 0 where
  pub moment : ℕ
  pub failed : FailsTo (answers_at manager moment) settings given bytes

-- The session keeps such an answer to the header that is whole in these bytes.
pub record KeepsServed (manager : Saying) (s : OpeningValue) (bytes : List ℕ) : Type 0 where
  pub moment : ℕ
  pub keeps : opens.KeepsItsAnswer (serving manager s.served) moment s bytes
  pub unserved : IsUnserved (answer_kept s.answer) s.served
