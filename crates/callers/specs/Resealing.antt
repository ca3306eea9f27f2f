-- What a caller's loop over a resealer comes to. `bytes` are all pieces, one behind the other.
use Rattle.std.specs.Prelude.{◌≡◌, ◌⊎◌, ℕ, ◌+◌, ◌*◌, ◌<◌, ◌≤◌, List, [], ◌++◌, length, take, true}
use Rattle.std.specs.Prelude.{Result, Ok, Err, Some, None}
use Rattle.std.specs.Io.KnownBytes.{Appends}
use Rattle.esdk_fields.specs.Counts.{Rose}
use Rattle.esdk_fields.specs.declared.faults.Fault.{Fault}
use Rattle.esdk_fields.specs.declared.faults.Fault.TheVariants.{Truncated}
use Rattle.esdk_fields.specs.declared.refusals.Refusal.TheVariants.{TooManyFrames}
use Rattle.esdk_base.specs.Receiver.{SinkTakes}
use Rattle.esdk_base.specs.Sink.{AppendsFront}
use Rattle.esdk_base.specs.Streams.{SinkState}
use Rattle.context_codec.specs.Context.{KeyValue}
use Rattle.header_codec.specs.declared.settings.Settings.{Settings}
use Rattle.keyring_trait.specs.declared.manager_errors.ManagerError.TheVariants as managers
use Rattle.keyring_trait.specs.Manager.{ManagerNow}
use Rattle.keyring_trait.specs.Materials.{EncMaterialsValue}
use Rattle.keyring_trait.specs.Unlocking.{Unlocking, Unlocks}
use Rattle.body_format.specs.declared.verdicts.Verdict.TheVariants.{Whole}
use Rattle.message_format.specs.Judgement.{content, judged}
use Rattle.stream_open.specs.Session.{whole_context}
use Rattle.stream_seal.specs.Start.{message_of, most_text, drawn_id}
use Rattle.esdk_encrypt.specs.Encrypt.{written_so_far}
use Rattle.esdk_decrypt.specs.Decrypt.{AnswersTo, FailsTo, fault_at_end, fault_of}
use Rattle.reseal_core.specs.declared.errors.ResealError.{ResealError}
use Rattle.reseal_core.specs.declared.errors.ResealError.TheVariants as reseals
use Rattle.reseal_core.specs.declared.resealer.Resealer.{Resealer}
use Rattle.reseal_core.specs.Front.{request_for}
use Rattle.reseal_core.specs.Reseal.{HasMaterials, Resealing, RefusesHeader, WritesNewMessage}
use Rattle.reseal_core.specs.Reseal.{ResealWritesFront}
use Rattle.reseal_core.specs.Session.{ResealingValue, new_resealing_session}
use Rattle.reseal_core.specs.Stands.{ResealerFinishes}
use Rattle.reseal_core.specs.Underway.{Reached}

-- ---- all pieces

-- The manager of the old message answers so to the header of the bytes.
abbrev pub IsAnswered : Resealing → List ℕ → Unlocking → Type 0
IsAnswered asked bytes answer = AnswersTo asked.opening.manager asked.opening.settings
    asked.opening.given bytes answer

-- The bytes are one whole message, which is unlocked with this whole context, and this is so of its
-- text and of the new message of that.
pub record IsWholeAnd (asked : Resealing) (random bytes : List ℕ)
    (so : List ℕ → List ℕ → Type 0) (context : List KeyValue) : Type 0 where
  pub only : List KeyValue
  pub key : List ℕ
  pub answered : IsAnswered asked bytes (Unlocks context only key)
  pub whole : (judged bytes asked.opening.settings (Unlocks context only key)).verdict ≡ Whole
  pub materials : EncMaterialsValue
  pub has : HasMaterials asked random context only materials
  pub is : so (content (judged bytes asked.opening.settings (Unlocks context only key)))
      (message_of materials asked.size (drawn_id random)
      (content (judged bytes asked.opening.settings (Unlocks context only key))))

-- the new message has room for the text, and the output gained it
abbrev pub ResealsBytes : Resealing → List ℕ → List ℕ → SinkState → SinkState → List KeyValue
    → Type 0
ResealsBytes asked random bytes output put context = IsWholeAnd asked random bytes (λ text message.
    (length text ≤ most_text asked.size) × Appends output.written put.written message) context

-- The bytes have this fault, and the output gained what is written of what they release: the new
-- header and all frames but the last; nothing, where they aren't unlocked.
pub record ResealedBytesHaveFault (asked : Resealing) (random bytes : List ℕ)
    (output put : SinkState)
    (fault : Fault) : Type 0 where
  pub answer : Unlocking
  pub answered : IsAnswered asked bytes answer
  pub cause : fault_at_end (judged bytes asked.opening.settings answer).verdict ≡ Some fault
  pub written : WritesNewMessage asked random answer (judged bytes asked.opening.settings answer)
      output put

-- ---- other ends

-- Some of the bytes come first, have no fault, and unlock the old message. This is so of its whole
-- context, its pairs that are only authenticated, and the text that they release.
pub record OpensAnd (asked : Resealing) (bytes : List ℕ)
    (so : List KeyValue → List KeyValue → List ℕ → Type 0) : Type 0 where
  pub first : List ℕ
  pub behind : List ℕ
  pub all : bytes ≡ first ++ behind
  pub whole : List KeyValue
  pub only : List KeyValue
  pub key : List ℕ
  pub answered : IsAnswered asked first (Unlocks whole only key)
  pub sound : fault_of (judged first asked.opening.settings (Unlocks whole only key)).verdict ≡ None
  pub unlocked : (judged first asked.opening.settings (Unlocks whole only key)).unlocked ≡ true
  pub is : so whole only (content (judged first asked.opening.settings (Unlocks whole only key)))

-- The new message has materials, and this is so of what is written of the text that has room, all
-- frames but the last.
pub record HasFrontAnd (asked : Resealing) (random : List ℕ) (so : List ℕ → Type 0)
    (whole only : List KeyValue) (text : List ℕ) : Type 0 where
  pub materials : EncMaterialsValue
  pub has : HasMaterials asked random whole only materials
  pub is : so (written_so_far materials asked.size (drawn_id random)
      (take (most_text asked.size) text))

-- why the pieces aren't resealed, and what was written
abbrev pub ResealsNot : Resealing → List ℕ → List ℕ → SinkState → SinkState → ResealError
    → Type 0
ResealsNot asked random bytes output put (reseals.Fault fault) =
    ResealedBytesHaveFault asked random bytes output put
    fault
ResealsNot asked random bytes output put (reseals.Refusal refusal) =
    (SinkTakes output put [] × OpensAnd asked bytes
    (λ whole only text. asked.gives_none (request_for whole only) (managers.Refusal refusal)
    ⊎ RefusesHeader asked random whole only refusal))
    ⊎ ((refusal ≡ TooManyFrames) × OpensAnd asked bytes
    (λ whole only text. (most_text asked.size < length text) × HasFrontAnd asked random
    (λ front. Appends output.written put.written front) whole only text))
ResealsNot asked random bytes output put reseals.KeyringFault = SinkTakes output put []
    × (FailsTo asked.opening.manager asked.opening.settings asked.opening.given bytes
    ⊎ OpensAnd asked bytes
    (λ whole only text. asked.gives_none (request_for whole only) managers.KeyringFault))
ResealsNot asked random bytes output put reseals.SinkFault = Rose output.faults put.faults
    × (OpensAnd asked bytes (HasFrontAnd asked random
    (λ front. AppendsFront output.written put.written front))
    ⊎ ((context : List KeyValue) × IsWholeAnd asked random bytes
    (λ text message. AppendsFront output.written put.written message) context))
ResealsNot asked random bytes output put reseals.Stopped = ⊥
ResealsNot asked random bytes output put reseals.Memory = SinkTakes output put []
    ⊎ OpensAnd asked bytes (λ whole only text. ResealWritesFront asked random whole only text output
    put)

-- ---- the resealer

-- It has taken some bytes without a fault, and its random bytes are enough for the wraps of the
-- manager of the new message.
pub record IsUnderway {A B : Type 0} (opened : A → ManagerNow) (sealed : B → ManagerNow) (now : ℕ)
    (opening : A) (sealing : B) (output : SinkState) (resealer : Resealer) : Type 0 where
  pub settings : Settings
  pub given : List KeyValue
  pub size : ℕ
  pub random : List ℕ
  pub bytes : List ℕ
  pub first : A
  pub begun : B
  pub before : SinkState
  pub reached : Reached opened sealed now (new_resealing_session settings given size random) bytes
      first
      opening begun sealing before output resealer
  pub count : length random ≡ 64 + 12 * (sealed sealing).meaning.wraps

-- What ending it comes to. At Ok the answer is the whole context, and the new message was finished.
-- At an error finishing it failed; or it wasn't begun and nothing was written, since the old
-- message isn't unlocked and so wants more bytes, or since memory ran out.
abbrev pub EndsResealing : ResealingValue → SinkState → SinkState → Type 0
    → Result (List KeyValue) ResealError → Type 0
EndsResealing v output put unwritten (Ok context) = (whole_context v.opening ≡ Some context)
    × ResealerFinishes v output put unwritten (Ok tt)
EndsResealing v output put unwritten (Err error) =
    ((((error ≡ reseals.Fault Truncated) × (whole_context v.opening ≡ None))
    ⊎ (error ≡ reseals.Memory)) × unwritten)
    ⊎ ResealerFinishes v output put unwritten (Err error)
