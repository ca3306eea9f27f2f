-- What the laws of this crate say of an encryption over a manager that is exact and plain, and
-- tells its wrapping keys.
use Rattle.std.specs.Prelude.{◌≡◌, ℕ, ◌^◌, ◌<◌, ◌≤◌, List, ◌++◌, length, take, true, ⊤, IfSome}
use Rattle.std.specs.Prelude.{None, Option, Some}
use Rattle.std.specs.Io.KnownBytes.{Appends}
use Rattle.esdk_fields.specs.Counts.{Stayed}
use Rattle.esdk_fields.specs.declared.refusals.Refusal.{Refusal}
use Rattle.esdk_base.specs.Sink.{AppendsFront}
use Rattle.esdk_base.specs.Streams.{EntropyState, OnTold, SinkState, SourceState}
use Rattle.context_codec.specs.Context.{IsContext}
use Rattle.keyring_trait.specs.Materials.{EncMaterialsValue}
use Rattle.stream_seal.specs.Feeding.{IsLeastCount, frames_given}
use Rattle.stream_seal.specs.Start.{message_of, most_text}
use Rattle.whole_input.specs.Taken.{Came}
use Rattle.esdk_encrypt.specs.declared.errors.EncryptError.{EncryptError}
use Rattle.esdk_encrypt.specs.declared.errors.EncryptError.TheVariants.{Memory}
use Rattle.esdk_encrypt.specs.Encrypt.{Encrypts, EncryptEnds, StopsSo, drawn_count}
use Rattle.esdk_encrypt.specs.Gaining.{OutputForm, KeepsFronts, Whole, gained_as}
use Rattle.esdk_encrypt.specs.Told.{Writer, encrypting_by, message_by, writer_wraps}

-- ---- what is written

-- The output gained the message of this text behind what it had, in this form. It was made with the
-- first bytes to come, where the entropy tells them.
pub record GainsMessage (form : OutputForm) (writer : Writer) (text before : List ℕ)
    (entropy : EntropyState) (put : SinkState) : Type 0 where
  pub drawn : List ℕ
  pub count : length drawn ≡ drawn_count (writer_wraps writer)
  pub first : OnTold entropy.to_come
      (λ coming. drawn ≡ take (drawn_count (writer_wraps writer)) coming)
  pub gained : put.written ≡ Some (before ++ form Whole (message_by writer drawn text))

-- An encryption of told bytes to a told output writes their message.
abbrev pub GainsTheMessage : Type 0
GainsTheMessage = (form : OutputForm) (writer : Writer) (refusal : Option Refusal) (old new : ℕ)
    (text before : List ℕ) (input taken : SourceState) (output put : SinkState)
    (entropy spent : EntropyState) → input.left ≡ Some text → output.written ≡ Some before
    → Encrypts (encrypting_by writer refusal old new) input taken (gained_as form output put)
    entropy spent
    → GainsMessage form writer text before entropy put

-- ---- what went through

-- The output gained the message of the text that came from the input, whose end was seen, in this
-- form. It was made with the bytes that were drawn meanwhile. Every object tells what went through
-- it, so that this says as much of a real one as of one in memory.
pub record SealsWhatCame (form : OutputForm) (writer : Writer) (input taken : SourceState)
    (output put : SinkState) (entropy spent : EntropyState) : Type 0 where
  pub text : List ℕ
  pub came : taken.came ≡ input.came ++ text
  pub end : taken.ended ≡ true
  pub drawn : List ℕ
  pub count : length drawn ≡ drawn_count (writer_wraps writer)
  pub drew : spent.drawn ≡ entropy.drawn ++ drawn
  pub gained : Appends output.written put.written (form Whole (message_by writer drawn text))

-- An encryption that is done sealed what came.
abbrev pub SealsAllThatCame : Type 0
SealsAllThatCame = (form : OutputForm) (writer : Writer) (refusal : Option Refusal) (old new : ℕ)
    (input taken : SourceState) (output put : SinkState) (entropy spent : EntropyState)
    → Encrypts (encrypting_by writer refusal old new) input taken (gained_as form output put)
    entropy spent
    → SealsWhatCame form writer input taken output put entropy spent

-- ---- what is encrypted

-- The pairs are a context, and at most 64 keys wrap, which the limit on entries allows. So many
-- entries have room in every header.
pub record WriterIsWithin (writer : Writer) : Type 0 where
  pub context : IsContext writer.context
  pub few : writer_wraps writer ≤ 64
  pub allowed : IfSome writer.max_keys (λ most. writer_wraps writer ≤ most)

-- The input tells these bytes, a message of this frame length has room for them, and they are fewer
-- than are taken of an input at the most.
pub record FitsMessage (size : ℕ) (input : SourceState) (text : List ℕ) : Type 0 where
  pub told : input.left ≡ Some text
  pub room : length text ≤ most_text size
  pub few : length text < 2 ^ 62

-- No count of faults rose of the input, the output or the entropy.
pub record NoObjectFails (input taken : SourceState) (output put : SinkState)
    (entropy spent : EntropyState) : Type 0 where
  pub source : Stayed input.faults taken.faults
  pub sink : Stayed output.faults put.faults
  pub drawing : Stayed entropy.faults spent.faults

-- Where the writer is within the limits, the request isn't refused, the input fits and nothing
-- fails, the keyrings included, only want of memory ends an encryption. `⊤` stands for what the run
-- left untouched, which plays no part.
abbrev pub EncryptsInputsThatFit : Type 0
EncryptsInputsThatFit = (form : OutputForm) (writer : Writer) (old new : ℕ) (text : List ℕ)
    (input taken : SourceState) (output put : SinkState) (entropy spent : EntropyState)
    (error : EncryptError)
    → WriterIsWithin writer → FitsMessage writer.size input text → Stayed old new
    → NoObjectFails input taken output put entropy spent
    → EncryptEnds (encrypting_by writer None old new) input taken (gained_as form output put)
    entropy spent ⊤ ⊤ error → error ≡ Memory

-- ---- what is left where it ends early

-- These bytes were taken, and the output gained a front of their message in this form, as far as a
-- message has room for them.
pub record GainsMessageFront (form : OutputForm) (m : EncMaterialsValue) (size : ℕ) (id : List ℕ)
    (input taken : SourceState) (output put : SinkState) : Type 0 where
  pub text : List ℕ
  pub came : Came input taken text
  pub front : AppendsFront output.written put.written
      (form Whole (message_of m size id (take (most_text size) text)))

-- Whatever ends the writing of a message, a front of it is left.
abbrev pub EncryptLeavesAFront : Type 0
EncryptLeavesAFront = (form : OutputForm) (m : EncMaterialsValue) (size : ℕ) (id : List ℕ)
    (input taken : SourceState) (output put : SinkState) (error : EncryptError)
    → KeepsFronts form → 1 ≤ size → StopsSo m size id input taken (gained_as form output put) error
    → GainsMessageFront form m size id input taken output put

-- What is written while the input goes on are m frames, m being the least number for which m frames
-- of so many bytes and one more have room for the text.
abbrev pub WritesAllButTheLast : Type 0
WritesAllButTheLast =
    (count size : ℕ) → 1 ≤ size → IsLeastCount count size (frames_given count size)
