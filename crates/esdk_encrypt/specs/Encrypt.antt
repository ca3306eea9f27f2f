-- What encrypting an input comes to. Standard: AWS Encryption SDK Specification, "Encrypt".
use Rattle.std.specs.Prelude.{◌≡◌, ℕ, ◌+◌, ◌*◌, ◌-◌, ◌<◌, ◌≤◌, List, [], ◌++◌, length, take, All, ⊤}
use Rattle.std.specs.Prelude.{◌⊎◌, Option, Some, None}
use Rattle.std.specs.Io.KnownBytes.{Consumes, Keeps}
use Rattle.esdk_fields.specs.Counts.{Rose}
use Rattle.esdk_base.specs.Streams.{EntropyState, SourceState}
use Rattle.esdk_fields.specs.declared.refusals.Outside.TheVariants as outsides
use Rattle.esdk_fields.specs.declared.refusals.Refusal.{Refusal}
use Rattle.esdk_fields.specs.declared.refusals.Refusal.TheVariants as refusals
use Rattle.edk_codec.specs.Entry.{IsEntry}
use Rattle.body_format.specs.Written.{regular_frames}
use Rattle.keyring_trait.specs.declared.manager_errors.ManagerError.{ManagerError}
use Rattle.keyring_trait.specs.declared.manager_errors.ManagerError.TheVariants as managers
use Rattle.keyring_trait.specs.Materials.{EncMaterialsValue}
use Rattle.keyring_trait.specs.Requests.{EncRequestValue}
use Rattle.keyring_trait.specs.Saying.{Saying}
use Rattle.message_format.specs.Message.{under}
use Rattle.stream_seal.specs.Feeding.{frames_given}
use Rattle.stream_seal.specs.Start.{message_of, most_frames, most_text, start_of, start_refusal}
use Rattle.stream_seal.specs.Start.{drawn_id, drawn_rest}
use Rattle.whole_input.specs.Pieces.{APieceBehind}
use Rattle.whole_input.specs.Taken.{Came, EndSeen, MostTaken}
use Rattle.esdk_encrypt.specs.declared.errors.EncryptError.{EncryptError}
use Rattle.esdk_encrypt.specs.declared.errors.EncryptError.TheVariants as errors
use Rattle.esdk_encrypt.specs.Gaining.{Front, Gaining, Whole}

-- how many bytes are drawn: 32 of message id, 32 of data key, and 12 of IV for each wrap of the
-- data key
abbrev pub drawn_count : ℕ → ℕ
drawn_count wraps = 64 + 12 * wraps

-- Just these bytes came from the entropy: they are those that it tells to have been drawn, and the
-- first of those to come, where it tells these. No fill failed.
pub record Drew (wraps : ℕ) (old new : EntropyState) (drawn : List ℕ) : Type 0 where
  pub told : new.drawn ≡ old.drawn ++ drawn
  pub count : length drawn ≡ drawn_count wraps
  pub consumed : Consumes old.to_come new.to_come drawn
  pub faults : new.faults ≡ old.faults

-- ---- writing a message with these materials, in frames of this length, under this id

-- the header with its tag, and so many regular frames
abbrev pub header_and_frames : EncMaterialsValue → ℕ → List ℕ → List ℕ → ℕ → List ℕ
header_and_frames m size id text frames =
    start_of m size id ++ regular_frames size (under m.key id) text frames

-- what is written of a text while the input goes on: all of its message but the last frame. So m
-- regular frames are, m being the least number for which (m + 1) * size bytes are enough for the
-- text.
abbrev pub written_so_far : EncMaterialsValue → ℕ → List ℕ → List ℕ → List ℕ
written_so_far m size id text = header_and_frames m size id text (frames_given (length text) size)

-- The whole input was taken, and the output gained the message of it.
pub record WritesMessage (m : EncMaterialsValue) (size : ℕ) (id : List ℕ)
    (input taken : SourceState) (gains : Gaining) : Type 0 where
  pub text : List ℕ
  pub came : Came input taken text
  pub end : EndSeen input taken text
  pub short : length text ≤ most_text size
  pub gained : gains.took Whole (message_of m size id text)

-- A read failed. The bytes taken before have room in a message, and the output gained what is
-- written of them while the input goes on.
pub record EncryptSourceFails (m : EncMaterialsValue) (size : ℕ) (id : List ℕ)
    (input taken : SourceState) (gains : Gaining) : Type 0 where
  pub text : List ℕ
  pub came : Came input taken text
  pub rose : Rose input.faults taken.faults
  pub short : length text ≤ most_text size
  pub gained : gains.took Front (written_so_far m size id text)

-- 2^62 bytes were taken, and have room in a message. The output gained what is written of them
-- while the input goes on.
pub record EncryptInputIsTooLong (m : EncMaterialsValue) (size : ℕ) (id : List ℕ)
    (input taken : SourceState) (gains : Gaining) : Type 0 where
  pub text : List ℕ
  pub came : Came input taken text
  pub most : MostTaken input taken text
  pub short : length text ≤ most_text size
  pub gained : gains.took Front (written_so_far m size id text)

-- The last piece has a byte beyond those that have room in a message, and no read failed. The
-- output gained all regular frames of the message of those that have, and no final frame.
pub record EncryptNeedsTooManyFrames (m : EncMaterialsValue) (size : ℕ) (id : List ℕ)
    (input taken : SourceState) (gains : Gaining) : Type 0 where
  pub text : List ℕ
  pub came : Came input taken text
  pub faults : taken.faults ≡ input.faults
  pub many : most_text size < length text
  pub last : APieceBehind (λ before. length before ≤ most_text size) text
  pub gained : gains.took Front
      (header_and_frames m size id (take (most_text size) text) (most_frames - 1))

-- The output failed at the header: nothing was taken.
pub record EncryptHeaderFails (m : EncMaterialsValue) (size : ℕ) (id : List ℕ) (gains : Gaining)
    (text : List ℕ) : Type 0 where
  pub none : text ≡ []
  pub stopped : gains.stopped Front [] (start_of m size id)

-- Bytes that come first have room in a message, and what is written of them while the input goes on
-- was; but not all that is written of all that have room.
pub record WritesFrames (m : EncMaterialsValue) (size : ℕ) (id : List ℕ) (gains : Gaining)
    (text first : List ℕ) : Type 0 where
  pub short : length first ≤ most_text size
  pub stopped : gains.stopped Front (written_so_far m size id first)
      (written_so_far m size id (take (most_text size) text))

-- The output failed at the final frame: the input's end was seen, and what comes before that frame
-- was written.
pub record EncryptFinalFails (m : EncMaterialsValue) (size : ℕ) (id : List ℕ)
    (input taken : SourceState) (gains : Gaining) (text : List ℕ) : Type 0 where
  pub end : EndSeen input taken text
  pub short : length text ≤ most_text size
  pub stopped : gains.stopped Whole (written_so_far m size id text) (message_of m size id text)

-- The output failed: at the header, or at a frame of the last piece, or at the final frame. No read
-- failed.
pub record EncryptSinkFails (m : EncMaterialsValue) (size : ℕ) (id : List ℕ)
    (input taken : SourceState) (gains : Gaining) : Type 0 where
  pub text : List ℕ
  pub came : Came input taken text
  pub faults : taken.faults ≡ input.faults
  pub at : EncryptHeaderFails m size id gains text
      ⊎ (APieceBehind (WritesFrames m size id gains text) text
      ⊎ EncryptFinalFails m size id input taken gains text)

-- why no more was taken or written, and what was
abbrev pub StopsSo : EncMaterialsValue → ℕ → List ℕ → SourceState → SourceState → Gaining
    → EncryptError → Type 0
StopsSo m size id input taken gains (errors.Outside outsides.SourceFault) =
    EncryptSourceFails m size id input taken gains
StopsSo m size id input taken gains (errors.Outside outsides.SinkFault) =
    EncryptSinkFails m size id input taken gains
StopsSo m size id input taken gains (errors.Outside outsides.InputTooLong) =
    EncryptInputIsTooLong m size id input taken gains
StopsSo m size id input taken gains (errors.Refusal refusals.TooManyFrames) =
    EncryptNeedsTooManyFrames m size id input taken gains
StopsSo m size id input taken gains error = ⊥

-- ---- the whole run

-- What a run is about: how many wraps the manager makes, what it gives for random bytes, and why it
-- gives nothing; the frame length and the limit on entries.
pub record EncryptAsked : Type 1 where
  pub wraps : ℕ
  pub gives : List ℕ → EncMaterialsValue → Type 0
  pub gives_none : ManagerError → Type 0
  pub size : ℕ
  pub max_keys : Option ℕ

-- what is asked of a manager that may say this, of this request and at this moment
abbrev pub encrypting_from : Saying → EncRequestValue → ℕ → ℕ → Option ℕ → EncryptAsked
encrypting_from saying request now size max_keys = record {
  wraps = saying.wraps;
  gives = saying.gives request now;
  gives_none = saying.gives_none request;
  size = size;
  max_keys = max_keys;
}

-- Bytes were drawn, the manager gave materials for them, and a message can begin with these.
pub record CanBegin (asked : EncryptAsked) (entropy spent : EntropyState) (drawn : List ℕ)
    (materials : EncMaterialsValue) : Type 0 where
  pub drew : Drew asked.wraps entropy spent drawn
  pub given : asked.gives (drawn_rest drawn) materials
  pub begins : start_refusal materials asked.max_keys (drawn_id drawn) ≡ None

-- Then the whole input was taken, and the output gained the message of it.
pub record Encrypts (asked : EncryptAsked) (input taken : SourceState) (gains : Gaining)
    (entropy spent : EntropyState) : Type 0 where
  pub drawn : List ℕ
  pub materials : EncMaterialsValue
  pub started : CanBegin asked entropy spent drawn materials
  pub writes : WritesMessage materials asked.size (drawn_id drawn) input taken gains

-- Then the message of the input wasn't written, or not whole.
pub record EndsAfter (asked : EncryptAsked) (input taken : SourceState) (gains : Gaining)
    (entropy spent : EntropyState) (error : EncryptError) : Type 0 where
  pub drawn : List ℕ
  pub materials : EncMaterialsValue
  pub started : CanBegin asked entropy spent drawn materials
  pub stops : StopsSo materials asked.size (drawn_id drawn) input taken gains error

-- A fill failed: nothing was drawn, taken or written, and the manager is as before.
pub record EntropyFails (entropy spent : EntropyState) (untouched unasked : Type 0) : Type 0 where
  pub rose : Rose entropy.faults spent.faults
  pub kept : Keeps entropy.to_come spent.to_come
  pub none : spent.drawn ≡ entropy.drawn
  pub same : untouched
  pub manager : unasked

-- Bytes were drawn, and the manager gave nothing, for this reason; nothing was taken or written.
pub record ManagerGivesNothing (asked : EncryptAsked) (entropy spent : EntropyState)
    (error : ManagerError) (untouched : Type 0) : Type 0 where
  pub drawn : List ℕ
  pub drew : Drew asked.wraps entropy spent drawn
  pub cause : asked.gives_none error
  pub same : untouched

-- Bytes were drawn, the manager gave materials, and no header can be made of these, though each of
-- their entries is one; nothing was taken or written.
pub record RefusesStart (asked : EncryptAsked) (entropy spent : EntropyState) (refusal : Refusal)
    (untouched : Type 0) : Type 0 where
  pub drawn : List ℕ
  pub materials : EncMaterialsValue
  pub drew : Drew asked.wraps entropy spent drawn
  pub given : asked.gives (drawn_rest drawn) materials
  pub each : All IsEntry materials.entries
  pub cause : start_refusal materials asked.max_keys (drawn_id drawn) ≡ Some refusal
  pub same : untouched

-- Bytes were drawn, and memory ran out before anything was taken or written.
pub record EncryptLacksMemory (asked : EncryptAsked) (entropy spent : EntropyState)
    (untouched : Type 0) : Type 0 where
  pub drawn : List ℕ
  pub drew : Drew asked.wraps entropy spent drawn
  pub same : untouched

-- Why an input wasn't encrypted, and what that left. `untouched` says that the input and the output
-- are as before, `unasked` that the manager is. Want of memory is free before anything is taken or
-- written, and can't come later.
abbrev pub EncryptEnds : EncryptAsked → SourceState → SourceState → Gaining → EntropyState
    → EntropyState → Type 0 → Type 0 → EncryptError → Type 0
EncryptEnds asked input taken gains entropy spent untouched unasked
    (errors.Outside outsides.EntropyFault) = EntropyFails entropy spent untouched unasked
EncryptEnds asked input taken gains entropy spent untouched unasked
    (errors.Outside outsides.KeyringFault) = ManagerGivesNothing asked entropy spent
    managers.KeyringFault untouched
EncryptEnds asked input taken gains entropy spent untouched unasked (errors.Outside outside) =
    EndsAfter asked input taken gains entropy spent (errors.Outside outside)
EncryptEnds asked input taken gains entropy spent untouched unasked
    (errors.Refusal refusals.TooManyFrames) =
    EndsAfter asked input taken gains entropy spent (errors.Refusal refusals.TooManyFrames)
EncryptEnds asked input taken gains entropy spent untouched unasked
    (errors.Refusal (refusals.TooManyDataKeys n)) =
    RefusesStart asked entropy spent (refusals.TooManyDataKeys n) untouched
EncryptEnds asked input taken gains entropy spent untouched unasked
    (errors.Refusal (refusals.HeaderTooLong n)) =
    RefusesStart asked entropy spent (refusals.HeaderTooLong n) untouched
EncryptEnds asked input taken gains entropy spent untouched unasked (errors.Refusal refusal) =
    ManagerGivesNothing asked entropy spent (managers.Refusal refusal) untouched
EncryptEnds asked input taken gains entropy spent untouched unasked errors.Memory =
    EncryptLacksMemory asked entropy spent untouched

-- a manager's error that is no fault of a header
abbrev pub IsNoFault : ManagerError → Type 0
IsNoFault (managers.Fault fault) = ⊥
IsNoFault error = ⊤

-- there are no materials for the reason that the manager has
abbrev pub ManagerGivesNot : ManagerError → EncryptError → Type 0
ManagerGivesNot (managers.Refusal refusal) error = error ≡ errors.Refusal refusal
ManagerGivesNot managers.KeyringFault error = error ≡ errors.Outside outsides.KeyringFault
ManagerGivesNot (managers.Fault fault) error = ⊥
ManagerGivesNot managers.Memory error = error ≡ errors.Memory

-- a message can't be begun for that reason; want of memory is free
abbrev pub BeginsNoMessage : Option Refusal → EncryptError → Type 0
BeginsNoMessage refusal (errors.Refusal r) = refusal ≡ Some r
BeginsNoMessage refusal (errors.Outside outside) = ⊥
BeginsNoMessage refusal errors.Memory = ⊤
