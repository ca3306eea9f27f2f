-- What a run of `decrypt` says of the bytes that it took: what a reader reads of them, where the
-- run had the reader's keys and none of its keyrings failed.
use Rattle.std.specs.Prelude.{◌≡◌, ◌⊎◌, ℕ, ◌≤◌, Bool, List, ◌++◌, length, true, false, Some, None}
use Rattle.std.specs.Prelude.{⊤}
use Rattle.std.specs.Io.KnownBytes.{Appends}
use Rattle.esdk_fields.specs.Counts.{Rose}
use Rattle.esdk_base.specs.Streams.{SinkState}
use Rattle.esdk_fields.specs.declared.faults.Fault.{Fault}
use Rattle.esdk_fields.specs.declared.refusals.Outside.TheVariants as outsides
use Rattle.context_codec.specs.Context.{KeyValue}
use Rattle.header_codec.specs.Table.{head}
use Rattle.body_format.specs.declared.verdicts.Verdict.TheVariants.{Whole}
use Rattle.message_format.specs.Judgement.{content}
use Rattle.stream_open.specs.Session.{is_framed}
use Rattle.whole_input.specs.Pieces.{APieceBehind, most_piece}
use Rattle.whole_input.specs.Taken.{Came, EndSeen, MostTaken}
use Rattle.whole_input.specs.Written.{WritesBeyond}
use Rattle.esdk_decrypt.specs.Decrypt.{HasContext, fault_at_end, fault_of}
use Rattle.esdk_decrypt.specs.Told.{Reader, judged_by, unlocked_to}
use Rattle.esdk_report.specs.declared.failure.Failure.{Failure}
use Rattle.esdk_report.specs.declared.failure.Failure.TheVariants as failures
use Rattle.esdk_run.specs.Objects.{Objects, with_input}
use Rattle.esdk_run.specs.Run.{Fails, TellsOrLacksMemory}
use Rattle.esdk_run.specs.Unarmoured.{InputEnds, ReadsAll}

-- These bytes were taken, and the output gained what is read of them.
pub record GainsRead (reader : Reader) (before after : Objects) (bytes : List ℕ) : Type 0 where
  pub came : Came before.input after.input bytes
  pub gained : Appends before.output.written after.output.written (content (judged_by reader bytes))

-- Bytes that come first have no fault and what is read of them was written, but only a front of
-- what is read of all bytes beyond it.
pub record ReadsBeyond (reader : Reader) (output put : SinkState) (bytes first : List ℕ)
    : Type 0 where
  pub sound : fault_of (judged_by reader first).verdict ≡ None
  pub written : WritesBeyond output put (content (judged_by reader first))
      (content (judged_by reader bytes))

-- Bytes were taken. What is read of those before the last piece was written, but not all that is
-- read of the piece beyond it.
pub record GainsReadFront (reader : Reader) (before after : Objects) : Type 0 where
  pub bytes : List ℕ
  pub came : Came before.input after.input bytes
  pub last : APieceBehind (ReadsBeyond reader before.output after.output bytes) bytes

-- The whole input was taken and is a whole message, the output gained its content, and the report
-- was told its whole context, or that memory was wanting for it.
pub record DecryptReadsWhole (reader : Reader) (before after : Objects) (code : ℕ) : Type 0 where
  pub bytes : List ℕ
  pub context : List KeyValue
  pub gains : GainsRead reader before after bytes
  pub end : EndSeen before.input after.input bytes
  pub whole : (judged_by reader bytes).verdict ≡ Whole
  pub unlocked : HasContext (unlocked_to reader bytes) context
  pub told : TellsOrLacksMemory context code before.report after.report

-- The bytes that were taken have this fault, or they are the whole input and it has it; those
-- before the last piece have none. The output gained what is read of them.
pub record DecryptReadsFault (reader : Reader) (before after : Objects) (fault : Fault)
    : Type 0 where
  pub bytes : List ℕ
  pub gains : GainsRead reader before after bytes
  pub cause : (fault_of (judged_by reader bytes).verdict ≡ Some fault)
      ⊎ (EndSeen before.input after.input bytes
      × (fault_at_end (judged_by reader bytes).verdict ≡ Some fault))
  pub last : APieceBehind (λ first. fault_of (judged_by reader first).verdict ≡ None) bytes

-- The bytes that were taken have no fault, and no more were taken for this reason. The output
-- gained what is read of them.
pub record ReadsNoFault (reader : Reader) (before after : Objects) (cause : List ℕ → Type 0)
    : Type 0 where
  pub bytes : List ℕ
  pub gains : GainsRead reader before after bytes
  pub sound : fault_of (judged_by reader bytes).verdict ≡ None
  pub because : cause bytes

-- Memory ran out, and nothing was written. What came before the last piece doesn't reach behind the
-- unlocked header of a framed message.
pub record ReadsNothing (reader : Reader) (old new : Objects) : Type 0 where
  pub before : List ℕ
  pub last : List ℕ
  pub came : Came old.input new.input (before ++ last)
  pub few : length last ≤ most_piece
  pub unreserved : (judged_by reader before).unlocked ≡ true
      → is_framed (head reader.settings before) ≡ false
  pub unwritten : new.output ≡ old.output

-- why it wasn't decrypted, by what is read of it
abbrev pub EndsAsRead : Reader → Objects → Objects → Failure → Type 0
EndsAsRead reader before after (failures.Fault fault) = DecryptReadsFault reader before after fault
EndsAsRead reader before after (failures.Outside outsides.SourceFault) =
    ReadsNoFault reader before after (λ bytes. Rose before.input.faults after.input.faults)
EndsAsRead reader before after (failures.Outside outsides.InputTooLong) =
    ReadsNoFault reader before after (λ bytes. MostTaken before.input after.input bytes)
EndsAsRead reader before after (failures.Outside outsides.SinkFault) =
    GainsReadFront reader before after × Rose before.output.faults after.output.faults
EndsAsRead reader before after failures.Memory = ReadsNothing reader before after
EndsAsRead reader before after failure = ⊥

-- All was decrypted, or a failure ended the run: a fault (status 1), X1, X2 or X6 (4), or want of
-- memory (5); each as is read of the input, or of what its text gives.
abbrev pub SaysWhatIsReadAs : (armour : Bool) → Reader → Objects → Objects → ℕ → Type 0
SaysWhatIsReadAs armour reader before after code =
    ReadsAll armour before.input after.input
    (λ seen read. DecryptReadsWhole reader (with_input before seen) (with_input after read) code)
    ⊎ Fails (λ failure. InputEnds armour failure before.input after.input
    (λ seen read. EndsAsRead reader (with_input before seen) (with_input after read) failure)
    (λ seen read. ReadsNoFault reader (with_input before seen) (with_input after read)
    (EndSeen seen read))
    (λ seen read. ReadsNoFault reader (with_input before seen) (with_input after read)
    (λ bytes. ⊤)))
    code before.report after.report
