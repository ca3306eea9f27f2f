-- What is read of the bytes that a decryption took, with a reader's keys.
use Rattle.std.proofs.Common.{◌≡◌, ◌⊎◌, ◌∙◌, ℕ, Bool, List, inl, inr, sym, ap, subst}
use Rattle.std.specs.Prelude.{⊤}
use Rattle.std.specs.Io.KnownBytes.{Appends}
use Rattle.whole_input.specs.Taken.{EndSeen}
use Rattle.whole_input.specs.Written.{WritesBeyond}
use Rattle.esdk_fields.specs.declared.faults.Fault.{Fault}
use Rattle.esdk_fields.specs.declared.refusals.Outside.TheVariants as outsides
use Rattle.context_codec.specs.Context.{KeyValue}
use Rattle.keyring_trait.specs.Unlocking.{Unlocking, Unlocks}
use Rattle.message_format.specs.Judgement.{Judged, content, judged}
use Rattle.esdk_decrypt.specs.declared.errors.DecryptError.{DecryptError}
use Rattle.esdk_decrypt.specs.declared.errors.DecryptError.TheVariants as errors
use Rattle.esdk_decrypt.specs.Decrypt.{DecryptAsked, Decrypts, DecryptEnds, DecryptFindsFault, Releases, ReleasesFront, fault_at_end, fault_of}
use Rattle.esdk_decrypt.specs.Told.{Reader, decrypting_by, judged_by}
use Rattle.esdk_decrypt.proofs.Readers.{answers_unlocking, judged_first, judged_reader, never_fails}
use Rattle.esdk_run.specs.Failures.{decryption_failure}
use Rattle.esdk_run.specs.Objects.{Objects, with_input}
use Rattle.esdk_run.specs.Read.{EndsAsRead, GainsReadFront, GainsRead, DecryptReadsFault, ReadsNoFault, DecryptReadsWhole, SaysWhatIsReadAs}
use Rattle.esdk_report.specs.Report.{Reports}
use Rattle.esdk_run.specs.Run.{TellsOrLacksMemory}
use Rattle.esdk_run.specs.UnarmouredDecrypt.{DecryptsAs, DecryptEndsAs, ReleasesSound}
use Rattle.esdk_run.proofs.UnarmouredMaps.{all_then, ends_then}

-- how a decryption ended, and what was said of it
abbrev pub Ending : (armour : Bool) → DecryptAsked → Objects → Objects → Type 0 → ℕ → Type 0
Ending armour asked before after unwritten code =
    ((context : List KeyValue) × DecryptsAs armour asked before.input after.input before.output after.output context × TellsOrLacksMemory context code before.report after.report)
    ⊎ ((error : DecryptError) × DecryptEndsAs armour asked before.input after.input before.output after.output unwritten error × Reports (decryption_failure error) code before.report after.report)

-- ---- what was released is what is read

gains_read : (reader : Reader) (before after : Objects) (bytes : List ℕ) (answer : Unlocking)
    → Releases (decrypting_by reader) before.input after.input before.output after.output bytes answer → GainsRead reader before after bytes
gains_read reader before after bytes answer releases = record {
  came = releases.came;
  gained = subst (λ (j : Judged). Appends before.output.written after.output.written (content j)) (judged_reader reader bytes answer releases.answered) releases.gained;
}

-- the bytes before the last piece are judged with the same answer
gains_front : (reader : Reader) (before after : Objects) → ReleasesFront (decrypting_by reader) before.input after.input before.output after.output → GainsReadFront reader before after
gains_front reader before after front =
    let last = front.last in
    let all : judged front.bytes reader.settings front.answer ≡ judged_by reader front.bytes = judged_reader reader front.bytes front.answer front.answered in
    let first : judged last.before reader.settings front.answer ≡ judged_by reader last.before = judged_first reader front.bytes last.before last.piece front.answer last.all front.answered in
    record {
      bytes = front.bytes;
      came = front.came;
      last = record {
        before = last.before;
        piece = last.piece;
        all = last.all;
        few = last.few;
        was = record {
          sound = ap (λ (j : Judged). fault_of j.verdict) (sym first) ∙ last.was.sound;
          written = subst (λ (j : Judged). WritesBeyond before.output after.output (content j) (content (judged_by reader front.bytes))) first
              (subst (λ (j : Judged). WritesBeyond before.output after.output (content (judged last.before reader.settings front.answer)) (content j)) all last.was.written);
        };
      };
    }

reads_fault : (reader : Reader) (before after : Objects) (fault : Fault) → DecryptFindsFault (decrypting_by reader) before.input after.input before.output after.output fault
    → DecryptReadsFault reader before after fault
reads_fault reader before after fault has =
    let same : judged has.bytes reader.settings has.answer ≡ judged_by reader has.bytes = judged_reader reader has.bytes has.answer has.releases.answered in
    record {
      bytes = has.bytes;
      gains = gains_read reader before after has.bytes has.answer has.releases;
      cause = elim has.cause [
        | inl early ↦ inl (ap (λ (j : Judged). fault_of j.verdict) (sym same) ∙ early)
        | inr late ↦ inr (late.0, ap (λ (j : Judged). fault_at_end j.verdict) (sym same) ∙ late.1)
      ];
      last = record {
        before = has.last.before;
        piece = has.last.piece;
        all = has.last.all;
        few = has.last.few;
        was = ap (λ (j : Judged). fault_of j.verdict) (sym (judged_first reader has.bytes has.last.before has.last.piece has.answer has.last.all has.releases.answered)) ∙ has.last.was;
      };
    }

reads_whole : (reader : Reader) (before after : Objects) (code : ℕ) (context : List KeyValue)
    → Decrypts (decrypting_by reader) before.input after.input before.output after.output context → TellsOrLacksMemory context code before.report after.report
    → DecryptReadsWhole reader before after code
reads_whole reader before after code context done told =
    let answer : Unlocking = Unlocks context done.only done.key in
    let same : judged done.bytes reader.settings answer ≡ judged_by reader done.bytes = judged_reader reader done.bytes answer done.releases.answered in
    record {
      bytes = done.bytes;
      context = context;
      gains = gains_read reader before after done.bytes answer done.releases;
      end = done.end;
      whole = ap (λ (j : Judged). j.verdict) (sym same) ∙ done.whole;
      unlocked = (done.only, done.key, sym (answers_unlocking reader done.bytes answer done.releases.answered));
      told = told;
    }

-- ---- how it ended

ends_as_read : (reader : Reader) (before after : Objects) (unwritten : Type 0) (error : DecryptError) → (unwritten → after.output ≡ before.output)
    → DecryptEnds (decrypting_by reader) before.input after.input before.output after.output unwritten error → EndsAsRead reader before after (decryption_failure error)
ends_as_read reader before after unwritten (errors.Fault fault) same has = reads_fault reader before after fault has
ends_as_read reader before after unwritten (errors.Outside outsides.SourceFault) same fails = record {
  bytes = fails.bytes;
  gains = gains_read reader before after fails.bytes fails.answer fails.releases;
  sound = ap (λ (j : Judged). fault_of j.verdict) (sym (judged_reader reader fails.bytes fails.answer fails.releases.answered)) ∙ fails.sound;
  because = fails.rose;
}
ends_as_read reader before after unwritten (errors.Outside outsides.InputTooLong) same long = record {
  bytes = long.bytes;
  gains = gains_read reader before after long.bytes long.answer long.releases;
  sound = ap (λ (j : Judged). fault_of j.verdict) (sym (judged_reader reader long.bytes long.answer long.releases.answered)) ∙ long.sound;
  because = long.most;
}
ends_as_read reader before after unwritten (errors.Outside outsides.SinkFault) same fails = (gains_front reader before after fails.0, fails.1)
ends_as_read reader before after unwritten (errors.Outside outsides.KeyringFault) same fails = absurd (never_fails reader fails.0.bytes fails.0.failed)
ends_as_read reader before after unwritten (errors.Outside other) same none = absurd none
ends_as_read reader before after unwritten errors.Memory same lost = record {
  before = lost.0.before;
  last = lost.0.last;
  came = lost.0.came;
  few = lost.0.few;
  unreserved = λ unlocked. lost.0.lacks.unreserved (ap (λ (j : Judged). j.unlocked) (judged_reader reader lost.0.before lost.0.lacks.answer lost.0.lacks.answered) ∙ unlocked);
  unwritten = same lost.1;
}

-- of bytes that have no fault
sound_as_read : (reader : Reader) (before after : Objects) (cause : List ℕ → Type 0) → ReleasesSound (decrypting_by reader) before.input after.input before.output after.output cause
    → ReadsNoFault reader before after cause
sound_as_read reader before after cause x = record {
  bytes = x.bytes;
  gains = gains_read reader before after x.bytes x.answer x.releases;
  sound = ap (λ (j : Judged). fault_of j.verdict) (sym (judged_reader reader x.bytes x.answer x.releases.answered)) ∙ x.sound;
  because = x.because;
}

pub says_what_is_read : (armour : Bool) (reader : Reader) (before after : Objects) (unwritten : Type 0) (code : ℕ) → (unwritten → after.output ≡ before.output)
    → Ending armour (decrypting_by reader) before after unwritten code → SaysWhatIsReadAs armour reader before after code
says_what_is_read armour reader before after unwritten code same (inl (context, done, told)) =
    inl (all_then armour before.input after.input _ _ (λ seen read so. reads_whole reader (with_input before seen) (with_input after read) code context so told) done)
says_what_is_read armour reader before after unwritten code same (inr (error, ends, said)) = inr (record {
  failure = decryption_failure error;
  because = ends_then armour (decryption_failure error) before.input after.input _ _ _ _ _ _
      (λ seen read so. ends_as_read reader (with_input before seen) (with_input after read) unwritten error same so)
      (λ seen read all. sound_as_read reader (with_input before seen) (with_input after read) (EndSeen seen read) all)
      (λ seen read sound. sound_as_read reader (with_input before seen) (with_input after read) (λ bytes. ⊤) sound) ends;
  said = said;
})
