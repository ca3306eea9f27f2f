-- What decrypting an input comes to that is read as armour text, by how the decryption of what the
-- text gives ended, and by the text's end.
use Rattle.std.proofs.Common.{◌≡◌, ℕ, true, List, Ok, Err, refl, ap, inl, inr}
use Rattle.std.specs.Prelude.{IfErr, IfOk, ⊤}
use Rattle.std.specs.declared.result.Result.{Result}
use Rattle.esdk_fields.specs.declared.faults.Fault.{Fault}
use Rattle.esdk_fields.specs.declared.faults.Fault.TheVariants.{BadArmour, Truncated}
use Rattle.esdk_fields.specs.declared.refusals.Outside.TheVariants.{InputTooLong, SourceFault}
use Rattle.esdk_base.specs.Streams.{SinkState, SourceState}
use Rattle.whole_input.specs.Taken.{EndSeen}
use Rattle.context_codec.specs.Context.{KeyValue}
use Rattle.header_codec.specs.declared.settings.Settings.{Settings}
use Rattle.keyring_trait.specs.Manager.{ManagerNow}
use Rattle.keyring_trait.specs.Unlocking.{Unlocks}
use Rattle.message_format.specs.Judgement.{judged}
use Rattle.esdk_decrypt.specs.declared.errors.DecryptError.{DecryptError}
use Rattle.esdk_decrypt.specs.declared.errors.DecryptError.TheVariants as errors
use Rattle.esdk_decrypt.specs.Decrypt.{DecryptAsked, Decrypts, DecryptEnds, DecryptFindsFault, asked_from, fault_of}
use Rattle.esdk_run.specs.Failures.{decryption_failure}
use Rattle.esdk_run.specs.UnarmouredDecrypt.{DecryptsAs, DecryptEndsAs, ReleasesSound, is_open}
use Rattle.esdk_run.proofs.FormatFaults.{NamesFormat, cut_is_sound, never_armour, never_armour_before, never_cut, verdict_format}
use Rattle.esdk_run.proofs.Unarmouring.{IsOfBytes, ReadsOver, judged_sound, text_decides, text_ends, whole_reads}

-- ---- bytes without a fault

abbrev pub AllSound : DecryptAsked → SourceState → SourceState → SinkState → SinkState → Type 0
AllSound asked seen read output put = ReleasesSound asked seen read output put (EndSeen seen read)

front_sound : {asked : DecryptAsked} {seen read : SourceState} {output put : SinkState} → AllSound asked seen read output put
    → ReleasesSound asked seen read output put (λ bytes. ⊤)
front_sound all = record { bytes = all.bytes; answer = all.answer; releases = all.releases; sound = all.sound; because = tt }

-- a whole message
whole_sound : {asked : DecryptAsked} {seen read : SourceState} {output put : SinkState} {context : List KeyValue} → Decrypts asked seen read output put context
    → AllSound asked seen read output put
whole_sound {context = context} done = record {
  bytes = done.bytes;
  answer = Unlocks context done.only done.key;
  releases = done.releases;
  sound = ap fault_of done.whole;
  because = done.end;
}

released_format : (old new : ManagerNow) (now : ℕ) (settings : Settings) (given : List KeyValue) (seen read : SourceState) (output put : SinkState) (fault : Fault)
    (has : DecryptFindsFault (asked_from old new now settings given) seen read output put fault) → NamesFormat (judged has.bytes settings has.answer).verdict
released_format old new now settings given seen read output put fault has =
    verdict_format old new now settings given has.bytes has.answer has.releases.answered

-- one that is cut short
cut_sound : (old new : ManagerNow) (now : ℕ) (settings : Settings) (given : List KeyValue) (seen read : SourceState) (output put : SinkState)
    → DecryptFindsFault (asked_from old new now settings given) seen read output put Truncated → AllSound (asked_from old new now settings given) seen read output put
cut_sound old new now settings given seen read output put has =
    let names = released_format old new now settings given seen read output put Truncated has in
    elim has.cause [
      | inl early ↦ absurd (never_cut (judged has.bytes settings has.answer).verdict names early)
      | inr late ↦ record {
        bytes = has.bytes;
        answer = has.answer;
        releases = has.releases;
        sound = cut_is_sound (judged has.bytes settings has.answer).verdict names late.1;
        because = late.0;
      }
    ]

-- M27 isn't a fault of theirs
never_m27 : (old new : ManagerNow) (now : ℕ) (settings : Settings) (given : List KeyValue) (seen read : SourceState) (output put : SinkState) (number : ℕ)
    → DecryptFindsFault (asked_from old new now settings given) seen read output put (BadArmour number) → ⊥
never_m27 old new now settings given seen read output put number has =
    let names = released_format old new now settings given seen read output put (BadArmour number) has in
    elim has.cause [
      | inl early ↦ never_armour_before (judged has.bytes settings has.answer).verdict number names early
      | inr late ↦ never_armour (judged has.bytes settings has.answer).verdict number names late.1
    ]

open_sound : (old new : ManagerNow) (now : ℕ) (settings : Settings) (given : List KeyValue) (seen read : SourceState) (output put : SinkState) (unwritten : Type 0)
    (r : Result (List KeyValue) DecryptError) → is_open r ≡ true → IfOk r (Decrypts (asked_from old new now settings given) seen read output put)
    → IfErr r (DecryptEnds (asked_from old new now settings given) seen read output put unwritten) → AllSound (asked_from old new now settings given) seen read output put
open_sound old new now settings given seen read output put unwritten (Ok context) undecided done ends = whole_sound done
open_sound old new now settings given seen read output put unwritten (Err (errors.Fault Truncated)) undecided done ends =
    cut_sound old new now settings given seen read output put ends
open_sound old new now settings given seen read output put unwritten (Err (errors.Fault fault)) undecided done ends = absurd (cc undecided)
open_sound old new now settings given seen read output put unwritten (Err (errors.Outside outside)) undecided done ends = absurd (cc undecided)
open_sound old new now settings given seen read output put unwritten (Err errors.Memory) undecided done ends = absurd (cc undecided)

-- what is so of the bytes, by how their decryption ended
ends_known : (old new : ManagerNow) (now : ℕ) (settings : Settings) (given : List KeyValue) (seen read : SourceState) (output put : SinkState) (unwritten : Type 0)
    (error : DecryptError) → DecryptEnds (asked_from old new now settings given) seen read output put unwritten error
    → IsOfBytes (decryption_failure error) seen read (is_open (Err error)) (ReleasesSound (asked_from old new now settings given) seen read output put (λ bytes. ⊤))
ends_known old new now settings given seen read output put unwritten (errors.Fault (BadArmour number)) has = never_m27 old new now settings given seen read output put number has
ends_known old new now settings given seen read output put unwritten (errors.Fault Truncated) has =
    let all = cut_sound old new now settings given seen read output put has in (refl, record { bytes = all.bytes; came = all.releases.came; end = all.because })
ends_known old new now settings given seen read output put unwritten (errors.Fault fault) has = refl
ends_known old new now settings given seen read output put unwritten (errors.Outside SourceFault) fails =
    (fails.rose, record { bytes = fails.bytes; answer = fails.answer; releases = fails.releases; sound = fails.sound; because = tt })
ends_known old new now settings given seen read output put unwritten (errors.Outside InputTooLong) long = (
  record { bytes = long.bytes; came = long.releases.came; most = long.most },
  record { bytes = long.bytes; answer = long.answer; releases = long.releases; sound = long.sound; because = tt },
)
ends_known old new now settings given seen read output put unwritten (errors.Outside outside) fails = refl
ends_known old new now settings given seen read output put unwritten errors.Memory lacks = refl

-- ---- the text that gives them

module _ (old new : ManagerNow) (now : ℕ) (settings : Settings) (given : List KeyValue) (input taken seen read : SourceState) (output put : SinkState) (unwritten : Type 0) where
  abbrev asked : DecryptAsked
  asked = asked_from old new now settings given

  pub decrypted_text : (result : Result (List KeyValue) DecryptError) → ReadsOver input taken seen read (is_open result) (Ok tt) → IfOk result (Decrypts asked seen read output put)
      → IfOk result (DecryptsAs true asked input taken output put)
  decrypted_text (Ok context) over done = whole_reads over _ refl (record { bytes = done.bytes; came = done.releases.came; end = done.end }) done
  decrypted_text (Err error) over done = tt

  pub text_undone : (result : Result (List KeyValue) DecryptError) → ReadsOver input taken seen read (is_open result) (Ok tt)
      → IfErr result (DecryptEnds asked seen read output put unwritten) → IfErr result (DecryptEndsAs true asked input taken output put unwritten)
  text_undone (Ok context) over ends = tt
  text_undone (Err error) over ends =
      text_ends over _ _ _ (decryption_failure error) ends (ends_known old new now settings given seen read output put unwritten error ends)

  -- the text's end decides
  pub text_refused : (result : Result (List KeyValue) DecryptError) (error : DecryptError) → ReadsOver input taken seen read (is_open result) (Err error)
      → IfOk result (Decrypts asked seen read output put) → IfErr result (DecryptEnds asked seen read output put unwritten)
      → DecryptEndsAs true asked input taken output put unwritten error
  text_refused result error over done ends =
      let all = open_sound old new now settings given seen read output put unwritten result (judged_sound error over) done ends in
      text_decides _ _ _ error over all.because.faults all (front_sound all)
