-- What `decrypt` says of an input that tells an armour text.
use Rattle.std.proofs.Common.{◌≡◌, ◌∙◌, ℕ, ◌^◌, ◌<◌, true, false, List, [], ◌++◌, length, Option, Some, None, refl, sym, ap, subst, arith}
use Rattle.std.specs.Prelude.{⊤}
use Rattle.std.proofs.lemmas.List.{append-nil}
use Rattle.std.specs.Io.KnownBytes.{Appends, Consumes, IsAtEnd}
use Rattle.esdk_fields.specs.Bytes.{AreBytes}
use Rattle.esdk_fields.specs.declared.faults.Fault.{Fault}
use Rattle.esdk_fields.specs.declared.faults.Fault.TheVariants.{BadArmour, Truncated}
use Rattle.esdk_fields.specs.declared.refusals.Outside.TheVariants.{InputTooLong, SourceFault}
use Rattle.esdk_base.specs.Streams.{SourceState}
use Rattle.armour_core.specs.ArmourText.{armour_text}
use Rattle.armour_core.specs.Outlook.{Outlook, text_outlook}
use Rattle.armour_core.specs.declared.text_end.TextEnd.{TextEnd}
use Rattle.armour_core.specs.declared.text_end.TextEnd.TheVariants.{Bad, TooLong, Whole}
use Rattle.armour_core.proofs.ReadBack.{takes_armour_text}
use Rattle.armour_core.proofs.Sizes.{outlook_few}
use Rattle.keyring_trait.specs.Wrapping.{WrapKeyValue}
use Rattle.body_format.specs.declared.verdicts.Verdict.{Verdict}
use Rattle.body_format.specs.declared.verdicts.Verdict.TheVariants as verdicts
use Rattle.message_format.specs.Judgement.{Judged, content}
use Rattle.whole_input.specs.Taken.{EndSeen}
use Rattle.esdk_decrypt.specs.declared.errors.DecryptError.{DecryptError}
use Rattle.esdk_decrypt.specs.declared.errors.DecryptError.TheVariants as errors
use Rattle.esdk_decrypt.specs.Decrypt.{DecryptEnds, DecryptFindsFault, fault_at_end, fault_of}
use Rattle.esdk_decrypt.specs.Laws.{IsWholeInput, IsWrittenFor, Written, written_message}
use Rattle.esdk_decrypt.specs.Told.{Reader, decrypting_by, judged_by}
use Rattle.esdk_decrypt.proofs.Readers.{judged_reader}
use Rattle.esdk_decrypt.proofs.RoundTrip.{written_whole}
use Rattle.esdk_decrypt.proofs.WholeInputs.{first_fault, memory_alone}
use Rattle.esdk_report.specs.declared.failure.Failure.TheVariants as failures
use Rattle.esdk_run.specs.Failures.{decryption_failure}
use Rattle.esdk_run.specs.Objects.{Objects}
use Rattle.esdk_run.specs.Told.{StreamsDontFail}
use Rattle.esdk_run.specs.Unarmoured.{ReadsText, TextEnds, given_by_text}
use Rattle.esdk_run.specs.UnarmouredDecrypt.{DecryptEndsAs, ReleasesSound}
use Rattle.esdk_run.specs.UnarmouredTold.{IsWholeText, input_fault}
use Rattle.esdk_run.proofs.Unarmouring.{of_told}

-- what a reader has of a text that is told
pub text_seen : {Reach : List ℕ → List ℕ → Type 0} (input taken : SourceState) (So : SourceState → SourceState → Type 0) (text : List ℕ) (x : ReadsText Reach input taken So) → input.left ≡ Some text
    → x.seen.left ≡ Some (text_outlook text).bytes
text_seen input taken So text x told = x.gives ∙ ap (λ (l : Option (List ℕ)). given_by_text l) told

-- ---- only want of memory keeps a whole message in a whole text from being decrypted

inner_memory : {Reach : List ℕ → List ℕ → Type 0} (reader : Reader) (before after : Objects) (unwritten : Type 0) (text : List ℕ) (error : DecryptError) → IsWholeText reader before.input text → StreamsDontFail before after
    → ReadsText Reach before.input after.input (λ seen read. DecryptEnds (decrypting_by reader) seen read before.output after.output unwritten error) → error ≡ errors.Memory
inner_memory reader before after unwritten text error whole nothing x =
    memory_alone reader x.seen x.read before.output after.output unwritten (text_outlook text).bytes error
    (record { told = text_seen before.input after.input _ text x whole.told; few = outlook_few text; whole = whole.whole }) (x.stayed nothing.reading) nothing.writing x.so

pub text_memory : (reader : Reader) (before after : Objects) (unwritten : Type 0) (text : List ℕ) (error : DecryptError) → IsWholeText reader before.input text → StreamsDontFail before after
    → DecryptEndsAs true (decrypting_by reader) before.input after.input before.output after.output unwritten error → error ≡ errors.Memory
text_memory reader before after unwritten text (errors.Fault (BadArmour number)) whole nothing ends =
    let bad : (text_outlook text).end ≡ Bad number = of_told before.input.left (λ t. (text_outlook t).end ≡ Bad number) text whole.told ends.0.told in
    let both : Whole ≡ Bad number = sym whole.end ∙ bad in absurd (cc both)
text_memory reader before after unwritten text (errors.Fault Truncated) whole nothing ends = inner_memory reader before after unwritten text (errors.Fault Truncated) whole nothing ends.1
text_memory reader before after unwritten text (errors.Outside SourceFault) whole nothing ends = absurd (omega (arith, nothing.reading, ends.0))
text_memory reader before after unwritten text (errors.Outside InputTooLong) whole nothing ends =
    let bad : (text_outlook text).end ≡ TooLong = of_told before.input.left (λ t. (text_outlook t).end ≡ TooLong) text whole.told ends.0.told in
    let both : Whole ≡ TooLong = sym whole.end ∙ bad in absurd (cc both)
text_memory reader before after unwritten text (errors.Fault fault) whole nothing x = inner_memory reader before after unwritten text (errors.Fault fault) whole nothing x
text_memory reader before after unwritten text (errors.Outside outside) whole nothing x = inner_memory reader before after unwritten text (errors.Outside outside) whole nothing x
text_memory reader before after unwritten text errors.Memory whole nothing x = refl

-- ---- the fault that is named

-- The fault of a text, and what its judgement releases.
pub record TextFault (reader : Reader) (before after : Objects) (text : List ℕ) (fault : Fault) : Type 0 where
  pub cause : input_fault (text_outlook text).end (judged_by reader (text_outlook text).bytes).verdict ≡ Some fault
  pub gained : Appends before.output.written after.output.written (content (judged_by reader (text_outlook text).bytes))

all_of : (left : Option (List ℕ)) (all bytes : List ℕ) → Consumes (Some all) left bytes → IsAtEnd left → all ≡ bytes
all_of None all bytes none end = absurd none
all_of (Some rest) all bytes is end = is ∙ ap (λ (r : List ℕ). bytes ++ r) end ∙ append-nil bytes

-- behind all bytes that the text gives
bad_named : (v : Verdict) (number : ℕ) → fault_of v ≡ None → input_fault (Bad number) v ≡ Some (BadArmour number)
bad_named verdicts.Going number sound = refl
bad_named verdicts.Whole number sound = refl
bad_named (verdicts.Faulty fault) number sound = absurd (cc sound)

-- one that stands in them
early_named : (end : TextEnd) (v : Verdict) (fault : Fault) → (Truncated ≡ fault → ⊥) → fault_at_end v ≡ Some fault → input_fault end v ≡ Some fault
early_named Whole v fault other is = is
early_named (Bad number) verdicts.Going fault other is = absurd (other (cc is))
early_named (Bad number) verdicts.Whole fault other is = absurd (cc is)
early_named (Bad number) (verdicts.Faulty fault) same other is = is
early_named TooLong verdicts.Going fault other is = absurd (other (cc is))
early_named TooLong verdicts.Whole fault other is = absurd (cc is)
early_named TooLong (verdicts.Faulty fault) same other is = is

fault_is : (reader : Reader) (seen read : SourceState) (before after : Objects) (unwritten : Type 0) (fault : Fault) (error : DecryptError) → decryption_failure error ≡ failures.Fault fault
    → DecryptEnds (decrypting_by reader) seen read before.output after.output unwritten error → DecryptFindsFault (decrypting_by reader) seen read before.output after.output fault
fault_is reader seen read before after unwritten fault (errors.Fault other) is ends =
    let same : other ≡ fault = cc is in subst (λ (f : Fault). DecryptFindsFault (decrypting_by reader) seen read before.output after.output f) same ends
fault_is reader seen read before after unwritten fault (errors.Outside outside) is ends = absurd (cc is)
fault_is reader seen read before after unwritten fault errors.Memory is ends = absurd (cc is)

-- what was read is the first fault of all that the text gives
first_of : {Reach : List ℕ → List ℕ → Type 0} (reader : Reader) (before after : Objects) (unwritten : Type 0) (text : List ℕ) (fault : Fault) (error : DecryptError) → before.input.left ≡ Some text
    → decryption_failure error ≡ failures.Fault fault → ReadsText Reach before.input after.input (λ seen read. DecryptEnds (decrypting_by reader) seen read before.output after.output unwritten error)
    → (fault_at_end (judged_by reader (text_outlook text).bytes).verdict ≡ Some fault)
    × Appends before.output.written after.output.written (content (judged_by reader (text_outlook text).bytes))
first_of reader before after unwritten text fault error told is x =
    first_fault reader x.seen x.read before.output after.output (text_outlook text).bytes fault (text_seen before.input after.input _ text x told)
    (fault_is reader x.seen x.read before after unwritten fault error is x.so)

pub text_fault : (reader : Reader) (before after : Objects) (unwritten : Type 0) (text : List ℕ) (fault : Fault) (error : DecryptError) → before.input.left ≡ Some text
    → decryption_failure error ≡ failures.Fault fault
    → TextEnds (failures.Fault fault) before.input after.input (λ seen read. DecryptEnds (decrypting_by reader) seen read before.output after.output unwritten error)
    (λ seen read. ReleasesSound (decrypting_by reader) seen read before.output after.output (EndSeen seen read))
    (λ seen read. ReleasesSound (decrypting_by reader) seen read before.output after.output (λ bytes. ⊤)) → TextFault reader before after text fault
text_fault reader before after unwritten text (BadArmour number) error told is (end, x) =
    let all = x.so in
    let seen_is : x.seen.left ≡ Some (text_outlook text).bytes = text_seen before.input after.input _ text x told in
    let whole : (text_outlook text).bytes ≡ all.bytes =
    all_of x.read.left (text_outlook text).bytes all.bytes (subst (λ (l : Option (List ℕ)). Consumes l x.read.left all.bytes) seen_is all.releases.came.consumed) all.because.end in
    let same = judged_reader reader all.bytes all.answer all.releases.answered in
    let judged_all : judged_by reader all.bytes ≡ judged_by reader (text_outlook text).bytes = ap (λ (b : List ℕ). judged_by reader b) (sym whole) in
    let sound : fault_of (judged_by reader (text_outlook text).bytes).verdict ≡ None = sym (ap (λ (j : Judged). fault_of j.verdict) (same ∙ judged_all)) ∙ all.sound in
    let bad : (text_outlook text).end ≡ Bad number = of_told before.input.left (λ t. (text_outlook t).end ≡ Bad number) text told end.told in
    record {
      cause = ap (λ (e : TextEnd). input_fault e (judged_by reader (text_outlook text).bytes).verdict) bad ∙ bad_named (judged_by reader (text_outlook text).bytes).verdict number sound;
      gained = subst (λ (j : Judged). Appends before.output.written after.output.written (content j)) (same ∙ judged_all) all.releases.gained;
    }
text_fault reader before after unwritten text Truncated error told is (end, x) =
    let first = first_of reader before after unwritten text Truncated error told is x in
    let whole : (text_outlook text).end ≡ Whole = of_told before.input.left (λ t. (text_outlook t).end ≡ Whole) text told end.told in
    record { cause = ap (λ (e : TextEnd). input_fault e (judged_by reader (text_outlook text).bytes).verdict) whole ∙ first.0; gained = first.1 }
text_fault reader before after unwritten text fault error told is x =
    let first = first_of reader before after unwritten text fault error told is x in
    record { cause = early_named (text_outlook text).end (judged_by reader (text_outlook text).bytes).verdict fault (λ same. cc same) first.0; gained = first.1 }

-- ---- round trip

-- an armour text gives what it was made of, and is whole
armoured : (bytes : List ℕ) → AreBytes bytes → length (armour_text bytes) < 2 ^ 62 → text_outlook (armour_text bytes) ≡ (let o : Outlook = record { bytes = bytes; end = Whole } in o)
armoured bytes fits few = takes_armour_text bytes fits few

pub armoured_bytes : (bytes : List ℕ) → AreBytes bytes → length (armour_text bytes) < 2 ^ 62 → (text_outlook (armour_text bytes)).bytes ≡ bytes
armoured_bytes bytes fits few = ap (λ (o : Outlook). o.bytes) (armoured bytes fits few)

pub written_text : (reader : Reader) (writers : List WrapKeyValue) (m : Written) (input : SourceState) → IsWrittenFor reader writers m → AreBytes (written_message m)
    → input.left ≡ Some (armour_text (written_message m)) → length (armour_text (written_message m)) < 2 ^ 62 → IsWholeText reader input (armour_text (written_message m))
written_text reader writers m input written fits told few =
    let bytes : List ℕ = written_message m in
    let gives = armoured_bytes bytes fits few in
    let short : length bytes < 2 ^ 62 = subst (λ (b : List ℕ). length b < 2 ^ 62) gives (outlook_few (armour_text bytes)) in
    let source : SourceState = record { left = Some bytes; given = 0; faults = 0; came = []; ended = false } in
    let whole : IsWholeInput reader source bytes = written_whole reader writers m source written refl short in
    record {
      told = told;
      end = ap (λ (o : Outlook). o.end) (armoured bytes fits few);
      whole = ap (λ (b : List ℕ). (judged_by reader b).verdict) gives ∙ whole.whole;
    }
