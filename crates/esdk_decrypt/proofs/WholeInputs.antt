-- What the bytes taken say of all the bytes that an input tells.
use Rattle.std.proofs.Common.{◌≡◌, ◌∙◌, ℕ, ◌≤◌, List, ◌++◌, length, Option, Some, None, refl, sym, ap, subst, arith, append-nil, length-append, inl, inr}
use Rattle.std.specs.Io.KnownBytes.{Appends, Consumes, IsAtEnd}
use Rattle.esdk_fields.specs.Counts.{Stayed}
use Rattle.esdk_base.specs.Streams.{SinkState, SourceState}
use Rattle.esdk_fields.specs.declared.faults.Fault.{Fault}
use Rattle.esdk_fields.specs.declared.refusals.Outside.TheVariants as outsides
use Rattle.context_codec.specs.Context.{KeyValue}
use Rattle.keyring_trait.specs.Unlocking.{Unlocks}
use Rattle.body_format.specs.declared.verdicts.Verdict.{Verdict}
use Rattle.body_format.specs.declared.verdicts.Verdict.TheVariants.{Going, Whole, Faulty}
use Rattle.message_format.specs.Judgement.{Judged, content, judged}
use Rattle.message_format.specs.Reading.{unlocking}
use Rattle.message_format.proofs.Following.{faults_stay}
use Rattle.message_format.proofs.ReadingOn.{read_goes_on}
use Rattle.whole_input.specs.Taken.{Came, EndSeen}
use Rattle.esdk_decrypt.specs.Decrypt.{fault_of, fault_at_end, Decrypts, DecryptFindsFault, DecryptEnds}
use Rattle.esdk_decrypt.specs.Told.{Reader, decrypting_by, judged_by}
use Rattle.esdk_decrypt.specs.Laws.{IsWholeInput, IsWholeMessage}
use Rattle.esdk_decrypt.specs.declared.errors.DecryptError.{DecryptError}
use Rattle.esdk_decrypt.specs.declared.errors.DecryptError.TheVariants as errors
use Rattle.esdk_decrypt.proofs.Readers.{answers_unlocking, judged_reader, never_fails}

-- ---- the bytes that came

front_of : (left : Option (List ℕ)) (told bytes : List ℕ) → Consumes (Some told) left bytes → (more : List ℕ) × (told ≡ bytes ++ more)
front_of None told bytes none = absurd none
front_of (Some more) told bytes is = (more, is)

all_of : (left : Option (List ℕ)) (told bytes : List ℕ) → Consumes (Some told) left bytes → IsAtEnd left → told ≡ bytes
all_of None told bytes none end = absurd none
all_of (Some more) told bytes is end = is ∙ ap (λ rest. bytes ++ rest) end ∙ append-nil bytes

consumed : (input taken : SourceState) (told bytes : List ℕ) → input.left ≡ Some told → Came input taken bytes → Consumes (Some told) taken.left bytes
consumed input taken told bytes is came = subst (λ left. Consumes left taken.left bytes) is came.consumed

-- they are a front of those that were told
came_front : (input taken : SourceState) (told bytes : List ℕ) → input.left ≡ Some told → Came input taken bytes → (more : List ℕ) × (told ≡ bytes ++ more)
came_front input taken told bytes is came = front_of taken.left told bytes (consumed input taken told bytes is came)

-- and all of them, where the end was seen
came_all : (input taken : SourceState) (told bytes : List ℕ) → input.left ≡ Some told → Came input taken bytes → EndSeen input taken bytes → told ≡ bytes
came_all input taken told bytes is came seen = all_of taken.left told bytes (consumed input taken told bytes is came) seen.end

came_few : (input taken : SourceState) (told bytes : List ℕ) → input.left ≡ Some told → Came input taken bytes → length bytes ≤ length told
came_few input taken told bytes is came =
    let front = came_front input taken told bytes is came in
    omega (arith, ap length front.1, length-append bytes front.0)

-- ---- their judgement

faulty : (v : Verdict) (fault : Fault) → fault_of v ≡ Some fault → v ≡ Faulty fault
faulty Going fault e = absurd cc
faulty Whole fault e = absurd cc
faulty (Faulty other) fault e = cc

fault_ends : (v : Verdict) (fault : Fault) → fault_of v ≡ Some fault → fault_at_end v ≡ Some fault
fault_ends Going fault e = absurd cc
fault_ends Whole fault e = absurd cc
fault_ends (Faulty other) fault e = e

-- a fault of a front is the fault of the whole, with what was released before it
front_judged : (reader : Reader) (told bytes more : List ℕ) (fault : Fault) → told ≡ bytes ++ more
    → fault_of (judged_by reader bytes).verdict ≡ Some fault → judged_by reader told ≡ judged_by reader bytes
front_judged reader told bytes more fault is e =
    ap (judged_by reader) is
    ∙ faults_stay (judged_by reader) (read_goes_on reader.settings reader.given reader.required reader.keys) bytes more fault
    (faulty (judged_by reader bytes).verdict fault e)

-- ---- what ended a decryption

-- a fault that is answered is that of all the bytes
fault_judged : (reader : Reader) (input taken : SourceState) (output put : SinkState) (told : List ℕ) (fault : Fault)
    → input.left ≡ Some told → (has : DecryptFindsFault (decrypting_by reader) input taken output put fault)
    → (judged_by reader told ≡ judged has.bytes reader.settings has.answer) × (fault_at_end (judged has.bytes reader.settings has.answer).verdict ≡ Some fault)
fault_judged reader input taken output put told fault is has =
    let same = judged_reader reader has.bytes has.answer has.releases.answered in
    elim has.cause [
      | inl early ↦
          let front = came_front input taken told has.bytes is has.releases.came in
          (front_judged reader told has.bytes front.0 fault front.1 (rw same at early) ∙ sym same, fault_ends (judged has.bytes reader.settings has.answer).verdict fault early)
      | inr late ↦ (ap (judged_by reader) (came_all input taken told has.bytes is has.releases.came late.0) ∙ sym same, late.1)
    ]

pub first_fault : (reader : Reader) (input taken : SourceState) (output put : SinkState) (told : List ℕ) (fault : Fault)
    → input.left ≡ Some told → DecryptFindsFault (decrypting_by reader) input taken output put fault
    → (fault_at_end (judged_by reader told).verdict ≡ Some fault) × Appends output.written put.written (content (judged_by reader told))
first_fault reader input taken output put told fault is has =
    let all = fault_judged reader input taken output put told fault is has in (
      ap (λ (j : Judged). fault_at_end j.verdict) all.0 ∙ all.1,
      subst (λ (j : Judged). Appends output.written put.written (content j)) (sym all.0) has.releases.gained,
    )

-- what is decrypted is all the bytes
pub all_decrypted : (reader : Reader) (input taken : SourceState) (output put : SinkState) (context : List KeyValue) (told : List ℕ)
    → input.left ≡ Some told → Decrypts (decrypting_by reader) input taken output put context → IsWholeMessage reader told output put context
all_decrypted reader input taken output put context told is done =
    let all = came_all input taken told done.bytes is done.releases.came done.end in
    let same = ap (judged_by reader) all ∙ sym (judged_reader reader done.bytes (Unlocks context done.only done.key) done.releases.answered) in
    record {
      only = done.only;
      key = done.key;
      unlocked = ap (λ b. unlocking b reader.settings reader.given reader.required reader.keys) all
          ∙ sym (answers_unlocking reader done.bytes (Unlocks context done.only done.key) done.releases.answered);
      whole = ap (λ (j : Judged). j.verdict) same ∙ done.whole;
      gained = subst (λ (j : Judged). Appends output.written put.written (content j)) (sym same) done.releases.gained;
    }

-- of a whole input only memory can be wanting
pub memory_alone : (reader : Reader) (input taken : SourceState) (output put : SinkState) (unwritten : Type 0) (told : List ℕ) (error : DecryptError)
    → IsWholeInput reader input told → Stayed input.faults taken.faults → Stayed output.faults put.faults
    → DecryptEnds (decrypting_by reader) input taken output put unwritten error → error ≡ errors.Memory
memory_alone reader input taken output put unwritten told (errors.Fault fault) whole source sink has =
    let named = first_fault reader input taken output put told fault whole.told has in
    let none : None ≡ Some fault = sym (ap fault_at_end whole.whole) ∙ named.0 in
    absurd cc
memory_alone reader input taken output put unwritten told (errors.Outside outsides.SourceFault) whole source sink failed = absurd (omega (arith, source, failed.rose))
memory_alone reader input taken output put unwritten told (errors.Outside outsides.SinkFault) whole source sink failed = absurd (omega (arith, sink, failed.1))
memory_alone reader input taken output put unwritten told (errors.Outside outsides.KeyringFault) whole source sink failed = absurd (never_fails reader failed.0.bytes failed.0.failed)
memory_alone reader input taken output put unwritten told (errors.Outside outsides.InputTooLong) whole source sink failed =
    absurd (omega (arith, came_few input taken told failed.bytes whole.told failed.releases.came, failed.most.count, whole.few))
memory_alone reader input taken output put unwritten told (errors.Outside other) whole source sink none = absurd none
memory_alone reader input taken output put unwritten told errors.Memory whole source sink free = refl
