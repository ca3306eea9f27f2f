-- What a step says of an input, said of bytes that are all known.
use Rattle.std.proofs.Common.{◌≡◌, ◌∙◌, ◌⊎◌, ℕ, List, [], ◌++◌, length, Some, false, true, inl, inr, refl, sym, ap, subst, arith, append_assoc, append-nil}
use Rattle.esdk_fields.specs.declared.faults.Fault.{Fault}
use Rattle.esdk_fields.specs.declared.refusals.Outside.TheVariants as outsides
use Rattle.esdk_fields.specs.declared.refusals.Refusal.{Refusal}
use Rattle.esdk_fields.specs.declared.refusals.Refusal.TheVariants.{TooManyFrames}
use Rattle.esdk_fields.specs.Place.{start}
use Rattle.esdk_fields.specs.Reading.{Reading, Read, Refused, Wanting}
use Rattle.esdk_fields.proofs.Fronts.{fault_stays, value_stays}
use Rattle.esdk_fields.specs.Counts.{Rose}
use Rattle.esdk_base.specs.Receiver.{SinkTakes}
use Rattle.esdk_base.specs.Sink.{AppendsFront}
use Rattle.esdk_base.specs.Streams.{SinkState, SourceState}
use Rattle.context_codec.specs.Context.{KeyValue}
use Rattle.header_codec.specs.declared.settings.Settings.{Settings}
use Rattle.header_codec.specs.Header.{HeaderValue}
use Rattle.header_codec.specs.Table.{HeaderFields, header}
use Rattle.header_codec.proofs.Order.{IsSequential-header}
use Rattle.keyring_trait.specs.declared.manager_errors.ManagerError.TheVariants as managers
use Rattle.keyring_trait.specs.Unlocking.{Unlocking, Unlocks}
use Rattle.body_format.specs.declared.verdicts.Verdict.{Verdict}
use Rattle.body_format.specs.declared.verdicts.Verdict.TheVariants.{Going, Whole, Faulty}
use Rattle.message_format.specs.Judgement.{Judged, content, judged}
use Rattle.message_format.proofs.Following.{faults_stay, header_stays, judged_goes_on}
use Rattle.message_format.proofs.Judging.{judged_wanting}
use Rattle.stream_open.specs.Asking.{request_of}
use Rattle.whole_input.specs.Taken.{Came}
use Rattle.whole_input.proofs.Fronts.{front_beyond}
use Rattle.esdk_decrypt.specs.Decrypt.{Answering, AnswersReading, AnswersRequest, AnswersTo, FailsReading, FailsTo, DecryptManagerFails, fault_at_end, fault_of}
use Rattle.reseal_core.specs.declared.errors.InputError.{InputError}
use Rattle.reseal_core.specs.declared.errors.InputError.TheVariants as errors
use Rattle.reseal_core.specs.declared.errors.ResealError.{ResealError}
use Rattle.reseal_core.specs.declared.errors.ResealError.TheVariants as reseals
use Rattle.reseal_core.specs.Front.{request_for}
use Rattle.reseal_core.specs.Reseal as inputs
use Rattle.reseal_core.specs.Reseal.{OpensFirst, Resealing, RefusesHeader, WritesNewMessage, ResealWritesFront}
use Rattle.reseal_core.specs.Underway.{ResealErrorIsCalled}
use Rattle.callers.specs.Resealing.{ResealsNot, ResealedBytesHaveFault, IsWholeAnd, OpensAnd}

-- ---- bytes as an input that tells them

-- an input that tells these bytes
abbrev pub told : List ℕ → SourceState
told bytes = record { left = Some bytes; given = 0; faults = 0; came = []; ended = false }

-- and what it is once the first of them came
abbrev pub left : List ℕ → List ℕ → SourceState
left taken more = record { left = Some more; given = length taken; faults = 0; came = taken; ended = true }

pub came_so : (taken more : List ℕ) → Came (told (taken ++ more)) (left taken more) taken
came_so taken more = record { told = refl; consumed = refl; given = omega arith; most = omega arith }

-- ---- what is answered to the header, when more follows

read_on : (manager : Answering) (settings : Settings) (given : List KeyValue) (b more : List ℕ) (answer : Unlocking) (r : Reading HeaderFields) → header settings (start b) ≡ r → (r ≡ Wanting → ⊥)
    → AnswersReading manager given b r answer → AnswersTo manager settings given (b ++ more) answer
read_on manager settings given b more answer (Read parts p) e not answered =
    subst (λ (r : Reading HeaderFields). AnswersReading manager given (b ++ more) r answer) (sym (value_stays (header settings) b more parts p (IsSequential-header settings) e))
    (subst (λ (h : HeaderValue). AnswersRequest manager (request_of given h) answer) (sym (header_stays settings b more parts p e)) answered)
read_on manager settings given b more answer (Refused fault at) e not answered =
    subst (λ (r : Reading HeaderFields). AnswersReading manager given (b ++ more) r answer) (sym (fault_stays (header settings) b more fault at (IsSequential-header settings) e)) answered
read_on manager settings given b more answer Wanting e not answered = absurd (not refl)

not_both : (fault : Fault) → fault_of Going ≡ Some fault → ⊥
not_both fault e = absurd cc

answers_on : (manager : Answering) (settings : Settings) (given : List KeyValue) (b more : List ℕ) (answer : Unlocking) (fault : Fault) → fault_of (judged b settings answer).verdict ≡ Some fault
    → AnswersTo manager settings given b answer → AnswersTo manager settings given (b ++ more) answer
answers_on manager settings given b more answer fault at answered =
    read_on manager settings given b more answer (header settings (start b)) refl
    (λ wanting. not_both fault (sym (ap (λ (j : Judged). fault_of j.verdict) (judged_wanting b settings answer wanting)) ∙ at)) answered

fails_by : (manager : Answering) (settings : Settings) (given : List KeyValue) (b more : List ℕ) (r : Reading HeaderFields) → header settings (start b) ≡ r → FailsReading manager given b r → FailsTo manager settings given (b ++ more)
fails_by manager settings given b more (Read parts p) e failed =
    subst (λ (r : Reading HeaderFields). FailsReading manager given (b ++ more) r) (sym (value_stays (header settings) b more parts p (IsSequential-header settings) e))
    (subst (λ (h : HeaderValue). manager.finds_none (request_of given h) managers.KeyringFault) (sym (header_stays settings b more parts p e)) failed)
fails_by manager settings given b more (Refused fault at) e failed = absurd failed
fails_by manager settings given b more Wanting e failed = absurd failed

fails_on : (manager : Answering) (settings : Settings) (given : List KeyValue) (b more : List ℕ) → FailsTo manager settings given b → FailsTo manager settings given (b ++ more)
fails_on manager settings given b more failed = fails_by manager settings given b more (header settings (start b)) refl failed

-- ---- faults

faulty : (v : Verdict) (fault : Fault) → fault_of v ≡ Some fault → v ≡ Faulty fault
faulty Going fault e = absurd cc
faulty Whole fault e = absurd cc
faulty (Faulty other) fault e = cc

module _ (asked : Resealing) (random taken more : List ℕ) (output put : SinkState) where
  -- those that came are a front of all
  front_is : (first : List ℕ) → Came (told (taken ++ more)) (left taken more) first → taken ++ more ≡ first ++ more
  front_is first came = came.consumed

  fault_early : (fault : Fault) (f : inputs.ResealFindsFault asked random (told (taken ++ more)) (left taken more) output put fault) → fault_of (judged f.bytes asked.opening.settings f.answer).verdict ≡ Some fault
      → ResealedBytesHaveFault asked random (f.bytes ++ more) output put fault
  fault_early fault f early =
      let now_faulty : (judged f.bytes asked.opening.settings f.answer).verdict ≡ Faulty fault = faulty (judged f.bytes asked.opening.settings f.answer).verdict fault early in
      let same : judged (f.bytes ++ more) asked.opening.settings f.answer ≡ judged f.bytes asked.opening.settings f.answer =
      faults_stay (λ (b : List ℕ). judged b asked.opening.settings f.answer) (judged_goes_on asked.opening.settings f.answer) f.bytes more fault now_faulty in
      record {
        answer = f.answer;
        answered = answers_on asked.opening.manager asked.opening.settings asked.opening.given f.bytes more f.answer fault early f.passes.answered;
        cause = ap (λ (j : Judged). fault_at_end j.verdict) same ∙ ap fault_at_end now_faulty;
        written = subst (λ (j : Judged). WritesNewMessage asked random f.answer j output put) (sym same) f.passes.written;
      }

  pub fault_so : (fault : Fault) → inputs.ResealFindsFault asked random (told (taken ++ more)) (left taken more) output put fault → ResealedBytesHaveFault asked random (taken ++ more) output put fault
  fault_so fault f = elim f.cause [
    | inl early ↦ subst (λ (b : List ℕ). ResealedBytesHaveFault asked random b output put fault) (sym (front_is f.bytes f.passes.came)) (fault_early fault f early)
    | inr late ↦
        (let all : taken ++ more ≡ f.bytes = front_is f.bytes f.passes.came ∙ ap (λ (b : List ℕ). f.bytes ++ b) late.0.end ∙ append-nil f.bytes in
        subst (λ (b : List ℕ). ResealedBytesHaveFault asked random b output put fault) (sym all)
        (record { answer = f.answer; answered = f.passes.answered; cause = late.1; written = f.passes.written }))
  ]

  -- ---- bytes that unlock the old message

  pub opens_so : (first : List ℕ) (whole only : List KeyValue) (key : List ℕ) (so : List KeyValue → List KeyValue → List ℕ → Type 0) → OpensFirst asked (told (taken ++ more)) (left taken more) first whole only key
      → so whole only (content (judged first asked.opening.settings (Unlocks whole only key))) → OpensAnd asked (taken ++ more) so
  opens_so first whole only key so o is = record {
    first = first;
    behind = o.behind ++ more;
    all = front_is (first ++ o.behind) o.came ∙ append_assoc first o.behind more;
    whole = whole;
    only = only;
    key = key;
    answered = o.answered;
    sound = o.sound;
    unlocked = o.unlocked;
    is = is;
  }

  -- ---- each error

  refusal_so : (refusal : Refusal)
      → (inputs.RefusesMessage asked random (told (taken ++ more)) (left taken more) output put refusal ⊎ ((refusal ≡ TooManyFrames) × inputs.ResealNeedsTooManyFrames asked random (told (taken ++ more)) (left taken more) output put))
      → ResealsNot asked random (taken ++ more) output put (reseals.Refusal refusal)
  refusal_so refusal (inl r) = inl (
    r.nothing,
    opens_so r.first r.whole r.only r.key (λ whole only text. asked.gives_none (request_for whole only) (managers.Refusal refusal) ⊎ RefusesHeader asked random whole only refusal) r.opens r.why,
  )
  refusal_so refusal (inr (is, r)) = inr (is, opens_so r.first r.whole r.only r.key _ r.opens (r.many, record { materials = r.materials; has = r.has; is = r.gained }))

  final_so : inputs.ResealFinalFails asked random (told (taken ++ more)) (left taken more) output put
      → (context : List KeyValue) × IsWholeAnd asked random (taken ++ more) (λ text message. AppendsFront output.written put.written message) context
  final_so f =
      let all : taken ++ more ≡ f.bytes = front_is f.bytes f.came ∙ ap (λ (b : List ℕ). f.bytes ++ b) f.end.end ∙ append-nil f.bytes in (
        f.whole,
        subst (λ (b : List ℕ). IsWholeAnd asked random b (λ text message. AppendsFront output.written put.written message) f.whole) (sym all)
            (record { only = f.only; key = f.key; answered = f.answered; whole = f.verdict; materials = f.materials; has = f.has; is = front_beyond output put _ _ f.front }),
      )

  sink_so : Rose output.faults put.faults × (inputs.FrontFails asked random (told (taken ++ more)) (left taken more) output put ⊎ inputs.ResealFinalFails asked random (told (taken ++ more)) (left taken more) output put)
      → ResealsNot asked random (taken ++ more) output put reseals.SinkFault
  sink_so (rose, inl f) = (rose, inl (opens_so f.first f.whole f.only f.key _ f.opens (record { materials = f.materials; has = f.has; is = front_beyond output put _ _ f.last.was })))
  sink_so (rose, inr f) = (rose, inr (final_so f))

  keyring_so : ((DecryptManagerFails asked.opening (told (taken ++ more)) (left taken more) × SinkTakes output put []) ⊎ inputs.SealingFails asked (told (taken ++ more)) (left taken more) output put)
      → ResealsNot asked random (taken ++ more) output put reseals.KeyringFault
  keyring_so (inl (f, nothing)) = (
    nothing,
    inl (subst (λ (b : List ℕ). FailsTo asked.opening.manager asked.opening.settings asked.opening.given b) (sym (front_is f.bytes f.came))
        (fails_on asked.opening.manager asked.opening.settings asked.opening.given f.bytes more f.failed)),
  )
  keyring_so (inr f) = (f.nothing, inr (opens_so f.first f.whole f.only f.key (λ whole only text. asked.gives_none (request_for whole only) managers.KeyringFault) f.opens f.none))

  pub first_so : inputs.WritesFirst asked random (told (taken ++ more)) (left taken more) output put → OpensAnd asked (taken ++ more) (λ whole only text. ResealWritesFront asked random whole only text output put)
  first_so f = opens_so f.first f.whole f.only f.key (λ whole only text. ResealWritesFront asked random whole only text output put) f.opens f.front

  memory_so : (SinkTakes output put [] ⊎ inputs.WritesFirst asked random (told (taken ++ more)) (left taken more) output put) → ResealsNot asked random (taken ++ more) output put reseals.Memory
  memory_so (inl nothing) = inl nothing
  memory_so (inr f) = inr (first_so f)

  -- what an error of a step comes to, as if the bytes were an input
  pub ends_so : (error : ResealError) → (error ≡ reseals.Stopped → ⊥) → ((named : InputError) → ResealErrorIsCalled error named → inputs.ResealEndsSo asked random (told (taken ++ more)) (left taken more) output put named)
      → ResealsNot asked random (taken ++ more) output put error
  ends_so (reseals.Fault fault) not ends = fault_so fault (ends (errors.Fault fault) refl)
  ends_so (reseals.Refusal refusal) not ends = refusal_so refusal (ends (errors.Refusal refusal) refl)
  ends_so reseals.KeyringFault not ends = keyring_so (ends (errors.Outside outsides.KeyringFault) refl)
  ends_so reseals.SinkFault not ends = sink_so (ends (errors.Outside outsides.SinkFault) refl)
  ends_so reseals.Stopped not ends = absurd (not refl)
  ends_so reseals.Memory not ends = memory_so (ends errors.Memory refl).written
