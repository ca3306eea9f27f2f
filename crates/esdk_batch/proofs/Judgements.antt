-- How bytes are judged under the manager's answer to their header when more bytes follow.
use Rattle.std.proofs.Common.{◌≡◌, ◌∙◌, ℕ, List, ◌++◌, Option, Some, None, refl, sym, ap, subst}
use Rattle.std.specs.List.{concat}
use Rattle.std.proofs.lemmas.List.Folds.{concat-append}
use Rattle.esdk_fields.specs.declared.faults.Fault.{Fault}
use Rattle.esdk_fields.specs.Place.{Place, start, followed}
use Rattle.esdk_fields.specs.Reading.{Reading, Read, Refused, Wanting}
use Rattle.esdk_fields.proofs.Fronts.{fault_stays, value_stays}
use Rattle.context_codec.specs.Context.{KeyValue}
use Rattle.header_codec.specs.declared.settings.Settings.{Settings}
use Rattle.header_codec.specs.Header.{HeaderValue}
use Rattle.header_codec.specs.Table.{HeaderFields, header}
use Rattle.header_codec.proofs.Order.{IsSequential-header}
use Rattle.keyring_trait.specs.declared.manager_errors.ManagerError.TheVariants.{KeyringFault}
use Rattle.keyring_trait.specs.declared.served.Served.{Served}
use Rattle.keyring_trait.specs.Saying.{Saying}
use Rattle.keyring_trait.specs.Unlocking.{Unlocking}
use Rattle.body_format.specs.declared.verdicts.Verdict.{Verdict}
use Rattle.body_format.specs.declared.verdicts.Verdict.TheVariants.{Going, Whole, Faulty}
use Rattle.message_format.specs.Judgement.{Judged, content, judged, locked}
use Rattle.message_format.proofs.Following.{faults_stay, header_stays, judged_goes_on, units_stay}
use Rattle.message_format.proofs.Judging.{judged_wanting}
use Rattle.stream_open.specs.Asking.{request_of}
use Rattle.esdk_decrypt.specs.Decrypt.{Answering, AnswersReading, AnswersRequest, AnswersTo, FailsReading, FailsTo, answers_at, fault_of}
use Rattle.esdk_batch.specs.Answering.{HasAnswer, serving}

-- ---- when more bytes follow

answers_read : (manager : Answering) (settings : Settings) (given : List KeyValue) (b more : List ℕ) (answer : Unlocking) (parts : HeaderFields) (p : Place) → header settings (start b) ≡ Read parts p
    → AnswersTo manager settings given b answer → AnswersTo manager settings given (b ++ more) answer
answers_read manager settings given b more answer parts p e answers =
    let on : header settings (start (b ++ more)) ≡ Read parts (followed p more) = value_stays (header settings) b more parts p (IsSequential-header settings) e in
    subst (λ (r : Reading HeaderFields). AnswersReading manager given (b ++ more) r answer) (sym on)
    (subst (λ (h : HeaderValue). AnswersRequest manager (request_of given h) answer) (sym (header_stays settings b more parts p e))
    (subst (λ (r : Reading HeaderFields). AnswersReading manager given b r answer) e answers))

answers_refused : (manager : Answering) (settings : Settings) (given : List KeyValue) (b more : List ℕ) (answer : Unlocking) (fault : Fault) (at : ℕ) → header settings (start b) ≡ Refused fault at
    → AnswersTo manager settings given b answer → AnswersTo manager settings given (b ++ more) answer
answers_refused manager settings given b more answer fault at e answers =
    subst (λ (r : Reading HeaderFields). AnswersReading manager given (b ++ more) r answer) (sym (fault_stays (header settings) b more fault at (IsSequential-header settings) e))
    (subst (λ (r : Reading HeaderFields). AnswersReading manager given b r answer) e answers)

-- The answer to the header of these bytes is the answer to that of more bytes, or no header is whole
-- in them, and nothing is released.
pub data GoesOn (manager : Saying) (settings : Settings) (given : List KeyValue) (b more : List ℕ)
    (served : Option Served) (answer : Unlocking) : Type 0 where
  HasOne : (answers : HasAnswer manager settings given (b ++ more) served answer)
      → GoesOn manager settings given b more served answer
  Wants : (wants : judged b settings answer ≡ locked Going)
      → GoesOn manager settings given b more served answer

goes_by : (manager : Saying) (settings : Settings) (given : List KeyValue) (b more : List ℕ)
    (served : Option Served) (answer : Unlocking) (r : Reading HeaderFields) → header settings (start b) ≡ r
    → HasAnswer manager settings given b served answer
    → GoesOn manager settings given b more served answer
goes_by manager settings given b more served answer (Read parts p) e answers = HasOne (record {
  moment = answers.moment;
  answered = answers_read (answers_at (serving manager served) answers.moment) settings given b more
      answer parts p e answers.answered;
  unserved = answers.unserved;
})
goes_by manager settings given b more served answer (Refused fault at) e answers = HasOne (record {
  moment = answers.moment;
  answered = answers_refused (answers_at (serving manager served) answers.moment) settings given b
      more answer fault at e answers.answered;
  unserved = answers.unserved;
})
goes_by manager settings given b more served answer Wanting e answers =
    Wants (judged_wanting b settings answer e)

pub goes_on : (manager : Saying) (settings : Settings) (given : List KeyValue) (b more : List ℕ)
    (served : Option Served) (answer : Unlocking) → HasAnswer manager settings given b served answer
    → GoesOn manager settings given b more served answer
goes_on manager settings given b more served answer answers =
    goes_by manager settings given b more served answer (header settings (start b)) refl answers

faulty_by : (manager : Saying) (settings : Settings) (given : List KeyValue) (b more : List ℕ)
    (served : Option Served) (answer : Unlocking) (fault : Fault)
    → (judged b settings answer).verdict ≡ Faulty fault
    → GoesOn manager settings given b more served answer
    → HasAnswer manager settings given (b ++ more) served answer
faulty_by manager settings given b more served answer fault faulty (HasOne answers) = answers
faulty_by manager settings given b more served answer fault faulty (Wants wants) =
    absurd (let no : Going ≡ Faulty fault = sym (ap (λ (j : Judged). j.verdict) wants) ∙ faulty in cc)

-- where the bytes have a fault, the answer is that to the header of more bytes
pub answers_faulty : (manager : Saying) (settings : Settings) (given : List KeyValue)
    (b more : List ℕ) (served : Option Served) (answer : Unlocking) (fault : Fault)
    → (judged b settings answer).verdict ≡ Faulty fault
    → HasAnswer manager settings given b served answer
    → HasAnswer manager settings given (b ++ more) served answer
answers_faulty manager settings given b more served answer fault faulty answers =
    faulty_by manager settings given b more served answer fault faulty
    (goes_on manager settings given b more served answer answers)

-- a fault stays
pub faulty_on : (settings : Settings) (b more : List ℕ) (answer : Unlocking) (fault : Fault) → (judged b settings answer).verdict ≡ Faulty fault → judged (b ++ more) settings answer ≡ judged b settings answer
faulty_on settings b more answer fault faulty = faults_stay (λ c. judged c settings answer) (judged_goes_on settings answer) b more fault faulty

-- what is released goes on
pub content_on : (settings : Settings) (b more : List ℕ) (answer : Unlocking) → (added : List ℕ) × (content (judged (b ++ more) settings answer) ≡ content (judged b settings answer) ++ added)
content_on settings b more answer =
    let on = units_stay (λ c. judged c settings answer) (judged_goes_on settings answer) b more in
    (concat on.0, ap concat on.1 ∙ concat-append (judged b settings answer).units on.0)

-- the fault of bytes that are judged so
pub fault_is : (verdict : Verdict) (fault : Fault) → fault_of verdict ≡ Some fault → verdict ≡ Faulty fault
fault_is Going fault e = absurd (let no : None ≡ Some fault = e in cc)
fault_is Whole fault e = absurd (let no : None ≡ Some fault = e in cc)
fault_is (Faulty other) fault e = let same : other ≡ fault = cc in ap (λ (f : Fault). faulty f) same
  where
    faulty : Fault → Verdict
    faulty f = Faulty f

-- ---- a failure

fails_by : (manager : Answering) (settings : Settings) (given : List KeyValue) (b more : List ℕ) (r : Reading HeaderFields) → header settings (start b) ≡ r → FailsReading manager given b r
    → FailsTo manager settings given (b ++ more)
fails_by manager settings given b more (Read parts p) e fails =
    let on : header settings (start (b ++ more)) ≡ Read parts (followed p more) = value_stays (header settings) b more parts p (IsSequential-header settings) e in
    subst (λ (r : Reading HeaderFields). FailsReading manager given (b ++ more) r) (sym on)
    (subst (λ (h : HeaderValue). manager.finds_none (request_of given h) KeyringFault) (sym (header_stays settings b more parts p e)) fails)
fails_by manager settings given b more (Refused fault at) e fails = absurd fails
fails_by manager settings given b more Wanting e fails = absurd fails

-- the manager failed about the header of these bytes, and so about that of more bytes
pub fails_on : (manager : Answering) (settings : Settings) (given : List KeyValue) (b more : List ℕ) → FailsTo manager settings given b → FailsTo manager settings given (b ++ more)
fails_on manager settings given b more fails = fails_by manager settings given b more (header settings (start b)) refl fails
