-- Where a message is unlocked, and with what.
use Rattle.std.proofs.Common.{◌≡◌, ◌∙◌, ℕ, Bool, true, false, List, [], ◌++◌, Option, Some, None, if◌then◌else◌, refl, sym, ap, subst}
use Rattle.esdk_fields.specs.declared.faults.Fault.{Fault}
use Rattle.esdk_fields.specs.declared.faults.Fault.TheVariants.{Truncated}
use Rattle.esdk_fields.specs.Place.{Place, start}
use Rattle.esdk_fields.specs.Reading.{Reading, Read, Refused, Wanting}
use Rattle.context_codec.specs.Context.{KeyValue}
use Rattle.header_codec.specs.declared.settings.Settings.{Settings}
use Rattle.header_codec.specs.Header.{HeaderValue}
use Rattle.header_codec.specs.Table.{HeaderFields, header}
use Rattle.keyring_trait.specs.Unlocking.{Unlocking, Refuses, Unlocks}
use Rattle.body_format.specs.declared.verdicts.Verdict.TheVariants as verdicts
use Rattle.message_format.specs.Judgement.{Judged, content, header_of, judged, judged_lock, judged_reading, lock_fault}
use Rattle.message_format.proofs.Following.{follows}
use Rattle.message_format.proofs.Judging.{judged_is, judged_wanting}
use Rattle.stream_open.specs.Asking.{Heard}
use Rattle.stream_open.specs.Feeding.{GoesOn}
use Rattle.stream_open.specs.Laws.{MayBeHeard}
use Rattle.stream_open.specs.Session.{OpeningValue, answer_kept, asked_header, judged_now, keeping, only_authenticated, only_in, whole_context, whole_in}
use Rattle.stream_open.proofs.AnyCut.{heard_same}
use Rattle.stream_open.proofs.GoingOn.{Standing, InHeader, Behind, standing}
use Rattle.stream_open.proofs.Standing.{judged_unlocked}
use Rattle.esdk_decrypt.specs.Decrypt.{AnswersReading, DecryptAsked, MayLackMemory}
use Rattle.reseal_core.specs.Stands.{OldMessageIsOpen}

-- ---- an unlocked message has an answer that unlocks it

refused_reading : (b : List ℕ) (settings : Settings) (fault : Fault) (r : Reading HeaderFields) → (judged_reading b settings (Refuses fault) r).unlocked ≡ false
refused_reading b settings fault (Read parts p) = refl
refused_reading b settings fault (Refused other at) = refl
refused_reading b settings fault Wanting = refl

refused_locked : (b : List ℕ) (settings : Settings) (fault : Fault) → (judged b settings (Refuses fault)).unlocked ≡ false
refused_locked b settings fault =
    ap (λ (j : Judged). j.unlocked) (judged_is b settings (Refuses fault) (header settings (start b)) refl) ∙ refused_reading b settings fault (header settings (start b))

true_false : {A : Type 0} (b : Bool) → b ≡ true → b ≡ false → A
true_false b e f = absurd (let no : true ≡ false = sym e ∙ f in cc)

-- The whole context and the pairs that are only authenticated with which the message is open.
pub record OpenWith (v : OpeningValue) : Type 0 where
  pub whole : List KeyValue
  pub only : List KeyValue
  pub open_is : OldMessageIsOpen v whole only
  pub whole_is : whole_context v ≡ Some whole
  pub only_is : only_authenticated v ≡ Some only

open_by : (v : OpeningValue) (a : Option Unlocking) → v.answer ≡ a → (judged_now v).unlocked ≡ true → OpenWith v
unfolding whole_context only_authenticated
open_by v None e is =
    let locked : (judged_now v).unlocked ≡ false = ap (λ (o : Option Unlocking). (judged v.taken v.settings (answer_kept o)).unlocked) e ∙ refused_locked v.taken v.settings _ in
    true_false (judged_now v).unlocked is locked
open_by v (Some (Refuses fault)) e is =
    let locked : (judged_now v).unlocked ≡ false = ap (λ (o : Option Unlocking). (judged v.taken v.settings (answer_kept o)).unlocked) e ∙ refused_locked v.taken v.settings fault in
    true_false (judged_now v).unlocked is locked
open_by v (Some (Unlocks whole only key)) e is = record {
  whole = whole;
  only = only;
  open_is = record { key = key; answer = e; unlocked = is };
  whole_is = ap (λ (b : Bool). if b then whole_in (answer_kept v.answer) else None) is ∙ ap (λ (o : Option Unlocking). whole_in (answer_kept o)) e;
  only_is = ap (λ (b : Bool). if b then only_in (answer_kept v.answer) else None) is ∙ ap (λ (o : Option Unlocking). only_in (answer_kept o)) e;
}

pub open_with : (v : OpeningValue) → (judged_now v).unlocked ≡ true → OpenWith v
open_with v is = open_by v v.answer refl is

unlocked_by : {A : Type 0} (b : Bool) (o : Option A) (a : A) → (if b then o else None) ≡ Some a → b ≡ true
unlocked_by true o a e = refl
unlocked_by false o a e = absurd cc

-- where a whole context is told the message is unlocked
pub told_unlocked : (v : OpeningValue) (whole : List KeyValue) → whole_context v ≡ Some whole → (judged_now v).unlocked ≡ true
unfolding whole_context
told_unlocked v whole e = unlocked_by (judged_now v).unlocked (whole_in (answer_kept v.answer)) whole e

same_some : {A : Type 0} (a b : A) → Some a ≡ Some b → a ≡ b
same_some a b e = cc

-- and it is open with what is told
pub told_open : (v : OpeningValue) (whole only : List KeyValue) → whole_context v ≡ Some whole → only_authenticated v ≡ Some only → OldMessageIsOpen v whole only
told_open v whole only whole_is only_is =
    let o = open_with v (told_unlocked v whole whole_is) in
    rw (same_some whole o.whole (sym whole_is ∙ o.whole_is), same_some only o.only (sym only_is ∙ o.only_is)) o.open_is

-- ---- a locked message releases nothing

locked_lock : (settings : Settings) (h : HeaderValue) (key : List ℕ) (p : Place) (lock : Option Fault) → (judged_lock settings h key p lock).unlocked ≡ false → content (judged_lock settings h key p lock) ≡ []
locked_lock settings h key p (Some fault) e = refl
locked_lock settings h key p None e = absurd (let no : true ≡ false = e in cc)

locked_reading : (b : List ℕ) (settings : Settings) (a : Unlocking) (r : Reading HeaderFields) → (judged_reading b settings a r).unlocked ≡ false → content (judged_reading b settings a r) ≡ []
locked_reading b settings (Refuses fault) (Read parts p) e = refl
locked_reading b settings (Unlocks whole only key) (Read parts p) e = locked_lock settings (header_of b parts) key p (lock_fault (header_of b parts) only key) e
locked_reading b settings a (Refused fault at) e = refl
locked_reading b settings a Wanting e = refl

pub locked_content : (v : OpeningValue) → (judged_now v).unlocked ≡ false → content (judged_now v) ≡ []
locked_content v e =
    let is = judged_is v.taken v.settings (answer_kept v.answer) (header v.settings (start v.taken)) refl in
    ap content is ∙ locked_reading v.taken v.settings (answer_kept v.answer) (header v.settings (start v.taken)) (sym (ap (λ (j : Judged). j.unlocked) is) ∙ e)

-- ---- a whole message is unlocked

whole_lock : (settings : Settings) (h : HeaderValue) (key : List ℕ) (p : Place) (lock : Option Fault) → (judged_lock settings h key p lock).verdict ≡ verdicts.Whole → (judged_lock settings h key p lock).unlocked ≡ true
whole_lock settings h key p (Some fault) e = absurd (let no : verdicts.Faulty fault ≡ verdicts.Whole = e in cc)
whole_lock settings h key p None e = refl

whole_reading : (b : List ℕ) (settings : Settings) (a : Unlocking) (r : Reading HeaderFields) → (judged_reading b settings a r).verdict ≡ verdicts.Whole → (judged_reading b settings a r).unlocked ≡ true
whole_reading b settings (Refuses fault) (Read parts p) e = absurd (let no : verdicts.Faulty fault ≡ verdicts.Whole = e in cc)
whole_reading b settings (Unlocks whole only key) (Read parts p) e = whole_lock settings (header_of b parts) key p (lock_fault (header_of b parts) only key) e
whole_reading b settings a (Refused fault at) e = absurd (let no : verdicts.Faulty fault ≡ verdicts.Whole = e in cc)
whole_reading b settings a Wanting e = absurd (let no : verdicts.Going ≡ verdicts.Whole = e in cc)

pub whole_unlocked : (b : List ℕ) (settings : Settings) (a : Unlocking) → (judged b settings a).verdict ≡ verdicts.Whole → (judged b settings a).unlocked ≡ true
whole_unlocked b settings a e =
    let is = judged_is b settings a (header settings (start b)) refl in
    ap (λ (j : Judged). j.unlocked) is ∙ whole_reading b settings a (header settings (start b)) (sym (ap (λ (j : Judged). j.verdict) is) ∙ e)

-- ---- it stays unlocked

pub stays_unlocked : (v : OpeningValue) (piece more : List ℕ) (short : Type 0) (heard : Heard) → GoesOn v → MayBeHeard (asked_header v piece) short heard → (judged_now v).unlocked ≡ true
    → (judged (v.taken ++ more) v.settings (answer_kept (keeping v heard).answer)).unlocked ≡ true
stays_unlocked v piece more short heard goes may is =
    (follows v.taken more v.settings (answer_kept v.answer) (answer_kept (keeping v heard).answer) (heard_same v piece short heard may goes.unheard)).unlocked is

-- ---- a locked message wants bytes of its header

wants_by : (v : OpeningValue) → (judged_now v).unlocked ≡ false → Standing v → header v.settings (start v.taken) ≡ Wanting
wants_by v locked (InHeader now) = now
wants_by v locked (Behind u at) = absurd (let no : true ≡ false = sym (ap (λ (j : Judged). j.unlocked) (judged_unlocked u v at)) ∙ locked in cc)

-- a session that goes on and isn't unlocked
pub still_in_header : (v : OpeningValue) → GoesOn v → (judged_now v).unlocked ≡ false → header v.settings (start v.taken) ≡ Wanting
still_in_header v goes locked = wants_by v locked (standing v goes)

-- ---- memory that may run out

-- before a header is whole
pub lacks_wanting : (asked : DecryptAsked) (bytes : List ℕ) → header asked.settings (start bytes) ≡ Wanting → MayLackMemory asked bytes
lacks_wanting asked bytes wants =
    let is = judged_wanting bytes asked.settings (Refuses Truncated) wants in
    record {
      answer = Refuses Truncated;
      answered = subst (λ (r : Reading HeaderFields). AnswersReading asked.manager asked.given bytes r (Refuses Truncated)) (sym wants) refl;
      going = ap (λ (j : Judged). j.verdict) is;
      unreserved = λ unlocked. absurd (let no : false ≡ true = sym (ap (λ (j : Judged). j.unlocked) is) ∙ unlocked in cc);
    }
