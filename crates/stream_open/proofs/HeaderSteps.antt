-- What a step comes to while the header isn't unlocked.
use Rattle.std.proofs.Common.{◌≡◌, ℕ, ◌≤◌, ◌||◌, Bool, true, false, Option, Some, None, Result, Ok, Err, List, [], ◌++◌, length, take, if◌then◌else◌, refl, sym, ap, subst, ◌∙◌, inl, inr}
use Rattle.std.specs.Prelude.{nat_lt}
use Rattle.std.specs.Result.{IsErrAnd}
use Rattle.std.proofs.lemmas.Result.{err_from_is_err_and}
use Rattle.esdk_fields.specs.declared.faults.Fault.{Fault}
use Rattle.esdk_fields.specs.declared.refusals.FieldError.{FieldError}
use Rattle.esdk_fields.specs.declared.refusals.FieldError.TheVariants as fields
use Rattle.esdk_fields.specs.Place.{start}
use Rattle.esdk_fields.specs.Reading.{Reading, Read, Refused, Wanting, value_of}
use Rattle.context_codec.specs.Context.{KeyValue}
use Rattle.header_codec.specs.Header.{HeaderValue}
use Rattle.header_codec.specs.Session.{HeaderAnswers, Session, answer_to}
use Rattle.header_codec.specs.Stands.{Stands as Reads}
use Rattle.header_codec.specs.Table.{HeaderFields, header}
use Rattle.keyring_trait.specs.declared.served.Served.{Served}
use Rattle.keyring_trait.specs.Manager.{ManagerNow}
use Rattle.keyring_trait.specs.Materials.{DecMaterialsValue}
use Rattle.keyring_trait.specs.Unlocking.{Unlocking, Refuses, Unlocks}
use Rattle.body_format.specs.declared.verdicts.Verdict.TheVariants.{Going, Whole}
use Rattle.body_format.specs.Rows.{JudgedBody}
use Rattle.message_format.specs.Judgement.{Judged, judged_header, locked, opened_as, lock_fault, marks}
use Rattle.message_format.proofs.Judging.{judged_wanting, judged_read, judged_opened}
use Rattle.stream_open.specs.declared.errors.OpenError.{OpenError}
use Rattle.stream_open.specs.declared.errors.OpenError.TheVariants as errors
use Rattle.stream_open.specs.declared.session.Opener.{Opener}
use Rattle.stream_open.specs.declared.unlocked.Unlocked.{Unlocked}
use Rattle.message_format.specs.declared.unlock_errors.UnlockError.{UnlockError}
use Rattle.message_format.specs.declared.unlock_errors.UnlockError.TheVariants as locks
use Rattle.message_format.specs.Unlocking.{BearsHeard, request_of, Answered, Unanswered, KeepsLock}
use Rattle.stream_open.specs.Errors.{locked_as}
use Rattle.stream_open.specs.Asking.{Nothing, Found, Named, Failed}
use Rattle.stream_open.specs.Body.{IsBehind}
use Rattle.stream_open.specs.Session.{OpeningValue, answer_kept, judged_now, judged_with, keeping, is_faulty, is_stop, reach, added_content, answer_at, answer_on, opening_step_answer, opening_stepped}
use Rattle.stream_open.specs.Stands.{opener_out, unread_as, IsBodyOf, OpenerIsLocked, StandsAt, Stands, OpenerSteps}
use Rattle.stream_open.specs.Unlocking.{IsBegun}
use Rattle.stream_open.proofs.Behind.{said_as, judged_here, behind_first, none_before}
use Rattle.stream_open.proofs.Headers.{refused_answer, wanting_answer, none_asked, Shown, shown_asked, kept_shown, named_answer, locked_answer, failed_answer, runs_out_locked, used_all}
use Rattle.stream_open.proofs.Standing.{body_same, stands_as}

-- ---- where the session stands

pub locked_at : (opener : Opener) (v : OpeningValue) → opener.unlocked ≡ None → Stands opener v → OpenerIsLocked opener v
locked_at opener v is stands = stands_as opener v None is stands

-- an error stops it before the header is unlocked
stands_off : (opener next : Opener) (v : OpeningValue) (answer : Option Unlocking) (served : Option Served) → Stands opener v → header v.settings (start v.taken) ≡ Wanting
    → next.settings ≡ opener.settings → next.given ≡ opener.given → next.served ≡ served → next.stopped ≡ true → next.unlocked ≡ None
    → Stands next (record v { answer = answer; served = served; stopped = true; out = [] })
stands_off opener next v answer served stands now settings given is stopped unlocked = record {
  settings = settings ∙ stands.settings;
  given = given ∙ stands.given;
  served = is;
  stopped = stopped;
  out = ap opener_out unlocked;
  at = subst (λ (o : Option Unlocked). StandsAt next (record v { answer = answer; served = served; stopped = true; out = [] }) o) (sym unlocked)
      (record { reads = λ e. absurd cc; unheard = λ e. absurd cc; wanting = now });
}

-- ---- the reader answered an error

-- the bytes have a fault in the header
pub steps_refused : (first last : ManagerNow) (moment : ℕ) (opener next : Opener) (v : OpeningValue) (piece : List ℕ) (fault : Fault) (at : ℕ) → Stands opener v → v.stopped ≡ false → OpenerIsLocked opener v → BearsHeard first last moment None
    → header v.settings (start (v.taken ++ piece)) ≡ Refused fault at
    → next.settings ≡ opener.settings → next.given ≡ opener.given → next.served ≡ opener.served → next.stopped ≡ true → next.unlocked ≡ None
    → OpenerSteps first last moment v piece (Err (errors.Fault fault)) next
steps_refused first last moment opener next v piece fault at stands going lock bears whole settings given served stopped unlocked = record {
  heard = Nothing;
  hears = inl (none_asked v piece going (lock.unheard going) (ap value_of whole));
  bears = bears;
  answers = refused_answer v piece fault at going lock.wanting whole;
  stands = stands_off opener next v v.answer v.served stands lock.wanting settings given (served ∙ stands.served) stopped unlocked;
}

-- memory ran out, and nothing is heard
pub steps_short : (first last : ManagerNow) (moment : ℕ) (opener next : Opener) (v : OpeningValue) (piece : List ℕ) → Stands opener v → v.stopped ≡ false → OpenerIsLocked opener v → BearsHeard first last moment None
    → next.settings ≡ opener.settings → next.given ≡ opener.given → next.served ≡ opener.served → next.stopped ≡ true → next.unlocked ≡ None
    → OpenerSteps first last moment v piece (Err errors.Memory) next
steps_short first last moment opener next v piece stands going lock bears settings given served stopped unlocked = record {
  heard = Nothing;
  hears = inr refl;
  bears = bears;
  answers = runs_out_locked v going lock.wanting;
  stands = stands_off opener next v v.answer v.served stands lock.wanting settings given (served ∙ stands.served) stopped unlocked;
}

abbrev reading_of : OpeningValue → Session
reading_of v = record { settings = v.settings; taken = v.taken; stopped = false }

unread_by : (first last : ManagerNow) (moment : ℕ) (opener next : Opener) (v : OpeningValue) (piece : List ℕ) (fault : Fault) (r : Reading HeaderFields) → header v.settings (start (v.taken ++ piece)) ≡ r
    → answer_to (reading_of v) piece r ≡ Err (fields.Fault fault) → Stands opener v → v.stopped ≡ false → OpenerIsLocked opener v → BearsHeard first last moment None
    → next.settings ≡ opener.settings → next.given ≡ opener.given → next.served ≡ opener.served → next.stopped ≡ true → next.unlocked ≡ None
    → OpenerSteps first last moment v piece (Err (errors.Fault fault)) next
unread_by first last moment opener next v piece fault (Read parts end) e answer stands going lock bears settings given served stopped unlocked = absurd cc
unread_by first last moment opener next v piece fault Wanting e answer stands going lock bears settings given served stopped unlocked = absurd cc
unread_by first last moment opener next v piece fault (Refused other at) e answer stands going lock bears settings given served stopped unlocked =
    let same : other ≡ fault = cc in
    subst (λ (f : Fault). OpenerSteps first last moment v piece (Err (errors.Fault f)) next) same (steps_refused first last moment opener next v piece other at stands going lock bears e settings given served stopped unlocked)

not_stopped : (v : OpeningValue) (piece : List ℕ) (r : Reading HeaderFields) → answer_to (reading_of v) piece r ≡ Err fields.Stopped → ⊥
not_stopped v piece (Read parts end) e = cc
not_stopped v piece (Refused fault at) e = cc
not_stopped v piece Wanting e = cc

pub steps_unread : (first last : ManagerNow) (moment : ℕ) (opener next : Opener) (v : OpeningValue) (piece : List ℕ) (error : FieldError) → HeaderAnswers (reading_of v) piece (Err error)
    → Stands opener v → v.stopped ≡ false → OpenerIsLocked opener v → BearsHeard first last moment None
    → next.settings ≡ opener.settings → next.given ≡ opener.given → next.served ≡ opener.served → next.stopped ≡ true → next.unlocked ≡ None
    → OpenerSteps first last moment v piece (Err (unread_as error)) next
steps_unread first last moment opener next v piece (fields.Fault fault) answer stands going lock bears settings given served stopped unlocked =
    unread_by first last moment opener next v piece fault (header v.settings (start (v.taken ++ piece))) refl answer stands going lock bears settings given served stopped unlocked
steps_unread first last moment opener next v piece fields.Memory answer stands going lock bears settings given served stopped unlocked =
    steps_short first last moment opener next v piece stands going lock bears settings given served stopped unlocked
steps_unread first last moment opener next v piece fields.Stopped answer stands going lock bears settings given served stopped unlocked =
    absurd (not_stopped v piece (header v.settings (start (v.taken ++ piece))) answer)

-- ---- no header is whole yet

pub steps_waiting : (first last : ManagerNow) (moment : ℕ) (opener next : Opener) (v : OpeningValue) (piece : List ℕ) (used : ℕ) → Stands opener v → v.stopped ≡ false → OpenerIsLocked opener v → BearsHeard first last moment None
    → used ≡ length piece → header v.settings (start (v.taken ++ piece)) ≡ Wanting → header v.settings (start (v.taken ++ take used piece)) ≡ Wanting
    → Reads next.reader (record { settings = v.settings; taken = v.taken ++ take used piece; stopped = false })
    → next.settings ≡ opener.settings → next.given ≡ opener.given → next.served ≡ opener.served → next.stopped ≡ false → next.unlocked ≡ None
    → OpenerSteps first last moment v piece (Ok used) next
steps_waiting first last moment opener next v piece used stands going lock bears all whole front reads settings given served stopped unlocked =
    let w : OpeningValue = opening_stepped v piece Nothing (Ok used) in
    let now : judged_now v ≡ locked Going = judged_wanting v.taken v.settings (answer_kept v.answer) lock.wanting in
    let later : judged_with v piece used ≡ locked Going = judged_wanting (v.taken ++ take used piece) v.settings (answer_kept v.answer) front in
    record {
      heard = Nothing;
      hears = inl (none_asked v piece going (lock.unheard going) (ap value_of whole));
      bears = bears;
      answers = wanting_answer v piece going lock.wanting whole ∙ ap (λ (n : ℕ). ok n) (sym all);
      stands = record {
        settings = settings ∙ stands.settings;
        given = given ∙ stands.given;
        served = served ∙ stands.served;
        stopped = stopped ∙ sym going;
        out = ap opener_out unlocked ∙ sym (ap (λ (j : Judged). added_content j (judged_with v piece used)) now ∙ ap (λ (j : Judged). added_content (locked Going) j) later);
        at = subst (λ (o : Option Unlocked). StandsAt next w o) (sym unlocked) (record { reads = λ e. reads; unheard = λ e. lock.unheard going; wanting = front });
      };
    }
  where
    ok : ℕ → Result ℕ OpenError
    ok n = Ok n

-- ---- the manager is asked

pub steps_unanswered : (first last : ManagerNow) (moment : ℕ) (opener next : Opener) (v : OpeningValue) (piece : List ℕ) (used : ℕ) (h : HeaderValue) (error : UnlockError) → Stands opener v → v.stopped ≡ false → OpenerIsLocked opener v
    → Shown v piece used h → Unanswered first last moment (request_of v.given h) error
    → next.settings ≡ opener.settings → next.given ≡ opener.given → next.served ≡ opener.served → next.stopped ≡ true → next.unlocked ≡ None
    → OpenerSteps first last moment v piece (Err (locked_as error)) next
steps_unanswered first last moment opener next v piece used h (locks.Fault fault) stands going lock shown (finds, bears) settings given served stopped unlocked = record {
  heard = Named fault;
  hears = (h, shown_asked v piece used h going (lock.unheard going) shown, finds);
  bears = bears;
  answers = named_answer v piece used h fault going lock.wanting shown;
  stands = stands_off opener next v (Some (Refuses fault)) v.served stands lock.wanting settings given (served ∙ stands.served) stopped unlocked;
}
steps_unanswered first last moment opener next v piece used h locks.KeyringFault stands going lock shown (finds, bears) settings given served stopped unlocked = record {
  heard = Failed;
  hears = (h, shown_asked v piece used h going (lock.unheard going) shown, finds);
  bears = bears;
  answers = failed_answer v piece going;
  stands = stands_off opener next v v.answer v.served stands lock.wanting settings given (served ∙ stands.served) stopped unlocked;
}
steps_unanswered first last moment opener next v piece used h locks.Memory stands going lock shown bears settings given served stopped unlocked =
    steps_short first last moment opener next v piece stands going lock bears settings given served stopped unlocked

pub steps_not_unlocked : (first last : ManagerNow) (moment : ℕ) (opener next : Opener) (v : OpeningValue) (piece : List ℕ) (used : ℕ) (h : HeaderValue) (m : DecMaterialsValue) (error : UnlockError) → Stands opener v → v.stopped ≡ false
    → OpenerIsLocked opener v → Shown v piece used h → Answered first last moment (request_of v.given h) m → KeepsLock h m error
    → next.settings ≡ opener.settings → next.given ≡ opener.given → next.served ≡ Some m.served → next.stopped ≡ true → next.unlocked ≡ None
    → OpenerSteps first last moment v piece (Err (locked_as error)) next
steps_not_unlocked first last moment opener next v piece used h m (locks.Fault fault) stands going lock shown answered bad settings given served stopped unlocked = record {
  heard = Found m;
  hears = (h, shown_asked v piece used h going (lock.unheard going) shown, answered.found);
  bears = answered.bears;
  answers = locked_answer v piece used h m fault going lock.wanting shown bad;
  stands = stands_off opener next v (Some (Unlocks m.context m.only m.key)) (Some m.served) stands lock.wanting settings given served stopped unlocked;
}
steps_not_unlocked first last moment opener next v piece used h m locks.Memory stands going lock shown answered bad settings given served stopped unlocked = record {
  heard = Found m;
  hears = (h, shown_asked v piece used h going (lock.unheard going) shown, answered.found);
  bears = answered.bears;
  answers = runs_out_locked v going lock.wanting;
  stands = stands_off opener next v (Some (Unlocks m.context m.only m.key)) (Some m.served) stands lock.wanting settings given served stopped unlocked;
}
steps_not_unlocked first last moment opener next v piece used h m locks.KeyringFault stands going lock shown answered bad settings given served stopped unlocked = absurd bad

-- ---- the header is unlocked

begun_body : (u : Unlocked) (w : OpeningValue) (h : HeaderValue) (m : DecMaterialsValue) (limit : Option ℕ) → limit ≡ w.settings.max_unit → IsBegun u h limit m → IsBodyOf u.body w h m.key
begun_body u w h m limit same begun = record {
  derives = begun.key;
  id = begun.id;
  content = begun.content;
  max_unit = begun.limit ∙ same;
  reserved = λ e. begun.reserved (ap Rattle.stream_open.specs.Session.framed begun.content ∙ e);
}

abbrev opens_as : JudgedBody → Judged
opens_as j = opened_as j

-- the header was unlocked, and no byte of the body came
begun_judged : (u : Unlocked) (v : OpeningValue) (piece : List ℕ) (used : ℕ) (h : HeaderValue) (m : DecMaterialsValue) (limit : Option ℕ) → limit ≡ v.settings.max_unit → IsBegun u h limit m
    → (shown : Shown v piece used h) → judged_with (keeping v (Found m)) piece used ≡ opened_as (said_as [] Going)
begun_judged u v piece used h m limit same begun shown =
    let w : OpeningValue = keeping v (Found m) in
    let behind : IsBehind u.body shown.place = behind_first u.body shown.place begun.first begun.held shown.left in
    judged_read (v.taken ++ take used piece) v.settings (Unlocks m.context m.only m.key) shown.parts shown.place shown.reads
    ∙ ap (λ (g : HeaderValue). judged_header v.settings g shown.place (Unlocks m.context m.only m.key)) shown.is
    ∙ judged_opened v.settings h shown.place m.context m.only m.key begun.opens
    ∙ ap opens_as (body_same u.body w h m.key shown.place (begun_body u w h m limit same begun))
    ∙ ap opens_as (judged_here u.body shown.place behind)
    ∙ ap (λ (units : List (List ℕ)). opens_as (said_as units Going)) (none_before u.body shown.place begun.first)

found_answer : (v : OpeningValue) (piece : List ℕ) (m : DecMaterialsValue) (n : ℕ) → v.stopped ≡ false → reach (keeping v (Found m)) piece ≡ n
    → (judged_with (keeping v (Found m)) piece n).verdict ≡ Going → opening_step_answer v piece (Found m) ≡ Ok n
unfolding opening_step_answer
found_answer v piece m n going is verdict =
    ap (λ (b : Bool). if b then Err errors.Stopped else answer_on v piece (Found m)) going
    ∙ ap (λ (k : ℕ). answer_at k (judged_with (keeping v (Found m)) piece k).verdict) is
    ∙ ap (answer_at n) verdict

pub steps_opened : (first last : ManagerNow) (moment : ℕ) (opener next : Opener) (v : OpeningValue) (piece : List ℕ) (used : ℕ) (h : HeaderValue) (m : DecMaterialsValue) (u : Unlocked) → Stands opener v → v.stopped ≡ false
    → OpenerIsLocked opener v → Shown v piece used h → used ≤ length piece → Answered first last moment (request_of v.given h) m → IsBegun u h opener.settings.max_unit m
    → next.settings ≡ opener.settings → next.given ≡ opener.given → next.served ≡ Some m.served → next.stopped ≡ false → next.unlocked ≡ Some u
    → OpenerSteps first last moment v piece (Ok used) next
steps_opened first last moment opener next v piece used h m u stands going lock shown within answered begun settings given served stopped unlocked =
    let w : OpeningValue = keeping v (Found m) in
    let after : OpeningValue = opening_stepped v piece (Found m) (Ok used) in
    let limit : opener.settings.max_unit ≡ v.settings.max_unit = ap (λ (s : Rattle.header_codec.specs.declared.settings.Settings.Settings). s.max_unit) stands.settings in
    let later : judged_with w piece used ≡ opened_as (said_as [] Going) = begun_judged u v piece used h m opener.settings.max_unit limit begun shown in
    let now : judged_now w ≡ locked Going = judged_wanting v.taken v.settings (Unlocks m.context m.only m.key) lock.wanting in
    let before : judged_now v ≡ locked Going = judged_wanting v.taken v.settings (answer_kept v.answer) lock.wanting in
    let stops : is_stop w piece used ≡ true =
    ap (λ (j : Judged). is_faulty j.verdict || nat_lt (marks (judged_now w)) (marks j)) later
    ∙ ap (λ (j : Judged). is_faulty Going || nat_lt (marks j) (marks (opened_as (said_as [] Going)))) now in
    let ends : reach w piece ≡ used = used_all w piece used h lock.wanting (kept_shown v w piece used h refl refl shown) within stops in
    let behind : IsBehind u.body shown.place = behind_first u.body shown.place begun.first begun.held shown.left in
    record {
      heard = Found m;
      hears = (h, shown_asked v piece used h going (lock.unheard going) shown, answered.found);
      bears = answered.bears;
      answers = found_answer v piece m used going ends (ap (λ (j : Judged). j.verdict) later);
      stands = record {
        settings = settings ∙ stands.settings;
        given = given ∙ stands.given;
        served = served;
        stopped = stopped ∙ sym going;
        out = ap opener_out unlocked ∙ begun.out ∙ sym (ap (λ (j : Judged). added_content j (judged_with w piece used)) before ∙ ap (λ (j : Judged). added_content (locked Going) j) later);
        at = subst (λ (o : Option Unlocked). StandsAt next after o) (sym unlocked)
            (record {
              parts = shown.parts;
              place = shown.place;
              key = m.key;
              reads = shown.reads;
              answer = ap (λ (whole : List KeyValue). unlocks whole m.only m.key) (sym begun.whole) ∙ ap (λ (only : List KeyValue). unlocks u.whole only m.key) (sym begun.only);
              opens = ap (λ (g : HeaderValue). lock_fault g u.only m.key) shown.is ∙ ap (λ (only : List KeyValue). lock_fault h only m.key) begun.only ∙ begun.opens;
              body = subst (λ (g : HeaderValue). IsBodyOf u.body after g m.key) (sym shown.is) (begun_body u after h m opener.settings.max_unit limit begun);
              behind = record {
                verdict = ap (λ (j : JudgedBody). j.verdict) (judged_here u.body shown.place behind) ∙ ap (λ (b : Bool). if b then Whole else Going) (sym begun.going);
                going = λ s e. behind;
              };
            });
      };
    }
  where
    unlocks : List KeyValue → List KeyValue → List ℕ → Option Unlocking
    unlocks whole only key = Some (Unlocks whole only key)

-- ---- errors that are passed on

abbrev failed : OpenError → Result ℕ OpenError
failed error = Err error

pub steps_failed : (first last : ManagerNow) (moment : ℕ) (next : Opener) (v : OpeningValue) (piece : List ℕ) (r : Result ℕ OpenError) (error : OpenError) → IsErrAnd r (λ other. other ≡ error)
    → OpenerSteps first last moment v piece (Err error) next → OpenerSteps first last moment v piece r next
steps_failed first last moment next v piece r error is steps =
    let p = err_from_is_err_and r is in
    subst (λ (s : Result ℕ OpenError). OpenerSteps first last moment v piece s next) (sym (p.1 ∙ ap failed p.2)) steps
