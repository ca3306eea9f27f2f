-- A step while the header isn't whole: what the session answers, by how the bytes taken and the piece are read.
use Rattle.std.proofs.Common.{◌≡◌, ◌⊎◌, ℕ, ◌-◌, ◌<◌, ◌≤◌, Bool, true, false, ◌||◌, Option, Some, None, Result, Ok, Err, List, [], ◌++◌, length, take, drop, if◌then◌else◌, refl, sym, ap, ◌∙◌, arith, inl, inr, append_assoc}
use Rattle.std.specs.Prelude.{nat_lt, option_map}
use Rattle.std.proofs.lemmas.Bool.{cases_lt}
use Rattle.std.proofs.lemmas.List.{append-nil, take-append-drop, take_all, length-append, length-take}
use Rattle.esdk_fields.specs.declared.faults.Fault.{Fault}
use Rattle.esdk_fields.specs.declared.refusals.FieldError.{FieldError}
use Rattle.esdk_fields.specs.Place.{Place, start, followed}
use Rattle.esdk_fields.specs.Reading.{Reading, Read, Refused, Wanting, value_of}
use Rattle.esdk_fields.proofs.Fronts.{fault_stays, value_stays, read_after, read_within}
use Rattle.header_codec.specs.declared.session.HeaderStep.{HeaderStep}
use Rattle.header_codec.specs.declared.settings.Settings.{Settings}
use Rattle.header_codec.specs.Header.{HeaderValue}
use Rattle.header_codec.specs.Session.{answer, answer_to}
use Rattle.header_codec.specs.Table.{HeaderFields, header, BeginsWith}
use Rattle.header_codec.proofs.Order.{IsSequential-header}
use Rattle.keyring_trait.specs.Materials.{DecMaterialsValue}
use Rattle.keyring_trait.specs.Unlocking.{Unlocking}
use Rattle.body_format.specs.declared.verdicts.Verdict.{Verdict}
use Rattle.body_format.specs.declared.verdicts.Verdict.TheVariants.{Going, Faulty}
use Rattle.message_format.specs.Judgement.{Judged, judged_header, locked, header_of, lock_fault, marks}
use Rattle.message_format.proofs.Following.{header_stays}
use Rattle.message_format.proofs.Judging.{judged_wanting, judged_refused, judged_read, judged_locked}
use Rattle.message_format.proofs.WrittenHeads.{header_found}
use Rattle.stream_open.specs.declared.errors.OpenError.TheVariants as errors
use Rattle.stream_open.specs.Asking.{Nothing, Found, Named, Failed}
use Rattle.stream_open.specs.Session.{OpeningValue, answer_kept, judged_now, judged_with, header_asked, asked_header, keeping, is_faulty, is_stop, reach, answer_at, answer_on, opening_step_answer, MayRunOut}
use Rattle.stream_open.proofs.Ends.{reach_ends}

-- ---- a front of the bytes

-- A front of the bytes is read as all of them are, or has no whole header yet.
pub data Front (whole front : Reading HeaderFields) : Type 0 where
  Early : front ≡ Wanting → Front whole front
  Same : (parts : HeaderFields) (p q : Place) → front ≡ Read parts p → whole ≡ Read parts q → q.at ≡ p.at → Front whole front
  SameFault : (fault : Fault) (at : ℕ) → front ≡ Refused fault at → whole ≡ Refused fault at → Front whole front

pub front_whole : (taken piece : List ℕ) (k : ℕ) → taken ++ take k piece ++ drop k piece ≡ taken ++ piece
front_whole taken piece k = append_assoc taken (take k piece) (drop k piece) ∙ ap (λ (l : List ℕ). taken ++ l) (take-append-drop k piece)

front_by : (settings : Settings) (taken piece : List ℕ) (k : ℕ) (r : Reading HeaderFields) → header settings (start (taken ++ take k piece)) ≡ r
    → Front (header settings (start (taken ++ piece))) (header settings (start (taken ++ take k piece)))
front_by settings taken piece k (Read parts p) e =
    Same parts p (followed p (drop k piece)) e
    (ap (λ (l : List ℕ). header settings (start l)) (sym (front_whole taken piece k)) ∙ value_stays (header settings) (taken ++ take k piece) (drop k piece) parts p (IsSequential-header settings) e) refl
front_by settings taken piece k (Refused fault at) e =
    SameFault fault at e
    (ap (λ (l : List ℕ). header settings (start l)) (sym (front_whole taken piece k)) ∙ fault_stays (header settings) (taken ++ take k piece) (drop k piece) fault at (IsSequential-header settings) e)
front_by settings taken piece k Wanting e = Early e

pub front_of : (settings : Settings) (taken piece : List ℕ) (k : ℕ) → Front (header settings (start (taken ++ piece))) (header settings (start (taken ++ take k piece)))
front_of settings taken piece k = front_by settings taken piece k (header settings (start (taken ++ take k piece))) refl

-- ---- where a step ends

-- while no header is whole there is no stop
pub no_stop : (w : OpeningValue) (piece : List ℕ) (k : ℕ) → header w.settings (start w.taken) ≡ Wanting → header w.settings (start (w.taken ++ take k piece)) ≡ Wanting → is_stop w piece k ≡ false
no_stop w piece k now later =
    ap (λ (j : Judged). is_faulty j.verdict || nat_lt (marks (judged_now w)) (marks j)) (judged_wanting (w.taken ++ take k piece) w.settings (answer_kept w.answer) later)
    ∙ ap (λ (j : Judged). is_faulty Going || nat_lt (marks j) (marks (locked Going))) (judged_wanting w.taken w.settings (answer_kept w.answer) now)

true_false : true ≡ false → ⊥
true_false e = cc

-- with all of the piece
all_of : (w : OpeningValue) (piece : List ℕ) (k : ℕ) → k ≡ length piece → header w.settings (start (w.taken ++ take k piece)) ≡ header w.settings (start (w.taken ++ piece))
all_of w piece k e = ap (λ (l : List ℕ). header w.settings (start (w.taken ++ l))) (take_all k piece (omega arith))

-- No header is whole with the piece: all of it is used.
pub all_used : (w : OpeningValue) (piece : List ℕ) → header w.settings (start w.taken) ≡ Wanting → header w.settings (start (w.taken ++ piece)) ≡ Wanting → reach w piece ≡ length piece
all_used w piece now whole =
    elim (reach_ends w piece).here [
      | inl all ↦ all
      | inr stop ↦ absurd (true_false (sym stop ∙ no_stop w piece (reach w piece) now (early (reach w piece))))
    ]
  where
    early : (k : ℕ) → header w.settings (start (w.taken ++ take k piece)) ≡ Wanting
    early k =
        elim (front_of w.settings w.taken piece k) [
          | Early is ↦ is
          | Same parts p q is with_all at ↦ absurd (let no : Read parts q ≡ Wanting = sym with_all ∙ whole in cc)
          | SameFault fault at is with_all ↦ absurd (let no : Refused fault at ≡ Wanting = sym with_all ∙ whole in cc)
        ]

-- Each front has no whole header yet or this fault, and all of the bytes don't want more: the step ends with the fault.
pub ends_faulty : (w : OpeningValue) (piece : List ℕ) (fault : Fault) → header w.settings (start w.taken) ≡ Wanting → (header w.settings (start (w.taken ++ piece)) ≡ Wanting → ⊥)
    → ((k : ℕ) → (header w.settings (start (w.taken ++ take k piece)) ≡ Wanting) ⊎ ((judged_with w piece k).verdict ≡ Faulty fault))
    → (judged_with w piece (reach w piece)).verdict ≡ Faulty fault
ends_faulty w piece fault now some fronts =
    elim (fronts (reach w piece)) [
      | inr faulty ↦ faulty
      | inl early ↦ elim (reach_ends w piece).here [
        | inl all ↦ absurd (some (sym (all_of w piece (reach w piece) all) ∙ early))
        | inr stop ↦ absurd (true_false (sym stop ∙ no_stop w piece (reach w piece) now early))
      ]
    ]

-- the session answers what is judged where the step ends
going_on : (v w : OpeningValue) (piece : List ℕ) (fault : Fault) → (judged_with w piece (reach w piece)).verdict ≡ Faulty fault
    → answer_at (reach w piece) (judged_with w piece (reach w piece)).verdict ≡ Err (errors.Fault fault)
going_on v w piece fault e = ap (answer_at (reach w piece)) e

-- ---- a header that has a fault

abbrev refused_head : Fault → ℕ → Reading HeaderFields
refused_head fault at = Refused fault at

refused_front : (w : OpeningValue) (piece : List ℕ) (fault : Fault) (at : ℕ) → header w.settings (start (w.taken ++ piece)) ≡ Refused fault at → (k : ℕ)
    → (header w.settings (start (w.taken ++ take k piece)) ≡ Wanting) ⊎ ((judged_with w piece k).verdict ≡ Faulty fault)
refused_front w piece fault at whole k =
    elim (front_of w.settings w.taken piece k) [
      | Early is ↦ inl is
      | Same parts p q is with_all there ↦ absurd (let no : Read parts q ≡ Refused fault at = sym with_all ∙ whole in cc)
      | SameFault other there is with_all ↦
          inr (ap (λ (j : Judged). j.verdict) (judged_refused (w.taken ++ take k piece) w.settings (answer_kept w.answer) other there is) ∙ ap (λ (f : Fault). faulty f) (same_fault other there (sym with_all ∙ whole)))
    ]
  where
    faulty : Fault → Verdict
    faulty f = Faulty f

    same_fault : (other : Fault) (there : ℕ) → refused_head other there ≡ refused_head fault at → other ≡ fault
    same_fault other there e = cc

pub refused_answer : (v : OpeningValue) (piece : List ℕ) (fault : Fault) (at : ℕ) → v.stopped ≡ false → header v.settings (start v.taken) ≡ Wanting
    → header v.settings (start (v.taken ++ piece)) ≡ Refused fault at → opening_step_answer v piece Nothing ≡ Err (errors.Fault fault)
unfolding opening_step_answer
refused_answer v piece fault at going now whole =
    ap (λ (b : Bool). if b then Err errors.Stopped else answer_on v piece Nothing) going
    ∙ going_on v v piece fault (ends_faulty v piece fault now (λ e. not_wanting (sym whole ∙ e)) (refused_front v piece fault at whole))
  where
    not_wanting : refused_head fault at ≡ Wanting → ⊥
    not_wanting e = cc

-- ---- no whole header yet

pub wanting_answer : (v : OpeningValue) (piece : List ℕ) → v.stopped ≡ false → header v.settings (start v.taken) ≡ Wanting → header v.settings (start (v.taken ++ piece)) ≡ Wanting
    → opening_step_answer v piece Nothing ≡ Ok (length piece)
unfolding opening_step_answer
wanting_answer v piece going now whole =
    let all = all_used v piece now whole in
    ap (λ (b : Bool). if b then Err errors.Stopped else answer_on v piece Nothing) going
    ∙ ap (λ (n : ℕ). answer_at n (judged_with v piece n).verdict) all
    ∙ ap (λ (j : Judged). answer_at (length piece) j.verdict) (judged_wanting (v.taken ++ take (length piece) piece) v.settings (answer_kept v.answer) (all_of v piece (length piece) refl ∙ whole))

-- ---- what is asked

pub none_asked : (v : OpeningValue) (piece : List ℕ) → v.stopped ≡ false → v.answer ≡ None → value_of (header v.settings (start (v.taken ++ piece))) ≡ None → asked_header v piece ≡ None
none_asked v piece going unheard none =
    ap (λ (b : Bool). if b then None else header_asked v.answer v.settings (v.taken ++ piece)) going
    ∙ ap (λ (o : Option Unlocking). header_asked o v.settings (v.taken ++ piece)) unheard
    ∙ ap (option_map (header_of (v.taken ++ piece))) none

-- what stands at the front of the piece, when the header ends there
pub record Shown (v : OpeningValue) (piece : List ℕ) (used : ℕ) (h : HeaderValue) : Type 0 where
  pub parts : HeaderFields
  pub place : Place
  pub reads : header v.settings (start (v.taken ++ take used piece)) ≡ Read parts place
  pub is : header_of (v.taken ++ take used piece) parts ≡ h
  pub whole : header v.settings (start (v.taken ++ piece)) ≡ Read parts (followed place (drop used piece))
  pub same : header_of (v.taken ++ piece) parts ≡ h
  pub at : place.at ≡ length (v.taken ++ take used piece)
  pub left : place.left ≡ []

pub shown : (v : OpeningValue) (piece : List ℕ) (used : ℕ) (h : HeaderValue) → BeginsWith v.settings (v.taken ++ take used piece) h (record { at = length (v.taken ++ take used piece); left = [] })
    → Shown v piece used h
shown v piece used h begins =
    let end : Place = record { at = length (v.taken ++ take used piece); left = [] } in
    let found : header_of (v.taken ++ take used piece) begins.parts ≡ h = header_found v.settings (v.taken ++ take used piece) h end begins in
    record {
      parts = begins.parts;
      place = end;
      reads = begins.read;
      is = found;
      whole = ap (λ (l : List ℕ). header v.settings (start l)) (sym (front_whole v.taken piece used))
          ∙ value_stays (header v.settings) (v.taken ++ take used piece) (drop used piece) begins.parts end (IsSequential-header v.settings) begins.read;
      same = ap (λ (l : List ℕ). header_of l begins.parts) (sym (front_whole v.taken piece used)) ∙ header_stays v.settings (v.taken ++ take used piece) (drop used piece) begins.parts end begins.read ∙ found;
      at = refl;
      left = refl;
    }

pub shown_asked : (v : OpeningValue) (piece : List ℕ) (used : ℕ) (h : HeaderValue) → v.stopped ≡ false → v.answer ≡ None → Shown v piece used h → asked_header v piece ≡ Some h
shown_asked v piece used h going unheard s =
    ap (λ (b : Bool). if b then None else header_asked v.answer v.settings (v.taken ++ piece)) going
    ∙ ap (λ (o : Option Unlocking). header_asked o v.settings (v.taken ++ piece)) unheard
    ∙ ap (λ (r : Reading HeaderFields). option_map (header_of (v.taken ++ piece)) (value_of r)) s.whole
    ∙ ap (λ (g : HeaderValue). some_of g) s.same
  where
    some_of : HeaderValue → Option HeaderValue
    some_of g = Some g

-- so a header is asked about
pub was_asked : (v : OpeningValue) (piece : List ℕ) (used : ℕ) (h : HeaderValue) → v.stopped ≡ false → v.answer ≡ None → Shown v piece used h → asked_header v piece ≡ None → ⊥
was_asked v piece used h going unheard s none = some_none (sym (shown_asked v piece used h going unheard s) ∙ none)
  where
    some_none : Some h ≡ None → ⊥
    some_none e = cc

-- ---- an answer that unlocks nothing

-- A front has no whole header, or it is this one, which is judged so.
shown_front : (w : OpeningValue) (piece : List ℕ) (used k : ℕ) (h : HeaderValue) (fault : Fault) → Shown w piece used h
    → ((p : Place) → judged_header w.settings h p (answer_kept w.answer) ≡ locked (Faulty fault))
    → (header w.settings (start (w.taken ++ take k piece)) ≡ Wanting) ⊎ ((judged_with w piece k).verdict ≡ Faulty fault)
shown_front w piece used k h fault s refuses =
    elim (front_of w.settings w.taken piece k) [
      | Early is ↦ inl is
      | Same parts p q is with_all there ↦
          (let same_parts : s.parts ≡ parts = same_read s.parts parts (followed s.place (drop used piece)) q (sym s.whole ∙ with_all) in
          let front : header_of (w.taken ++ take k piece) parts ≡ h =
          sym (header_stays w.settings (w.taken ++ take k piece) (drop k piece) parts p is) ∙ ap (λ (l : List ℕ). header_of l parts) (front_whole w.taken piece k)
          ∙ ap (header_of (w.taken ++ piece)) (sym same_parts) ∙ s.same in
          inr (ap (λ (j : Judged). j.verdict) (judged_read (w.taken ++ take k piece) w.settings (answer_kept w.answer) parts p is
          ∙ ap (λ (g : HeaderValue). judged_header w.settings g p (answer_kept w.answer)) front ∙ refuses p)))
      | SameFault other at is with_all ↦ absurd (let no : Refused other at ≡ Read s.parts (followed s.place (drop used piece)) = sym with_all ∙ s.whole in cc)
    ]
  where
    same_read : (x y : HeaderFields) (p q : Place) → Read x p ≡ Read y q → x ≡ y
    same_read x y p q e = cc

read_not_wanting : (r : Reading HeaderFields) (parts : HeaderFields) (p : Place) → r ≡ Read parts p → r ≡ Wanting → ⊥
read_not_wanting r parts p e f = let no : Read parts p ≡ Wanting = sym e ∙ f in cc

shown_faulty : (w : OpeningValue) (piece : List ℕ) (used : ℕ) (h : HeaderValue) (fault : Fault) → header w.settings (start w.taken) ≡ Wanting → Shown w piece used h
    → ((p : Place) → judged_header w.settings h p (answer_kept w.answer) ≡ locked (Faulty fault)) → (judged_with w piece (reach w piece)).verdict ≡ Faulty fault
shown_faulty w piece used h fault now s refuses =
    ends_faulty w piece fault now (read_not_wanting (header w.settings (start (w.taken ++ piece))) s.parts (followed s.place (drop used piece)) s.whole)
    (λ k. shown_front w piece used k h fault s refuses)

-- the same is shown to a session that has these bytes and limits
pub kept_shown : (v w : OpeningValue) (piece : List ℕ) (used : ℕ) (h : HeaderValue) → w.settings ≡ v.settings → w.taken ≡ v.taken → Shown v piece used h → Shown w piece used h
kept_shown v w piece used h settings taken s = record {
  parts = s.parts;
  place = s.place;
  reads = rw (settings, taken) s.reads;
  is = rw taken s.is;
  whole = rw (settings, taken) s.whole;
  same = rw taken s.same;
  at = rw taken s.at;
  left = s.left;
}

-- the manager named a fault
pub named_answer : (v : OpeningValue) (piece : List ℕ) (used : ℕ) (h : HeaderValue) (fault : Fault) → v.stopped ≡ false → header v.settings (start v.taken) ≡ Wanting → Shown v piece used h
    → opening_step_answer v piece (Named fault) ≡ Err (errors.Fault fault)
unfolding opening_step_answer
named_answer v piece used h fault going now s =
    let w : OpeningValue = keeping v (Named fault) in
    ap (λ (b : Bool). if b then Err errors.Stopped else answer_on v piece (Named fault)) going
    ∙ going_on v w piece fault (shown_faulty w piece used h fault now (kept_shown v w piece used h refl refl s) (λ p. refl))

-- the lock has a fault
pub locked_answer : (v : OpeningValue) (piece : List ℕ) (used : ℕ) (h : HeaderValue) (m : DecMaterialsValue) (fault : Fault) → v.stopped ≡ false → header v.settings (start v.taken) ≡ Wanting → Shown v piece used h
    → lock_fault h m.only m.key ≡ Some fault → opening_step_answer v piece (Found m) ≡ Err (errors.Fault fault)
unfolding opening_step_answer
locked_answer v piece used h m fault going now s bad =
    let w : OpeningValue = keeping v (Found m) in
    ap (λ (b : Bool). if b then Err errors.Stopped else answer_on v piece (Found m)) going
    ∙ going_on v w piece fault (shown_faulty w piece used h fault now (kept_shown v w piece used h refl refl s)
    (λ p. judged_locked v.settings h p m.context m.only m.key fault bad))

pub failed_answer : (v : OpeningValue) (piece : List ℕ) → v.stopped ≡ false → opening_step_answer v piece Failed ≡ Err errors.KeyringFault
unfolding opening_step_answer
failed_answer v piece going = ap (λ (b : Bool). if b then Err errors.Stopped else answer_on v piece Failed) going

-- memory may run out before the header is unlocked
pub runs_out_locked : (v : OpeningValue) → v.stopped ≡ false → header v.settings (start v.taken) ≡ Wanting → MayRunOut v
runs_out_locked v going now = record {
  going = going;
  unended = ap (λ (j : Judged). j.verdict) (judged_wanting v.taken v.settings (answer_kept v.answer) now);
  unreserved = λ e. absurd (true_false (sym e ∙ ap (λ (j : Judged). j.unlocked) (judged_wanting v.taken v.settings (answer_kept v.answer) now)));
}

-- ---- how many bytes are used

abbrev ok_step : HeaderStep → Result HeaderStep FieldError
ok_step s = Ok s

same_step : (x y : HeaderStep) → ok_step x ≡ ok_step y → x ≡ y
same_step x y e = cc

-- the reader uses bytes of the piece alone
used_of : (taken piece : List ℕ) (settings : Settings) (step : HeaderStep) (r : Reading HeaderFields) → header settings (start (taken ++ piece)) ≡ r
    → answer_to (record { settings = settings; taken = taken; stopped = false }) piece r ≡ Ok step → step.used ≤ length piece
used_of taken piece settings step (Read parts end) e answer =
    let is : end.at - length taken ≡ step.used = ap (λ (s : HeaderStep). s.used) (same_step (record { used = end.at - length taken; ready = true }) step answer) in
    let inside : end.at ≤ length (taken ++ piece) = read_within (header settings) (taken ++ piece) parts end (IsSequential-header settings) e in
    omega (arith, is, inside, length-append taken piece)
used_of taken piece settings step (Refused fault at) e answer = absurd cc
used_of taken piece settings step Wanting e answer =
    let is : length piece ≡ step.used = ap (λ (s : HeaderStep). s.used) (same_step (record { used = length piece; ready = false }) step answer) in
    omega (arith, is)

pub used_within : (taken piece : List ℕ) (settings : Settings) (step : HeaderStep) → answer (record { settings = settings; taken = taken; stopped = false }) piece ≡ Ok step → step.used ≤ length piece
used_within taken piece settings step e = used_of taken piece settings step (header settings (start (taken ++ piece))) refl e

-- no header is shown: all of the piece is used, and more is wanted
pub record NotShown (taken piece : List ℕ) (settings : Settings) (step : HeaderStep) : Type 0 where
  pub all : step.used ≡ length piece
  pub whole : header settings (start (taken ++ piece)) ≡ Wanting

not_shown_by : (taken piece : List ℕ) (settings : Settings) (step : HeaderStep) (r : Reading HeaderFields) → header settings (start (taken ++ piece)) ≡ r
    → answer_to (record { settings = settings; taken = taken; stopped = false }) piece r ≡ Ok step → header settings (start (taken ++ take step.used piece)) ≡ Wanting → NotShown taken piece settings step
not_shown_by taken piece settings step (Read parts end) e answer front =
    let is : end.at - length taken ≡ step.used = ap (λ (s : HeaderStep). s.used) (same_step (record { used = end.at - length taken; ready = true }) step answer) in
    let inside : end.at ≤ length (taken ++ piece) = read_within (header settings) (taken ++ piece) parts end (IsSequential-header settings) e in
    let late : length (taken ++ take step.used piece) < end.at =
    read_after (header settings) (taken ++ take step.used piece) (drop step.used piece) parts end (IsSequential-header settings) front
    (ap (λ (l : List ℕ). header settings (start l)) (front_whole taken piece step.used) ∙ e) in
    absurd (omega (arith, is, inside, late, length-append taken piece, length-append taken (take step.used piece), length-take step.used piece))
not_shown_by taken piece settings step (Refused fault at) e answer front = absurd cc
not_shown_by taken piece settings step Wanting e answer front =
    record { all = sym (ap (λ (s : HeaderStep). s.used) (same_step (record { used = length piece; ready = false }) step answer)); whole = e }

pub not_shown : (taken piece : List ℕ) (settings : Settings) (step : HeaderStep) → answer (record { settings = settings; taken = taken; stopped = false }) piece ≡ Ok step
    → header settings (start (taken ++ take step.used piece)) ≡ Wanting → NotShown taken piece settings step
not_shown taken piece settings step e front = not_shown_by taken piece settings step (header settings (start (taken ++ piece))) refl e front

-- ---- an answer that unlocks the header

-- a front of fewer bytes has no whole header
short_front : (v : OpeningValue) (piece : List ℕ) (used k : ℕ) (h : HeaderValue) → Shown v piece used h → used ≤ length piece → k < used → header v.settings (start (v.taken ++ take k piece)) ≡ Wanting
short_front v piece used k h s within few =
    elim (front_of v.settings v.taken piece k) [
      | Early is ↦ is
      | Same parts p q is with_all there ↦
          (let same : q.at ≡ s.place.at = same_at parts s.parts q (followed s.place (drop used piece)) (sym with_all ∙ s.whole) in
          let inside : p.at ≤ length (v.taken ++ take k piece) = read_within (header v.settings) (v.taken ++ take k piece) parts p (IsSequential-header v.settings) is in
          absurd (omega (arith, same, there, inside, s.at, few, within, length-append v.taken (take k piece), length-append v.taken (take used piece), length-take k piece, length-take used piece)))
      | SameFault fault at is with_all ↦ absurd (let no : Refused fault at ≡ Read s.parts (followed s.place (drop used piece)) = sym with_all ∙ s.whole in cc)
    ]
  where
    same_at : (x y : HeaderFields) (p q : Place) → Read x p ≡ Read y q → p.at ≡ q.at
    same_at x y p q e = let same : p ≡ q = cc in ap (λ (r : Place). r.at) same

-- the step ends with the header, where it is judged so with its bytes
pub used_all : (w : OpeningValue) (piece : List ℕ) (used : ℕ) (h : HeaderValue) → header w.settings (start w.taken) ≡ Wanting → Shown w piece used h → used ≤ length piece
    → is_stop w piece used ≡ true → reach w piece ≡ used
used_all w piece used h now s within stops =
    let ends = reach_ends w piece in
    let some : 1 ≤ used = elim (cases_lt 0 used) [
      | inl some ↦ some
      | inr none ↦
          (let zero_is : used ≡ 0 = omega arith in
          let front : header w.settings (start (w.taken ++ take used piece)) ≡ Wanting =
          ap (λ (n : ℕ). header w.settings (start (w.taken ++ take n piece))) zero_is ∙ ap (λ (l : List ℕ). header w.settings (start l)) (append-nil w.taken) ∙ now in
          absurd (read_not_wanting (header w.settings (start (w.taken ++ take used piece))) s.parts s.place s.reads front))
    ] in
    elim (cases_lt (reach w piece) used) [
      | inl early ↦ elim ends.here [
        | inl all ↦ absurd (omega (arith, early, within, all))
        | inr stop ↦ absurd (true_false (sym stop ∙ no_stop w piece (reach w piece) now (short_front w piece used (reach w piece) h s within early)))
      ]
      | inr late ↦ elim (cases_lt used (reach w piece)) [
        | inl after ↦ absurd (true_false (sym stops ∙ ends.before used some after))
        | inr last ↦ omega (arith, late, last)
      ]
    ]
