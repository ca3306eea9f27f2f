-- A step that finds a fault: all of the piece has it, and no more is released of it than was before.
use Rattle.std.proofs.Common.{◌≡◌, ℕ, ◌+◌, ◌-◌, ◌<◌, Bool, true, false, ◌||◌, Option, Some, None, Result, Err, List, [], ◌∷◌, ◌++◌, length, take, drop, if◌then◌else◌, refl, sym, ap, subst, ◌∙◌, arith, inl, inr, append_assoc}
use Rattle.std.specs.Prelude.{nat_lt, option_map}
use Rattle.std.specs.List.{concat}
use Rattle.std.proofs.lemmas.Bool.{cases_lt, lt-ltb}
use Rattle.std.proofs.lemmas.List.{append-nil, length-append, length-take}
use Rattle.esdk_fields.specs.declared.contents.Content.{Content}
use Rattle.esdk_fields.specs.declared.faults.Fault.{Fault}
use Rattle.esdk_fields.specs.Place.{Place, start, followed}
use Rattle.esdk_fields.specs.Reading.{Reading, Read, Refused, Wanting, value_of, reading_fault}
use Rattle.esdk_fields.proofs.Fronts.{read_after, end_stays, value_stays}
use Rattle.context_codec.specs.Context.{KeyValue}
use Rattle.header_codec.specs.declared.settings.Settings.{Settings}
use Rattle.header_codec.specs.Header.{HeaderValue}
use Rattle.header_codec.specs.Table.{HeaderFields, header, header_fault}
use Rattle.header_codec.proofs.Order.{IsSequential-header}
use Rattle.keyring_trait.specs.Unlocking.{Unlocking, Refuses, Unlocks}
use Rattle.frame_codec.specs.Unit.{Piece, More, Last}
use Rattle.frame_codec.proofs.Fields.{place}
use Rattle.body_format.specs.declared.verdicts.Verdict.{Verdict}
use Rattle.body_format.specs.declared.verdicts.Verdict.TheVariants.{Going, Whole, Faulty}
use Rattle.body_format.specs.Rows.{JudgedBody, released, behind_last, verdict_of}
use Rattle.body_format.specs.Body.{judged_body}
use Rattle.body_format.proofs.Loop.{passed_none, wanting_end}
use Rattle.message_format.specs.Judgement.{Judged, judged, judged_header, locked, opened_as, header_of, lock_fault, content, marks}
use Rattle.message_format.proofs.Bodies.{body_trailing_units}
use Rattle.message_format.proofs.Following.{follows, header_stays}
use Rattle.message_format.proofs.Judging.{body_of, judged_read, judged_refused, judged_wanting, judged_opened, judged_locked}
use Rattle.stream_open.specs.declared.unlocked.Unlocked.{Unlocked}
use Rattle.stream_open.specs.declared.errors.OpenError.{OpenError}
use Rattle.stream_open.specs.declared.errors.OpenError.TheVariants as errors
use Rattle.stream_open.specs.Asking.{Heard, Nothing, Found, Named, Failed}
use Rattle.stream_open.specs.Body.{reach_in_piece, unit_width, open_unit}
use Rattle.stream_open.specs.Feeding.{GoesOn, judged_all, FindsFault}
use Rattle.stream_open.specs.Laws.{MayBeHeard, FirstStopIsAt}
use Rattle.stream_open.specs.Session.{OpeningValue, answer_kept, judged_now, judged_with, header_asked, asked_header, keeping, is_faulty, is_stop, reach, answer_at, answer_on, opening_step_answer}
use Rattle.stream_open.specs.Stands.{OpenerIsUnlocked}
use Rattle.stream_open.proofs.AnyCut.{same_answer}
use Rattle.stream_open.proofs.Behind.{Clean, said, behind_units, row_of}
use Rattle.stream_open.proofs.Ends.{reach_ends}
use Rattle.stream_open.proofs.Filling.{taken_on}
use Rattle.stream_open.proofs.GoingOn.{Standing, InHeader, Behind, standing}
use Rattle.stream_open.proofs.Headers.{Early, Same, SameFault, front_of, front_whole}
use Rattle.stream_open.proofs.Stepping.{judged_then, with_said, now_said, reach_same, whole_verdict, clean_at, unasked}
use Rattle.stream_open.proofs.Standing.{judged_unlocked}

-- ---- the answer

pub answered_on : (v : OpeningValue) (piece : List ℕ) (heard : Heard) → v.stopped ≡ false → opening_step_answer v piece heard ≡ answer_on v piece heard
unfolding opening_step_answer
answered_on v piece heard going = ap (λ (b : Bool). if b then Err errors.Stopped else answer_on v piece heard) going

fault_at : (n : ℕ) (verdict : Verdict) (fault : Fault) → answer_at n verdict ≡ Err (errors.Fault fault) → verdict ≡ Faulty fault
fault_at n Going fault e = absurd cc
fault_at n Whole fault e = absurd cc
fault_at n (Faulty other) fault e = let same : other ≡ fault = cc in ap (λ (f : Fault). faulty f) same
  where
    faulty : Fault → Verdict
    faulty f = Faulty f

abbrev failed : OpenError → Result ℕ OpenError
failed error = Err error

other_error : (fault : Fault) → failed errors.KeyringFault ≡ failed (errors.Fault fault) → ⊥
other_error fault e = cc

-- With so many bytes of the piece, where the step ends, there is the fault.
pub record FaultyAt (w : OpeningValue) (piece : List ℕ) (fault : Fault) : Type 0 where
  pub verdict : (judged_with w piece (reach w piece)).verdict ≡ Faulty fault
  pub ends : FirstStopIsAt w piece (reach w piece)

pub faulty_at : (v : OpeningValue) (piece : List ℕ) (heard : Heard) (fault : Fault) → v.stopped ≡ false → opening_step_answer v piece heard ≡ Err (errors.Fault fault) → FaultyAt (keeping v heard) piece fault
faulty_at v piece Nothing fault going is =
    record { verdict = fault_at (reach v piece) (judged_with v piece (reach v piece)).verdict fault (sym (answered_on v piece Nothing going) ∙ is); ends = reach_ends v piece }
faulty_at v piece (Found m) fault going is =
    let w : OpeningValue = keeping v (Found m) in
    record { verdict = fault_at (reach w piece) (judged_with w piece (reach w piece)).verdict fault (sym (answered_on v piece (Found m) going) ∙ is); ends = reach_ends w piece }
faulty_at v piece (Named named) fault going is =
    let w : OpeningValue = keeping v (Named named) in
    record { verdict = fault_at (reach w piece) (judged_with w piece (reach w piece)).verdict fault (sym (answered_on v piece (Named named) going) ∙ is); ends = reach_ends w piece }
faulty_at v piece Failed fault going is = absurd (other_error fault (sym (answered_on v piece Failed going) ∙ is))

-- ---- all of the piece

-- a fault stays when bytes follow
pub faulty_on : (bytes more : List ℕ) (settings : Settings) (a : Unlocking) (fault : Fault) → (judged bytes settings a).verdict ≡ Faulty fault → judged (bytes ++ more) settings a ≡ judged bytes settings a
faulty_on bytes more settings a fault e = (follows bytes more settings a a (same_answer (header settings (start bytes)) a)).fault fault e

with_all : (w : OpeningValue) (piece : List ℕ) (n : ℕ) (fault : Fault) → (judged_with w piece n).verdict ≡ Faulty fault → judged (w.taken ++ piece) w.settings (answer_kept w.answer) ≡ judged_with w piece n
with_all w piece n fault e =
    ap (λ (l : List ℕ). judged l w.settings (answer_kept w.answer)) (sym (front_whole w.taken piece n)) ∙ faulty_on (w.taken ++ take n piece) (drop n piece) w.settings (answer_kept w.answer) fault e

-- ---- what is released, behind a header that is unlocked

faulty_releases : (r : Reading Piece) (fault : Fault) → Clean r → verdict_of r ≡ Faulty fault → released r ≡ []
faulty_releases (Read (More content) next) fault clean e = absurd cc
faulty_releases (Read (Last content) next) fault clean e = absurd (whole_not (sym (ap behind_last clean) ∙ e))
  where
    whole_not : Whole ≡ Faulty fault → ⊥
    whole_not e = cc
faulty_releases (Refused other at) fault clean e = refl
faulty_releases Wanting fault clean e = refl

abbrev text_of : List (List ℕ) → List ℕ
text_of units = concat units

behind_by : (u : Unlocked) (v : OpeningValue) (piece : List ℕ) (fault : Fault) (ended : Bool) → OpenerIsUnlocked u v → v.stopped ≡ false → u.body.ended ≡ ended
    → (judged_with v piece (reach v piece)).verdict ≡ Faulty fault → content (judged_with v piece (reach v piece)) ≡ content (judged_now v)
behind_by u v piece fault true at going e faulty =
    let n : ℕ = reach v piece in
    ap content (judged_then u v (take n piece) at)
    ∙ ap text_of (body_trailing_units u.body.content u.body.max_unit u.body.key u.body.message_id at.place (take n piece) (whole_verdict u v at e))
    ∙ sym (ap content (judged_unlocked u v at))
behind_by u v piece fault false at going e faulty =
    let behind = at.behind.going going e in
    let n : ℕ = reach_in_piece u.body piece in
    let clean = clean_at u.body piece behind.wanting in
    let units : List (List ℕ) = behind_units u.body at.place in
    let r : Reading Piece = open_unit u.body (u.body.unit.held ++ take n piece) in
    let with_n : judged_with v piece (reach v piece) ≡ opened_as (said units r) = ap (judged_with v piece) (reach_same u v piece at behind) ∙ with_said u v piece n at behind clean in
    let none : released r ≡ [] = faulty_releases r fault clean (sym (ap (λ (j : Judged). j.verdict) with_n) ∙ faulty) in
    ap content with_n ∙ ap text_of (ap (λ (l : List (List ℕ)). units ++ l) none ∙ append-nil units) ∙ sym (ap content (now_said u v at behind))

-- ---- what is released, before the header is unlocked

-- where no byte of the body came more are wanted
empty_going : (kind : Content) (max_unit : Option ℕ) (key id : List ℕ) (p : Place) → p.left ≡ [] → (judged_body kind max_unit key id p).verdict ≡ Going
empty_going kind max_unit key id p none =
    let r = row_of kind max_unit key id in
    ap (λ (j : JudgedBody). j.verdict)
    (r.judges p
    ∙ wanting_end (unit_width kind) r.row p 0 [] p r.is_row (passed_none (unit_width kind) r.row p) (ap (λ (l : List ℕ). r.row 0 (place p.at l)) none ∙ r.empty 0 p.at))

or_true : (b c : Bool) → c ≡ true → (b || c) ≡ true
or_true true c e = refl
or_true false c e = e

-- an unlocked header is a stop
opened_stop : (w : OpeningValue) (piece : List ℕ) (k : ℕ) (j : JudgedBody) → header w.settings (start w.taken) ≡ Wanting → judged_with w piece k ≡ opened_as j → is_stop w piece k ≡ true
opened_stop w piece k j now with_k =
    ap (λ (i : Judged). is_faulty i.verdict || nat_lt (marks (judged_now w)) (marks i)) with_k
    ∙ ap (λ (i : Judged). is_faulty j.verdict || nat_lt (marks i) (length j.units + 1)) (judged_wanting w.taken w.settings (answer_kept w.answer) now)
    ∙ or_true (is_faulty j.verdict) (nat_lt 0 (length j.units + 1)) (lt-ltb 0 (length j.units + 1) (omega arith))

-- the header with these bytes is the one with those
same_header : (w : OpeningValue) (piece : List ℕ) (k n : ℕ) (parts other : HeaderFields) (p q : Place) → header w.settings (start (w.taken ++ take n piece)) ≡ Read parts p
    → header w.settings (start (w.taken ++ take k piece)) ≡ Read other q → parts ≡ other → header_of (w.taken ++ take k piece) other ≡ header_of (w.taken ++ take n piece) parts
same_header w piece k n parts other p q at_n at_k same =
    sym (header_stays w.settings (w.taken ++ take k piece) (drop k piece) other q at_k) ∙ ap (λ (l : List ℕ). header_of l other) (front_whole w.taken piece k)
    ∙ ap (header_of (w.taken ++ piece)) (sym same)
    ∙ sym (ap (λ (l : List ℕ). header_of l parts) (front_whole w.taken piece n)) ∙ header_stays w.settings (w.taken ++ take n piece) (drop n piece) parts p at_n

true_false : true ≡ false → ⊥
true_false e = cc

-- With fewer bytes than a step used there was no whole header, where its answer unlocks it.
waits_before : (w : OpeningValue) (piece : List ℕ) (k n : ℕ) (parts : HeaderFields) (p : Place) (whole only : List KeyValue) (key : List ℕ) → header w.settings (start w.taken) ≡ Wanting → FirstStopIsAt w piece n → k < n
    → header w.settings (start (w.taken ++ take n piece)) ≡ Read parts p → answer_kept w.answer ≡ Unlocks whole only key → lock_fault (header_of (w.taken ++ take n piece) parts) only key ≡ None
    → header w.settings (start (w.taken ++ take k piece)) ≡ Wanting
waits_before w piece k n parts p whole only key now ends few at_n answer opens =
    elim (cases_lt 0 k) [
      | inl some ↦ elim (front_of w.settings w.taken piece k) [
        | Early is ↦ is
        | Same other q far at_k with_piece there ↦
            (let same : parts ≡ other = same_read parts other (followed p (drop n piece)) far (sym whole_read ∙ with_piece) in
            let h : HeaderValue = header_of (w.taken ++ take k piece) other in
            let known : h ≡ header_of (w.taken ++ take n piece) parts = same_header w piece k n parts other p q at_n at_k same in
            let opens_there : lock_fault h only key ≡ None = ap (λ (g : HeaderValue). lock_fault g only key) known ∙ opens in
            let with_k : judged_with w piece k ≡ body_of w.settings h key q =
            judged_read (w.taken ++ take k piece) w.settings (answer_kept w.answer) other q at_k ∙ ap (judged_header w.settings h q) answer ∙ judged_opened w.settings h q whole only key opens_there in
            absurd (true_false (sym (opened_stop w piece k _ now with_k) ∙ ends.before k some few)))
        | SameFault fault at is with_piece ↦ absurd (read_not_refused (sym whole_read ∙ with_piece))
      ]
      | inr none ↦
          (let zero_is : k ≡ 0 = omega arith in
          ap (λ (m : ℕ). header w.settings (start (w.taken ++ take m piece))) zero_is ∙ ap (λ (l : List ℕ). header w.settings (start l)) (append-nil w.taken) ∙ now)
    ]
  where
    whole_read : header w.settings (start (w.taken ++ piece)) ≡ Read parts (followed p (drop n piece))
    whole_read =
        ap (λ (l : List ℕ). header w.settings (start l)) (sym (front_whole w.taken piece n))
        ∙ value_stays (header w.settings) (w.taken ++ take n piece) (drop n piece) parts p (IsSequential-header w.settings) at_n

    same_read : (x y : HeaderFields) (p q : Place) → Read x p ≡ Read y q → x ≡ y
    same_read x y p q e = cc

    read_not_refused : {q : Place} {fault : Fault} {at : ℕ} → Read parts q ≡ Refused fault at → ⊥
    read_not_refused e = cc

-- so no byte of the body came
nothing_left : (w : OpeningValue) (piece : List ℕ) (n : ℕ) (parts : HeaderFields) (p : Place) (whole only : List KeyValue) (key : List ℕ) → header w.settings (start w.taken) ≡ Wanting → FirstStopIsAt w piece n
    → header w.settings (start (w.taken ++ take n piece)) ≡ Read parts p → answer_kept w.answer ≡ Unlocks whole only key → lock_fault (header_of (w.taken ++ take n piece) parts) only key ≡ None → p.left ≡ []
nothing_left w piece n parts p whole only key now ends at_n answer opens =
    elim (cases_lt 0 n) [
      | inl some ↦
          (let before : header w.settings (start (w.taken ++ take (n - 1) piece)) ≡ Wanting = waits_before w piece (n - 1) n parts p whole only key now ends (omega arith) at_n answer opens in
          let on : w.taken ++ take n piece ≡ w.taken ++ take (n - 1) piece ++ take (n - (n - 1)) (drop (n - 1) piece) = taken_on w.taken piece (n - 1) n (omega arith) in
          let late : length (w.taken ++ take (n - 1) piece) < p.at =
          read_after (header w.settings) (w.taken ++ take (n - 1) piece) (take (n - (n - 1)) (drop (n - 1) piece)) parts p (IsSequential-header w.settings) before
          (sym (ap (λ (l : List ℕ). header w.settings (start l)) on) ∙ at_n) in
          let end : p.at + length p.left ≡ 0 + length (w.taken ++ take n piece) = end_stays (header w.settings) (start (w.taken ++ take n piece)) parts p (IsSequential-header w.settings) at_n in
          none_left p.left
          (omega (arith, late, end, some, ends.within, length-append w.taken (take n piece), length-append w.taken (take (n - 1) piece), length-take n piece, length-take (n - 1) piece)))
      | inr none ↦
          (let zero_is : n ≡ 0 = omega arith in
          let front : header w.settings (start (w.taken ++ take n piece)) ≡ Wanting =
          ap (λ (m : ℕ). header w.settings (start (w.taken ++ take m piece))) zero_is ∙ ap (λ (l : List ℕ). header w.settings (start l)) (append-nil w.taken) ∙ now in
          absurd (read_not_wanting (sym at_n ∙ front)))
    ]
  where
    none_left : (l : List ℕ) → length l ≡ 0 → l ≡ []
    none_left [] e = refl
    none_left (x ∷ xs) e = absurd (omega arith)

    read_not_wanting : Read parts p ≡ Wanting → ⊥
    read_not_wanting e = cc

going_not : (fault : Fault) → Going ≡ Faulty fault → ⊥
going_not fault e = cc

-- It isn't unlocked, and nothing is released.
record IsShut (j : Judged) : Type 0 where
  locked : j.unlocked ≡ false
  released : content j ≡ []

shut_with : (j : Judged) (verdict : Verdict) → j ≡ locked verdict → IsShut j
shut_with j verdict is = record { locked = ap (λ (k : Judged). k.unlocked) is; released = ap content is }

locked_lock : (w : OpeningValue) (piece : List ℕ) (n : ℕ) (fault : Fault) (parts : HeaderFields) (p : Place) (whole only : List KeyValue) (key : List ℕ) (lock : Option Fault)
    → header w.settings (start w.taken) ≡ Wanting → FirstStopIsAt w piece n → (judged_with w piece n).verdict ≡ Faulty fault
    → header w.settings (start (w.taken ++ take n piece)) ≡ Read parts p → answer_kept w.answer ≡ Unlocks whole only key → lock_fault (header_of (w.taken ++ take n piece) parts) only key ≡ lock
    → IsShut (judged_with w piece n)
locked_lock w piece n fault parts p whole only key (Some other) now ends faulty at_n answer is =
    shut_with (judged_with w piece n) (Faulty other)
    (judged_read (w.taken ++ take n piece) w.settings (answer_kept w.answer) parts p at_n ∙ ap (judged_header w.settings (header_of (w.taken ++ take n piece) parts) p) answer
    ∙ judged_locked w.settings (header_of (w.taken ++ take n piece) parts) p whole only key other is)
locked_lock w piece n fault parts p whole only key None now ends faulty at_n answer is =
    let h : HeaderValue = header_of (w.taken ++ take n piece) parts in
    let with_n : judged_with w piece n ≡ body_of w.settings h key p =
    judged_read (w.taken ++ take n piece) w.settings (answer_kept w.answer) parts p at_n ∙ ap (judged_header w.settings h p) answer ∙ judged_opened w.settings h p whole only key is in
    let going = empty_going h.content w.settings.max_unit _ h.message_id p (nothing_left w piece n parts p whole only key now ends at_n answer is) in
    absurd (going_not fault (sym going ∙ sym (ap (λ (j : Judged). j.verdict) with_n) ∙ faulty))

locked_answer : (w : OpeningValue) (piece : List ℕ) (n : ℕ) (fault : Fault) (parts : HeaderFields) (p : Place) (a : Unlocking) → header w.settings (start w.taken) ≡ Wanting → FirstStopIsAt w piece n
    → (judged_with w piece n).verdict ≡ Faulty fault → header w.settings (start (w.taken ++ take n piece)) ≡ Read parts p → answer_kept w.answer ≡ a → IsShut (judged_with w piece n)
locked_answer w piece n fault parts p (Refuses other) now ends faulty at_n answer =
    shut_with (judged_with w piece n) (Faulty other)
    (judged_read (w.taken ++ take n piece) w.settings (answer_kept w.answer) parts p at_n ∙ ap (judged_header w.settings (header_of (w.taken ++ take n piece) parts) p) answer)
locked_answer w piece n fault parts p (Unlocks whole only key) now ends faulty at_n answer =
    locked_lock w piece n fault parts p whole only key (lock_fault (header_of (w.taken ++ take n piece) parts) only key) now ends faulty at_n answer refl

locked_reading : (w : OpeningValue) (piece : List ℕ) (n : ℕ) (fault : Fault) (r : Reading HeaderFields) → header w.settings (start w.taken) ≡ Wanting → FirstStopIsAt w piece n → (judged_with w piece n).verdict ≡ Faulty fault
    → header w.settings (start (w.taken ++ take n piece)) ≡ r → IsShut (judged_with w piece n)
locked_reading w piece n fault (Read parts p) now ends faulty is = locked_answer w piece n fault parts p (answer_kept w.answer) now ends faulty is refl
locked_reading w piece n fault (Refused other at) now ends faulty is =
    shut_with (judged_with w piece n) (Faulty other) (judged_refused (w.taken ++ take n piece) w.settings (answer_kept w.answer) other at is)
locked_reading w piece n fault Wanting now ends faulty is = shut_with (judged_with w piece n) Going (judged_wanting (w.taken ++ take n piece) w.settings (answer_kept w.answer) is)

-- nothing was released before the header was unlocked
pub nothing_yet : (v : OpeningValue) → header v.settings (start v.taken) ≡ Wanting → content (judged_now v) ≡ []
nothing_yet v now = ap content (judged_wanting v.taken v.settings (answer_kept v.answer) now)

shut_there : (w : OpeningValue) (piece : List ℕ) (fault : Fault) → header w.settings (start w.taken) ≡ Wanting → FaultyAt w piece fault → IsShut (judged_with w piece (reach w piece))
shut_there w piece fault now at = locked_reading w piece (reach w piece) fault (header w.settings (start (w.taken ++ take (reach w piece) piece))) now at.ends at.verdict refl

in_header : (w : OpeningValue) (piece : List ℕ) (fault : Fault) → header w.settings (start w.taken) ≡ Wanting → FaultyAt w piece fault → content (judged_with w piece (reach w piece)) ≡ content (judged_now w)
in_header w piece fault now at = (shut_there w piece fault now at).released ∙ sym (nothing_yet w now)

-- ---- what was heard

-- something is heard only where a header is asked about
pub nothing_heard : (asked : Option HeaderValue) (heard : Heard) → asked ≡ None → MayBeHeard asked ⊥ heard → heard ≡ Nothing
nothing_heard asked Nothing none may = refl
nothing_heard asked (Found m) none (h, is) = absurd (none_some h (sym none ∙ is))
  where
    none_some : (h : HeaderValue) → None ≡ Some h → ⊥
    none_some h e = cc
nothing_heard asked (Named fault) none (h, is) = absurd (none_some h (sym none ∙ is))
  where
    none_some : (h : HeaderValue) → None ≡ Some h → ⊥
    none_some h e = cc
nothing_heard asked Failed none (h, is) = absurd (none_some h (sym none ∙ is))
  where
    none_some : (h : HeaderValue) → None ≡ Some h → ⊥
    none_some h e = cc

released_by : (v : OpeningValue) (piece : List ℕ) (heard : Heard) (fault : Fault) → GoesOn v → MayBeHeard (asked_header v piece) ⊥ heard → Standing v → FaultyAt (keeping v heard) piece fault
    → content (judged_with (keeping v heard) piece (reach (keeping v heard) piece)) ≡ content (judged_now v)
released_by v piece Nothing fault goes may (InHeader now) at = in_header v piece fault now at
released_by v piece (Found m) fault goes may (InHeader now) at = in_header (keeping v (Found m)) piece fault now at ∙ nothing_yet (keeping v (Found m)) now ∙ sym (nothing_yet v now)
released_by v piece (Named named) fault goes may (InHeader now) at = in_header (keeping v (Named named)) piece fault now at ∙ nothing_yet (keeping v (Named named)) now ∙ sym (nothing_yet v now)
released_by v piece Failed fault goes may (InHeader now) at = in_header v piece fault now at
released_by v piece heard fault goes may (Behind u iu) at =
    let same : heard ≡ Nothing = nothing_heard (asked_header v piece) heard (unasked u v piece iu) may in
    subst (λ (other : Heard). FaultyAt (keeping v other) piece fault → content (judged_with (keeping v other) piece (reach (keeping v other) piece)) ≡ content (judged_now v)) (sym same)
    (λ at_same. behind_by u v piece fault u.body.ended iu goes.going refl at_same.verdict) at

-- ---- the header's fault

header_by : (v : OpeningValue) (piece : List ℕ) (fault : Fault) (r : Reading HeaderFields) → GoesOn v → v.answer ≡ None → asked_header v piece ≡ None
    → (judged (v.taken ++ piece) v.settings (answer_kept v.answer)).verdict ≡ Faulty fault → header v.settings (start (v.taken ++ piece)) ≡ r → reading_fault r ≡ Some fault
header_by v piece fault (Read parts p) goes none unasked_here faulty is =
    absurd (some_none
    (sym (ap (λ (b : Bool). if b then None else header_asked v.answer v.settings (v.taken ++ piece)) goes.going
    ∙ ap (λ (o : Option Unlocking). header_asked o v.settings (v.taken ++ piece)) none
    ∙ ap (λ (r : Reading HeaderFields). option_map (header_of (v.taken ++ piece)) (value_of r)) is)
    ∙ unasked_here))
  where
    some_none : Some (header_of (v.taken ++ piece) parts) ≡ None → ⊥
    some_none e = cc
header_by v piece fault (Refused other at) goes none unasked_here faulty is =
    let same : other ≡ fault = same_fault (sym (ap (λ (j : Judged). j.verdict) (judged_refused (v.taken ++ piece) v.settings (answer_kept v.answer) other at is)) ∙ faulty) in
    ap (λ (f : Fault). some f) same
  where
    same_fault : Faulty other ≡ Faulty fault → other ≡ fault
    same_fault e = cc

    some : Fault → Option Fault
    some f = Some f
header_by v piece fault Wanting goes none unasked_here faulty is =
    absurd (going_not fault (sym (ap (λ (j : Judged). j.verdict) (judged_wanting (v.taken ++ piece) v.settings (answer_kept v.answer) is)) ∙ faulty))

unheard_by : (v : OpeningValue) (piece : List ℕ) (heard : Heard) (fault : Fault) → GoesOn v → MayBeHeard (asked_header v piece) ⊥ heard → opening_step_answer v piece heard ≡ Err (errors.Fault fault)
    → (judged_all v piece heard).verdict ≡ Faulty fault → (keeping v heard).answer ≡ None → header_fault v.settings (v.taken ++ piece) ≡ Some fault
unheard_by v piece Nothing fault goes (inl none) is faulty unheard = header_by v piece fault (header v.settings (start (v.taken ++ piece))) goes unheard none faulty refl
unheard_by v piece Nothing fault goes (inr never) is faulty unheard = absurd never
unheard_by v piece (Found m) fault goes may is faulty unheard = absurd cc
unheard_by v piece (Named named) fault goes may is faulty unheard = absurd cc
unheard_by v piece Failed fault goes may is faulty unheard = absurd (other_error fault (sym (answered_on v piece Failed goes.going) ∙ is))

-- ---- all of it

-- with all of the piece there is what there was where the step ended
all_is : (v : OpeningValue) (piece : List ℕ) (heard : Heard) (n : ℕ) (fault : Fault) → (judged_with (keeping v heard) piece n).verdict ≡ Faulty fault → judged_all v piece heard ≡ judged_with (keeping v heard) piece n
all_is v piece Nothing n fault e = with_all v piece n fault e
all_is v piece (Found m) n fault e = with_all (keeping v (Found m)) piece n fault e
all_is v piece (Named named) n fault e = with_all (keeping v (Named named)) piece n fault e
all_is v piece Failed n fault e = with_all v piece n fault e

pub finds_fault : (v : OpeningValue) (piece : List ℕ) (heard : Heard) (fault : Fault) → GoesOn v → MayBeHeard (asked_header v piece) ⊥ heard → opening_step_answer v piece heard ≡ Err (errors.Fault fault)
    → FindsFault v piece heard fault
finds_fault v piece heard fault goes may is =
    let at = faulty_at v piece heard fault goes.going is in
    let whole : judged_all v piece heard ≡ judged_with (keeping v heard) piece (reach (keeping v heard) piece) = all_is v piece heard (reach (keeping v heard) piece) fault at.verdict in
    let verdict : (judged_all v piece heard).verdict ≡ Faulty fault = ap (λ (j : Judged). j.verdict) whole ∙ at.verdict in
    record {
      verdict = verdict;
      stays = λ more.
          ap (λ (l : List ℕ). judged l v.settings (answer_kept (keeping v heard).answer)) (sym (append_assoc v.taken piece more))
          ∙ faulty_on (v.taken ++ piece) more v.settings (answer_kept (keeping v heard).answer) fault verdict;
      released = ap content whole ∙ released_by v piece heard fault goes may (standing v goes) at;
      unheard = λ e. unheard_by v piece heard fault goes may is verdict e;
    }

-- A fault that is found before the header is unlocked leaves the message locked.
pub faulty_locked : (v : OpeningValue) (piece : List ℕ) (heard : Heard) (fault : Fault) → GoesOn v → header v.settings (start v.taken) ≡ Wanting → opening_step_answer v piece heard ≡ Err (errors.Fault fault)
    → (judged_all v piece heard).unlocked ≡ false
faulty_locked v piece heard fault goes now is =
    let at = faulty_at v piece heard fault goes.going is in
    ap (λ (j : Judged). j.unlocked) (all_is v piece heard (reach (keeping v heard) piece) fault at.verdict) ∙ (shut v heard now at).locked
  where
    shut : (v : OpeningValue) (heard : Heard) → header v.settings (start v.taken) ≡ Wanting → FaultyAt (keeping v heard) piece fault → IsShut (judged_with (keeping v heard) piece (reach (keeping v heard) piece))
    shut v Nothing now at = shut_there v piece fault now at
    shut v (Found m) now at = shut_there (keeping v (Found m)) piece fault now at
    shut v (Named named) now at = shut_there (keeping v (Named named)) piece fault now at
    shut v Failed now at = shut_there v piece fault now at
