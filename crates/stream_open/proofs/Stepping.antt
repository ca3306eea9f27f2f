-- A step behind the header: the session answers what the body answers, and the body stands behind the bytes that are taken then.
use Rattle.std.proofs.Common.{◌≡◌, ℕ, ◌+◌, ◌-◌, ◌<◌, ◌≤◌, Bool, true, false, not, ◌||◌, Option, None, Result, Ok, Err, List, [], ◌∷◌, ◌++◌, length, take, drop, if◌then◌else◌, refl, sym, ap, subst, ◌∙◌, arith, inl, inr}
use Rattle.std.specs.Prelude.{nat_lt, IfOk, OnErr}
use Rattle.std.specs.List.{concat}
use Rattle.std.proofs.lemmas.Bool.{cases_lt, lt-ltb, le-ltb}
use Rattle.std.proofs.lemmas.List.{append-nil, drop_all, length-append, length-take}
use Rattle.esdk_fields.specs.declared.faults.Fault.TheVariants.{TrailingBytes}
use Rattle.esdk_fields.specs.Place.{Place, start, followed}
use Rattle.esdk_fields.specs.Reading.{Reading, Read, Refused, Wanting, value_of}
use Rattle.esdk_fields.proofs.Fronts.{value_stays, read_after, end_stays}
use Rattle.header_codec.specs.Header.{HeaderValue}
use Rattle.header_codec.specs.Table.{HeaderFields, header}
use Rattle.header_codec.proofs.Order.{IsSequential-header}
use Rattle.suite_table.specs.declared.suite.Suite.{Suite}
use Rattle.suite_table.specs.Keys.{derived}
use Rattle.keyring_trait.specs.Unlocking.{Unlocks}
use Rattle.frame_codec.specs.Unit.{Piece, More, Last, unit}
use Rattle.frame_codec.proofs.Order.{IsSequential-unit}
use Rattle.body_format.specs.declared.verdicts.Verdict.TheVariants.{Going, Whole}
use Rattle.body_format.specs.Rows.{JudgedBody, released, verdict_of, behind_last}
use Rattle.body_format.specs.Body.{judged_body}
use Rattle.message_format.specs.Judgement.{Judged, judged, judged_header, opened_as, header_of, lock_fault, marks}
use Rattle.message_format.proofs.Bodies.{body_trailing}
use Rattle.message_format.proofs.Following.{header_stays}
use Rattle.message_format.proofs.Judging.{judged_read, judged_opened}
use Rattle.stream_open.specs.declared.body.Body.{Body}
use Rattle.stream_open.specs.declared.unlocked.Unlocked.{Unlocked}
use Rattle.stream_open.specs.declared.errors.OpenError.{OpenError}
use Rattle.stream_open.specs.declared.errors.OpenError.TheVariants as errors
use Rattle.stream_open.specs.Asking.{Nothing}
use Rattle.stream_open.specs.Body.{HoldsFrames, LacksRoom, AnswersBody, BecameBody, IsBehind, IsInUnit, SameBody, StandsBehind, StepsIn, StepsBody, is_wanting, open_unit, reach_in_piece, reading_answer, body_answer}
use Rattle.stream_open.specs.Session.{OpeningValue, answer_kept, judged_now, judged_with, header_asked, asked_header, is_faulty, is_stop, reach, added_content, answer_at, answer_on, opening_step_answer, framed, is_framed, Answers, MayRunOut}
use Rattle.stream_open.specs.Stands.{IsBodyOf, OpenerIsUnlocked, StepsUnlocked}
use Rattle.stream_open.proofs.AnyCut.{behind_front}
use Rattle.stream_open.proofs.Behind.{Clean, said, said_as, behind_units, followed_none, judged_on, judged_here, behind_wanting, behind_more}
use Rattle.stream_open.proofs.Bodies.{ended_empty, ended_trailing}
use Rattle.stream_open.proofs.Ends.{reach_ends}
use Rattle.stream_open.proofs.Filling.{taken_on}
use Rattle.stream_open.proofs.Reaching.{stops_by, Reaches, reaches}
use Rattle.stream_open.proofs.Standing.{body_same, judged_unlocked}
use Rattle.stream_open.proofs.UnitAnswers.{answer_at_reach, used_some}

-- what the open unit is read as with n bytes of the piece
abbrev reading : Body → List ℕ → ℕ → Reading Piece
reading body piece n = open_unit body (body.unit.held ++ take n piece)

-- ---- judgements

abbrev opens_as : JudgedBody → Judged
opens_as j = opened_as j

pub judged_then : (u : Unlocked) (v : OpeningValue) (more : List ℕ) → (at : OpenerIsUnlocked u v)
    → judged (v.taken ++ more) v.settings (answer_kept v.answer) ≡ opened_as (judged_body u.body.content u.body.max_unit u.body.key u.body.message_id (followed at.place more))
judged_then u v more at =
    ap (λ (o : Option _). judged (v.taken ++ more) v.settings (answer_kept o)) at.answer
    ∙ judged_read (v.taken ++ more) v.settings (Unlocks u.whole u.only at.key) at.parts (followed at.place more)
    (value_stays (header v.settings) v.taken more at.parts at.place (IsSequential-header v.settings) at.reads)
    ∙ ap (λ (h : HeaderValue). judged_header v.settings h (followed at.place more) (Unlocks u.whole u.only at.key)) (header_stays v.settings v.taken more at.parts at.place at.reads)
    ∙ judged_opened v.settings (header_of v.taken at.parts) (followed at.place more) u.whole u.only at.key at.opens
    ∙ ap opens_as (body_same u.body v (header_of v.taken at.parts) at.key (followed at.place more) at.body)

pub with_said : (u : Unlocked) (v : OpeningValue) (piece : List ℕ) (n : ℕ) → (at : OpenerIsUnlocked u v) → IsBehind u.body at.place → Clean (reading u.body piece n)
    → judged_with v piece n ≡ opened_as (said (behind_units u.body at.place) (reading u.body piece n))
with_said u v piece n at behind clean = judged_then u v (take n piece) at ∙ ap opens_as (judged_on u.body at.place (take n piece) behind clean)

pub now_said : (u : Unlocked) (v : OpeningValue) → (at : OpenerIsUnlocked u v) → IsBehind u.body at.place → judged_now v ≡ opened_as (said_as (behind_units u.body at.place) Going)
now_said u v at behind = judged_unlocked u v at ∙ ap opens_as (judged_here u.body at.place behind)

-- ---- where a step ends

or_true : (b c : Bool) → c ≡ true → (b || c) ≡ true
or_true true c e = refl
or_true false c e = e

stop_said : (units : List (List ℕ)) (r : Reading Piece) → (is_faulty (verdict_of r) || nat_lt (length units + 1) (length (units ++ released r) + 1)) ≡ not (is_wanting r)
stop_said units (Read (More content) next) = lt-ltb (length units + 1) (length (units ++ content ∷ []) + 1) (omega (arith, length-append units (content ∷ [])))
stop_said units (Read (Last content) next) =
    or_true (is_faulty (behind_last next.left)) (nat_lt (length units + 1) (length (units ++ content ∷ []) + 1))
    (lt-ltb (length units + 1) (length (units ++ content ∷ []) + 1) (omega (arith, length-append units (content ∷ []))))
stop_said units (Refused fault at) = refl
stop_said units Wanting = le-ltb (length units + 1) (length (units ++ []) + 1) (omega (arith, length-append units []))

stop_is : (u : Unlocked) (v : OpeningValue) (piece : List ℕ) (n : ℕ) → (at : OpenerIsUnlocked u v) → IsBehind u.body at.place → Clean (reading u.body piece n)
    → is_stop v piece n ≡ not (is_wanting (reading u.body piece n))
stop_is u v piece n at behind clean =
    ap (λ (j : Judged). is_faulty j.verdict || nat_lt (marks (judged_now v)) (marks j)) (with_said u v piece n at behind clean)
    ∙ ap (λ (j : Judged). is_faulty (verdict_of (reading u.body piece n)) || nat_lt (marks j) (length (behind_units u.body at.place ++ released (reading u.body piece n)) + 1)) (now_said u v at behind)
    ∙ stop_said (behind_units u.body at.place) (reading u.body piece n)

none_left : (l : List ℕ) → length l ≡ 0 → l ≡ []
none_left [] e = refl
none_left (x ∷ xs) e = absurd (omega arith)

-- no byte behind the unit is used
clean_by : (body : Body) (piece : List ℕ) (n : ℕ) (r : Reading Piece) → Reaches body piece n → open_unit body body.unit.held ≡ Wanting → reading body piece n ≡ r → Clean r
clean_by body piece n (Read x next) reached waits e =
    let some : 1 ≤ n = used_some body piece n (Read x next) waits e refl in
    let on : body.unit.held ++ take n piece ≡ body.unit.held ++ take (n - 1) piece ++ take (n - (n - 1)) (drop (n - 1) piece) = taken_on body.unit.held piece (n - 1) n (omega arith) in
    let ordered = IsSequential-unit body.content body.max_unit body.key body.message_id body.number in
    let late : length (body.unit.held ++ take (n - 1) piece) < next.at =
    read_after (unit body.content body.max_unit body.key body.message_id body.number) (body.unit.held ++ take (n - 1) piece) (take (n - (n - 1)) (drop (n - 1) piece)) x next ordered
    (reached.before (n - 1) (omega (arith, some))) (sym (ap (open_unit body) on) ∙ e) in
    let end : next.at + length next.left ≡ 0 + length (body.unit.held ++ take n piece) =
    end_stays (unit body.content body.max_unit body.key body.message_id body.number) (start (body.unit.held ++ take n piece)) x next ordered e in
    none_left next.left
    (omega (arith, late, end, some, reached.within, length-append body.unit.held (take n piece), length-append body.unit.held (take (n - 1) piece), length-take n piece, length-take (n - 1) piece))
clean_by body piece n (Refused fault at) reached waits e = tt
clean_by body piece n Wanting reached waits e = tt

pub first_reach : (body : Body) (piece : List ℕ) → open_unit body body.unit.held ≡ Wanting → Reaches body piece (reach_in_piece body piece)
first_reach body piece waits = reaches body piece (ap (open_unit body) (append-nil body.unit.held) ∙ waits)

pub clean_at : (body : Body) (piece : List ℕ) → open_unit body body.unit.held ≡ Wanting → Clean (reading body piece (reach_in_piece body piece))
clean_at body piece waits = clean_by body piece (reach_in_piece body piece) (reading body piece (reach_in_piece body piece)) (first_reach body piece waits) waits refl

pub reach_same : (u : Unlocked) (v : OpeningValue) (piece : List ℕ) → (at : OpenerIsUnlocked u v) → IsBehind u.body at.place → reach v piece ≡ reach_in_piece u.body piece
unfolding reach
reach_same u v piece at behind =
    let n : ℕ = reach_in_piece u.body piece in
    let reached = first_reach u.body piece behind.wanting in
    stops_by (λ k. not (is_stop v piece k)) (length piece) n (not (is_stop v piece n)) refl
    (record {
      within = reached.within;
      some = reached.some;
      before = λ k h. ap not (stop_is u v piece k at behind (subst Clean (sym (reached.before k h)) tt)) ∙ ap (λ (r : Reading Piece). not (not (is_wanting r))) (reached.before k h);
      here = elim reached.here [
        | inl all ↦ inl all
        | inr known ↦ inr (ap not (stop_is u v piece n at behind (clean_at u.body piece behind.wanting)) ∙ ap (λ (b : Bool). not (not b)) known)
      ];
    })

-- ---- the answer

answer_same : (n : ℕ) (r : Reading Piece) → Clean r → answer_at n (verdict_of r) ≡ reading_answer n r
answer_same n (Read (More content) next) clean = refl
answer_same n (Read (Last content) next) clean = ap (λ (l : List ℕ). answer_at n (behind_last l)) clean
answer_same n (Refused fault at) clean = refl
answer_same n Wanting clean = refl

going_answer : (v : OpeningValue) (piece : List ℕ) → v.stopped ≡ false → opening_step_answer v piece Nothing ≡ answer_at (reach v piece) (judged_with v piece (reach v piece)).verdict
unfolding opening_step_answer
going_answer v piece going = ap (λ (b : Bool). if b then Err errors.Stopped else answer_on v piece Nothing) going

in_unit : (u : Unlocked) (v : OpeningValue) (piece : List ℕ) → (at : OpenerIsUnlocked u v) → v.stopped ≡ false → u.body.ended ≡ false → opening_step_answer v piece Nothing ≡ body_answer u.body piece
in_unit u v piece at going unended =
    let behind = at.behind.going going unended in
    let n : ℕ = reach_in_piece u.body piece in
    let clean = clean_at u.body piece behind.wanting in
    going_answer v piece going
    ∙ ap (λ (m : ℕ). answer_at m (judged_with v piece m).verdict) (reach_same u v piece at behind)
    ∙ ap (λ (j : Judged). answer_at n j.verdict) (with_said u v piece n at behind clean)
    ∙ answer_same n (reading u.body piece n) clean
    ∙ sym (answer_at_reach u.body piece n (reading u.body piece n) unended (first_reach u.body piece behind.wanting) refl)

pub whole_verdict : (u : Unlocked) (v : OpeningValue) → (at : OpenerIsUnlocked u v) → u.body.ended ≡ true → (judged_body u.body.content u.body.max_unit u.body.key u.body.message_id at.place).verdict ≡ Whole
whole_verdict u v at ended = at.behind.verdict ∙ ap (λ (b : Bool). if b then Whole else Going) ended

behind_all : (u : Unlocked) (v : OpeningValue) (piece : List ℕ) → (at : OpenerIsUnlocked u v) → v.stopped ≡ false → u.body.ended ≡ true → opening_step_answer v piece Nothing ≡ body_answer u.body piece
behind_all u v piece at going ended =
    let ends = reach_ends v piece in
    let n : ℕ = reach v piece in
    elim (cases_lt (length piece) 1) [
      | inl none ↦
          (let empty : length piece ≡ 0 = omega arith in
          let first : n ≡ 0 = omega (arith, ends.within) in
          let same : judged_with v piece 0 ≡ judged_now v = ap (λ (l : List ℕ). judged l v.settings (answer_kept v.answer)) (append-nil v.taken) in
          going_answer v piece going
          ∙ ap (λ (m : ℕ). answer_at m (judged_with v piece m).verdict) first
          ∙ ap (λ (j : Judged). answer_at 0 j.verdict) (same ∙ judged_unlocked u v at)
          ∙ ap (answer_at 0) (whole_verdict u v at ended)
          ∙ sym (ended_empty u.body piece ended empty))
      | inr some ↦
          (let used : 1 ≤ n = ends.some some in
          let more : 1 ≤ length (take n piece) = omega (arith, length-take n piece, used) in
          going_answer v piece going
          ∙ ap (λ (j : Judged). answer_at n j.verdict) (judged_then u v (take n piece) at)
          ∙ ap (λ (j : JudgedBody). answer_at n j.verdict)
          (body_trailing u.body.content u.body.max_unit u.body.key u.body.message_id at.place (take n piece) (whole_verdict u v at ended) more)
          ∙ sym (ended_trailing u.body piece ended (λ e. omega arith)))
    ]

same_by : (u : Unlocked) (v : OpeningValue) (piece : List ℕ) (b : Bool) → u.body.ended ≡ b → (at : OpenerIsUnlocked u v) → v.stopped ≡ false → opening_step_answer v piece Nothing ≡ body_answer u.body piece
same_by u v piece true e at going = behind_all u v piece at going e
same_by u v piece false e at going = in_unit u v piece at going e

-- want of memory is that of a single block
unframed : (b : Bool) → (b ≡ true → ⊥) → b ≡ false
unframed true never = absurd (never refl)
unframed false never = refl

runs_out : (u : Unlocked) (v : OpeningValue) → OpenerIsUnlocked u v → v.stopped ≡ false → u.body.ended ≡ false → LacksRoom u.body → MayRunOut v
runs_out u v at going unended lacks = record {
  going = going;
  unended = ap (λ (j : Judged). j.verdict) (judged_unlocked u v at) ∙ at.behind.verdict ∙ ap (λ (b : Bool). if b then Whole else Going) unended;
  unreserved = λ _. ap (λ (r : Reading HeaderFields). is_framed (value_of r)) at.reads ∙ unframed (framed at.parts.content) (λ e. lacks (at.body.reserved e));
}

pub answers_as : (u : Unlocked) (v : OpeningValue) (piece : List ℕ) (r : Result ℕ OpenError) → OpenerIsUnlocked u v → v.stopped ≡ false → AnswersBody u.body piece r → Answers v piece Nothing r
answers_as u v piece (Ok n) at going e = same_by u v piece u.body.ended refl at going ∙ e
answers_as u v piece (Err (errors.Fault fault)) at going e = same_by u v piece u.body.ended refl at going ∙ e
answers_as u v piece (Err errors.Memory) at going (unended, lacks) = runs_out u v at going unended lacks
answers_as u v piece (Err errors.KeyringFault) at going e = absurd e
answers_as u v piece (Err errors.Stopped) at going e = absurd e

pub unasked : (u : Unlocked) (v : OpeningValue) (piece : List ℕ) → OpenerIsUnlocked u v → asked_header v piece ≡ None
unasked u v piece at = elim_stopped v.stopped
  where
    elim_stopped : (b : Bool) → (if b then None else header_asked v.answer v.settings (v.taken ++ piece)) ≡ None
    elim_stopped true = refl
    elim_stopped false = ap (λ (o : Option _). header_asked o v.settings (v.taken ++ piece)) at.answer

pub inside : (u : Unlocked) (v : OpeningValue) → OpenerIsUnlocked u v → v.stopped ≡ false → IsInUnit u.body
inside u v at going = λ unended. (at.behind.going going unended).wanting

-- ---- where it stands then

body_on : (old new : Body) (v w : OpeningValue) (h g : HeaderValue) (key : List ℕ) → SameBody old new → w.settings ≡ v.settings → g.suite ≡ h.suite → g.message_id ≡ h.message_id → g.content ≡ h.content
    → IsBodyOf old v h key → IsBodyOf new w g key
body_on old new v w h g key same settings suite id content is = record {
  derives = same.key ∙ is.derives ∙ ap (λ (s : Suite). derived s key h.message_id) (sym suite) ∙ ap (derived g.suite key) (sym id);
  id = same.id ∙ is.id ∙ sym id;
  content = same.content ∙ is.content ∙ sym content;
  max_unit = same.max_unit ∙ is.max_unit ∙ ap (λ (s : Rattle.header_codec.specs.declared.settings.Settings.Settings). s.max_unit) (sym settings);
  reserved = λ e. subst (λ c. HoldsFrames c new.unit.reserved) (sym same.content)
      (subst (λ (n : ℕ). HoldsFrames old.content n) (sym same.reserved) (is.reserved (sym (ap framed content) ∙ e)));
}

judged_same : (old new : Body) (p : Place) → SameBody old new
    → judged_body new.content new.max_unit new.key new.message_id p ≡ judged_body old.content old.max_unit old.key old.message_id p
judged_same old new p same = rw (same.content, same.max_unit, same.key, same.id) refl

-- an error stops the session where it stands
pub stands_stopped : (u : Unlocked) (v : OpeningValue) (new : Body) → OpenerIsUnlocked u v → SameBody u.body new → new.ended ≡ u.body.ended
    → OpenerIsUnlocked (record u { body = new }) (record v { stopped = true; out = [] })
stands_stopped u v new at same kept = record {
  parts = at.parts;
  place = at.place;
  key = at.key;
  reads = at.reads;
  answer = at.answer;
  opens = at.opens;
  body = body_on u.body new v (record v { stopped = true; out = [] }) (header_of v.taken at.parts) (header_of v.taken at.parts) at.key same refl refl refl refl at.body;
  behind = record {
    verdict = ap (λ (j : JudgedBody). j.verdict) (judged_same u.body new at.place same) ∙ at.behind.verdict ∙ ap (λ (b : Bool). if b then Whole else Going) (sym kept);
    going = λ s e. absurd cc;
  };
}

abbrev failed : OpenError → Result ℕ OpenError
failed error = Err error

abbrev used_so : ℕ → Result ℕ OpenError
used_so n = Ok n

err_not_ok : (error : OpenError) (n : ℕ) → failed error ≡ used_so n → ⊥
err_not_ok error n e = cc

-- what the body became, it stands behind
behind_became : (stopped : Bool) (old new : Body) (p : Place) (more : List ℕ) (r : Reading Piece) → IsBehind old p → SameBody old new → Clean r → open_unit old (old.unit.held ++ more) ≡ r
    → ((n : ℕ) → reading_answer n r ≡ Ok n) → BecameBody old (old.unit.held ++ more) r new → StandsBehind stopped new (followed p more)
behind_became stopped old new p more (Read (More content) next) behind same clean is fine (number, unended, held, out) = record {
  verdict = ap (λ (j : JudgedBody). j.verdict) (judged_same old new (followed p more) same ∙ judged_on old p more behind (subst Clean (sym is) clean) ∙ ap (said (behind_units old p)) is)
      ∙ ap (λ (b : Bool). if b then Whole else Going) (sym unended);
  going = λ s e. behind_more old new p more content next behind same number held is clean;
}
behind_became stopped old new p more (Read (Last content) next) behind same clean is fine (ended, out) = record {
  verdict = ap (λ (j : JudgedBody). j.verdict) (judged_same old new (followed p more) same ∙ judged_on old p more behind (subst Clean (sym is) clean) ∙ ap (said (behind_units old p)) is)
      ∙ ap behind_last clean ∙ ap (λ (b : Bool). if b then Whole else Going) (sym ended);
  going = λ s e. absurd (true_false (sym ended ∙ e));
}
  where
    true_false : true ≡ false → ⊥
    true_false e = cc
behind_became stopped old new p more (Refused fault at) behind same clean is fine out = absurd (err_not_ok (errors.Fault fault) 0 (fine 0))
behind_became stopped old new p more Wanting behind same clean is fine (number, unended, held, out) = record {
  verdict = ap (λ (j : JudgedBody). j.verdict) (judged_same old new (followed p more) same ∙ judged_on old p more behind (subst Clean (sym is) tt) ∙ ap (said (behind_units old p)) is)
      ∙ ap (λ (b : Bool). if b then Whole else Going) (sym unended);
  going = λ s e. behind_wanting old new p more behind same number held is;
}

-- what the step gives is what is added
out_became : (units : List (List ℕ)) (old new : Body) (bytes : List ℕ) (r : Reading Piece) → BecameBody old bytes r new → new.unit.out ≡ concat (drop (length units) (units ++ released r))
out_became units old new bytes (Read (More content) next) (number, unended, held, out) = out ∙ sym (append-nil content) ∙ sym (ap concat (behind_front units (content ∷ [])))
out_became units old new bytes (Read (Last content) next) (ended, out) = out ∙ sym (append-nil content) ∙ sym (ap concat (behind_front units (content ∷ [])))
out_became units old new bytes (Refused fault at) out = out ∙ sym (ap concat (behind_front units []))
out_became units old new bytes Wanting (number, unended, held, out) = out ∙ sym (ap concat (behind_front units []))

-- more bytes are taken, and the body stands behind them
stands_with : (u : Unlocked) (v : OpeningValue) (more out : List ℕ) (new : Body) → (at : OpenerIsUnlocked u v) → SameBody u.body new → StandsBehind v.stopped new (followed at.place more)
    → OpenerIsUnlocked (record u { body = new }) (record v { taken = v.taken ++ more; out = out })
stands_with u v more out new at same behind = record {
  parts = at.parts;
  place = followed at.place more;
  key = at.key;
  reads = value_stays (header v.settings) v.taken more at.parts at.place (IsSequential-header v.settings) at.reads;
  answer = at.answer;
  opens = ap (λ (h : HeaderValue). lock_fault h u.only at.key) (header_stays v.settings v.taken more at.parts at.place at.reads) ∙ at.opens;
  body = body_on u.body new v (record v { taken = v.taken ++ more; out = out }) (header_of v.taken at.parts) (header_of (v.taken ++ more) at.parts) at.key same refl refl refl refl at.body;
  behind = behind;
}

-- so many bytes were used, and the unit has no fault
record Used (m n : ℕ) (r : Reading Piece) : Type 0 where
  same : m ≡ n
  fine : (k : ℕ) → reading_answer k r ≡ Ok k

used_by : (m n : ℕ) (r : Reading Piece) → reading_answer m r ≡ Ok n → Used m n r
used_by m n (Read x next) e = record { same = cc; fine = λ k. refl }
used_by m n (Refused fault at) e = absurd cc
used_by m n Wanting e = record { same = cc; fine = λ k. refl }

-- The session after a step that used so many bytes.
record StandsUsed (u : Unlocked) (v : OpeningValue) (piece : List ℕ) (n : ℕ) (new : Body) : Type 0 where
  stands : OpenerIsUnlocked (record u { body = new }) (record v { taken = v.taken ++ take n piece; out = added_content (judged_now v) (judged_with v piece n) })
  out : new.unit.out ≡ added_content (judged_now v) (judged_with v piece n)

used_in : (u : Unlocked) (v : OpeningValue) (piece : List ℕ) (n : ℕ) (new : Body) → (at : OpenerIsUnlocked u v) → v.stopped ≡ false → u.body.ended ≡ false → SameBody u.body new
    → body_answer u.body piece ≡ Ok n → BecameBody u.body (u.body.unit.held ++ take n piece) (reading u.body piece n) new → StandsUsed u v piece n new
used_in u v piece n new at going unended same answer became =
    let behind = at.behind.going going unended in
    let k : ℕ = reach_in_piece u.body piece in
    let reached = first_reach u.body piece behind.wanting in
    let used = used_by k n (reading u.body piece k) (sym (answer_at_reach u.body piece k (reading u.body piece k) unended reached refl) ∙ answer) in
    let clean : Clean (reading u.body piece n) = subst (λ (m : ℕ). Clean (reading u.body piece m)) used.same (clean_at u.body piece behind.wanting) in
    let fine : (j : ℕ) → reading_answer j (reading u.body piece n) ≡ Ok j = subst (λ (m : ℕ). (j : ℕ) → reading_answer j (reading u.body piece m) ≡ Ok j) used.same used.fine in
    let units : List (List ℕ) = behind_units u.body at.place in
    record {
      stands = stands_with u v (take n piece) (added_content (judged_now v) (judged_with v piece n)) new at same
          (behind_became v.stopped u.body new at.place (take n piece) (reading u.body piece n) behind same clean refl fine became);
      out = out_became units u.body new (u.body.unit.held ++ take n piece) (reading u.body piece n) became
          ∙ sym (ap (λ (j : Judged). added_content j (opened_as (said units (reading u.body piece n)))) (now_said u v at behind))
          ∙ sym (ap (λ (j : Judged). added_content (judged_now v) j) (with_said u v piece n at behind clean));
    }

-- behind the last unit none is used
record NoneUsed (piece : List ℕ) (n : ℕ) : Type 0 where
  none : n ≡ 0

none_used : (body : Body) (piece : List ℕ) (n : ℕ) → body.ended ≡ true → body_answer body piece ≡ Ok n → NoneUsed piece n
none_used body piece n ended answer =
    elim (cases_lt (length piece) 1) [
      | inl none ↦ record { none = zero_is (sym (ended_empty body piece ended (omega arith)) ∙ answer) }
      | inr some ↦ absurd (refused (sym (ended_trailing body piece ended (λ e. omega arith)) ∙ answer))
    ]
  where
    zero_is : used_so 0 ≡ used_so n → n ≡ 0
    zero_is e = cc

    refused : failed (errors.Fault TrailingBytes) ≡ used_so n → ⊥
    refused e = err_not_ok (errors.Fault TrailingBytes) n e

used_behind : (u : Unlocked) (v : OpeningValue) (piece : List ℕ) (n : ℕ) (new : Body) → (at : OpenerIsUnlocked u v) → u.body.ended ≡ true → SameBody u.body new
    → body_answer u.body piece ≡ Ok n → new.ended ≡ true → new.unit.out ≡ [] → StandsUsed u v piece n new
used_behind u v piece n new at ended same answer stays out =
    let none : n ≡ 0 = (none_used u.body piece n ended answer).none in
    let there : followed at.place (take n piece) ≡ at.place = ap (λ (m : ℕ). followed at.place (take m piece)) none ∙ followed_none at.place in
    let is : judged_with v piece n ≡ judged_now v =
    ap (λ (m : ℕ). judged_with v piece m) none ∙ ap (λ (l : List ℕ). judged l v.settings (answer_kept v.answer)) (append-nil v.taken) in
    record {
      stands = stands_with u v (take n piece) (added_content (judged_now v) (judged_with v piece n)) new at same
          (record {
            verdict = ap (λ (j : JudgedBody). j.verdict) (judged_same u.body new (followed at.place (take n piece)) same ∙ ap (judged_body u.body.content u.body.max_unit u.body.key u.body.message_id) there)
                ∙ whole_verdict u v at ended ∙ ap (λ (b : Bool). if b then Whole else Going) (sym stays);
            going = λ s e. absurd (true_false (sym stays ∙ e));
          });
      out = out ∙ sym (ap concat (drop_all (length (judged_now v).units) (judged_now v).units (omega arith))) ∙ sym (ap (λ (j : Judged). added_content (judged_now v) j) is);
    }
  where
    true_false : true ≡ false → ⊥
    true_false e = cc

used_as : (u : Unlocked) (v : OpeningValue) (piece : List ℕ) (n : ℕ) (new : Body) (b : Bool) → u.body.ended ≡ b → (at : OpenerIsUnlocked u v) → v.stopped ≡ false → SameBody u.body new
    → body_answer u.body piece ≡ Ok n → StepsIn b u.body (u.body.unit.held ++ take n piece) new → StandsUsed u v piece n new
used_as u v piece n new true e at going same answer (stays, out) = used_behind u v piece n new at e same answer stays out
used_as u v piece n new false e at going same answer became = used_in u v piece n new at going e same answer became

pub steps_unlocked : (u : Unlocked) (v : OpeningValue) (piece : List ℕ) (r : Result ℕ OpenError) (new : Body) → OpenerIsUnlocked u v → v.stopped ≡ false → SameBody u.body new
    → AnswersBody u.body piece r → IfOk r (λ n. StepsBody u.body piece n new) → OnErr r (new.ended ≡ u.body.ended) → OnErr r (new.unit.out ≡ []) → StepsUnlocked v piece r (record u { body = new })
steps_unlocked u v piece (Ok n) new at going same answer steps kept nothing =
    let used = used_as u v piece n new u.body.ended refl at going same answer steps in
    record { unasked = unasked u v piece at; answers = answers_as u v piece (Ok n) at going answer; stands = used.stands; out = used.out }
steps_unlocked u v piece (Err error) new at going same answer steps kept nothing =
    record { unasked = unasked u v piece at; answers = answers_as u v piece (Err error) at going answer; stands = stands_stopped u v new at same kept; out = nothing }
