-- Where the last mark came, and how much came since: less than the unit that is open.
use Rattle.std.proofs.Common.{◌≡◌, ℕ, zero, suc, ◌+◌, ◌-◌, ◌*◌, ◌<◌, ◌≤◌, Bool, true, false, Option, List, [], ◌++◌, length, take, drop, if◌then◌else◌, refl, sym, ap, subst, ◌∙◌, arith, inl, inr}
use Rattle.std.proofs.Math.Nat.{mul-le-mul_right}
use Rattle.std.proofs.lemmas.Bool.{cases_lt, le-leb, lt-leb}
use Rattle.std.proofs.lemmas.List.{append-nil, length-append, take-append-drop, drop-drop}
use Rattle.esdk_fields.specs.declared.contents.Content.{Content}
use Rattle.esdk_fields.specs.declared.contents.Content.TheVariants.{Framed}
use Rattle.esdk_fields.specs.Place.{Place, start, past, cut}
use Rattle.esdk_fields.specs.Reading.{Reading, FieldReader, Read, Refused, Wanting, value_of}
use Rattle.esdk_fields.specs.Sequential.{cut_reading}
use Rattle.esdk_fields.proofs.Fronts.{value_from, wanting_before_value, left_is, end_stays}
use Rattle.header_codec.specs.Header.{HeaderValue}
use Rattle.header_codec.specs.Table.{HeaderFields, header, head, opening}
use Rattle.header_codec.proofs.Order.{IsSequential-header}
use Rattle.keyring_trait.specs.Unlocking.{Unlocks}
use Rattle.frame_codec.specs.declared.unit_heads.Head.{Head as UnitKnown}
use Rattle.frame_codec.specs.declared.unit_heads.Head.TheVariants as heads
use Rattle.frame_codec.specs.Unit.{Piece, More, Last}
use Rattle.frame_codec.specs.UnitHead.{head_of}
use Rattle.frame_codec.proofs.Answering.{decides}
use Rattle.frame_codec.specs.InPlace.{unit_size}
use Rattle.frame_codec.proofs.Units.{unit_refuses_head}
use Rattle.body_format.specs.declared.verdicts.Verdict.TheVariants.{Going, Whole}
use Rattle.body_format.specs.Rows.{JudgedBody, slot, is_more, released, first_other}
use Rattle.body_format.specs.Body.{judged_body}
use Rattle.body_format.proofs.Places.{past_cut}
use Rattle.body_format.proofs.Ranges.{flat_map_one}
use Rattle.body_format.proofs.RowLaws.{reached, slot_cut, units_are}
use Rattle.body_format.proofs.Slots.{more_read, good_before, other_at, slots_within}
use Rattle.message_format.specs.Judgement.{Judged, judged, judged_header, opened_as, locked, header_of, marks}
use Rattle.message_format.proofs.Following.{header_stays}
use Rattle.message_format.proofs.Judging.{judged_wanting, judged_read, judged_opened}
use Rattle.stream_open.specs.declared.body.Body.{Body}
use Rattle.stream_open.specs.declared.unlocked.Unlocked.{Unlocked}
use Rattle.stream_open.specs.Body.{IsBehind, open_unit, unit_width, is_wanting}
use Rattle.stream_open.specs.Feeding.{GoesOn}
use Rattle.stream_open.specs.OpenUnit.{judged_front, IsLastMark, IsFewer, HoldsPart, HoldsLess, HoldsLessThanAUnit}
use Rattle.stream_open.specs.Session.{OpeningValue, answer_kept, judged_now}
use Rattle.stream_open.specs.Stands.{OpenerIsUnlocked}
use Rattle.frame_codec.specs.UnitBuffer.{opened_of}
use Rattle.stream_open.proofs.Behind.{row_of, units_before, behind_units, said_as, judged_here, no_byte}
use Rattle.stream_open.proofs.GoingOn.{Standing, InHeader, Behind, standing}
use Rattle.stream_open.proofs.Standing.{body_same, judged_unlocked}
use Rattle.stream_open.proofs.Stepping.{now_said}
use Rattle.stream_open.proofs.UnitAnswers.{whole_known}
use Rattle.stream_open.proofs.WholeUnits.{needs_few, good_head, whole_is}

-- ---- less than a unit

wanting_known : (r : Reading Piece) → r ≡ Wanting → is_wanting r ≡ false → ⊥
wanting_known r e known = true_false (sym (ap (λ (r : Reading Piece). is_wanting r) e) ∙ known)
  where
    true_false : true ≡ false → ⊥
    true_false e = cc

-- bytes that want more are fewer than the unit has
fewer_by : (body : Body) (bytes : List ℕ) (h : UnitKnown) → open_unit body bytes ≡ Wanting → head_of body.content body.number body.max_unit bytes ≡ h → IsFewer h (length bytes)
fewer_by body bytes (heads.NeedMore end) waits known = (decides body.content body.number body.max_unit bytes end known).fewer
fewer_by body bytes (heads.Refused fault) waits known =
    let r = unit_refuses_head body.content body.max_unit body.key body.message_id body.number bytes fault known in
    let no : Refused fault (0 + r.0) ≡ Wanting = sym (r.2 0) ∙ waits in cc
fewer_by body bytes (heads.Unit head) waits known =
    elim (cases_lt (length bytes) (unit_size head)) [
      | inl short ↦ short
      | inr long ↦
          (let o : Option (List ℕ) = opened_of body.key body.message_id head bytes in
          absurd (wanting_known (open_unit body bytes) waits (ap (λ (r : Reading Piece). is_wanting r) (whole_is body bytes head o known long refl) ∙ whole_known head bytes o)))
    ]

-- and of a frame fewer than the longest one has
short_frame : (body : Body) (bytes : List ℕ) (h : UnitKnown) (size : ℕ) → head_of body.content body.number body.max_unit bytes ≡ h → IsFewer h (length bytes) → body.content ≡ Framed size → length bytes < size + 40
short_frame body bytes (heads.NeedMore end) size known fewer framed =
    let few : end ≤ 24 = needs_few body.content body.number body.max_unit bytes end known in
    omega (arith, few, fewer)
short_frame body bytes (heads.Refused fault) size known fewer framed = absurd fewer
short_frame body bytes (heads.Unit head) size known fewer framed =
    let room : unit_size head ≤ size + 40 = (good_head body.content body.number body.max_unit bytes head known).room size framed in
    omega (arith, room, fewer)

-- ---- how many units

released_one : (r : Reading Piece) → is_more r ≡ true → length (released r) ≡ 1
released_one (Read (More text) next) e = refl
released_one (Read (Last text) next) e = absurd cc
released_one (Refused fault at) e = absurd cc
released_one Wanting e = absurd cc

units_counted : (width : ℕ) (row : ℕ → FieldReader Piece) (p : Place) (k : ℕ) → ((j : ℕ) → j < k → is_more (slot width row p j) ≡ true) → length (units_before width row p k) ≡ k
units_counted width row p zero good = refl
units_counted width row p (suc k) good =
    let next : k + 1 ≡ suc k = omega arith in
    let one : length (released (slot width row p k)) ≡ 1 = released_one (slot width row p k) (good k (omega arith)) in
    let before : length (units_before width row p k) ≡ k = units_counted width row p k (λ j h. good j (omega (arith, h))) in
    let is : units_before width row p (suc k) ≡ units_before width row p k ++ released (slot width row p k) =
    sym (ap (units_before width row p) next) ∙ flat_map_one (λ j. released (slot width row p j)) k in
    omega (arith, ap length is, length-append (units_before width row p k) (released (slot width row p k)), one, before)

-- ---- fronts of the body

-- a front that has all of the units before the open one
module _ (body : Body) (p : Place) (behind : IsBehind body p) where
  abbrev row : ℕ → FieldReader Piece
  row = (row_of body.content body.max_unit body.key body.message_id).row

  abbrev width : ℕ
  width = unit_width body.content

  abbrev count : ℕ
  count = body.number - 1

  good : (j : ℕ) → j < count → is_more (slot width row p j) ≡ true
  good j h = let r = row_of body.content body.max_unit body.key body.message_id in ap is_more (sym (r.reads j (past (j * width) p))) ∙ behind.before j h

  cut_more : (j : ℕ) → j < count → is_more (slot width row (cut (p.at + count * width) p) j) ≡ true
  cut_more j h =
      let r = row_of body.content body.max_unit body.key body.message_id in
      let n : ℕ = p.at + count * width in
      let read = more_read (slot width row p j) (good j h) in
      let sized = (r.is_row.sized j (past (j * width) p) read.next read.content read.is).1 in
      let on : (j + 1) * width ≤ count * width = times_up (j + 1) count width (omega (arith, h)) in
      let sum : j * width + width ≡ (j + 1) * width = omega arith in
      let ends : read.next.at ≤ n = omega (arith, ap (λ (q : Place). q.at) sized, on, sum) in
      let begins : (past (j * width) p).at ≤ n = omega (arith, on, sum) in
      ap (λ (q : Place). is_more (row j q)) (past_cut (j * width) n p)
      ∙ ap is_more ((r.is_row.sequential j).cuts n (past (j * width) p) begins ∙ ap (cut_reading n) read.is)
      ∙ rw (le-leb read.next.at n ends) refl
    where
      times_up : (a b w : ℕ) → a ≤ b → a * w ≤ b * w
      times_up a b w h = mul-le-mul_right w h

  -- the body before the first byte of the open unit
  abbrev before_unit : Body
  before_unit = record body { unit = record body.unit { held = [] } }

  cut_behind : IsBehind before_unit (cut (p.at + count * width) p)
  cut_behind =
      let r = row_of body.content body.max_unit body.key body.message_id in
      let n : ℕ = p.at + count * width in
      let none : n - (p.at + count * width) ≡ 0 = omega arith in
      record {
        some = behind.some;
        before = λ j h. ap is_more (r.reads j (past (j * width) (cut n p))) ∙ cut_more j h;
        held = sym (ap (λ (q : Place). q.left) (past_cut (count * width) n p) ∙ ap (λ (m : ℕ). take m (past (count * width) p).left) none);
        wanting = no_byte before_unit behind.some;
      }

  -- it is judged so
  cut_judged : judged_body body.content body.max_unit body.key body.message_id (cut (p.at + count * width) p) ≡ said_as (behind_units before_unit (cut (p.at + count * width) p)) Going
  cut_judged = judged_here before_unit (cut (p.at + count * width) p) cut_behind

  cut_counted : length (judged_body body.content body.max_unit body.key body.message_id (cut (p.at + count * width) p)).units ≡ count
  cut_counted = ap (λ (j : JudgedBody). length j.units) cut_judged ∙ units_counted width row (cut (p.at + count * width) p) count cut_more

  now_counted : length (behind_units body p) ≡ count
  now_counted = units_counted width row p count good

  -- a shorter front has fewer units
  fewer_units : (n : ℕ) → p.at ≤ n → n < p.at + count * width → length (judged_body body.content body.max_unit body.key body.message_id (cut n p)).units < count
  fewer_units n low high =
      let r = row_of body.content body.max_unit body.key body.message_id in
      let first : ℕ = first_other width row (cut n p) in
      let there : p.at + first * width ≤ n = reached width row p n first r.is_row low (omega arith) in
      let few : first < count = elim (cases_lt first count) [
        | inl less ↦ less
        | inr more ↦ absurd (let up : count * width ≤ first * width = mul-le-mul_right width more in omega (arith, up, there, high))
      ] in
      let read = more_read (slot width row p first) (good first few) in
      let here : slot width row (cut n p) first ≡ cut_reading n (Read (More read.content) read.next) = slot_cut width row p n first r.is_row low (omega arith) ∙ ap (cut_reading n) read.is in
      let none : released (slot width row (cut n p) first) ≡ [] = ap released here ∙ no_unit read.content read.next n (sym (ap is_more here) ∙ other_at width row (cut n p) r.is_row) in
      let units : (judged_body body.content body.max_unit body.key body.message_id (cut n p)).units ≡ units_before width row (cut n p) first =
      ap (λ (j : JudgedBody). j.units) (r.judges (cut n p)) ∙ units_are width row (cut n p) ∙ ap (λ (l : List (List ℕ)). units_before width row (cut n p) first ++ l) none ∙ append-nil (units_before width row (cut n p) first) in
      let counted : length (units_before width row (cut n p) first) ≡ first = units_counted width row (cut n p) first (λ j h. good_before width row (cut n p) j h) in
      omega (arith, ap length units, counted, few)
    where
      no_unit : (text : List ℕ) (next : Place) (n : ℕ) → is_more (cut_reading n (Read (More text) next)) ≡ false → released (cut_reading n (Read (More text) next)) ≡ []
      no_unit text next n e = elim (cases_lt n next.at) [
        | inl early ↦ rw (lt-leb next.at n early) refl
        | inr there ↦ absurd (true_false (sym (rw (le-leb next.at n there) refl) ∙ e))
      ]
        where
          true_false : true ≡ false → ⊥
          true_false e = cc

-- ---- fronts of all the bytes

abbrev opens_as : JudgedBody → Judged
opens_as j = opened_as j

-- a front that has the header with its tag
front_opened : (u : Unlocked) (v : OpeningValue) (n : ℕ) → (at : OpenerIsUnlocked u v) → at.place.at ≤ n
    → judged_front v n ≡ opened_as (judged_body u.body.content u.body.max_unit u.body.key u.body.message_id (cut n at.place))
front_opened u v n at whole =
    let reads : header v.settings (start (take n v.taken)) ≡ Read at.parts (cut n at.place) = value_from (header v.settings) v.taken at.parts at.place n (IsSequential-header v.settings) at.reads whole in
    let same : header_of (take n v.taken) at.parts ≡ header_of v.taken at.parts =
    sym (header_stays v.settings (take n v.taken) (drop n v.taken) at.parts (cut n at.place) reads) ∙ ap (λ (l : List ℕ). header_of l at.parts) (take-append-drop n v.taken) in
    ap (λ (o : Option _). judged (take n v.taken) v.settings (answer_kept o)) at.answer
    ∙ judged_read (take n v.taken) v.settings (Unlocks u.whole u.only at.key) at.parts (cut n at.place) reads
    ∙ ap (λ (h : HeaderValue). judged_header v.settings h (cut n at.place) (Unlocks u.whole u.only at.key)) same
    ∙ judged_opened v.settings (header_of v.taken at.parts) (cut n at.place) u.whole u.only at.key at.opens
    ∙ ap opens_as (body_same u.body v (header_of v.taken at.parts) at.key (cut n at.place) at.body)

-- a front that hasn't
front_locked : (u : Unlocked) (v : OpeningValue) (n : ℕ) → (at : OpenerIsUnlocked u v) → n < at.place.at → judged_front v n ≡ locked Going
front_locked u v n at early =
    judged_wanting (take n v.taken) v.settings (answer_kept v.answer) (wanting_before_value (header v.settings) v.taken at.parts at.place n (IsSequential-header v.settings) at.reads early)

-- ---- the last mark

-- the header is unlocked, and the message isn't whole
module _ (u : Unlocked) (v : OpeningValue) (at : OpenerIsUnlocked u v) (behind : IsBehind u.body at.place) where
  abbrev mark : ℕ
  mark = at.place.at + (u.body.number - 1) * unit_width u.body.content

  marks_now : marks (judged_now v) ≡ u.body.number
  marks_now =
      let is : marks (judged_now v) ≡ length (behind_units u.body at.place) + 1 = ap marks (now_said u v at behind) in
      omega (arith, is, now_counted u.body at.place behind, behind.some)

  last_mark : IsLastMark v mark
  last_mark =
      let end : at.place.at + length at.place.left ≡ 0 + length v.taken = end_stays (header v.settings) (start v.taken) at.parts at.place (IsSequential-header v.settings) at.reads in
      let r = row_of u.body.content u.body.max_unit u.body.key u.body.message_id in
      let inside : (u.body.number - 1) * unit_width u.body.content ≤ length at.place.left =
      slots_within (unit_width u.body.content) r.row at.place (u.body.number - 1) r.is_row (good u.body at.place behind) in
      let there : marks (judged_front v mark) ≡ length (judged_body u.body.content u.body.max_unit u.body.key u.body.message_id (cut mark at.place)).units + 1 =
      ap marks (front_opened u v mark at (omega arith)) in
      record {
        within = omega (arith, end, inside);
        there = omega (arith, there, cut_counted u.body at.place behind, marks_now, behind.some);
        first = λ n early. elim (cases_lt n at.place.at) [
          | inl before ↦ (let none : marks (judged_front v n) ≡ 0 = ap marks (front_locked u v n at before) in omega (arith, none, marks_now, behind.some))
          | inr after ↦
              (let some : marks (judged_front v n) ≡ length (judged_body u.body.content u.body.max_unit u.body.key u.body.message_id (cut n at.place)).units + 1 = ap marks (front_opened u v n at after) in
              omega (arith, some, marks_now, fewer_units u.body at.place behind n after early))
        ];
      }

  -- what came since
  since : drop mark v.taken ≡ u.body.unit.held
  since =
      let begins : at.place.left ≡ drop (at.place.at - 0) v.taken = left_is (header v.settings) (start v.taken) at.parts at.place (IsSequential-header v.settings) at.reads in
      let offset : at.place.at - 0 ≡ at.place.at = omega arith in
      let k : ℕ = (u.body.number - 1) * unit_width u.body.content in
      sym (drop-drop k at.place.at v.taken) ∙ ap (λ (m : ℕ). drop k (drop m v.taken)) (sym offset) ∙ ap (drop k) (sym begins) ∙ sym behind.held

  holds_part : HoldsPart v at.parts u.body.unit.held
  holds_part =
      let units : length (judged_now v).units ≡ length (behind_units u.body at.place) = ap (λ (j : Judged). length j.units) (now_said u v at behind) in
      let number : length (judged_now v).units + 1 ≡ u.body.number = omega (arith, units, now_counted u.body at.place behind, behind.some) in
      let known : head_of at.parts.content (length (judged_now v).units + 1) v.settings.max_unit u.body.unit.held ≡ head_of u.body.content u.body.number u.body.max_unit u.body.unit.held =
      ap (λ (n : ℕ). head_of at.parts.content n v.settings.max_unit u.body.unit.held) number
      ∙ ap (λ (c : Content). head_of c u.body.number v.settings.max_unit u.body.unit.held) (sym at.body.content)
      ∙ ap (λ (m : Option ℕ). head_of u.body.content u.body.number m u.body.unit.held) (sym at.body.max_unit) in
      let h : UnitKnown = head_of u.body.content u.body.number u.body.max_unit u.body.unit.held in
      let fewer : IsFewer h (length u.body.unit.held) = fewer_by u.body u.body.unit.held h behind.wanting refl in
      record {
        fewer = subst (λ (h : UnitKnown). IsFewer h (length u.body.unit.held)) (sym known) fewer;
        frame = λ size is. short_frame u.body u.body.unit.held h size refl fewer (at.body.content ∙ is);
      }

  holds_less : HoldsLess v
  holds_less = record {
    mark = mark;
    last = last_mark;
    locked = λ e. absurd (true_false (sym (ap (λ (j : Judged). j.unlocked) (now_said u v at behind)) ∙ e));
    unlocked = λ e. (at.parts, (ap (λ (r : Reading HeaderFields). value_of r) at.reads, subst (HoldsPart v at.parts) (sym since) holds_part));
  }
    where
      true_false : true ≡ false → ⊥
      true_false e = cc

-- ---- before the header is unlocked

no_header : (v : OpeningValue) → judged_front v 0 ≡ locked Going
unfolding header opening
no_header v = judged_wanting [] v.settings (answer_kept v.answer) refl

in_header : (v : OpeningValue) → header v.settings (start v.taken) ≡ Wanting → HoldsLess v
in_header v now =
    let is : judged_now v ≡ locked Going = judged_wanting v.taken v.settings (answer_kept v.answer) now in
    record {
      mark = 0;
      last = record { within = omega arith; there = ap marks (no_header v) ∙ sym (ap marks is); first = λ k h. absurd (omega (arith, h)) };
      locked = λ e. (refl, ap (λ (r : Reading HeaderFields). value_of r) now);
      unlocked = λ e. absurd (false_true (sym (ap (λ (j : Judged). j.unlocked) is) ∙ e));
    }
  where
    false_true : false ≡ true → ⊥
    false_true e = cc

-- ---- the law

going_open : (u : Unlocked) (v : OpeningValue) (b : Bool) → OpenerIsUnlocked u v → (judged_now v).verdict ≡ Going → u.body.ended ≡ b → u.body.ended ≡ false
going_open u v true at going e = absurd (whole_going (sym (ap (λ (j : Judged). j.verdict) (judged_unlocked u v at) ∙ at.behind.verdict ∙ ap (λ (b : Bool). if b then Whole else Going) e) ∙ going))
  where
    whole_going : Whole ≡ Going → ⊥
    whole_going e = cc
going_open u v false at going e = e

holds_by : (v : OpeningValue) → GoesOn v → (judged_now v).verdict ≡ Going → Standing v → HoldsLess v
holds_by v goes going (InHeader now) = in_header v now
holds_by v goes going (Behind u at) = holds_less u v at (at.behind.going goes.going (going_open u v u.body.ended at going refl))

pub holds_less_than_a_unit : HoldsLessThanAUnit
holds_less_than_a_unit v goes going = holds_by v goes going (standing v goes)
