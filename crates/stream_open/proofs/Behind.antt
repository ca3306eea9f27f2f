-- What is judged of the bytes behind a header when more of them come: the units before the open one stay, and what the open one is read as decides.
use Rattle.std.proofs.Common.{◌≡◌, ℕ, ◌+◌, ◌-◌, ◌*◌, ◌<◌, ◌≤◌, true, Option, Some, None, List, [], ◌∷◌, ◌++◌, length, drop, refl, sym, ap, subst, ◌∙◌, arith, inl, inr}
use Rattle.std.specs.List.{flat_map, range_with_len}
use Rattle.std.proofs.lemmas.Bool.{cases_lt}
use Rattle.std.proofs.lemmas.List.{append-nil, drop-append-le, drop_all}
use Rattle.esdk_fields.specs.declared.contents.Content.{Content}
use Rattle.esdk_fields.specs.declared.contents.Content.TheVariants.{Single, Framed}
use Rattle.esdk_fields.specs.declared.faults.Fault.{Fault}
use Rattle.esdk_fields.specs.Place.{Place, past, followed}
use Rattle.esdk_fields.specs.Reading.{Reading, Read, Refused, Wanting, FieldReader, then_read}
use Rattle.esdk_fields.proofs.Fronts.{value_stays_at}
use Rattle.frame_codec.specs.declared.unit_heads.UnitHead.{UnitHead}
use Rattle.frame_codec.specs.declared.unit_heads.Head.{Head}
use Rattle.frame_codec.specs.declared.unit_heads.Head.TheVariants as heads
use Rattle.frame_codec.specs.UnitHead.{unit_head, head_of}
use Rattle.frame_codec.specs.Unit.{Piece, More, Last, piece_of, unit, frame, block_unit}
use Rattle.frame_codec.proofs.Fields.{place}
use Rattle.frame_codec.proofs.Heads.{ReadsHead, head_reads}
use Rattle.frame_codec.proofs.Steps.{after_head}
use Rattle.frame_codec.specs.InPlace.{unit_size}
use Rattle.frame_codec.proofs.Units.{opened_there, unit_wants_head, unit_refuses_head, unit_wants, unit_reads, unit_refuses, frame_is}
use Rattle.frame_codec.proofs.Ways.{block_wants}
use Rattle.body_format.specs.declared.verdicts.Verdict.{Verdict}
use Rattle.body_format.specs.declared.verdicts.Verdict.TheVariants.{Going}
use Rattle.body_format.specs.Rows.{slot, is_more, released, verdict_of, judged_units, JudgedBody, IsRow}
use Rattle.body_format.specs.Body.{judged_frames, judged_block, judged_body}
use Rattle.body_format.proofs.BodyRows.{frames_row, block_row, no_frame}
use Rattle.body_format.proofs.Places.{past_past}
use Rattle.body_format.proofs.Loop.{Passed, passed_more, last_end, fault_end, wanting_end}
use Rattle.body_format.proofs.Ranges.{flat_map_same}
use Rattle.body_format.proofs.Slots.{more_read, more_within, slots_within}
use Rattle.stream_open.specs.declared.body.Body.{Body}
use Rattle.stream_open.specs.Body.{open_unit, unit_width, SameBody, IsBehind}

-- ---- the row of units

-- A body's units one after another, as they are read and as they are judged.
pub record RowOf (content : Content) (max_unit : Option ℕ) (key id : List ℕ) : Type 0 where
  pub row : ℕ → FieldReader Piece
  pub is_row : IsRow (unit_width content) row
  pub reads : (k : ℕ) (p : Place) → unit content max_unit key id (k + 1) p ≡ row k p
  pub judges : (p : Place) → judged_body content max_unit key id p ≡ judged_units (unit_width content) row p
  pub empty : (k at : ℕ) → row k (place at []) ≡ Wanting

no_block : (max_unit : Option ℕ) (key id : List ℕ) (at : ℕ) → block_unit max_unit key id (place at []) ≡ Wanting
unfolding block_unit unit unit_head
no_block max_unit key id at = ap (λ r. then_read r (after_head key id)) (block_wants max_unit [] (omega arith) at)

pub row_of : (content : Content) (max_unit : Option ℕ) (key id : List ℕ) → RowOf content max_unit key id
unfolding judged_body judged_frames judged_block block_unit unit unit_head
row_of Single max_unit key id = record {
  row = λ k. block_unit max_unit key id;
  is_row = block_row max_unit key id;
  reads = λ k p. refl;
  judges = λ p. refl;
  empty = λ k at. no_block max_unit key id at;
}
row_of (Framed size) max_unit key id = record {
  row = frame size (record { key = key; id = id });
  is_row = frames_row size (record { key = key; id = id });
  reads = λ k p. frame_is size (record { key = key; id = id }) k max_unit p;
  judges = λ p. refl;
  empty = λ k at. no_frame size (record { key = key; id = id }) k at;
}

-- ---- units that more bytes follow

past_followed : (n : ℕ) (p : Place) (more : List ℕ) → n ≤ length p.left → past n (followed p more) ≡ followed (past n p) more
past_followed n p more h = ap (λ (l : List ℕ). place (p.at + n) l) (drop-append-le n p.left more h)

-- a unit that another one follows stays
record SlotStays (front whole : Reading Piece) : Type 0 where
  more : is_more whole ≡ true
  same : released whole ≡ released front

slot_followed : (width : ℕ) (row : ℕ → FieldReader Piece) (p : Place) (more : List ℕ) (j : ℕ) → IsRow width row → is_more (slot width row p j) ≡ true
    → SlotStays (slot width row p j) (slot width row (followed p more) j)
slot_followed width row p more j is_row h =
    let read = more_read (slot width row p j) h in
    let within = more_within width row p j is_row h in
    let is : slot width row (followed p more) j ≡ Read (More read.content) (followed read.next more) =
    ap (row j) (past_followed (j * width) p more (omega (arith, within)))
    ∙ value_stays_at (row j) (past (j * width) p) more (More read.content) read.next (is_row.sequential j) read.is in
    record { more = ap is_more is; same = ap released is ∙ sym (ap released read.is) }

-- the contents of the first k units
abbrev pub units_before : ℕ → (ℕ → FieldReader Piece) → Place → ℕ → List (List ℕ)
units_before width row p k = flat_map (λ j. released (slot width row p j)) (range_with_len 0 k)

passed_followed : (width : ℕ) (row : ℕ → FieldReader Piece) (p : Place) (more : List ℕ) (k : ℕ) → IsRow width row → ((j : ℕ) → j < k → is_more (slot width row p j) ≡ true)
    → Passed width row (followed p more) k (followed (past (k * width) p) more) (units_before width row p k)
passed_followed width row p more k is_row good = record {
  place_is = sym (past_followed (k * width) p more (slots_within width row p k is_row good));
  good = λ j h. (slot_followed width row p more j is_row (good j h)).more;
  units_are = flat_map_same (λ j. released (slot width row p j)) (λ j. released (slot width row (followed p more) j)) 0 k
      (λ j low high. sym (slot_followed width row p more j is_row (good j (omega arith))).same);
}

-- ---- the open unit, at any offset

-- no byte stands behind what was read
abbrev pub Clean : Reading Piece → Type 0
Clean (Read piece next) = next.left ≡ []
Clean (Refused fault at) = Unit {0}
Clean Wanting = Unit {0}

-- two readings that say the same
pub record SaysSame (r s : Reading Piece) : Type 0 where
  pub units : released r ≡ released s
  pub verdict : verdict_of r ≡ verdict_of s
  pub clean : Clean r → Clean s
  pub more : is_more r ≡ is_more s

says_by : (r s x y : Reading Piece) → r ≡ x → s ≡ y → SaysSame x y → SaysSame r s
says_by r s x y e f same = subst (λ (t : Reading Piece). SaysSame t s) (sym e) (subst (λ (t : Reading Piece). SaysSame x t) (sym f) same)

says_read : (piece : Piece) (at there : ℕ) (left : List ℕ) → SaysSame (Read piece (place at left)) (Read piece (place there left))
says_read (More content) at there left = record { units = refl; verdict = refl; clean = λ e. e; more = refl }
says_read (Last content) at there left = record { units = refl; verdict = refl; clean = λ e. e; more = refl }

says_refused : (fault : Fault) (at there : ℕ) → SaysSame (Refused fault at) (Refused fault there)
says_refused fault at there = record { units = refl; verdict = refl; clean = λ e. e; more = refl }

says_wanting : SaysSame Wanting Wanting
says_wanting = record { units = refl; verdict = refl; clean = λ e. e; more = refl }

says_whole : (content : Content) (max_unit : Option ℕ) (key id : List ℕ) (want : ℕ) (left : List ℕ) (at there : ℕ) (head : UnitHead) (o : Option (List ℕ)) → ReadsHead content want max_unit left head
    → unit_size head ≤ length left → opened_there key id head (drop head.size left) ≡ o
    → SaysSame (unit content max_unit key id want (place at left)) (unit content max_unit key id want (place there left))
says_whole content max_unit key id want left at there head (Some text) reads long is =
    says_by (unit content max_unit key id want (place at left)) (unit content max_unit key id want (place there left)) _ _
    (unit_reads content max_unit key id want left text head at reads long is) (unit_reads content max_unit key id want left text head there reads long is)
    (says_read (piece_of head.kind text) (at + unit_size head) (there + unit_size head) (drop (unit_size head) left))
says_whole content max_unit key id want left at there head None reads long is =
    says_by (unit content max_unit key id want (place at left)) (unit content max_unit key id want (place there left)) _ _
    (unit_refuses content max_unit key id want left head at reads long is) (unit_refuses content max_unit key id want left head there reads long is)
    (says_refused _ (at + unit_size head) (there + unit_size head))

says_head : (content : Content) (max_unit : Option ℕ) (key id : List ℕ) (want : ℕ) (left : List ℕ) (at there : ℕ) (h : Head) → head_of content want max_unit left ≡ h
    → SaysSame (unit content max_unit key id want (place at left)) (unit content max_unit key id want (place there left))
says_head content max_unit key id want left at there (heads.NeedMore n) e =
    says_by (unit content max_unit key id want (place at left)) (unit content max_unit key id want (place there left)) Wanting Wanting
    (unit_wants_head content max_unit key id want left n at e) (unit_wants_head content max_unit key id want left n there e) says_wanting
says_head content max_unit key id want left at there (heads.Refused fault) e =
    let r = unit_refuses_head content max_unit key id want left fault e in
    says_by (unit content max_unit key id want (place at left)) (unit content max_unit key id want (place there left)) (Refused fault (at + r.0)) (Refused fault (there + r.0))
    (r.2 at) (r.2 there) (says_refused fault (at + r.0) (there + r.0))
says_head content max_unit key id want left at there (heads.Unit head) e =
    let reads = head_reads content want max_unit left head e in
    elim (cases_lt (length left) (unit_size head)) [
      | inl short ↦ says_by (unit content max_unit key id want (place at left)) (unit content max_unit key id want (place there left)) Wanting Wanting
          (unit_wants content max_unit key id want left head at reads short) (unit_wants content max_unit key id want left head there reads short) says_wanting
      | inr long ↦ says_whole content max_unit key id want left at there head (opened_there key id head (drop head.size left)) reads long refl
    ]

pub unit_says : (content : Content) (max_unit : Option ℕ) (key id : List ℕ) (want : ℕ) (left : List ℕ) (at there : ℕ)
    → SaysSame (unit content max_unit key id want (place at left)) (unit content max_unit key id want (place there left))
unit_says content max_unit key id want left at there = says_head content max_unit key id want left at there (head_of content want max_unit left) refl

-- ---- what is judged

abbrev pub said : List (List ℕ) → Reading Piece → JudgedBody
said units r = record { units = units ++ released r; verdict = verdict_of r }

abbrev pub said_as : List (List ℕ) → Verdict → JudgedBody
said_as units verdict = record { units = units; verdict = verdict }

unmade : (units : List (List ℕ)) (verdict : Verdict) → said_as units verdict ≡ said_as (units ++ []) verdict
unmade units verdict = ap (λ (l : List (List ℕ)). said_as l verdict) (sym (append-nil units))

row_said : (width : ℕ) (row : ℕ → FieldReader Piece) (q : Place) (k : ℕ) (here : Place) (units : List (List ℕ)) (r : Reading Piece) → IsRow width row → ((j at : ℕ) → row j (place at []) ≡ Wanting)
    → Passed width row q k here units → row k here ≡ r → Clean r → judged_units width row q ≡ said units r
row_said width row q k here units (Read (More content) next) is_row empty passed e clean =
    wanting_end width row q (k + 1) (units ++ content ∷ []) next is_row (passed_more width row q k here units content next is_row passed e)
    (ap (λ (l : List ℕ). row (k + 1) (place next.at l)) clean ∙ empty (k + 1) next.at)
row_said width row q k here units (Read (Last content) next) is_row empty passed e clean = last_end width row q k units here content next is_row passed e
row_said width row q k here units (Refused fault at) is_row empty passed e clean = fault_end width row q k units here fault at is_row passed e ∙ unmade units _
row_said width row q k here units Wanting is_row empty passed e clean = wanting_end width row q k units here is_row passed e ∙ unmade units Going

-- the contents of the units before the open one
abbrev pub behind_units : Body → Place → List (List ℕ)
behind_units body p = units_before (unit_width body.content) (row_of body.content body.max_unit body.key body.message_id).row p (body.number - 1)

-- what is judged where more bytes came, and they end within the open unit or with it
pub judged_on : (body : Body) (p : Place) (more : List ℕ) → IsBehind body p → Clean (open_unit body (body.unit.held ++ more))
    → judged_body body.content body.max_unit body.key body.message_id (followed p more) ≡ said (behind_units body p) (open_unit body (body.unit.held ++ more))
judged_on body p more behind clean =
    let r = row_of body.content body.max_unit body.key body.message_id in
    let width : ℕ = unit_width body.content in
    let k : ℕ = body.number - 1 in
    let good : (j : ℕ) → j < k → is_more (slot width r.row p j) ≡ true = λ j h. ap is_more (sym (r.reads j (past (j * width) p))) ∙ behind.before j h in
    let here : Place = followed (past (k * width) p) more in
    let at : ℕ = p.at + k * width in
    let there : here ≡ place at (body.unit.held ++ more) = ap (λ (l : List ℕ). place at (l ++ more)) (sym behind.held) in
    let number : k + 1 ≡ body.number = omega (arith, behind.some) in
    let is : r.row k here ≡ unit body.content body.max_unit body.key body.message_id body.number (place at (body.unit.held ++ more)) =
    sym (r.reads k here) ∙ ap (λ (n : ℕ). unit body.content body.max_unit body.key body.message_id n here) number ∙ ap (unit body.content body.max_unit body.key body.message_id body.number) there in
    let same = unit_says body.content body.max_unit body.key body.message_id body.number (body.unit.held ++ more) 0 at in
    r.judges (followed p more)
    ∙ row_said width r.row (followed p more) k here (behind_units body p) (unit body.content body.max_unit body.key body.message_id body.number (place at (body.unit.held ++ more))) r.is_row r.empty
    (passed_followed width r.row p more k r.is_row good) is (same.clean clean)
    ∙ ap (λ (l : List (List ℕ)). said_as (behind_units body p ++ l) (verdict_of (unit body.content body.max_unit body.key body.message_id body.number (place at (body.unit.held ++ more))))) (sym same.units)
    ∙ ap (λ (v : Verdict). said_as (behind_units body p ++ released (open_unit body (body.unit.held ++ more))) v) (sym same.verdict)

pub followed_none : (p : Place) → followed p [] ≡ p
followed_none p = ap (λ (l : List ℕ). place p.at l) (append-nil p.left)

-- and where none came
pub judged_here : (body : Body) (p : Place) → IsBehind body p → judged_body body.content body.max_unit body.key body.message_id p ≡ said_as (behind_units body p) Going
judged_here body p behind =
    let waits : open_unit body (body.unit.held ++ []) ≡ Wanting = ap (open_unit body) (append-nil body.unit.held) ∙ behind.wanting in
    ap (judged_body body.content body.max_unit body.key body.message_id) (sym (followed_none p))
    ∙ judged_on body p [] behind (subst Clean (sym waits) tt)
    ∙ ap (said (behind_units body p)) waits
    ∙ ap (λ (l : List (List ℕ)). said_as l Going) (append-nil (behind_units body p))

-- ---- where the body stands then

-- the units before the open one are before it still
good_on : (body : Body) (p : Place) (more : List ℕ) → IsBehind body p → (k : ℕ) → k < body.number - 1
    → is_more (unit body.content body.max_unit body.key body.message_id (k + 1) (past (k * unit_width body.content) (followed p more))) ≡ true
good_on body p more behind k h =
    let r = row_of body.content body.max_unit body.key body.message_id in
    let width : ℕ = unit_width body.content in
    ap is_more (r.reads k (past (k * width) (followed p more)))
    ∙ (slot_followed width r.row p more k r.is_row (ap is_more (sym (r.reads k (past (k * width) p))) ∙ behind.before k h)).more

-- the bytes of the open unit
open_place : (body : Body) (p : Place) (more : List ℕ) → IsBehind body p
    → past ((body.number - 1) * unit_width body.content) (followed p more) ≡ place (p.at + (body.number - 1) * unit_width body.content) (body.unit.held ++ more)
open_place body p more behind =
    let r = row_of body.content body.max_unit body.key body.message_id in
    let width : ℕ = unit_width body.content in
    let within : (body.number - 1) * width ≤ length p.left =
    slots_within width r.row p (body.number - 1) r.is_row (λ j h. ap is_more (sym (r.reads j (past (j * width) p))) ∙ behind.before j h) in
    past_followed ((body.number - 1) * width) p more within ∙ ap (λ (l : List ℕ). place (p.at + (body.number - 1) * width) (l ++ more)) (sym behind.held)

-- the open unit isn't whole yet
pub behind_wanting : (old new : Body) (p : Place) (more : List ℕ) → IsBehind old p → SameBody old new → new.number ≡ old.number → new.unit.held ≡ old.unit.held ++ more
    → open_unit old (old.unit.held ++ more) ≡ Wanting → IsBehind new (followed p more)
behind_wanting old new p more behind same number held waits =
    let there : past ((new.number - 1) * unit_width new.content) (followed p more) ≡ place (p.at + (old.number - 1) * unit_width old.content) (old.unit.held ++ more) =
    rw (same.content, number) (open_place old p more behind) in
    record {
      some = omega (arith, number, behind.some);
      before = λ k h. rw (same.content, same.max_unit, same.key, same.id) (good_on old p more behind k (omega (arith, number)));
      held = held ∙ sym (ap (λ (q : Place). q.left) there);
      wanting = rw (same.content, same.max_unit, same.key, same.id, number, held) waits;
    }

-- where no byte of it came, the open unit wants more
pub no_byte : (body : Body) → 1 ≤ body.number → open_unit body [] ≡ Wanting
no_byte body some =
    let r = row_of body.content body.max_unit body.key body.message_id in
    let n : body.number ≡ body.number - 1 + 1 = omega arith in
    ap (λ (k : ℕ). unit body.content body.max_unit body.key body.message_id k (place 0 [])) n ∙ r.reads (body.number - 1) (place 0 []) ∙ r.empty (body.number - 1) 0

-- before the first byte
pub behind_first : (body : Body) (p : Place) → body.number ≡ 1 → body.unit.held ≡ [] → p.left ≡ [] → IsBehind body p
behind_first body p first held left = record {
  some = omega (arith, first);
  before = λ k h. absurd (omega (arith, first, h));
  held = held ∙ sym (ap (λ (l : List ℕ). drop ((body.number - 1) * unit_width body.content) l) left ∙ drop_all ((body.number - 1) * unit_width body.content) [] (omega arith));
  wanting = ap (open_unit body) held ∙ no_byte body (omega (arith, first));
}

pub none_before : (body : Body) (p : Place) → body.number ≡ 1 → behind_units body p ≡ []
none_before body p first =
    let none : body.number - 1 ≡ 0 = omega (arith, first) in
    ap (λ (k : ℕ). units_before (unit_width body.content) (row_of body.content body.max_unit body.key body.message_id).row p k) none

-- a unit was opened, and the next one goes on
pub behind_more : (old new : Body) (p : Place) (more content : List ℕ) (next : Place) → IsBehind old p → SameBody old new → new.number ≡ old.number + 1 → new.unit.held ≡ []
    → open_unit old (old.unit.held ++ more) ≡ Read (More content) next → next.left ≡ [] → IsBehind new (followed p more)
behind_more old new p more content next behind same number held is clean =
    let r = row_of old.content old.max_unit old.key old.message_id in
    let width : ℕ = unit_width old.content in
    let k : ℕ = old.number - 1 in
    let here : Place = past (k * width) (followed p more) in
    let there = open_place old p more behind in
    let numbered : k + 1 ≡ old.number = omega (arith, behind.some) in
    let same_said = unit_says old.content old.max_unit old.key old.message_id old.number (old.unit.held ++ more) 0 (p.at + k * width) in
    let at_here : r.row k here ≡ unit old.content old.max_unit old.key old.message_id old.number (place (p.at + k * width) (old.unit.held ++ more)) =
    sym (r.reads k here) ∙ ap (λ (n : ℕ). unit old.content old.max_unit old.key old.message_id n here) numbered ∙ ap (unit old.content old.max_unit old.key old.message_id old.number) there in
    let last : is_more (unit old.content old.max_unit old.key old.message_id (k + 1) here) ≡ true = ap is_more (r.reads k here ∙ at_here) ∙ sym same_said.more ∙ ap is_more is in
    let good : (j : ℕ) → j < old.number → is_more (unit old.content old.max_unit old.key old.message_id (j + 1) (past (j * width) (followed p more))) ≡ true = λ j h. elim (cases_lt j k) [
      | inl early ↦ good_on old p more behind j early
      | inr late ↦
          (let same_k : k ≡ j = omega (arith, behind.some) in
          subst (λ (i : ℕ). is_more (unit old.content old.max_unit old.key old.message_id (i + 1) (past (i * width) (followed p more))) ≡ true) same_k last)
    ] in
    let read = more_read (r.row k here) (ap is_more (sym (r.reads k here)) ∙ last) in
    let sized = (r.is_row.sized k here read.next read.content read.is).1 in
    let cleaned : Clean (Read (More read.content) read.next) = subst Clean (sym at_here ∙ read.is) (same_said.clean (subst Clean (sym is) clean)) in
    let on : k * width + width ≡ old.number * width = next_row k width old.number numbered in
    let left : (past (old.number * width) (followed p more)).left ≡ [] =
    ap (λ (q : Place). q.left) (ap (λ (n : ℕ). past n (followed p more)) (sym on) ∙ sym (past_past width (k * width) (followed p more)) ∙ sym sized) ∙ cleaned in
    let less : new.number - 1 ≡ old.number = omega (arith, number) in
    record {
      some = omega (arith, number);
      before = λ j h. rw (same.content, same.max_unit, same.key, same.id) (good j (omega (arith, number)));
      held = held ∙ sym (rw (same.content, less) left);
      wanting = ap (open_unit new) held ∙ no_byte new (omega (arith, number));
    }
  where
    next_row : (k width n : ℕ) → k + 1 ≡ n → k * width + width ≡ n * width
    next_row k width n e = let on : k * width + width ≡ (k + 1) * width = omega arith in on ∙ ap (λ (m : ℕ). m * width) e
