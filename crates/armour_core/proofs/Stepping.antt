-- A step of a reader of armour, byte by byte.
use Rattle.std.proofs.Common.{◌≡◌, ℕ, zero, suc, ◌+◌, ◌-◌, ◌%◌, ◌<◌, ◌≤◌, ◌==◌, Bool, true, false, ◌&&◌, List, [], ◌∷◌, ◌++◌, length, take, drop, slice_index, Option, Some, None, Result, Ok, Err, refl, sym, subst, ap, ◌∙◌, arith, if◌then◌else◌, inl, inr, eq-eqb}
use Rattle.std.proofs.lemmas.Bool.{cases_Bool, eqb-true}
use Rattle.std.proofs.lemmas.List.{append-nil, append_assoc, length-append, drop_at, drop_all, drop_more, take_more}
use Rattle.std.proofs.Math.Seq.{take-add}
use Rattle.std.proofs.lemmas.List.Elements.{filter-append}
use Rattle.armour_core.specs.declared.errors.ArmourError.{ArmourError}
use Rattle.armour_core.specs.declared.errors.ArmourError.TheVariants.{Stopped}
use Rattle.armour_core.specs.declared.unarmour.Unarmour.{Unarmour}
use Rattle.armour_core.specs.Unarmoured.{GroupsRead, Unarmoured, characters, groups_read, is_character, unarmoured}
use Rattle.armour_core.specs.Unarmouring.{UnarmouringValue, answer_where, bad_armour, bytes_with, gained, group_answer, group_stepped, stepped_where, unarmouring_stopped, text_with, used_in_piece}
use Rattle.armour_core.specs.Stands.{HoldsGroup, StandsReading, RefusesByte, TakesByte, ends_group, open_group}
use Rattle.armour_core.proofs.Groups.{read_append, read_no_more, read_on}
use Rattle.armour_core.proofs.Reading.{bad_read, bytes_read, gained_none, same_group, stays_stopped, with_break, with_character}

-- ---- a text that goes on

-- where no group is bad, what it gives stands in front of what it gives with more
pub grows : (text more : List ℕ) → (unarmoured text).bad ≡ None → (unarmoured (text ++ more)).bytes ≡ (unarmoured text).bytes ++ gained text (text ++ more)
grows text more sound =
    let front : List ℕ = (unarmoured text).bytes in
    let rest : List ℕ = (read_on (open_group text) (characters more)).bytes in
    let all : (unarmoured (text ++ more)).bytes ≡ front ++ rest =
    bytes_read (text ++ more)
    ∙ ap (λ (cs : List ℕ). (groups_read 1 false cs).bytes) (filter-append is_character text more)
    ∙ ap (λ (r : GroupsRead). r.bytes) (read_append 1 false (characters text) (characters more) (sym (bad_read text) ∙ sound))
    ∙ ap (λ (b : List ℕ). b ++ rest) (sym (bytes_read text)) in
    all ∙ ap (λ (b : List ℕ). front ++ b) (sym (ap (drop (length front)) all ∙ drop_at front rest (length front) refl))

-- a bad group stays
pub stays_bad : (text more : List ℕ) (number : ℕ) → (unarmoured text).bad ≡ Some number → unarmoured (text ++ more) ≡ record (unarmoured text) { short = (unarmoured (text ++ more)).short }
unfolding unarmoured
stays_bad text more number bad =
    let same = ap (groups_read 1 false) (filter-append is_character text more) ∙ read_no_more 1 number false (characters text) (characters more) bad in
    ap (λ (r : GroupsRead). let u : Unarmoured = record { bytes = r.bytes; bad = r.bad; short = (unarmoured (text ++ more)).short } in u) same

-- ---- the bytes of a piece

pub none_with : (piece : List ℕ) → bytes_with piece 0 ≡ 0
unfolding bytes_with
none_with [] = refl
none_with (x ∷ piece) = refl

none_left : (count : ℕ) → bytes_with [] count ≡ 0
unfolding bytes_with
none_left zero = refl
none_left (suc n) = refl

-- one byte, of so many characters that are wanted
with_byte : (byte count : ℕ) (rest : List ℕ) → 0 < count → bytes_with (byte ∷ rest) count ≡ bytes_with rest (if is_character byte then count - 1 else count) + 1
unfolding bytes_with
with_byte byte zero rest some = absurd (omega (arith, some))
with_byte byte (suc n) rest some = let back : suc n - 1 ≡ n = omega arith in ap (λ (k : ℕ). bytes_with rest (if is_character byte then k else suc n) + 1) (sym back)

-- ---- the loop

-- So many bytes of the piece were taken, in which no group ends.
pub record Stepping (v : UnarmouringValue) (piece : List ℕ) (u : Unarmour) (used : ℕ) : Type 0 where
  pub holds : HoldsGroup u (v.taken ++ take used piece)
  pub same : (unarmoured (v.taken ++ take used piece)).bytes ≡ (unarmoured v.taken).bytes
  pub left : used_in_piece v piece ≡ used + bytes_with (drop used piece) (4 - length (characters (v.taken ++ take used piece)) % 4)

pub record InStep (u0 u : Unarmour) (piece : List ℕ) (used : ℕ) : Type 0 where
  pub goes : u.stopped ≡ false
  pub none : u.given ≡ 0
  pub within : used ≤ length piece
  pub steps : (v : UnarmouringValue) → StandsReading u0 v → v.stopped ≡ false → Stepping v piece u used

pub step_begins : (u0 u : Unarmour) (piece : List ℕ) → u.group ≡ u0.group → u.held ≡ u0.held → u.number ≡ u0.number → u.padded ≡ u0.padded → u.stopped ≡ false → u.given ≡ 0 → InStep u0 u piece 0
step_begins u0 u piece group held number padded goes none = record {
  goes = goes;
  none = none;
  within = omega arith;
  steps = λ v reads on.
      let all = sym (append-nil v.taken) in record {
        holds = subst (HoldsGroup u) all (same_group u0 u v.taken group held number padded (reads.group on));
        same = ap (λ (t : List ℕ). (unarmoured t).bytes) (sym all);
        left = ap (λ (t : List ℕ). bytes_with piece (4 - length (characters t) % 4)) all ∙ omega arith;
      };
}

text_more : (v : UnarmouringValue) (piece : List ℕ) (used byte : ℕ) → used < length piece → byte ≡ slice_index piece used → v.taken ++ take (used + 1) piece ≡ (v.taken ++ take used piece) ++ byte ∷ []
text_more v piece used byte within is =
    ap (λ (t : List ℕ). v.taken ++ t) (take_more piece used 0 within ∙ ap (λ (b : ℕ). take used piece ++ b ∷ []) (sym is)) ∙ sym (append_assoc v.taken (take used piece) (byte ∷ []))

piece_left : (piece : List ℕ) (used byte : ℕ) → used < length piece → byte ≡ slice_index piece used → drop used piece ≡ byte ∷ drop (used + 1) piece
piece_left piece used byte within is = drop_more piece used 0 within ∙ ap (λ (b : ℕ). b ∷ drop (used + 1) piece) (sym is)

-- a byte that ends no group
count_more : (text : List ℕ) (byte : ℕ) (rest : List ℕ) → false ≡ ends_group text byte
    → bytes_with (byte ∷ rest) (4 - length (characters text) % 4) ≡ 1 + bytes_with rest (4 - length (characters (text ++ byte ∷ [])) % 4)
count_more text byte rest ends = elim (cases_Bool (is_character byte)) [
  | inl taken ↦
      let n : ℕ = length (characters text) in
      let more : length (characters (text ++ byte ∷ [])) ≡ n + 1 = ap length (with_character text byte taken) ∙ length-append (characters text) (byte ∷ []) in
      let open_still : n % 4 ≡ 3 → ⊥ = λ full. let e = ends ∙ ap (λ (b : Bool). b && (n % 4 == 3)) taken ∙ eq-eqb (n % 4) 3 full in cc e in
      let count : 4 - n % 4 - 1 ≡ 4 - length (characters (text ++ byte ∷ [])) % 4 = omega (arith, more, open_still) in
      with_byte byte (4 - n % 4) rest (omega arith) ∙ ap (λ (b : Bool). bytes_with rest (if b then 4 - n % 4 - 1 else 4 - n % 4) + 1) taken
      ∙ ap (λ (k : ℕ). bytes_with rest k + 1) count ∙ omega arith
  | inr passed ↦
      let n : ℕ = length (characters text) in
      let same : n ≡ length (characters (text ++ byte ∷ [])) = sym (ap length (with_break text byte passed)) in
      with_byte byte (4 - n % 4) rest (omega arith) ∙ ap (λ (b : Bool). bytes_with rest (if b then 4 - n % 4 - 1 else 4 - n % 4) + 1) passed
      ∙ ap (λ (k : ℕ). bytes_with rest (4 - k % 4) + 1) same ∙ omega arith
]

and_both : (x y : Bool) → (x && y) ≡ true → (x ≡ true) × (y ≡ true)
and_both true y both = (refl, both)
and_both false y both = cc both

-- one that ends one
count_ends : (text : List ℕ) (byte : ℕ) (rest : List ℕ) → true ≡ ends_group text byte → bytes_with (byte ∷ rest) (4 - length (characters text) % 4) ≡ 1
count_ends text byte rest ends =
    let n : ℕ = length (characters text) in
    let both = and_both (is_character byte) (n % 4 == 3) (sym ends) in
    let one : 4 - n % 4 ≡ 1 = omega (arith, eqb-true (n % 4) 3 both.1) in
    ap (bytes_with (byte ∷ rest)) one ∙ with_byte byte 1 rest (omega arith) ∙ ap (λ (b : Bool). bytes_with rest (if b then 0 else 1) + 1) both.0 ∙ ap (λ (k : ℕ). k + 1) (none_with rest)

-- in any case it is counted
counted : (text : List ℕ) (byte : ℕ) (rest : List ℕ) → (k : ℕ) × (bytes_with (byte ∷ rest) (4 - length (characters text) % 4) ≡ 1 + k)
counted text byte rest =
    let n : ℕ = length (characters text) in
    let k : ℕ = bytes_with rest (if is_character byte then 4 - n % 4 - 1 else 4 - n % 4) in
    (k, with_byte byte (4 - n % 4) rest (omega arith) ∙ omega arith)

-- what a byte gives that stands behind others that gave nothing
same_gained : (v : UnarmouringValue) (text after : List ℕ) → (unarmoured text).bytes ≡ (unarmoured v.taken).bytes → gained v.taken after ≡ gained text after
same_gained v text after same = ap (λ (b : List ℕ). drop (length b) (unarmoured after).bytes) (sym same)

pub step_goes_on : (u0 u new : Unarmour) (piece : List ℕ) (used byte : ℕ) → InStep u0 u piece used → used < length piece → byte ≡ slice_index piece used
    → ((text : List ℕ) → HoldsGroup u text → TakesByte text byte false new) → new.stopped ≡ false → new.given ≡ 0 → InStep u0 new piece (used + 1)
step_goes_on u0 u new piece used byte step within is takes goes none = record {
  goes = goes;
  none = none;
  within = omega (arith, within);
  steps = λ v reads on.
      let s = step.steps v reads on in
      let text : List ℕ = v.taken ++ take used piece in
      let t = takes text s.holds in
      let more = text_more v piece used byte within is in
      let nothing : gained text (text ++ byte ∷ []) ≡ [] = sym t.out ∙ ap (λ (n : ℕ). take n new.bytes) none in record {
        holds = subst (HoldsGroup new) (sym more) t.holds;
        same = ap (λ (x : List ℕ). (unarmoured x).bytes) more ∙ grows text (byte ∷ []) s.holds.sound ∙ ap (λ (b : List ℕ). (unarmoured text).bytes ++ b) nothing
            ∙ append-nil (unarmoured text).bytes ∙ s.same;
        left = s.left ∙ ap (λ (r : List ℕ). used + bytes_with r (4 - length (characters text) % 4)) (piece_left piece used byte within is)
            ∙ ap (λ (n : ℕ). used + n) (count_more text byte (drop (used + 1) piece) t.ends)
            ∙ ap (λ (x : List ℕ). used + (1 + bytes_with (drop (used + 1) piece) (4 - length (characters x) % 4))) (sym more) ∙ omega arith;
      };
}

-- ---- how it ends

-- the step's answer and session, where no group is bad in what it takes
pub goes_as : (v : UnarmouringValue) (piece : List ℕ) (used : ℕ) → v.stopped ≡ false → used_in_piece v piece ≡ used → (unarmoured (v.taken ++ take used piece)).bad ≡ None
    → (group_answer v piece ≡ Ok used) × (group_stepped v piece ≡ record { taken = v.taken ++ take used piece; stopped = false; out = gained v.taken (v.taken ++ take used piece) })
unfolding group_answer group_stepped
goes_as v piece used on is sound =
    let text : text_with v piece ≡ v.taken ++ take used piece = ap (λ (n : ℕ). v.taken ++ take n piece) is in
    let none : (unarmoured (text_with v piece)).bad ≡ None = ap (λ (t : List ℕ). (unarmoured t).bad) text ∙ sound in (
      ap (λ (b : Bool). if b then Err Stopped else answer_where (unarmoured (text_with v piece)).bad (used_in_piece v piece)) on
          ∙ ap (λ (x : Option ℕ). answer_where x (used_in_piece v piece)) none ∙ ap (λ (n : ℕ). let r : Result ℕ ArmourError = Ok n in r) is,
      ap (λ (b : Bool). if b then unarmouring_stopped v else stepped_where (unarmoured (text_with v piece)).bad v (text_with v piece)) on
          ∙ ap (λ (x : Option ℕ). stepped_where x v (text_with v piece)) none
          ∙ ap (λ (t : List ℕ). let w : UnarmouringValue = record { taken = t; stopped = false; out = gained v.taken t } in w) text,
    )

-- where one is
pub refuses_as : (v : UnarmouringValue) (piece : List ℕ) (number : ℕ) → v.stopped ≡ false → (unarmoured (text_with v piece)).bad ≡ Some number
    → (group_answer v piece ≡ Err (bad_armour number)) × (group_stepped v piece ≡ unarmouring_stopped v)
unfolding group_answer group_stepped
refuses_as v piece number on bad = (
  ap (λ (b : Bool). if b then Err Stopped else answer_where (unarmoured (text_with v piece)).bad (used_in_piece v piece)) on ∙ ap (λ (x : Option ℕ). answer_where x (used_in_piece v piece)) bad,
  ap (λ (b : Bool). if b then unarmouring_stopped v else stepped_where (unarmoured (text_with v piece)).bad v (text_with v piece)) on ∙ ap (λ (x : Option ℕ). stepped_where x v (text_with v piece)) bad,
)

pub step_stopped : (v : UnarmouringValue) (piece : List ℕ) → v.stopped ≡ true → (group_answer v piece ≡ Err Stopped) × (group_stepped v piece ≡ unarmouring_stopped v)
unfolding group_answer group_stepped
step_stopped v piece stopped = (
  ap (λ (b : Bool). if b then Err Stopped else answer_where (unarmoured (text_with v piece)).bad (used_in_piece v piece)) stopped,
  ap (λ (b : Bool). if b then unarmouring_stopped v else stepped_where (unarmoured (text_with v piece)).bad v (text_with v piece)) stopped,
)

-- What a step answers and leaves.
pub record StepAnswers (u0 : Unarmour) (piece : List ℕ) (new : Unarmour) (result : Result ℕ ArmourError) : Type 0 where
  pub answer : (v : UnarmouringValue) → StandsReading u0 v → result ≡ group_answer v piece
  pub reads : (v : UnarmouringValue) → StandsReading u0 v → StandsReading new (group_stepped v piece)

-- where the session goes on
answers_on : (u0 new : Unarmour) (piece : List ℕ) (result : Result ℕ ArmourError) → u0.stopped ≡ false
    → ((v : UnarmouringValue) → StandsReading u0 v → v.stopped ≡ false → (result ≡ group_answer v piece) × StandsReading new (group_stepped v piece)) → StepAnswers u0 piece new result
answers_on u0 new piece result on each = record {
  answer = λ v reads. (each v reads (sym reads.stopped ∙ on)).0;
  reads = λ v reads. (each v reads (sym reads.stopped ∙ on)).1;
}

-- the piece ends in the group
pub step_ends : (u0 u : Unarmour) (piece : List ℕ) (used : ℕ) → u0.stopped ≡ false → InStep u0 u piece used → length piece ≤ used → StepAnswers u0 piece u (Ok used)
step_ends u0 u piece used on step all = answers_on u0 u piece (Ok used) on (λ v reads goes.
    let s = step.steps v reads goes in
    let count : used_in_piece v piece ≡ used = s.left ∙ ap (λ (r : List ℕ). used + bytes_with r (4 - length (characters (v.taken ++ take used piece)) % 4)) (drop_all used piece all)
    ∙ ap (λ (n : ℕ). used + n) (none_left (4 - length (characters (v.taken ++ take used piece)) % 4)) ∙ omega arith in
    let is_so = goes_as v piece used goes count s.holds.sound in
    let nothing : gained v.taken (v.taken ++ take used piece) ≡ [] = same_gained v _ _ s.same ∙ gained_none (v.taken ++ take used piece) in
    (sym is_so.0, subst (StandsReading u) (sym is_so.1) (record { stopped = step.goes; group = λ _. s.holds; out = ap (λ (n : ℕ). take n u.bytes) step.none ∙ sym nothing })))

-- a byte of the piece ends the group
pub step_gives : (u0 u new : Unarmour) (piece : List ℕ) (used byte : ℕ) → u0.stopped ≡ false → InStep u0 u piece used → used < length piece → byte ≡ slice_index piece used
    → ((text : List ℕ) → HoldsGroup u text → TakesByte text byte true new) → StepAnswers u0 piece new (Ok (used + 1))
step_gives u0 u new piece used byte on step within is takes = answers_on u0 new piece (Ok (used + 1)) on (λ v reads goes.
    let s = step.steps v reads goes in
    let text : List ℕ = v.taken ++ take used piece in
    let t = takes text s.holds in
    let more = text_more v piece used byte within is in
    let count : used_in_piece v piece ≡ used + 1 = s.left ∙ ap (λ (r : List ℕ). used + bytes_with r (4 - length (characters text) % 4)) (piece_left piece used byte within is)
    ∙ ap (λ (n : ℕ). used + n) (count_ends text byte (drop (used + 1) piece) t.ends) in
    let holds = subst (HoldsGroup new) (sym more) t.holds in
    let is_so = goes_as v piece (used + 1) goes count holds.sound in
    let out : take new.given new.bytes ≡ gained v.taken (v.taken ++ take (used + 1) piece) = t.out ∙ ap (gained text) (sym more) ∙ sym (same_gained v text _ s.same) in
    (sym is_so.0, subst (StandsReading new) (sym is_so.1) (record { stopped = t.goes; group = λ _. holds; out = out })))

-- a byte of the piece makes the group bad
pub step_refuses : (u0 u new : Unarmour) (piece : List ℕ) (used byte : ℕ) (error : ArmourError) → u0.stopped ≡ false → InStep u0 u piece used → used < length piece → byte ≡ slice_index piece used
    → ((text : List ℕ) → HoldsGroup u text → RefusesByte text byte error new) → StepAnswers u0 piece new (Err error)
step_refuses u0 u new piece used byte error on step within is refuses = answers_on u0 new piece (Err error) on (λ v reads goes.
    let s = step.steps v reads goes in
    let text : List ℕ = v.taken ++ take used piece in
    let r = refuses text s.holds in
    let k = counted text byte (drop (used + 1) piece) in
    let rest : List ℕ = drop (used + 1) piece in
    let count : used_in_piece v piece ≡ used + 1 + k.0 = s.left ∙ ap (λ (x : List ℕ). used + bytes_with x (4 - length (characters text) % 4)) (piece_left piece used byte within is)
    ∙ ap (λ (n : ℕ). used + n) k.1 ∙ omega arith in
    let cut : take (used + 1 + k.0) piece ≡ take (used + 1) piece ++ take k.0 rest = take-add (used + 1) k.0 piece in
    let all : text_with v piece ≡ (text ++ byte ∷ []) ++ take k.0 rest =
    ap (λ (n : ℕ). v.taken ++ take n piece) count ∙ ap (λ (t : List ℕ). v.taken ++ t) cut ∙ sym (append_assoc v.taken (take (used + 1) piece) (take k.0 rest))
    ∙ ap (λ (t : List ℕ). t ++ take k.0 rest) (text_more v piece used byte within is) in
    let bad : (unarmoured (text_with v piece)).bad ≡ Some r.number =
    ap (λ (t : List ℕ). (unarmoured t).bad) all ∙ ap (λ (x : Unarmoured). x.bad) (stays_bad (text ++ byte ∷ []) (take k.0 rest) r.number r.bad) ∙ r.bad in
    let is_so = refuses_as v piece r.number goes bad in
    (ap (λ (e : ArmourError). let x : Result ℕ ArmourError = Err e in x) r.error_is ∙ sym is_so.0, subst (StandsReading new) (sym is_so.1) (stays_stopped new v r.stops r.given)))
