-- The range of a content that is made of the contents of slots.
use Rattle.std.proofs.Common.{◌≡◌, ℕ, zero, suc, ◌+◌, ◌-◌, ◌*◌, ◌<◌, ◌≤◌, true, false, List, [], ◌++◌, length, take, drop, Some, None, refl, sym, ap, ◌∙◌, arith, inl, inr, append-nil}
use Rattle.std.specs.List.{concat, flat_map, range_with_len}
use Rattle.std.proofs.lemmas.Bool.{cases_lt}
use Rattle.std.proofs.lemmas.List.{drop-append-le, drop-drop, drop_all, drop_at, length-append, length-take, take-append-le, take_all}
use Rattle.std.proofs.lemmas.List.Concat.{concat_is, flat_map-cons}
use Rattle.std.proofs.lemmas.Grind.{flat_map-append}
use Rattle.std.proofs.Math.Seq.{take-append-add}
use Rattle.esdk_fields.specs.Reading.{Reading, Read, Refused, Wanting}
use Rattle.frame_codec.specs.Unit.{Piece, More, Last}
use Rattle.body_format.specs.OneSlot.{last_in, more_in}
use Rattle.body_format.specs.Rows.{is_more}
use Rattle.extract_core.specs.Extracted.{ByteRange, in_range, unit_content, unit_fault}

-- ---- readings

pub more_content : (r : Reading Piece) (x : List ℕ) → more_in r ≡ Some x → (is_more r ≡ true) × ((unit_content r ≡ x) × (unit_fault r ≡ None))
more_content (Read (More content) next) x e = (refl, (let same : content ≡ x = cc in same, refl))
more_content (Read (Last content) next) x e = absurd cc
more_content (Refused fault at) x e = absurd cc
more_content Wanting x e = absurd cc

pub last_content : (r : Reading Piece) (x : List ℕ) → last_in r ≡ Some x → (is_more r ≡ false) × ((unit_content r ≡ x) × (unit_fault r ≡ None))
last_content (Read (More content) next) x e = absurd cc
last_content (Read (Last content) next) x e = (refl, (let same : content ≡ x = cc in same, refl))
last_content (Refused fault at) x e = absurd cc
last_content Wanting x e = absurd cc

pub no_content : (r : Reading Piece) → more_in r ≡ None → last_in r ≡ None → (is_more r ≡ false) × (unit_content r ≡ [])
no_content (Read (More content) next) more last = absurd cc
no_content (Read (Last content) next) more last = absurd cc
no_content (Refused fault at) more last = (refl, refl)
no_content Wanting more last = (refl, refl)

-- ---- parts of a range

drop_append : (m : ℕ) (xs ys : List ℕ) → drop m (xs ++ ys) ≡ drop m xs ++ drop (m - length xs) ys
drop_append m xs ys =
    elim (cases_lt (length xs) m) [
      | inl beyond ↦
          (let e : m ≡ length xs + (m - length xs) = omega arith in
          ap (λ (n : ℕ). drop n (xs ++ ys)) e ∙ sym (drop-drop (m - length xs) (length xs) (xs ++ ys)) ∙ ap (drop (m - length xs)) (drop_at xs ys (length xs) refl)
          ∙ sym (ap (λ (l : List ℕ). l ++ drop (m - length xs) ys) (drop_all m xs (omega arith))))
      | inr within ↦ (let e : m - length xs ≡ 0 = omega arith in drop-append-le m xs ys within ∙ ap (λ (n : ℕ). drop m xs ++ drop n ys) (sym e))
    ]

take_append : (n : ℕ) (xs ys : List ℕ) → take n (xs ++ ys) ≡ take n xs ++ take (n - length xs) ys
take_append n xs ys =
    elim (cases_lt n (length xs)) [
      | inl within ↦ (let e : n - length xs ≡ 0 = omega arith in take-append-le n xs ys (omega arith) ∙ sym (append-nil (take n xs)) ∙ ap (λ (k : ℕ). take n xs ++ take k ys) (sym e))
      | inr beyond ↦
          (let e : n ≡ length xs + (n - length xs) = omega arith in
          ap (λ (k : ℕ). take k (xs ++ ys)) e ∙ take-append-add xs ys (n - length xs) ∙ ap (λ (l : List ℕ). l ++ take (n - length xs) ys) (sym (take_all n xs beyond)))
    ]

nothing_dropped : (m : ℕ) (l : List ℕ) → l ≡ [] → drop m l ≡ []
nothing_dropped m l e = drop_all m l (omega (arith, ap length e))

nothing_left : (n : ℕ) (l : List ℕ) → n ≡ 0 → take n l ≡ []
nothing_left n l e = rw e refl

-- of two pieces, one behind the other
pub range_append : (range : ByteRange) (first : ℕ) (xs ys : List ℕ) → in_range range first (xs ++ ys) ≡ in_range range first xs ++ in_range range (first + length xs) ys
range_append range first xs ys =
    let m : ℕ = range.at - first in
    let n : ℕ = range.at + range.count - first in
    let rest : List ℕ = take (n - length xs) ys in
    let at : range.at - (first + length xs) ≡ m - length xs = omega arith in
    let end : range.at + range.count - (first + length xs) ≡ n - length xs = omega arith in
    ap (drop m) (take_append n xs ys) ∙ drop_append m (take n xs) rest
    ∙ elim (cases_lt n (length xs)) [
      | inl within ↦
          (let none : rest ≡ [] = nothing_left (n - length xs) ys (omega arith) in
          let other : take (range.at + range.count - (first + length xs)) ys ≡ [] = nothing_left (range.at + range.count - (first + length xs)) ys (omega arith) in
          ap (λ (l : List ℕ). drop m (take n xs) ++ l) (nothing_dropped (m - length (take n xs)) rest none ∙ sym (nothing_dropped (range.at - (first + length xs)) (take (range.at + range.count - (first + length xs)) ys) other)))
      | inr beyond ↦
          (let len : length (take n xs) ≡ length xs = omega (arith, length-take n xs, beyond) in
          ap (λ (k : ℕ). drop m (take n xs) ++ drop (m - k) rest) len
          ∙ ap (λ (k : ℕ). drop m (take n xs) ++ drop k rest) (sym at) ∙ ap (λ (k : ℕ). drop m (take n xs) ++ drop (range.at - (first + length xs)) (take k ys)) (sym end))
    ]

-- before the range, and behind it
pub none_before : (range : ByteRange) (first : ℕ) (x : List ℕ) → first + length x ≤ range.at → in_range range first x ≡ []
none_before range first x before = drop_all (range.at - first) (take (range.at + range.count - first) x) (omega (arith, length-take (range.at + range.count - first) x, before))

pub none_behind : (range : ByteRange) (first : ℕ) (x : List ℕ) → range.at + range.count ≤ first → in_range range first x ≡ []
none_behind range first x behind = nothing_dropped (range.at - first) (take (range.at + range.count - first) x) (nothing_left (range.at + range.count - first) x (omega (arith, behind)))

pub none_of_empty : (range : ByteRange) (x : List ℕ) → range.count ≡ 0 → in_range range 0 x ≡ []
none_of_empty range x none =
    let end : ℕ = range.at + range.count - 0 in
    drop_all (range.at - 0) (take end x) (omega (arith, length-take end x, none))

none_of_none : (range : ByteRange) (first : ℕ) → in_range range first [] ≡ []
none_of_none range first = nothing_dropped (range.at - first) (take (range.at + range.count - first) []) (take_all (range.at + range.count - first) [] (omega arith))

-- ---- lists made of slots

-- what is joined of two lists of lists
pub concat_two : (xs ys : List (List ℕ)) → concat (xs ++ ys) ≡ concat xs ++ concat ys
concat_two xs ys =
    concat_is (xs ++ ys) ∙ flat_map-append (λ (x : List ℕ). x) xs ys
    ∙ ap (λ (l : List ℕ). l ++ flat_map (λ (x : List ℕ). x) ys) (sym (concat_is xs)) ∙ ap (λ (l : List ℕ). concat xs ++ l) (sym (concat_is ys))

-- what is joined of lists of lists, one for each slot
pub concat_flat : (f : ℕ → List (List ℕ)) (g : ℕ → List ℕ) (a m : ℕ) → ((k : ℕ) → a ≤ k → k < a + m → concat (f k) ≡ g k) → concat (flat_map f (range_with_len a m)) ≡ flat_map g (range_with_len a m)
concat_flat f g a zero same = refl
concat_flat f g a (suc m) same =
    ap concat (flat_map-cons f a (range_with_len (a + 1) m)) ∙ concat_two (f a) (flat_map f (range_with_len (a + 1) m))
    ∙ ap (λ (l : List ℕ). l ++ concat (flat_map f (range_with_len (a + 1) m))) (same a (omega arith) (omega arith))
    ∙ ap (λ (l : List ℕ). g a ++ l) (concat_flat f g (a + 1) m (λ k low high. same k (omega arith) (omega arith)))
    ∙ sym (flat_map-cons g a (range_with_len (a + 1) m))

-- one for each
pub one_each : (f : ℕ → List (List ℕ)) (a m : ℕ) → ((k : ℕ) → a ≤ k → k < a + m → length (f k) ≡ 1) → length (flat_map f (range_with_len a m)) ≡ m
one_each f a zero one = refl
one_each f a (suc m) one =
    ap length (flat_map-cons f a (range_with_len (a + 1) m)) ∙ length-append (f a) (flat_map f (range_with_len (a + 1) m))
    ∙ omega (arith, one a (omega arith) (omega arith), one_each f (a + 1) m (λ k low high. one k (omega arith) (omega arith)))

-- of slots that have nothing
pub none_each : (f : ℕ → List ℕ) (a m : ℕ) → ((k : ℕ) → a ≤ k → k < a + m → f k ≡ []) → flat_map f (range_with_len a m) ≡ []
none_each f a zero none = refl
none_each f a (suc m) none =
    flat_map-cons f a (range_with_len (a + 1) m) ∙ ap (λ (l : List ℕ). l ++ flat_map f (range_with_len (a + 1) m)) (none a (omega arith) (omega arith))
    ∙ none_each f (a + 1) m (λ k low high. none k (omega arith) (omega arith))

-- the range of what slots have, all of which but the last have the frame length
pub range_slots : (range : ByteRange) (frame : ℕ) (g : ℕ → List ℕ) (a m : ℕ) → ((k : ℕ) → a ≤ k → k + 1 < a + m → length (g k) ≡ frame)
    → in_range range (a * frame) (flat_map g (range_with_len a m)) ≡ flat_map (λ k. in_range range (k * frame) (g k)) (range_with_len a m)
range_slots range frame g a zero full = none_of_none range (a * frame)
range_slots range frame g a (suc zero) full =
    ap (in_range range (a * frame)) (flat_map-cons g a [] ∙ append-nil (g a)) ∙ sym (flat_map-cons (λ k. in_range range (k * frame) (g k)) a [] ∙ append-nil (in_range range (a * frame) (g a)))
range_slots range frame g a (suc (suc m)) full =
    let rest : List ℕ = flat_map g (range_with_len (a + 1) (suc m)) in
    let on : a * frame + length (g a) ≡ (a + 1) * frame = omega (arith, full a (omega arith) (omega arith)) in
    ap (in_range range (a * frame)) (flat_map-cons g a (range_with_len (a + 1) (suc m))) ∙ range_append range (a * frame) (g a) rest
    ∙ ap (λ (n : ℕ). in_range range (a * frame) (g a) ++ in_range range n rest) on
    ∙ ap (λ (l : List ℕ). in_range range (a * frame) (g a) ++ l) (range_slots range frame g (a + 1) (suc m) (λ k low high. full k (omega arith) (omega arith)))
    ∙ sym (flat_map-cons (λ k. in_range range (k * frame) (g k)) a (range_with_len (a + 1) (suc m)))
