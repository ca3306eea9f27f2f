-- What is to come of a text, over the steps of a reader of armour.
use Rattle.std.proofs.Common.{◌≡◌, ℕ, zero, suc, ◌+◌, ◌-◌, ◌^◌, ◌%◌, ◌≤◌, ◌==◌, nat_le, min, Bool, true, false, List, [], ◌∷◌, ◌++◌, length, take, drop, Option, Some, None, Ok, Err, refl, sym, subst, ap, ◌∙◌, arith, inl, inr, add-one, if◌then◌else◌}
use Rattle.std.specs.Option.{option_map}
use Rattle.std.proofs.lemmas.Bool.{cases_Bool}
use Rattle.std.proofs.lemmas.List.{append_assoc, length-append, take-append-drop}
use Rattle.std.proofs.lemmas.List.Elements.{filter-append}
use Rattle.std.proofs.Math.Seq.{take-append-add}
use Rattle.esdk_base.specs.Streams.{most_input}
use Rattle.base64.specs.GeneralPurpose.{decoded_of}
use Rattle.base64.specs.Engines.{standard}
use Rattle.esdk_fields.specs.declared.faults.Fault.TheVariants.{BadArmour}
use Rattle.armour_core.specs.declared.errors.ArmourError.{ArmourError}
use Rattle.armour_core.specs.declared.errors.ArmourError.TheVariants.{Fault, Stopped}
use Rattle.armour_core.specs.declared.text_end.TextEnd.{TextEnd}
use Rattle.armour_core.specs.declared.text_end.TextEnd.TheVariants.{Bad, TooLong}
use Rattle.armour_core.specs.declared.unarmour.Unarmour.{Unarmour}
use Rattle.armour_core.specs.Outlook.{Outlook, bad_end, end_of, holds_some, open_of, open_on, read_on, read_out, taken_front, text_outlook, with_front}
use Rattle.armour_core.specs.Unarmoured.{GroupsRead, groups_behind, characters, group_then, group_count, groups_read, is_character, padding, unarmoured}
use Rattle.armour_core.specs.Unarmouring.{UnarmouringValue, answer_where, bad_armour, bytes_with, gained, group_answer, group_stepped, text_with, used_in_piece}
use Rattle.armour_core.specs.Stands.{OpenGroup, StandsReading, open_from, open_group}
use Rattle.armour_core.proofs.Groups.{open_append, open_length, open_number, read_append, read_nil, read_no_more}
use Rattle.armour_core.proofs.Reachable.{reached, reads_there, session_at}
use Rattle.armour_core.proofs.Reading.{bad_read, gained_beyond, read}
use Rattle.armour_core.proofs.Stepping.{goes_as}

-- ---- numbers above 2^64 - 1 count as that

abbrev capped : Option ℕ → Option ℕ
capped bad = option_map (λ n. min n (2 ^ 64 - 1)) bad

record SameRead (r s : GroupsRead) : Type 0 where
  bytes : r.bytes ≡ s.bytes
  bad : capped r.bad ≡ capped s.bad

same_group_then : (a b : ℕ) (x : Option (List ℕ)) (r s : GroupsRead) → min a (2 ^ 64 - 1) ≡ min b (2 ^ 64 - 1) → SameRead r s → SameRead (group_then a x r) (group_then b x s)
same_group_then a b None r s same rest = record { bytes = refl; bad = ap (λ (n : ℕ). Some n) same }
same_group_then a b (Some bytes) r s same rest = record { bytes = ap (λ (l : List ℕ). bytes ++ l) rest.bytes; bad = rest.bad }

same_read : (a b : ℕ) (p : Bool) (cs : List ℕ) → min a (2 ^ 64 - 1) ≡ min b (2 ^ 64 - 1) → SameRead (groups_read a p cs) (groups_read b p cs)
unfolding groups_read
same_read a b true [] same = record { bytes = refl; bad = refl }
same_read a b true (x ∷ cs) same = record { bytes = refl; bad = ap (λ (n : ℕ). Some n) same }
same_read a b false [] same = record { bytes = refl; bad = refl }
same_read a b false (w ∷ []) same = record { bytes = refl; bad = refl }
same_read a b false (w ∷ x ∷ []) same = record { bytes = refl; bad = refl }
same_read a b false (w ∷ x ∷ y ∷ []) same = record { bytes = refl; bad = refl }
same_read a b false (w ∷ x ∷ y ∷ z ∷ cs) same =
    same_group_then a b (decoded_of standard (w ∷ x ∷ y ∷ z ∷ [])) _ _ same (same_read (a + 1) (b + 1) (z == padding) cs (omega (arith, same)))

same_open : (a b : ℕ) (p : Bool) (cs : List ℕ) → ((open_from a p cs).held ≡ (open_from b p cs).held) × ((open_from a p cs).padded ≡ (open_from b p cs).padded)
unfolding open_from
same_open a b p (w ∷ x ∷ y ∷ z ∷ cs) = same_open (a + 1) (b + 1) (z == padding) cs
same_open a b p [] = (refl, refl)
same_open a b p (w ∷ []) = (refl, refl)
same_open a b p (w ∷ x ∷ []) = (refl, refl)
same_open a b p (w ∷ x ∷ y ∷ []) = (refl, refl)

same_end : (x y : Option ℕ) (long s t : Bool) (m n : ℕ) → capped x ≡ capped y → s ≡ t → min m (2 ^ 64 - 1) ≡ min n (2 ^ 64 - 1) → end_of x long s m ≡ end_of y long t n
same_end None None true s t m n bad short same = refl
same_end None None false true true m n bad short same = ap (λ (k : ℕ). let e : TextEnd = Bad k in e) same
same_end None None false true false m n bad short same = cc short
same_end None None false false true m n bad short same = cc short
same_end None None false false false m n bad short same = refl
same_end None (Some y) long s t m n bad short same = cc bad
same_end (Some x) None long s t m n bad short same = cc bad
same_end (Some x) (Some y) long s t m n bad short same = let is : min x (2 ^ 64 - 1) ≡ min y (2 ^ 64 - 1) = cc bad in ap (λ (k : ℕ). let e : TextEnd = Bad k in e) is

-- open groups that differ in such numbers alone
pub record SameGroup (o q : OpenGroup) : Type 0 where
  pub number : min o.number (2 ^ 64 - 1) ≡ min q.number (2 ^ 64 - 1)
  pub padded : o.padded ≡ q.padded
  pub held : o.held ≡ q.held

pub same_outlook : (o q : OpenGroup) (text : List ℕ) (long : Bool) → SameGroup o q → read_out o text long ≡ read_out q text long
unfolding read_out
same_outlook o q text long same =
    let cs : List ℕ = q.held ++ characters text in
    let here : o ≡ record { number = o.number; padded = q.padded; held = q.held } =
    ap (λ (p : Bool). let g : OpenGroup = record { number = o.number; padded = p; held = o.held } in g) same.padded ∙ ap (λ (h : List ℕ). let g : OpenGroup = record { number = o.number; padded = q.padded; held = h } in g) same.held in
    let r = same_read o.number q.number q.padded cs same.number in
    let g = same_open o.number q.number q.padded cs in
    let count = open_number o.number q.padded cs in
    let count_too = open_number q.number q.padded cs in
    let end = same_end (groups_read o.number q.padded cs).bad (groups_read q.number q.padded cs).bad long (holds_some (open_from o.number q.padded cs)) (holds_some (open_from q.number q.padded cs))
    (open_from o.number q.padded cs).number (open_from q.number q.padded cs).number r.bad (ap (λ (h : List ℕ). if length h == 0 then false else true) g.0) (omega (arith, count, count_too, same.number)) in
    ap (λ (x : OpenGroup). let l : Outlook = record { bytes = (read_on x (characters text)).bytes; end = end_of (read_on x (characters text)).bad long (holds_some (open_on x (characters text))) (open_on x (characters text)).number } in l) here
    ∙ ap (λ (b : List ℕ). let l : Outlook = record { bytes = b; end = end_of (groups_read o.number q.padded cs).bad long (holds_some (open_from o.number q.padded cs)) (open_from o.number q.padded cs).number } in l) r.bytes
    ∙ ap (λ (e : TextEnd). let l : Outlook = record { bytes = (groups_read q.number q.padded cs).bytes; end = e } in l) end

-- ---- text that is taken

-- behind sound groups
pub outlook_behind : (o : OpenGroup) (text more : List ℕ) (long : Bool) → (read_on o (characters text)).bad ≡ None
    → read_out o (text ++ more) long ≡ with_front (read_on o (characters text)).bytes (read_out (open_on o (characters text)) more long)
unfolding read_out
outlook_behind o text more long sound =
    let cs : List ℕ = o.held ++ characters text in
    let all : o.held ++ characters (text ++ more) ≡ cs ++ characters more = ap (λ (x : List ℕ). o.held ++ x) (filter-append is_character text more) ∙ sym (append_assoc o.held (characters text) (characters more)) in
    let r = ap (groups_read o.number o.padded) all ∙ read_append o.number o.padded cs (characters more) sound in
    let g = ap (open_from o.number o.padded) all ∙ open_append o.number o.padded cs (characters more) in
    ap (λ (x : GroupsRead). let l : Outlook = record { bytes = x.bytes; end = end_of x.bad long (holds_some (open_on o (characters (text ++ more)))) (open_on o (characters (text ++ more))).number } in l) r
    ∙ ap (λ (x : OpenGroup). let l : Outlook = record {
      bytes = (read_on o (characters text)).bytes ++ (read_on (open_on o (characters text)) (characters more)).bytes;
      end = end_of (read_on (open_on o (characters text)) (characters more)).bad long (holds_some x) x.number;
    } in l) g

-- behind a bad one
outlook_bad : (o : OpenGroup) (text more : List ℕ) (long : Bool) (number : ℕ) → (read_on o (characters text)).bad ≡ Some number
    → read_out o (text ++ more) long ≡ record { bytes = (read_on o (characters text)).bytes; end = bad_end number }
unfolding read_out
outlook_bad o text more long number bad =
    let cs : List ℕ = o.held ++ characters text in
    let all : o.held ++ characters (text ++ more) ≡ cs ++ characters more = ap (λ (x : List ℕ). o.held ++ x) (filter-append is_character text more) ∙ sym (append_assoc o.held (characters text) (characters more)) in
    let r = ap (groups_read o.number o.padded) all ∙ read_no_more o.number number o.padded cs (characters more) bad in
    ap (λ (x : GroupsRead). let l : Outlook = record { bytes = x.bytes; end = end_of x.bad long (holds_some (open_on o (characters (text ++ more)))) (open_on o (characters (text ++ more))).number } in l) r
    ∙ ap (λ (x : Option ℕ). let l : Outlook = record { bytes = (read_on o (characters text)).bytes; end = end_of x long (holds_some (open_on o (characters (text ++ more)))) (open_on o (characters (text ++ more))).number } in l) bad

-- ---- a step

answer_ok : (v : UnarmouringValue) (piece : List ℕ) (used : ℕ) → v.stopped ≡ false → Ok used ≡ group_answer v piece → (used_in_piece v piece ≡ used) × ((unarmoured (text_with v piece)).bad ≡ None)
unfolding group_answer
answer_ok v piece used goes is =
    where_ok (unarmoured (text_with v piece)).bad (used_in_piece v piece) used (sym (is ∙ ap (λ (b : Bool). if b then Err Stopped else answer_where (unarmoured (text_with v piece)).bad (used_in_piece v piece)) goes))
  where
    where_ok : (bad : Option ℕ) (count used : ℕ) → answer_where bad count ≡ Ok used → (count ≡ used) × (bad ≡ None)
    where_ok None count used h = (cc h, refl)
    where_ok (Some n) count used h = cc h

-- The error names a bad group.
pub record BadThere (v : UnarmouringValue) (piece : List ℕ) (error : ArmourError) : Type 0 where
  pub number : ℕ
  pub bad : (unarmoured (text_with v piece)).bad ≡ Some number
  pub is : error ≡ bad_armour number

pub answer_err : (v : UnarmouringValue) (piece : List ℕ) (error : ArmourError) → v.stopped ≡ false → Err error ≡ group_answer v piece → BadThere v piece error
unfolding group_answer
answer_err v piece error goes is =
    where_err (unarmoured (text_with v piece)).bad refl (sym (is ∙ ap (λ (b : Bool). if b then Err Stopped else answer_where (unarmoured (text_with v piece)).bad (used_in_piece v piece)) goes))
  where
    where_err : (bad : Option ℕ) → (unarmoured (text_with v piece)).bad ≡ bad → answer_where bad (used_in_piece v piece) ≡ Err error → BadThere v piece error
    where_err None is h = cc h
    where_err (Some n) is h = record { number = n; bad = is; is = cc h }

-- what the open group of a session reads
read_there : (v : UnarmouringValue) (t : List ℕ) → (unarmoured v.taken).bad ≡ None → read (v.taken ++ t) ≡ groups_behind (read v.taken).bytes (read_on (open_group v.taken) (characters t))
read_there v t sound = ap (groups_read 1 false) (filter-append is_character v.taken t) ∙ read_append 1 false (characters v.taken) (characters t) (sym (bad_read v.taken) ∙ sound)

open_there : (v : UnarmouringValue) (t : List ℕ) → open_group (v.taken ++ t) ≡ open_on (open_group v.taken) (characters t)
open_there v t = ap (open_from 1 false) (filter-append is_character v.taken t) ∙ open_append 1 false (characters v.taken) (characters t)

pub step_outlook : (u new : Unarmour) (piece more : List ℕ) (used : ℕ) (long : Bool) → u.stopped ≡ false → ((v : UnarmouringValue) → StandsReading u v → Ok used ≡ group_answer v piece)
    → ((v : UnarmouringValue) → StandsReading u v → StandsReading new (group_stepped v piece)) → (read_out (open_of u) (take used piece ++ more) long ≡ with_front (take new.given new.bytes) (read_out (open_of new) more long)) × (new.stopped ≡ false)
unfolding session_at
step_outlook u new piece more used long goes answer stands =
    let v : UnarmouringValue = session_at u in
    let at = reads_there u in
    let there = reached u in
    let t : List ℕ = take used piece in
    let o : OpenGroup = open_of u in
    let ok = answer_ok v piece used goes (answer v at) in
    let text : text_with v piece ≡ v.taken ++ t = ap (λ (n : ℕ). v.taken ++ take n piece) ok.0 in
    let sound : (unarmoured (v.taken ++ t)).bad ≡ None = ap (λ (x : List ℕ). (unarmoured x).bad) (sym text) ∙ ok.1 in
    let w : UnarmouringValue = record { taken = v.taken ++ t; stopped = false; out = gained v.taken (v.taken ++ t) } in
    let reads : StandsReading new w = subst (StandsReading new) (goes_as v piece used goes ok.0 sound).1 (stands v at) in
    let holds = reads.group refl in
    let reading : read (v.taken ++ t) ≡ groups_behind (read v.taken).bytes (read_on o (characters t)) = read_there v t there.sound ∙ ap (λ (g : OpenGroup). groups_behind (read v.taken).bytes (read_on g (characters t))) there.opens in
    let here : (read_on o (characters t)).bad ≡ None = sym (ap (λ (r : GroupsRead). r.bad) reading) ∙ sym (bad_read (v.taken ++ t)) ∙ sound in
    let out : take new.given new.bytes ≡ (read_on o (characters t)).bytes = reads.out ∙ gained_beyond v.taken (v.taken ++ t) (read_on o (characters t)).bytes (ap (λ (r : GroupsRead). r.bytes) reading) in
    let after : open_group (v.taken ++ t) ≡ open_on o (characters t) = open_there v t ∙ ap (λ (g : OpenGroup). open_on g (characters t)) there.opens in
    let same : SameGroup (open_on o (characters t)) (open_of new) = record {
      number = let n = ap (λ (g : OpenGroup). g.number) after in omega (arith, holds.number, n);
      padded = sym (ap (λ (g : OpenGroup). g.padded) after) ∙ sym holds.padded;
      held = sym (ap (λ (g : OpenGroup). g.held) after) ∙ sym holds.held;
    } in (
      outlook_behind o t more long here ∙ ap (λ (l : Outlook). with_front (read_on o (characters t)).bytes l) (same_outlook (open_on o (characters t)) (open_of new) more long same)
          ∙ ap (λ (b : List ℕ). with_front b (read_out (open_of new) more long)) (sym out),
      reads.stopped,
    )

-- up to the end of a group, a bad one comes first
few_bad : (n k : ℕ) (p : Bool) (cs : List ℕ) → length cs ≤ 4 → (groups_read n p cs).bad ≡ Some k → (groups_read n p cs).bytes ≡ []
unfolding groups_read
few_bad n k true [] few bad = refl
few_bad n k true (a ∷ cs) few bad = refl
few_bad n k false [] few bad = refl
few_bad n k false (a ∷ []) few bad = refl
few_bad n k false (a ∷ b ∷ []) few bad = refl
few_bad n k false (a ∷ b ∷ c ∷ []) few bad = refl
few_bad n k false (a ∷ b ∷ c ∷ d ∷ []) few bad = in_group (decoded_of standard (a ∷ b ∷ c ∷ d ∷ [])) (groups_read (n + 1) (d == padding) []) (ap (λ (r : GroupsRead). r.bad) (read_nil (n + 1) (d == padding))) bad
  where
    in_group : (x : Option (List ℕ)) (r : GroupsRead) → r.bad ≡ None → (group_then n x r).bad ≡ Some k → (group_then n x r).bytes ≡ []
    in_group None r none bad = refl
    in_group (Some bytes) r none bad = let e = sym none ∙ bad in cc e
few_bad n k false (a ∷ b ∷ c ∷ d ∷ e ∷ cs) few bad = absurd (omega (arith, few))

-- a byte more of a piece
with_head : (x k : ℕ) (piece : List ℕ) (b : Bool) → is_character x ≡ b → length (characters (take (k + 1) (x ∷ piece))) ≡ (if b then 1 else 0) + length (characters (take k piece))
with_head x k piece b is =
    let rest : List ℕ = characters (take k piece) in
    ap (λ (n : ℕ). length (characters (take n (x ∷ piece)))) (add-one k) ∙ ap (λ (t : Bool). length (if t then x ∷ rest else rest)) is ∙ by_test b
  where
    by_test : (b : Bool) → length (if b then x ∷ characters (take k piece) else characters (take k piece)) ≡ (if b then 1 else 0) + length (characters (take k piece))
    by_test true = omega arith
    by_test false = omega arith

few_with : (piece : List ℕ) (count : ℕ) → length (characters (take (bytes_with piece count) piece)) ≤ count
unfolding bytes_with
few_with [] zero = omega arith
few_with [] (suc n) = omega arith
few_with (x ∷ piece) zero = omega arith
few_with (x ∷ piece) (suc n) =
    let one = few_with piece n in
    let none = few_with piece (suc n) in
    elim (cases_Bool (is_character x)) [
      | inl taken ↦
          let k : ℕ = bytes_with piece n in
          let is : length (characters (take (bytes_with piece (if is_character x then n else suc n) + 1) (x ∷ piece))) ≡ 1 + length (characters (take k piece)) =
          ap (λ (b : Bool). length (characters (take (bytes_with piece (if b then n else suc n) + 1) (x ∷ piece)))) taken ∙ with_head x k piece true taken in
          omega (arith, is, one)
      | inr passed ↦
          let k : ℕ = bytes_with piece (suc n) in
          let is : length (characters (take (bytes_with piece (if is_character x then n else suc n) + 1) (x ∷ piece))) ≡ 0 + length (characters (take k piece)) =
          ap (λ (b : Bool). length (characters (take (bytes_with piece (if b then n else suc n) + 1) (x ∷ piece)))) passed ∙ with_head x k piece false passed in
          omega (arith, is, none)
    ]

pub step_bad : (u : Unarmour) (piece more : List ℕ) (long : Bool) (error : ArmourError) (number : ℕ) → u.stopped ≡ false → ((v : UnarmouringValue) → StandsReading u v → Err error ≡ group_answer v piece)
    → error ≡ Fault (BadArmour number) → read_out (open_of u) (piece ++ more) long ≡ record { bytes = []; end = Bad number }
unfolding session_at
step_bad u piece more long error number goes answer is =
    let v : UnarmouringValue = session_at u in
    let there = reached u in
    let o : OpenGroup = open_of u in
    let bad = answer_err v piece error goes (answer v (reads_there u)) in
    let t : List ℕ = take (used_in_piece v piece) piece in
    let reading : read (v.taken ++ t) ≡ groups_behind (read v.taken).bytes (read_on o (characters t)) = read_there v t there.sound ∙ ap (λ (g : OpenGroup). groups_behind (read v.taken).bytes (read_on g (characters t))) there.opens in
    let here : (read_on o (characters t)).bad ≡ Some bad.number = sym (ap (λ (r : GroupsRead). r.bad) reading) ∙ sym (bad_read (v.taken ++ t)) ∙ bad.bad in
    let held : length o.held ≡ length (characters v.taken) % 4 = ap (λ (g : OpenGroup). length g.held) (sym there.opens) ∙ open_length 1 false (characters v.taken) in
    let few = few_with piece (4 - length (characters v.taken) % 4) in
    let short : length (o.held ++ characters t) ≤ 4 = omega (arith, held, few, length-append o.held (characters t)) in
    let none = few_bad o.number bad.number o.padded (o.held ++ characters t) short here in
    let all : piece ++ more ≡ t ++ (drop (used_in_piece v piece) piece ++ more) = ap (λ (x : List ℕ). x ++ more) (sym (take-append-drop (used_in_piece v piece) piece)) ∙ append_assoc t (drop (used_in_piece v piece) piece) more in
    let same : bad_end bad.number ≡ Bad number = let e = sym bad.is ∙ is in let n : min bad.number (2 ^ 64 - 1) ≡ number = cc e in ap (λ (k : ℕ). let x : TextEnd = Bad k in x) n in
    ap (λ (x : List ℕ). read_out o x long) all ∙ outlook_bad o t (drop (used_in_piece v piece) piece ++ more) long bad.number here
    ∙ ap (λ (b : List ℕ). let l : Outlook = record { bytes = b; end = bad_end bad.number } in l) none ∙ ap (λ (e : TextEnd). let l : Outlook = record { bytes = []; end = e } in l) same

-- ---- a whole text

-- with no bad group, where more makes it too long
pub good_text : (text more : List ℕ) → length text ≤ 2 ^ 62 → (text_outlook (text ++ more)).end ≡ TooLong → (unarmoured text).bad ≡ None
unfolding text_outlook
good_text text more few long = by_bad (unarmoured text).bad refl
  where
    rest : List ℕ
    rest = take (most_input - length text) more

    front : taken_front (text ++ more) ≡ text ++ rest
    front =
        let size : most_input ≡ length text + (most_input - length text) = omega (arith, few) in
        ap (λ (n : ℕ). take n (text ++ more)) size ∙ take-append-add text more (most_input - length text)

    by_bad : (bad : Option ℕ) → (unarmoured text).bad ≡ bad → bad ≡ None
    by_bad None is = refl
    by_bad (Some number) is =
        let same : read (text ++ rest) ≡ read text = ap (groups_read 1 false) (filter-append is_character text rest) ∙ read_no_more 1 number false (characters text) (characters rest) (sym (bad_read text) ∙ is) in
        let bad : (unarmoured (taken_front (text ++ more))).bad ≡ Some number = ap (λ (t : List ℕ). (unarmoured t).bad) front ∙ bad_read (text ++ rest) ∙ ap (λ (r : GroupsRead). r.bad) same ∙ sym (bad_read text) ∙ is in
        let whole : List ℕ = taken_front (text ++ more) in
        let end : end_of (Some number) (nat_le most_input (length (text ++ more))) (unarmoured whole).short (group_count whole) ≡ TooLong =
        sym (ap (λ (b : Option ℕ). end_of b (nat_le most_input (length (text ++ more))) (unarmoured whole).short (group_count whole)) bad) ∙ long in
        cc end
