-- Groups of a text that are read at once, and line breaks that are passed over.
use Rattle.std.proofs.Common.{◌≡◌, ℕ, ◌+◌, ◌-◌, ◌*◌, ◌/◌, ◌%◌, ◌^◌, ◌<◌, nat_le, min, Bool, false, List, [], ◌∷◌, ◌++◌, length, take, drop, slice_index, Option, Some, None, refl, sym, ap, ◌∙◌, arith, if◌then◌else◌}
use Rattle.std.proofs.lemmas.List.{append_assoc, drop-drop, drop_more, take-append-drop}
use Rattle.esdk_base.specs.Streams.{most_input}
use Rattle.base64.specs.GeneralPurpose.{IsBytes}
use Rattle.armour_core.specs.declared.reader.ArmourReader.{ArmourReader}
use Rattle.armour_core.specs.declared.text_end.TextEnd.{TextEnd}
use Rattle.armour_core.specs.declared.unarmour.Unarmour.{Unarmour}
use Rattle.armour_core.specs.GroupState.{IsGroupState}
use Rattle.armour_core.specs.Outlook.{Outlook, end_of, holds_some, open_of, read_out, with_front}
use Rattle.armour_core.specs.ReaderOutlook.{coming, pending, reader_outlook, text_room, unread}
use Rattle.armour_core.specs.Sextets.{symbols_in}
use Rattle.armour_core.specs.Stands.{OpenGroup}
use Rattle.armour_core.specs.Unarmoured.{GroupsRead, characters, is_character}
use Rattle.armour_core.proofs.Groups.{open_on, read_on}
use Rattle.armour_core.proofs.Outlooks.{SameGroup, outlook_behind, same_outlook}
use Rattle.armour_core.proofs.Whole.{groups_in, kept_in, open_in}

-- ---- line breaks

alike : (o : OpenGroup) (a b : List ℕ) (long : Bool) → characters a ≡ characters b → read_out o a long ≡ read_out o b long
unfolding read_out
alike o a b long same =
    ap (λ (cs : List ℕ). let l : Outlook = record { bytes = (read_on o cs).bytes; end = end_of (read_on o cs).bad long (holds_some (open_on o cs)) (open_on o cs).number } in l) same

passed : (byte : ℕ) (rest : List ℕ) → is_character byte ≡ false → characters (byte ∷ rest) ≡ characters rest
passed byte rest is = ap (λ (b : Bool). if b then byte ∷ characters rest else characters rest) is

pub break_passed : (r new : ArmourReader) (text : List ℕ) → r.at < length r.pieces.piece → is_character (slice_index r.pieces.piece r.at) ≡ false
    → new.pieces ≡ r.pieces → new.at ≡ r.at + 1 → new.unarmour ≡ r.unarmour → new.handed ≡ r.handed → new.ending ≡ r.ending → reader_outlook new text ≡ reader_outlook r text
unfolding reader_outlook
break_passed r new text within is pieces at unarmour handed ending =
    let pend : pending new ≡ pending r = ap (λ (n : ℕ). drop n (take new.unarmour.given new.unarmour.bytes)) handed ∙ ap (λ (u : Unarmour). drop r.handed (take u.given u.bytes)) unarmour in
    ap (λ (b : List ℕ). with_front b (coming new.ending new text)) pend ∙ ap (λ (e : Option TextEnd). with_front (pending r) (coming e new text)) ending ∙ ap (with_front (pending r)) (same_coming r.ending)
  where
    byte : ℕ
    byte = slice_index r.pieces.piece r.at

    same_coming : (e : Option TextEnd) → coming e new text ≡ coming e r text
    same_coming (Some end) = refl
    same_coming None =
        let T : List ℕ = take (text_room r) text in
        let long : Bool = nat_le (text_room r) (length text) in
        let left : unread r ≡ slice_index r.pieces.piece r.at ∷ drop (r.at + 1) r.pieces.piece = drop_more r.pieces.piece r.at 0 within in
        ap (λ (u : Unarmour). read_out (open_of u) (unread new ++ take (text_room new) text) (nat_le (text_room new) (length text))) unarmour
        ∙ ap (λ (n : ℕ). read_out (open_of r.unarmour) (drop n new.pieces.piece ++ take (text_room new) text) (nat_le (text_room new) (length text))) at
        ∙ ap (λ p. read_out (open_of r.unarmour) (drop (r.at + 1) p.piece ++ take (most_input - p.taken) text) (nat_le (most_input - p.taken) (length text))) pieces
        ∙ sym (alike (open_of r.unarmour) (slice_index r.pieces.piece r.at ∷ (drop (r.at + 1) r.pieces.piece ++ T)) (drop (r.at + 1) r.pieces.piece ++ T) long
        (passed (slice_index r.pieces.piece r.at) (drop (r.at + 1) r.pieces.piece ++ T) is))
        ∙ ap (λ (x : List ℕ). read_out (open_of r.unarmour) (x ++ T) long) (sym left)

-- ---- groups

-- groups that were counted
pub groups_passed : (group : List ℕ) (held number count : ℕ) (padded : Bool) → IsGroupState group held number padded → padded ≡ false → IsGroupState group held (min (number + count) (2 ^ 64 - 1)) padded
groups_passed group held number count padded state off = record {
  size = state.size;
  few = state.few;
  numbered = omega (arith, state.numbered);
  fits = omega arith;
  even = state.even;
  later = λ on. let e = sym off ∙ on in cc e;
  kept = state.kept;
}

-- So many groups were counted, and nothing else changed.
pub record PassedGroups (count : ℕ) (u new : Unarmour) : Type 0 where
  pub number : new.number ≡ min (u.number + count) (2 ^ 64 - 1)
  pub group : (new.group ≡ u.group) × (new.held ≡ u.held) × (new.padded ≡ u.padded)
  pub given : (new.bytes ≡ u.bytes) × (new.given ≡ u.given)

groups_outlook : (u new : Unarmour) (count : ℕ) (bytes more : List ℕ) (long : Bool) → IsBytes bytes → length bytes ≡ 3 * count → u.held ≡ 0 → u.padded ≡ false → PassedGroups count u new
    → read_out (open_of u) (symbols_in bytes ++ more) long ≡ with_front bytes (read_out (open_of new) more long)
groups_outlook u new count bytes more long are full held padded passed =
    let whole : length bytes % 3 ≡ 0 = omega (arith, full) in
    let text : List ℕ = symbols_in bytes in
    let q : OpenGroup = record { number = u.number; padded = false; held = [] } in
    let is : open_of u ≡ q =
    ap (λ (n : ℕ). let o : OpenGroup = record { number = u.number; padded = u.padded; held = take n u.group } in o) held
    ∙ ap (λ (p : Bool). let o : OpenGroup = record { number = u.number; padded = p; held = [] } in o) padded in
    let kept : characters text ≡ text = kept_in bytes whole in
    let reads : read_on q (characters text) ≡ record { bytes = bytes; bad = None } = ap (read_on q) kept ∙ groups_in u.number bytes whole are in
    let opens : open_on q (characters text) ≡ record { number = u.number + length bytes / 3; padded = false; held = [] } = ap (open_on q) kept ∙ open_in u.number bytes whole in
    let same : SameGroup (open_on q (characters text)) (open_of new) = record {
      number = let n = ap (λ (o : OpenGroup). o.number) opens in omega (arith, n, passed.number, full);
      padded = ap (λ (o : OpenGroup). o.padded) opens ∙ sym (passed.group.2 ∙ padded);
      held = ap (λ (o : OpenGroup). o.held) opens ∙ sym (ap (λ (n : ℕ). take n new.group) (passed.group.1 ∙ held));
    } in
    ap (λ (o : OpenGroup). read_out o (text ++ more) long) is
    ∙ outlook_behind q text more long (ap (λ (r : GroupsRead). r.bad) reads)
    ∙ ap (λ (r : GroupsRead). with_front r.bytes (read_out (open_on q (characters text)) more long)) reads
    ∙ ap (with_front bytes) (same_outlook (open_on q (characters text)) (open_of new) more long same)

goes_outlook : (r : ArmourReader) (text : List ℕ) → pending r ≡ [] → r.ending ≡ None → reader_outlook r text ≡ coming None r text
unfolding reader_outlook
goes_outlook r text handed goes = ap (λ (b : List ℕ). with_front b (coming r.ending r text)) handed ∙ ap (λ (e : Option TextEnd). coming e r text) goes

-- groups of the last piece
pub groups_read_at : (r new : ArmourReader) (count : ℕ) (bytes text : List ℕ) → pending r ≡ [] → r.ending ≡ None → r.unarmour.held ≡ 0 → r.unarmour.padded ≡ false
    → symbols_in bytes ≡ take (4 * count) (unread r) → IsBytes bytes → length bytes ≡ 3 * count
    → new.pieces ≡ r.pieces → new.at ≡ r.at + 4 * count → new.handed ≡ r.handed → new.ending ≡ r.ending → PassedGroups count r.unarmour new.unarmour
    → reader_outlook r text ≡ with_front bytes (reader_outlook new text)
groups_read_at r new count bytes text handed goes held padded good are full pieces at same_handed ending passed =
    let n : ℕ = 4 * count in
    let T : List ℕ = take (text_room r) text in
    let long : Bool = nat_le (text_room r) (length text) in
    let none : pending new ≡ [] =
    ap (λ (k : ℕ). drop k (take new.unarmour.given new.unarmour.bytes)) same_handed ∙ ap (λ (k : ℕ). drop r.handed (take k new.unarmour.bytes)) passed.given.1
    ∙ ap (λ (b : List ℕ). drop r.handed (take r.unarmour.given b)) passed.given.0 ∙ handed in
    let left : unread new ≡ drop n (unread r) = ap (λ (k : ℕ). drop k new.pieces.piece) at ∙ ap (λ p. drop (r.at + n) p.piece) pieces ∙ sym (drop-drop n r.at r.pieces.piece) in
    let cut : unread r ++ T ≡ symbols_in bytes ++ (unread new ++ T) =
    ap (λ (x : List ℕ). x ++ T) (sym (take-append-drop n (unread r))) ∙ append_assoc (take n (unread r)) (drop n (unread r)) T
    ∙ ap (λ (x : List ℕ). x ++ (drop n (unread r) ++ T)) (sym good) ∙ ap (λ (x : List ℕ). symbols_in bytes ++ (x ++ T)) (sym left) in
    goes_outlook r text handed goes ∙ ap (λ (x : List ℕ). read_out (open_of r.unarmour) x long) cut
    ∙ groups_outlook r.unarmour new.unarmour count bytes (unread new ++ T) long are full held padded passed
    ∙ ap (λ p. with_front bytes (read_out (open_of new.unarmour) (unread new ++ take (most_input - p.taken) text) (nat_le (most_input - p.taken) (length text)))) (sym pieces)
    ∙ ap (with_front bytes) (sym (goes_outlook new text none (ending ∙ goes)))
