-- A body that was written is whole, and its units are the pieces of the text.
use Rattle.std.proofs.Common.{◌≡◌, ℕ, zero, suc, ◌+◌, ◌-◌, ◌*◌, ◌^◌, ◌<◌, ◌≤◌, false, List, [], ◌∷◌, ◌++◌, length, take, drop, refl, sym, ap, ◌∙◌, append_assoc, Option, arith}
use Rattle.std.specs.List.{concat, flat_map}
use Rattle.std.proofs.lemmas.List.{append-nil, length-append, length-drop, length-take, take_all}
use Rattle.std.proofs.Math.Seq.{take-add}
use Rattle.std.proofs.lemmas.Grind.{flat_map-append}
use Rattle.std.proofs.lemmas.List.FromFn.{map-range_with_len_more}
use Rattle.std.proofs.lemmas.List.Concat.{concat_is, flat_map-cons}
use Rattle.esdk_fields.specs.Place.{Place}
use Rattle.esdk_fields.specs.Reading.{Reading, Read}
use Rattle.esdk_fields.specs.Limits.{is_over}
use Rattle.frame_codec.specs.UnitHead.{longest_block}
use Rattle.frame_codec.specs.Unit.{Piece, Last, Under, frame, block_unit}
use Rattle.frame_codec.specs.Written.{final_frame, single_block}
use Rattle.frame_codec.proofs.WrittenAgain.{final_frame_again, single_block_again, length-final_frame}
use Rattle.body_format.specs.Rows.{slot, is_more, released, behind_last, verdict_of, judged_at, judged_units, IsRow}
use Rattle.body_format.specs.Body.{beside_content}
use Rattle.body_format.specs.Written.{frame_count, piece, pieces, regular_frames, framed_body, IsFramed, AreFull}
use Rattle.body_format.proofs.Slots.{first_is}
use Rattle.body_format.proofs.RowLaws.{same_judged, judged_is}
use Rattle.body_format.proofs.FrameCounts.{count_is, count_few, last_piece, one_more}
use Rattle.body_format.proofs.WrittenRows.{length-regular_frames, behind_frames, judged_behind}

-- ---- the pieces

-- one piece more
pub pieces_more : (frame : ℕ) (text : List ℕ) (m : ℕ) → pieces frame text (m + 1) ≡ pieces frame text m ++ piece frame text m ∷ []
pieces_more frame text m = map-range_with_len_more (piece frame text) 0 m m (omega arith)

-- joined, the first of them are the front of the text
pub joined_pieces : (frame : ℕ) (text : List ℕ) (m : ℕ) → flat_map (λ x. x) (pieces frame text m) ≡ take (m * frame) text
joined_pieces frame text zero = let e : 0 * frame ≡ 0 = omega arith in rw e refl
joined_pieces frame text (suc m) =
    let n : suc m ≡ m + 1 = omega arith in
    let size : (m + 1) * frame ≡ m * frame + frame = omega arith in
    ap (λ (k : ℕ). flat_map (λ x. x) (pieces frame text k)) n
    ∙ ap (flat_map (λ (x : List ℕ). x)) (pieces_more frame text m)
    ∙ flat_map-append (λ (x : List ℕ). x) (pieces frame text m) (piece frame text m ∷ [])
    ∙ ap (λ (l : List ℕ). l ++ flat_map (λ x. x) (piece frame text m ∷ [])) (joined_pieces frame text m)
    ∙ ap (λ (l : List ℕ). take (m * frame) text ++ l) (flat_map-cons (λ (x : List ℕ). x) (piece frame text m) [] ∙ append-nil (piece frame text m))
    ∙ sym (take-add (m * frame) frame text)
    ∙ ap (λ (k : ℕ). take k text) (sym size ∙ ap (λ (k : ℕ). k * frame) (sym n))

-- and all of them the text
pub joined_all : (frame : ℕ) (text : List ℕ) → 1 ≤ frame → flat_map (λ x. x) (pieces frame text (frame_count (length text) frame)) ≡ text
joined_all frame text h =
    let is = count_is (length text) frame h in
    let product : frame_count (length text) frame * frame ≡ (frame_count (length text) frame - 1) * frame + frame = one_more (frame_count (length text) frame) frame is.some in
    joined_pieces frame text (frame_count (length text) frame) ∙ take_all (frame_count (length text) frame * frame) text (omega (arith, is.all))

pub concat_all : (frame : ℕ) (text : List ℕ) → 1 ≤ frame → concat (pieces frame text (frame_count (length text) frame)) ≡ text
concat_all frame text h = concat_is (pieces frame text (frame_count (length text) frame)) ∙ joined_all frame text h

-- ---- frames

-- all frames of a text but the last are full
pub all_full : (frame_length : ℕ) (text : List ℕ) → IsFramed frame_length text → AreFull frame_length text (frame_count (length text) frame_length - 1)
all_full frame_length text framed =
    let is = count_is (length text) frame_length framed.some in
    let few = count_few frame_length text framed in
    let some = is.some in
    record { full = is.full; few = omega arith }

-- the final frame is read, whatever follows it
pub final_slot : (frame_length : ℕ) (u : Under) (text more : List ℕ) (at : ℕ) → IsFramed frame_length text
    → frame frame_length u (frame_count (length text) frame_length - 1) (record { at = at; left = final_frame u (frame_count (length text) frame_length) (drop ((frame_count (length text) frame_length - 1) * frame_length) text) ++ more })
    ≡ Read (Last (piece frame_length text (frame_count (length text) frame_length - 1))) (record { at = at + (length (piece frame_length text (frame_count (length text) frame_length - 1)) + 40); left = more })
final_slot frame_length u text more at framed =
    let count : ℕ = frame_count (length text) frame_length in
    let is = count_is (length text) frame_length framed.some in
    let few : count ≤ 2 ^ 32 - 1 = count_few frame_length text framed in
    let some : 1 ≤ count = is.some in
    let narrow : frame_length < 2 ^ 32 = framed.narrow in
    let number : count ≡ (count - 1) + 1 = omega arith in
    let rest : piece frame_length text (count - 1) ≡ drop ((count - 1) * frame_length) text = last_piece frame_length text (count - 1) is.all in
    let short : length (piece frame_length text (count - 1)) ≤ frame_length = omega (arith, length-take frame_length (drop ((count - 1) * frame_length) text)) in
    ap (λ (n : ℕ). frame frame_length u (count - 1) (record { at = at; left = final_frame u n (drop ((count - 1) * frame_length) text) ++ more })) number
    ∙ ap (λ (l : List ℕ). frame frame_length u (count - 1) (record { at = at; left = final_frame u ((count - 1) + 1) l ++ more })) (sym rest)
    ∙ final_frame_again frame_length u (count - 1) (piece frame_length text (count - 1)) more at (omega arith) short (omega arith)

-- What is written is read back: the pieces of the text, and the verdict over what follows.
pub framed_then : (frame_length : ℕ) (u : Under) (text more : List ℕ) (at : ℕ) → IsRow (frame_length + beside_content) (frame frame_length u) → IsFramed frame_length text
    → judged_units (frame_length + beside_content) (frame frame_length u) (record { at = at; left = framed_body frame_length u text ++ more })
    ≡ record { units = pieces frame_length text (frame_count (length text) frame_length); verdict = behind_last more }
unfolding framed_body
framed_then frame_length u text more at row framed =
    let count : ℕ = frame_count (length text) frame_length in
    let m : ℕ = count - 1 in
    let last : List ℕ = final_frame u count (drop (m * frame_length) text) ++ more in
    let full = all_full frame_length text framed in
    let some : 1 ≤ count = (count_is (length text) frame_length framed.some).some in
    let here = final_slot frame_length u text more (at + m * (frame_length + beside_content)) framed in
    let judged = judged_behind frame_length u text m last at row full (ap is_more here) in
    let grouped : (regular_frames frame_length u text m ++ final_frame u count (drop (m * frame_length) text)) ++ more ≡ regular_frames frame_length u text m ++ last = append_assoc (regular_frames frame_length u text m) (final_frame u count (drop (m * frame_length) text)) more in
    let number : m + 1 ≡ count = omega arith in
    ap (λ (l : List ℕ). judged_units (frame_length + beside_content) (frame frame_length u) (record { at = at; left = l })) grouped
    ∙ same_judged (judged_units (frame_length + beside_content) (frame frame_length u) (behind_frames frame_length u text m last at)) (record { units = pieces frame_length text count; verdict = behind_last more })
    (judged.units ∙ ap (λ (r : Reading Piece). pieces frame_length text m ++ released r) here ∙ sym (pieces_more frame_length text m) ∙ ap (pieces frame_length text) number)
    (judged.verdict ∙ ap verdict_of here)

-- ---- the single block

pub block_then : (max_unit : Option ℕ) (key id iv text more : List ℕ) (at : ℕ) → IsRow 1 (λ k. block_unit max_unit key id) → length iv ≡ 12 → length text ≤ longest_block → is_over max_unit (length text) ≡ false
    → judged_units 1 (λ k. block_unit max_unit key id) (record { at = at; left = single_block key id iv text ++ more })
    ≡ record { units = text ∷ []; verdict = behind_last more }
block_then max_unit key id iv text more at row len within limit =
    let p : Place = record { at = at; left = single_block key id iv text ++ more } in
    let zero_on : at + 0 * 1 ≡ at = omega arith in
    let here : slot 1 (λ k. block_unit max_unit key id) p 0 ≡ Read (Last text) (record { at = at + (length text + 36); left = more }) =
    ap (λ (n : ℕ). block_unit max_unit key id (record { at = n; left = single_block key id iv text ++ more })) zero_on ∙ single_block_again max_unit key id iv text more at len within limit in
    let first = first_is 1 (λ k. block_unit max_unit key id) p 0 row (λ k h. absurd (omega arith)) (ap is_more here) in
    judged_is 1 (λ k. block_unit max_unit key id) p 0 first
    ∙ same_judged (judged_at 1 (λ k. block_unit max_unit key id) p 0) (record { units = text ∷ []; verdict = behind_last more })
    (ap (λ (r : Reading Piece). released r ++ []) here)
    (ap verdict_of here)

-- how long a body is
pub length-framed_body : (frame_length : ℕ) (u : Under) (text : List ℕ) → IsFramed frame_length text → length (framed_body frame_length u text) ≡ length text + frame_count (length text) frame_length * beside_content + 8
unfolding framed_body
length-framed_body frame_length u text framed =
    let count : ℕ = frame_count (length text) frame_length in
    let m : ℕ = count - 1 in
    let is = count_is (length text) frame_length framed.some in
    let some : 1 ≤ count = is.some in
    let fits : m * frame_length ≤ length text = is.full in
    let last : List ℕ = final_frame u count (drop (m * frame_length) text) in
    let product : count * beside_content ≡ m * beside_content + beside_content = one_more count beside_content some in
    omega (arith, length-append (regular_frames frame_length u text m) last, length-regular_frames frame_length u text m (all_full frame_length text framed), length-final_frame u count (drop (m * frame_length) text), length-drop (m * frame_length) text)
