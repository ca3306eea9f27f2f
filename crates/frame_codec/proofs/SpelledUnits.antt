-- A unit is read exactly where the bytes begin with a spelling of it.
use Rattle.std.proofs.Common.{◌≡◌, ◌≢◌, ◌↔◌, ℕ, ◌+◌, ◌^◌, ◌<◌, ◌≤◌, List, ◌++◌, length, take, drop, false, Option, Some, refl, sym, ap, subst, ◌∙◌, append_assoc, arith}
use Rattle.std.specs.Int.{w32, w64}
use Rattle.std.proofs.lemmas.List.{take-append-drop, drop-drop, length-drop, length-take}
use Rattle.esdk_fields.specs.declared.contents.Content.{Content}
use Rattle.esdk_fields.specs.declared.contents.Content.TheVariants as contents
use Rattle.esdk_fields.specs.Bytes.{AreBytes}
use Rattle.esdk_fields.specs.Numbers.{to_big_endian}
use Rattle.esdk_fields.specs.Place.{Place, start, past}
use Rattle.esdk_fields.specs.Reading.{Read}
use Rattle.esdk_fields.proofs.Bytes.{AreBytes-drop, AreBytes-take}
use Rattle.esdk_fields.proofs.Inverse.{to-from_big_endian32, to-from_big_endian64}
use Rattle.esdk_fields.proofs.Taken.{number32_taken}
use Rattle.cipher_spec.specs.Gcm.{sealed}
use Rattle.cipher_spec.proofs.GcmLemmas.{sealed_from_opened}
use Rattle.frame_codec.specs.declared.kinds.UnitKind.TheVariants as kinds
use Rattle.frame_codec.specs.declared.unit_heads.UnitHead.{UnitHead}
use Rattle.frame_codec.specs.UnitAad.{unit_aad}
use Rattle.esdk_fields.specs.Limits.{is_over}
use Rattle.frame_codec.specs.UnitHead.{final_mark, longest_block, unit_head}
use Rattle.frame_codec.specs.Unit.{Piece, More, Last, piece_of, opened_unit, unit, block_unit}
use Rattle.frame_codec.specs.Written.{sealed_unit, single_block}
use Rattle.frame_codec.specs.Rows.{number_at, long_number_at}
use Rattle.frame_codec.specs.Spelled.{UnitIsSpelled, RegularFrame, FinalFrame, SingleBlock}
use Rattle.esdk_fields.proofs.Limited.{within_limit, limit_within}
use Rattle.frame_codec.proofs.Fields.{place, first_number_there, read_once}
use Rattle.frame_codec.proofs.Steps.{made_regular, made_final, made_block}
use Rattle.frame_codec.proofs.Ways.{Short, Other, Numbered, Regular, Marked, FinalOther, FinalNumbered, FinalLong, Final, frame_way, BlockShort, BlockLong, BlockOver, Block, block_way}
use Rattle.frame_codec.proofs.WrittenAgain.{regular_again, final_again, single_again}
use Rattle.frame_codec.proofs.Sizes.{opened_length}
use Rattle.frame_codec.specs.InPlace.{unit_size}
use Rattle.frame_codec.proofs.Units.{opened_there, UnitRead, unit_is_read}

-- ---- fields, as they are spelled

-- m bytes that stand n bytes behind the first
bytes_spelled : (n m : ℕ) (left : List ℕ) → drop n left ≡ take m (drop n left) ++ drop (n + m) left
bytes_spelled n m left = sym (take-append-drop m (drop n left)) ∙ ap (λ (b : List ℕ). take m (drop n left) ++ b) (drop-drop m n left)

number_spelled : (n : ℕ) (left : List ℕ) → AreBytes left → n + 4 ≤ length left → drop n left ≡ to_big_endian w32 (number_at n left) ++ drop (n + 4) left
number_spelled n left fits h =
    let four : length (take 4 (drop n left)) ≡ 4 = omega (arith, length-take 4 (drop n left), length-drop n left) in
    bytes_spelled n 4 left ∙ ap (λ (b : List ℕ). b ++ drop (n + 4) left) (sym (to-from_big_endian32 (take 4 (drop n left)) four (AreBytes-take 4 (drop n left) (AreBytes-drop n left fits))))

number_low : (n : ℕ) (left : List ℕ) → AreBytes left → n + 4 ≤ length left → number_at n left < 2 ^ 32
number_low n left fits h =
    (number32_taken (place 0 (drop n left)) (number_at n left) (place 4 (drop 4 (drop n left))) (AreBytes-drop n left fits) (first_number_there 0 (drop n left) (omega (arith, length-drop n left)))).1

long_number_spelled : (n : ℕ) (left : List ℕ) → AreBytes left → n + 8 ≤ length left → drop n left ≡ to_big_endian w64 (long_number_at n left) ++ drop (n + 8) left
long_number_spelled n left fits h =
    let eight : length (take 8 (drop n left)) ≡ 8 = omega (arith, length-take 8 (drop n left), length-drop n left) in
    bytes_spelled n 8 left ∙ ap (λ (b : List ℕ). b ++ drop (n + 8) left) (sym (to-from_big_endian64 (take 8 (drop n left)) eight (AreBytes-take 8 (drop n left) (AreBytes-drop n left fits))))

-- ---- what opens is spelled by sealing its text

-- the content, its tag, and the bytes behind them
record ContentSpelled (key id : List ℕ) (head : UnitHead) (left text : List ℕ) : Type 0 where
  text_length : length text ≡ head.length
  is : left ≡ sealed_unit key id head.kind head.number head.iv text ++ drop (head.length + 16) left

content_spelled : (key id : List ℕ) (head : UnitHead) (left text : List ℕ) → head.length + 16 ≤ length left → opened_there key id head left ≡ Some text → ContentSpelled key id head left text
unfolding sealed_unit opened_unit
content_spelled key id head left text long good =
    let aad = unit_aad id head.kind head.number head.length in
    let cipher = take head.length left in
    let tag = take 16 (drop head.length left) in
    let sealed_is : sealed key head.iv aad text ≡ (cipher, tag) = sealed_from_opened key head.iv aad text cipher tag good in
    let len : length text ≡ head.length = opened_length key id head left text (omega arith) good in
    let both : sealed_unit key id head.kind head.number head.iv text ≡ cipher ++ tag =
    ap (λ (n : ℕ). let s = sealed key head.iv (unit_aad id head.kind head.number n) text in s.0 ++ s.1) len ∙ ap (λ (s : List ℕ × List ℕ). s.0 ++ s.1) sealed_is in
    let whole : left ≡ cipher ++ (tag ++ drop (head.length + 16) left) = sym (take-append-drop head.length left) ∙ ap (λ (b : List ℕ). cipher ++ b) (bytes_spelled head.length 16 left) in
    record { text_length = len; is = whole ∙ sym (append_assoc cipher tag (drop (head.length + 16) left)) ∙ ap (λ (b : List ℕ). b ++ drop (head.length + 16) left) (sym both) }

-- ---- what was read is spelled so

-- what was read behind this head
record ReadBehind (key id bytes text : List ℕ) (piece : Piece) (end : Place) (head : UnitHead) : Type 0 where
  long : unit_size head ≤ length bytes
  good : opened_there key id head (drop head.size bytes) ≡ Some text
  piece_is : piece ≡ piece_of head.kind text
  after : end ≡ past (unit_size head) (start bytes)

-- content and tag, and the bytes that are left
record EndSpelled (key id bytes text : List ℕ) (end : Place) (head : UnitHead) : Type 0 where
  text_length : length text ≡ head.length
  is : drop head.size bytes ≡ sealed_unit key id head.kind head.number head.iv text ++ end.left
  behind : end.at ≡ unit_size head

end_spelled : (key id bytes text : List ℕ) (piece : Piece) (end : Place) (head : UnitHead) → ReadBehind key id bytes text piece end head → EndSpelled key id bytes text end head
end_spelled key id bytes text piece end head r =
    let inside : head.length + 16 ≤ length (drop head.size bytes) = omega (arith, r.long, length-drop head.size bytes) in
    let c = content_spelled key id head (drop head.size bytes) text inside r.good in
    let sum : head.size + (head.length + 16) ≡ unit_size head = omega arith in
    let left : drop (head.length + 16) (drop head.size bytes) ≡ end.left =
    drop-drop (head.length + 16) head.size bytes ∙ ap (λ (n : ℕ). drop n bytes) sum ∙ sym (ap (λ (q : Place). q.left) r.after) in
    record {
      text_length = c.text_length;
      is = c.is ∙ ap (λ (b : List ℕ). sealed_unit key id head.kind head.number head.iv text ++ b) left;
      behind = let at = ap (λ (q : Place). q.at) r.after in omega arith;
    }

regular_spelled : (max_unit : Option ℕ) (key id : List ℕ) (want size : ℕ) (bytes text : List ℕ) (piece : Piece) (end : Place) → AreBytes bytes → number_at 0 bytes ≢ final_mark → number_at 0 bytes ≡ want
    → ReadBehind key id bytes text piece end (made_regular want size (take 12 (drop 4 bytes))) → UnitIsSpelled (contents.Framed size) max_unit key id want bytes piece end
regular_spelled max_unit key id want size bytes text piece end fits unmarked same r =
    let iv = take 12 (drop 4 bytes) in
    let e = end_spelled key id bytes text piece end (made_regular want size iv) r in
    let s = sealed_unit key id kinds.Regular want iv text in
    let long : 16 ≤ length bytes = omega (arith, r.long) in
    let whole : bytes ≡ to_big_endian w32 want ++ (iv ++ (s ++ end.left)) =
    number_spelled 0 bytes fits (omega arith) ∙ ap (λ (n : ℕ). to_big_endian w32 n ++ drop 4 bytes) same
    ∙ ap (λ (b : List ℕ). to_big_endian w32 want ++ b) (bytes_spelled 4 12 bytes ∙ ap (λ (b : List ℕ). iv ++ b) e.is) in
    let grouped : (to_big_endian w32 want ++ iv ++ s) ++ end.left ≡ to_big_endian w32 want ++ (iv ++ (s ++ end.left)) = simp append_assoc in
    RegularFrame iv text (ap (λ (n : ℕ). contents.Framed n) (sym e.text_length)) (want_low (number_low 0 bytes fits (omega arith))) (omega (arith, length-take 12 (drop 4 bytes), length-drop 4 bytes)) (whole ∙ sym grouped) (omega (arith, e.behind, e.text_length)) r.piece_is
  where
    want_low : number_at 0 bytes < 2 ^ 32 → want < final_mark
    want_low low = let other : want ≢ final_mark = λ e. unmarked (same ∙ e) in omega (arith, same)

final_spelled : (max_unit : Option ℕ) (key id : List ℕ) (want size : ℕ) (bytes text : List ℕ) (piece : Piece) (end : Place) → AreBytes bytes
    → number_at 0 bytes ≡ final_mark → number_at 4 bytes ≡ want → number_at 20 bytes ≤ size
    → ReadBehind key id bytes text piece end (made_final want (take 12 (drop 8 bytes)) (number_at 20 bytes)) → UnitIsSpelled (contents.Framed size) max_unit key id want bytes piece end
final_spelled max_unit key id want size bytes text piece end fits marked same within r =
    let iv = take 12 (drop 8 bytes) in
    let e = end_spelled key id bytes text piece end (made_final want iv (number_at 20 bytes)) r in
    let s = sealed_unit key id kinds.Final want iv text in
    let long : 24 ≤ length bytes = omega (arith, r.long) in
    let mark = to_big_endian w32 final_mark in
    let n = to_big_endian w32 want in
    let count = to_big_endian w32 (length text) in
    let size_field : drop 20 bytes ≡ count ++ (s ++ end.left) =
    number_spelled 20 bytes fits long ∙ ap (λ (k : ℕ). to_big_endian w32 k ++ drop 24 bytes) (sym e.text_length) ∙ ap (λ (b : List ℕ). count ++ b) e.is in
    let number_field : drop 4 bytes ≡ n ++ (iv ++ (count ++ (s ++ end.left))) =
    number_spelled 4 bytes fits (omega arith) ∙ ap (λ (k : ℕ). to_big_endian w32 k ++ drop 8 bytes) same
    ∙ ap (λ (b : List ℕ). n ++ b) (bytes_spelled 8 12 bytes ∙ ap (λ (b : List ℕ). iv ++ b) size_field) in
    let whole : bytes ≡ mark ++ (n ++ (iv ++ (count ++ (s ++ end.left)))) =
    number_spelled 0 bytes fits (omega arith) ∙ ap (λ (k : ℕ). to_big_endian w32 k ++ drop 4 bytes) marked ∙ ap (λ (b : List ℕ). mark ++ b) number_field in
    let grouped : (mark ++ n ++ iv ++ count ++ s) ++ end.left ≡ mark ++ (n ++ (iv ++ (count ++ (s ++ end.left)))) = simp append_assoc in
    FinalFrame size iv text refl (omega (arith, e.text_length)) (omega (arith, e.text_length, number_low 20 bytes fits long)) (omega (arith, same, number_low 4 bytes fits (omega arith)))
    (omega (arith, length-take 12 (drop 8 bytes), length-drop 8 bytes)) (whole ∙ sym grouped) (omega (arith, e.behind, e.text_length)) r.piece_is

block_spelled : (max_unit : Option ℕ) (key id : List ℕ) (want : ℕ) (bytes text : List ℕ) (piece : Piece) (end : Place) → AreBytes bytes
    → long_number_at 12 bytes ≤ longest_block → is_over max_unit (long_number_at 12 bytes) ≡ false
    → ReadBehind key id bytes text piece end (made_block (take 12 bytes) (long_number_at 12 bytes)) → UnitIsSpelled contents.Single max_unit key id want bytes piece end
unfolding single_block
block_spelled max_unit key id want bytes text piece end fits within under r =
    let iv = take 12 bytes in
    let e = end_spelled key id bytes text piece end (made_block iv (long_number_at 12 bytes)) r in
    let s = sealed_unit key id kinds.Single 1 iv text in
    let long : 20 ≤ length bytes = omega (arith, r.long) in
    let count = to_big_endian w64 (length text) in
    let size_field : drop 12 bytes ≡ count ++ (s ++ end.left) =
    long_number_spelled 12 bytes fits long ∙ ap (λ (k : ℕ). to_big_endian w64 k ++ drop 20 bytes) (sym e.text_length) ∙ ap (λ (b : List ℕ). count ++ b) e.is in
    let whole : bytes ≡ iv ++ (count ++ (s ++ end.left)) = bytes_spelled 0 12 bytes ∙ ap (λ (b : List ℕ). iv ++ b) size_field in
    let grouped : (iv ++ count ++ s) ++ end.left ≡ iv ++ (count ++ (s ++ end.left)) = simp append_assoc in
    SingleBlock iv text refl (omega (arith, e.text_length)) (within_limit max_unit (length text) (ap (is_over max_unit) e.text_length ∙ under)) (omega (arith, length-take 12 bytes)) (whole ∙ sym grouped)
    (omega (arith, e.behind, e.text_length)) r.piece_is

behind : (content : Content) (max_unit : Option ℕ) (key id : List ℕ) (want : ℕ) (bytes : List ℕ) (piece : Piece) (end : Place) (head : UnitHead) (next : Place)
    → (r : UnitRead content max_unit key id want (start bytes) piece end) → unit_head content want max_unit (place 0 bytes) ≡ Read head next → ReadBehind key id bytes r.text piece end head
behind content max_unit key id want bytes piece end head next r is =
    let head_is : r.head ≡ head = (read_once (unit_head content want max_unit (place 0 bytes)) r.head head _ next (r.reads.is 0) is).0 in
    subst (λ (h : UnitHead). ReadBehind key id bytes r.text piece end h) head_is (record { long = r.long; good = r.good; piece_is = r.piece_is; after = r.after })

spelled : (content : Content) (max_unit : Option ℕ) (key id : List ℕ) (want : ℕ) (bytes : List ℕ) (piece : Piece) (end : Place) → AreBytes bytes
    → unit content max_unit key id want (start bytes) ≡ Read piece end → UnitIsSpelled content max_unit key id want bytes piece end
unfolding unit_head
spelled contents.Single max_unit key id want bytes piece end fits e =
    let r = unit_is_read contents.Single max_unit key id want (start bytes) piece end e in
    elim (block_way max_unit bytes) [
      | BlockShort short is ↦ absurd (let h = is 0 in let k = r.reads.is 0 in cc)
      | BlockLong long over is ↦ absurd (let h = is 0 in let k = r.reads.is 0 in cc)
      | BlockOver long within over is ↦ absurd (let h = is 0 in let k = r.reads.is 0 in cc)
      | Block long within under is ↦ block_spelled max_unit key id want bytes r.text piece end fits within under (behind contents.Single max_unit key id want bytes piece end _ _ r (is 0))
    ]
spelled (contents.Framed size) max_unit key id want bytes piece end fits e =
    let content = contents.Framed size in
    let r = unit_is_read content max_unit key id want (start bytes) piece end e in
    elim (frame_way want size bytes) [
      | Short short is ↦ absurd (let h = is 0 in let k = r.reads.is 0 in cc)
      | Other long unmarked other is ↦ absurd (let h = is 0 in let k = r.reads.is 0 in cc)
      | Numbered long short unmarked same is ↦ absurd (let h = is 0 in let k = r.reads.is 0 in cc)
      | Regular long unmarked same is ↦ regular_spelled max_unit key id want size bytes r.text piece end fits unmarked same (behind content max_unit key id want bytes piece end _ _ r (is 0))
      | Marked long short marked is ↦ absurd (let h = is 0 in let k = r.reads.is 0 in cc)
      | FinalOther long marked other is ↦ absurd (let h = is 0 in let k = r.reads.is 0 in cc)
      | FinalNumbered long short marked same is ↦ absurd (let h = is 0 in let k = r.reads.is 0 in cc)
      | FinalLong long marked same over is ↦ absurd (let h = is 0 in let k = r.reads.is 0 in cc)
      | Final long marked same within is ↦ final_spelled max_unit key id want size bytes r.text piece end fits marked same within (behind content max_unit key id want bytes piece end _ _ r (is 0))
    ]

-- ---- what is spelled so is read

end_is : (end : Place) (n : ℕ) → end.at ≡ n → record { at = 0 + n; left = end.left } ≡ end
end_is end n e = ap (λ (k : ℕ). place k end.left) (let same : 0 + n ≡ end.at = omega (arith, e) in same)

read : (content : Content) (max_unit : Option ℕ) (key id : List ℕ) (want : ℕ) (bytes : List ℕ) (piece : Piece) (end : Place) → UnitIsSpelled content max_unit key id want bytes piece end
    → unit content max_unit key id want (start bytes) ≡ Read piece end
unfolding block_unit
read content max_unit key id want bytes piece end (RegularFrame iv text is low len text_is behind piece_is) =
    rw (is, text_is, piece_is) (regular_again max_unit key id want (length text) iv text end.left 0 low len refl ∙ ap (λ (q : Place). Read (More text) q) (end_is end (length text + 32) behind))
read content max_unit key id want bytes piece end (FinalFrame size iv text is within short low len text_is behind piece_is) =
    rw (is, text_is, piece_is) (final_again max_unit key id want size iv text end.left 0 low len within short ∙ ap (λ (q : Place). Read (Last text) q) (end_is end (length text + 40) behind))
read content max_unit key id want bytes piece end (SingleBlock iv text is within limit len text_is behind piece_is) =
    rw (is, text_is, piece_is)
    (single_again max_unit key id want iv text end.left 0 len within (limit_within max_unit (length text) limit) ∙ ap (λ (q : Place). Read (Last text) q) (end_is end (length text + 36) behind))

pub reads_spelled : (content : Content) (max_unit : Option ℕ) (key id : List ℕ) (want : ℕ) (bytes : List ℕ) (piece : Piece) (end : Place) → AreBytes bytes
    → (unit content max_unit key id want (start bytes) ≡ Read piece end) ↔ UnitIsSpelled content max_unit key id want bytes piece end
reads_spelled content max_unit key id want bytes piece end fits = (spelled content max_unit key id want bytes piece end fits, read content max_unit key id want bytes piece end)
