-- A unit that was written is read back, whatever follows it.
use Rattle.std.proofs.Common.{◌≡◌, ℕ, ◌+◌, ◌^◌, ◌<◌, ◌≤◌, false, eqb, List, ◌++◌, length, Option, Some, None, refl, sym, ap, ◌∙◌, append_assoc, replicate, arith}
use Rattle.std.specs.Int.{w32, w64}
use Rattle.std.proofs.lemmas.Bool.{ne_eqb, le-ltb}
use Rattle.std.proofs.lemmas.List.{length-append}
use Rattle.esdk_fields.specs.declared.contents.Content.TheVariants as contents
use Rattle.esdk_fields.specs.Numbers.{to_big_endian}
use Rattle.esdk_fields.specs.Reading.{Read, then_read}
use Rattle.esdk_fields.proofs.Again.{bytes_again, number32_again, number64_again, length-to_big_endian32, length-to_big_endian64}
use Rattle.cipher_spec.specs.Gcm.{sealed}
use Rattle.frame_codec.specs.declared.kinds.UnitKind.{UnitKind}
use Rattle.frame_codec.specs.declared.kinds.UnitKind.TheVariants as kinds
use Rattle.frame_codec.specs.declared.unit_heads.UnitHead.{UnitHead}
use Rattle.frame_codec.specs.UnitAad.{unit_aad, iv_of}
use Rattle.esdk_fields.specs.Limits.{is_over}
use Rattle.frame_codec.specs.UnitHead.{final_mark, longest_block, regular_start, final_start, frame_start, block_start, unit_head}
use Rattle.frame_codec.specs.Unit.{More, Last, piece_of, opened_unit, unit, Under, frame, block_unit}
use Rattle.frame_codec.specs.Written.{sealed_unit, regular_head, final_head, regular_frame, final_frame, single_block}
use Rattle.frame_codec.proofs.Ciphers.{length-sealed_cipher, length-sealed_tag, opened-sealed}
use Rattle.frame_codec.proofs.Fields.{place, read_at}
use Rattle.frame_codec.proofs.Ways.{same_number}
use Rattle.frame_codec.proofs.Units.{opened_read}
use Rattle.frame_codec.proofs.Steps.{made_regular, made_final, made_block, after_head}

-- ---- what stands before the content

pub regular_start_again : (want frame_length : ℕ) (iv rest : List ℕ) (at : ℕ) → want < final_mark → length iv ≡ 12
    → frame_start want frame_length (place at (to_big_endian w32 want ++ (iv ++ rest))) ≡ Read (made_regular want frame_length iv) (place (at + 16) rest)
unfolding frame_start regular_start
regular_start_again want frame_length iv rest at low len =
    let first = number32_again want (iv ++ rest) at (omega arith) in
    let unmarked : eqb want final_mark ≡ false = ne_eqb want final_mark (λ e. omega arith) in
    rw (first, unmarked, same_number want want refl, bytes_again iv rest 12 (at + 4) len) (read_at (made_regular want frame_length iv) (at + 4 + 12) (at + 16) rest (omega arith))

pub final_start_again : (want frame_length size : ℕ) (iv rest : List ℕ) (at : ℕ) → want < 2 ^ 32 → length iv ≡ 12 → size ≤ frame_length → size < 2 ^ 32
    → frame_start want frame_length (place at (to_big_endian w32 final_mark ++ (to_big_endian w32 want ++ (iv ++ (to_big_endian w32 size ++ rest))))) ≡ Read (made_final want iv size) (place (at + 24) rest)
unfolding frame_start final_start
final_start_again want frame_length size iv rest at low len within short =
    let behind = to_big_endian w32 size ++ rest in
    let mark = number32_again final_mark (to_big_endian w32 want ++ (iv ++ behind)) at (omega arith) in
    let first = number32_again want (iv ++ behind) (at + 4) low in
    let inside = le-ltb frame_length size within in
    rw (mark, first, same_number want want refl, bytes_again iv behind 12 (at + 4 + 4) len, number32_again size rest (at + 4 + 4 + 12) short, inside)
    (read_at (made_final want iv size) (at + 4 + 4 + 12 + 4) (at + 24) rest (omega arith))

pub block_start_again : (max_unit : Option ℕ) (size : ℕ) (iv rest : List ℕ) (at : ℕ) → length iv ≡ 12 → size ≤ longest_block → is_over max_unit size ≡ false
    → block_start max_unit (place at (iv ++ (to_big_endian w64 size ++ rest))) ≡ Read (made_block iv size) (place (at + 20) rest)
unfolding block_start
block_start_again max_unit size iv rest at len within limit =
    let inside = le-ltb longest_block size within in
    rw (bytes_again iv (to_big_endian w64 size ++ rest) 12 at len, number64_again size rest (at + 12) (omega arith), inside, limit)
    (read_at (made_block iv size) (at + 12 + 8) (at + 20) rest (omega arith))

-- ---- the content

pub after_head_again : (key id : List ℕ) (head : UnitHead) (text rest : List ℕ) (at : ℕ) → head.length ≡ length text
    → after_head key id head (place at (sealed_unit key id head.kind head.number head.iv text ++ rest)) ≡ Read (piece_of head.kind text) (place (at + (length text + 16)) rest)
unfolding sealed_unit opened_unit
after_head_again key id head text rest at len =
    let aad = unit_aad id head.kind head.number (length text) in
    let cipher = (sealed key head.iv aad text).0 in
    let tag = (sealed key head.iv aad text).1 in
    let cipher_len : length cipher ≡ head.length = length-sealed_cipher key head.iv aad text ∙ sym len in
    let opened_is : opened_unit key id head cipher tag ≡ Some text = rw len (opened-sealed key head.iv aad text) in
    rw (append_assoc cipher tag rest, bytes_again cipher (tag ++ rest) head.length at cipher_len, bytes_again tag rest 16 (at + head.length) (length-sealed_tag key head.iv aad text))
    (opened_read (opened_unit key id head cipher tag) text head.number head.kind (place (at + head.length + 16) rest) opened_is ∙ read_at (piece_of head.kind text) (at + head.length + 16) (at + (length text + 16)) rest (omega arith))

-- ---- units, with any initialization vector

pub regular_again : (max_unit : Option ℕ) (key id : List ℕ) (want frame_length : ℕ) (iv text rest : List ℕ) (at : ℕ) → want < final_mark → length iv ≡ 12 → length text ≡ frame_length
    → unit (contents.Framed frame_length) max_unit key id want (place at ((to_big_endian w32 want ++ iv ++ sealed_unit key id kinds.Regular want iv text) ++ rest)) ≡ Read (More text) (place (at + (length text + 32)) rest)
unfolding unit unit_head
regular_again max_unit key id want frame_length iv text rest at low len whole =
    let s = sealed_unit key id kinds.Regular want iv text in
    let grouped : (to_big_endian w32 want ++ iv ++ s) ++ rest ≡ to_big_endian w32 want ++ (iv ++ (s ++ rest)) = simp append_assoc in
    let head = made_regular want frame_length iv in
    ap (λ (l : List ℕ). then_read (frame_start want frame_length (place at l)) (after_head key id)) grouped
    ∙ ap (λ r. then_read r (after_head key id)) (regular_start_again want frame_length iv (s ++ rest) at low len)
    ∙ after_head_again key id head text rest (at + 16) (sym whole)
    ∙ read_at (More text) (at + 16 + (length text + 16)) (at + (length text + 32)) rest (omega arith)

pub final_again : (max_unit : Option ℕ) (key id : List ℕ) (want frame_length : ℕ) (iv text rest : List ℕ) (at : ℕ) → want < 2 ^ 32 → length iv ≡ 12 → length text ≤ frame_length → length text < 2 ^ 32
    → unit (contents.Framed frame_length) max_unit key id want (place at ((to_big_endian w32 final_mark ++ to_big_endian w32 want ++ iv ++ to_big_endian w32 (length text) ++ sealed_unit key id kinds.Final want iv text) ++ rest))
    ≡ Read (Last text) (place (at + (length text + 40)) rest)
unfolding unit unit_head
final_again max_unit key id want frame_length iv text rest at low len within short =
    let s = sealed_unit key id kinds.Final want iv text in
    let n = to_big_endian w32 want in
    let size = to_big_endian w32 (length text) in
    let mark = to_big_endian w32 final_mark in
    let grouped : (mark ++ n ++ iv ++ size ++ s) ++ rest ≡ mark ++ (n ++ (iv ++ (size ++ (s ++ rest)))) = simp append_assoc in
    let head = made_final want iv (length text) in
    ap (λ (l : List ℕ). then_read (frame_start want frame_length (place at l)) (after_head key id)) grouped
    ∙ ap (λ r. then_read r (after_head key id)) (final_start_again want frame_length (length text) iv (s ++ rest) at low len within short)
    ∙ after_head_again key id head text rest (at + 24) refl
    ∙ read_at (Last text) (at + 24 + (length text + 16)) (at + (length text + 40)) rest (omega arith)

-- a single block has the number 1, whatever is wanted
pub single_again : (max_unit : Option ℕ) (key id : List ℕ) (want : ℕ) (iv text rest : List ℕ) (at : ℕ) → length iv ≡ 12 → length text ≤ longest_block → is_over max_unit (length text) ≡ false
    → unit contents.Single max_unit key id want (place at (single_block key id iv text ++ rest)) ≡ Read (Last text) (place (at + (length text + 36)) rest)
unfolding unit unit_head single_block
single_again max_unit key id want iv text rest at len within limit =
    let s = sealed_unit key id kinds.Single 1 iv text in
    let size = to_big_endian w64 (length text) in
    let grouped : (iv ++ size ++ s) ++ rest ≡ iv ++ (size ++ (s ++ rest)) = simp append_assoc in
    let head = made_block iv (length text) in
    ap (λ (l : List ℕ). then_read (block_start max_unit (place at l)) (after_head key id)) grouped
    ∙ ap (λ r. then_read r (after_head key id)) (block_start_again max_unit (length text) iv (s ++ rest) at len within limit)
    ∙ after_head_again key id head text rest (at + 20) refl
    ∙ read_at (Last text) (at + 20 + (length text + 16)) (at + (length text + 36)) rest (omega arith)

-- ---- units as they are written

length-iv_of : (n : ℕ) → length (iv_of n) ≡ 12
unfolding iv_of
length-iv_of n = omega (arith, length-append (replicate 8 0) (to_big_endian w32 n), length-to_big_endian32 n)

-- frame k, counted from 0
pub regular_frame_again : (frame_length : ℕ) (u : Under) (k : ℕ) (text rest : List ℕ) (at : ℕ) → k + 1 < final_mark → length text ≡ frame_length
    → frame frame_length u k (place at (regular_frame u (k + 1) text ++ rest)) ≡ Read (More text) (place (at + (length text + 32)) rest)
unfolding frame regular_frame regular_head
regular_frame_again frame_length u k text rest at low whole = regular_again None u.key u.id (k + 1) frame_length (iv_of (k + 1)) text rest at low (length-iv_of (k + 1)) whole

pub final_frame_again : (frame_length : ℕ) (u : Under) (k : ℕ) (text rest : List ℕ) (at : ℕ) → k + 1 < 2 ^ 32 → length text ≤ frame_length → length text < 2 ^ 32
    → frame frame_length u k (place at (final_frame u (k + 1) text ++ rest)) ≡ Read (Last text) (place (at + (length text + 40)) rest)
unfolding frame final_frame final_head
final_frame_again frame_length u k text rest at low within short = final_again None u.key u.id (k + 1) frame_length (iv_of (k + 1)) text rest at low (length-iv_of (k + 1)) within short

pub single_block_again : (max_unit : Option ℕ) (key id iv text rest : List ℕ) (at : ℕ) → length iv ≡ 12 → length text ≤ longest_block → is_over max_unit (length text) ≡ false
    → block_unit max_unit key id (place at (single_block key id iv text ++ rest)) ≡ Read (Last text) (place (at + (length text + 36)) rest)
unfolding block_unit
single_block_again max_unit key id iv text rest at len within limit = single_again max_unit key id 1 iv text rest at len within limit

-- ---- their lengths

pub length-sealed_unit : (key id : List ℕ) (kind : UnitKind) (n : ℕ) (iv text : List ℕ) → length (sealed_unit key id kind n iv text) ≡ length text + 16
unfolding sealed_unit
length-sealed_unit key id kind n iv text =
    let aad = unit_aad id kind n (length text) in
    omega (arith, length-append (sealed key iv aad text).0 (sealed key iv aad text).1, length-sealed_cipher key iv aad text, length-sealed_tag key iv aad text)

pub length-regular_head : (n : ℕ) → length (regular_head n) ≡ 16
unfolding regular_head
length-regular_head n = omega (arith, length-append (to_big_endian w32 n) (iv_of n), length-to_big_endian32 n, length-iv_of n)

pub length-final_head : (n size : ℕ) → length (final_head n size) ≡ 24
unfolding final_head
length-final_head n size =
    let mark = to_big_endian w32 final_mark in
    omega (
      arith,
      length-append (mark ++ to_big_endian w32 n ++ iv_of n) (to_big_endian w32 size),
      length-append (mark ++ to_big_endian w32 n) (iv_of n),
      length-append mark (to_big_endian w32 n),
      length-to_big_endian32 final_mark,
      length-to_big_endian32 n,
      length-iv_of n,
      length-to_big_endian32 size,
    )

pub length-regular_frame : (u : Under) (n : ℕ) (text : List ℕ) → length (regular_frame u n text) ≡ length text + 32
unfolding regular_frame
length-regular_frame u n text =
    omega (arith, length-append (regular_head n) (sealed_unit u.key u.id kinds.Regular n (iv_of n) text), length-regular_head n, length-sealed_unit u.key u.id kinds.Regular n (iv_of n) text)

pub length-final_frame : (u : Under) (n : ℕ) (text : List ℕ) → length (final_frame u n text) ≡ length text + 40
unfolding final_frame
length-final_frame u n text =
    omega (arith, length-append (final_head n (length text)) (sealed_unit u.key u.id kinds.Final n (iv_of n) text), length-final_head n (length text), length-sealed_unit u.key u.id kinds.Final n (iv_of n) text)

pub length-single_block : (key id iv text : List ℕ) → length iv ≡ 12 → length (single_block key id iv text) ≡ length text + 36
unfolding single_block
length-single_block key id iv text len =
    omega (
      arith,
      length-append (iv ++ to_big_endian w64 (length text)) (sealed_unit key id kinds.Single 1 iv text),
      length-append iv (to_big_endian w64 (length text)),
      length-to_big_endian64 (length text),
      length-sealed_unit key id kinds.Single 1 iv text,
    )
