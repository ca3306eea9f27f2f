-- Units are read from left to right, and each field is judged at its last byte.
use Rattle.std.proofs.Common.{◌≡◌, ℕ, ◌+◌, ◌-◌, List, not, Option, Some, None, refl, arith}
use Rattle.std.specs.Prelude.{◌==◌, nat_lt}
use Rattle.std.specs.Int.{w32, w64}
use Rattle.std.proofs.lemmas.Bool.{le-leb}
use Rattle.esdk_fields.specs.declared.faults.Fault.{Fault}
use Rattle.esdk_fields.specs.declared.faults.Fault.TheVariants.{WrongSequence, FinalTooLong, BlockTooLong, UnitTooLong, UnitTag}
use Rattle.esdk_fields.specs.declared.contents.Content.{Content}
use Rattle.esdk_fields.specs.declared.contents.Content.TheVariants as contents
use Rattle.esdk_fields.specs.Reading.{◌>>=◌, ◌>>◌, done, bytes, number, refuse_if}
use Rattle.esdk_fields.specs.Sequential.{IsSequential}
use Rattle.esdk_fields.proofs.Sequential.{IsSequential-bind, IsSequential-then, IsSequential-bytes, IsSequential-number, IsSequential-done, IsSequential-refuse_if, IsSequential-if}
use Rattle.frame_codec.specs.declared.unit_heads.UnitHead.{UnitHead}
use Rattle.esdk_fields.specs.Limits.{is_over}
use Rattle.frame_codec.specs.UnitHead.{final_mark, longest_block, regular_start, final_start, frame_start, block_start, unit_head}
use Rattle.frame_codec.specs.Unit.{piece_of, opens, opened_unit, unit, Under, frame, block_unit}
use Rattle.frame_codec.proofs.Steps.{made_regular, made_final, made_block, after_length, after_iv, after_final_number, after_number, after_block_length, after_block_iv, after_tag, after_cipher, after_head}

-- ---- what stands before the content

pub IsSequential-regular_start : (want frame_length got : ℕ) → IsSequential (regular_start want frame_length got)
unfolding regular_start
IsSequential-regular_start want frame_length got =
    IsSequential-then (refuse_if (not (got == want)) (WrongSequence want got)) (bytes 12 >>= λ iv. done (made_regular want frame_length iv)) (IsSequential-refuse_if (not (got == want)) (WrongSequence want got))
    (IsSequential-bind (bytes 12) (λ iv. done (made_regular want frame_length iv)) (IsSequential-bytes 12) (λ iv. IsSequential-done (made_regular want frame_length iv)))

pub IsSequential-final_start : (want frame_length : ℕ) → IsSequential (final_start want frame_length)
unfolding final_start
IsSequential-final_start want frame_length =
    IsSequential-bind (number w32) (after_final_number want frame_length) (IsSequential-number w32)
    (λ got. IsSequential-then (refuse_if (not (got == want)) (WrongSequence want got)) (bytes 12 >>= after_iv want frame_length) (IsSequential-refuse_if (not (got == want)) (WrongSequence want got))
    (IsSequential-bind (bytes 12) (after_iv want frame_length) (IsSequential-bytes 12)
    (λ iv. IsSequential-bind (number w32) (after_length want frame_length iv) (IsSequential-number w32)
    (λ size. IsSequential-then (refuse_if (nat_lt frame_length size) (FinalTooLong size)) (done (made_final want iv size)) (IsSequential-refuse_if (nat_lt frame_length size) (FinalTooLong size)) (IsSequential-done (made_final want iv size))))))

pub IsSequential-frame_start : (want frame_length : ℕ) → IsSequential (frame_start want frame_length)
unfolding frame_start
IsSequential-frame_start want frame_length =
    IsSequential-bind (number w32) (after_number want frame_length) (IsSequential-number w32)
    (λ got. IsSequential-if (got == final_mark) (final_start want frame_length) (regular_start want frame_length got) (IsSequential-final_start want frame_length) (IsSequential-regular_start want frame_length got))

pub IsSequential-block_start : (max_unit : Option ℕ) → IsSequential (block_start max_unit)
unfolding block_start
IsSequential-block_start max_unit =
    IsSequential-bind (bytes 12) (after_block_iv max_unit) (IsSequential-bytes 12)
    (λ iv. IsSequential-bind (number w64) (after_block_length max_unit iv) (IsSequential-number w64)
    (λ size. IsSequential-then (refuse_if (nat_lt longest_block size) (BlockTooLong size)) (refuse_if (is_over max_unit size) (UnitTooLong size) >> done (made_block iv size)) (IsSequential-refuse_if (nat_lt longest_block size) (BlockTooLong size))
    (IsSequential-then (refuse_if (is_over max_unit size) (UnitTooLong size)) (done (made_block iv size)) (IsSequential-refuse_if (is_over max_unit size) (UnitTooLong size)) (IsSequential-done (made_block iv size)))))

pub IsSequential-unit_head : (content : Content) (want : ℕ) (max_unit : Option ℕ) → IsSequential (unit_head content want max_unit)
unfolding unit_head
IsSequential-unit_head contents.Single want max_unit = IsSequential-block_start max_unit
IsSequential-unit_head (contents.Framed frame_length) want max_unit = IsSequential-frame_start want frame_length

-- ---- units

pub IsSequential-opens : (o : Option (List ℕ)) (fault : Fault) → IsSequential (opens o fault)
IsSequential-opens (Some text) fault = record {
  onward = λ p. omega arith;
  cuts = λ n p h. rw (le-leb p.at n h) refl;
  rest = λ p. let e : p.at - p.at ≡ 0 = omega arith in rw e refl;
}
IsSequential-opens None fault = record {
  onward = λ p. omega arith;
  cuts = λ n p h. rw (le-leb p.at n h) refl;
  rest = λ p. tt;
}

pub IsSequential-after_head : (key id : List ℕ) (head : UnitHead) → IsSequential (after_head key id head)
IsSequential-after_head key id head =
    IsSequential-bind (bytes head.length) (after_cipher key id head) (IsSequential-bytes head.length)
    (λ cipher. IsSequential-bind (bytes 16) (after_tag key id head cipher) (IsSequential-bytes 16)
    (λ tag. IsSequential-bind (opens (opened_unit key id head cipher tag) (UnitTag head.number)) (λ text. done (piece_of head.kind text)) (IsSequential-opens (opened_unit key id head cipher tag) (UnitTag head.number))
    (λ text. IsSequential-done (piece_of head.kind text))))

pub IsSequential-unit : (content : Content) (max_unit : Option ℕ) (key id : List ℕ) (want : ℕ) → IsSequential (unit content max_unit key id want)
unfolding unit
IsSequential-unit content max_unit key id want =
    IsSequential-bind (unit_head content want max_unit) (after_head key id) (IsSequential-unit_head content want max_unit) (λ head. IsSequential-after_head key id head)

pub IsSequential-frame : (frame_length : ℕ) (u : Under) (k : ℕ) → IsSequential (frame frame_length u k)
unfolding frame
IsSequential-frame frame_length u k = IsSequential-unit (contents.Framed frame_length) None u.key u.id (k + 1)

pub IsSequential-block : (max_unit : Option ℕ) (key id : List ℕ) → IsSequential (block_unit max_unit key id)
unfolding block_unit
IsSequential-block max_unit key id = IsSequential-unit contents.Single max_unit key id 1
