-- The judgement of a body a second time, in the words of the standard's fields, without the
-- readers: where a unit is good, and the verdicts line by line. Standard: AWS Encryption SDK
-- Specification, message body, "Regular Frame", "Final Frame", "Single Block".
use Rattle.std.specs.Prelude.{ℕ, ◌+◌, ◌*◌, List, [], ◌∷◌, ◌++◌, length, take, drop, not, ◌&&◌, ◌==◌}
use Rattle.std.specs.Prelude.{nat_lt, is_some, if◌then◌else◌, Option, Some, None}
use Rattle.std.specs.List.{flat_map, prefix_len, range_with_len}
use Rattle.esdk_fields.specs.declared.faults.Fault.TheVariants.{WrongSequence, FinalTooLong}
use Rattle.esdk_fields.specs.declared.faults.Fault.TheVariants.{UnitTag, BlockTooLong, UnitTooLong}
use Rattle.esdk_fields.specs.declared.faults.Fault.TheVariants.{TrailingBytes}
use Rattle.cipher_spec.specs.Gcm.{opened}
use Rattle.frame_codec.specs.declared.kinds.UnitKind.TheVariants as kinds
use Rattle.frame_codec.specs.UnitAad.{unit_aad}
use Rattle.esdk_fields.specs.Limits.{is_over}
use Rattle.frame_codec.specs.UnitHead.{is_final, longest_block}
use Rattle.frame_codec.specs.Rows.{number_at, long_number_at}
use Rattle.frame_codec.specs.Unit.{Under}
use Rattle.body_format.specs.declared.verdicts.Verdict.{Verdict}
use Rattle.body_format.specs.declared.verdicts.Verdict.TheVariants.{Going, Whole, Faulty}
use Rattle.body_format.specs.Rows.{JudgedBody}
use Rattle.body_format.specs.Body.{beside_content}

-- ---- fields

-- n bytes from offset i on
abbrev pub slice_at : ℕ → ℕ → List ℕ → List ℕ
slice_at i n bytes = take n (drop i bytes)

-- a value, where there is one
abbrev pub listed : Option (List ℕ) → List (List ℕ)
listed (Some text) = text ∷ []
listed None = []

-- ---- frames

-- the bytes from slot k on, where frames have this length
abbrev pub slot_bytes : ℕ → List ℕ → ℕ → List ℕ
slot_bytes frame_length body k = drop (k * (frame_length + beside_content)) body

-- The content of slot k, where that is a good regular slot: all its bytes are there, its first four
-- bytes are k + 1 and not FF FF FF FF, and its content opens.
unfoldable pub good_regular : ℕ → Under → ℕ → List ℕ → Option (List ℕ)
good_regular frame_length u k bytes =
    if not (nat_lt (length bytes) (frame_length + beside_content)) && not (is_final bytes)
    && number_at 0 bytes == k + 1
    then opened u.key (slice_at 4 12 bytes) (unit_aad u.id kinds.Regular (k + 1) frame_length)
    (slice_at 16 frame_length bytes) (slice_at (16 + frame_length) 16 bytes)
    else None

-- The content of slot k, where that is a good final slot: it begins with FF FF FF FF and k + 1, its
-- content length is at most the frame length, all its bytes are there, and its content opens.
unfoldable pub good_final : ℕ → Under → ℕ → List ℕ → Option (List ℕ)
good_final frame_length u k bytes =
    if not (nat_lt (length bytes) 24) && is_final bytes && number_at 4 bytes == k + 1
    && not (nat_lt frame_length (number_at 20 bytes))
    && not (nat_lt (length bytes) (number_at 20 bytes + 40))
    then opened u.key (slice_at 8 12 bytes) (unit_aad u.id kinds.Final (k + 1) (number_at 20 bytes))
    (slice_at 24 (number_at 20 bytes) bytes) (slice_at (24 + number_at 20 bytes) 16 bytes)
    else None

-- What is said at slot k, which isn't a good regular slot, of the bytes from there on: the first
-- line that applies.
unfoldable pub framed_verdict : ℕ → Under → ℕ → List ℕ → Verdict
framed_verdict frame_length u k bytes =
    if nat_lt (length bytes) 4 then Going
    else if not (is_final bytes) && not (number_at 0 bytes == k + 1)
    then Faulty (WrongSequence (k + 1) (number_at 0 bytes))
    else if not (is_final bytes) && nat_lt (length bytes) (frame_length + beside_content) then Going
    else if not (is_final bytes) then Faulty (UnitTag (k + 1))
    else if nat_lt (length bytes) 8 then Going
    else if not (number_at 4 bytes == k + 1) then Faulty (WrongSequence (k + 1) (number_at 4 bytes))
    else if nat_lt (length bytes) 24 then Going
    else if nat_lt frame_length (number_at 20 bytes) then Faulty (FinalTooLong (number_at 20 bytes))
    else if nat_lt (length bytes) (number_at 20 bytes + 40) then Going
    else if not (is_some (good_final frame_length u k bytes)) then Faulty (UnitTag (k + 1))
    else if length bytes == number_at 20 bytes + 40 then Whole
    else Faulty TrailingBytes

-- the least k for which slot k isn't a good regular slot
unfoldable pub first_not_regular : ℕ → Under → List ℕ → ℕ
first_not_regular frame_length u body = prefix_len
    (λ k. is_some (good_regular frame_length u k (slot_bytes frame_length body k)))
    (range_with_len 0 (length body))

-- what is said of the body where slot k decides: the contents of the slots before it, and that of
-- slot k where it is a good final slot; and the table's verdict
abbrev pub decided_at : ℕ → Under → List ℕ → ℕ → JudgedBody
decided_at frame_length u body k = record {
  units = flat_map (λ i. listed (good_regular frame_length u i (slot_bytes frame_length body i)))
      (range_with_len 0 k)
      ++ listed (good_final frame_length u k (slot_bytes frame_length body k));
  verdict = framed_verdict frame_length u k (slot_bytes frame_length body k);
}

-- The first slot that isn't a good regular slot decides.
unfoldable pub tabled_frames : ℕ → Under → List ℕ → JudgedBody
tabled_frames frame_length u body =
    decided_at frame_length u body (first_not_regular frame_length u body)

-- ---- the single block

-- The content of a block: its length is within the limits, all its bytes are there, and its content
-- opens.
unfoldable pub good_block : Option ℕ → List ℕ → List ℕ → List ℕ → Option (List ℕ)
good_block max_unit key id bytes =
    if not (nat_lt (length bytes) 20) && not (nat_lt longest_block (long_number_at 12 bytes))
    && not (is_over max_unit (long_number_at 12 bytes))
    && not (nat_lt (length bytes) (long_number_at 12 bytes + 36))
    then opened key (slice_at 0 12 bytes) (unit_aad id kinds.Single 1 (long_number_at 12 bytes))
    (slice_at 20 (long_number_at 12 bytes) bytes) (slice_at (20 + long_number_at 12 bytes) 16 bytes)
    else None

-- What is said of a body that is to be a single block: the first line that applies.
unfoldable pub block_verdict : Option ℕ → List ℕ → List ℕ → List ℕ → Verdict
block_verdict max_unit key id bytes =
    if nat_lt (length bytes) 20 then Going
    else if nat_lt longest_block (long_number_at 12 bytes)
    then Faulty (BlockTooLong (long_number_at 12 bytes))
    else if is_over max_unit (long_number_at 12 bytes)
    then Faulty (UnitTooLong (long_number_at 12 bytes))
    else if nat_lt (length bytes) (long_number_at 12 bytes + 36) then Going
    else if not (is_some (good_block max_unit key id bytes)) then Faulty (UnitTag 1)
    else if length bytes == long_number_at 12 bytes + 36 then Whole
    else Faulty TrailingBytes

-- the content of a good block, and the table's verdict
unfoldable pub tabled_block : Option ℕ → List ℕ → List ℕ → List ℕ → JudgedBody
tabled_block max_unit key id bytes = record {
  units = listed (good_block max_unit key id bytes);
  verdict = block_verdict max_unit key id bytes;
}
