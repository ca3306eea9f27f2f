-- What stands before a unit's content, way by way through its fields: what is there, and what is read of it at any offset.
use Rattle.std.proofs.Common.{◌≡◌, ◌≢◌, ℕ, ◌+◌, ◌<◌, ◌≤◌, true, false, not, eqb, List, length, take, drop, Option, refl, ap, arith, inl, inr}
use Rattle.std.proofs.lemmas.Bool.{cases_Bool, cases_lt, cases_eq, ne_eqb, eq-eqb, le-ltb, lt-ltb}
use Rattle.esdk_fields.specs.declared.faults.Fault.TheVariants.{WrongSequence, FinalTooLong, BlockTooLong, UnitTooLong}
use Rattle.esdk_fields.specs.Reading.{Read, Refused, Wanting}
use Rattle.esdk_fields.specs.Limits.{is_over}
use Rattle.frame_codec.specs.UnitHead.{final_mark, longest_block, regular_start, final_start, frame_start, block_start}
use Rattle.frame_codec.specs.Rows.{number_at, long_number_at}
use Rattle.frame_codec.proofs.Fields.{place, bytes_there, bytes_short, number32_there, number32_short, number64_there, number64_short, first_number_there, first_number_short, first_bytes_there, first_bytes_short}
use Rattle.frame_codec.proofs.Steps.{made_regular, made_final, made_block}

pub same_number : (m n : ℕ) → m ≡ n → not (eqb m n) ≡ false
same_number m n e = ap not (eq-eqb m n e)

other_number : (m n : ℕ) → m ≢ n → not (eqb m n) ≡ true
other_number m n h = ap not (ne_eqb m n h)

-- ---- frames, at any offset

pub number_wants : (want frame_length : ℕ) (left : List ℕ) → length left < 4 → (at : ℕ) → frame_start want frame_length (place at left) ≡ Wanting
unfolding frame_start
number_wants want frame_length left short at = rw (first_number_short at left short) refl

pub number_refused : (want frame_length : ℕ) (left : List ℕ) → 4 ≤ length left → number_at 0 left ≢ final_mark → number_at 0 left ≢ want
    → (at : ℕ) → frame_start want frame_length (place at left) ≡ Refused (WrongSequence want (number_at 0 left)) (at + 4)
unfolding frame_start regular_start
number_refused want frame_length left long unmarked other at =
    rw (first_number_there at left long, ne_eqb (number_at 0 left) final_mark unmarked, other_number (number_at 0 left) want other) refl

pub regular_wants : (want frame_length : ℕ) (left : List ℕ) → 4 ≤ length left → length left < 16 → number_at 0 left ≢ final_mark → number_at 0 left ≡ want
    → (at : ℕ) → frame_start want frame_length (place at left) ≡ Wanting
unfolding frame_start regular_start
regular_wants want frame_length left long short unmarked same at =
    rw (first_number_there at left long, ne_eqb (number_at 0 left) final_mark unmarked, same_number (number_at 0 left) want same, bytes_short 4 12 at left (omega arith) short) refl

pub regular_reads : (want frame_length : ℕ) (left : List ℕ) → 16 ≤ length left → number_at 0 left ≢ final_mark → number_at 0 left ≡ want
    → (at : ℕ) → frame_start want frame_length (place at left) ≡ Read (made_regular want frame_length (take 12 (drop 4 left))) (place (at + 16) (drop 16 left))
unfolding frame_start regular_start
regular_reads want frame_length left long unmarked same at =
    rw (first_number_there at left (omega arith), ne_eqb (number_at 0 left) final_mark unmarked, same_number (number_at 0 left) want same, bytes_there 4 12 at left long) refl

pub final_number_wants : (want frame_length : ℕ) (left : List ℕ) → 4 ≤ length left → length left < 8 → number_at 0 left ≡ final_mark
    → (at : ℕ) → frame_start want frame_length (place at left) ≡ Wanting
unfolding frame_start final_start
final_number_wants want frame_length left long short marked at =
    rw (first_number_there at left long, eq-eqb (number_at 0 left) final_mark marked, number32_short 4 at left short) refl

pub final_number_refused : (want frame_length : ℕ) (left : List ℕ) → 8 ≤ length left → number_at 0 left ≡ final_mark → number_at 4 left ≢ want
    → (at : ℕ) → frame_start want frame_length (place at left) ≡ Refused (WrongSequence want (number_at 4 left)) (at + 8)
unfolding frame_start final_start
final_number_refused want frame_length left long marked other at =
    rw (first_number_there at left (omega arith), eq-eqb (number_at 0 left) final_mark marked, number32_there 4 at left long, other_number (number_at 4 left) want other) refl

pub final_wants : (want frame_length : ℕ) (left : List ℕ) → 8 ≤ length left → length left < 24 → number_at 0 left ≡ final_mark → number_at 4 left ≡ want
    → (at : ℕ) → frame_start want frame_length (place at left) ≡ Wanting
unfolding frame_start final_start
final_wants want frame_length left long short marked same at =
    let mark = first_number_there at left (omega arith) in
    let final = eq-eqb (number_at 0 left) final_mark marked in
    let good = same_number (number_at 4 left) want same in
    elim (cases_lt (length left) 20) [
      | inl less ↦ rw (mark, final, number32_there 4 at left long, good, bytes_short 8 12 at left (omega arith) less) refl
      | inr iv ↦ rw (mark, final, number32_there 4 at left long, good, bytes_there 8 12 at left iv, number32_short 20 at left short) refl
    ]

pub final_refused : (want frame_length : ℕ) (left : List ℕ) → 24 ≤ length left → number_at 0 left ≡ final_mark → number_at 4 left ≡ want → frame_length < number_at 20 left
    → (at : ℕ) → frame_start want frame_length (place at left) ≡ Refused (FinalTooLong (number_at 20 left)) (at + 24)
unfolding frame_start final_start
final_refused want frame_length left long marked same over at =
    let final = eq-eqb (number_at 0 left) final_mark marked in
    let good = same_number (number_at 4 left) want same in
    rw (first_number_there at left (omega arith), final, number32_there 4 at left (omega arith), good, bytes_there 8 12 at left (omega arith), number32_there 20 at left long, lt-ltb frame_length (number_at 20 left) over)
    refl

pub final_reads : (want frame_length : ℕ) (left : List ℕ) → 24 ≤ length left → number_at 0 left ≡ final_mark → number_at 4 left ≡ want → number_at 20 left ≤ frame_length
    → (at : ℕ) → frame_start want frame_length (place at left) ≡ Read (made_final want (take 12 (drop 8 left)) (number_at 20 left)) (place (at + 24) (drop 24 left))
unfolding frame_start final_start
final_reads want frame_length left long marked same within at =
    let final = eq-eqb (number_at 0 left) final_mark marked in
    let good = same_number (number_at 4 left) want same in
    rw (first_number_there at left (omega arith), final, number32_there 4 at left (omega arith), good, bytes_there 8 12 at left (omega arith), number32_there 20 at left long, le-ltb frame_length (number_at 20 left) within)
    refl

-- one of these is so
pub data FrameWay (want frame_length : ℕ) (left : List ℕ) : Type 0 where
  Short : length left < 4 → ((at : ℕ) → frame_start want frame_length (place at left) ≡ Wanting) → FrameWay want frame_length left
  Other : 4 ≤ length left → number_at 0 left ≢ final_mark → number_at 0 left ≢ want
      → ((at : ℕ) → frame_start want frame_length (place at left) ≡ Refused (WrongSequence want (number_at 0 left)) (at + 4)) → FrameWay want frame_length left
  Numbered : 4 ≤ length left → length left < 16 → number_at 0 left ≢ final_mark → number_at 0 left ≡ want
      → ((at : ℕ) → frame_start want frame_length (place at left) ≡ Wanting) → FrameWay want frame_length left
  Regular : 16 ≤ length left → number_at 0 left ≢ final_mark → number_at 0 left ≡ want
      → ((at : ℕ) → frame_start want frame_length (place at left) ≡ Read (made_regular want frame_length (take 12 (drop 4 left))) (place (at + 16) (drop 16 left))) → FrameWay want frame_length left
  Marked : 4 ≤ length left → length left < 8 → number_at 0 left ≡ final_mark
      → ((at : ℕ) → frame_start want frame_length (place at left) ≡ Wanting) → FrameWay want frame_length left
  FinalOther : 8 ≤ length left → number_at 0 left ≡ final_mark → number_at 4 left ≢ want
      → ((at : ℕ) → frame_start want frame_length (place at left) ≡ Refused (WrongSequence want (number_at 4 left)) (at + 8)) → FrameWay want frame_length left
  FinalNumbered : 8 ≤ length left → length left < 24 → number_at 0 left ≡ final_mark → number_at 4 left ≡ want
      → ((at : ℕ) → frame_start want frame_length (place at left) ≡ Wanting) → FrameWay want frame_length left
  FinalLong : 24 ≤ length left → number_at 0 left ≡ final_mark → number_at 4 left ≡ want → frame_length < number_at 20 left
      → ((at : ℕ) → frame_start want frame_length (place at left) ≡ Refused (FinalTooLong (number_at 20 left)) (at + 24)) → FrameWay want frame_length left
  Final : 24 ≤ length left → number_at 0 left ≡ final_mark → number_at 4 left ≡ want → number_at 20 left ≤ frame_length
      → ((at : ℕ) → frame_start want frame_length (place at left) ≡ Read (made_final want (take 12 (drop 8 left)) (number_at 20 left)) (place (at + 24) (drop 24 left))) → FrameWay want frame_length left

pub frame_way : (want frame_length : ℕ) (left : List ℕ) → FrameWay want frame_length left
frame_way want frame_length left =
    elim (cases_lt (length left) 4) [
      | inl short ↦ Short short (number_wants want frame_length left short)
      | inr long ↦ elim (cases_eq (number_at 0 left) final_mark) [
        | inl marked ↦ marked_way long marked
        | inr unmarked ↦ elim (cases_eq (number_at 0 left) want) [
          | inr other ↦ Other long unmarked other (number_refused want frame_length left long unmarked other)
          | inl same ↦ elim (cases_lt (length left) 16) [
            | inl short ↦ Numbered long short unmarked same (regular_wants want frame_length left long short unmarked same)
            | inr there ↦ Regular there unmarked same (regular_reads want frame_length left there unmarked same)
          ]
        ]
      ]
    ]
  where
    final_way : 8 ≤ length left → number_at 0 left ≡ final_mark → number_at 4 left ≡ want → FrameWay want frame_length left
    final_way long marked same =
        elim (cases_lt (length left) 24) [
          | inl short ↦ FinalNumbered long short marked same (final_wants want frame_length left long short marked same)
          | inr there ↦ elim (cases_lt frame_length (number_at 20 left)) [
            | inl over ↦ FinalLong there marked same over (final_refused want frame_length left there marked same over)
            | inr within ↦ Final there marked same within (final_reads want frame_length left there marked same within)
          ]
        ]

    marked_way : 4 ≤ length left → number_at 0 left ≡ final_mark → FrameWay want frame_length left
    marked_way long marked =
        elim (cases_lt (length left) 8) [
          | inl short ↦ Marked long short marked (final_number_wants want frame_length left long short marked)
          | inr there ↦ elim (cases_eq (number_at 4 left) want) [
            | inl same ↦ final_way there marked same
            | inr other ↦ FinalOther there marked other (final_number_refused want frame_length left there marked other)
          ]
        ]

-- ---- single blocks, at any offset

pub block_wants : (max_unit : Option ℕ) (left : List ℕ) → length left < 20 → (at : ℕ) → block_start max_unit (place at left) ≡ Wanting
unfolding block_start
block_wants max_unit left short at =
    elim (cases_lt (length left) 12) [
      | inl less ↦ rw (first_bytes_short 12 at left less) refl
      | inr there ↦ rw (first_bytes_there 12 at left there, number64_short 12 at left short) refl
    ]

pub block_refused : (max_unit : Option ℕ) (left : List ℕ) → 20 ≤ length left → longest_block < long_number_at 12 left
    → (at : ℕ) → block_start max_unit (place at left) ≡ Refused (BlockTooLong (long_number_at 12 left)) (at + 20)
unfolding block_start
block_refused max_unit left long over at =
    rw (first_bytes_there 12 at left (omega arith), number64_there 12 at left long, lt-ltb longest_block (long_number_at 12 left) over) refl

pub block_limited : (max_unit : Option ℕ) (left : List ℕ) → 20 ≤ length left → long_number_at 12 left ≤ longest_block → is_over max_unit (long_number_at 12 left) ≡ true
    → (at : ℕ) → block_start max_unit (place at left) ≡ Refused (UnitTooLong (long_number_at 12 left)) (at + 20)
unfolding block_start
block_limited max_unit left long within over at =
    rw (first_bytes_there 12 at left (omega arith), number64_there 12 at left long, le-ltb longest_block (long_number_at 12 left) within, over) refl

pub block_reads : (max_unit : Option ℕ) (left : List ℕ) → 20 ≤ length left → long_number_at 12 left ≤ longest_block → is_over max_unit (long_number_at 12 left) ≡ false
    → (at : ℕ) → block_start max_unit (place at left) ≡ Read (made_block (take 12 left) (long_number_at 12 left)) (place (at + 20) (drop 20 left))
unfolding block_start
block_reads max_unit left long within under at =
    rw (first_bytes_there 12 at left (omega arith), number64_there 12 at left long, le-ltb longest_block (long_number_at 12 left) within, under) refl

-- one of these is so
pub data BlockWay (max_unit : Option ℕ) (left : List ℕ) : Type 0 where
  BlockShort : length left < 20 → ((at : ℕ) → block_start max_unit (place at left) ≡ Wanting) → BlockWay max_unit left
  BlockLong : 20 ≤ length left → longest_block < long_number_at 12 left
      → ((at : ℕ) → block_start max_unit (place at left) ≡ Refused (BlockTooLong (long_number_at 12 left)) (at + 20)) → BlockWay max_unit left
  BlockOver : 20 ≤ length left → long_number_at 12 left ≤ longest_block → is_over max_unit (long_number_at 12 left) ≡ true
      → ((at : ℕ) → block_start max_unit (place at left) ≡ Refused (UnitTooLong (long_number_at 12 left)) (at + 20)) → BlockWay max_unit left
  Block : 20 ≤ length left → long_number_at 12 left ≤ longest_block → is_over max_unit (long_number_at 12 left) ≡ false
      → ((at : ℕ) → block_start max_unit (place at left) ≡ Read (made_block (take 12 left) (long_number_at 12 left)) (place (at + 20) (drop 20 left))) → BlockWay max_unit left

pub block_way : (max_unit : Option ℕ) (left : List ℕ) → BlockWay max_unit left
block_way max_unit left =
    elim (cases_lt (length left) 20) [
      | inl short ↦ BlockShort short (block_wants max_unit left short)
      | inr there ↦ elim (cases_lt longest_block (long_number_at 12 left)) [
        | inl over ↦ BlockLong there over (block_refused max_unit left there over)
        | inr within ↦ elim (cases_Bool (is_over max_unit (long_number_at 12 left))) [
          | inl over ↦ BlockOver there within over (block_limited max_unit left there within over)
          | inr under ↦ Block there within under (block_reads max_unit left there within under)
        ]
      ]
    ]
