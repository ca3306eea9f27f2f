-- The answer about a unit's first bytes: which rows ask for more.
use Rattle.std.proofs.Common.{◌≡◌, ◌≢◌, ◌↔◌, ℕ, ◌+◌, ◌<◌, ◌≤◌, List, ◌++◌, length, take, drop, Option, refl, sym, ap, ◌∙◌, arith}
use Rattle.std.proofs.lemmas.Bool.{ne_eqb, eq-eqb, le-ltb, lt-ltb}
use Rattle.std.proofs.lemmas.List.{take-append-le, drop-append-le, length-append, length-drop}
use Rattle.esdk_fields.specs.declared.faults.Fault.{Fault}
use Rattle.esdk_fields.specs.declared.faults.Fault.TheVariants.{WrongSequence, FinalTooLong, BlockTooLong, UnitTooLong}
use Rattle.esdk_fields.specs.declared.contents.Content.{Content}
use Rattle.esdk_fields.specs.declared.contents.Content.TheVariants as contents
use Rattle.esdk_fields.specs.Place.{start}
use Rattle.esdk_fields.specs.Reading.{Read, Refused, Wanting}
use Rattle.frame_codec.specs.declared.unit_heads.UnitHead.{UnitHead}
use Rattle.frame_codec.specs.declared.unit_heads.Head.{Head}
use Rattle.frame_codec.specs.declared.unit_heads.Head.TheVariants as heads
use Rattle.frame_codec.specs.UnitHead.{final_mark, unit_head, needed, head_from, head_of}
use Rattle.frame_codec.specs.Rows.{number_at, long_number_at, NeedsMore, ForNumber, ForRegular, ForFinalNumber, ForFinal, ForBlock}
use Rattle.frame_codec.specs.Laws.{DecidesWithThese}
use Rattle.frame_codec.proofs.Fields.{place}
use Rattle.frame_codec.proofs.Steps.{made_regular, made_final, made_block}
use Rattle.frame_codec.proofs.Ways.{number_wants, regular_wants, final_number_wants, final_wants, Short, Other, Numbered, Regular, Marked, FinalOther, FinalNumbered, FinalLong, Final, frame_way, block_wants, BlockShort, BlockLong, BlockOver, Block, block_way}

-- ---- how many bytes are needed

for_number : (frame_length : ℕ) (bytes : List ℕ) → length bytes < 4 → needed (contents.Framed frame_length) bytes ≡ 4
unfolding needed
for_number frame_length bytes short = rw (lt-ltb (length bytes) 4 short) refl

for_regular : (frame_length : ℕ) (bytes : List ℕ) → 4 ≤ length bytes → number_at 0 bytes ≢ final_mark → needed (contents.Framed frame_length) bytes ≡ 16
unfolding needed
for_regular frame_length bytes long unmarked = rw (le-ltb (length bytes) 4 long, ne_eqb (number_at 0 bytes) final_mark unmarked) refl

for_final_number : (frame_length : ℕ) (bytes : List ℕ) → 4 ≤ length bytes → length bytes < 8 → number_at 0 bytes ≡ final_mark → needed (contents.Framed frame_length) bytes ≡ 8
unfolding needed
for_final_number frame_length bytes long short marked = rw (le-ltb (length bytes) 4 long, eq-eqb (number_at 0 bytes) final_mark marked, lt-ltb (length bytes) 8 short) refl

for_final : (frame_length : ℕ) (bytes : List ℕ) → 8 ≤ length bytes → number_at 0 bytes ≡ final_mark → needed (contents.Framed frame_length) bytes ≡ 24
unfolding needed
for_final frame_length bytes long marked = rw (le-ltb (length bytes) 4 (omega arith), eq-eqb (number_at 0 bytes) final_mark marked, le-ltb (length bytes) 8 long) refl

-- ---- from the reading to the answer

wanting_answer : (content : Content) (want : ℕ) (max_unit : Option ℕ) (bytes : List ℕ) (n : ℕ) → unit_head content want max_unit (start bytes) ≡ Wanting → needed content bytes ≡ n
    → head_of content want max_unit bytes ≡ heads.NeedMore n
unfolding head_of
wanting_answer content want max_unit bytes n e k = ap (head_from (needed content bytes)) e ∙ ap (λ (m : ℕ). heads.NeedMore m) k

pub refused_answer : (content : Content) (want : ℕ) (max_unit : Option ℕ) (bytes : List ℕ) (fault : Fault) (at : ℕ) → unit_head content want max_unit (start bytes) ≡ Refused fault at
    → head_of content want max_unit bytes ≡ heads.Refused fault
unfolding head_of
refused_answer content want max_unit bytes fault at e = ap (head_from (needed content bytes)) e

pub unit_answer : (content : Content) (want : ℕ) (max_unit : Option ℕ) (bytes : List ℕ) (head : UnitHead) (at : ℕ) (left : List ℕ) → unit_head content want max_unit (start bytes) ≡ Read head (place at left)
    → head_of content want max_unit bytes ≡ heads.Unit head
unfolding head_of
unit_answer content want max_unit bytes head at left e = ap (head_from (needed content bytes)) e

-- ---- rows that need more

asks : (content : Content) (want : ℕ) (max_unit : Option ℕ) (bytes : List ℕ) (n : ℕ) → NeedsMore content want bytes n → head_of content want max_unit bytes ≡ heads.NeedMore n
unfolding unit_head needed
asks content want max_unit bytes n (ForNumber size is n_is short) =
    rw (is, n_is) (wanting_answer (contents.Framed size) want max_unit bytes 4 (number_wants want size bytes short 0) (for_number size bytes short))
asks content want max_unit bytes n (ForRegular size is n_is long short unmarked same) =
    rw (is, n_is) (wanting_answer (contents.Framed size) want max_unit bytes 16 (regular_wants want size bytes long short unmarked same 0) (for_regular size bytes long unmarked))
asks content want max_unit bytes n (ForFinalNumber size is n_is long short marked) =
    rw (is, n_is) (wanting_answer (contents.Framed size) want max_unit bytes 8 (final_number_wants want size bytes long short marked 0) (for_final_number size bytes long short marked))
asks content want max_unit bytes n (ForFinal size is n_is long short marked same) =
    rw (is, n_is) (wanting_answer (contents.Framed size) want max_unit bytes 24 (final_wants want size bytes long short marked same 0) (for_final size bytes long marked))
asks content want max_unit bytes n (ForBlock is n_is short) =
    rw (is, n_is) (wanting_answer contents.Single want max_unit bytes 20 (block_wants max_unit bytes short 0) refl)

same_count : (r : Head) (m n : ℕ) → r ≡ heads.NeedMore m → r ≡ heads.NeedMore n → n ≡ m
same_count r m n e f = cc

asked : (content : Content) (want : ℕ) (max_unit : Option ℕ) (bytes : List ℕ) (n : ℕ) → head_of content want max_unit bytes ≡ heads.NeedMore n → NeedsMore content want bytes n
unfolding unit_head needed
asked contents.Single want max_unit bytes n e =
    let answer = head_of contents.Single want max_unit bytes in
    elim (block_way max_unit bytes) [
      | BlockShort short is ↦ ForBlock refl (same_count answer 20 n (wanting_answer contents.Single want max_unit bytes 20 (is 0) refl) e) short
      | BlockLong long over is ↦ absurd (let h = refused_answer contents.Single want max_unit bytes (BlockTooLong (long_number_at 12 bytes)) _ (is 0) in cc)
      | BlockOver long within over is ↦ absurd (let h = refused_answer contents.Single want max_unit bytes (UnitTooLong (long_number_at 12 bytes)) _ (is 0) in cc)
      | Block long within under is ↦ absurd (let h = unit_answer contents.Single want max_unit bytes (made_block (take 12 bytes) (long_number_at 12 bytes)) _ _ (is 0) in cc)
    ]
asked (contents.Framed size) want max_unit bytes n e =
    let content = contents.Framed size in
    let answer = head_of content want max_unit bytes in
    elim (frame_way want size bytes) [
      | Short short is ↦ ForNumber size refl (same_count answer 4 n (wanting_answer content want max_unit bytes 4 (is 0) (for_number size bytes short)) e) short
      | Other long unmarked other is ↦ absurd (let h = refused_answer content want max_unit bytes (WrongSequence want (number_at 0 bytes)) _ (is 0) in cc)
      | Numbered long short unmarked same is ↦
          ForRegular size refl (same_count answer 16 n (wanting_answer content want max_unit bytes 16 (is 0) (for_regular size bytes long unmarked)) e) long short unmarked same
      | Regular long unmarked same is ↦ absurd (let h = unit_answer content want max_unit bytes (made_regular want size (take 12 (drop 4 bytes))) _ _ (is 0) in cc)
      | Marked long short marked is ↦
          ForFinalNumber size refl (same_count answer 8 n (wanting_answer content want max_unit bytes 8 (is 0) (for_final_number size bytes long short marked)) e) long short marked
      | FinalOther long marked other is ↦ absurd (let h = refused_answer content want max_unit bytes (WrongSequence want (number_at 4 bytes)) _ (is 0) in cc)
      | FinalNumbered long short marked same is ↦
          ForFinal size refl (same_count answer 24 n (wanting_answer content want max_unit bytes 24 (is 0) (for_final size bytes long marked)) e) long short marked same
      | FinalLong long marked same over is ↦ absurd (let h = refused_answer content want max_unit bytes (FinalTooLong (number_at 20 bytes)) _ (is 0) in cc)
      | Final long marked same within is ↦ absurd (let h = unit_answer content want max_unit bytes (made_final want (take 12 (drop 8 bytes)) (number_at 20 bytes)) _ _ (is 0) in cc)
    ]

pub asks_for_more : (content : Content) (want : ℕ) (max_unit : Option ℕ) (bytes : List ℕ) (n : ℕ) → (head_of content want max_unit bytes ≡ heads.NeedMore n) ↔ NeedsMore content want bytes n
asks_for_more content want max_unit bytes n = (asked content want max_unit bytes n, asks content want max_unit bytes n)

-- ---- when more bytes follow

number_followed : (n : ℕ) (bytes more : List ℕ) → n + 4 ≤ length bytes → number_at n (bytes ++ more) ≡ number_at n bytes
number_followed n bytes more h =
    let behind : drop n (bytes ++ more) ≡ drop n bytes ++ more = drop-append-le n bytes more (omega arith) in
    let there : take 4 (drop n bytes ++ more) ≡ take 4 (drop n bytes) = take-append-le 4 (drop n bytes) more (omega (arith, length-drop n bytes)) in
    rw (behind, there) refl

needs_still : (content : Content) (want : ℕ) (bytes more : List ℕ) (n : ℕ) → NeedsMore content want bytes n → length (bytes ++ more) < n → NeedsMore content want (bytes ++ more) n
needs_still content want bytes more n (ForNumber size is n_is short) h = ForNumber size is n_is (omega arith)
needs_still content want bytes more n (ForRegular size is n_is long short unmarked same) h =
    let number = number_followed 0 bytes more long in
    ForRegular size is n_is (omega (arith, length-append bytes more)) (omega arith) (λ e. unmarked (sym number ∙ e)) (number ∙ same)
needs_still content want bytes more n (ForFinalNumber size is n_is long short marked) h =
    ForFinalNumber size is n_is (omega (arith, length-append bytes more)) (omega arith) (number_followed 0 bytes more long ∙ marked)
needs_still content want bytes more n (ForFinal size is n_is long short marked same) h =
    ForFinal size is n_is (omega (arith, length-append bytes more)) (omega arith) (number_followed 0 bytes more (omega arith) ∙ marked) (number_followed 4 bytes more long ∙ same)
needs_still content want bytes more n (ForBlock is n_is short) h = ForBlock is n_is (omega arith)

fewer : (content : Content) (want : ℕ) (bytes : List ℕ) (n : ℕ) → NeedsMore content want bytes n → length bytes < n
fewer content want bytes n (ForNumber size is n_is short) = omega arith
fewer content want bytes n (ForRegular size is n_is long short unmarked same) = omega arith
fewer content want bytes n (ForFinalNumber size is n_is long short marked) = omega arith
fewer content want bytes n (ForFinal size is n_is long short marked same) = omega arith
fewer content want bytes n (ForBlock is n_is short) = omega arith

pub decides : (content : Content) (want : ℕ) (max_unit : Option ℕ) (bytes : List ℕ) (n : ℕ) → head_of content want max_unit bytes ≡ heads.NeedMore n → DecidesWithThese content want max_unit bytes n
decides content want max_unit bytes n e = record {
  fewer = fewer content want bytes n (asked content want max_unit bytes n e);
  no_earlier = λ more h. asks content want max_unit (bytes ++ more) n (needs_still content want bytes more n (asked content want max_unit bytes n e) h);
  no_later = λ more h again. let less = fewer content want (bytes ++ more) n (asked content want max_unit (bytes ++ more) n again) in omega arith;
}
