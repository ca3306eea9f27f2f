-- The single block, as its reader and as the table have it.
use Rattle.std.proofs.Common.{◌≡◌, ℕ, ◌+◌, ◌*◌, ◌<◌, ◌≤◌, Bool, true, false, List, length, drop, Option, Some, None, refl, sym, ap, subst, ◌∙◌, arith, inl, inr}
use Rattle.std.proofs.lemmas.Bool.{cases_lt, le-ltb, lt-ltb}
use Rattle.std.proofs.lemmas.List.{append-nil}
use Rattle.esdk_fields.specs.declared.contents.Content.TheVariants as contents
use Rattle.esdk_fields.specs.declared.faults.Fault.TheVariants.{BlockTooLong, UnitTooLong, UnitTag}
use Rattle.esdk_fields.specs.Place.{Place}
use Rattle.esdk_fields.specs.Reading.{Reading, Read, Refused, Wanting, then_read}
use Rattle.cipher_spec.specs.Gcm.{opened}
use Rattle.frame_codec.specs.declared.kinds.UnitKind.TheVariants as kinds
use Rattle.frame_codec.specs.declared.unit_heads.UnitHead.{UnitHead}
use Rattle.frame_codec.specs.UnitAad.{unit_aad}
use Rattle.esdk_fields.specs.Limits.{is_over}
use Rattle.frame_codec.specs.UnitHead.{longest_block, block_start, unit_head}
use Rattle.frame_codec.specs.Rows.{long_number_at}
use Rattle.frame_codec.specs.Unit.{Last, unit, block_unit}
use Rattle.frame_codec.proofs.Fields.{place}
use Rattle.frame_codec.proofs.Heads.{ReadsHead}
use Rattle.frame_codec.proofs.Steps.{made_block, after_head}
use Rattle.frame_codec.specs.InPlace.{unit_size}
use Rattle.frame_codec.proofs.Units.{opened_there, unit_wants, unit_reads, unit_refuses}
use Rattle.frame_codec.proofs.Ways.{BlockShort, BlockLong, BlockOver, Block, block_way}
use Rattle.body_format.specs.Rows.{slot, is_more, released, verdict_of, judged_at}
use Rattle.body_format.specs.Body.{judged_block}
use Rattle.body_format.specs.Table.{slice_at, listed, good_block, block_verdict, tabled_block}
use Rattle.body_format.proofs.BodyRows.{block_row, block_last}
use Rattle.body_format.specs.OneSlot.{IsTabledBlock}
use Rattle.body_format.proofs.FrameTable.{ends_at, opened_is, none_or_some}
use Rattle.body_format.proofs.RowLaws.{same_judged, judged_is}
use Rattle.body_format.proofs.Slots.{more_read, first_is}
use Rattle.body_format.proofs.TableLaws.{released_last}

-- ---- each way

-- the content of a block, as the table has it
abbrev block_content : List ℕ → List ℕ → List ℕ → Option (List ℕ)
block_content key id bytes = opened key (slice_at 0 12 bytes) (unit_aad id kinds.Single 1 (long_number_at 12 bytes)) (slice_at 20 (long_number_at 12 bytes) bytes) (slice_at (20 + long_number_at 12 bytes) 16 bytes)

module _ (max_unit : Option ℕ) (key id bytes : List ℕ) where
  tabled_short : length bytes < 20 → IsTabledBlock max_unit key id bytes Wanting
  unfolding good_block block_verdict
  tabled_short short = record { last = rw (lt-ltb (length bytes) 20 short) refl; verdict = rw (lt-ltb (length bytes) 20 short) refl }

  tabled_long : (at : ℕ) → 20 ≤ length bytes → longest_block < long_number_at 12 bytes → IsTabledBlock max_unit key id bytes (Refused (BlockTooLong (long_number_at 12 bytes)) at)
  unfolding good_block block_verdict
  tabled_long at there long = record {
    last = rw (le-ltb (length bytes) 20 there, lt-ltb longest_block (long_number_at 12 bytes) long) refl;
    verdict = rw (le-ltb (length bytes) 20 there, lt-ltb longest_block (long_number_at 12 bytes) long) refl;
  }

  tabled_over : (at : ℕ) → 20 ≤ length bytes → long_number_at 12 bytes ≤ longest_block → is_over max_unit (long_number_at 12 bytes) ≡ true → IsTabledBlock max_unit key id bytes (Refused (UnitTooLong (long_number_at 12 bytes)) at)
  unfolding good_block block_verdict
  tabled_over at there within over = record {
    last = rw (le-ltb (length bytes) 20 there, le-ltb longest_block (long_number_at 12 bytes) within, over) refl;
    verdict = rw (le-ltb (length bytes) 20 there, le-ltb longest_block (long_number_at 12 bytes) within, over) refl;
  }

  tabled_cut : 20 ≤ length bytes → long_number_at 12 bytes ≤ longest_block → is_over max_unit (long_number_at 12 bytes) ≡ false → length bytes < long_number_at 12 bytes + 36 → IsTabledBlock max_unit key id bytes Wanting
  unfolding good_block block_verdict
  tabled_cut there within under short = record {
    last = rw (le-ltb (length bytes) 20 there, le-ltb longest_block (long_number_at 12 bytes) within, under, lt-ltb (length bytes) (long_number_at 12 bytes + 36) short) refl;
    verdict = rw (le-ltb (length bytes) 20 there, le-ltb longest_block (long_number_at 12 bytes) within, under, lt-ltb (length bytes) (long_number_at 12 bytes + 36) short) refl;
  }

  tabled_good : (text : List ℕ) (at : ℕ) → long_number_at 12 bytes ≤ longest_block → is_over max_unit (long_number_at 12 bytes) ≡ false → long_number_at 12 bytes + 36 ≤ length bytes → block_content key id bytes ≡ Some text
      → IsTabledBlock max_unit key id bytes (Read (Last text) (place at (drop (20 + long_number_at 12 bytes + 16) bytes)))
  unfolding good_block block_verdict
  tabled_good text at within under whole good = record {
    last = rw (le-ltb (length bytes) 20 (omega arith), le-ltb longest_block (long_number_at 12 bytes) within, under, le-ltb (length bytes) (long_number_at 12 bytes + 36) whole) (sym good);
    verdict = rw (le-ltb (length bytes) 20 (omega arith), le-ltb longest_block (long_number_at 12 bytes) within, under, le-ltb (length bytes) (long_number_at 12 bytes + 36) whole, good)
        (ends_at bytes (20 + long_number_at 12 bytes + 16) (long_number_at 12 bytes + 36) (omega arith) (omega arith));
  }

  tabled_bad : (at : ℕ) → long_number_at 12 bytes ≤ longest_block → is_over max_unit (long_number_at 12 bytes) ≡ false → long_number_at 12 bytes + 36 ≤ length bytes → block_content key id bytes ≡ None
      → IsTabledBlock max_unit key id bytes (Refused (UnitTag 1) at)
  unfolding good_block block_verdict
  tabled_bad at within under whole bad = record {
    last = rw (le-ltb (length bytes) 20 (omega arith), le-ltb longest_block (long_number_at 12 bytes) within, under, le-ltb (length bytes) (long_number_at 12 bytes + 36) whole) (sym bad);
    verdict = rw (le-ltb (length bytes) 20 (omega arith), le-ltb longest_block (long_number_at 12 bytes) within, under, le-ltb (length bytes) (long_number_at 12 bytes + 36) whole, bad) refl;
  }

-- ---- the reader

head_tabled : (max_unit : Option ℕ) (key id bytes : List ℕ) (at : ℕ) → 20 ≤ length bytes → long_number_at 12 bytes ≤ longest_block → is_over max_unit (long_number_at 12 bytes) ≡ false
    → ReadsHead contents.Single 1 max_unit bytes (made_block (slice_at 0 12 bytes) (long_number_at 12 bytes)) → IsTabledBlock max_unit key id bytes (block_unit max_unit key id (place at bytes))
unfolding block_unit
head_tabled max_unit key id bytes at there within under reads =
    let head : UnitHead = made_block (slice_at 0 12 bytes) (long_number_at 12 bytes) in
    let opening = opened_is key id head bytes in
    elim (cases_lt (length bytes) (long_number_at 12 bytes + 36)) [
      | inl short ↦ subst (IsTabledBlock max_unit key id bytes) (sym (unit_wants contents.Single max_unit key id 1 bytes head at reads (omega arith))) (tabled_cut max_unit key id bytes there within under short)
      | inr whole ↦ elim (none_or_some (opened_there key id head (drop head.size bytes))) [
        | inl bad ↦ subst (IsTabledBlock max_unit key id bytes) (sym (unit_refuses contents.Single max_unit key id 1 bytes head at reads (omega arith) bad)) (tabled_bad max_unit key id bytes (at + unit_size head) within under whole (sym opening ∙ bad))
        | inr good ↦ subst (IsTabledBlock max_unit key id bytes) (sym (unit_reads contents.Single max_unit key id 1 bytes good.0 head at reads (omega arith) good.1))
            (tabled_good max_unit key id bytes good.0 (at + unit_size head) within under whole (sym opening ∙ good.1))
      ]
    ]

block_by : (max_unit : Option ℕ) (key id bytes : List ℕ) (at : ℕ) (r : Reading UnitHead) → block_start max_unit (place at bytes) ≡ r → block_unit max_unit key id (place at bytes) ≡ then_read r (after_head key id)
unfolding block_unit unit unit_head
block_by max_unit key id bytes at r e = ap (λ (r : Reading UnitHead). then_read r (after_head key id)) e

pub block_reads : (max_unit : Option ℕ) (key id bytes : List ℕ) (at : ℕ) → IsTabledBlock max_unit key id bytes (block_unit max_unit key id (place at bytes))
unfolding unit_head
block_reads max_unit key id bytes at =
    elim (block_way max_unit bytes) [
      | BlockShort short is ↦ subst (IsTabledBlock max_unit key id bytes) (sym (block_by max_unit key id bytes at Wanting (is at))) (tabled_short max_unit key id bytes short)
      | BlockLong there long is ↦ subst (IsTabledBlock max_unit key id bytes) (sym (block_by max_unit key id bytes at _ (is at))) (tabled_long max_unit key id bytes (at + 20) there long)
      | BlockOver there within over is ↦ subst (IsTabledBlock max_unit key id bytes) (sym (block_by max_unit key id bytes at _ (is at))) (tabled_over max_unit key id bytes (at + 20) there within over)
      | Block there within under is ↦ head_tabled max_unit key id bytes at there within under (record { inside = there; some = omega arith; is = is })
    ]

not_more : (max_unit : Option ℕ) (key id : List ℕ) (p : Place) (b : Bool) → is_more (block_unit max_unit key id p) ≡ b → is_more (block_unit max_unit key id p) ≡ false
not_more max_unit key id p true e = let read = more_read (block_unit max_unit key id p) e in absurd (block_last max_unit key id p read.next read.content read.is)
not_more max_unit key id p false e = e

pub block_tabled : (max_unit : Option ℕ) (key id : List ℕ) (p : Place) → judged_block max_unit key id p ≡ tabled_block max_unit key id p.left
unfolding judged_block tabled_block
block_tabled max_unit key id p =
    let begin : p.at + 0 * 1 ≡ p.at = omega arith in
    let here : slot 1 (λ k. block_unit max_unit key id) p 0 ≡ block_unit max_unit key id p = ap (λ (n : ℕ). block_unit max_unit key id (place n p.left)) begin in
    let other = not_more max_unit key id p _ refl in
    let tabled = block_reads max_unit key id p.left p.at in
    let first = first_is 1 (λ k. block_unit max_unit key id) p 0 (block_row max_unit key id) (λ k h. absurd (omega arith)) (ap is_more here ∙ other) in
    judged_is 1 (λ k. block_unit max_unit key id) p 0 first
    ∙ same_judged (judged_at 1 (λ k. block_unit max_unit key id) p 0) (record { units = listed (good_block max_unit key id p.left); verdict = block_verdict max_unit key id p.left })
    (append-nil (released (slot 1 (λ k. block_unit max_unit key id) p 0)) ∙ ap released here ∙ released_last (block_unit max_unit key id p) other ∙ ap listed tabled.last)
    (ap verdict_of here ∙ tabled.verdict)
