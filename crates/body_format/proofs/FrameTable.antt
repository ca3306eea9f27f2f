-- A frame, as its reader and as the table have it.
use Rattle.std.proofs.Common.{◌≡◌, ◌⊎◌, ℕ, ◌+◌, ◌<◌, ◌≤◌, Bool, true, false, eqb, ltb, cond, List, length, take, drop, Option, Some, None, refl, sym, ap, subst, ◌∙◌, arith, inl, inr}
use Rattle.std.specs.Prelude.{◌&&◌}
use Rattle.std.proofs.lemmas.Bool.{cases_lt, ne_eqb, eq-eqb, le-ltb, lt-ltb}
use Rattle.std.proofs.lemmas.List.{drop-drop, length-drop}
use Rattle.esdk_fields.specs.declared.contents.Content.TheVariants as contents
use Rattle.esdk_fields.specs.declared.faults.Fault.TheVariants.{WrongSequence, FinalTooLong, UnitTag, TrailingBytes}
use Rattle.esdk_fields.specs.Place.{Place}
use Rattle.esdk_fields.specs.Reading.{Reading, Read, Refused, Wanting, then_read}
use Rattle.cipher_spec.specs.Gcm.{opened}
use Rattle.frame_codec.specs.declared.kinds.UnitKind.TheVariants as kinds
use Rattle.frame_codec.specs.UnitAad.{unit_aad}
use Rattle.frame_codec.specs.declared.unit_heads.UnitHead.{UnitHead}
use Rattle.frame_codec.specs.UnitHead.{final_mark, is_final, frame_start, unit_head}
use Rattle.frame_codec.specs.Rows.{number_at}
use Rattle.frame_codec.specs.Unit.{More, Last, Under, unit, frame, opened_unit}
use Rattle.frame_codec.proofs.Fields.{place}
use Rattle.frame_codec.proofs.Steps.{made_regular, made_final, after_head}
use Rattle.frame_codec.proofs.Heads.{ReadsHead}
use Rattle.frame_codec.specs.InPlace.{unit_size}
use Rattle.frame_codec.proofs.Units.{opened_there, unit_wants, unit_reads, unit_refuses}
use Rattle.frame_codec.proofs.Ways.{Short, Other, Numbered, Regular, Marked, FinalOther, FinalNumbered, FinalLong, Final, frame_way}
use Rattle.body_format.specs.declared.verdicts.Verdict.TheVariants.{Whole, Faulty}
use Rattle.body_format.specs.Rows.{behind_last}
use Rattle.body_format.specs.Table.{slice_at, good_regular, good_final, framed_verdict}
use Rattle.body_format.specs.OneSlot.{IsTabled}

-- ---- each way

pub and_false : (b : Bool) → (b && false) ≡ false
and_false true = refl
and_false false = refl

-- behind the last byte of a unit
pub ends_at : (bytes : List ℕ) (n m : ℕ) → n ≤ length bytes → m ≡ n → behind_last (drop n bytes) ≡ cond (eqb (length bytes) m) Whole (Faulty TrailingBytes)
ends_at bytes n m long same =
    elim (cases_lt n (length bytes)) [
      | inl more ↦ rw (ne_eqb (length (drop n bytes)) 0 (λ e. omega (arith, length-drop n bytes)), ne_eqb (length bytes) m (λ e. omega arith)) refl
      | inr all ↦ rw (eq-eqb (length (drop n bytes)) 0 (omega (arith, length-drop n bytes)), eq-eqb (length bytes) m (omega arith)) refl
    ]

tabled_short : (frame_length : ℕ) (u : Under) (k : ℕ) (bytes : List ℕ) → length bytes < 4 → IsTabled frame_length u k bytes Wanting
unfolding good_regular good_final framed_verdict
tabled_short frame_length u k bytes short = record {
  regular = rw (lt-ltb (length bytes) (frame_length + 32) (omega arith)) refl;
  last = rw (lt-ltb (length bytes) 24 (omega arith)) refl;
  verdict = λ h. rw (lt-ltb (length bytes) 4 short) refl;
}

tabled_other : (frame_length : ℕ) (u : Under) (k : ℕ) (bytes : List ℕ) (at : ℕ) → 4 ≤ length bytes → is_final bytes ≡ false → eqb (number_at 0 bytes) (k + 1) ≡ false
    → IsTabled frame_length u k bytes (Refused (WrongSequence (k + 1) (number_at 0 bytes)) at)
unfolding good_regular good_final framed_verdict
tabled_other frame_length u k bytes at long plain other = record {
  regular = rw (other, and_false) refl;
  last = rw (plain, and_false) refl;
  verdict = λ h. rw (le-ltb (length bytes) 4 long, plain, other) refl;
}

tabled_cut : (frame_length : ℕ) (u : Under) (k : ℕ) (bytes : List ℕ) → 4 ≤ length bytes → is_final bytes ≡ false → eqb (number_at 0 bytes) (k + 1) ≡ true → length bytes < frame_length + 32 → IsTabled frame_length u k bytes Wanting
unfolding good_regular good_final framed_verdict
tabled_cut frame_length u k bytes long plain same short = record {
  regular = rw (lt-ltb (length bytes) (frame_length + 32) short) refl;
  last = rw (plain, and_false) refl;
  verdict = λ h. rw (le-ltb (length bytes) 4 long, plain, same, lt-ltb (length bytes) (frame_length + 32) short) refl;
}

-- the content of a regular frame, as the table has it
abbrev pub regular_content : ℕ → Under → ℕ → List ℕ → Option (List ℕ)
regular_content frame_length u k bytes = opened u.key (slice_at 4 12 bytes) (unit_aad u.id kinds.Regular (k + 1) frame_length) (slice_at 16 frame_length bytes) (slice_at (16 + frame_length) 16 bytes)

tabled_regular : (frame_length : ℕ) (u : Under) (k : ℕ) (bytes text : List ℕ) (next : Place) → is_final bytes ≡ false → eqb (number_at 0 bytes) (k + 1) ≡ true → frame_length + 32 ≤ length bytes
    → regular_content frame_length u k bytes ≡ Some text → IsTabled frame_length u k bytes (Read (More text) next)
unfolding good_regular good_final framed_verdict
tabled_regular frame_length u k bytes text next plain same long good = record {
  regular = rw (le-ltb (length bytes) (frame_length + 32) long, plain, same) (sym good);
  last = rw (plain, and_false) refl;
  verdict = λ h. absurd cc;
}

tabled_regular_bad : (frame_length : ℕ) (u : Under) (k : ℕ) (bytes : List ℕ) (at : ℕ) → is_final bytes ≡ false → eqb (number_at 0 bytes) (k + 1) ≡ true → frame_length + 32 ≤ length bytes
    → regular_content frame_length u k bytes ≡ None → IsTabled frame_length u k bytes (Refused (UnitTag (k + 1)) at)
unfolding good_regular good_final framed_verdict
tabled_regular_bad frame_length u k bytes at plain same long bad = record {
  regular = rw (le-ltb (length bytes) (frame_length + 32) long, plain, same) (sym bad);
  last = rw (plain, and_false) refl;
  verdict = λ h. rw (le-ltb (length bytes) 4 (omega arith), plain, same, le-ltb (length bytes) (frame_length + 32) long) refl;
}

tabled_markless : (frame_length : ℕ) (u : Under) (k : ℕ) (bytes : List ℕ) → 4 ≤ length bytes → is_final bytes ≡ true → length bytes < 8 → IsTabled frame_length u k bytes Wanting
unfolding good_regular good_final framed_verdict
tabled_markless frame_length u k bytes long marked short = record {
  regular = rw (marked, and_false) refl;
  last = rw (lt-ltb (length bytes) 24 (omega arith)) refl;
  verdict = λ h. rw (le-ltb (length bytes) 4 long, marked, lt-ltb (length bytes) 8 short) refl;
}

tabled_final_other : (frame_length : ℕ) (u : Under) (k : ℕ) (bytes : List ℕ) (at : ℕ) → 8 ≤ length bytes → is_final bytes ≡ true → eqb (number_at 4 bytes) (k + 1) ≡ false
    → IsTabled frame_length u k bytes (Refused (WrongSequence (k + 1) (number_at 4 bytes)) at)
unfolding good_regular good_final framed_verdict
tabled_final_other frame_length u k bytes at long marked other = record {
  regular = rw (marked, and_false) refl;
  last = rw (other, and_false) refl;
  verdict = λ h. rw (le-ltb (length bytes) 4 (omega arith), marked, le-ltb (length bytes) 8 long, other) refl;
}

tabled_headless : (frame_length : ℕ) (u : Under) (k : ℕ) (bytes : List ℕ) → 8 ≤ length bytes → is_final bytes ≡ true → eqb (number_at 4 bytes) (k + 1) ≡ true → length bytes < 24 → IsTabled frame_length u k bytes Wanting
unfolding good_regular good_final framed_verdict
tabled_headless frame_length u k bytes long marked same short = record {
  regular = rw (marked, and_false) refl;
  last = rw (lt-ltb (length bytes) 24 short) refl;
  verdict = λ h. rw (le-ltb (length bytes) 4 (omega arith), marked, le-ltb (length bytes) 8 long, same, lt-ltb (length bytes) 24 short) refl;
}

tabled_over : (frame_length : ℕ) (u : Under) (k : ℕ) (bytes : List ℕ) (at : ℕ) → 24 ≤ length bytes → is_final bytes ≡ true → eqb (number_at 4 bytes) (k + 1) ≡ true → ltb frame_length (number_at 20 bytes) ≡ true
    → IsTabled frame_length u k bytes (Refused (FinalTooLong (number_at 20 bytes)) at)
unfolding good_regular good_final framed_verdict
tabled_over frame_length u k bytes at long marked same over = record {
  regular = rw (marked, and_false) refl;
  last = rw (over, and_false) refl;
  verdict = λ h. rw (le-ltb (length bytes) 4 (omega arith), marked, le-ltb (length bytes) 8 (omega arith), same, le-ltb (length bytes) 24 long, over) refl;
}

tabled_final_cut : (frame_length : ℕ) (u : Under) (k : ℕ) (bytes : List ℕ) → 24 ≤ length bytes → is_final bytes ≡ true → eqb (number_at 4 bytes) (k + 1) ≡ true → ltb frame_length (number_at 20 bytes) ≡ false
    → length bytes < number_at 20 bytes + 40 → IsTabled frame_length u k bytes Wanting
unfolding good_regular good_final framed_verdict
tabled_final_cut frame_length u k bytes long marked same within short = record {
  regular = rw (marked, and_false) refl;
  last = rw (lt-ltb (length bytes) (number_at 20 bytes + 40) short, and_false) refl;
  verdict = λ h. rw (le-ltb (length bytes) 4 (omega arith), marked, le-ltb (length bytes) 8 (omega arith), same, le-ltb (length bytes) 24 long, within, lt-ltb (length bytes) (number_at 20 bytes + 40) short) refl;
}

-- the content of a final frame, as the table has it
abbrev pub final_content : ℕ → Under → ℕ → List ℕ → Option (List ℕ)
final_content frame_length u k bytes = opened u.key (slice_at 8 12 bytes) (unit_aad u.id kinds.Final (k + 1) (number_at 20 bytes)) (slice_at 24 (number_at 20 bytes) bytes) (slice_at (24 + number_at 20 bytes) 16 bytes)

tabled_final : (frame_length : ℕ) (u : Under) (k : ℕ) (bytes text : List ℕ) (at : ℕ) → is_final bytes ≡ true → eqb (number_at 4 bytes) (k + 1) ≡ true → ltb frame_length (number_at 20 bytes) ≡ false
    → number_at 20 bytes + 40 ≤ length bytes → final_content frame_length u k bytes ≡ Some text → IsTabled frame_length u k bytes (Read (Last text) (place at (drop (24 + number_at 20 bytes + 16) bytes)))
unfolding good_regular good_final framed_verdict
tabled_final frame_length u k bytes text at marked same within long good = record {
  regular = rw (marked, and_false) refl;
  last = rw (le-ltb (length bytes) 24 (omega arith), marked, same, within, le-ltb (length bytes) (number_at 20 bytes + 40) long) (sym good);
  verdict = λ h. rw (le-ltb (length bytes) 4 (omega arith), marked, le-ltb (length bytes) 8 (omega arith), same, le-ltb (length bytes) 24 (omega arith), within, le-ltb (length bytes) (number_at 20 bytes + 40) long, good)
      (ends_at bytes (24 + number_at 20 bytes + 16) (number_at 20 bytes + 40) (omega arith) (omega arith));
}

tabled_final_bad : (frame_length : ℕ) (u : Under) (k : ℕ) (bytes : List ℕ) (at : ℕ) → is_final bytes ≡ true → eqb (number_at 4 bytes) (k + 1) ≡ true → ltb frame_length (number_at 20 bytes) ≡ false
    → number_at 20 bytes + 40 ≤ length bytes → final_content frame_length u k bytes ≡ None → IsTabled frame_length u k bytes (Refused (UnitTag (k + 1)) at)
unfolding good_regular good_final framed_verdict
tabled_final_bad frame_length u k bytes at marked same within long bad = record {
  regular = rw (marked, and_false) refl;
  last = rw (le-ltb (length bytes) 24 (omega arith), marked, same, within, le-ltb (length bytes) (number_at 20 bytes + 40) long) (sym bad);
  verdict = λ h. rw (le-ltb (length bytes) 4 (omega arith), marked, le-ltb (length bytes) 8 (omega arith), same, le-ltb (length bytes) 24 (omega arith), within, le-ltb (length bytes) (number_at 20 bytes + 40) long, bad) refl;
}

-- ---- the reader

-- the tag and the content, as the reader takes them
pub opened_is : (key id : List ℕ) (head : UnitHead) (bytes : List ℕ) → opened_there key id head (drop head.size bytes)
    ≡ opened key head.iv (unit_aad id head.kind head.number head.length) (slice_at head.size head.length bytes) (slice_at (head.size + head.length) 16 bytes)
unfolding opened_unit
opened_is key id head bytes = ap (λ (l : List ℕ). opened key head.iv (unit_aad id head.kind head.number head.length) (slice_at head.size head.length bytes) (take 16 l)) (drop-drop head.length head.size bytes)

-- a value, or none
pub none_or_some : (o : Option (List ℕ)) → (o ≡ None) ⊎ ((x : List ℕ) × (o ≡ Some x))
none_or_some None = inl refl
none_or_some (Some x) = inr (x, refl)

regular_tabled : (frame_length : ℕ) (u : Under) (k at : ℕ) (bytes : List ℕ) → 16 ≤ length bytes → is_final bytes ≡ false → eqb (number_at 0 bytes) (k + 1) ≡ true
    → ReadsHead (contents.Framed frame_length) (k + 1) None bytes (made_regular (k + 1) frame_length (slice_at 4 12 bytes)) → IsTabled frame_length u k bytes (frame frame_length u k (place at bytes))
unfolding frame
regular_tabled frame_length u k at bytes long plain same reads =
    let head : UnitHead = made_regular (k + 1) frame_length (slice_at 4 12 bytes) in
    let opening = opened_is u.key u.id head bytes in
    elim (cases_lt (length bytes) (frame_length + 32)) [
      | inl short ↦ subst (IsTabled frame_length u k bytes) (sym (unit_wants (contents.Framed frame_length) None u.key u.id (k + 1) bytes head at reads (omega arith))) (tabled_cut frame_length u k bytes (omega arith) plain same short)
      | inr whole ↦ elim (none_or_some (opened_there u.key u.id head (drop head.size bytes))) [
        | inl bad ↦ subst (IsTabled frame_length u k bytes) (sym (unit_refuses (contents.Framed frame_length) None u.key u.id (k + 1) bytes head at reads (omega arith) bad)) (tabled_regular_bad frame_length u k bytes (at + unit_size head) plain same whole (sym opening ∙ bad))
        | inr good ↦ subst (IsTabled frame_length u k bytes) (sym (unit_reads (contents.Framed frame_length) None u.key u.id (k + 1) bytes good.0 head at reads (omega arith) good.1))
            (tabled_regular frame_length u k bytes good.0 (place (at + unit_size head) (drop (unit_size head) bytes)) plain same whole (sym opening ∙ good.1))
      ]
    ]

final_tabled : (frame_length : ℕ) (u : Under) (k at : ℕ) (bytes : List ℕ) → 24 ≤ length bytes → is_final bytes ≡ true → eqb (number_at 4 bytes) (k + 1) ≡ true → ltb frame_length (number_at 20 bytes) ≡ false
    → ReadsHead (contents.Framed frame_length) (k + 1) None bytes (made_final (k + 1) (slice_at 8 12 bytes) (number_at 20 bytes)) → IsTabled frame_length u k bytes (frame frame_length u k (place at bytes))
unfolding frame
final_tabled frame_length u k at bytes long marked same within reads =
    let head : UnitHead = made_final (k + 1) (slice_at 8 12 bytes) (number_at 20 bytes) in
    let opening = opened_is u.key u.id head bytes in
    elim (cases_lt (length bytes) (number_at 20 bytes + 40)) [
      | inl short ↦ subst (IsTabled frame_length u k bytes) (sym (unit_wants (contents.Framed frame_length) None u.key u.id (k + 1) bytes head at reads (omega arith))) (tabled_final_cut frame_length u k bytes long marked same within short)
      | inr whole ↦ elim (none_or_some (opened_there u.key u.id head (drop head.size bytes))) [
        | inl bad ↦ subst (IsTabled frame_length u k bytes) (sym (unit_refuses (contents.Framed frame_length) None u.key u.id (k + 1) bytes head at reads (omega arith) bad)) (tabled_final_bad frame_length u k bytes (at + unit_size head) marked same within whole (sym opening ∙ bad))
        | inr good ↦ subst (IsTabled frame_length u k bytes) (sym (unit_reads (contents.Framed frame_length) None u.key u.id (k + 1) bytes good.0 head at reads (omega arith) good.1))
            (tabled_final frame_length u k bytes good.0 (at + unit_size head) marked same within whole (sym opening ∙ good.1))
      ]
    ]

frame_by : (frame_length : ℕ) (u : Under) (k at : ℕ) (bytes : List ℕ) (r : Reading UnitHead) → frame_start (k + 1) frame_length (place at bytes) ≡ r → frame frame_length u k (place at bytes) ≡ then_read r (after_head u.key u.id)
unfolding frame unit unit_head
frame_by frame_length u k at bytes r e = ap (λ (r : Reading UnitHead). then_read r (after_head u.key u.id)) e

pub frame_tabled : (frame_length : ℕ) (u : Under) (k at : ℕ) (bytes : List ℕ) → IsTabled frame_length u k bytes (frame frame_length u k (place at bytes))
unfolding unit_head
frame_tabled frame_length u k at bytes =
    elim (frame_way (k + 1) frame_length bytes) [
      | Short short is ↦ subst (IsTabled frame_length u k bytes) (sym (frame_by frame_length u k at bytes Wanting (is at))) (tabled_short frame_length u k bytes short)
      | Other long unmarked other is ↦ subst (IsTabled frame_length u k bytes) (sym (frame_by frame_length u k at bytes _ (is at)))
          (tabled_other frame_length u k bytes (at + 4) long (ne_eqb (number_at 0 bytes) final_mark unmarked) (ne_eqb (number_at 0 bytes) (k + 1) other))
      | Numbered long short unmarked same is ↦ subst (IsTabled frame_length u k bytes) (sym (frame_by frame_length u k at bytes Wanting (is at)))
          (tabled_cut frame_length u k bytes long (ne_eqb (number_at 0 bytes) final_mark unmarked) (eq-eqb (number_at 0 bytes) (k + 1) same) (omega arith))
      | Regular long unmarked same is ↦ regular_tabled frame_length u k at bytes long (ne_eqb (number_at 0 bytes) final_mark unmarked) (eq-eqb (number_at 0 bytes) (k + 1) same) (record { inside = long; some = omega arith; is = is })
      | Marked long short marked is ↦ subst (IsTabled frame_length u k bytes) (sym (frame_by frame_length u k at bytes Wanting (is at))) (tabled_markless frame_length u k bytes long (eq-eqb (number_at 0 bytes) final_mark marked) short)
      | FinalOther long marked other is ↦ subst (IsTabled frame_length u k bytes) (sym (frame_by frame_length u k at bytes _ (is at)))
          (tabled_final_other frame_length u k bytes (at + 8) long (eq-eqb (number_at 0 bytes) final_mark marked) (ne_eqb (number_at 4 bytes) (k + 1) other))
      | FinalNumbered long short marked same is ↦ subst (IsTabled frame_length u k bytes) (sym (frame_by frame_length u k at bytes Wanting (is at)))
          (tabled_headless frame_length u k bytes long (eq-eqb (number_at 0 bytes) final_mark marked) (eq-eqb (number_at 4 bytes) (k + 1) same) short)
      | FinalLong long marked same over is ↦ subst (IsTabled frame_length u k bytes) (sym (frame_by frame_length u k at bytes _ (is at)))
          (tabled_over frame_length u k bytes (at + 24) long (eq-eqb (number_at 0 bytes) final_mark marked) (eq-eqb (number_at 4 bytes) (k + 1) same) (lt-ltb frame_length (number_at 20 bytes) over))
      | Final long marked same within is ↦ final_tabled frame_length u k at bytes long (eq-eqb (number_at 0 bytes) final_mark marked) (eq-eqb (number_at 4 bytes) (k + 1) same) (le-ltb frame_length (number_at 20 bytes) within)
          (record { inside = long; some = omega arith; is = is })
    ]
