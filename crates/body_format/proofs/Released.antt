-- What is handed out of the front of a body that was written.
use Rattle.std.proofs.Common.{◌≡◌, ◌⊎◌, ℕ, ◌+◌, ◌-◌, ◌*◌, ◌<◌, ◌≤◌, Bool, true, false, cond, List, [], ◌++◌, length, drop, sym, ap, ◌∙◌, arith, inl, inr}
use Rattle.std.specs.Prelude.{◌==◌}
use Rattle.std.proofs.lemmas.Bool.{cases_lt, le-leb}
use Rattle.std.proofs.lemmas.List.{append-nil}
use Rattle.esdk_fields.specs.declared.faults.Fault.TheVariants.{TrailingBytes}
use Rattle.esdk_fields.specs.Place.{Place, cut}
use Rattle.esdk_fields.specs.Reading.{Reading, Read, Refused, Wanting}
use Rattle.esdk_fields.specs.Sequential.{cut_reading}
use Rattle.frame_codec.specs.Unit.{Piece, More, Last, Under, frame}
use Rattle.frame_codec.specs.Written.{final_frame}
use Rattle.body_format.specs.declared.verdicts.Verdict.TheVariants.{Going, Whole, Faulty}
use Rattle.body_format.specs.Rows.{slot, is_more, released, verdict_of, first_other, judged_units}
use Rattle.body_format.specs.Body.{beside_content}
use Rattle.body_format.specs.Written.{frame_count, piece, pieces, framed_body, IsFramed, AreFull}
use Rattle.body_format.specs.Laws.{FramesHaveCome}
use Rattle.body_format.proofs.BodyRows.{frames_row}
use Rattle.body_format.proofs.CutReadings.{Cut, Unknown, KnownRead, KnownRefused, cut_cases}
use Rattle.body_format.proofs.FrameCounts.{count_is}
use Rattle.body_format.proofs.RowLaws.{reached, slot_cut, slot_stays, front_same, units_are, verdict_is}
use Rattle.body_format.proofs.Slots.{other_at}
use Rattle.body_format.proofs.WrittenBodies.{all_full, final_slot}
use Rattle.body_format.proofs.WrittenRows.{behind_frames, regular_slot, behind_slot, pieces_released}

-- ---- where the front ends within a unit

not_going : (b : Bool) → cond b Whole (Faulty TrailingBytes) ≡ Going → ⊥
not_going true h = cc
not_going false h = cc

ends_within_piece : (piece : Piece) (early : Place) → is_more (Read piece early) ≡ false → verdict_of (Read piece early) ≡ Going → ⊥
ends_within_piece (More content) early other going = cc
ends_within_piece (Last content) early other going = not_going (length early.left == 0) going

-- a unit that isn't good and has no fault isn't all there
ends_within : (n : ℕ) (r : Reading Piece) → Cut n r → is_more (cut_reading n r) ≡ false → verdict_of (cut_reading n r) ≡ Going → cut_reading n r ≡ Wanting
ends_within n r (Unknown e) other going = e
ends_within n r (KnownRead piece next is inside e) other going = absurd (ends_within_piece piece (cut n next) (sym (ap is_more e) ∙ other) (sym (ap verdict_of e) ∙ going))
ends_within n r (KnownRefused fault at is e) other going = let no : verdict_of (Refused fault at) ≡ Going = sym (ap verdict_of e) ∙ going in absurd cc

ends_before : (n : ℕ) (piece : Piece) (next : Place) → cut_reading n (Read piece next) ≡ Wanting → n < next.at
ends_before n piece next e =
    elim (cases_lt n next.at) [
      | inl before ↦ before
      | inr inside ↦ (let no : cond true (Read piece (cut n next)) Wanting ≡ Wanting = sym (ap (λ (b : Bool). cond b (Read piece (cut n next)) Wanting) (le-leb next.at n inside)) ∙ e in absurd cc)
    ]

-- ---- frames

-- the front of regular frames and of a last unit
released_by : (frame_length : ℕ) (u : Under) (text : List ℕ) (m : ℕ) (more content : List ℕ) (at n : ℕ) (end : Place) → AreFull frame_length text m
    → frame frame_length u m (record { at = at + m * (frame_length + beside_content); left = more }) ≡ Read (Last content) end → at ≤ n
    → (judged_units (frame_length + beside_content) (frame frame_length u) (cut n (behind_frames frame_length u text m more at))).verdict ≡ Going
    → (k : ℕ) × ((k ≤ m) × (at + k * (frame_length + beside_content) ≤ n) × ((k ≡ m) ⊎ (n < at + k * (frame_length + beside_content) + (frame_length + beside_content)))
    × ((judged_units (frame_length + beside_content) (frame frame_length u) (cut n (behind_frames frame_length u text m more at))).units ≡ pieces frame_length text k))
released_by frame_length u text m more content at n end full last within going =
    let width : ℕ = frame_length + beside_content in
    let p : Place = behind_frames frame_length u text m more at in
    let row = frames_row frame_length u in
    let k : ℕ = first_other width (frame frame_length u) (cut n p) in
    let at_last : slot width (frame frame_length u) p m ≡ Read (Last content) end = behind_slot frame_length u text m more at full ∙ last in
    let few : k ≤ m = elim (cases_lt m k) [
      | inl many ↦ (let no : false ≡ true = sym (ap is_more at_last) ∙ (slot_stays width (frame frame_length u) p n m row within many).more in absurd cc)
      | inr few ↦ few
    ] in
    let here = slot_cut width (frame frame_length u) p n k row within (omega arith) in
    let other : is_more (cut_reading n (slot width (frame frame_length u) p k)) ≡ false = sym (ap is_more here) ∙ other_at width (frame frame_length u) (cut n p) row in
    let unsaid : verdict_of (cut_reading n (slot width (frame frame_length u) p k)) ≡ Going = sym (ap verdict_of here) ∙ sym (verdict_is width (frame frame_length u) (cut n p)) ∙ going in
    let wants : cut_reading n (slot width (frame frame_length u) p k) ≡ Wanting = ends_within n (slot width (frame frame_length u) p k) (cut_cases n (slot width (frame frame_length u) p k)) other unsaid in
    let no_more : (k ≡ m) ⊎ (n < at + k * width + width) = elim (cases_lt k m) [
      | inl fewer ↦
          (let there = regular_slot frame_length u text m k more at full fewer in
          let before : n < there.next.at = ends_before n (More (piece frame_length text k)) there.next (sym (ap (cut_reading n) there.is) ∙ wants) in
          let end_is = there.end_is in
          inr (omega arith))
      | inr all ↦ inl (omega arith)
    ] in (
      k,
      (
        few,
        reached width (frame frame_length u) p n k row within (omega arith),
        no_more,
        units_are width (frame frame_length u) (cut n p)
            ∙ ap (λ (l : List (List ℕ)). l ++ released (slot width (frame frame_length u) (cut n p) k)) (front_same width (frame frame_length u) p n row within ∙ pieces_released frame_length u text m k more at full few)
            ∙ ap (λ (l : List (List ℕ)). pieces frame_length text k ++ l) (ap released (here ∙ wants))
            ∙ append-nil (pieces frame_length text k),
      ),
    )

-- The front of a body: so many frames are whole, and their pieces of the text are handed out.
pub front_released : (frame_length : ℕ) (u : Under) (text : List ℕ) (at n : ℕ) → IsFramed frame_length text → at ≤ n
    → (judged_units (frame_length + beside_content) (frame frame_length u) (cut n (record { at = at; left = framed_body frame_length u text }))).verdict ≡ Going
    → (count : ℕ) × (FramesHaveCome frame_length (length text) at n count × ((judged_units (frame_length + beside_content) (frame frame_length u) (cut n (record { at = at; left = framed_body frame_length u text }))).units ≡ pieces frame_length text count))
unfolding framed_body
front_released frame_length u text at n framed within going =
    let count : ℕ = frame_count (length text) frame_length in
    let m : ℕ = count - 1 in
    let last : List ℕ = final_frame u count (drop (m * frame_length) text) in
    let some : 1 ≤ count = (count_is (length text) frame_length framed.some).some in
    let begin : ℕ = at + m * (frame_length + beside_content) in
    let read = ap (λ (l : List ℕ). frame frame_length u m (record { at = begin; left = l })) (sym (append-nil last)) ∙ final_slot frame_length u text [] begin framed in
    let found = released_by frame_length u text m last (piece frame_length text m) at n _ (all_full frame_length text framed) read within going in
    let k : ℕ = found.0 in
    let few : k ≤ m = found.1.0 in
    let on : at + (k + 1) * (frame_length + beside_content) ≡ at + k * (frame_length + beside_content) + (frame_length + beside_content) = omega arith in
    let no_more : (k + 1 ≡ count) ⊎ (n < at + (k + 1) * (frame_length + beside_content)) = elim (found.1.2) [ inl all ↦ inl (omega arith) | inr early ↦ inr (omega arith) ] in
    (k, (record { few = omega arith; come = found.1.1; no_more = no_more }, found.1.3))
