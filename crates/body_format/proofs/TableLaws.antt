-- Frames are judged as the table says.
use Rattle.std.proofs.Common.{◌≡◌, ℕ, ◌+◌, ◌*◌, Bool, true, false, List, ◌++◌, length, Option, Some, None, refl, sym, ap, ◌∙◌, arith}
use Rattle.std.specs.Prelude.{is_some}
use Rattle.std.specs.List.{flat_map, prefix_len, range_with_len}
use Rattle.esdk_fields.specs.Place.{Place}
use Rattle.esdk_fields.specs.Reading.{Reading, Read, Refused, Wanting}
use Rattle.frame_codec.specs.Unit.{Piece, More, Last, Under, frame}
use Rattle.body_format.specs.Rows.{slot, is_more, released, first_other, judged_units}
use Rattle.body_format.specs.Body.{beside_content, judged_frames}
use Rattle.body_format.specs.Table.{listed, slot_bytes, good_regular, good_final, framed_verdict, first_not_regular, tabled_frames}
use Rattle.body_format.specs.Laws.{IsFirst}
use Rattle.body_format.proofs.BodyRows.{frames_row}
use Rattle.body_format.specs.OneSlot.{more_in, last_in, IsTabled}
use Rattle.body_format.proofs.FrameTable.{frame_tabled}
use Rattle.body_format.proofs.Ranges.{flat_map_same}
use Rattle.body_format.proofs.RowLaws.{same_judged, units_are, verdict_is}
use Rattle.body_format.proofs.Slots.{good_before, other_at}

-- ---- readings

more_some : (r : Reading Piece) → is_some (more_in r) ≡ is_more r
more_some (Read (More content) next) = refl
more_some (Read (Last content) next) = refl
more_some (Refused fault at) = refl
more_some Wanting = refl

released_more : (r : Reading Piece) → is_more r ≡ true → released r ≡ listed (more_in r)
released_more (Read (More content) next) h = refl
released_more (Read (Last content) next) h = absurd cc
released_more (Refused fault at) h = absurd cc
released_more Wanting h = absurd cc

pub released_last : (r : Reading Piece) → is_more r ≡ false → released r ≡ listed (last_in r)
released_last (Read (More content) next) h = absurd cc
released_last (Read (Last content) next) h = refl
released_last (Refused fault at) h = refl
released_last Wanting h = refl

-- ---- slots

-- slot k of a body that begins anywhere
at_slot : (frame_length : ℕ) (u : Under) (p : Place) (k : ℕ) → IsTabled frame_length u k (slot_bytes frame_length p.left k) (slot (frame_length + beside_content) (frame frame_length u) p k)
at_slot frame_length u p k = frame_tabled frame_length u k (p.at + k * (frame_length + beside_content)) (slot_bytes frame_length p.left k)

pub some_is : (frame_length : ℕ) (u : Under) (p : Place) (k : ℕ) → is_more (slot (frame_length + beside_content) (frame frame_length u) p k) ≡ is_some (good_regular frame_length u k (slot_bytes frame_length p.left k))
some_is frame_length u p k = sym (more_some (slot (frame_length + beside_content) (frame frame_length u) p k)) ∙ ap is_some (at_slot frame_length u p k).regular

-- tests that agree have one front
prefix_len_same : (f g : ℕ → Bool) (xs : List ℕ) → ((k : ℕ) → f k ≡ g k) → prefix_len f xs ≡ prefix_len g xs
prefix_len_same f g xs same = λ i. prefix_len (λ k. same k i) xs

pub first_same : (frame_length : ℕ) (u : Under) (p : Place) → first_other (frame_length + beside_content) (frame frame_length u) p ≡ first_not_regular frame_length u p.left
unfolding first_other first_not_regular
first_same frame_length u p =
    prefix_len_same (λ k. is_more (slot (frame_length + beside_content) (frame frame_length u) p k)) (λ k. is_some (good_regular frame_length u k (slot_bytes frame_length p.left k))) (range_with_len 0 (length p.left)) (some_is frame_length u p)

-- ---- all of it

pub frames_tabled : (frame_length : ℕ) (u : Under) (p : Place) → judged_frames frame_length u p ≡ tabled_frames frame_length u p.left
unfolding judged_frames tabled_frames
frames_tabled frame_length u p =
    let width : ℕ = frame_length + beside_content in
    let n : ℕ = first_other width (frame frame_length u) p in
    let m : ℕ = first_not_regular frame_length u p.left in
    let same : n ≡ m = first_same frame_length u p in
    let other = other_at width (frame frame_length u) p (frames_row frame_length u) in
    let front : flat_map (λ k. released (slot width (frame frame_length u) p k)) (range_with_len 0 n) ≡ flat_map (λ k. listed (good_regular frame_length u k (slot_bytes frame_length p.left k))) (range_with_len 0 n) =
    flat_map_same (λ k. released (slot width (frame frame_length u) p k)) (λ k. listed (good_regular frame_length u k (slot_bytes frame_length p.left k))) 0 n
    (λ k low high. released_more (slot width (frame frame_length u) p k) (good_before width (frame frame_length u) p k (omega arith)) ∙ ap listed (at_slot frame_length u p k).regular) in
    let last : released (slot width (frame frame_length u) p n) ≡ listed (good_final frame_length u n (slot_bytes frame_length p.left n)) = released_last (slot width (frame frame_length u) p n) other ∙ ap listed (at_slot frame_length u p n).last in
    same_judged (judged_units width (frame frame_length u) p)
    (record { units = flat_map (λ i. listed (good_regular frame_length u i (slot_bytes frame_length p.left i))) (range_with_len 0 m) ++ listed (good_final frame_length u m (slot_bytes frame_length p.left m)); verdict = framed_verdict frame_length u m (slot_bytes frame_length p.left m) })
    (units_are width (frame frame_length u) p
    ∙ ap (λ (l : List (List ℕ)). l ++ released (slot width (frame frame_length u) p n)) front
    ∙ ap (λ (l : List (List ℕ)). flat_map (λ k. listed (good_regular frame_length u k (slot_bytes frame_length p.left k))) (range_with_len 0 n) ++ l) last
    ∙ ap (λ (k : ℕ). flat_map (λ i. listed (good_regular frame_length u i (slot_bytes frame_length p.left i))) (range_with_len 0 k) ++ listed (good_final frame_length u k (slot_bytes frame_length p.left k))) same)
    (verdict_is width (frame frame_length u) p ∙ (at_slot frame_length u p n).verdict other ∙ ap (λ (k : ℕ). framed_verdict frame_length u k (slot_bytes frame_length p.left k)) same)

-- ---- the first slot that isn't a good regular one

there_is : (o : Option (List ℕ)) → is_some o ≡ true → (text : List ℕ) × (o ≡ Some text)
there_is None h = absurd cc
there_is (Some text) h = (text, refl)

there_is_none : (o : Option (List ℕ)) → is_some o ≡ false → o ≡ None
there_is_none None h = refl
there_is_none (Some text) h = absurd cc

pub first_found : (frame_length : ℕ) (u : Under) (body : List ℕ) → IsFirst frame_length u body (first_not_regular frame_length u body)
first_found frame_length u body =
    let p : Place = record { at = 0; left = body } in
    let width : ℕ = frame_length + beside_content in
    let same : first_other width (frame frame_length u) p ≡ first_not_regular frame_length u body = first_same frame_length u p in
    record {
      before = λ k h. there_is (good_regular frame_length u k (slot_bytes frame_length body k)) (sym (some_is frame_length u p k) ∙ good_before width (frame frame_length u) p k (omega arith));
      here = ap (λ (k : ℕ). good_regular frame_length u k (slot_bytes frame_length body k)) (sym same)
          ∙ there_is_none (good_regular frame_length u (first_other width (frame frame_length u) p) (slot_bytes frame_length body (first_other width (frame frame_length u) p))) (sym (some_is frame_length u p (first_other width (frame frame_length u) p)) ∙ other_at width (frame frame_length u) p (frames_row frame_length u));
    }
