-- A body that was written: what stands at each of its slots.
use Rattle.std.proofs.Common.{◌≡◌, ℕ, zero, suc, ◌+◌, ◌-◌, ◌*◌, ◌<◌, ◌≤◌, true, false, List, [], ◌∷◌, ◌++◌, length, drop, ap, ◌∙◌, append_assoc, arith}
use Rattle.std.specs.List.{flat_map, range_with_len}
use Rattle.std.proofs.Math.Nat.{mul-le-mul_right}
use Rattle.std.proofs.lemmas.List.{drop_at, length-append}
use Rattle.std.proofs.lemmas.List.Concat.{flat_map-cons, flat_map_single}
use Rattle.esdk_fields.specs.Place.{Place}
use Rattle.esdk_fields.specs.Reading.{Reading, Read}
use Rattle.frame_codec.specs.UnitHead.{final_mark}
use Rattle.frame_codec.specs.Unit.{Piece, More, Under, frame}
use Rattle.frame_codec.specs.Written.{regular_frame}
use Rattle.frame_codec.proofs.WrittenAgain.{regular_frame_again, length-regular_frame}
use Rattle.body_format.specs.Rows.{JudgedBody, slot, is_more, released, verdict_of, first_other, judged_units, IsRow}
use Rattle.body_format.specs.Body.{beside_content}
use Rattle.body_format.specs.Written.{piece, pieces, regular_frames, AreFull}
use Rattle.body_format.proofs.Ranges.{flat_map_same, flat_map_add}
use Rattle.body_format.proofs.Slots.{first_is}
use Rattle.body_format.proofs.RowLaws.{units_are, verdict_is}
use Rattle.body_format.proofs.FrameCounts.{length-piece}

-- ---- texts of one length in a row

pub length-rows : (g : ℕ → List ℕ) (width a n : ℕ) → ((i : ℕ) → a ≤ i → i < a + n → length (g i) ≡ width) → length (flat_map g (range_with_len a n)) ≡ n * width
length-rows g width a zero each = omega arith
length-rows g width a (suc n) each =
    let rest = length-rows g width (a + 1) n (λ i low high. each i (omega arith) (omega arith)) in
    let first : length (g a) ≡ width = each a (omega arith) (omega arith) in
    omega (arith, ap length (flat_map-cons g a (range_with_len (a + 1) n)), length-append (g a) (flat_map g (range_with_len (a + 1) n)), rest, first)

-- behind the first k of them
pub rows_from : (g : ℕ → List ℕ) (width n k : ℕ) (more : List ℕ) → ((i : ℕ) → i < n → length (g i) ≡ width) → k ≤ n
    → drop (k * width) (flat_map g (range_with_len 0 n) ++ more) ≡ flat_map g (range_with_len k (n - k)) ++ more
rows_from g width n k more each few =
    let split : n ≡ k + (n - k) = omega arith in
    ap (λ (m : ℕ). drop (k * width) (flat_map g (range_with_len 0 m) ++ more)) split
    ∙ ap (λ (l : List ℕ). drop (k * width) (l ++ more)) (flat_map_add g k (n - k))
    ∙ ap (drop (k * width)) (append_assoc (flat_map g (range_with_len 0 k)) (flat_map g (range_with_len k (n - k))) more)
    ∙ drop_at (flat_map g (range_with_len 0 k)) (flat_map g (range_with_len k (n - k)) ++ more) (k * width) (length-rows g width 0 k (λ i low high. each i (omega arith)))

-- ---- regular frames in a row

length-full : (frame_length : ℕ) (text : List ℕ) (m i : ℕ) → AreFull frame_length text m → i < m → length (piece frame_length text i) ≡ frame_length
length-full frame_length text m i full h =
    let low : (i + 1) * frame_length ≤ m * frame_length = mul-le-mul_right frame_length (omega arith) in
    length-piece frame_length text i (omega (arith, full.full))

length-one : (frame_length : ℕ) (u : Under) (text : List ℕ) (m i : ℕ) → AreFull frame_length text m → i < m → length (regular_frame u (i + 1) (piece frame_length text i)) ≡ frame_length + beside_content
length-one frame_length u text m i full h = omega (arith, length-regular_frame u (i + 1) (piece frame_length text i), length-full frame_length text m i full h)

pub length-regular_frames : (frame_length : ℕ) (u : Under) (text : List ℕ) (m : ℕ) → AreFull frame_length text m → length (regular_frames frame_length u text m) ≡ m * (frame_length + beside_content)
unfolding regular_frames
length-regular_frames frame_length u text m full = length-rows (λ i. regular_frame u (i + 1) (piece frame_length text i)) (frame_length + beside_content) 0 m (λ i low high. length-one frame_length u text m i full (omega arith))

-- the place where they begin, with more bytes behind them
abbrev pub behind_frames : ℕ → Under → List ℕ → ℕ → List ℕ → ℕ → Place
behind_frames frame_length u text m more at = record { at = at; left = regular_frames frame_length u text m ++ more }

regular_left : (frame_length : ℕ) (u : Under) (text : List ℕ) (m k : ℕ) (more : List ℕ) → AreFull frame_length text m → k ≤ m
    → drop (k * (frame_length + beside_content)) (regular_frames frame_length u text m ++ more) ≡ flat_map (λ i. regular_frame u (i + 1) (piece frame_length text i)) (range_with_len k (m - k)) ++ more
unfolding regular_frames
regular_left frame_length u text m k more full h = rows_from (λ i. regular_frame u (i + 1) (piece frame_length text i)) (frame_length + beside_content) m k more (λ i low. length-one frame_length u text m i full low) h

-- a slot among them has its frame
pub record HasFrame (frame_length : ℕ) (text : List ℕ) (k : ℕ) (r : Reading Piece) (end : ℕ) : Type 0 where
  pub next : Place
  pub is : r ≡ Read (More (piece frame_length text k)) next
  pub end_is : next.at ≡ end

pub regular_slot : (frame_length : ℕ) (u : Under) (text : List ℕ) (m k : ℕ) (more : List ℕ) (at : ℕ) → AreFull frame_length text m → k < m
    → HasFrame frame_length text k (slot (frame_length + beside_content) (frame frame_length u) (behind_frames frame_length u text m more at) k) (at + k * (frame_length + beside_content) + (frame_length + beside_content))
regular_slot frame_length u text m k more at full h =
    let begin : ℕ = at + k * (frame_length + beside_content) in
    let rest : List ℕ = flat_map (λ i. regular_frame u (i + 1) (piece frame_length text i)) (range_with_len (k + 1) (m - (k + 1))) ++ more in
    let one : m - k ≡ suc (m - (k + 1)) = omega arith in
    let left : drop (k * (frame_length + beside_content)) (regular_frames frame_length u text m ++ more) ≡ regular_frame u (k + 1) (piece frame_length text k) ++ rest =
    regular_left frame_length u text m k more full (omega arith)
    ∙ ap (λ (n : ℕ). flat_map (λ i. regular_frame u (i + 1) (piece frame_length text i)) (range_with_len k n) ++ more) one
    ∙ ap (λ (l : List ℕ). l ++ more) (flat_map-cons (λ i. regular_frame u (i + 1) (piece frame_length text i)) k (range_with_len (k + 1) (m - (k + 1))))
    ∙ append_assoc (regular_frame u (k + 1) (piece frame_length text k)) (flat_map (λ i. regular_frame u (i + 1) (piece frame_length text i)) (range_with_len (k + 1) (m - (k + 1)))) more in
    let len : length (piece frame_length text k) ≡ frame_length = length-full frame_length text m k full h in
    let few : m < final_mark = full.few in
    record {
      next = record { at = begin + (length (piece frame_length text k) + 32); left = rest };
      is = ap (λ (l : List ℕ). frame frame_length u k (record { at = begin; left = l })) left ∙ regular_frame_again frame_length u k (piece frame_length text k) rest begin (omega arith) len;
      end_is = omega arith;
    }

-- and the one behind them has what stands there
pub behind_slot : (frame_length : ℕ) (u : Under) (text : List ℕ) (m : ℕ) (more : List ℕ) (at : ℕ) → AreFull frame_length text m
    → slot (frame_length + beside_content) (frame frame_length u) (behind_frames frame_length u text m more at) m ≡ frame frame_length u m (record { at = at + m * (frame_length + beside_content); left = more })
behind_slot frame_length u text m more at full =
    let none : m - m ≡ 0 = omega arith in
    ap (λ (l : List ℕ). frame frame_length u m (record { at = at + m * (frame_length + beside_content); left = l }))
    (regular_left frame_length u text m m more full (omega arith) ∙ ap (λ (n : ℕ). flat_map (λ i. regular_frame u (i + 1) (piece frame_length text i)) (range_with_len m n) ++ more) none)

-- ---- their judgement

pub regular_is_more : (frame_length : ℕ) (u : Under) (text : List ℕ) (m k : ℕ) (more : List ℕ) (at : ℕ) → AreFull frame_length text m → k < m → is_more (slot (frame_length + beside_content) (frame frame_length u) (behind_frames frame_length u text m more at) k) ≡ true
regular_is_more frame_length u text m k more at full h = ap is_more (regular_slot frame_length u text m k more at full h).is

pub pieces_released : (frame_length : ℕ) (u : Under) (text : List ℕ) (m n : ℕ) (more : List ℕ) (at : ℕ) → AreFull frame_length text m → n ≤ m
    → flat_map (λ k. released (slot (frame_length + beside_content) (frame frame_length u) (behind_frames frame_length u text m more at) k)) (range_with_len 0 n) ≡ pieces frame_length text n
pieces_released frame_length u text m n more at full h =
    flat_map_same (λ k. released (slot (frame_length + beside_content) (frame frame_length u) (behind_frames frame_length u text m more at) k)) (λ k. piece frame_length text k ∷ []) 0 n
    (λ k low high. ap released (regular_slot frame_length u text m k more at full (omega arith)).is)
    ∙ flat_map_single (piece frame_length text) (range_with_len 0 n)

-- Regular frames are handed out, and then comes what is said behind them.
pub record JudgedBehind (frame_length : ℕ) (text : List ℕ) (m : ℕ) (r : Reading Piece) (j : JudgedBody) : Type 0 where
  pub units : j.units ≡ pieces frame_length text m ++ released r
  pub verdict : j.verdict ≡ verdict_of r

pub judged_behind : (frame_length : ℕ) (u : Under) (text : List ℕ) (m : ℕ) (more : List ℕ) (at : ℕ) → IsRow (frame_length + beside_content) (frame frame_length u) → AreFull frame_length text m
    → is_more (frame frame_length u m (record { at = at + m * (frame_length + beside_content); left = more })) ≡ false
    → JudgedBehind frame_length text m (frame frame_length u m (record { at = at + m * (frame_length + beside_content); left = more })) (judged_units (frame_length + beside_content) (frame frame_length u) (behind_frames frame_length u text m more at))
judged_behind frame_length u text m more at row full other =
    let width : ℕ = frame_length + beside_content in
    let p : Place = behind_frames frame_length u text m more at in
    let here = behind_slot frame_length u text m more at full in
    let first : first_other width (frame frame_length u) p ≡ m = first_is width (frame frame_length u) p m row (λ k h. regular_is_more frame_length u text m k more at full h) (ap is_more here ∙ other) in
    record {
      units = units_are width (frame frame_length u) p
          ∙ ap (λ (k : ℕ). flat_map (λ k. released (slot width (frame frame_length u) p k)) (range_with_len 0 k) ++ released (slot width (frame frame_length u) p k)) first
          ∙ ap (λ (l : List (List ℕ)). l ++ released (slot width (frame frame_length u) p m)) (pieces_released frame_length u text m m more at full (omega arith))
          ∙ ap (λ (r : Reading Piece). pieces frame_length text m ++ released r) here;
      verdict = verdict_is width (frame frame_length u) p ∙ ap (λ (k : ℕ). verdict_of (slot width (frame frame_length u) p k)) first ∙ ap verdict_of here;
    }
