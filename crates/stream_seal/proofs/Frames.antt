-- The frames of a text that comes piece by piece.
use Rattle.std.proofs.Common.{◌≡◌, ℕ, ◌+◌, ◌-◌, ◌*◌, ◌<◌, ◌≤◌, List, ◌++◌, length, take, drop, ap, ◌∙◌, arith}
use Rattle.std.proofs.Math.Nat.{mul-le-mul_right}
use Rattle.std.proofs.lemmas.List.{drop-append-le, length-drop, take-append-le, take_all}
use Rattle.frame_codec.specs.Unit.{Under}
use Rattle.frame_codec.specs.Written.{regular_frame, final_frame}
use Rattle.body_format.specs.Written.{frame_count, piece, regular_frames, framed_body}
use Rattle.body_format.proofs.FrameCounts.{IsCount, count_unique}
use Rattle.body_format.proofs.Ranges.{flat_map_one, flat_map_same}

-- a full piece of a text is a piece of it where it goes on
piece_front : (frame : ℕ) (text more : List ℕ) (i : ℕ) → (i + 1) * frame ≤ length text → piece frame (text ++ more) i ≡ piece frame text i
piece_front frame text more i full =
    let product : (i + 1) * frame ≡ i * frame + frame = omega arith in
    ap (take frame) (drop-append-le (i * frame) text more (omega arith))
    ∙ take-append-le frame (drop (i * frame) text) more (omega (arith, length-drop (i * frame) text))

-- and so are the full frames
pub frames_front : (size : ℕ) (u : Under) (text more : List ℕ) (m : ℕ) → m * size ≤ length text → regular_frames size u (text ++ more) m ≡ regular_frames size u text m
unfolding regular_frames
frames_front size u text more m full =
    flat_map_same (λ i. regular_frame u (i + 1) (piece size (text ++ more) i)) (λ i. regular_frame u (i + 1) (piece size text i)) 0 m
    (λ k low high.
    let below : k + 1 ≤ m = omega arith in
    let within : (k + 1) * size ≤ m * size = mul-le-mul_right size below in
    ap (regular_frame u (k + 1)) (piece_front size text more k (omega arith)))

-- one frame more, of the bytes held
pub frames_more : (size : ℕ) (u : Under) (text : List ℕ) (m : ℕ) → length (drop (m * size) text) ≡ size
    → regular_frames size u text (m + 1) ≡ regular_frames size u text m ++ regular_frame u (m + 1) (drop (m * size) text)
unfolding regular_frames
frames_more size u text m full =
    flat_map_one (λ i. regular_frame u (i + 1) (piece size text i)) m
    ∙ ap (λ (l : List ℕ). regular_frames size u text m ++ regular_frame u (m + 1) l) (take_all size (drop (m * size) text) (omega arith))

-- The first m frames of a text are full, and what is left of it is the content of one frame; this is empty only where the text is.
pub record LeavesOne (frame : ℕ) (text : List ℕ) (m : ℕ) : Type 0 where
  pub low : m * frame ≤ length text
  pub high : length text ≤ m * frame + frame
  pub rest : 0 < length text → m * frame < length text

pub count_of : (frame : ℕ) (text : List ℕ) (m : ℕ) → 1 ≤ frame → LeavesOne frame text m → frame_count (length text) frame ≡ m + 1
count_of frame text m wide leaves =
    let back : m + 1 - 1 ≡ m = omega arith in
    let same : (m + 1 - 1) * frame ≡ m * frame = ap (λ (n : ℕ). n * frame) back in
    let is : IsCount (length text) frame (m + 1) = record {
      some = omega arith;
      full = omega (arith, leaves.low);
      all = omega (arith, leaves.high);
      rest = λ some. omega (arith, leaves.rest some);
    } in
    count_unique (length text) frame (m + 1) wide is

-- then the body is these frames and a final one
pub body_of : (size : ℕ) (u : Under) (text : List ℕ) (m : ℕ) → 1 ≤ size → LeavesOne size text m
    → framed_body size u text ≡ regular_frames size u text m ++ final_frame u (m + 1) (drop (m * size) text)
unfolding framed_body
body_of size u text m wide leaves =
    let back : m + 1 - 1 ≡ m = omega arith in
    ap (λ (n : ℕ). regular_frames size u text (n - 1) ++ final_frame u n (drop ((n - 1) * size) text)) (count_of size text m wide leaves)
    ∙ ap (λ (n : ℕ). regular_frames size u text n ++ final_frame u (m + 1) (drop (n * size) text)) back
