-- The buffer of an open frame.
use Rattle.std.proofs.Common.{◌≡◌, ℕ, ◌+◌, ◌-◌, ◌≤◌, List, [], ◌++◌, length, drop, refl, sym, ap, ◌∙◌, arith}
use Rattle.std.proofs.lemmas.List.{length-drop, length-append, drop-append-le}
use Rattle.stream_seal.specs.declared.frame_buffer.Stage.{Stage}
use Rattle.stream_seal.specs.declared.frame_buffer.Stage.TheVariants.{Open, Regular, Final}
use Rattle.stream_seal.specs.FrameBuffer.{FrameValue, FitsFrame, text_in, frame_out, final_head_length, regular_head_length}

-- what a contract sees of these fields
abbrev pub value_of : Stage → ℕ → List ℕ → FrameValue
value_of stage size bytes = record { size = size; text = text_in stage bytes; out = frame_out stage bytes }

abbrev pub value_with : ℕ → List ℕ → List ℕ → FrameValue
value_with size text out = record { size = size; text = text; out = out }

-- a buffer that gives nothing is open: a sealed frame isn't empty
open_is : (stage : Stage) (size : ℕ) (bytes : List ℕ) (capacity : ℕ) → FitsFrame stage size bytes capacity → frame_out stage bytes ≡ [] → stage ≡ Open
open_is Open size bytes capacity fits none = refl
open_is Regular size bytes capacity fits none = absurd (omega (arith, fits.head, ap length none, length-drop (final_head_length - regular_head_length) bytes))
open_is Final size bytes capacity fits none = absurd (omega (arith, fits.head, ap length none))

-- The frame is open, and its content stands behind the room for a head.
pub record HoldsOpen (stage : Stage) (size : ℕ) (bytes : List ℕ) (value : FrameValue) : Type 0 where
  pub open_stage : stage ≡ Open
  pub size_is : value.size ≡ size
  pub text_is : value.text ≡ drop final_head_length bytes
  pub few : length bytes ≤ size + final_head_length

pub holds_open : (stage : Stage) (size : ℕ) (bytes : List ℕ) (capacity : ℕ) (value : FrameValue) → FitsFrame stage size bytes capacity → value_of stage size bytes ≡ value
    → value.out ≡ [] → HoldsOpen stage size bytes value
holds_open stage size bytes capacity value fits is none =
    let opened : stage ≡ Open = open_is stage size bytes capacity fits (ap (λ (f : FrameValue). f.out) is ∙ none) in
    let text : text_in stage bytes ≡ drop final_head_length bytes = ap (λ (s : Stage). text_in s bytes) opened in
    record {
      open_stage = opened;
      size_is = sym (ap (λ (f : FrameValue). f.size) is);
      text_is = sym (ap (λ (f : FrameValue). f.text) is) ∙ text;
      few = omega (arith, fits.head, fits.short, ap length text, length-drop final_head_length bytes);
    }

-- more content
pub pushed : (stage : Stage) (size : ℕ) (bytes more : List ℕ) (capacity capacity' : ℕ) (value : FrameValue) → FitsFrame stage size bytes capacity → HoldsOpen stage size bytes value
    → length value.text + length more ≤ value.size → capacity ≤ capacity' → FitsFrame stage size (bytes ++ more) capacity'
pushed stage size bytes more capacity capacity' value fits held room grown =
    let text : text_in stage (bytes ++ more) ≡ drop final_head_length (bytes ++ more) = ap (λ (s : Stage). text_in s (bytes ++ more)) held.open_stage in
    record {
      head = omega (arith, fits.head, length-append bytes more);
      short = omega (arith, ap length text, length-drop final_head_length (bytes ++ more), length-append bytes more, room, held.size_is, ap length held.text_is, length-drop final_head_length bytes, fits.head);
      some = fits.some;
      narrow = fits.narrow;
      room = omega (arith, fits.room);
    }

pub pushed_value : (stage : Stage) (size : ℕ) (bytes more : List ℕ) (capacity : ℕ) (value : FrameValue) → FitsFrame stage size bytes capacity → HoldsOpen stage size bytes value
    → value.out ≡ [] → value_of stage size (bytes ++ more) ≡ record value { text = value.text ++ more }
pushed_value stage size bytes more capacity value fits held none =
    let text : text_in stage (bytes ++ more) ≡ value.text ++ more =
    ap (λ (s : Stage). text_in s (bytes ++ more)) held.open_stage ∙ drop-append-le final_head_length bytes more fits.head ∙ ap (λ (l : List ℕ). l ++ more) (sym held.text_is) in
    let out : frame_out stage (bytes ++ more) ≡ value.out = ap (λ (s : Stage). frame_out s (bytes ++ more)) held.open_stage ∙ sym none in
    ap (λ (n : ℕ). value_with n (text_in stage (bytes ++ more)) (frame_out stage (bytes ++ more))) (sym held.size_is)
    ∙ ap (λ (l : List ℕ). value_with value.size l (frame_out stage (bytes ++ more))) text ∙ ap (λ (l : List ℕ). value_with value.size (value.text ++ more) l) out

-- a frame that was sealed
pub sealed_value : (size : ℕ) (frame : List ℕ) (value : FrameValue) (out : List ℕ) → value.size ≡ size → frame ≡ out
    → value_with size [] frame ≡ record value { text = []; out = out }
sealed_value size frame value out size_is is =
    ap (λ (n : ℕ). value_with n [] frame) (sym size_is) ∙ ap (λ (l : List ℕ). value_with value.size [] l) is
