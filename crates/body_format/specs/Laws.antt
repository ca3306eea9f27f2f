-- What the laws of this crate say.
use Rattle.std.specs.Prelude.{◌≡◌, ◌⊎◌, ℕ, ◌+◌, ◌*◌, ◌<◌, ◌≤◌, List, ◌∷◌, [], ◌++◌, length, Option}
use Rattle.std.specs.Prelude.{Some, None, IfSome}
use Rattle.std.specs.List.{concat}
use Rattle.esdk_fields.specs.declared.contents.Content.{Content}
use Rattle.esdk_fields.specs.declared.contents.Content.TheVariants.{Single, Framed}
use Rattle.esdk_fields.specs.declared.faults.Fault.{Fault}
use Rattle.esdk_fields.specs.declared.faults.Fault.TheVariants.{TrailingBytes}
use Rattle.esdk_fields.specs.Place.{Place, cut}
use Rattle.frame_codec.specs.UnitHead.{longest_block}
use Rattle.frame_codec.specs.Unit.{Under}
use Rattle.frame_codec.specs.Written.{single_block}
use Rattle.body_format.specs.declared.verdicts.Verdict.TheVariants.{Going, Whole, Faulty}
use Rattle.body_format.specs.Body.{beside_content, judged_frames, judged_block, judged_body}
use Rattle.body_format.specs.Table.{slot_bytes, good_regular, first_not_regular, tabled_frames}
use Rattle.body_format.specs.Table.{tabled_block}
use Rattle.body_format.specs.Written.{frame_count, pieces, regular_frames, framed_body, IsFramed}
use Rattle.body_format.specs.Written.{AreFull}

-- ---- the table

-- Frames are judged as the table says: where units are good, and the verdicts line by line. The
-- offset where the body begins doesn't matter.
abbrev pub JudgesFramesByTheTable : Type 0
JudgesFramesByTheTable = (frame_length : ℕ) (u : Under) (p : Place)
    → judged_frames frame_length u p ≡ tabled_frames frame_length u p.left

abbrev pub JudgesBlocksByTheTable : Type 0
JudgesBlocksByTheTable = (max_unit : Option ℕ) (key id : List ℕ) (p : Place)
    → judged_block max_unit key id p ≡ tabled_block max_unit key id p.left

-- Each slot before this one is a good regular slot, and this one isn't.
pub record IsFirst (frame_length : ℕ) (u : Under) (body : List ℕ) (n : ℕ) : Type 0 where
  pub before : (k : ℕ) → k < n → (text : List ℕ)
      × (good_regular frame_length u k (slot_bytes frame_length body k) ≡ Some text)
  pub here : good_regular frame_length u n (slot_bytes frame_length body n) ≡ None

abbrev pub FindsTheFirst : Type 0
FindsTheFirst = (frame_length : ℕ) (u : Under) (body : List ℕ)
    → IsFirst frame_length u body (first_not_regular frame_length u body)

-- ---- fronts

-- A fault stays when bytes follow, and with it what was handed out before it.
abbrev pub BodyFaultsStay : Type 0
BodyFaultsStay = (content : Content) (max_unit : Option ℕ) (key id : List ℕ) (p : Place) (n : ℕ)
    (fault : Fault) → p.at ≤ n
    → (judged_body content max_unit key id (cut n p)).verdict ≡ Faulty fault
    → judged_body content max_unit key id p ≡ judged_body content max_unit key id (cut n p)

-- What is handed out of the bytes before an offset is what is handed out first of all bytes.
abbrev pub BodyUnitsStay : Type 0
BodyUnitsStay =
    (content : Content) (max_unit : Option ℕ) (key id : List ℕ) (p : Place) (n : ℕ) → p.at ≤ n
    → (more : List (List ℕ)) × ((judged_body content max_unit key id p).units
    ≡ (judged_body content max_unit key id (cut n p)).units ++ more)

-- A byte behind a whole body is a fault.
abbrev pub BodyRefusesTrailingBytes : Type 0
BodyRefusesTrailingBytes =
    (content : Content) (max_unit : Option ℕ) (key id : List ℕ) (p : Place) (n : ℕ) → p.at ≤ n
    → (judged_body content max_unit key id (cut n p)).verdict ≡ Whole → n < p.at + length p.left
    → (judged_body content max_unit key id p).verdict ≡ Faulty TrailingBytes

-- A front of a whole body that isn't all of it is going.
abbrev pub FrontsAreGoing : Type 0
FrontsAreGoing =
    (content : Content) (max_unit : Option ℕ) (key id : List ℕ) (p : Place) (n : ℕ) → p.at ≤ n
    → (judged_body content max_unit key id p).verdict ≡ Whole → n < p.at + length p.left
    → (judged_body content max_unit key id (cut n p)).verdict ≡ Going

-- ---- what is written

-- A text in frames is whole, and its units are the pieces of the text, whatever the limit.
abbrev pub FramedBodiesAreWhole : Type 0
FramedBodiesAreWhole = (frame_length : ℕ) (u : Under) (text : List ℕ) (max_unit : Option ℕ) (at : ℕ)
    → IsFramed frame_length text
    → judged_body (Framed frame_length) max_unit u.key u.id
    (record { at = at; left = framed_body frame_length u text })
    ≡ record {
      units = pieces frame_length text (frame_count (length text) frame_length);
      verdict = Whole;
    }

-- Joined, the pieces are the text.
abbrev pub PiecesAreTheText : Type 0
PiecesAreTheText = (frame : ℕ) (text : List ℕ) → 1 ≤ frame
    → concat (pieces frame text (frame_count (length text) frame)) ≡ text

-- A single block within the limit is whole, and its unit is the text.
abbrev pub BlocksAreWhole : Type 0
BlocksAreWhole = (max_unit : Option ℕ) (key id iv text : List ℕ) (at : ℕ) → length iv ≡ 12
    → length text ≤ longest_block → IfSome max_unit (λ most. length text ≤ most)
    → judged_body Single max_unit key id (record { at = at; left = single_block key id iv text })
    ≡ record { units = text ∷ []; verdict = Whole }

-- How long a text in frames is.
abbrev pub HasFramedSize : Type 0
HasFramedSize = (frame_length : ℕ) (u : Under) (text : List ℕ) → IsFramed frame_length text
    → length (framed_body frame_length u text)
    ≡ length text + frame_count (length text) frame_length * beside_content + 8

-- Of a body that begins at one offset, in frames of this length, the bytes before another have
-- come. So many frames are whole, and one more isn't.
pub record FramesHaveCome (frame_length size at n count : ℕ) : Type 0 where
  pub few : count + 1 ≤ frame_count size frame_length
  pub come : at + count * (frame_length + beside_content) ≤ n
  pub no_more : (count + 1 ≡ frame_count size frame_length)
      ⊎ (n < at + (count + 1) * (frame_length + beside_content))

-- Of a front of a written body, exactly the whole frames that have come are handed out.
abbrev pub FrontsReleaseFrames : Type 0
FrontsReleaseFrames = (frame_length : ℕ) (u : Under) (text : List ℕ) (max_unit : Option ℕ)
    (at n : ℕ) → IsFramed frame_length text
    → at ≤ n → n < at + length (framed_body frame_length u text)
    → (count : ℕ) × (FramesHaveCome frame_length (length text) at n count
    × (judged_body (Framed frame_length) max_unit u.key u.id
    (cut n (record { at = at; left = framed_body frame_length u text }))
    ≡ record { units = pieces frame_length text count; verdict = Going }))

-- Full frames alone are handed out, and the body is going.
abbrev pub ReleasesFullFrames : Type 0
ReleasesFullFrames = (frame_length : ℕ) (u : Under) (text : List ℕ) (m : ℕ) (max_unit : Option ℕ)
    (at : ℕ) → AreFull frame_length text m
    → judged_body (Framed frame_length) max_unit u.key u.id
    (record { at = at; left = regular_frames frame_length u text m })
    ≡ record { units = pieces frame_length text m; verdict = Going }
