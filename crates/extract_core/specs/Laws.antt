-- What is extracted, by the judgement of all bytes. Standard: AWS Encryption SDK Specification,
-- "Decrypt".
use Rattle.std.specs.Prelude.{◌≡◌, ◌⊎◌, ℕ, ◌+◌, ◌*◌, ◌≤◌, ◌<◌, List, length, drop, Option, Some}
use Rattle.std.specs.Prelude.{None}
use Rattle.std.specs.List.{concat}
use Rattle.esdk_fields.specs.declared.contents.Content.{Content}
use Rattle.esdk_fields.specs.declared.faults.Fault.{Fault}
use Rattle.esdk_fields.specs.declared.faults.Fault.TheVariants.{Truncated, WrongSequence}
use Rattle.esdk_fields.specs.Bytes.{AreBytes}
use Rattle.context_codec.specs.Context.{KeyValue}
use Rattle.header_codec.specs.declared.settings.Settings.{Settings}
use Rattle.header_codec.specs.Header.{HeaderValue, frame_length}
use Rattle.keyring_trait.specs.Unlocking.{Unlocking, Unlocks}
use Rattle.body_format.specs.declared.verdicts.Verdict.TheVariants.{Whole}
use Rattle.message_format.specs.Judgement.{content, judged, lock_fault}
use Rattle.extract_core.specs.Extract.{IsHeaderOf, body_begin}
use Rattle.extract_core.specs.Extracted.{ByteRange, OpenBody, body_behind, extracted, first_slot}
use Rattle.extract_core.specs.Extracted.{in_range, slots_taken}

-- ---- where each slot that is taken has a unit

-- These bytes begin with this header, which the answer unlocks.
pub record HeaderIsUnlocked (bytes : List ℕ) (settings : Settings) (answer : Unlocking)
    (h : HeaderValue)
    (key : List ℕ) : Type 0 where
  pub header : IsHeaderOf settings h bytes
  pub whole : List KeyValue
  pub only : List KeyValue
  pub unlocks : answer ≡ Unlocks whole only key
  pub sound : lock_fault h only key ≡ None

-- the body behind it
abbrev pub body_at : List ℕ → Settings → HeaderValue → List ℕ → OpenBody
body_at bytes settings h key = body_behind settings h key (drop (body_begin h) bytes)

-- What is extracted is the range of all that is released, and no fault ends it.
abbrev pub IsOfContent : List ℕ → Settings → Unlocking → ByteRange → Type 0
IsOfContent bytes settings answer range = extracted bytes settings answer range ≡ record {
  part = in_range range 0 (content (judged bytes settings answer));
  fault = None;
}

-- Where the judgement of all bytes has a unit for each slot that is taken, the range of its content
-- is extracted, cut at its end.
abbrev pub ExtractsTheContent : Type 0
ExtractsTheContent = (bytes : List ℕ) (settings : Settings) (answer : Unlocking)
    (range : ByteRange) (h : HeaderValue) (key : List ℕ) → AreBytes bytes
    → HeaderIsUnlocked bytes settings answer h key
    → first_slot h.content range + slots_taken (body_at bytes settings h key) range
    ≤ length (judged bytes settings answer).units
    → IsOfContent bytes settings answer range

-- ---- of a whole message

-- The range is empty, or begins in the slot of one of these units.
abbrev pub BeginsWithin : Content → ByteRange → List (List ℕ) → Type 0
BeginsWithin content range units = (range.count ≡ 0) ⊎ (first_slot content range < length units)

-- It isn't empty, and begins behind the slots of all of them.
abbrev pub BeginsBehind : Content → ByteRange → List (List ℕ) → Type 0
BeginsBehind content range units =
    (1 ≤ range.count) × (length units ≤ first_slot content range)

-- M18: the range begins in the slot right behind the final frame, and that is full, or lacks at
-- most four bytes. Then the last bytes of its tag stand in the slot, where a frame's number does.
pub record TakesTagForNumber (content : Content) (range : ByteRange) (units : List (List ℕ))
    (fault : Fault) : Type 0 where
  pub got : ℕ
  pub is : fault ≡ WrongSequence (first_slot content range + 1) got
  pub next : first_slot content range ≡ length units
  pub full : length units * frame_length content ≤ length (concat units) + 4

-- How a range ends of the content of these units, which are all of a message: without a fault where
-- it's empty or begins within their slots; and where it begins behind, by M10, as in a message that
-- is cut, but where the end of a tag is taken for a number.
abbrev pub EndsAsItBegins : Content → ByteRange → List (List ℕ) → Option Fault → Type 0
EndsAsItBegins content range units None = BeginsWithin content range units
EndsAsItBegins content range units (Some fault) = BeginsBehind content range units
    × ((fault ≡ Truncated) ⊎ TakesTagForNumber content range units fault)

-- What is extracted is the range of the content, cut at its end, so nothing where it begins at its
-- end or behind it; and where it begins says how it ends.
pub record ExtractsOfWhole (bytes : List ℕ) (settings : Settings) (answer : Unlocking)
    (range : ByteRange) : Type 0 where
  pub header : HeaderValue
  pub stands : IsHeaderOf settings header bytes
  pub part : (extracted bytes settings answer range).part
      ≡ in_range range 0 (content (judged bytes settings answer))
  pub ends : EndsAsItBegins header.content range (judged bytes settings answer).units
      (extracted bytes settings answer range).fault

-- So it is of a whole message, whatever the range.
abbrev pub ExtractsWholeMessages : Type 0
ExtractsWholeMessages = (bytes : List ℕ) (settings : Settings) (answer : Unlocking)
    (range : ByteRange) → AreBytes bytes
    → (judged bytes settings answer).verdict ≡ Whole
    → ExtractsOfWhole bytes settings answer range
