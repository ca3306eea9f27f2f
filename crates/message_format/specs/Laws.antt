-- What the laws of this crate say of messages and of how bytes are judged.
use Rattle.std.specs.Prelude.{◌≡◌, ◌≢◌, ℕ, ◌+◌, ◌-◌, ◌*◌, ◌/◌, ◌<◌, ◌≤◌, min, nat_le, Bool, true}
use Rattle.std.specs.Prelude.{false, List, ◌++◌, length, take, drop, IfSome, Some, None}
use Rattle.esdk_fields.specs.declared.contents.Content.TheVariants.{Single, Framed}
use Rattle.esdk_fields.specs.declared.faults.Fault.{Fault}
use Rattle.esdk_fields.specs.declared.faults.Fault.TheVariants.{Commitment, HeaderTag}
use Rattle.esdk_fields.specs.declared.faults.Fault.TheVariants.{TrailingBytes}
use Rattle.context_codec.specs.Context.{KeyValue}
use Rattle.edk_codec.specs.Entry.{Entry}
use Rattle.header_codec.specs.declared.settings.Settings.{Settings}
use Rattle.header_codec.specs.Header.{iv_text}
use Rattle.header_codec.specs.Table.{HeaderFields, header_fault, head}
use Rattle.suite_table.specs.declared.suite.Suite.TheVariants.{Committing}
use Rattle.suite_table.specs.Keys.{derived, commitment}
use Rattle.context_codec.specs.Parts.{holds, only_of}
use Rattle.keyring_trait.specs.Wrapping.{WrapKeyValue}
use Rattle.keyring_trait.specs.Unlocking.{Unlocking, Refuses, Unlocks, reserved_key}
use Rattle.keyring_trait.specs.Laws.{AreWrapped, IsEnough, AreGiven}
use Rattle.body_format.specs.declared.verdicts.Verdict.TheVariants.{Going, Whole, Faulty}
use Rattle.body_format.specs.Body.{beside_content}
use Rattle.body_format.specs.Written.{frame_count, pieces}
use Rattle.body_format.specs.Table.{tabled_frames, tabled_block}
use Rattle.message_format.specs.Message.{header_tag, header_body, message, IsWritable}
use Rattle.message_format.specs.Judgement.{Judged, locked, opened_as, judged, content}
use Rattle.message_format.specs.Reading.{unlocking, read}

-- ---- when more bytes come

-- A fault stays, and so do the units that were released before it.
abbrev pub FaultsStay : (List ℕ → Judged) → Type 0
FaultsStay judgement = (bytes more : List ℕ) (fault : Fault)
    → (judgement bytes).verdict ≡ Faulty fault → judgement (bytes ++ more) ≡ judgement bytes

-- What was released is never taken back.
abbrev pub UnitsStay : (List ℕ → Judged) → Type 0
UnitsStay judgement = (bytes more : List ℕ)
    → (added : List (List ℕ)) × ((judgement (bytes ++ more)).units
    ≡ (judgement bytes).units ++ added)

-- What is unlocked stays unlocked.
abbrev pub UnlockingStays : (List ℕ → Judged) → Type 0
UnlockingStays judgement = (bytes more : List ℕ) → (judgement bytes).unlocked ≡ true
    → (judgement (bytes ++ more)).unlocked ≡ true

-- Nothing may follow a whole message, not one byte.
abbrev pub RefusesTrailingBytes : (List ℕ → Judged) → Type 0
RefusesTrailingBytes judgement =
    (bytes more : List ℕ) → (judgement bytes).verdict ≡ Whole → 1 ≤ length more
    → judgement (bytes ++ more) ≡ record {
      unlocked = true;
      units = (judgement bytes).units;
      verdict = Faulty TrailingBytes;
    }

-- A front of a whole message that isn't all of it wants more bytes.
abbrev pub FrontsGoOn : (List ℕ → Judged) → Type 0
FrontsGoOn judgement = (bytes more : List ℕ) → (judgement (bytes ++ more)).verdict ≡ Whole
    → 1 ≤ length more → (judgement bytes).verdict ≡ Going

-- of the judgement under every answer
abbrev pub OfJudged : ((List ℕ → Judged) → Type 0) → Type 0
OfJudged law =
    (settings : Settings) (answer : Unlocking) → law (λ bytes. judged bytes settings answer)

-- of the judgement by every reader
abbrev pub OfRead : ((List ℕ → Judged) → Type 0) → Type 0
OfRead law = (settings : Settings) (given : List KeyValue) (required : List (List ℕ))
    (keys : List WrapKeyValue) → law (λ bytes. read bytes settings given required keys)

-- ---- what is written

-- no limit of the reader's is passed
pub record IsWithinLimits (settings : Settings) (size : ℕ) (entries : List Entry) : Type 0 where
  pub max_keys : IfSome settings.max_keys (λ most. length entries ≤ most)
  pub max_unit : IfSome settings.max_unit (λ most. size ≤ most)

-- a text's message is whole, and one unit was released for each frame
abbrev pub whole_of_text : List ℕ → ℕ → Judged
whole_of_text text size = record {
  unlocked = true;
  units = pieces size text
      (frame_count (length text) size);
  verdict = Whole;
}

-- A written message is whole under every answer that has its data key and the pairs that it doesn't
-- store.
abbrev pub JudgesWhatIsWritten : Type 0
JudgesWhatIsWritten = (text : List ℕ) (c : List KeyValue) (required : List (List ℕ)) (size : ℕ)
    (key : List ℕ) (entries : List Entry) (id : List ℕ) (settings : Settings)
    (whole : List KeyValue)
    → IsWritable text c required size key entries id → IsWithinLimits settings size entries
    → judged (message text c required size key entries id) settings
    (Unlocks whole (only_of required c) key) ≡ whole_of_text text size

-- What is released of a whole text is the text.
abbrev pub ReleasesTheText : Type 0
ReleasesTheText = (text : List ℕ) (size : ℕ) → 1 ≤ size → content (whole_of_text text size) ≡ text

-- how many regular frames are whole, when so many bytes of the body have come
abbrev pub frames_in : ℕ → ℕ → ℕ → ℕ
frames_in size count n = min (count - 1) (n / (size + beside_content))

-- where the body of a written message begins
abbrev pub body_start : List KeyValue → List (List ℕ) → ℕ → List ℕ → List Entry → List ℕ → ℕ
body_start c required size key entries id = length (header_body c required size key entries id) + 16

-- of a front of n bytes: the header is unlocked once its tag has come, the regular frames that are
-- whole are released, and more bytes are wanted
abbrev pub front_of_text : List ℕ → List KeyValue → List (List ℕ) → ℕ → List ℕ → List Entry → List ℕ
    → ℕ → Judged
front_of_text text c required size key entries id n = record {
  unlocked = nat_le (body_start c required size key entries id) n;
  units = pieces size text (frames_in size (frame_count (length text) size)
      (n - body_start c required size key entries id));
  verdict = Going;
}

-- A front of a written message that isn't all of it is judged so.
abbrev pub ReleasesWholeFrames : Type 0
ReleasesWholeFrames = (text : List ℕ) (c : List KeyValue) (required : List (List ℕ)) (size : ℕ)
    (key : List ℕ) (entries : List Entry) (id : List ℕ) (settings : Settings)
    (whole : List KeyValue) (n : ℕ)
    → IsWritable text c required size key entries id → IsWithinLimits settings size entries
    → n < length (message text c required size key entries id)
    → judged (take n (message text c required size key entries id)) settings
    (Unlocks whole (only_of required c) key) ≡ front_of_text text c required size key entries id n

-- What m frames have of a text is its front.
abbrev pub ReleasesTheFront : Type 0
ReleasesTheFront = (text : List ℕ) (size m : ℕ) (unlocked : Bool)
    → content (record { unlocked = unlocked; units = pieces size text m; verdict = Going })
    ≡ take (m * size) text

-- ---- round trip

-- A reader whose keys hold one that the writer wrapped under, which is given the required pairs and
-- beside them only pairs of the context, unlocks a written message with its data key, its whole
-- context and the pairs that it doesn't store, and judges it whole.
abbrev pub ReadsWhatIsWritten : Type 0
ReadsWhatIsWritten = (text : List ℕ) (c : List KeyValue) (required : List (List ℕ)) (size : ℕ)
    (key : List ℕ) (entries : List Entry) (id : List ℕ) (settings : Settings)
    (writers readers : List WrapKeyValue) (given : List KeyValue) (asked : List (List ℕ))
    → IsWritable text c required size key entries id → IsWithinLimits settings size entries
    → AreWrapped writers readers c key entries → holds c reserved_key ≡ false
    → IsEnough c required given → AreGiven asked given
    → (unlocking (message text c required size key entries id) settings given asked readers
    ≡ Unlocks c (only_of required c) key)
    × (read (message text c required size key entries id) settings given asked readers
    ≡ whole_of_text text size)

-- Such a reader judges a front as the writer's own key does: it wants more bytes, and the regular
-- frames that are whole are released.
abbrev pub ReadsWholeFrames : Type 0
ReadsWholeFrames = (text : List ℕ) (c : List KeyValue) (required : List (List ℕ)) (size : ℕ)
    (key : List ℕ) (entries : List Entry) (id : List ℕ) (settings : Settings)
    (writers readers : List WrapKeyValue) (given : List KeyValue) (asked : List (List ℕ)) (n : ℕ)
    → IsWritable text c required size key entries id → IsWithinLimits settings size entries
    → AreWrapped writers readers c key entries → holds c reserved_key ≡ false
    → IsEnough c required given → AreGiven asked given
    → n < length (message text c required size key entries id)
    → read (take n (message text c required size key entries id)) settings given asked readers
    ≡ front_of_text text c required size key entries id n

-- ---- line by line

-- where the body begins: behind the header body, the initialization vector where the header has
-- one, and the tag
abbrev pub body_start_of : HeaderFields → ℕ
body_start_of parts = parts.size + length (iv_text parts.opening.suite parts.iv) + 16

-- the header commits to the data key, where its suite has commitments
abbrev pub Commits : HeaderFields → List ℕ → Type 0
Commits parts key =
    parts.opening.suite ≡ Committing → parts.commitment ≡ commitment key parts.opening.id

-- the tag that is due: that of the header body and of the pairs that the header doesn't store
abbrev pub tag_due : List ℕ → HeaderFields → List KeyValue → List ℕ → List ℕ
tag_due bytes parts only key =
    header_tag parts.opening.suite parts.iv (take parts.size bytes) only key parts.opening.id

-- the key that frames and tag stand under
abbrev pub body_key_of : HeaderFields → List ℕ → List ℕ
body_key_of parts key = derived parts.opening.suite key parts.opening.id

-- The judgement of any bytes, the first line that applies. `parts` is what the header's table
-- reads; behind it stands the tag, and then the body.
pub record IsLineByLine (bytes : List ℕ) (settings : Settings) (answer : Unlocking) : Type 0 where
  -- the header has a fault
  pub header_is_faulty : (fault : Fault) → header_fault settings bytes ≡ Some fault
      → judged bytes settings answer ≡ locked (Faulty fault)
  -- the header or its tag isn't whole yet
  pub header_goes_on : header_fault settings bytes ≡ None → head settings bytes ≡ None
      → judged bytes settings answer ≡ locked Going
  -- it isn't unlocked
  pub refused : (parts : HeaderFields) (fault : Fault) → head settings bytes ≡ Some parts
      → answer ≡ Refuses fault → judged bytes settings answer ≡ locked (Faulty fault)
  -- M16: it doesn't commit to the data key, and its suite has commitments
  pub other_key : (parts : HeaderFields) (whole only : List KeyValue) (key : List ℕ)
      → head settings bytes ≡ Some parts → answer ≡ Unlocks whole only key
      → parts.opening.suite ≡ Committing → parts.commitment ≢ commitment key parts.opening.id
      → judged bytes settings answer ≡ locked (Faulty Commitment)
  -- M17: its tag isn't that of its body and of the pairs that it doesn't store
  pub other_tag : (parts : HeaderFields) (whole only : List KeyValue) (key : List ℕ)
      → head settings bytes ≡ Some parts → answer ≡ Unlocks whole only key
      → Commits parts key → parts.tag ≢ tag_due bytes parts only key
      → judged bytes settings answer ≡ locked (Faulty HeaderTag)
  -- frames, by their table
  pub frames : (parts : HeaderFields) (whole only : List KeyValue) (key : List ℕ) (size : ℕ)
      → head settings bytes ≡ Some parts → answer ≡ Unlocks whole only key
      → Commits parts key → parts.tag ≡ tag_due bytes parts only key → parts.content ≡ Framed size
      → judged bytes settings answer
      ≡ opened_as (tabled_frames size (record {
        key = body_key_of parts key;
        id = parts.opening.id;
      }) (drop (body_start_of parts) bytes))
  -- a single block, by its table
  pub block : (parts : HeaderFields) (whole only : List KeyValue) (key : List ℕ)
      → head settings bytes ≡ Some parts → answer ≡ Unlocks whole only key
      → Commits parts key → parts.tag ≡ tag_due bytes parts only key → parts.content ≡ Single
      → judged bytes settings answer
      ≡ opened_as (tabled_block settings.max_unit (body_key_of parts key) parts.opening.id
      (drop (body_start_of parts) bytes))

abbrev pub JudgesLineByLine : Type 0
JudgesLineByLine =
    (bytes : List ℕ) (settings : Settings) (answer : Unlocking) → IsLineByLine bytes settings answer
