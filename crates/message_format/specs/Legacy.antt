-- Messages of version 1.0. Tests alone write them; what is read is judged as any other message.
-- Standard: AWS Encryption SDK Specification, "AWS Encryption SDK Message Format", version 1.0 with
-- the suite 0x0178, which doesn't commit to its data key.
use Rattle.std.specs.Prelude.{◌≡◌, ℕ, ◌-◌, ◌*◌, ◌^◌, ◌≤◌, true, false, List, [], ◌∷◌, ◌++◌, length}
use Rattle.std.specs.Prelude.{All, IfSome}
use Rattle.esdk_fields.specs.declared.contents.Content.{Content}
use Rattle.esdk_fields.specs.declared.contents.Content.TheVariants.{Single, Framed}
use Rattle.esdk_fields.specs.declared.faults.Fault.TheVariants as faults
use Rattle.context_codec.specs.Context.{KeyValue, IsContext}
use Rattle.context_codec.specs.Parts.{stored_of, only_of}
use Rattle.edk_codec.specs.Entry.{Entry, IsEntry}
use Rattle.header_codec.specs.declared.settings.Settings.{Settings}
use Rattle.header_codec.specs.Header.{IsContent, latest_end}
use Rattle.header_codec.specs.Written.{legacy_header, keys_end, uncommitted}
use Rattle.suite_table.specs.declared.suite.Suite.TheVariants.{Uncommitted}
use Rattle.suite_table.specs.Suites.{suite_id, id_length}
use Rattle.suite_table.specs.Keys.{derived}
use Rattle.frame_codec.specs.UnitHead.{longest_block}
use Rattle.frame_codec.specs.Written.{single_block}
use Rattle.keyring_trait.specs.Unlocking.{Unlocking, Unlocks}
use Rattle.body_format.specs.declared.verdicts.Verdict.TheVariants.{Whole, Faulty}
use Rattle.body_format.specs.Written.{framed_body, frame_count, pieces}
use Rattle.message_format.specs.Message.{header_tag}
use Rattle.message_format.specs.Judgement.{locked, judged}

-- What such a message is made of, beside its text: the context, the keys of it that aren't stored,
-- the entries, how the body's content is cut, the data key, the message id, and the initialization
-- vectors of the header's tag and of a single block.
pub record Legacy : Type 0 where
  pub context : List KeyValue
  pub required : List (List ℕ)
  pub entries : List Entry
  pub content : Content
  pub key : List ℕ
  pub id : List ℕ
  pub iv : List ℕ
  pub block_iv : List ℕ

-- the header body
abbrev pub legacy_raw : Legacy → List ℕ
legacy_raw m = legacy_header m.id (stored_of m.required m.context) m.entries m.content

-- the header's tag
abbrev pub legacy_tag : Legacy → List ℕ
legacy_tag m = header_tag Uncommitted m.iv (legacy_raw m) (only_of m.required m.context) m.key m.id

-- the body, cut so
abbrev pub legacy_body : Legacy → Content → List ℕ → List ℕ
legacy_body m Single text = single_block (derived Uncommitted m.key m.id) m.id m.block_iv text
legacy_body m (Framed size) text =
    framed_body size (record { key = derived Uncommitted m.key m.id; id = m.id }) text

-- header body, header authentication, body
unfoldable pub legacy_message : Legacy → List ℕ → List ℕ
legacy_message m text = legacy_raw m ++ (m.iv ++ legacy_tag m) ++ legacy_body m m.content text

-- what each unit has of the text
abbrev pub legacy_units : Content → List ℕ → List (List ℕ)
legacy_units Single text = text ∷ []
legacy_units (Framed size) text = pieces size text (frame_count (length text) size)

-- how many bytes a unit has at most
abbrev pub unit_length : Content → List ℕ → ℕ
unit_length Single text = length text
unit_length (Framed size) text = size

-- the text fits into a block, or into frames that have numbers
abbrev pub TextHasRoom : Content → List ℕ → Type 0
TextHasRoom Single text = length text ≤ longest_block
TextHasRoom (Framed size) text = length text ≤ (2 ^ 32 - 1) * size

-- What can be written.
pub record IsLegacyWritable (m : Legacy) (text : List ℕ) : Type 0 where
  pub cut : IsContent m.content
  pub short : TextHasRoom m.content text
  pub context : IsContext m.context
  pub entries_some : 1 ≤ length m.entries
  pub entries_few : length m.entries ≤ 65535
  pub entries_are : All IsEntry m.entries
  pub entries_end : keys_end (uncommitted m.id) (stored_of m.required m.context) m.entries
      ≤ latest_end
  pub id_long : length m.id ≡ id_length Uncommitted
  pub iv_long : length m.iv ≡ 12
  pub block_iv_long : length m.block_iv ≡ 12

-- The suite is allowed, and no limit of the reader's is passed.
pub record IsLegacyAllowed (settings : Settings) (m : Legacy) (text : List ℕ) : Type 0 where
  pub allowed : settings.uncommitted ≡ true
  pub max_keys : IfSome settings.max_keys (λ most. length m.entries ≤ most)
  pub max_unit : IfSome settings.max_unit (λ most. unit_length m.content text ≤ most)

-- Where it is allowed, such a message is whole under every answer that has its data key and the
-- pairs that it doesn't store.
abbrev pub JudgesLegacyMessages : Type 0
JudgesLegacyMessages = (m : Legacy) (text : List ℕ) (settings : Settings) (whole : List KeyValue)
    → IsLegacyWritable m text → IsLegacyAllowed settings m text
    → judged (legacy_message m text) settings (Unlocks whole (only_of m.required m.context) m.key)
    ≡ record { unlocked = true; units = legacy_units m.content text; verdict = Whole }

-- Where it isn't allowed, the suite is refused, whatever the answer: M23.
abbrev pub ForbidsLegacyMessages : Type 0
ForbidsLegacyMessages = (m : Legacy) (text : List ℕ) (settings : Settings) (answer : Unlocking)
    → settings.uncommitted ≡ false
    → judged (legacy_message m text) settings answer
    ≡ locked (Faulty (faults.Uncommitted (suite_id Uncommitted)))
