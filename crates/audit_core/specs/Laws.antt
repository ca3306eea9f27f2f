-- What the laws of this crate say of openers.
use Rattle.std.specs.Prelude.{◌≡◌, ◌≢◌, ◌↔◌, ℕ, ◌+◌, true, List, [], ◌∷◌, ◌++◌, length, map, All}
use Rattle.std.specs.Prelude.{Contains, Option, Some, None}
use Rattle.esdk_fields.specs.Counts.{Stayed}
use Rattle.context_codec.specs.Context.{KeyValue}
use Rattle.esdk_base.specs.Streams.{ShelfState}
use Rattle.header_codec.specs.Header.{HeaderValue, no_limits}
use Rattle.job_file.specs.declared.audit.AuditMessage.{AuditMessage}
use Rattle.keyring_trait.specs.Keyring.{KeyringMeaning}
use Rattle.keyring_trait.specs.Unlocking.{Unlocks}
use Rattle.keyring_trait.specs.Wrapping.{WrapKeyValue}
use Rattle.message_format.specs.Reading.{read, unlocking}
use Rattle.multi_keyring.specs.Tree.{all_faults}
use Rattle.audit_core.specs.declared.audited.Audited.{Audited}
use Rattle.audit_core.specs.declared.audited.Audited.TheVariants.{OpenedBy, Fault}
use Rattle.audit_core.specs.Asking.{NamesOpeners}
use Rattle.audit_core.specs.MessageFiles.{AreHeld, FindsEach, HaveCome}
use Rattle.audit_core.specs.Messages.{Message, audited}
use Rattle.audit_core.specs.Openers.{needed_for, openers}

-- the wrapping keys of a tree whose leaves have these
abbrev pub tree_keys : List (List WrapKeyValue) → List WrapKeyValue
tree_keys [] = []
tree_keys (keys ∷ leaves) = keys ++ tree_keys leaves

-- A reader that holds these wrapping keys, and is given the message's pairs, unlocks the message.
abbrev pub UnlockedWith : List WrapKeyValue → Message → Type 0
UnlockedWith keys m = (read m.bytes no_limits m.given [] keys).unlocked ≡ true

-- the leaf of this number stands in the message's line
abbrev pub StandsIn : Audited → (leaf : ℕ) → Type 0
StandsIn (OpenedBy numbers) leaf = Contains numbers leaf
StandsIn (Fault fault) leaf = ⊥

-- A leaf stands in a message's line exactly where a reader that holds its wrapping keys, and no
-- others, unlocks the message.
abbrev pub OpenersUnlock : Type 0
OpenersUnlock =
    (before : List (List WrapKeyValue)) (keys : List WrapKeyValue)
    (behind : List (List WrapKeyValue)) (m : Message)
    → StandsIn (audited (before ++ keys ∷ behind) m) (length before + 1) ↔ UnlockedWith keys m

-- ---- what a deletion rests on

-- another leaf than this one stands in the message's line
pub record AnotherStands (leaf : ℕ) (message : Audited) : Type 0 where
  pub other : ℕ
  pub stands : StandsIn message other
  pub apart : other ≢ leaf

-- Where a leaf is needed for none of the messages, each of them that some leaf opens is opened by
-- another leaf.
abbrev pub LeavesOpeners : Type 0
LeavesOpeners =
    (leaves : List (List WrapKeyValue)) (messages : List Message) (leaf : ℕ)
    → needed_for leaf (map (audited leaves) messages) ≡ []
    → All (λ m. (opener : ℕ) → StandsIn (audited leaves m) opener
    → AnotherStands leaf (audited leaves m)) messages

-- what a leaf with these wrapping keys finds in the message's entries, if it finds something,
-- unlocks the message
abbrev pub Fits : Message → List WrapKeyValue → Type 0
Fits m keys = (whole only : List KeyValue) (key : List ℕ)
    → unlocking m.bytes no_limits m.given [] keys ≡ Unlocks whole only key → UnlockedWith keys m

-- Where a leaf is needed for none of the messages, and no leaf finds a data key in one that doesn't
-- unlock it, each message that the whole tree unlocks is unlocked by the tree without this leaf.
abbrev pub OpensWithout : Type 0
OpensWithout =
    (before : List (List WrapKeyValue)) (keys : List WrapKeyValue)
    (behind : List (List WrapKeyValue)) (messages : List Message)
    → needed_for (length before + 1) (map (audited (before ++ keys ∷ behind)) messages) ≡ []
    → All (λ m. All (Fits m) (before ++ keys ∷ behind)) messages
    → All (λ m. UnlockedWith (tree_keys (before ++ keys ∷ behind)) m
    → UnlockedWith (tree_keys (before ++ behind)) m) messages

-- ---- what is named of leaves that tell their keys

-- the wrapping keys of the first leaf, and those of the others, where all are told
abbrev pub both_told : Option (List WrapKeyValue) → Option (List (List WrapKeyValue))
    → Option (List (List WrapKeyValue))
both_told None others = None
both_told (Some keys) None = None
both_told (Some keys) (Some others) = Some (keys ∷ others)

-- the wrapping keys of each leaf, where all tell theirs
abbrev pub told_by : List KeyringMeaning → Option (List (List WrapKeyValue))
told_by [] = Some []
told_by (leaf ∷ leaves) = both_told leaf.keys (told_by leaves)

-- Where the leaves tell their wrapping keys and none of them failed, those are named that open the
-- message.
abbrev pub NamesWhatOpens : Type 0
NamesWhatOpens =
    (old now : List KeyringMeaning) (h : HeaderValue) (given : List KeyValue) (named : List ℕ)
    (leaves : List (List WrapKeyValue))
    → NamesOpeners old now h given named → told_by old ≡ Some leaves
    → Stayed (all_faults old) (all_faults now) → named ≡ openers leaves h given

-- Where the leaves tell their wrapping keys and none of them failed, of each message whose file the
-- shelf tells that is found which its bytes say.
abbrev pub FindsWhatIsHeld : Type 0
FindsWhatIsHeld =
    (old new : ShelfState) (before after : List KeyringMeaning) (messages : List AuditMessage)
    (found : List Audited) (held : List Message) (leaves : List (List WrapKeyValue))
    → FindsEach old new before after messages found → AreHeld old.files messages held
    → told_by before ≡ Some leaves → Stayed (all_faults before) (all_faults after)
    → found ≡ map (audited leaves) held

-- These messages came from the shelf, and that was found which their bytes say.
pub record FindsOfWhatCame (old new : ShelfState) (messages : List AuditMessage)
    (found : List Audited) (leaves : List (List WrapKeyValue)) : Type 0 where
  pub came : List Message
  pub have : HaveCome old.calls new.calls messages came
  pub are : found ≡ map (audited leaves) came

-- Where the leaves tell their wrapping keys and none of them failed, of each message that is found
-- which the bytes say that the shelf gave of its file, whatever becomes of the file meanwhile.
abbrev pub FindsWhatCame : Type 0
FindsWhatCame =
    (old new : ShelfState) (before after : List KeyringMeaning) (messages : List AuditMessage)
    (found : List Audited) (leaves : List (List WrapKeyValue))
    → FindsEach old new before after messages found → told_by before ≡ Some leaves
    → Stayed (all_faults before) (all_faults after)
    → FindsOfWhatCame old new messages found leaves
