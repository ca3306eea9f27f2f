-- The tree of a keyring file, and what it is asked about a message. The question is this library's;
-- what opens a message is said by the AWS Encryption SDK Specification, "Decrypt", "Get the
-- decryption materials" and "Verify the header".
use Rattle.std.specs.Prelude.{◌≡◌, ◌⊎◌, ◌<◌, ◌≤◌, ◌^◌, ℕ, List, [], ◌∷◌, length, map, ⊤}
use Rattle.std.specs.Prelude.{unwrap_or, Some, None, Result, Ok, Err}
use Rattle.esdk_fields.specs.Counts.{Rose}
use Rattle.esdk_fields.specs.declared.refusals.FileRefusal.TheVariants.{FileTooLong}
use Rattle.cmm_default.specs.DefaultCmm.{default_now}
use Rattle.context_codec.specs.Context.{KeyValue}
use Rattle.header_codec.specs.Header.{HeaderValue}
use Rattle.keyring_file.specs.Found.{wraps_of}
use Rattle.keyring_file.specs.KeyFile.{tree_of}
use Rattle.keyring_trait.specs.Manager.{ManagerNow}
use Rattle.keyring_trait.specs.Unlocking.{pair_offence}
use Rattle.keyring_trait.specs.Wrapping.{WrapKeyValue}
use Rattle.multi_keyring.specs.declared.tree.Node.{Node}
use Rattle.multi_keyring.specs.Nodes.{forest}
use Rattle.multi_keyring.specs.Tree.{node_leaves, tree_meaning}
use Rattle.raw_aes_keyring.specs.Keyring.{raw_meaning}
use Rattle.audit_core.specs.Asking.{NamesOpeners}
use Rattle.audit_core.specs.Openers.{openers}
use Rattle.c_session.specs.declared.reason.Reason.{Reason}
use Rattle.c_session.specs.declared.reason.Reason.TheVariants as reasons

-- the tree of raw keys that a file describes
abbrev pub Tree : Type 0
Tree = Node WrapKeyValue

-- what the manager over a tree is at a moment
abbrev pub file_state : Tree → ManagerNow
file_state tree = default_now (tree_meaning raw_meaning tree)

-- the bytes mean this tree, or are refused; want of memory is free
abbrev pub ReadsTree : List ℕ → Result Tree Reason → Type 0
ReadsTree bytes (Ok tree) = (length bytes ≤ 1048576)
    × (tree_of (wraps_of raw_meaning) bytes [] ≡ Ok (forest (tree ∷ [])))
ReadsTree bytes (Err (reasons.File refusal)) =
    ((1048576 < length bytes) × (refusal ≡ FileTooLong))
    ⊎ ((length bytes ≤ 1048576) × (tree_of (wraps_of raw_meaning) bytes [] ≡ Err refusal))
ReadsTree bytes (Err reasons.Memory) = ⊤
ReadsTree bytes (Err reason) = ⊥

-- It tells its wrapping keys, and they are fewer than 2^32.
pub record HasFew (tree : Tree) : Type 0 where
  pub keys : List WrapKeyValue
  pub told : (tree_meaning raw_meaning tree).keys ≡ Some keys
  pub few : length keys < 2 ^ 32

-- the wrapping keys of each leaf, in order
abbrev pub leaf_keys : Tree → List (List WrapKeyValue)
leaf_keys tree = map (λ m. unwrap_or m.keys []) (node_leaves raw_meaning tree)

-- Each leaf was asked, in order, and these are the numbers of those that open the message of this
-- header by themselves, ascending, from 1 on: of those whose wrapping keys open it.
pub record NamesLeaves (old new : Tree) (h : HeaderValue) (given : List KeyValue)
    (numbers : List ℕ) : Type 0 where
  pub names :
      NamesOpeners (node_leaves raw_meaning old) (node_leaves raw_meaning new) h given numbers
  pub are : numbers ≡ openers (leaf_keys old) h given

-- The leaves are named. Or this is wrong with the pairs, and the tree is as it was; or nothing is,
-- and a leaf failed; or memory ran out, with the tree as it was, or with nothing wrong.
abbrev pub AsksTree : Tree → Tree → HeaderValue → (given : List KeyValue)
    → Result (List ℕ) Reason → Type 0
AsksTree old new h given (Ok numbers) = NamesLeaves old new h given numbers
AsksTree old new h given (Err (reasons.Fault fault)) =
    (pair_offence h.stored given [] ≡ Some fault) × (new ≡ old)
AsksTree old new h given (Err reasons.Keyring) = (pair_offence h.stored given [] ≡ None)
    × Rose (tree_meaning raw_meaning old).faults (tree_meaning raw_meaning new).faults
AsksTree old new h given (Err reasons.Memory) =
    (new ≡ old) ⊎ (pair_offence h.stored given [] ≡ None)
AsksTree old new h given (Err reason) = ⊥
