-- Which leaves of a tree of keyrings open a message by themselves, and which messages a leaf is
-- needed for. Leaves and messages have numbers from 1. The audit is this library's; what opens a
-- message is said by the AWS Encryption SDK Specification, "Decrypt", "Get the decryption
-- materials" and "Verify the header".
use Rattle.std.specs.Prelude.{ℕ, ◌+◌, ◌==◌, Bool, true, false, is_none, List, [], ◌∷◌, Option}
use Rattle.std.specs.Prelude.{Some, None, if◌then◌else◌}
use Rattle.context_codec.specs.Context.{KeyValue}
use Rattle.context_codec.specs.Parts.{only_given, whole_of}
use Rattle.header_codec.specs.Header.{HeaderValue}
use Rattle.keyring_trait.specs.Wrapping.{WrapKeyValue, unwrapped}
use Rattle.message_format.specs.Judgement.{lock_fault}
use Rattle.audit_core.specs.declared.audited.Audited.{Audited}
use Rattle.audit_core.specs.declared.audited.Audited.TheVariants.{OpenedBy, Fault}

-- the numbers of those that pass the test, where the first of all has this number
abbrev pub numbers_of : {A : Type 0} → (A → Bool) → (number : ℕ) → List A → List ℕ
numbers_of test number [] = []
numbers_of test number (x ∷ xs) =
    if test x then number ∷ numbers_of test (number + 1) xs else numbers_of test (number + 1) xs

-- ---- leaves

-- a data key that was found unlocks the header: it is the one that the header commits to, and the
-- header's tag is right under it
abbrev pub unlocks : HeaderValue → (only : List KeyValue) → Option (List ℕ) → Bool
unlocks h only None = false
unlocks h only (Some key) = is_none (lock_fault h only key)

-- the data key that these wrapping keys find in the header's entries, when these pairs are given
abbrev pub found_with : List WrapKeyValue → HeaderValue → (given : List KeyValue) → Option (List ℕ)
found_with keys h given = unwrapped keys h.entries (whole_of h.stored given)

-- a leaf with these wrapping keys opens the message of this header by itself
abbrev pub is_opener : HeaderValue → (given : List KeyValue) → List WrapKeyValue → Bool
is_opener h given keys = unlocks h (only_given h.stored given) (found_with keys h given)

-- the leaves that open it, where these are the wrapping keys of each
abbrev pub openers : List (List WrapKeyValue) → HeaderValue → (given : List KeyValue) → List ℕ
openers leaves h given = numbers_of (is_opener h given) 1 leaves

-- ---- messages

-- some leaf opens the message
abbrev pub has_opener : Audited → Bool
has_opener (OpenedBy []) = false
has_opener (OpenedBy (opener ∷ others)) = true
has_opener (Fault fault) = false

-- the leaf is the only opener of the message
abbrev pub is_needed_for : (leaf : ℕ) → Audited → Bool
is_needed_for leaf (OpenedBy []) = false
is_needed_for leaf (OpenedBy (only ∷ [])) = only == leaf
is_needed_for leaf (OpenedBy (one ∷ other ∷ others)) = false
is_needed_for leaf (Fault fault) = false

-- the messages that the leaf is needed for
abbrev pub needed_for : (leaf : ℕ) → List Audited → List ℕ
needed_for leaf messages = numbers_of (is_needed_for leaf) 1 messages
