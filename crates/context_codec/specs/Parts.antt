-- The parts of an encryption context: the pairs that a header stores, and those that are only
-- authenticated. AWS Encryption SDK Specification, "Structures", Encryption Context; "Required
-- Encryption Context CMM"; "Message Header", AAD.
use Rattle.std.specs.Prelude.{ℕ, Bool, not, List, [], ◌∷◌, map, filter, unwrap_or}
use Rattle.std.specs.List.{list_any}
use Rattle.std.specs.BTreeMap.{insert_entry}
use Rattle.std.specs.Ordering.{nat_cmp}
use Rattle.std.specs.Cmp.Lexicographic.{slice_cmp}
use Rattle.std.specs.Str.{bytes_eq}
use Rattle.context_codec.specs.Context.{KeyValue, has_key}
use Rattle.context_codec.specs.Split.{split}

-- some pair has the key
abbrev pub holds : List KeyValue → List ℕ → Bool
holds pairs key = list_any (has_key key) pairs

-- the keys of the pairs, in their order
abbrev pub keys_of : List KeyValue → List (List ℕ)
keys_of pairs = map (λ p. p.0) pairs

-- the pair's key is one of these
abbrev pub is_among : List (List ℕ) → KeyValue → Bool
is_among keys p = list_any (bytes_eq p.0) keys

-- ---- the writer's

-- what a header stores: the pairs whose keys are not required
abbrev pub stored_of : List (List ℕ) → List KeyValue → List KeyValue
stored_of required pairs = filter (λ p. not (is_among required p)) pairs

-- what is only authenticated: the pairs whose keys are required
abbrev pub only_of : List (List ℕ) → List KeyValue → List KeyValue
only_of required pairs = filter (is_among required) pairs

-- ---- the reader's

-- one more pair, at its key's place among pairs in the order of their keys
abbrev pub put : KeyValue → List KeyValue → List KeyValue
put p pairs = insert_entry (slice_cmp nat_cmp) pairs p.0 p.1

-- pairs in the order of their keys, and more pairs among them
abbrev pub joined : List KeyValue → List KeyValue → List KeyValue
joined pairs [] = pairs
joined pairs (p ∷ more) = put p (joined pairs more)

-- what is only authenticated: the given pairs whose keys are not stored
abbrev pub only_given : (stored given : List KeyValue) → List KeyValue
only_given stored given = filter (λ p. not (holds stored p.0)) given

-- the whole context: the stored pairs, and these
abbrev pub whole_of : (stored given : List KeyValue) → List KeyValue
whole_of stored given = joined stored (only_given stored given)

-- ---- the header's

-- The pairs that a context's bytes in a header spell, in the order of their keys.
unfoldable pub stored_in : List ℕ → List KeyValue
stored_in bytes = joined [] (unwrap_or (split bytes) [])
