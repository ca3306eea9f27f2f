-- Where a key stands, and where a new key belongs.
use Rattle.std.specs.Prelude.{◌≡◌, ℕ, ◌<◌, ◌≤◌, true, false, List, length, Some, insert}
use Rattle.std.specs.Prelude.{slice_index_or}
use Rattle.std.specs.List.{list_any}
use Rattle.std.specs.Map.{lookup}
use Rattle.std.specs.BTreeMap.{insert_entry}
use Rattle.std.specs.Ordering.{nat_cmp}
use Rattle.std.specs.Cmp.Lexicographic.{slice_cmp}
use Rattle.std.specs.Str.{bytes_eq}
use Rattle.context_codec.specs.Context.{KeyValue, has_key}
use Rattle.context_codec.specs.KeySet.{has, with_key}

-- The pair with this key is at this index.
pub record IsPairAt (key : List ℕ) (pairs : List KeyValue) (i : ℕ) : Type 0 where
  pub within : i < length pairs
  pub held : list_any (has_key key) pairs ≡ true
  pub found : (d : KeyValue) → lookup (bytes_eq key) pairs ≡ Some (slice_index_or pairs i d).1

-- The key is new, and a pair with it belongs at this index.
pub record IsPlace (key : List ℕ) (pairs : List KeyValue) (i : ℕ) : Type 0 where
  pub within : i ≤ length pairs
  pub absent : list_any (has_key key) pairs ≡ false
  pub inserted : (value : List ℕ)
      → insert_entry (slice_cmp nat_cmp) pairs key value ≡ insert pairs i (key, value)

-- The key is at this index among the keys.
pub record IsKeyAt (key : List ℕ) (keys : List (List ℕ)) (i : ℕ) : Type 0 where
  pub within : i < length keys
  pub held : has keys key ≡ true
  pub kept : with_key keys key ≡ keys

-- The key is new, and belongs at this index among the keys.
pub record IsKeyPlace (key : List ℕ) (keys : List (List ℕ)) (i : ℕ) : Type 0 where
  pub within : i ≤ length keys
  pub absent : has keys key ≡ false
  pub inserted : with_key keys key ≡ insert keys i key
