-- What the members of a raw key are put together from.
use Rattle.std.proofs.Common.{◌≡◌, ℕ, Bool, true, false, List, ap}
use Rattle.std.specs.Prelude.{codes, if◌then◌else◌}
use Rattle.serde_json.specs.Data.{boolean, string, object, Members, no_members, put}
use Rattle.keyring_file.specs.Migrate.{one_member, raw_node}

-- the three texts of a raw key
abbrev pub key_texts : (namespace name text : List ℕ) → Members
key_texts namespace name text = put (codes "namespace") (string namespace) (put (codes "name") (string name) (put (codes "key") (string text) no_members))

pub raw_put : (namespace name text : List ℕ) (retired : Bool) (made : Members)
    → made ≡ (if retired then put (codes "retired") (boolean true) (key_texts namespace name text) else key_texts namespace name text)
    → one_member (codes "raw") (object made) ≡ raw_node namespace name text retired
raw_put namespace name text true made is = ap (λ (m : Members). one_member (codes "raw") (object m)) is
raw_put namespace name text false made is = ap (λ (m : Members). one_member (codes "raw") (object m)) is
