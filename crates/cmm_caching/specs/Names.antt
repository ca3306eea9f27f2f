-- What names an entry of the cache: the whole request, compared as values.
use Rattle.std.specs.Prelude.{ℕ, Bool, ◌&&◌, List, [], ◌++◌, Option, Some, None, nat_eq, is_none}
use Rattle.std.specs.Cmp.Lexicographic.{pointwise}
use Rattle.std.specs.Option.{option_eq}
use Rattle.std.specs.Hash as fed
use Rattle.context_codec.specs.Context.{KeyValue}
use Rattle.edk_codec.specs.Entry.{Entry}
use Rattle.edk_codec.specs.Equal.{entry_eq, entry_hash}
use Rattle.keyring_trait.specs.Requests.{EncRequestValue, DecRequestValue}

-- Of a request to encrypt: the context and the keys required of it, and no suite. Of a request to
-- decrypt: the suite, the stored pairs, the given pairs, and all encrypted data keys.
pub record NameValue : Type 0 where
  pub suite : Option ℕ
  pub pairs : List KeyValue
  pub given : List KeyValue
  pub required : List (List ℕ)
  pub entries : List Entry

abbrev pub enc_name : EncRequestValue → NameValue
enc_name r = record {
  suite = None;
  pairs = r.context;
  given = [];
  required = r.required;
  entries = [];
}

abbrev pub dec_name : DecRequestValue → NameValue
dec_name r = record {
  suite = Some r.suite;
  pairs = r.stored;
  given = r.given;
  required = [];
  entries = r.entries;
}

-- it names a request to encrypt
abbrev pub is_seal : NameValue → Bool
is_seal name = is_none name.suite

-- ---- names are equal where all their parts are

abbrev pub key_eq : List ℕ → List ℕ → Bool
key_eq = pointwise nat_eq

abbrev pub pair_eq : KeyValue → KeyValue → Bool
pair_eq p q = pointwise nat_eq p.0 q.0 && pointwise nat_eq p.1 q.1

unfoldable pub name_eq : NameValue → NameValue → Bool
name_eq a b =
    option_eq nat_eq a.suite b.suite
    && (pointwise pair_eq a.pairs b.pairs
    && (pointwise pair_eq a.given b.given
    && (pointwise key_eq a.required b.required && pointwise entry_eq a.entries b.entries)))

-- ---- what a hasher is fed of them

abbrev pub key_hash : List ℕ → fed.HashWrites
key_hash = fed.str

abbrev pub pair_hash : KeyValue → fed.HashWrites
pair_hash p = fed.str p.0 ++ fed.str p.1

unfoldable pub name_hash : NameValue → fed.HashWrites
name_hash n =
    fed.option fed.u16 n.suite
    ++ (fed.slice pair_hash n.pairs
    ++ (fed.slice pair_hash n.given
    ++ (fed.slice key_hash n.required ++ fed.slice entry_hash n.entries)))
