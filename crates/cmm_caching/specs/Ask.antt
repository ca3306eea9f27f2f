-- The cache: what it answers to a request, and what it holds then.
use Rattle.std.specs.Prelude.{ℕ, ◌+◌, ◌-◌, ◌^◌, Bool, true, ◌&&◌, ◌||◌, List, [], ◌∷◌, length, take}
use Rattle.std.specs.Prelude.{sum, Option, Some, None, nat_lt, nat_le, if◌then◌else◌}
use Rattle.std.specs.Prelude.{option_and_then}
use Rattle.std.specs.Map.{lookup, remove_entry}
use Rattle.std.specs.Option.{option_map_or}
use Rattle.context_codec.specs.Context.{KeyValue}
use Rattle.edk_codec.specs.Entry.{Entry}
use Rattle.keyring_trait.specs.Materials.{EncMaterialsValue, DecMaterialsValue}
use Rattle.keyring_trait.specs.Requests.{EncRequestValue, DecRequestValue}
use Rattle.keyring_trait.specs.declared.served.Served.{Served}
use Rattle.keyring_trait.specs.declared.served.Served.TheVariants.{Direct, New, Hit}
use Rattle.cmm_caching.specs.Limits.{LimitsValue}
use Rattle.cmm_caching.specs.Names.{NameValue, enc_name, dec_name, is_seal, name_eq}

-- ---- materials

-- Materials, all but how they were served. Those to encrypt have no pairs of their own that are
-- only authenticated; those to decrypt have no required keys and no encrypted data keys.
pub record GivenValue : Type 0 where
  pub context : List KeyValue
  pub only : List KeyValue
  pub required : List (List ℕ)
  pub key : List ℕ
  pub entries : List Entry

abbrev pub enc_given : EncMaterialsValue → GivenValue
enc_given m = record {
  context = m.context;
  only = [];
  required = m.required;
  key = m.key;
  entries = m.entries;
}

abbrev pub dec_given : DecMaterialsValue → GivenValue
dec_given m = record {
  context = m.context;
  only = m.only;
  required = [];
  key = m.key;
  entries = [];
}

-- such materials to encrypt and to decrypt, served so
abbrev pub seal_materials : Served → GivenValue → EncMaterialsValue
seal_materials served g = record {
  context = g.context;
  required = g.required;
  key = g.key;
  entries = g.entries;
  served = served;
}

abbrev pub open_materials : Served → GivenValue → DecMaterialsValue
open_materials served g = record {
  context = g.context;
  only = g.only;
  key = g.key;
  served = served;
}

-- materials, and how they are served
pub record HandedValue : Type 0 where
  pub given : GivenValue
  pub served : Served

abbrev pub enc_handed : EncMaterialsValue → HandedValue
enc_handed m = record { given = enc_given m; served = m.served }

abbrev pub dec_handed : DecMaterialsValue → HandedValue
dec_handed m = record { given = dec_given m; served = m.served }

-- ---- what a cache is

-- An entry of the cache: its number, the moment when it was made, its materials, and the declared
-- lengths of the encryptions that it gave, the last one first.
pub record CacheEntry : Type 0 where
  pub number : ℕ
  pub made : ℕ
  pub given : GivenValue
  pub uses : List ℕ

-- The entries under their names, the last used first, and the number of the next one.
pub record CacheState : Type 0 where
  pub entries : List (NameValue × CacheEntry)
  pub next : ℕ

abbrev pub empty : CacheState
empty = record { entries = []; next = 1 }

-- what is asked: the name of the request, and how many bytes are to be encrypted, where that is
-- declared
pub record Wish : Type 0 where
  pub name : NameValue
  pub declared : Option ℕ

abbrev pub enc_wish : EncRequestValue → Wish
enc_wish r = record { name = enc_name r; declared = r.declared }

abbrev pub dec_wish : DecRequestValue → Wish
dec_wish r = record { name = dec_name r; declared = None }

-- ---- which entry serves

-- this use, before those that were; a decryption adds none
abbrev pub with_use : Option ℕ → List ℕ → List ℕ
with_use None uses = uses
with_use (Some n) uses = n ∷ uses

-- so many uses of so many bytes, and one more, are within the limits
abbrev pub fits : LimitsValue → (count bytes : ℕ) → Option ℕ → Bool
fits l count bytes None = true
fits l count bytes (Some n) = nat_le (count + 1) l.messages && nat_le (bytes + n) l.bytes

-- what was made at that moment isn't too old, nor of a later moment
abbrev pub is_young : LimitsValue → (made now : ℕ) → Bool
is_young l made now = nat_le made now && nat_lt (now - made) l.age

abbrev pub serves : LimitsValue → (made count bytes : ℕ) → Option ℕ → ℕ → Bool
serves l made count bytes declared now = is_young l made now && fits l count bytes declared

-- the length isn't declared, or is above the limit
abbrev pub may_exceed : LimitsValue → Option ℕ → Bool
may_exceed l None = true
may_exceed l (Some n) = nat_lt l.bytes n

-- The request goes past the cache: it is to encrypt, and its length isn't declared or is above the
-- limit; or 2^63 entries were made.
abbrev pub is_direct : LimitsValue → Wish → ℕ → Bool
is_direct l w next = (is_seal w.name && may_exceed l w.declared) || nat_lt (2 ^ 63) next

-- the value, where it passes
abbrev pub kept_if : {X : Type 0} → (X → Bool) → X → Option X
kept_if test x = if test x then Some x else None

-- the entry of the request's name, where it serves
abbrev pub entry_serving : LimitsValue → CacheState → Wish → ℕ → Option CacheEntry
entry_serving l s w now =
    option_and_then (kept_if (λ e. serves l e.made (length e.uses) (sum e.uses) w.declared now))
    (lookup (name_eq w.name) s.entries)

-- the entry that answers the request, where one does
abbrev pub answering : LimitsValue → CacheState → Wish → ℕ → Option CacheEntry
answering l s w now = if is_direct l w s.next then None else entry_serving l s w now

-- ---- what is answered

-- the entry of that name goes to the front, as e
abbrev pub moved : {X : Type 0} → NameValue → X → List (NameValue × X) → List (NameValue × X)
moved name e entries = (name, e) ∷ remove_entry (name_eq name) entries

-- A new entry goes to the front. One of the same name is replaced; else the last one drops where
-- the cache is full.
abbrev pub put_first : {X : Type 0} → ℕ → NameValue → X → List (NameValue × X)
    → List (NameValue × X)
put_first capacity name e entries =
    option_map_or (λ _. moved name e entries) (lookup (name_eq name) entries)
    ((name, e) ∷ take (capacity - 1) entries)

-- an answer, and the cache after it
pub record Step : Type 0 where
  pub handed : HandedValue
  pub after : CacheState

-- the entry gives its materials, gains this use and goes to the front
abbrev pub hit : CacheState → Wish → CacheEntry → Step
hit s w e = record {
  handed = record { given = e.given; served = Hit e.number };
  after = record s {
    entries = moved w.name (record e { uses = with_use w.declared e.uses }) s.entries;
  };
}

-- what the inner manager gave is a new entry
abbrev pub made_new : LimitsValue → CacheState → Wish → ℕ → GivenValue → Step
made_new l s w now got = record {
  handed = record { given = got; served = New s.next };
  after = record {
    entries = put_first l.capacity w.name (record {
      number = s.next;
      made = now;
      given = got;
      uses = with_use w.declared [];
    }) s.entries;
    next = s.next + 1;
  };
}

-- what the inner manager gave is handed on, and the cache stays
abbrev pub passed_on : CacheState → GivenValue → Step
passed_on s got = record { handed = record { given = got; served = Direct }; after = s }

-- What a cache with these limits answers at the moment `now`, where the inner manager, if it is
-- asked, gives `got`.
unfoldable pub ask : LimitsValue → CacheState → Wish → ℕ → GivenValue → Step
ask l s w now got =
    if is_direct l w s.next then passed_on s got
    else option_map_or (hit s w) (entry_serving l s w now) (made_new l s w now got)

-- ---- runs

-- a request at its moment, and what the inner manager gives in it, if it is asked
pub record CacheCall : Type 0 where
  pub wish : Wish
  pub now : ℕ
  pub got : GivenValue

-- what is answered to one request after another
abbrev pub replay : LimitsValue → CacheState → List CacheCall → List HandedValue
replay l s [] = []
replay l s (c ∷ calls) =
    let step = ask l s c.wish c.now c.got in step.handed ∷ replay l step.after calls
