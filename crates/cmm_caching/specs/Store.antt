-- The cache as the code keeps it: of the uses of an entry only their count and the sum of their
-- lengths.
use Rattle.std.specs.Prelude.{◌≡◌, ℕ, ◌+◌, ◌^◌, ◌≤◌, ◌<◌, Bool, ◌||◌, true, List, [], ◌∷◌, length}
use Rattle.std.specs.Prelude.{map, sum, ⊤, All, Option, Some, None, not, nat_eq, if◌then◌else◌}
use Rattle.std.specs.Prelude.{option_and_then, MatchOption, ◌≢◌}
use Rattle.std.specs.List.{AllByRecursion}
use Rattle.std.specs.Map.{lookup}
use Rattle.std.specs.Option.{option_map_or}
use Rattle.context_codec.specs.KeySet.{has}
use Rattle.context_codec.specs.Parts.{whole_of, only_given}
use Rattle.keyring_trait.specs.Materials.{AreEncMaterials}
use Rattle.keyring_trait.specs.declared.served.Served.TheVariants.{Direct, New, Hit}
use Rattle.cmm_caching.specs.declared.kept.Kept.{Kept}
use Rattle.cmm_caching.specs.Limits.{LimitsValue, AreLimits}
use Rattle.cmm_caching.specs.Names.{NameValue, name_eq}
use Rattle.cmm_caching.specs.Ask.{GivenValue, HandedValue, CacheEntry, CacheState, Wish, empty}
use Rattle.cmm_caching.specs.Ask.{serves, is_direct, kept_if, moved, put_first}

-- The limits, how many encrypted data keys the materials to encrypt with have, the entries under
-- their names, the last used first, and the number of the next one.
pub record Store : Type 0 where
  pub limits : LimitsValue
  pub width : ℕ
  pub entries : List (NameValue × Kept)
  pub next : ℕ

-- ---- what state it stands for

abbrev pub tally : CacheEntry → Kept
tally e = record {
  number = e.number;
  made = e.made;
  given = e.given;
  count = length e.uses;
  bytes = sum e.uses;
}

abbrev pub tallied_entry : NameValue × CacheEntry → NameValue × Kept
tallied_entry p = (p.0, tally p.1)

-- a state's entries in the same order, with the count of their uses and the sum of their lengths
abbrev pub tallied : LimitsValue → ℕ → CacheState → Store
tallied l width s = record {
  limits = l;
  width = width;
  entries = map tallied_entry s.entries;
  next = s.next;
}

-- The cache of a manager whose inner one makes so many encrypted data keys stands for the state.
-- Without a cache it is the empty one.
abbrev pub StoreStandsFor : ℕ → Option Store → CacheState → Type 0
StoreStandsFor width None s = s ≡ empty
StoreStandsFor width (Some c) s = c ≡ tallied c.limits width s

-- ---- what it answers

-- one use more, where there is a declared length
abbrev pub use_count : Option ℕ → ℕ
use_count None = 0
use_count (Some n) = 1

abbrev pub use_bytes : Option ℕ → ℕ
use_bytes None = 0
use_bytes (Some n) = n

abbrev pub used_again : Option ℕ → Kept → Kept
used_again declared k = record k {
  count = k.count + use_count declared;
  bytes = k.bytes + use_bytes declared;
}

-- the counts of an entry don't overflow with this use
abbrev pub CountsHaveRoom : Option ℕ → Kept → Type 0
CountsHaveRoom None k = ⊤
CountsHaveRoom (Some n) k = (k.count + 1 < 2 ^ 64) × (k.bytes + n < 2 ^ 64)

abbrev pub fresh_kept : ℕ → ℕ → GivenValue → Option ℕ → Kept
fresh_kept number now given declared =
    record {
      number = number;
      made = now;
      given = given;
      count = use_count declared;
      bytes = use_bytes declared;
    }

pub record StoreStep : Type 0 where
  pub handed : HandedValue
  pub after : Store

abbrev pub still_serves : LimitsValue → Wish → ℕ → Kept → Bool
still_serves l w now k = serves l k.made k.count k.bytes w.declared now

-- the entry of the request's name, where it serves
abbrev pub kept_for : Store → Wish → ℕ → Option Kept
kept_for s w now = option_and_then (kept_if (still_serves s.limits w now))
    (lookup (name_eq w.name) s.entries)

abbrev pub after_hit : Store → Wish → Kept → Store
after_hit s w k = record s { entries = moved w.name (used_again w.declared k) s.entries }

abbrev pub after_new : Store → Wish → ℕ → GivenValue → Store
after_new s w now got = record s {
  entries = put_first s.limits.capacity w.name (fresh_kept s.next now got w.declared) s.entries;
  next = s.next + 1;
}

-- the cache after a look for an entry
abbrev pub after_look : Store → Wish → ℕ → Store
after_look s w now = option_map_or (after_hit s w) (kept_for s w now) s

-- what is asked under that name
abbrev pub asked_for : NameValue → Option ℕ → Wish
asked_for name declared = record { name = name; declared = declared }

-- the inner manager makes another number of encrypted data keys than the cache was made for
abbrev pub is_past : ℕ → Store → Bool
is_past wraps s = not (nat_eq wraps s.width)

-- what is handed out of an entry: its materials and its number
abbrev pub given_again : Kept → GivenValue × ℕ
given_again k = (k.given, k.number)

abbrev pub handed_again : Kept → HandedValue
handed_again k = record { given = k.given; served = Hit k.number }

abbrev pub handed_new : Store → GivenValue → HandedValue
handed_new s got = record { given = got; served = New s.next }

abbrev pub handed_directly : GivenValue → HandedValue
handed_directly got = record { given = got; served = Direct }

abbrev pub hit_or_new : Store → Wish → ℕ → GivenValue → Option Kept → StoreStep
hit_or_new s w now got None = record { handed = handed_new s got; after = after_new s w now got }
hit_or_new s w now got (Some k) = record { handed = handed_again k; after = after_hit s w k }

-- The request goes past the cache also where the inner manager makes another number of encrypted
-- data keys than the cache was made for.
unfoldable pub ask_kept : Bool → Store → Wish → ℕ → GivenValue → StoreStep
ask_kept past s w now got =
    if past || is_direct s.limits w s.next then record { handed = handed_directly got; after = s }
    else hit_or_new s w now got (kept_for s w now)

-- ---- what is true of every cache

-- Materials to encrypt are those of the context, with the keys required of it and maybe more, and
-- with so many encrypted data keys.
pub record FitsSeal (width : ℕ) (name : NameValue) (given : GivenValue) : Type 0 where
  pub context : given.context ≡ name.pairs
  pub only : given.only ≡ []
  pub required : All (λ key. has given.required key ≡ true) name.required
  pub count : length given.entries ≡ width
  pub materials : AreEncMaterials given.context given.required given.entries

-- Materials to decrypt are those of the stored and the given pairs.
pub record FitsUnseal (name : NameValue) (given : GivenValue) : Type 0 where
  pub context : given.context ≡ whole_of name.pairs name.given
  pub only : given.only ≡ only_given name.pairs name.given
  pub required : given.required ≡ []
  pub entries : given.entries ≡ []

-- the materials are of the kind and of the context that the name says
abbrev pub FitsName : ℕ → NameValue → GivenValue → Type 0
FitsName width name given = MatchOption name.suite (FitsSeal width name given)
    (λ _. FitsUnseal name given)

-- no two entries have one number
abbrev pub HaveApartNames : List (NameValue × Kept) → Type 0
HaveApartNames [] = ⊤
HaveApartNames (e ∷ es) = AllByRecursion (λ p. p.1.number ≢ e.1.number) es × HaveApartNames es

-- What the type of caches keeps.
pub record Sound (s : Store) : Type 0 where
  pub limits : AreLimits s.limits
  pub next : s.next ≤ 2 ^ 63 + 1
  pub below : AllByRecursion (λ p. p.1.number < s.next) s.entries
  pub apart : HaveApartNames s.entries
  pub fits : AllByRecursion (λ p. FitsName s.width p.0 p.1.given) s.entries
