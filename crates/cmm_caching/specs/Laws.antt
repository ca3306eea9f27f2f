-- What the laws of this crate say of the cache.
use Rattle.std.specs.Prelude.{◌≡◌, ◌↔◌, ℕ, true, List, Contains}
use Rattle.cmm_caching.specs.Ask.{CacheCall, HandedValue, empty, replay}
use Rattle.cmm_caching.specs.Journal.{names}
use Rattle.cmm_caching.specs.Limits.{LimitsValue}
use Rattle.cmm_caching.specs.Names.{NameValue, name_eq}

-- Names are equal exactly where they are one value.
abbrev pub ComparesValues : Type 0
ComparesValues = (a b : NameValue) → (name_eq a b ≡ true) ↔ (a ≡ b)

-- whatever was served from one entry, or became it, is the same materials
abbrev pub AreOneMaking : List HandedValue → Type 0
AreOneMaking answers = (n : ℕ) (a b : HandedValue) → Contains answers a → Contains answers b
    → names n a.served ≡ true → names n b.served ≡ true → a.given ≡ b.given

-- In each run a hit gives the materials that the entry was made with.
abbrev pub GivesWhatWasMade : Type 0
GivesWhatWasMade = (l : LimitsValue) (calls : List CacheCall) → AreOneMaking (replay l empty calls)
