-- What is true of all entries of a cache, by their names and materials.
use Rattle.std.specs.Prelude.{◌≡◌, List, ⊤, Option, Some, None, MatchOption}
use Rattle.std.specs.List.{AllByRecursion}
use Rattle.context_codec.specs.KeySet.{with_keys}
use Rattle.keyring_trait.specs.declared.served.Served.TheVariants.{Direct}
use Rattle.keyring_trait.specs.Manager.{ManagerMeaning, AreWraps, request_refusal}
use Rattle.keyring_trait.specs.Unlocking.{pair_offence}
use Rattle.keyring_trait.specs.Wrapping.{WrapKeyValue, unwrapped, IsOpened}
use Rattle.cmm_caching.specs.Ask.{GivenValue, seal_materials}
use Rattle.cmm_caching.specs.Names.{NameValue}
use Rattle.cmm_caching.specs.Store.{Store}

-- P holds of each entry's name and materials
abbrev pub HoldsOfEachEntry : (NameValue → GivenValue → Type 0) → Option Store → Type 0
HoldsOfEachEntry P None = ⊤
HoldsOfEachEntry P (Some c) = AllByRecursion (λ p. P p.0 p.1.given) c.entries

-- ---- materials that these keys give

-- the data key is the one that the keys find, in an entry that one of them made
pub record OpensRight (keys : List WrapKeyValue) (name : NameValue)
    (given : GivenValue) : Type 0 where
  pub opened : IsOpened keys name.entries given.context given.key
  pub first : unwrapped keys name.entries given.context ≡ Some given.key

-- Those to encrypt have wraps under these keys; those to decrypt have the data key that these keys
-- find.
abbrev pub IsRight : List WrapKeyValue → NameValue → GivenValue → Type 0
IsRight keys name given = MatchOption name.suite (AreWraps keys (seal_materials Direct given))
    (λ _. OpensRight keys name given)

-- ---- materials that an exact manager gives

-- what a manager means but for its count of faults
abbrev pub unfailing : ManagerMeaning → ManagerMeaning
unfailing m = record m { faults = 0 }

-- the required keys are the name's and those that the manager demands, and it refuses nothing
pub record SealsExactly (m : ManagerMeaning) (name : NameValue) (given : GivenValue) : Type 0 where
  pub demanded : given.required ≡ with_keys name.required m.demands
  pub unrefused : request_refusal m name.pairs ≡ None

-- Those to encrypt are as an exact manager gives them; to decrypt, nothing is wrong with the pairs.
abbrev pub IsExact : ManagerMeaning → NameValue → GivenValue → Type 0
IsExact m name given = MatchOption name.suite (SealsExactly m name given)
    (λ _. pair_offence name.pairs name.given m.demands ≡ None)
