-- What the manager of a batch may say, by the tree that its keyring file is read as.
use Rattle.std.specs.Prelude.{◌≡◌, ◌≤◌, ℕ, List, [], length, take, drop, true, ⊤, Option, Some}
use Rattle.std.specs.Prelude.{None, IfSome}
use Rattle.esdk_fields.specs.Counts.{Rose, Stayed}
use Rattle.esdk_fields.specs.declared.faults.Fault.TheVariants.{NoKeyOpens}
use Rattle.context_codec.specs.Parts.{only_given, whole_of}
use Rattle.keyring_trait.specs.declared.manager_errors.ManagerError.{ManagerError}
use Rattle.keyring_trait.specs.declared.manager_errors.ManagerError.TheVariants as managers
use Rattle.keyring_trait.specs.declared.served.Served.TheVariants.{Direct}
use Rattle.keyring_trait.specs.Keyring.{KeyringMeaning, Opens}
use Rattle.keyring_trait.specs.Manager.{AreWraps, IsNew}
use Rattle.keyring_trait.specs.Materials.{DecMaterialsValue, EncMaterialsValue}
use Rattle.keyring_trait.specs.Requests.{DecRequestValue, EncRequestValue}
use Rattle.keyring_trait.specs.Unlocking.{pair_offence}
use Rattle.keyring_trait.specs.Wrapping.{ivs_of, made}
use Rattle.cmm_caching.specs.Limits.{LimitsValue}
use Rattle.esdk_encrypt.specs.Told.{NoneForRequest}
use Rattle.keyring_trait.specs.Saying.{Saying}
use Rattle.esdk_run.specs.Decrypt.{OpensNone}
use Rattle.esdk_run.specs.Giving.{refusal_over}

-- What is served from a cache was found earlier, maybe when a keyring failed. So with a cache the
-- keys of the tree are known of what is served where the tree is steady; without one, always.
abbrev pub IsSteadyIfCached : Option LimitsValue → KeyringMeaning → Type 0
IsSteadyIfCached None tree = ⊤
IsSteadyIfCached (Some limits) tree = tree.steady ≡ true

-- ---- to encrypt with

-- the entries are the tree's wraps of the data key, in order, with these bytes as IVs
abbrev pub WrappedBy : KeyringMeaning → List ℕ → EncMaterialsValue → Type 0
WrappedBy tree ivs materials =
    IfSome tree.keys (λ keys. materials.entries ≡ made keys materials.context materials.key
    (ivs_of tree.wraps ivs))

-- What isn't served from the cache is made of these random bytes: the first 32 are the data key;
-- and the bytes behind are the IVs, where the tree tells its keys, and is steady if there is a
-- cache.
pub record IsMadeOf (cache : Option LimitsValue) (tree : KeyringMeaning) (random : List ℕ)
    (materials : EncMaterialsValue) : Type 0 where
  pub key : materials.key ≡ take 32 random
  pub wrapped : IsSteadyIfCached cache tree → WrappedBy tree (drop 32 random) materials

-- What is given to a request for these random bytes, where nothing is refused: the request's
-- context and its required keys, with none added; and an entry for each wrap of the tree. Without a
-- cache it is served directly. From the cache, too, come wraps of the data key under the keys of
-- the tree, where it tells them, and is steady if there is a cache.
pub record TreeServes (cache : Option LimitsValue) (tree : KeyringMeaning) (wish : EncRequestValue)
    (random : List ℕ) (materials : EncMaterialsValue) : Type 0 where
  pub unrefused : refusal_over wish.context tree ≡ None
  pub context : materials.context ≡ wish.context
  pub required : materials.required ≡ wish.required
  pub count : length materials.entries ≡ tree.wraps
  pub fresh : IsNew materials.served → IsMadeOf cache tree random materials
  pub wrapped : IsSteadyIfCached cache tree → IfSome tree.keys (λ keys. AreWraps keys materials)
  pub direct : cache ≡ None → materials.served ≡ Direct

-- ---- to decrypt with

-- What is found for a header's pairs and entries, from the cache or not, where nothing is wrong
-- with the pairs: the whole context, its pairs that are only authenticated, and a data key. Where
-- the tree tells its keys, and is steady if there is a cache, one of them opens an entry with this
-- data key; where no keyring failed, it is the first that opens. Without a cache it is served
-- directly.
pub record TreeServesHeader (cache : Option LimitsValue) (tree left : KeyringMeaning)
    (request : DecRequestValue) (materials : DecMaterialsValue) : Type 0 where
  pub sound : pair_offence request.stored request.given [] ≡ None
  pub context : materials.context ≡ whole_of request.stored request.given
  pub only : materials.only ≡ only_given request.stored request.given
  pub opens : IsSteadyIfCached cache tree
      → Opens tree left (whole_of request.stored request.given) request.entries (Some materials.key)
  pub direct : cache ≡ None → materials.served ≡ Direct

-- Nothing is wrong with the pairs, and none of the keys opens an entry, where the tree tells them,
-- and is steady if there is a cache.
pub record ServesNoKey (cache : Option LimitsValue) (tree : KeyringMeaning)
    (request : DecRequestValue) : Type 0 where
  pub sound : pair_offence request.stored request.given [] ≡ None
  pub none : IsSteadyIfCached cache tree → OpensNone [] tree request

-- Why nothing is found: M15, where no key opens an entry; else what is wrong with the pairs; or,
-- where nothing is wrong with them, a keyring that failed. Want of memory is free.
abbrev pub TreeServesNone : Option LimitsValue → KeyringMeaning → KeyringMeaning
    → DecRequestValue → ManagerError → Type 0
TreeServesNone cache tree left request (managers.Fault NoKeyOpens) = ServesNoKey cache tree request
TreeServesNone cache tree left request (managers.Fault fault) =
    pair_offence request.stored request.given [] ≡ Some fault
TreeServesNone cache tree left request managers.KeyringFault =
    (pair_offence request.stored request.given [] ≡ None) × Rose tree.faults left.faults
TreeServesNone cache tree left request (managers.Refusal refusal) = ⊥
TreeServesNone cache tree left request managers.Memory = ⊤

-- ---- both

-- over a tree that means this before the batch and that after it, with a cache of these limits, or
-- none
abbrev pub managing_over : Option LimitsValue → KeyringMeaning → KeyringMeaning → Saying
managing_over cache tree left = record {
  wraps = tree.wraps;
  gives = λ wish now. TreeServes cache tree wish;
  gives_none =
      λ wish error. NoneForRequest (refusal_over wish.context tree) tree.faults left.faults error;
  finds = λ request now. TreeServesHeader cache tree left request;
  finds_none = TreeServesNone cache tree left;
}

-- What a batch leaves of a tree: all that it tells and means, but for the count of its failures.
-- That never falls, and of a steady tree it stays. Without a cache it tells the same keys; with one
-- it tells still those that it told, where it is steady.
pub record TreeOutlasts (cache : Option LimitsValue) (old new : KeyringMeaning) : Type 0 where
  pub wraps : new.wraps ≡ old.wraps
  pub refuses : new.refuses_none ≡ old.refuses_none
  pub steady : new.steady ≡ old.steady
  pub later : old.faults ≤ new.faults
  pub still : old.steady ≡ true → Stayed old.faults new.faults
  pub keys : IsSteadyIfCached cache old → IfSome old.keys (λ keys. new.keys ≡ Some keys)
  pub same : cache ≡ None → new.keys ≡ old.keys
