-- What a cryptographic materials manager may say to those who ask it, whichever it is. AWS
-- Encryption SDK Specification, "CMM Interface", Get Encryption Materials and Decrypt Materials.
use Rattle.std.specs.Prelude.{◌≡◌, ℕ, List}
use Rattle.keyring_trait.specs.declared.manager_errors.ManagerError.{ManagerError}
use Rattle.keyring_trait.specs.Manager.{ManagerNow, GivesMaterials, GivesNone, FindsMaterials}
use Rattle.keyring_trait.specs.Manager.{FindsNone}
use Rattle.keyring_trait.specs.Materials.{DecMaterialsValue, EncMaterialsValue}
use Rattle.keyring_trait.specs.Requests.{DecRequestValue, EncRequestValue}

-- How many wraps it makes of a data key; what it may give to a request to encrypt, at a moment and
-- with these random bytes, or why it may give nothing; and what it may find for a request to
-- decrypt, at a moment, or why it may find nothing.
pub record Saying : Type 1 where
  pub wraps : ℕ
  pub gives : EncRequestValue → ℕ → List ℕ → EncMaterialsValue → Type 0
  pub gives_none : EncRequestValue → ManagerError → Type 0
  pub finds : DecRequestValue → ℕ → DecMaterialsValue → Type 0
  pub finds_none : DecRequestValue → ManagerError → Type 0

-- what a manager that was so and is so now may have said in any call between
abbrev pub said_between : ManagerNow → ManagerNow → Saying
said_between old new = record {
  wraps = old.meaning.wraps;
  gives = λ request now random materials. GivesMaterials old request random materials;
  gives_none = GivesNone old new;
  finds = λ request now materials. FindsMaterials old new request materials;
  finds_none = FindsNone old new;
}

-- what it may have said in one call, the only one between: its materials are those that it says it
-- gave or found then
abbrev pub said_last : ManagerNow → ManagerNow → Saying
said_last old new = record {
  wraps = old.meaning.wraps;
  gives = λ request now random materials.
      GivesMaterials old request random materials × new.gave old.uses request now random materials;
  gives_none = GivesNone old new;
  finds = λ request now materials.
      FindsMaterials old new request materials × new.found old.uses request now materials;
  finds_none = FindsNone old new;
}

-- whatever the first may say, the second may
pub record Admits (second first : Saying) : Type 0 where
  pub wraps : first.wraps ≡ second.wraps
  pub gives : (request : EncRequestValue) (now : ℕ) (random : List ℕ)
      (materials : EncMaterialsValue)
      → first.gives request now random materials → second.gives request now random materials
  pub gives_none : (request : EncRequestValue) (error : ManagerError)
      → first.gives_none request error → second.gives_none request error
  pub finds : (request : DecRequestValue) (now : ℕ) (materials : DecMaterialsValue)
      → first.finds request now materials → second.finds request now materials
  pub finds_none : (request : DecRequestValue) (error : ManagerError)
      → first.finds_none request error → second.finds_none request error
