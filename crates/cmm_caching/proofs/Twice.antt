-- A manager that is asked twice: what is known of its materials but that it was asked once. No proof cites this: it leaves the edits that ask twice nothing to fail by but that.
use Rattle.std.proofs.Common.{◌≡◌, ◌∙◌, ℕ, List, None, arith, subst}
use Rattle.keyring_trait.specs.Manager.{ManagerNow, FindsMaterials, Went}
use Rattle.keyring_trait.specs.Materials.{DecMaterialsValue}
use Rattle.keyring_trait.specs.Requests.{DecRequestValue}
use Rattle.keyring_trait.specs.Unlocking.{pair_offence}

pub finds_twice : (old mid new : ManagerNow) (request : DecRequestValue) (found : DecMaterialsValue) → Went old mid → FindsMaterials mid new request found → FindsMaterials old new request found
finds_twice old mid new request found went finds = record {
  context = finds.context;
  only = finds.only;
  opened = λ keys told. finds.opened keys (went.tells keys told);
  first = λ keys told stayed. finds.first keys (went.tells keys told) (omega (arith, stayed, went.goes.later));
  plain = λ is. finds.plain (went.goes.plain ∙ is);
  unfaulted = λ exact. subst (λ (ds : List (List ℕ)). pair_offence request.stored request.given ds ≡ None) went.goes.demands (finds.unfaulted (went.exact exact));
}
