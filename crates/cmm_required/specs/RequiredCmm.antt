-- What a manager that requires keys is to its callers, over the manager that it asks.
-- AWS Encryption SDK Specification, "Required Encryption Context CMM".
use Rattle.std.specs.Prelude.{◌≡◌, ◌⊎◌, ℕ, List, [], Result, MatchResult}
use Rattle.context_codec.specs.KeySet.{with_keys}
use Rattle.keyring_trait.specs.declared.manager_errors.ManagerError.{ManagerError}
use Rattle.keyring_trait.specs.declared.manager_errors.ManagerError.TheVariants as errors
use Rattle.keyring_trait.specs.Manager.{ManagerMeaning, ManagerNow}
use Rattle.keyring_trait.specs.Requests.{EncRequestValue}

-- It wraps, refuses and fails as that manager does, and demands its own keys and those of that
-- manager.
abbrev pub required_meaning : List (List ℕ) → ManagerMeaning → ManagerMeaning
required_meaning keys inner = record inner { demands = with_keys keys inner.demands }

-- the request that the inner manager is asked, with these keys required too
abbrev pub requiring : List (List ℕ) → EncRequestValue → EncRequestValue
requiring keys request = record request { required = with_keys request.required keys }

-- It is exact where that manager is, and demands nothing by itself. What it gave, that manager gave
-- to the request with the keys added. All else is as that manager's.
abbrev pub required_now : List (List ℕ) → ManagerNow → ManagerNow
required_now keys inner = record inner {
  meaning = required_meaning keys inner.meaning;
  exact = inner.exact × (inner.meaning.demands ≡ []);
  gave = λ before request. inner.gave before (requiring keys request);
}

-- the answer is this error, or that memory ran out
abbrev pub FailsWith : {M : Type 0} → ManagerError → Result M ManagerError → Type 0
FailsWith error result = MatchResult result (λ _. ⊥) (λ e. (e ≡ error) ⊎ (e ≡ errors.Memory))
