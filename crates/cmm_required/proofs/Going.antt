-- What the inner manager keeps, the manager that requires keys keeps.
use Rattle.std.proofs.Common.{ℕ, List, ap, ◌∙◌}
use Rattle.context_codec.specs.KeySet.{with_keys}
use Rattle.keyring_trait.specs.Manager.{ManagerNow, Went}
use Rattle.cmm_required.specs.RequiredCmm.{required_now}

pub went_required : (keys : List (List ℕ)) (old new : ManagerNow) → Went old new → Went (required_now keys old) (required_now keys new)
went_required keys old new went = record {
  goes = record {
    wraps = went.goes.wraps;
    refuses = went.goes.refuses;
    steady = went.goes.steady;
    fresh = went.goes.fresh;
    plain = went.goes.plain;
    demands = ap (with_keys keys) went.goes.demands;
    later = went.goes.later;
    still = went.goes.still;
  };
  tells = went.tells;
  same = went.same;
  exact = λ x. (went.exact x.0, went.goes.demands ∙ x.1);
  limits = went.limits;
}
