-- What a manager keeps through several calls.
use Rattle.std.proofs.Common.{◌∙◌, arith}
use Rattle.keyring_trait.specs.Manager.{ManagerMeaning, ManagerGoes, ManagerNow, Went}

goes_on : (first old new : ManagerMeaning) → ManagerGoes first old → ManagerGoes old new
    → ManagerGoes first new
goes_on first old new before then = record {
  wraps = then.wraps ∙ before.wraps;
  refuses = then.refuses ∙ before.refuses;
  steady = then.steady ∙ before.steady;
  fresh = then.fresh ∙ before.fresh;
  plain = then.plain ∙ before.plain;
  demands = then.demands ∙ before.demands;
  later = omega (arith, before.later, then.later);
  still = λ steady.
      (let one = before.still steady in
      let other = then.still (before.steady ∙ steady) in
      omega (arith, one, other, before.later, then.later));
}

-- one call more
pub went_on : (first old new : ManagerNow) → Went first old → Went old new → Went first new
went_on first old new before then = record {
  goes = goes_on first.meaning old.meaning new.meaning before.goes then.goes;
  tells = λ keys told. then.tells keys (before.tells keys told);
  same = λ plain keys told.
      before.same plain keys (then.same (before.goes.plain ∙ plain) keys told);
  exact = λ is. then.exact (before.exact is);
  limits = λ lines within. before.limits lines (then.limits lines within);
}
