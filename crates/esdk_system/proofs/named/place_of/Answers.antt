-- The value that was looked at doesn't have the name.
use Rattle.std.proofs.Common.{rules, arith, ◌≢◌, All, subst, take_all}
use Rattle.std.proofs.lemmas.List.Elements.{All-more}
use Rattle.esdk_system.proofs.named.place_of.Goals as goal

pub loop-at-preserved : goal.loop-at-preserved
loop-at-preserved g c =
    All-more (λ one. one.name ≢ c.args.name.now) c.args.values.now c.loop-at.at c.index-values-at.result (omega (arith, c.loop-at-test.true)) c.loop-at.invariant
    (subst (λ one. one.name ≢ c.args.name.now) c.index-values-at.is (search rules))

pub returns-clause-absent : goal.returns-clause-absent
returns-clause-absent g c =
    subst (All (λ one. one.name ≢ c.args.name.now)) (take_all c.loop-at.at c.args.values.now (omega (arith, c.loop-at-test.false))) c.loop-at.invariant
