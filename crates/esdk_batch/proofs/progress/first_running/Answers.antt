use Rattle.std.proofs.Common.{rules, ◌≡◌, true, subst, arith}
use Rattle.std.specs.Prelude.{All}
use Rattle.std.proofs.lemmas.List.Elements.{All-more}
use Rattle.std.proofs.lemmas.List.{take_all}
use Rattle.esdk_batch.specs.Progress.{is_ended}
use Rattle.esdk_batch.proofs.progress.first_running.Goals as goal

pub loop-at-preserved : goal.loop-at-preserved
loop-at-preserved c =
    All-more (λ one. is_ended one ≡ true) c.args.progress.now c.loop-at.at c.index-progress-at.result (omega (arith, c.loop-at-test.true)) c.loop-at.invariant (search rules)

pub returns : goal.returns
returns c = subst (All (λ one. is_ended one ≡ true)) (take_all c.loop-at.at c.args.progress.now (omega (arith, c.loop-at-test.false))) c.loop-at.invariant
