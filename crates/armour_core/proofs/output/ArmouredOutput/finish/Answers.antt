use Rattle.std.proofs.Common.{subst}
use Rattle.armour_core.specs.ArmouredOutput.{HandsOn}
use Rattle.armour_core.proofs.Outputs.{end_text}
use Rattle.armour_core.proofs.output.ArmouredOutput.finish.Goals as goal

pub returns-clause-line : goal.returns-clause-line
returns-clause-line g c =
    subst (λ text. HandsOn g.R.Receiver.takes g.R.Receiver.fails text c.args.self.now.output.now c.hand_on-result.new.output c.hand_on-result.result)
    (end_text c.args.self.now.armour c.finish.new.self c.out.result.now c.args.self.now.goes c.finish.ensures c.out.ensures) c.hand_on-result.ensures
