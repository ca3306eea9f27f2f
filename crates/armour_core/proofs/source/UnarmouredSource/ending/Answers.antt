use Rattle.std.proofs.Common.{◌≡◌, ◌∙◌, sym, subst}
use Rattle.std.specs.Prelude.{IfSome}
use Rattle.armour_core.proofs.Sources.{seen_told}
use Rattle.armour_core.proofs.Taking.{when_ended}
use Rattle.armour_core.proofs.source.UnarmouredSource.ending.Goals as goal

pub returns-clause-told : goal.returns-clause-told
returns-clause-told g c = λ told is.
    subst (λ end. IfSome end (λ e. e ≡ told)) (sym c.ending.ensures) (seen_told (g.S.Source.state c.args.self.now.text.now) c.args.self.now.reader told is)

pub returns-clause-long : goal.returns-clause-long
returns-clause-long g c = λ long. c.args.self.now.reader.long (sym c.ending.ensures ∙ long)

pub returns-clause-over : goal.returns-clause-over
returns-clause-over g c = when_ended c.args.self.now.reader c.ending.result (sym c.ending.ensures)
