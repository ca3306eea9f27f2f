use Rattle.std.proofs.Common.{sym, ap, ◌∙◌, arith, length}
use Rattle.std.proofs.lemmas.Bool.{ltb-true}
use Rattle.armour_core.proofs.Readers.{is_none, none_pending, out_there, pending_none, pending_some}
use Rattle.armour_core.proofs.reader.ArmourReader.may_read.Goals as goal

pub returns-then-self-out-clause-spent : goal.returns-then-self-out-clause-spent
returns-then-self-out-clause-spent c = λ _ none.
    absurd (none_pending _ none (pending_some c.args.self.now c.out.result.now (out_there c.args.self.now.unarmour c.out.result.now c.out.ensures) c.if-self-out.true))

pub returns-clause-read : goal.returns-clause-read
returns-clause-read c = λ some. (
  pending_none c.args.self.now c.out.result.now (out_there c.args.self.now.unarmour c.out.result.now c.out.ensures) c.if-self-out.false,
  is_none c.args.self.now.ending (sym c.is_some.ensures ∙ c.if-is_some.false),
  omega (arith, ltb-true c.args.self.now.at (length c.piece.result.now) some, ap length c.piece.ensures),
)
