use Rattle.std.proofs.Common.{length}
use Rattle.std.proofs.lemmas.Bool.{ltb-false, ltb-true}
use Rattle.armour_core.proofs.Readers.{out_there, pending_none, pending_some}
use Rattle.armour_core.proofs.reader.ArmourReader.has_some.Goals as goal

pub returns-clause-some : goal.returns-clause-some
returns-clause-some c = λ some.
    pending_some c.loop-self.self c.out.result.now (out_there c.loop-self.self.unarmour c.out.result.now c.out.ensures) (ltb-true c.loop-self.self.handed (length c.out.result.now) some)

pub returns-clause-spent : goal.returns-clause-spent
returns-clause-spent c = λ none.
    c.may_read.ensures.spent c.loop-self-test.false
    (pending_none c.loop-self.self c.out.result.now (out_there c.loop-self.self.unarmour c.out.result.now c.out.ensures) (ltb-false c.loop-self.self.handed (length c.out.result.now) none))
