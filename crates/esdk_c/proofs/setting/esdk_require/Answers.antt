use mir.Syntax.{w32}
use mir.Val.{SFits}
use Rattle.std.proofs.Common.{rules}
use Rattle.std.proofs.lemmas.Int.{to_z-of_z}
use Rattle.esdk_c.proofs.Called.{called_so}
use Rattle.esdk_c.proofs.setting.esdk_require.Goals as goal

pub returns : goal.returns
returns c =
    let fits : SFits w32 c.give_back.result = search rules in
    rw (to_z-of_z w32 c.give_back.result fits)
    (called_so c.args.handle.now c.give_back.new.handle c.give_back.result _ c.in-Some.session.value c.in-Some.ensures.0
    record {
      answer = c.require-answer.result;
      after = c.require-answer.new.self;
      holds = c.give_back.ensures.holds;
      told = c.give_back.ensures.code;
      called = rw c.deref_mut.ensures.value at c.require-answer.ensures;
    })
