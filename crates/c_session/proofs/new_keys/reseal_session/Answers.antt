use Rattle.std.proofs.Common.{◌∙◌}
use Rattle.c_session.proofs.Sessions.{none_of}
use Rattle.c_session.proofs.new_keys.reseal_session.Goals as goal

pub reseal_under-requires-clause-set_up : goal.reseal_under-requires-clause-set_up
reseal_under-requires-clause-set_up c = none_of _ (λ a is. c.in_default.not-Some a (c.setting_answer.ensures ∙ is))

pub returns-in-Ok : goal.returns-in-Ok
returns-in-Ok c = c.reseal_under.ensures c.args.file.now c.in-Ok.ensures
