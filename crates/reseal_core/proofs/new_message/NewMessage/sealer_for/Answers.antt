use Rattle.std.proofs.Common.{◌≡◌, take}
use Rattle.reseal_core.proofs.new_message.NewMessage.sealer_for.Goals as goal

pub returns-clause-stands : goal.returns-clause-stands
returns-clause-stands c =
    let id_is : c.array_of-id.result ≡ take 32 c.args.self.now.random = cc in rw id_is at c.started.ensures.stands

pub returns-clause-taken : goal.returns-clause-taken
returns-clause-taken c =
    let id_is : c.array_of-id.result ≡ take 32 c.args.self.now.random = cc in rw id_is at c.started.ensures.taken

pub returns-clause-cause : goal.returns-clause-cause
returns-clause-cause c =
    let id_is : c.array_of-id.result ≡ take 32 c.args.self.now.random = cc in rw id_is at c.started.ensures.cause
