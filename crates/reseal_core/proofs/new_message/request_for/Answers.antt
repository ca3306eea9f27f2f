use Rattle.reseal_core.proofs.Requiring.{none_absent, request_is}
use Rattle.reseal_core.proofs.new_message.request_for.Goals as goal

pub returns-in-Ok-clause-request : goal.returns-in-Ok-clause-request
returns-in-Ok-clause-request c =
    request_is c.args.whole.now c.args.only.now c.in-Ok-Ok.keys c.in-Ok-Ok.context c.new.result c.in-Ok.request c.in-Ok-Ok.ensures c.in-Ok-Ok.ensures' c.keys-ascending.ensures.set c.new.ensures c.in-Ok.ensures.request

pub unreachable-requires : goal.unreachable-requires
unreachable-requires c =
    none_absent c.args.whole.now c.args.only.now c.in-Ok-Ok.keys c.in-Ok-Ok.context c.new.result c.in-Err-Refusal.field-0-0 c.in-Ok-Ok.ensures c.in-Ok-Ok.ensures' c.new.ensures c.requires
    (rw c.in-Err-Refusal.field-0-is at c.in-Err-Refusal.ensures.cause)
