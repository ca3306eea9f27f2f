use Rattle.std.proofs.Common.{map, get_or, refl, ap, ◌∙◌, arith}
use Rattle.std.specs.List.{range_with_len}
use Rattle.aes_core.proofs.Groups.{state_of_lanes}
use Rattle.aes_core.proofs.VectorKeys.{one_more, all_keys}
use Rattle.aes_core.proofs.key_schedule.vector_keys.Goals as goal

pub inner-init : goal.inner-init
inner-init c = record { long = c.told-schedule; first = refl; inner = λ r some h. absurd (omega arith) }

pub inner-preserved : goal.inner-preserved
inner-preserved c =
    one_more c.inner.keys c.args.schedule.now c.in_basis.result c.inner.r (omega arith) (omega arith) c.inner.invariant
    (state_of_lanes c.in_basis.result c.with_constant.result c.in_basis.ensures ∙ ap (λ l. map (λ j. get_or l j 0) (range_with_len 0 16)) c.with_constant.ensures)

pub returns : goal.returns
returns c = all_keys c.inner.keys c.args.schedule.now c.with_constant-2.result c.inner.r (omega arith) c.inner.invariant c.with_constant-2.ensures
