use Rattle.std.proofs.Common.{◌≡◌, ◌∙◌, Some, None, sym}
use Rattle.esdk_gen.proofs.Materials.{never_refused_pair}
use Rattle.esdk_gen.proofs.setting.context.Goals as goal

pub unreachable-requires : goal.unreachable-requires
unreachable-requires c =
    let cause = rw (c.in-Err-Refusal.field-0-is, c.new-context.ensures) at c.in-Err-Refusal.ensures.cause in
    let no : None ≡ Some c.in-Err-Refusal.field-0-0 = sym never_refused_pair ∙ cause in cc
