use Rattle.std.proofs.Common.{◌∙◌, refl, inl}
use Rattle.extract_core.specs.Extract.{range_of}
use Rattle.session_parts.specs.Handed.{handed_of}
use Rattle.c_session.proofs.Ranges.{range_of_session}
use Rattle.c_session.proofs.Sessions.{none_of}
use Rattle.c_session.proofs.ranging.ask_range.Goals as goal

pub returns-in-Ok : goal.returns-in-Ok
returns-in-Ok c =
    range_of_session c.args.session c.take_range.result.1 (handed_of c.args.bytes) c.args.settings (range_of c.args.at c.args.count) c.in-Ok.keys
    c.take_range.result.0 (none_of _ (λ a is. c.in_default.not-Some a (c.setting_answer.ensures ∙ is))) c.in-Ok.ensures c.take_range.ensures

pub returns-in-Err : goal.returns-in-Err
returns-in-Err c = (none_of _ (λ a is. c.in_default.not-Some a (c.setting_answer.ensures ∙ is)), inl refl)
