-- The final frame makes the message whole.
use Rattle.std.specs.Prelude.{⊤}
use Rattle.esdk_gen.proofs.Sealings.{end_gives, end_idle, end_never}
use Rattle.esdk_gen.proofs.sealing.end.Goals as goal

pub ungathered-requires : goal.ungathered-requires
ungathered-requires c = λ machine is.
    let (key, s, sealing) = c.requires in
    end_never (λ old new bytes error. ⊤) c.args.desk.now key c.args.id s c.args.message.now c.end_into.new.output sealing c.in-Err.error
    (c.in-Err.ensures.finishes sealing.at.value sealing.at.stands) machine is

pub returns-in-Ok-clause-message : goal.returns-in-Ok-clause-message
returns-in-Ok-clause-message c = λ key s sealing.
    end_gives (λ old new bytes error. ⊤) c.args.desk.now key c.args.id s c.args.message.now c.end_into.new.output sealing (c.in-Ok.ensures.finishes sealing.at.value sealing.at.stands)

pub returns-in-Ok-clause-idle : goal.returns-in-Ok-clause-idle
returns-in-Ok-clause-idle c = λ key s sealing.
    end_idle c.args.desk.now c.end_into.new.self key c.args.id s c.args.message.now sealing (c.in-Ok.ensures.stands sealing.at.value sealing.at.stands) c.in-Ok.ensures.manager

pub returns-in-Err-clause-idle : goal.returns-in-Err-clause-idle
returns-in-Err-clause-idle c = λ key s sealing.
    end_idle c.args.desk.now c.end_into.new.self key c.args.id s c.args.message.now sealing (c.in-Err.ensures.stands sealing.at.value sealing.at.stands) c.in-Err.ensures.manager
