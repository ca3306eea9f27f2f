use Rattle.gathered_output.proofs.Handing.{held_fails, not_held}
use Rattle.gathered_output.proofs.gathering.GatheringReceiver.take.Goals as goal

pub returns-in-Err : goal.returns-in-Err
returns-in-Err g c = (
  c.hand_on.ensures.same,
  held_fails g.R.Receiver.takes g.R.Receiver.fails c.args.self.now.output.now c.hand_on.new.self.output.now c.args.self.now.gathered.now c.args.bytes.now c.in-Err.error c.in-Err.ensures.handed,
)

pub returns : goal.returns
returns g c =
    not_held g.R.Receiver.takes g.R.Receiver.fails g.met.R.Receiver.takes_more g.met.R.Receiver.fails_behind _ c.args.self.now.output.now c.hand_on.new.self.output.now c.hand_over.new.output
    c.args.self.now.gathered.now _ c.args.bytes.now c.hand_over.result (record { output = c.hand_on.ensures.same.output; gathered = c.hand_on.ensures.same.gathered }) c.in-Ok.ensures.handed
    c.hand_on.ensures.empty c.hand_over.ensures.handed
