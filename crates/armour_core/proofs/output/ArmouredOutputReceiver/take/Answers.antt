use Rattle.std.proofs.Common.{refl, take}
use Rattle.armour_core.specs.ArmouredLaws.{few_held}
use Rattle.armour_core.proofs.Outputs.{filled_step, handing_begins, handing_fails, handing_more, held_of}
use Rattle.armour_core.proofs.output.ArmouredOutputReceiver.take.Goals as goal

pub loop-used-init : goal.loop-used-init
loop-used-init g c = (refl, handing_begins g.R.Receiver.takes c.args.self.now.output.now (held_of c.args.self.now.armour) c.args.bytes.now (g.met.R.Receiver.takes_none c.args.self.now.output.now) (few_held c.args.self.now.armour))

pub loop-used-preserved : goal.loop-used-preserved
loop-used-preserved g c =
    let f = c.fill_lines-lines in
    let text = take f.result.filled f.new.text in
    let step = filled_step c.loop-used.self.armour f.new.armour c.args.bytes.now text c.loop-used.used f.result.used f.ensures.text f.ensures.left in (
      c.loop-used.invariant.0,
      handing_more g.R.Receiver.takes g.met.R.Receiver.takes_more c.args.self.now.output.now c.loop-used.self.output.now c.hand_on.new.output (held_of c.args.self.now.armour) c.loop-used.self.armour f.new.armour
          c.args.bytes.now text c.loop-used.used f.result.used c.loop-used.invariant.1 f.ensures.within step c.in-Ok.ensures,
    )

pub returns-in-Err : goal.returns-in-Err
returns-in-Err g c =
    let f = c.fill_lines-lines in
    let text = take f.result.filled f.new.text in
    let step = filled_step c.loop-used.self.armour f.new.armour c.args.bytes.now text c.loop-used.used f.result.used f.ensures.text f.ensures.left in (
      c.loop-used.invariant.0,
      handing_fails g.R.Receiver.takes g.R.Receiver.fails g.met.R.Receiver.fails_behind c.args.self.now.output.now c.loop-used.self.output.now c.hand_on.new.output (held_of c.args.self.now.armour) c.loop-used.self.armour
          f.new.armour c.args.bytes.now text c.loop-used.used f.result.used c.in-Err.error c.loop-used.invariant.1 step c.in-Err.ensures.0 c.in-Err.ensures.1,
    )
