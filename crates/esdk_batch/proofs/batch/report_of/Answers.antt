-- Each line that is pushed is the next job's.
use Rattle.std.proofs.Common.{◌≡◌, true}
use Rattle.std.specs.Vec.Iter.{into_iter_items}
use Rattle.std.proofs.lemmas.List.Elements.{All-rest}
use Rattle.esdk_batch.specs.Progress.{is_ended}
use Rattle.esdk_batch.proofs.Lines.{line_more}
use Rattle.esdk_batch.proofs.batch.report_of.Goals as goal

pub loop-one-preserved : goal.loop-one-preserved
loop-one-preserved c = record {
  whole = line_more c.args.progress.items (into_iter_items c.loop-one.one-iterator) (into_iter_items c.next.new.self) c.loop-one.lines.items c.push.new.self.items c.in-Some.one c.in-Ended.line
      c.loop-one.invariant.whole c.in-Some.ensures.steps.0 c.in-Ended.is c.in_ok-push-in-Ended.ensures.items;
  ended = All-rest (λ one. is_ended one ≡ true) c.in-Some.one (into_iter_items c.next.new.self) (into_iter_items c.loop-one.one-iterator) c.in-Some.ensures.steps.0 c.loop-one.invariant.ended;
}
