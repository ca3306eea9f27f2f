use Rattle.std.proofs.Common.{◌≡◌}
use Rattle.armour_core.specs.ReaderOutlook.{Awaits, KeepsOutlook, text_turns_left}
use Rattle.armour_core.proofs.source.UnarmouredSource.take_some.Given as goal

abbrev pub invariant-loop-self : goal.invariant-loop-self
invariant-loop-self g l = record {
  same : l.self.text.ghost_name ≡ l.fn.self.text.ghost_name;
  outlook : KeepsOutlook (g.S.Source.state l.fn.self.text.now) (g.S.Source.state l.self.text.now) l.fn.self.reader l.self.reader;
  awaits : Awaits (g.S.Source.state l.fn.self.text.now) (g.S.Source.state l.self.text.now) l.fn.self.reader l.self.reader l.fn.self.faults;
  lasts : g.S.Source.lasts l.fn.self.text.now l.self.text.now;
  stays : (g.S.Source.state l.self.text.now).faults ≡ (g.S.Source.state l.fn.self.text.now).faults;
  given : l.self.given ≡ l.fn.self.given;
  faults : l.self.faults ≡ l.fn.self.faults;
  came : l.self.came.bytes ≡ l.fn.self.came.bytes;
  ended : l.self.ended ≡ l.fn.self.ended;
}

abbrev pub decreases-loop-self : goal.decreases-loop-self
decreases-loop-self g l = text_turns_left l.self.reader
