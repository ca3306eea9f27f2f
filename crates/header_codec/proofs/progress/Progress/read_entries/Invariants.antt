use Rattle.std.proofs.Common.{◌≡◌, Some}
use Rattle.header_codec.specs.Progress.{HasReadSoFar}
use Rattle.header_codec.proofs.progress.Progress.read_entries.Given as goal

abbrev pub invariant-loop-left : goal.invariant-loop-left
invariant-loop-left l = record {
  holds : HasReadSoFar l.bytes l.self;
  settings : l.self.settings ≡ l.fn.self.settings;
  front : l.self.front ≡ l.fn.self.front;
  left : l.self.left ≡ Some l.left;
}

abbrev pub decreases-loop-left : goal.decreases-loop-left
decreases-loop-left l = l.left
