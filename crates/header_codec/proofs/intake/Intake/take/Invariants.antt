use Rattle.std.proofs.Common.{◌≡◌, ◌++◌, length}
use Rattle.header_codec.proofs.intake.Intake.take.Given as goal

abbrev pub invariant-loop-rest : goal.invariant-loop-rest
invariant-loop-rest l = record {
  settings : l.self.settings ≡ l.fn.self.settings;
  rest : l.self.taken ++ l.rest ≡ l.fn.self.taken ++ l.fn.piece;
}

abbrev pub decreases-loop-rest : goal.decreases-loop-rest
decreases-loop-rest l = length l.rest
