use Rattle.std.proofs.Common.{◌≡◌, ◌-◌, ◌≤◌, ℕ, List, length}
use Rattle.armour_core.specs.ReaderOutlook.{reader_outlook}
use Rattle.armour_core.proofs.reader.ArmourReader.pass_breaks.Given as goal

abbrev pub invariant-loop-self : goal.invariant-loop-self
invariant-loop-self l = record {
  outlook : (text : List ℕ) → reader_outlook l.self text ≡ reader_outlook l.fn.self text;
  pieces : l.self.pieces ≡ l.fn.self.pieces;
  ending : l.self.ending ≡ l.fn.self.ending;
  later : l.fn.self.at ≤ l.self.at;
}

abbrev pub decreases-loop-self : goal.decreases-loop-self
decreases-loop-self l = length l.self.pieces.piece - l.self.at
