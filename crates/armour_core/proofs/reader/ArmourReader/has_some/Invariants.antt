use Rattle.std.proofs.Common.{◌≡◌, ◌-◌, ◌≤◌, ℕ, List, length, None, Some}
use Rattle.armour_core.specs.declared.text_end.TextEnd.TheVariants.{Whole}
use Rattle.armour_core.specs.ReaderOutlook.{pending, reader_outlook}
use Rattle.armour_core.proofs.reader.ArmourReader.has_some.Given as goal

abbrev pub invariant-loop-self : goal.invariant-loop-self
invariant-loop-self l = record {
  outlook : (text : List ℕ) → reader_outlook l.self text ≡ reader_outlook l.fn.self text;
  pieces : l.self.pieces ≡ l.fn.self.pieces;
  goes : l.self.ending ≡ None → l.fn.self.ending ≡ None;
  whole : l.self.ending ≡ Some Whole → l.fn.self.ending ≡ Some Whole;
  keeps : 1 ≤ length (pending l.fn.self) → 1 ≤ length (pending l.self);
}

abbrev pub decreases-loop-self : goal.decreases-loop-self
decreases-loop-self l = length l.self.pieces.piece - l.self.at
