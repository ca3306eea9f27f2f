use Rattle.std.proofs.Common.{refl, ap}
use Rattle.whole_input.specs.Pieces.{PiecesValue}
use Rattle.armour_core.proofs.Readers.{begins}
use Rattle.armour_core.proofs.reader.ArmourReader.new.Goals as goal

pub returns-clause-outlook : goal.returns-clause-outlook
returns-clause-outlook c = begins _ (ap (λ (p : PiecesValue). p.taken) c.requires.unused) (ap (λ (p : PiecesValue). p.piece) c.requires.unused) refl refl c.new.ensures
