use Rattle.std.proofs.Common.{rules}
use Rattle.extract_core.proofs.Coming.{reads_front, tells_grows}
use Rattle.extract_core.proofs.read_ahead.read_front.Goals as goal

pub returns-clause-reads : goal.returns-clause-reads
returns-clause-reads g c =
    reads_front (g.F.Shelf.state c.args.shelf.now) (g.F.Shelf.state c.read_at.new.self) c.args.name.now c.args.at c.args.room c.read_at.new.out _ c.read_at.result
    c.read_at.ensures.bound c.read_at.ensures.bytes c.read_at.ensures.end c.read_at.ensures.given c.read_at.ensures.cause c.read_at.ensures.calls (search rules) c.requires.some

pub returns-clause-calls : goal.returns-clause-calls
returns-clause-calls g c =
    tells_grows (g.F.Shelf.state c.args.shelf.now).calls (g.F.Shelf.state c.read_at.new.self).calls c.read_at.result c.args.name.now c.args.at c.read_at.new.out c.read_at.ensures.calls
