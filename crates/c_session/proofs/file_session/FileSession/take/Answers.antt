use Rattle.std.proofs.Common.{refl}
use Rattle.c_session.proofs.file_session.FileSession.take.Goals as goal

pub returns-in-Read : goal.returns-in-Read
returns-in-Read c = rw c.in-Read.is (c.take.new.self, refl, c.take.ensures)
