use Rattle.stream_open.proofs.AnyCut.{any_cut}
use Rattle.stream_open.proofs.Ends.{ends_exactly}
use Rattle.stream_open.proofs.laws.any_cut_gives_the_content.Goals as goal

pub returns-clause-content : goal.returns-clause-content
returns-clause-content c = any_cut

pub returns-clause-ends : goal.returns-clause-ends
returns-clause-ends c = ends_exactly
