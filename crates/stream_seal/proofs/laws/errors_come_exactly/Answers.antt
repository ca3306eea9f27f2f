use Rattle.stream_seal.proofs.Refusing.{errors_exact}
use Rattle.stream_seal.proofs.laws.errors_come_exactly.Goals as goal

pub returns : goal.returns
returns c = errors_exact
