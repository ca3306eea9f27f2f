use Rattle.stream_open.proofs.FedPieces.{fed_as_one}
use Rattle.stream_open.proofs.laws.pieces_are_fed_as_one.Goals as goal

pub returns : goal.returns
returns g c = fed_as_one g.M.Manager.state c.args.first.now c.args.between.now c.args.last.now
