use Rattle.keyring_file.proofs.WrittenLines.{lower_is_read, upper_is_read}
use Rattle.keyring_file.proofs.LineTrees.{line_read}
use Rattle.keyring_file.proofs.laws.written_lines_are_read.Goals as goal

pub returns : goal.returns
returns g c = λ wraps plugs w end has ends.
    let lower = lower_is_read w end has ends in
    let upper = upper_is_read w end has ends in
    (line_read wraps _ plugs w lower.0 lower.1, line_read wraps _ plugs w upper.0 upper.1)
