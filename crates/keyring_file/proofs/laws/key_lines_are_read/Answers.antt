use Rattle.keyring_file.proofs.Lines.{line_is_spelled, spelled_is_read}
use Rattle.keyring_file.proofs.LineTrees.{line_read, read_line}
use Rattle.keyring_file.proofs.laws.key_lines_are_read.Goals as goal

pub returns : goal.returns
returns g c = λ wraps bytes plugs w plain.
    (λ is. line_is_spelled bytes w (read_line wraps bytes plugs w plain is), λ spelled. line_read wraps bytes plugs w plain (spelled_is_read bytes w spelled))
