use Rattle.std.proofs.Common.{refl}
use Rattle.header_codec.specs.Table.{opening, header}
use Rattle.stream_open.proofs.session.Opener.new.Goals as goal

pub returns : goal.returns
unfolding header opening
returns c = record {
  settings = refl;
  given = refl;
  served = refl;
  stopped = refl;
  out = refl;
  at = record { reads = λ _. c.new.ensures; unheard = λ _. refl; wanting = refl };
}
