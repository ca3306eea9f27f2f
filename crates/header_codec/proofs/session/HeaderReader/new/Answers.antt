use Rattle.std.proofs.Common.{refl}
use Rattle.header_codec.specs.Table.{opening, header}
use Rattle.header_codec.proofs.session.HeaderReader.new.Goals as goal

pub returns : goal.returns
unfolding header opening
returns c = record { settings = c.new.ensures.settings; stopped = refl; taken = λ _ _. c.new.ensures.taken; found = refl }
