use Rattle.armour_core.proofs.Wide.{words_are}
use Rattle.armour_core.proofs.widths.words.Goals as goal

pub returns : goal.returns
returns c = words_are c.args.bytes c.requires c.fits-bytes.1
