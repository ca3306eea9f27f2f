use Rattle.armour_core.proofs.Wide.{double_words_are}
use Rattle.armour_core.proofs.widths.double_words.Goals as goal

pub returns : goal.returns
returns c = double_words_are c.args.bytes c.requires c.fits-bytes.1
