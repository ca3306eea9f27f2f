use Rattle.armour_core.proofs.Wide.{double_word_bytes_are}
use Rattle.armour_core.proofs.widths.double_word_bytes.Goals as goal

pub returns : goal.returns
returns c = double_word_bytes_are c.args.words c.requires c.fits-words.1
