use Rattle.armour_core.proofs.Wide.{word_bytes_are}
use Rattle.armour_core.proofs.widths.word_bytes.Goals as goal

pub returns : goal.returns
returns c = word_bytes_are c.args.words c.requires c.fits-words.1
