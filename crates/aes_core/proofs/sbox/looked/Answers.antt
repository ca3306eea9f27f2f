use Rattle.aes_core.proofs.Groups.{are_entries, looked_up}
use Rattle.aes_core.proofs.sbox.looked.Goals as goal

pub swizzle : goal.swizzle
swizzle c = are_entries c.args.at c.fits-at.0 c.requires

pub returns : goal.returns
returns c p h = looked_up c.args.table c.args.at p c.fits-at.0 h
