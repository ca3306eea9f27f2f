use Rattle.std.proofs.Common.{get_or, bit_and, ◌∙◌}
use Rattle.std.proofs.lemmas.Nat.{and_mask}
use Rattle.aes_core.proofs.Groups.{lane_of_one}
use Rattle.aes_core.proofs.sbox.lower.Goals as goal

pub returns : goal.returns
returns c p h = lane_of_one bit_and c.args.x p 15 c.fits-x.0 h ∙ and_mask (get_or c.args.x p 0) 4
