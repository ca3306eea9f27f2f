use Rattle.std.proofs.Common.{get_or, ◌∙◌}
use Rattle.aes_core.proofs.Groups.{first_is_entry, image_is, lane_below, second_is_entry}
use Rattle.aes_core.proofs.sbox.sub_bytes.Goals as goal

pub joined-requires-clause-first : goal.joined-requires-clause-first
joined-requires-clause-first c = λ p h. first_is_entry (get_or c.args.x p 0) _ (lane_below c.args.x p c.fits-x.0 c.fits-x.1 h) (c.divided.ensures.first p h)

pub joined-requires-clause-second : goal.joined-requires-clause-second
joined-requires-clause-second c = λ p h. second_is_entry (get_or c.args.x p 0) _ (lane_below c.args.x p c.fits-x.0 c.fits-x.1 h) (c.divided.ensures.second p h)

pub returns-clause-lanes : goal.returns-clause-lanes
returns-clause-lanes c = λ p h.
    c.joined.ensures.lanes p h ∙ rw (c.divided.ensures.first p h, c.divided.ensures.second p h) (image_is (get_or c.args.x p 0) (lane_below c.args.x p c.fits-x.0 c.fits-x.1 h))
