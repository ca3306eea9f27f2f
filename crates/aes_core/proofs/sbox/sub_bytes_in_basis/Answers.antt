use Rattle.std.proofs.Common.{get_or, ap, ◌∙◌}
use Rattle.aes_core.specs.Groups.{out_of_basis}
use Rattle.aes_core.proofs.Groups.{first_is_entry, lane_below, once_is, second_is_entry, twice_is}
use Rattle.aes_core.proofs.sbox.sub_bytes_in_basis.Goals as goal

pub joined-requires-clause-first : goal.joined-requires-clause-first
joined-requires-clause-first c = λ p h. first_is_entry (get_or c.args.x p 0) _ (lane_below c.args.x p c.fits-x.0 c.fits-x.1 h) (c.divided-q.ensures.first p h)

pub joined-requires-clause-second : goal.joined-requires-clause-second
joined-requires-clause-second c = λ p h. second_is_entry (get_or c.args.x p 0) _ (lane_below c.args.x p c.fits-x.0 c.fits-x.1 h) (c.divided-q.ensures.second p h)

pub joined-requires-2-clause-first : goal.joined-requires-2-clause-first
joined-requires-2-clause-first c = λ p h. first_is_entry (get_or c.args.x p 0) _ (lane_below c.args.x p c.fits-x.0 c.fits-x.1 h) (c.divided-q.ensures.first p h)

pub joined-requires-2-clause-second : goal.joined-requires-2-clause-second
joined-requires-2-clause-second c = λ p h. second_is_entry (get_or c.args.x p 0) _ (lane_below c.args.x p c.fits-x.0 c.fits-x.1 h) (c.divided-q.ensures.second p h)

pub returns-clause-once : goal.returns-clause-once
returns-clause-once c = λ p h.
    ap out_of_basis (c.joined.ensures.lanes p h) ∙ rw (c.divided-q.ensures.first p h, c.divided-q.ensures.second p h) (once_is (get_or c.args.x p 0) (lane_below c.args.x p c.fits-x.0 c.fits-x.1 h))

pub returns-clause-twice : goal.returns-clause-twice
returns-clause-twice c = λ p h.
    ap out_of_basis (c.joined-2.ensures.lanes p h) ∙ rw (c.divided-q.ensures.first p h, c.divided-q.ensures.second p h) (twice_is (get_or c.args.x p 0) (lane_below c.args.x p c.fits-x.0 c.fits-x.1 h))
