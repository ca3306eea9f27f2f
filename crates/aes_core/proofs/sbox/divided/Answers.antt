use Rattle.std.proofs.Common.{◌/◌, ◌%◌, get_or, bit_xor, refl, ◌∙◌}
use Rattle.aes_core.specs.declared.sbox.TheConstants.{INVERSES, QUOTIENTS}
use Rattle.aes_core.specs.Groups.{table_entry, first_quotient, second_quotient}
use Rattle.aes_core.proofs.Groups.{is_entry, lane_below}
use Rattle.aes_core.proofs.sbox.divided.Goals as goal

pub looked-requires-2 : goal.looked-requires-2
looked-requires-2 c = λ p h.
    is_entry (λ b. bit_xor (b / 16) (b % 16)) tt (get_or c.args.x p 0) _ (lane_below c.args.x p c.fits-x.0 c.fits-x.1 h)
    (c.sum-both.ensures.lanes p h ∙ rw (c.upper-high.ensures p h, c.lower-low.ensures p h) refl)

pub looked-requires-3 : goal.looked-requires-3
looked-requires-3 c = λ p h.
    is_entry (λ b. bit_xor (table_entry INVERSES (b / 16)) (table_entry QUOTIENTS (b % 16))) tt (get_or c.args.x p 0) _ (lane_below c.args.x p c.fits-x.0 c.fits-x.1 h)
    (c.sum-a.ensures.lanes p h ∙ rw (c.looked.ensures p h, c.looked-quotient.ensures p h, c.upper-high.ensures p h, c.lower-low.ensures p h) refl)

pub looked-requires-4 : goal.looked-requires-4
looked-requires-4 c = λ p h.
    is_entry (λ b. bit_xor (table_entry INVERSES (bit_xor (b / 16) (b % 16))) (table_entry QUOTIENTS (b % 16))) tt (get_or c.args.x p 0) _ (lane_below c.args.x p c.fits-x.0 c.fits-x.1 h)
    (c.sum-b.ensures.lanes p h ∙ rw (c.looked-2.ensures p h, c.looked-quotient.ensures p h, c.sum-both.ensures.lanes p h, c.upper-high.ensures p h, c.lower-low.ensures p h) refl)

pub returns-clause-first : goal.returns-clause-first
unfolding first_quotient
returns-clause-first c = λ p h.
    c.sum.ensures.lanes p h ∙ rw (c.looked-3.ensures p h, c.sum-a.ensures.lanes p h, c.looked.ensures p h, c.looked-quotient.ensures p h, c.sum-both.ensures.lanes p h, c.upper-high.ensures p h, c.lower-low.ensures p h) refl

pub returns-clause-second : goal.returns-clause-second
unfolding second_quotient
returns-clause-second c = λ p h.
    c.sum-2.ensures.lanes p h ∙ rw (c.looked-4.ensures p h, c.sum-b.ensures.lanes p h, c.looked-2.ensures p h, c.looked-quotient.ensures p h, c.sum-both.ensures.lanes p h, c.upper-high.ensures p h, c.lower-low.ensures p h) refl
