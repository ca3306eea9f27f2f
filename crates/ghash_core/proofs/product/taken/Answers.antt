use Rattle.std.proofs.Common.{◌∙◌, refl}
use Rattle.ghash_core.proofs.Ring.{hash_by_square}
use Rattle.ghash_core.proofs.product.taken.Goals as goal

pub returns-then-waiting : goal.returns-then-waiting
returns-then-waiting c = λ h made. rw (c.if-waiting.true) (c.times_two.ensures h made ∙ hash_by_square h c.args.hash c.args.block made.small)

pub returns : goal.returns
returns c = λ h made. rw (c.if-waiting.false) refl
