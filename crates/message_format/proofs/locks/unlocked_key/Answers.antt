-- What the commitment and the tag say of the lock.
use Rattle.std.proofs.Common.{◌∙◌}
use Rattle.message_format.proofs.LockFaults.{fault-commitment, fault-tag, fault-none}
use Rattle.message_format.proofs.locks.unlocked_key.Goals as goal

pub returns-in_default : goal.returns-in_default
returns-in_default c = fault-commitment c.args.header.now c.args.only.now c.args.key.now c.in_default.ensures

pub returns-then-not-same : goal.returns-then-not-same
returns-then-not-same c =
    fault-tag c.args.header.now c.args.only.now c.args.key.now c.in-Some.derived c.in_ok-tag.tag c.in-Some.ensures.0 c.in-Some.ensures.1
    (rw (c.in_ok-key.ensures, c.iv.ensures, c.raw.ensures.body) at c.in_ok-tag.ensures.tag) (cc)

pub returns : goal.returns
returns c = (
  fault-none c.args.header.now c.args.only.now c.args.key.now c.in-Some.derived c.in_ok-tag.tag c.in-Some.ensures.0 c.in-Some.ensures.1
      (rw (c.in_ok-key.ensures, c.iv.ensures, c.raw.ensures.body) at c.in_ok-tag.ensures.tag) (cc),
  c.header_tag.ensures.same ∙ (c.in_ok-key.ensures ∙ c.in-Some.ensures.1),
)
