use Rattle.std.proofs.Common.{arith}
use Rattle.session_parts.specs.Handed.{handed_of}
use Rattle.session_parts.proofs.Handing.{front_left, left_behind, part_left, rest_is}
use Rattle.session_parts.proofs.handed_bytes.left_at.Goals as goal

pub returns-then-at-bytes : goal.returns-then-at-bytes
returns-then-at-bytes c =
    front_left (handed_of c.args.bytes) c.args.at _ c.if-at-bytes.true (rest_is c.args.bytes.front.now c.args.at)

pub returns-then-from-bytes : goal.returns-then-from-bytes
returns-then-from-bytes c =
    part_left (handed_of c.args.bytes) c.args.at c.in_ok-from.from _ (omega (arith, c.in_ok-from.ensures)) c.if-from-bytes.true
    (rest_is c.args.bytes.part.now c.in_ok-from.from)

pub returns : goal.returns
returns c =
    left_behind (handed_of c.args.bytes) c.args.at c.in_ok-from.from c.behind_all.result (omega (arith, c.in_ok-from.ensures)) c.if-from-bytes.false
    c.behind_all.ensures.nothing c.behind_all.ensures.ends
