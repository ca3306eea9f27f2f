use Rattle.std.proofs.Common.{arith, sym}
use Rattle.multi_keyring.proofs.LeafUnwrapping.{seek_starts, seek_inside, seek_few, seek_ends, seek_goes_on}
use Rattle.multi_keyring.proofs.leaf_unwrapping.seat_of.Goals as goal

pub loop-number-init : goal.loop-number-init
loop-number-init g c = seek_starts g.P.Keyring.meaning c.args.nodes.now c.args.leaf c.requires.first c.requires.last

pub bounds-nodes-i : goal.bounds-nodes-i
bounds-nodes-i g c = seek_inside g.P.Keyring.meaning c.args.nodes.now c.args.leaf c.loop-number.i c.loop-number.number c.loop-number.invariant

pub leaves-own-requires : goal.leaves-own-requires
leaves-own-requires g c =
    omega (
      arith,
      c.requires.few,
      seek_few g.P.Keyring.meaning c.args.nodes.now c.args.leaf c.loop-number.i c.loop-number.number c.index-nodes-i.result c.loop-number.invariant (sym c.index-nodes-i.is),
    )

pub returns-then-number-own : goal.returns-then-number-own
returns-then-number-own g c =
    seek_ends g.P.Keyring.meaning c.args.nodes.now c.args.leaf c.loop-number.i c.loop-number.number c.index-nodes-i.result c.loop-number.invariant (sym c.index-nodes-i.is)
    (omega (arith, c.leaves-own.ensures, c.if-number-own.true))

pub loop-number-preserved : goal.loop-number-preserved
loop-number-preserved g c =
    seek_goes_on g.P.Keyring.meaning c.args.nodes.now c.args.leaf c.loop-number.i c.loop-number.number c.leaves-own.result c.index-nodes-i.result c.loop-number.invariant
    (sym c.index-nodes-i.is) c.leaves-own.ensures c.if-number-own.false

pub loop-number-smaller : goal.loop-number-smaller
loop-number-smaller g c =
    omega (arith, seek_inside g.P.Keyring.meaning c.args.nodes.now c.args.leaf c.loop-number.i c.loop-number.number c.loop-number.invariant)
