use Rattle.std.proofs.Common.{◌<◌, leb, get_or, arith}
use Rattle.plane_core.specs.Places.{lane}
use Rattle.aes_core.proofs.ImagePlanes.{byte_moved}
use Rattle.aes_core.proofs.lanes.all_moved.Goals as goal

pub returns : goal.returns
returns c j b h =
    let q = get_or c.args.from (lane j) 0 in
    let p : lane j < 16 = omega arith in
    byte_moved c.args.x.now _ (leb 0x80 q) j b q (c.moved.ensures (lane j) p) (c.moved-2.ensures (lane j) p) (c.moved-3.ensures (lane j) p) (c.moved-4.ensures (lane j) p)
    (c.moved-5.ensures (lane j) p) (c.moved-6.ensures (lane j) p) (c.moved-7.ensures (lane j) p) (c.moved-8.ensures (lane j) p)
