use Rattle.std.proofs.Common.{◌≡◌, ◌*◌, [], ◌∷◌, get_or, arith}
use Rattle.cipher_spec.specs.Aes.{state_of}
use Rattle.plane_core.specs.Bits.{block}
use Rattle.plane_core.specs.Places.{lane_bit}
use Rattle.plane_core.proofs.Blocks.{each_of_eight}
use Rattle.aes_core.specs.Counters.{column_byte, image, last_byte}
use Rattle.aes_core.proofs.ImagePlanes.{quad_block}
use Rattle.aes_core.proofs.last_byte.table.Goals as goal

pub returns : goal.returns
returns c = record {
  is_column = λ q b h l d.
      let key = c.args.key in
      let low = c.images-low.result in
      let high = c.images-high.result in
      let quads = c.quad.result ∷ c.quad-2.result ∷ c.quad-3.result ∷ c.quad-4.result ∷ c.quad-5.result ∷ c.quad-6.result ∷ c.quad-7.result ∷ c.quad-8.result ∷ [] in
      each_of_eight (λ q. block lane_bit (get_or quads q d) b ≡ state_of (λ r c. column_byte r (image key (last_byte q c b))))
      (quad_block low c.quad.result 2 (4 * 0) 0 b key (omega arith) l (omega arith) c.quad.ensures c.images-low.ensures)
      (quad_block low c.quad-2.result 2 (4 * 1) 1 b key (omega arith) l (omega arith) c.quad-2.ensures c.images-low.ensures)
      (quad_block low c.quad-3.result 2 (4 * 2) 2 b key (omega arith) l (omega arith) c.quad-3.ensures c.images-low.ensures)
      (quad_block low c.quad-4.result 2 (4 * 3) 3 b key (omega arith) l (omega arith) c.quad-4.ensures c.images-low.ensures)
      (quad_block high c.quad-5.result 130 (4 * 0) 4 b key (omega arith) l (omega arith) c.quad-5.ensures c.images-high.ensures)
      (quad_block high c.quad-6.result 130 (4 * 1) 5 b key (omega arith) l (omega arith) c.quad-6.ensures c.images-high.ensures)
      (quad_block high c.quad-7.result 130 (4 * 2) 6 b key (omega arith) l (omega arith) c.quad-7.ensures c.images-high.ensures)
      (quad_block high c.quad-8.result 130 (4 * 3) 7 b key (omega arith) l (omega arith) c.quad-8.ensures c.images-high.ensures)
      q h;
}
