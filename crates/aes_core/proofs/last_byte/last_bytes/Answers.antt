use Rattle.std.proofs.Common.{◌≡◌, ◌+◌, ◌%◌, ◌^◌, bit_xor, sym, ap, arith}
use Rattle.aes_core.proofs.ImagePlanes.{same_head}
use Rattle.aes_core.proofs.last_byte.last_bytes.Goals as goal

pub returns : goal.returns
returns c =
    let e : (c.args.first + 0) % 2 ^ 8 ≡ c.args.first = omega arith in
    same_head _ _ _ (ap (λ n. bit_xor n c.args.key) (sym e))
