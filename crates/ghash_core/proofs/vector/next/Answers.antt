use Rattle.std.proofs.Common.{◌+◌, ◌*◌, Fits, w64, get_or, arith}
use Rattle.std.specs.Simd.Lanes.{number_l}
use Rattle.std.proofs.lemmas.Simd.{Each1-get_or}
use Rattle.ghash_core.specs.Tables.{half_lanes, word}
use Rattle.ghash_core.proofs.Lanes.{pair_moved}
use Rattle.ghash_core.proofs.vector.next.Goals as goal

pub returns : goal.returns
returns c t l half within =
    let high = c.args.high in
    let low = c.args.low in
    let m = 2 * t + l in
    let a = Each1-get_or (Fits w64) high m 0 (omega (arith, c.fits-high.0)) c.fits-high.1 in
    let b = Each1-get_or (Fits w64) low m 0 (omega (arith, c.fits-low.0)) c.fits-low.1 in
    pair_moved (get_or high m 0) (get_or low m 0) (get_or c.upper.result m 0) (get_or c.lower.result m 0) (word (number_l 256 (half_lanes c.args.plane t)) l) a.fits b.fits (c.upper.ensures t l half within) (c.lower.ensures m (omega arith))
