use Rattle.std.proofs.Common.{zero, suc, refl, arith}
use Rattle.plane_core.proofs.grid.transposed.Goals as goal

pub returns : goal.returns
returns g c zero k h = rw (c.fours-fours04.ensures.low k, c.twos-twos02.ensures.low k, c.ones-ones01.ensures.low k, c.ones-ones23.ensures.low k, c.twos-twos46.ensures.low k, c.ones-ones45.ensures.low k, c.ones-ones67.ensures.low k) refl
returns g c (suc zero) k h = rw (c.fours-fours15.ensures.low k, c.twos-twos13.ensures.low k, c.ones-ones01.ensures.high k, c.ones-ones23.ensures.high k, c.twos-twos57.ensures.low k, c.ones-ones45.ensures.high k, c.ones-ones67.ensures.high k) refl
returns g c (suc (suc zero)) k h = rw (c.fours-fours26.ensures.low k, c.twos-twos02.ensures.high k, c.ones-ones01.ensures.low k, c.ones-ones23.ensures.low k, c.twos-twos46.ensures.high k, c.ones-ones45.ensures.low k, c.ones-ones67.ensures.low k) refl
returns g c (suc (suc (suc zero))) k h = rw (c.fours-fours37.ensures.low k, c.twos-twos13.ensures.high k, c.ones-ones01.ensures.high k, c.ones-ones23.ensures.high k, c.twos-twos57.ensures.high k, c.ones-ones45.ensures.high k, c.ones-ones67.ensures.high k) refl
returns g c (suc (suc (suc (suc zero)))) k h = rw (c.fours-fours04.ensures.high k, c.twos-twos02.ensures.low k, c.ones-ones01.ensures.low k, c.ones-ones23.ensures.low k, c.twos-twos46.ensures.low k, c.ones-ones45.ensures.low k, c.ones-ones67.ensures.low k) refl
returns g c (suc (suc (suc (suc (suc zero))))) k h = rw (c.fours-fours15.ensures.high k, c.twos-twos13.ensures.low k, c.ones-ones01.ensures.high k, c.ones-ones23.ensures.high k, c.twos-twos57.ensures.low k, c.ones-ones45.ensures.high k, c.ones-ones67.ensures.high k) refl
returns g c (suc (suc (suc (suc (suc (suc zero)))))) k h = rw (c.fours-fours26.ensures.high k, c.twos-twos02.ensures.high k, c.ones-ones01.ensures.low k, c.ones-ones23.ensures.low k, c.twos-twos46.ensures.high k, c.ones-ones45.ensures.low k, c.ones-ones67.ensures.low k) refl
returns g c (suc (suc (suc (suc (suc (suc (suc zero))))))) k h = rw (c.fours-fours37.ensures.high k, c.twos-twos13.ensures.high k, c.ones-ones01.ensures.high k, c.ones-ones23.ensures.high k, c.twos-twos57.ensures.high k, c.ones-ones45.ensures.high k, c.ones-ones67.ensures.high k) refl
returns g c (suc (suc (suc (suc (suc (suc (suc (suc q)))))))) k h = absurd (omega arith)
