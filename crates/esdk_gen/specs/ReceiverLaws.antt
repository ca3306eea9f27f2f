-- They keep the laws of receivers, which an `impl` can cite from specs/ alone.
use Rattle.std.proofs.Common.{ℕ, List, [], ◌++◌, arith, length-append}
use Rattle.esdk_gen.specs.Receivers.{Counts, CountsOver}

pub counts_none : (r : ℕ) → Counts r r []
counts_none r = omega arith

pub counts_more : (r s t : ℕ) (first second : List ℕ) → Counts r s first → Counts s t second
    → Counts r t (first ++ second)
counts_more r s t first second one two = omega (arith, one, two, length-append first second)

pub counts_over : (r s : ℕ) (first second : List ℕ) → Counts r s first → CountsOver s second
    → CountsOver r (first ++ second)
counts_over r s first second one two = omega (arith, one, two, length-append first second)
