use Rattle.std.proofs.Common.{refl, ◌∙◌, arith}
use Rattle.ghash_core.proofs.vector.gathered.Goals as goal

pub returns : goal.returns
returns c =
    c.folded.ensures
    ∙ rw (
      c.lower_words.ensures 0 (omega arith),
      c.lower_words.ensures 1 (omega arith),
      c.lower_words-2.ensures 0 (omega arith),
      c.lower_words-2.ensures 1 (omega arith),
      c.upper_words.ensures 0 (omega arith),
      c.upper_words.ensures 1 (omega arith),
      c.upper_words-2.ensures 0 (omega arith),
      c.upper_words-2.ensures 1 (omega arith),
    ) refl
