use Rattle.std.proofs.Common.{ℕ, ◌<◌, length, take, get_or, subst, sym, ap, ◌∙◌, arith}
use Rattle.std.proofs.lemmas.List.{length-take-le}
use Rattle.armour_core.proofs.Lanes.{bytes_below}
use Rattle.armour_core.proofs.Sixes.{below_front, length-sextets, sextets_below, split, split_pairs}
use Rattle.armour_core.proofs.vectors.sextets.Goals as goal

pub returns-clause-numbers : goal.returns-clause-numbers
returns-clause-numbers c = c.word_bytes.ensures ∙ ap split_pairs c.words-pairs.ensures ∙ split c.args.bytes c.requires.long (bytes_below c.args.bytes c.fits-bytes)

pub returns-clause-long : goal.returns-clause-long
returns-clause-long c =
    let size = length-take-le 12 c.args.bytes (omega (arith, c.requires.long)) in
    ap length (c.word_bytes.ensures ∙ ap split_pairs c.words-pairs.ensures ∙ split c.args.bytes c.requires.long (bytes_below c.args.bytes c.fits-bytes)) ∙ length-sextets (take 12 c.args.bytes) ∙ omega (arith, size)

pub returns-clause-small : goal.returns-clause-small
returns-clause-small c =
    let small = bytes_below c.args.bytes c.fits-bytes in
    subst (λ w. (j : ℕ) → get_or w j 0 < 64) (sym (c.word_bytes.ensures ∙ ap split_pairs c.words-pairs.ensures ∙ split c.args.bytes c.requires.long small)) (sextets_below (take 12 c.args.bytes) (below_front 12 c.args.bytes small))
