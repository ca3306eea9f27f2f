use Rattle.std.proofs.Common.{take, ap, ◌∙◌}
use Rattle.armour_core.specs.Sextets.{sextets_of}
use Rattle.armour_core.proofs.Sixes.{fours_of, packs, parts_of_four, parts_of_two, put_in_order, twelves, wholes}
use Rattle.armour_core.proofs.vectors.packed.Goals as goal

pub returns-clause-numbers : goal.returns-clause-numbers
returns-clause-numbers c =
    let bytes = c.double_word_bytes.ensures ∙ ap (λ h. parts_of_four (wholes h)) (c.double_words-halves.ensures ∙ ap fours_of (c.word_bytes.ensures ∙ ap (λ p. parts_of_two (twelves p)) c.words-pairs.ensures)) in
    ap (λ b. sextets_of (take 12 (put_in_order b))) bytes ∙ packs c.args.numbers c.requires.long c.requires.small
