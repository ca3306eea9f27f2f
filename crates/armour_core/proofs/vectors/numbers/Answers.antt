use Rattle.std.proofs.Common.{◌≡◌, ◌+◌, ◌%◌, bit_and, replicate, length, ap, ◌∙◌, sym}
use Rattle.std.specs.Simd.Lanes.{zip2}
use Rattle.std.proofs.lemmas.List.{length-map}
use Rattle.std.proofs.lemmas.Simd.{length-zip2}
use Rattle.armour_core.proofs.Lanes.{masked_below}
use Rattle.armour_core.proofs.vectors.numbers.Goals as goal

pub returns-clause-long : goal.returns-clause-long
returns-clause-long c =
    let looked : length c.looked_up-shifts.result ≡ 16 = ap length c.looked_up-shifts.ensures ∙ length-map c.classes.result _ ∙ c.classes.ensures.long in
    let sum = length-zip2 (λ a b. (a + b) % 256) c.looked_up-shifts.result c.args.characters (looked ∙ sym c.requires.long) ∙ looked in
    length-zip2 bit_and (zip2 (λ a b. (a + b) % 256) c.looked_up-shifts.result c.args.characters) (replicate 16 63) sum ∙ sum

pub returns-clause-small : goal.returns-clause-small
returns-clause-small c =
    let looked : length c.looked_up-shifts.result ≡ 16 = ap length c.looked_up-shifts.ensures ∙ length-map c.classes.result _ ∙ c.classes.ensures.long in
    masked_below (zip2 (λ a b. (a + b) % 256) c.looked_up-shifts.result c.args.characters)
    (length-zip2 (λ a b. (a + b) % 256) c.looked_up-shifts.result c.args.characters (looked ∙ sym c.requires.long) ∙ looked)
