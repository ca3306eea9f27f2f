use Rattle.std.proofs.Common.{ℕ, ◌<◌, length, get_or, subst, sym, ap, ◌∙◌}
use Rattle.std.proofs.lemmas.List.{length-map}
use Rattle.armour_core.proofs.Lanes.{bytes_below}
use Rattle.armour_core.proofs.Symbols.{class_lane, classes_are, classes_small}
use Rattle.armour_core.proofs.vectors.classes.Goals as goal

pub returns-clause-long : goal.returns-clause-long
returns-clause-long c = ap length (classes_are c.args.characters c.requires.long) ∙ length-map c.args.characters class_lane ∙ c.requires.long

pub returns-clause-small : goal.returns-clause-small
returns-clause-small c = subst (λ w. (j : ℕ) → get_or w j 0 < 16) (sym (classes_are c.args.characters c.requires.long)) (classes_small c.args.characters (bytes_below c.args.characters c.fits-characters))
