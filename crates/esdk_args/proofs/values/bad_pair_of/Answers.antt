use Rattle.std.proofs.Common.{◌∙◌, [], ap}
use Rattle.std.specs.Option.{unwrap_or}
use Rattle.std.specs.Prelude.{codes}
use Rattle.clap.specs.Matches.{found_of}
use Rattle.clap.proofs.WalkLemmas.{raw_values-rows}
use Rattle.esdk_args.specs.PairWords.{bad_pair}
use Rattle.esdk_args.proofs.values.bad_pair_of.Goals as goal

pub returns-in-Some : goal.returns-in-Some
returns-in-Some c = c.bad_pair.ensures ∙ ap (λ o. bad_pair (unwrap_or o []))
    (c.in-Some.ensures ∙ raw_values-rows (found_of c.args.matches.now) (codes "pairs"))

pub returns-in-None : goal.returns-in-None
returns-in-None c = c.bad_pair-in-None.ensures ∙ ap (λ o. bad_pair (unwrap_or o []))
    (c.in-None.ensures ∙ raw_values-rows (found_of c.args.matches.now) (codes "pairs"))
