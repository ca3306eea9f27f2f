use Rattle.std.proofs.Common.{◌≡◌, ◌∙◌, [], ap, subst}
use Rattle.std.specs.Option.{unwrap_or}
use Rattle.std.specs.Prelude.{IfOk, codes}
use Rattle.clap.specs.Matches.{found_of}
use Rattle.clap.proofs.WalkLemmas.{raw_values-rows}
use Rattle.esdk_args.specs.PairWords.{pairs_of}
use Rattle.esdk_args.proofs.values.pairs.Goals as goal

pub returns-in-Some : goal.returns-in-Some
returns-in-Some c =
    let are = ap (λ o. unwrap_or o []) (c.in-Some.ensures ∙ raw_values-rows (found_of c.args.matches.now) (codes "pairs")) in
    subst (λ l. IfOk c.pairs_of.result (λ made. made ≡ pairs_of l)) are c.pairs_of.ensures

pub returns-in-None : goal.returns-in-None
returns-in-None c =
    let are = ap (λ o. unwrap_or o []) (c.in-None.ensures ∙ raw_values-rows (found_of c.args.matches.now) (codes "pairs")) in
    subst (λ l. IfOk c.pairs_of-in-None.result (λ made. made ≡ pairs_of l)) are c.pairs_of-in-None.ensures
