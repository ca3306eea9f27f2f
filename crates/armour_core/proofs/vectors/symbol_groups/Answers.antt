use Rattle.std.proofs.Common.{◌≡◌, ◌*◌, ◌≤◌, length, take, ap, subst, sym, ◌∙◌, arith}
use Rattle.std.proofs.lemmas.List.{length-map}
use Rattle.armour_core.proofs.Written.{few_groups, no_difference, same_groups}
use Rattle.armour_core.proofs.vectors.symbol_groups.Goals as goal

pub returns-then-others-eq0-clause-same : goal.returns-then-others-eq0-clause-same
returns-then-others-eq0-clause-same c =
    let long : length c.symbols.result ≡ 16 = ap length c.symbols.ensures ∙ length-map c.args.numbers _ ∙ c.requires.long in
    ap (take 16) (sym c.symbols.ensures ∙ no_difference c.symbols.result c.args.characters (long ∙ sym c.requires.sixteen) (omega (arith, long)) c.if-others-eq0.true)

pub returns-clause-same : goal.returns-clause-same
returns-clause-same c =
    let long : length c.symbols.result ≡ 16 = ap length c.symbols.ensures ∙ length-map c.args.numbers _ ∙ c.requires.long in
    ap (take _) (sym c.symbols.ensures)
    ∙ subst (λ n. take (4 * n) c.symbols.result ≡ take (4 * n) c.args.characters) (sym c.groups_before.ensures) (same_groups c.symbols.result c.args.characters (long ∙ sym c.requires.sixteen) (omega (arith, long)) c.if-others-eq0.false)

pub returns-clause-few : goal.returns-clause-few
returns-clause-few c =
    let long : length c.symbols.result ≡ 16 = ap length c.symbols.ensures ∙ length-map c.args.numbers _ ∙ c.requires.long in
    subst (λ n. n ≤ 4) (sym c.groups_before.ensures) (few_groups c.symbols.result c.args.characters (long ∙ sym c.requires.sixteen) (omega (arith, long)) long c.if-others-eq0.false)
