use Rattle.std.proofs.Common.{◌≡◌, ◌∙◌, ◌++◌, List, ℕ, sym, ap, subst}
use Rattle.esdk_gen.specs.Sealing.{GeneratorIsSealing, gen_session}
use Rattle.esdk_gen.proofs.Sealings.{seals_first}
use Rattle.esdk_gen.proofs.sealing.header.Goals as goal

pub returns : goal.returns
returns c = λ key random new.
    let put : c.take.new.self ≡ c.in-Ok.header.now = c.in_ok-take-in-Ok.ensures ∙ ap (λ (b : List ℕ). b ++ c.in-Ok.header.now) c.new-message.ensures in
    subst (λ (b : List ℕ). GeneratorIsSealing c.args.desk.now key c.args.id (gen_session key random) b) (sym put)
    (seals_first c.args.desk.now key random c.args.id c.in-Ok.header.now new (c.in-Ok.ensures.header new.value new.stands))
