use Rattle.std.proofs.Common.{◌≡◌, rules, sym, subst}
use Rattle.context_codec.specs.Context.{IsContext}
use Rattle.context_codec.specs.Parts.{only_of}
use Rattle.context_codec.proofs.Parts.{IsContext-only_of}
use Rattle.context_codec.proofs.context.Context.only.Goals as goal

pub of-requires : goal.of-requires
of-requires c =
    let is : c.in_ok-pairs.pairs.items ≡ only_of c.args.keys.now c.self.inside.pairs.items = search rules in
    subst IsContext (sym is) (IsContext-only_of c.args.keys.now c.self.inside.pairs.items c.self.invariant.0)
