use Rattle.std.proofs.Common.{◌≡◌, sym, subst, ◌∙◌, ap}
use Rattle.context_codec.specs.Context.{IsContext}
use Rattle.context_codec.specs.Parts.{only_given}
use Rattle.context_codec.proofs.Parts.{IsContext-only_given}
use Rattle.context_codec.proofs.joining.only_of_given.Goals as goal

pub of-requires : goal.of-requires
of-requires c =
    let is : c.in_ok-pairs.pairs.items ≡ only_given c.args.stored.now c.args.given.now = c.in_ok-pairs.ensures ∙ ap (only_given c.args.stored.now) c.pairs.ensures.pairs in
    subst IsContext (sym is) (IsContext-only_given c.args.stored.now c.args.given.now c.pairs.ensures.context)
