use Rattle.std.proofs.Common.{◌≡◌, ◌++◌, List, length, take, ap, subst, ◌∙◌, arith}
use Rattle.std.specs.List.Sorted.{IsPermutation}
use Rattle.std.proofs.lemmas.List.{take_all}
use Rattle.context_codec.specs.Context.{KeyValue}
use Rattle.context_codec.proofs.Keys.{ascends_from}
use Rattle.context_codec.proofs.JoinedPairs.{sorted_joined}
use Rattle.context_codec.proofs.joining.merged.Goals as goal

pub returns : goal.returns
returns c =
    let stored = c.args.stored.now in
    let only = c.args.only.now in
    let all : take c.loop-pair.pair-index only ≡ only = take_all c.loop-pair.pair-index only (omega (arith, ap length c.pairs-pair-items.ensures.pairs)) in
    let is : c.loop-pair.pairs.items ≡ stored ++ only = c.loop-pair.invariant ∙ ap (λ (ps : List KeyValue). stored ++ ps) all in
    let same : IsPermutation (stored ++ only) c.sort.new.pairs.items = subst (λ (ps : List KeyValue). IsPermutation ps c.sort.new.pairs.items) is c.sort.ensures.permutation in
    sorted_joined stored only c.sort.new.pairs.items (ascends_from stored c.pairs.ensures.context.ascending) (ascends_from only c.pairs-pair-items.ensures.context.ascending) c.requires same c.in_ok-sort.ensures.sorted
