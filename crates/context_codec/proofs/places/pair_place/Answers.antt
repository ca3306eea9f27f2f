use Rattle.std.proofs.Common.{rules, of_calls}
use Rattle.std.proofs.lemmas.Fn.{always_returns_same}
use Rattle.context_codec.specs.Context.{KeyValue}
use Rattle.context_codec.proofs.Keys.{key_cmp}
use Rattle.context_codec.proofs.PairPlaces.{pair_searched}
use Rattle.context_codec.proofs.places.pair_place.Goals as goal

pub returns : goal.returns
returns c =
    pair_searched c.args.key.now c.args.pairs.now c.requires c.binary_search_by.result c.binary_search_by.ensures.bound
    (c.binary_search_by.ensures.position (λ (p : KeyValue). key_cmp p.0 c.args.key.now) (always_returns_same _ _ _ (λ a r f k. search (rules, of_calls))))
