use Rattle.std.proofs.Common.{ℕ, List, rules, of_calls}
use Rattle.std.proofs.lemmas.Fn.{always_returns_same}
use Rattle.context_codec.proofs.Keys.{key_cmp}
use Rattle.context_codec.proofs.KeyPlaces.{key_searched}
use Rattle.context_codec.proofs.places.key_place.Goals as goal

pub returns : goal.returns
returns c =
    key_searched c.args.key.now c.args.keys.now c.requires c.binary_search_by.result c.binary_search_by.ensures.bound
    (c.binary_search_by.ensures.position (λ (k : List ℕ). key_cmp k c.args.key.now) (always_returns_same _ _ _ (λ a r f k. search (rules, of_calls))))
