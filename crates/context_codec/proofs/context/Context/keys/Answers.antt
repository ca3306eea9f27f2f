use Rattle.std.proofs.Common.{◌≡◌, [], rules, ap, ◌∙◌}
use Rattle.context_codec.specs.KeySet.{with_keys}
use Rattle.context_codec.specs.Parts.{keys_of}
use Rattle.context_codec.proofs.KeySets.{AreAscendingKeys-keys_of, with_keys-from_nil}
use Rattle.context_codec.proofs.context.Context.keys.Goals as goal

pub returns : goal.returns
returns c =
    let pairs = c.self.inside.pairs.items in
    let is : c.in_ok-keys.keys.items ≡ keys_of pairs = search rules in
    c.of.ensures ∙ ap (with_keys []) is ∙ with_keys-from_nil (keys_of pairs) (AreAscendingKeys-keys_of pairs c.self.invariant.0.ascending) ∙ ap keys_of c.self.view_is
