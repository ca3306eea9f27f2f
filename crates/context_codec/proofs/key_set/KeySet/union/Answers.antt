use Rattle.std.proofs.Common.{◌≡◌, [], ◌++◌, ℕ, List, ap, subst, ◌∙◌}
use Rattle.context_codec.specs.KeySet.{AreAscendingKeys, with_keys}
use Rattle.context_codec.proofs.ManyKeys.{both_sets}
use Rattle.context_codec.proofs.key_set.KeySet.union.Goals as goal

pub returns : goal.returns
returns c =
    let own : c.in_ok-keys.keys.items ≡ c.args.self.now = c.in_ok-keys.ensures ∙ c.deref.ensures.value ∙ c.self.view_is in
    let more : c.deref-2.result.now ≡ c.args.other.now = c.deref-2.ensures.value ∙ c.other.view_is in
    let all : c.push_copies.new.keys.items ≡ c.args.self.now ++ c.args.other.now =
    c.in_ok-push_copies.ensures ∙ ap (λ (ks : List (List ℕ)). ks ++ c.deref-2.result.now) own ∙ ap (λ (ks : List (List ℕ)). c.args.self.now ++ ks) more in
    c.of.ensures ∙ ap (with_keys []) all ∙ both_sets c.args.self.now c.args.other.now (subst AreAscendingKeys c.self.view_is c.self.invariant.ascending)
