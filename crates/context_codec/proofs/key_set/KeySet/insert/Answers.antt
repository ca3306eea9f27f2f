use Rattle.std.proofs.Common.{◌≡◌, List, ℕ, subst, rules}
use Rattle.std.proofs.lemmas.Str.{is_utf8-from_IsUtf8}
use Rattle.context_codec.specs.KeySet.{IsKeySet, with_key}
use Rattle.context_codec.specs.Placing.{IsKeyPlace}
use Rattle.context_codec.proofs.KeySets.{IsKeySet-with_key}
use Rattle.context_codec.proofs.key_set.KeySet.insert.Goals as goal

pub invariant_of-self-in-Err : goal.invariant_of-self-in-Err
invariant_of-self-in-Err c =
    let keys = c.self.inside.keys.items in
    let key = c.args.key.now in
    let place : IsKeyPlace key keys c.in-Err.at = subst (λ (ks : List (List ℕ)). IsKeyPlace key ks c.in-Err.at) c.deref.ensures.value c.in-Err.ensures in
    let is : with_key keys key ≡ c.insert.new.self.items = let p = place.inserted in search rules in
    subst IsKeySet is (IsKeySet-with_key keys key c.self.invariant (is_utf8-from_IsUtf8 key c.utf8.key))
