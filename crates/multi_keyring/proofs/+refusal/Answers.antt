use Rattle.std.proofs.Common.{rules, arith, refl, sym, ap, ◌∙◌}
use Rattle.keyring_trait.specs.Keyring.{refusal_with}
use Rattle.multi_keyring.proofs.Meanings.{joined_row}
use Rattle.multi_keyring.proofs.Measures.{sizes_le}
use Rattle.multi_keyring.proofs.+refusal.Goals as goal

pub tree::Members::refusal-refusal_of-requires : goal.tree::Members::refusal-refusal_of-requires
tree::Members::refusal-refusal_of-requires g t c κs within =
    (rw c.deref.ensures.value (omega (arith, c.decreases, sizes_le c.args.self.now.children.items)), search rules)

pub tree::Multi::refusal-returns : goal.tree::Multi::refusal-returns
tree::Multi::refusal-returns g t c =
    c.refusal.ensures ∙ ap (refusal_with c.args.has_key) (sym (joined_row g.P.Keyring.meaning c.self.inside.members c.args.self.now c.self.view_is))

pub tree::Members::refusal-returns-in-Some : goal.tree::Members::refusal-returns-in-Some
tree::Members::refusal-returns-in-Some g t c = rw (c.in-Some.is, c.if-has_key.true) refl
