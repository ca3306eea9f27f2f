use Rattle.std.proofs.Common.{sym, ap, ◌∙◌, subst, min}
use Rattle.keyring_trait.specs.Keyring.{KeyringMeaning}
use Rattle.multi_keyring.specs.Tree.{all_wraps, tree_meaning}
use Rattle.multi_keyring.specs.Nodes.{all_of}
use Rattle.multi_keyring.specs.Rows.{IsCounted}
use Rattle.multi_keyring.proofs.Meanings.{row_is, joined_row}
use Rattle.multi_keyring.proofs.Measures.{sizes_le}
use Rattle.multi_keyring.proofs.Counted.{joined_counted}
use Rattle.multi_keyring.proofs.+entry_count.Goals as goal
use Rattle.std.proofs.Common.{rules, arith}
use Rattle.std.specs.Prelude.{is_some, map}

pub tree::Multi::entry_count-returns-clause-value :
    goal.tree::Multi::entry_count-returns-clause-value
tree::Multi::entry_count-returns-clause-value g t c =
    c.min.ensures ∙ ap (λ n. min n 64) (c.entry_count.ensures.value ∙ ap all_wraps (sym (row_is g.P.Keyring.meaning c.self.inside.members c.args.self.now c.self.view_is)))

pub tree::Multi::entry_count-returns-clause-counted :
    goal.tree::Multi::entry_count-returns-clause-counted
tree::Multi::entry_count-returns-clause-counted g t c =
    subst (λ (m : KeyringMeaning). IsCounted m) (sym (joined_row g.P.Keyring.meaning c.self.inside.members c.args.self.now c.self.view_is))
    (joined_counted (is_some c.self.inside.members.generator) (map (tree_meaning g.P.Keyring.meaning) (all_of c.self.inside.members)) c.entry_count.ensures.counted)

pub tree::Members::entry_count-entry_count_of-others-requires :
    goal.tree::Members::entry_count-entry_count_of-others-requires
tree::Members::entry_count-entry_count_of-others-requires g t c κs within =
    (rw c.deref.ensures.value (omega (arith, c.decreases, sizes_le c.args.self.now.children.items)), (search rules, search rules))
