-- Why a recursion over the members of a multi-keyring ends.
use Rattle.std.proofs.Common.{◌≡◌, ℕ, ◌+◌, ◌*◌, ◌≤◌, ◌<◌, List, [], ◌∷◌, length, slice_index_or, subst, arith}
use denote.Param.Weighed.{most, at_most, w_this}
use Rattle.multi_keyring.specs.declared.tree.Node.{Node}
use Rattle.multi_keyring.specs.declared.tree.Node.TheVariants.{Raw, Handed, Multi}
use Rattle.multi_keyring.specs.declared.tree.Multi.TheDeep.{deep-Node, size-Node}

-- the size of each child grows with its depth
pub sizes_le : {P : Type 0} (nodes : List (Node P)) → most {X = Node P} (λ x. size-Node P x) nodes ≤ 3 * most {X = Node P} (λ x. (w_this).weight (Node P) (deep-Node P) x) nodes + 1
sizes_le [] = omega arith
sizes_le (Raw key ∷ nodes) = omega (arith, sizes_le nodes)
sizes_le (Handed keyring ∷ nodes) = omega (arith, sizes_le nodes)
sizes_le (Multi multi ∷ nodes) = omega (arith, sizes_le nodes)

-- none is larger than the largest
pub size_at : {P : Type 0} (nodes : List (Node P)) (index : ℕ) (node : Node P) → index < length nodes → slice_index_or nodes index node ≡ node
    → size-Node P node ≤ most {X = Node P} (λ x. size-Node P x) nodes
size_at {P = P} nodes index node inside there =
    subst (λ (x : Node P). size-Node P x ≤ most {X = Node P} (λ y. size-Node P y) nodes) there (at_most {X = Node P} (λ x. size-Node P x) nodes index node inside)
