-- Each multi-keyring is higher than its members, so that a recursion over them ends.
use Rattle.std.specs.Prelude.{ℕ, ◌+◌, ◌≤◌, max, List, [], ◌∷◌, Option, Some, None}
use Rattle.std.proofs.Common.{arith}
use denote.Param.Weighed.{most, or_weight, w_const, w_or, w_pair, w_this}
use Rattle.multi_keyring.specs.Forest.{tallest}
use Rattle.multi_keyring.specs.Nodes.{forest, generator_first}
use Rattle.multi_keyring.specs.declared.tree.Node.{Node}
use Rattle.multi_keyring.specs.declared.tree.Node.TheVariants.{Raw, Handed, Multi}
use Rattle.multi_keyring.specs.declared.tree.Multi.TheDeep.{deep-Node}
use Rattle.multi_keyring.specs.declared.tree.Multi.TheShapes.{split-Members-generator-at-1}

-- how deep the generator reaches
abbrev pub generator_depth : {P : Type 0} → Option (Node P) → ℕ
generator_depth {P = P} generator =
    or_weight (w_const (Unit {0})) (w_or (w_pair w_this (w_const (Unit {0}))) (w_const ⊥)) (Node P)
    (deep-Node P) (split-Members-generator-at-1 P (Node P) generator)

-- how deep the children reach
abbrev pub children_depth : {P : Type 0} → List (Node P) → ℕ
children_depth {P = P} children =
    most {X = Node P} (λ x. (w_this).weight (Node P) (deep-Node P) x) children

pub children_fall : {P : Type 0} (children : List (Node P))
    → children_depth children ≤ tallest (forest children) + 1
children_fall [] = omega arith
children_fall (Raw key ∷ children) = omega (arith, children_fall children)
children_fall (Handed keyring ∷ children) = omega (arith, children_fall children)
children_fall (Multi multi ∷ children) = omega (arith, children_fall children)

pub members_fall : {P : Type 0} (generator : Option (Node P)) (children : List (Node P))
    → max (max (generator_depth generator) (max (children_depth children) 0)) 0
    ≤ tallest (forest (generator_first generator children)) + 1
members_fall None children = omega (arith, children_fall children)
members_fall (Some (Raw key)) children = omega (arith, children_fall children)
members_fall (Some (Handed keyring)) children = omega (arith, children_fall children)
members_fall (Some (Multi multi)) children = omega (arith, children_fall children)
