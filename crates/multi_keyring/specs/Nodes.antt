-- The trees that the code holds, as a forest.
use Rattle.std.specs.Prelude.{ℕ, ◌+◌, List, [], ◌∷◌, Option, Some, None}
use Rattle.multi_keyring.specs.declared.tree.Node.{Node}
use Rattle.multi_keyring.specs.declared.tree.Node.TheVariants.{Raw, Handed, Multi}
use Rattle.multi_keyring.specs.declared.tree.Members.{Members}
use Rattle.multi_keyring.specs.Forest.{Forest, Nil, RawThen, HandedThen, MultiThen, tallest}

-- these trees in a row
abbrev pub forest : {P : Type 0} → List (Node P) → Forest P
forest [] = Nil
forest (Raw key ∷ nodes) = RawThen key (forest nodes)
forest (Handed keyring ∷ nodes) = HandedThen keyring (forest nodes)
forest (Multi multi ∷ nodes) = MultiThen multi.value.0 multi.value.1 (forest nodes)

-- the generator, where there is one, and the children after it
abbrev pub generator_first : {A : Type 0} → Option A → List A → List A
generator_first None children = children
generator_first (Some generator) children = generator ∷ children

-- the members of a multi-keyring in their order
abbrev pub all_of : {P : Type 0} → Members P → List (Node P)
all_of members = generator_first members.generator members.children.items

-- the number of levels of a tree
abbrev pub node_height : {P : Type 0} → Node P → ℕ
node_height (Raw key) = 1
node_height (Handed keyring) = 1
node_height (Multi multi) = tallest multi.value.1 + 1
