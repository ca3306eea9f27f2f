-- How high the trees of a row are.
use Rattle.std.proofs.Common.{◌≡◌, ℕ, ◌+◌, max, List, [], ◌∷◌, map, refl, sym, ap, ◌∙◌}
use Rattle.multi_keyring.specs.Forest.{tallest}
use Rattle.multi_keyring.specs.Nodes.{forest, node_height}
use Rattle.multi_keyring.specs.declared.tree.Node.{Node}
use Rattle.multi_keyring.specs.declared.tree.Node.TheVariants.{Raw, Handed, Multi}

-- the greatest of these numbers
abbrev pub greatest : List ℕ → ℕ
greatest [] = 0
greatest (n ∷ ns) = max n (greatest ns)

-- a row is as high as its highest tree
pub tallest-forest : {P : Type 0} (nodes : List (Node P)) → tallest (forest nodes) ≡ greatest (map node_height nodes)
tallest-forest [] = refl
tallest-forest (Raw key ∷ nodes) = ap (max 1) (tallest-forest nodes)
tallest-forest (Handed keyring ∷ nodes) = ap (max 1) (tallest-forest nodes)
tallest-forest (Multi multi ∷ nodes) = ap (max (tallest multi.value.1 + 1)) (tallest-forest nodes)

-- where each tree keeps its height, so does the row
pub tallest_stays : {P : Type 0} (old now : List (Node P)) → map node_height now ≡ map node_height old → tallest (forest now) ≡ tallest (forest old)
tallest_stays old now heights = tallest-forest now ∙ ap greatest heights ∙ sym (tallest-forest old)

-- a row is as high as its first tree or the others
pub tallest_first : {P : Type 0} (node : Node P) (nodes : List (Node P)) → tallest (forest (node ∷ nodes)) ≡ max (node_height node) (tallest (forest nodes))
tallest_first (Raw key) nodes = refl
tallest_first (Handed keyring) nodes = refl
tallest_first (Multi multi) nodes = refl
