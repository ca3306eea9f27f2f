-- What the trees of a row mean.
use Rattle.std.proofs.Common.{◌≡◌, Bool, List, [], ◌∷◌, map, refl, sym, ap, ◌∙◌}
use Rattle.std.specs.Prelude.{is_some}
use Rattle.keyring_trait.specs.Keyring.{KeyringMeaning}
use Rattle.raw_aes_keyring.specs.Keyring.{raw_meaning}
use Rattle.multi_keyring.specs.Forest.{Forest}
use Rattle.multi_keyring.specs.Nodes.{forest, all_of}
use Rattle.multi_keyring.specs.Tree.{joined_members, meanings, tree_meaning}
use Rattle.multi_keyring.specs.declared.tree.Node.{Node}
use Rattle.multi_keyring.specs.declared.tree.Node.TheVariants.{Raw, Handed, Multi}
use Rattle.multi_keyring.specs.declared.tree.Members.{Members}

-- the trees of a row mean what each of them means
pub meanings-forest : {P : Type 0} (leaf : P → KeyringMeaning) (nodes : List (Node P)) → meanings leaf (forest nodes) ≡ map (tree_meaning leaf) nodes
meanings-forest leaf [] = refl
meanings-forest leaf (Raw key ∷ nodes) = ap (λ (ms : List KeyringMeaning). raw_meaning key ∷ ms) (meanings-forest leaf nodes)
meanings-forest leaf (Handed keyring ∷ nodes) = ap (λ (ms : List KeyringMeaning). leaf keyring ∷ ms) (meanings-forest leaf nodes)
meanings-forest leaf (Multi multi ∷ nodes) = ap (λ (ms : List KeyringMeaning). joined_members multi.value.0 (meanings leaf multi.value.1) ∷ ms) (meanings-forest leaf nodes)

-- the members of a multi-keyring mean what each of them means
pub row_is : {P : Type 0} (leaf : P → KeyringMeaning) (members : Members P) (v : Bool × Forest P) → (is_some members.generator, forest (all_of members)) ≡ v
    → meanings leaf v.1 ≡ map (tree_meaning leaf) (all_of members)
row_is leaf members v is = ap (λ w. meanings leaf w.1) (sym is) ∙ meanings-forest leaf (all_of members)

-- so a multi-keyring means what they mean together
pub joined_row : {P : Type 0} (leaf : P → KeyringMeaning) (members : Members P) (v : Bool × Forest P) → (is_some members.generator, forest (all_of members)) ≡ v
    → joined_members v.0 (meanings leaf v.1) ≡ joined_members (is_some members.generator) (map (tree_meaning leaf) (all_of members))
joined_row leaf members v is = ap (λ w. joined_members w.0 (meanings leaf w.1)) (sym is) ∙ ap (joined_members (is_some members.generator)) (meanings-forest leaf (all_of members))
