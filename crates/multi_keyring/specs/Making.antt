-- Making a multi-keyring.
use Rattle.std.specs.Prelude.{◌≡◌, ◌+◌, nat_lt, Bool, List, [], ◌∷◌, map, Option, Some, None}
use Rattle.std.specs.Prelude.{Result, Ok, Err, if◌then◌else◌}
use Rattle.keyring_trait.specs.Keyring.{KeyringMeaning}
use Rattle.multi_keyring.specs.Forest.{Forest, tallest}
use Rattle.multi_keyring.specs.Nodes.{forest}
use Rattle.multi_keyring.specs.Tree.{all_wraps, tree_meaning}
use Rattle.multi_keyring.specs.declared.tree.Node.{Node}
use Rattle.multi_keyring.specs.declared.making.MultiError.{MultiError}
use Rattle.multi_keyring.specs.declared.making.MultiError.TheVariants.{Empty, TooDeep, TooWide}

-- Why no multi-keyring of these members is made: there is none; or its height, one more than its
-- highest member's, would be over 8; or they make more than 64 entries.
abbrev pub multi_fault : {P : Type 0} → (P → KeyringMeaning) → List (Node P) → Option MultiError
multi_fault leaf [] = Some Empty
multi_fault leaf (node ∷ nodes) =
    if nat_lt 8 (tallest (forest (node ∷ nodes)) + 1) then Some TooDeep
    else if nat_lt 64 (all_wraps (map (tree_meaning leaf) (node ∷ nodes)))
    then Some (TooWide (all_wraps (map (tree_meaning leaf) (node ∷ nodes))))
    else None

-- The answer is the multi-keyring; or the fault, where there is one, and only then.
abbrev pub MakesMulti : {P : Type 0} → Option MultiError → Bool × Forest P
    → Result (Bool × Forest P) MultiError → Type 0
MakesMulti None multi answer = answer ≡ Ok multi
MakesMulti (Some fault) multi answer = answer ≡ Err fault
