-- The values of a list.
use Rattle.std.proofs.Common.{◌≡◌, List, [], ◌∷◌, length, refl, sym, arith}
use Rattle.std.specs.Prelude.{◌==◌}
use Rattle.std.proofs.lemmas.Bool.{ne_eqb}
use Rattle.serde_json.specs.View.{items_view}
use Rattle.serde_json.specs.declared.value.Value.{Value}
use Rattle.keyring_file.specs.Form.{is_empty}

-- no value stands in the list
pub none_listed : (values : List Value) → is_empty (items_view values) ≡ (length values == 0)
none_listed [] = refl
none_listed (value ∷ values) = sym (ne_eqb (length (value ∷ values)) 0 (λ e. omega (arith, e)))
