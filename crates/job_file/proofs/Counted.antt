-- The values of a list, counted.
use Rattle.std.proofs.Common.{◌≡◌, ◌+◌, List, [], ◌∷◌, length, refl, ap, ◌∙◌, add-one}
use Rattle.serde_json.specs.View.{items_view}
use Rattle.serde_json.specs.declared.value.Value.{Value}
use Rattle.job_file.specs.JobForm.{length_of_items}

pub items_counted : (values : List Value) → length_of_items (items_view values) ≡ length values
items_counted [] = refl
items_counted (value ∷ values) = ap (λ n. n + 1) (items_counted values) ∙ add-one (length values)
