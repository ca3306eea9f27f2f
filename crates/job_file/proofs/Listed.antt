-- The pairs of a context and the required keys, one after the other.
use Rattle.std.proofs.Common.{◌≡◌, ◌<◌, ◌≤◌, ◌+◌, ℕ, Bool, true, false, List, [], ◌∷◌, length, drop, get_or, refl, sym, ap, ◌∙◌}
use Rattle.std.specs.Prelude.{Some, None, string_bytes}
use Rattle.std.proofs.lemmas.List.{drop_all, drop_more}
use Rattle.serde_json.specs.declared.value.Value.{Value}
use Rattle.serde_json.specs.View.{view, items_view, members_view}
use Rattle.serde_json.proofs.Views.{Entry}
use Rattle.context_codec.specs.Context.{KeyValue}
use Rattle.job_file.specs.JobForm.{with_pair, member_pairs, with_required, keys_in}
use Rattle.job_file.specs.Found.{only_if}

-- ---- pairs

-- the first of these entries is inserted
pub pair_more : (context grown : List KeyValue) (entries rest : List Entry) (e : Entry) (inserted : Bool) → entries ≡ e ∷ rest
    → with_pair context (string_bytes e.0) (view e.1) ≡ only_if inserted grown → inserted ≡ true → member_pairs context (members_view entries) ≡ member_pairs grown (members_view rest)
unfolding member_pairs
pair_more context grown entries rest e inserted is made taken =
    let one : with_pair context (string_bytes e.0) (view e.1) ≡ Some grown = made ∙ ap (λ b. only_if b grown) taken in
    ap (λ es. member_pairs context (members_view es)) is ∙ rw one refl

-- or it isn't
pub pair_fails : (context grown : List KeyValue) (entries rest : List Entry) (e : Entry) (inserted : Bool) → entries ≡ e ∷ rest
    → with_pair context (string_bytes e.0) (view e.1) ≡ only_if inserted grown → inserted ≡ false → member_pairs context (members_view entries) ≡ None
unfolding member_pairs
pair_fails context grown entries rest e inserted is made left =
    let none : with_pair context (string_bytes e.0) (view e.1) ≡ None = made ∙ ap (λ b. only_if b grown) left in
    ap (λ es. member_pairs context (members_view es)) is ∙ rw none refl

pub pairs_done : (context : List KeyValue) (entries : List Entry) → entries ≡ [] → member_pairs context (members_view entries) ≡ Some context
unfolding member_pairs
pairs_done context entries is = ap (λ es. member_pairs context (members_view es)) is

-- ---- keys

module _ (context : List KeyValue) (values : List Value) (i : ℕ) (value : Value) (lt : i < length values) (is : value ≡ get_or values i value) where
  -- the value at the index, and those behind it
  left_from : drop i values ≡ value ∷ drop (i + 1) values
  left_from = drop_more values i value lt ∙ ap (λ x. x ∷ drop (i + 1) values) (sym is)

  pub key_more : (keys more : List (List ℕ)) (inserted : Bool) → with_required context keys (view value) ≡ only_if inserted more → inserted ≡ true
      → keys_in context keys (items_view (drop i values)) ≡ keys_in context more (items_view (drop (i + 1) values))
  unfolding keys_in
  key_more keys more inserted made taken =
      let one : with_required context keys (view value) ≡ Some more = made ∙ ap (λ b. only_if b more) taken in
      ap (λ rest. keys_in context keys (items_view rest)) left_from ∙ rw one refl

  pub key_fails : (keys more : List (List ℕ)) (inserted : Bool) → with_required context keys (view value) ≡ only_if inserted more → inserted ≡ false
      → keys_in context keys (items_view (drop i values)) ≡ None
  unfolding keys_in
  key_fails keys more inserted made left =
      let none : with_required context keys (view value) ≡ None = made ∙ ap (λ b. only_if b more) left in
      ap (λ rest. keys_in context keys (items_view rest)) left_from ∙ rw none refl

pub keys_done : (context : List KeyValue) (values : List Value) (i : ℕ) (keys : List (List ℕ)) → length values ≤ i → keys_in context keys (items_view (drop i values)) ≡ Some keys
unfolding keys_in
keys_done context values i keys past = ap (λ rest. keys_in context keys (items_view rest)) (drop_all i values past)
