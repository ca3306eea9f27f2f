-- Rows of eight bits.
use Rattle.std.proofs.Common.{◌≡◌, ℕ, ◌<◌, map, ◌∙◌, arith}
use Rattle.std.specs.List.{range_with_len}
use Rattle.std.proofs.lemmas.List.FromFn.{get_or-map-range_with_len, length-map-range_with_len, fill_by_all}

-- lists of the same eight members
pub same_row : (f g : ℕ → ℕ) → ((i : ℕ) → i < 8 → f i ≡ g i) → map f (range_with_len 0 8) ≡ map g (range_with_len 0 8)
same_row f g e =
    fill_by_all g (map f (range_with_len 0 8)) 8 0 (length-map-range_with_len f 0 8)
    (λ i h. get_or-map-range_with_len f 0 8 i i 0 h (omega arith) ∙ e i h)
