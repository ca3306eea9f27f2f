-- Values under names.
use Rattle.std.specs.Prelude.{◌≡◌, ◌<◌, ℕ, List, length, slice_index_or}
use Rattle.std.specs.List.{remove}

-- this one of the values is taken away, and the others stay in their order
abbrev pub TakesAway : {V : Type 0} → List V → List V → V → Type 0
TakesAway before after one = (at : ℕ) × (at < length before) × (one ≡ slice_index_or before at one)
    × (after ≡ remove before at)
