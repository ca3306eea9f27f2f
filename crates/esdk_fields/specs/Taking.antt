-- What a cursor's calls take.
use Rattle.std.specs.Prelude.{◌≡◌, ℕ, ◌<◌, ◌≤◌, List, length, take, Option, Some, None}
use Rattle.esdk_fields.specs.Place.{Place, past}

-- Where n bytes are left, they are taken, and the result shows what they mean; else there is none,
-- and the place stays.
abbrev pub TakesField : {X Y : Type 0} → (X → Y) → (List ℕ → Y) → ℕ → Place → Place → Option X
    → Type 0
TakesField view means n old new None = (length old.left < n) × (new ≡ old)
TakesField view means n old new (Some x) =
    (n ≤ length old.left) × (view x ≡ means (take n old.left)) × (new ≡ past n old)
