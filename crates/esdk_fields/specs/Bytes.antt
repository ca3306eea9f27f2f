-- Bytes.
use Rattle.std.specs.Prelude.{ℕ, ◌<◌, List, All}

-- each element is a byte
abbrev pub AreBytes : List ℕ → Type 0
AreBytes bytes = All (λ b. b < 256) bytes
