-- What takes the bytes that the desk gives: one keeps them, one counts them.
use Rattle.std.specs.Prelude.{◌≡◌, ◌≤◌, ℕ, ◌+◌, ◌^◌, List, length}

abbrev pub Counts : ℕ → ℕ → List ℕ → Type 0
Counts old new bytes = new ≡ old + length bytes

-- 64 bits have no room for the count
abbrev pub CountsOver : ℕ → List ℕ → Type 0
CountsOver old bytes = 2 ^ 64 ≤ old + length bytes
