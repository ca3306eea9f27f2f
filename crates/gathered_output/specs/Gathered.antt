-- Bytes that are held.
use Rattle.std.specs.Prelude.{ℕ}

-- how many are held at the most
abbrev pub most_gathered : ℕ
most_gathered = 69632
