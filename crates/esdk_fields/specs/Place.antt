-- Where reading stands.
use Rattle.std.specs.Prelude.{ℕ, ◌+◌, ◌-◌, List, ◌++◌, take, drop}

-- an offset, and the bytes from there on
pub record Place : Type 0 where
  pub at : ℕ
  pub left : List ℕ

-- before the first of these bytes
abbrev pub start : List ℕ → Place
start bytes = record { at = 0; left = bytes }

-- n bytes further on
abbrev pub past : ℕ → Place → Place
past n p = record { at = p.at + n; left = drop n p.left }

-- the same place, while only the bytes before offset n have come
abbrev pub cut : ℕ → Place → Place
cut n p = record { at = p.at; left = take (n - p.at) p.left }

-- the same place, when these bytes have come too
abbrev pub followed : Place → List ℕ → Place
followed p more = record { at = p.at; left = p.left ++ more }
