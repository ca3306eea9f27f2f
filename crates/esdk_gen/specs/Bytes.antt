-- The bytes of a seed: a linear congruential generator modulo 2^64, of each state of which the top
-- eight bits are taken.
use Rattle.std.specs.Prelude.{ℕ, zero, suc, ◌+◌, ◌*◌, ◌/◌, ◌%◌, ◌^◌, List, [], ◌∷◌, drop}

-- the state behind this one
abbrev pub next_state : ℕ → ℕ
next_state x = (x * 6364136223846793005 + 1442695040888963407) % 2 ^ 64

-- a state's byte: its top eight bits
abbrev pub top_byte : ℕ → ℕ
top_byte x = x / 2 ^ 56

-- the bytes that follow from a state, so many: the first is that of the next state
unfoldable pub gen_bytes : ℕ → ℕ → List ℕ
gen_bytes x zero = []
gen_bytes x (suc n) = top_byte (next_state x) ∷ gen_bytes (next_state x) n

-- the state behind so many bytes
unfoldable pub state_after : ℕ → ℕ → ℕ
state_after x zero = x
state_after x (suc n) = state_after (next_state x) n

-- of the bytes of a seed, so many from this one on, counted from 0
abbrev pub seed_part : ℕ → ℕ → ℕ → List ℕ
seed_part seed from count = drop from (gen_bytes seed (from + count))
