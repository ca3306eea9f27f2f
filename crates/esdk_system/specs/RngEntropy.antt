-- An entropy over a generator that was seeded, or wasn't.
use Rattle.std.specs.Prelude.{◌≡◌, ℕ, List, length}
use Rattle.std.specs.declared.option.Option.{Option}
use Rattle.std.specs.declared.option.Option.TheVariants.{None, Some}
use Rattle.rand_chacha.specs.ChaCha.{ChaCha}
use Rattle.rand_core.specs.Stream.{Stream, fill_bytes}

-- The generator, where there is one, and how often a fill failed; the bytes that were drawn since
-- the entropy was made.
pub record RngEntropyState : Type 0 where
  pub rng : Option ChaCha
  pub faults : ℕ
  pub drawn : List ℕ

-- the bytes are the next of the generator, which goes on behind them; where there is none, there
-- still is none
abbrev pub DrawsFromGenerator : {G : Type 0} → (G → Stream) → Option G → Option G → List ℕ → Type 0
DrawsFromGenerator stream None new out = new ≡ None
DrawsFromGenerator stream (Some before) None out = ⊥
DrawsFromGenerator stream (Some before) (Some after) out =
    (out, stream after) ≡ fill_bytes (length out) (stream before)
