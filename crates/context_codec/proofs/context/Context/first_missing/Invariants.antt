-- All keys before this one are held.
use Rattle.std.proofs.Common.{◌≡◌, drop}
use Rattle.std.specs.Prelude.{find, not}
use Rattle.context_codec.specs.Parts.{holds}
use Rattle.context_codec.proofs.context.Context.first_missing.Given as goal

abbrev pub invariant-loop-key : goal.invariant-loop-key
invariant-loop-key l = find (λ key. not (holds l.self key)) l.keys ≡ find (λ key. not (holds l.self key)) (drop l.key-index l.keys)
