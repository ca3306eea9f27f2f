-- No pair before this one has the reserved prefix.
use Rattle.std.proofs.Common.{◌≡◌, drop}
use Rattle.std.specs.Prelude.{find}
use Rattle.keyring_trait.specs.Manager.{has_reserved_prefix}
use Rattle.cmm_default.proofs.encrypting.first_reserved.Given as goal

abbrev pub invariant-loop-pair : goal.invariant-loop-pair
invariant-loop-pair l = find (λ p. has_reserved_prefix p.0) l.pairs ≡ find (λ p. has_reserved_prefix p.0) (drop l.pair-index l.pairs)
