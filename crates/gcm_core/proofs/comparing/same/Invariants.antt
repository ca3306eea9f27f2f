use Rattle.std.proofs.Common.{◌≡◌, ℕ, ◌<◌, get_or}
use Rattle.gcm_core.proofs.comparing.same.Given as goal

abbrev pub invariant-each : goal.invariant-each
invariant-each l = record {
  found : l.differences ≡ 0 → (j : ℕ) → j < l.i → get_or l.first j 0 ≡ get_or l.second j 0;
  none : ((j : ℕ) → j < l.i → get_or l.first j 0 ≡ get_or l.second j 0) → l.differences ≡ 0;
}
