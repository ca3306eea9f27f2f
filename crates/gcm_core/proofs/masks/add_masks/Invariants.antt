use Rattle.std.proofs.Common.{◌≡◌, ℕ, ◌*◌, ◌/◌, ◌%◌, ◌<◌, ◌≤◌, [], get_or, bit_xor}
use Rattle.gcm_core.proofs.masks.add_masks.Given as goal

abbrev pub invariant-each : goal.invariant-each
invariant-each l = record {
  before : (j : ℕ) → j < 16 * l.k → get_or l.text j 0 ≡ bit_xor (get_or l.fn.text j 0) (get_or (get_or l.masks (j / 16) []) (j % 16) 0);
  after : (j : ℕ) → 16 * l.k ≤ j → get_or l.text j 0 ≡ get_or l.fn.text j 0;
}
