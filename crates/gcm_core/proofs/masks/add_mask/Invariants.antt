use Rattle.std.proofs.Common.{◌≡◌, ℕ, ◌+◌, ◌<◌, ◌≤◌, get_or, bit_xor}
use Rattle.gcm_core.proofs.masks.add_mask.Given as goal

abbrev pub invariant-bytes : goal.invariant-bytes
invariant-bytes l = record {
  before : (j : ℕ) → j < l.at → get_or l.text j 0 ≡ get_or l.fn.text j 0;
  there : (j : ℕ) → j < l.i → get_or l.text (l.at + j) 0 ≡ bit_xor (get_or l.fn.text (l.at + j) 0) (get_or l.mask j 0);
  after : (j : ℕ) → l.at + l.i ≤ j → get_or l.text j 0 ≡ get_or l.fn.text j 0;
}
