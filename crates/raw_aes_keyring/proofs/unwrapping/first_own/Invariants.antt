-- No entry before the index is one of the key.
use Rattle.raw_aes_keyring.proofs.Entries.{Passed}
use Rattle.raw_aes_keyring.proofs.unwrapping.first_own.Given as goal

abbrev pub invariant-loop-at : goal.invariant-loop-at
invariant-loop-at l = Passed l.key l.entries l.at
