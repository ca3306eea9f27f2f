-- No key before the index clashes.
use Rattle.std.proofs.Common.{◌≡◌, drop}
use Rattle.std.specs.List.{list_any}
use Rattle.keyring_file.specs.Walk.{is_another_key}
use Rattle.keyring_file.proofs.walk.has_clash.Given as goal

abbrev pub invariant-loop-other : goal.invariant-loop-other
invariant-loop-other l = list_any (is_another_key l.key) l.keys ≡ list_any (is_another_key l.key) (drop l.other-index l.keys)
