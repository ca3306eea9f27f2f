-- The bytes before the index are blanks.
use Rattle.std.proofs.Common.{◌≡◌, drop}
use Rattle.keyring_file.specs.KeyFile.{is_json}
use Rattle.keyring_file.proofs.key_file.is_json.Given as goal

abbrev pub invariant-loop-byte : goal.invariant-loop-byte
invariant-loop-byte l = is_json (drop l.byte-index l.bytes) ≡ is_json l.bytes
