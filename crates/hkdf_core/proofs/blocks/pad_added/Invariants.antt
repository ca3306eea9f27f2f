-- The bytes that the loop has passed are changed, and those that are left are as they were.
use Rattle.std.proofs.Common.{◌≡◌, ◌++◌, bit_xor, map, take, drop}
use Rattle.hkdf_core.proofs.blocks.pad_added.Given as goal

abbrev pub invariant-loop-byte : goal.invariant-loop-byte
invariant-loop-byte g l = l.byte-items ≡ map (λ b. bit_xor b l.pad) (take l.byte-index l.block) ++ drop l.byte-index l.block
