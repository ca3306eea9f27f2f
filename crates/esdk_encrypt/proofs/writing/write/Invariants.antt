-- The sealer was fed the bytes that came, and the output took what that gave.
use Rattle.std.proofs.Common.{◌≡◌, ℕ, ◌+◌, ◌-◌, ◌^◌, ◌≤◌, List, []}
use Rattle.keyring_trait.specs.Materials.{EncMaterialsValue}
use Rattle.stream_seal.specs.Stands.{Stands}
use Rattle.esdk_encrypt.specs.Writing.{sealing_of_text}
use Rattle.esdk_encrypt.proofs.Input.{FeedingInput}
use Rattle.esdk_encrypt.proofs.writing.write.Given as goal

abbrev pub invariant-reads : goal.invariant-reads
invariant-reads g l = record {
  few : l.pieces.taken ≤ 2 ^ 62;
  none : l.gathered ≡ [];
  feeds : (m : EncMaterialsValue) (size : ℕ) (id : List ℕ) → 1 ≤ size → Stands l.initial.sealer (sealing_of_text m size id [])
      → FeedingInput g.O.Receiver.takes m size id (g.S.Source.state l.fn.input) (g.S.Source.state l.input) l.fn.output l.output l.sealer l.pieces.taken;
  most : (g.S.Source.state l.input).given ≤ (g.S.Source.state l.fn.input).given + l.pieces.taken;
}

abbrev pub decreases-reads : goal.decreases-reads
decreases-reads g l = 2 ^ 62 - l.pieces.taken
