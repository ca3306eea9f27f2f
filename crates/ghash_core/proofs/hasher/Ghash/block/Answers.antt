use Rattle.std.proofs.Common.{◌≡◌, bit_xor, not, refl, ap, ◌∙◌}
use Rattle.std.specs.Int.{w128, from_be_bytes}
use Rattle.cipher_spec.specs.Ghash.{times}
use Rattle.ghash_core.specs.State.{HashState}
use Rattle.ghash_core.specs.Tables.{settled}
use Rattle.ghash_core.proofs.hasher.Ghash.block.Goals as goal

pub returns : goal.returns
returns c =
    let k = c.self.inside.key in
    let h = c.args.self.now.key in
    let y = c.args.self.now.hash in
    let b = from_be_bytes w128 c.args.block in
    let key : k ≡ h = ap (λ (s : HashState). s.key) c.self.view_is in
    let hash : settled k c.self.inside.hash c.self.inside.waiting ≡ y = ap (λ (s : HashState). s.hash) c.self.view_is in
    let is : settled k c.taken-self-inside.result (not c.self.inside.waiting) ≡ times (bit_xor y b) h =
    c.taken-self-inside.ensures k c.self.invariant
    ∙ ap (λ n. times (bit_xor n c.from_be_bytes-block.result) k) hash
    ∙ ap (λ n. times (bit_xor y n) k) c.from_be_bytes-block.ensures
    ∙ ap (times (bit_xor y b)) key in
    rw (is, key) refl
