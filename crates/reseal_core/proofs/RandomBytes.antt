-- One resealer has one text of random bytes.
use Rattle.std.proofs.Common.{◌≡◌, ◌∙◌, false, sym}
use Rattle.reseal_core.specs.declared.resealer.Resealer.{Resealer}
use Rattle.reseal_core.specs.Session.{ResealingValue}
use Rattle.reseal_core.specs.Stands.{Stands}

pub one_random : (resealer : Resealer) (v w : ResealingValue) → Stands resealer v → Stands resealer w → v.stopped ≡ false → (w.random ≡ v.random) × (w.size ≡ v.size)
one_random resealer v w one other going =
    let a = (one.going going).written in
    let b = (other.going (sym other.stopped ∙ one.stopped ∙ going)).written in
    (sym b.random_is ∙ a.random_is, sym b.length_is ∙ a.length_is)
