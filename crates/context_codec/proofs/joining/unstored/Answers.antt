use Rattle.std.proofs.Common.{◌≡◌, arith}
use Rattle.std.specs.Option.{is_some}
use Rattle.std.proofs.lemmas.Grind.{common_steps}
use Rattle.context_codec.specs.Parts.{holds}
use Rattle.context_codec.proofs.Lookups.{found_iff_holds}
use Rattle.context_codec.proofs.joining.unstored.Goals as goal

pub loop-pair-preserved : goal.loop-pair-preserved
loop-pair-preserved c =
    let held : is_some c.get.result ≡ holds c.args.stored.now c.key.result.now = found_iff_holds (λ v. v.now) c.key.result.now c.args.stored.now c.get.result c.get.ensures.value in
    grind (arith, common_steps)
