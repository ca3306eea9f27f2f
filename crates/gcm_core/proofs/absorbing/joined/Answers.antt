use Rattle.gcm_core.proofs.Blocks.{joined-block}
use Rattle.gcm_core.proofs.absorbing.joined.Goals as goal

pub returns : goal.returns
returns c =
    joined-block c.args.first.now c.args.second.now _ _ c.requires c.copy_from_slice.ensures.after c.copy_from_slice-2.ensures.after
