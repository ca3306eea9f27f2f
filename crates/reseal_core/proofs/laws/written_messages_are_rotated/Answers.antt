use Rattle.reseal_core.proofs.Rotating.{rotated}
use Rattle.reseal_core.proofs.laws.written_messages_are_rotated.Goals as goal

pub returns : goal.returns
returns c = λ reader writers keys m old new size input taken output put entropy spent context for wide narrow told done.
    rotated reader writers keys m old new size input taken output put entropy spent context for wide narrow told done
