use Rattle.context_codec.proofs.Verdicts.{spells_fault_none}
use Rattle.context_codec.proofs.Sorting.{spells_some}
use Rattle.context_codec.proofs.laws.taken_bytes_spell_a_context.Goals as goal

pub returns : goal.returns
returns c bytes = (spells_some bytes, λ h. spells_fault_none bytes h.0 h.1)
