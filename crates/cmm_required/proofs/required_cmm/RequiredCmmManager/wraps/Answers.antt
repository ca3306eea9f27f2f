-- Both lists of keys together ascend.
use Rattle.context_codec.proofs.KeySets.{AreAscendingKeys-with_keys}
use Rattle.cmm_required.proofs.required_cmm.RequiredCmmManager.wraps.Goals as goal

pub returns-clause-demands : goal.returns-clause-demands
returns-clause-demands g c = rw (← c.self.view_is) (AreAscendingKeys-with_keys c.self.inside.keys (g.M.Manager.state c.self.inside.inner).meaning.demands c.keys-keys.ensures.set.ascending)
