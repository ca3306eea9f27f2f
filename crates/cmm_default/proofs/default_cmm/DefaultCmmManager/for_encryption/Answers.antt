-- The keyring drew the data key, and the materials are the request's.
use Rattle.std.proofs.Common.{rules}
use Rattle.cmm_default.proofs.Drawn.{gave_by, gives_drawn}
use Rattle.cmm_default.proofs.default_cmm.DefaultCmmManager.for_encryption.Goals as goal

pub returns-clause-gives : goal.returns-clause-gives
returns-clause-gives g c =
    gives_drawn (g.K.Keyring.meaning c.args.self.now) c.args.request.now c.args.random.now c.in_ok-wrapped.wrapped c.in_ok-enc_materials.field-0
    (search rules) (search rules) (search rules) (search rules) (search rules)

pub returns-clause-gave : goal.returns-clause-gave
returns-clause-gave g c =
    rw (← c.self.view_is)
    (gave_by (g.K.Keyring.meaning c.self.inside.ring) (g.K.Keyring.meaning c.wrap_drawn.new.ring) c.args.request.now c.args.random.now c.in_ok-wrapped.wrapped c.in_ok-enc_materials.field-0
    c.wrap_drawn.ensures.goes.wraps (search rules) (search rules))
