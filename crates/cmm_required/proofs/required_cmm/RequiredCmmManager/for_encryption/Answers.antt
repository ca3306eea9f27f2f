-- What the inner manager answers, where all keys are there; else Q4.
use Rattle.std.proofs.Common.{◌≡◌, Some, refl, rules}
use Rattle.keyring_trait.specs.Requests.{required_absent}
use Rattle.cmm_required.proofs.Encrypting.{refuses_absent, requires_own, gives_required, gives_none_required}
use Rattle.cmm_required.proofs.Going.{went_required}
use Rattle.cmm_required.proofs.required_cmm.RequiredCmmManager.for_encryption.Goals as goal

pub returns-in-Ok-clause-went : goal.returns-in-Ok-clause-went
returns-in-Ok-clause-went g c = rw (← c.self.view_is) (went_required _ _ _ c.for_encryption.ensures.went)

pub returns-in-Ok-clause-gives : goal.returns-in-Ok-clause-gives
returns-in-Ok-clause-gives g c = rw (← c.self.view_is) (gives_required _ _ _ _ _ _ c.in-Ok.ensures.request c.in-Ok.ensures.taken c.for_encryption.ensures.gives)

pub returns-in-Ok-clause-cause : goal.returns-in-Ok-clause-cause
returns-in-Ok-clause-cause g c =
    rw (← c.self.view_is)
    (gives_none_required _ (g.M.Manager.state c.self.inside.inner) (g.M.Manager.state c.for_encryption.new.self) _ _ _ c.in-Ok.ensures.request c.in-Ok.ensures.taken
    c.for_encryption.ensures.cause)

pub returns-in-Err-Refusal-clause-cause : goal.returns-in-Err-Refusal-clause-cause
returns-in-Err-Refusal-clause-cause g c =
    refuses_absent c.args.self.now.1 (g.M.Manager.state c.args.self.now.0) (g.M.Manager.state c.args.self.now.0) c.args.request.now _ (search rules)

pub returns-in-Ok-clause-required : goal.returns-in-Ok-clause-required
returns-in-Ok-clause-required g c =
    rw (← c.self.view_is) (requires_own c.self.inside.keys _ c.args.request.now _ _ c.for_encryption.result c.in-Ok.ensures.request c.for_encryption.ensures.gives)

pub returns-in-Ok-clause-bears : goal.returns-in-Ok-clause-bears
returns-in-Ok-clause-bears g c = rw (← c.self.view_is) (rw c.in-Ok.ensures.request at c.for_encryption.ensures.bears)

pub returns-in-Ok-clause-gave : goal.returns-in-Ok-clause-gave
returns-in-Ok-clause-gave g c = rw (← c.self.view_is) (rw (← c.in-Ok.ensures.request) c.for_encryption.ensures.gave)

-- where a key is absent, there are no materials, and nobody was asked
pub returns-in-Err-Refusal-clause-gives : goal.returns-in-Err-Refusal-clause-gives
returns-in-Err-Refusal-clause-gives g c = tt

pub returns-in-Err-Refusal-clause-gave : goal.returns-in-Err-Refusal-clause-gave
returns-in-Err-Refusal-clause-gave g c = tt

pub returns-in-Err-Refusal-clause-required : goal.returns-in-Err-Refusal-clause-required
returns-in-Err-Refusal-clause-required g c = tt

pub returns-in-Err-Refusal-clause-absent : goal.returns-in-Err-Refusal-clause-absent
returns-in-Err-Refusal-clause-absent g c =
    let absent : required_absent c.args.request.now.context c.args.self.now.1 ≡ Some c.in-Err-Refusal.refusal = search rules in
    rw absent (search rules)

pub returns-in-Err-Refusal-clause-unasked : goal.returns-in-Err-Refusal-clause-unasked
returns-in-Err-Refusal-clause-unasked g c =
    let absent : required_absent c.args.request.now.context c.args.self.now.1 ≡ Some c.in-Err-Refusal.refusal = search rules in
    rw absent refl
