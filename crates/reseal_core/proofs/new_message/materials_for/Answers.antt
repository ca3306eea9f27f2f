use Rattle.std.proofs.Common.{◌∙◌, ap, false, inl, inr}
use Rattle.std.proofs.lemmas.Result.{err_from_is_err_and}
use Rattle.keyring_trait.specs.Requests.{EncRequestValue}
use Rattle.keyring_trait.specs.Saying.{said_last}
use Rattle.reseal_core.proofs.Bearing.{bears_asked, bears_same}
use Rattle.reseal_core.proofs.NewMessages.{gives_so}
use Rattle.reseal_core.proofs.new_message.materials_for.Goals as goal

-- ---- what is given

pub returns-in_err-request-clause-gives : goal.returns-in_err-request-clause-gives
returns-in_err-request-clause-gives g c =
    let p = err_from_is_err_and c.from_residual.result c.from_residual.ensures.1 in rw p.1 (inr (p.2 ∙ c.in_err-request.ensures.cause))

pub returns-in-Ok-clause-gives : goal.returns-in-Ok-clause-gives
returns-in-Ok-clause-gives g c =
    gives_so (said_last (g.B.Manager.state c.args.sealing.now) (g.B.Manager.state c.for_encryption.new.self)) c.args.now c.in_ok-request.request _ c.args.random.now c.args.whole.now c.args.only.now c.in-Ok.materials
    c.in_ok-request.ensures.request c.split_at.ensures.back (c.in-Ok.ensures.gives, c.in-Ok.ensures.gave)

pub returns-clause-gives : goal.returns-clause-gives
returns-clause-gives g c = inl (record { why = c.in-Err.error; none = rw c.in_ok-request.ensures.request at c.in-Err.ensures.cause; named = c.given_as.ensures })

-- ---- what the manager bears

pub returns-in_err-request-clause-bears : goal.returns-in_err-request-clause-bears
returns-in_err-request-clause-bears g c =
    let p = err_from_is_err_and c.from_residual.result c.from_residual.ensures.1 in rw p.1 (bears_same (g.B.Manager.state c.args.sealing.now) c.args.now false)

pub returns-in-Ok-clause-bears : goal.returns-in-Ok-clause-bears
returns-in-Ok-clause-bears g c =
    bears_asked (g.B.Manager.state c.args.sealing.now) (g.B.Manager.state c.for_encryption.new.self) c.args.now _ c.for_encryption.result c.in-Ok.materials
    (ap (λ (r : EncRequestValue). r.declared) c.in_ok-request.ensures.request) c.in-Ok.is c.for_encryption.ensures.bears

pub returns-clause-bears : goal.returns-clause-bears
returns-clause-bears g c = inl c.in-Err.ensures.bears
