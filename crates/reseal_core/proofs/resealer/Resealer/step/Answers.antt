use Rattle.std.proofs.Common.{◌≡◌, ◌∙◌, Bool, is_some, Ok, refl, sym, subst}
use Rattle.std.proofs.lemmas.Result.{err_from_is_err_and}
use Rattle.stream_open.specs.declared.session.Opener.{Opener}
use Rattle.stream_open.specs.Session.{OpeningValue, opening_stepped}
use Rattle.stream_open.specs.Stands.{Stands as Opens}
use Rattle.reseal_core.specs.Session.{text_so_far}
use Rattle.reseal_core.specs.Stands.{BearsMade}
use Rattle.reseal_core.proofs.Bearing.{bears_same, made_is, up_to_is, up_to_made}
use Rattle.reseal_core.proofs.Stepping.{begins_not, held, nothing_yet, opens_not, steps_on, stops_so}
use Rattle.reseal_core.proofs.resealer.Resealer.step.Goals as goal

pub returns-in-Err-clause-steps : goal.returns-in-Err-clause-steps
returns-in-Err-clause-steps g c = λ v stands going.
    rw c.opened_as.ensures (opens_not (g.A.Manager.state c.args.opening.now) (g.A.Manager.state c.step.new.manager) c.args.now c.args.self.now v c.args.piece.now c.step.new.self stands going
    _ (g.O.Sink.state c.args.output.now) _ _ c.in-Err.error (c.in-Err.ensures.steps v.opening stands.opener) refl refl _ refl refl)

pub begin-requires-clause-opener : goal.begin-requires-clause-opener
begin-requires-clause-opener g c =
    let v = c.requires.session.session in
    let stands = c.requires.session.stands in
    let s = c.in-Ok.ensures.steps v.opening stands.opener in (
      opening_stepped v.opening c.args.piece.now s.heard (Ok c.in-Ok.used),
      s.stands,
      held (g.A.Manager.state c.args.opening.now) (g.A.Manager.state c.step.new.manager) c.args.now c.args.self.now v c.args.piece.now c.step.new.self stands (sym stands.stopped ∙ c.if-self.false) c.in-Ok.used s,
    )

pub returns-in_err-begin-clause-steps : goal.returns-in_err-begin-clause-steps
returns-in_err-begin-clause-steps g c = λ v stands going.
    let s = c.in-Ok.ensures.steps v.opening stands.opener in
    let p = err_from_is_err_and c.from_residual.result c.from_residual.ensures.1 in
    rw (p.1, p.2) (
    begins_not (g.A.Manager.state c.args.opening.now) (g.A.Manager.state c.step.new.manager) c.args.now c.args.self.now v c.args.piece.now c.step.new.self stands going c.in-Ok.used s
    _ _ _ (c.begin.new.sealing ≡ c.args.sealing.now) _ c.in_err-begin.field-0.0
    (c.in_err-begin.ensures.cause (opening_stepped v.opening c.args.piece.now s.heard (Ok c.in-Ok.used)) v.size v.random (text_so_far v) v.materials s.stands (stands.going going).written)
    c.begin.new.self c.begin.ensures.opener c.begin.ensures.stopped
    )

pub returns-in_err-pass-clause-steps : goal.returns-in_err-pass-clause-steps
returns-in_err-pass-clause-steps g c = λ v stands going.
    let s = c.in-Ok.ensures.steps v.opening stands.opener in
    let p = err_from_is_err_and c.from_residual-in_err-pass.result c.from_residual-in_err-pass.ensures.1 in
    let w : OpeningValue = opening_stepped v.opening c.args.piece.now s.heard (Ok c.in-Ok.used) in
    let b = c.in_ok-begin.ensures.begun w v.size v.random (text_so_far v) v.materials s.stands (stands.going going).written in
    let out : c.out.result.now ≡ w.out = c.out.ensures w (subst (λ (o : Opener). Opens o w) (sym c.begin.ensures.opener) s.stands) in
    let none = nothing_yet (g.A.Manager.state c.args.opening.now) (g.A.Manager.state c.step.new.manager) c.args.now c.args.self.now v c.args.piece.now c.step.new.self stands going c.in-Ok.used s
    _ _ _ (c.begin.new.sealing ≡ c.args.sealing.now) (c.pass.new.output ≡ c.args.output.now) c.begin.new.self.message b in
    let why = c.in_err-pass.ensures.goes v.size v.random (text_so_far v) b.materials b.written (λ nothing. out ∙ none nothing) in
    rw (p.1, p.2) (
    stops_so (g.A.Manager.state c.args.opening.now) (g.A.Manager.state c.step.new.manager) c.args.now c.args.self.now v c.args.piece.now c.step.new.self stands going c.in-Ok.used s
    _ _ _ (c.begin.new.sealing ≡ c.args.sealing.now) (c.pass.new.output ≡ c.args.output.now) c.begin.new.self.message b c.in_err-pass.field-0.0 _ _ (rw out at why) c.begin.ensures.opener c.begin.ensures.stopped
    )

pub returns-clause-steps : goal.returns-clause-steps
returns-clause-steps g c = λ v stands going.
    let s = c.in-Ok.ensures.steps v.opening stands.opener in
    let w : OpeningValue = opening_stepped v.opening c.args.piece.now s.heard (Ok c.in-Ok.used) in
    let b = c.in_ok-begin.ensures.begun w v.size v.random (text_so_far v) v.materials s.stands (stands.going going).written in
    let out : c.out.result.now ≡ w.out = c.out.ensures w (subst (λ (o : Opener). Opens o w) (sym c.begin.ensures.opener) s.stands) in
    let none = nothing_yet (g.A.Manager.state c.args.opening.now) (g.A.Manager.state c.step.new.manager) c.args.now c.args.self.now v c.args.piece.now c.step.new.self stands going c.in-Ok.used s
    _ _ _ (c.begin.new.sealing ≡ c.args.sealing.now) (c.pass.new.output ≡ c.args.output.now) c.begin.new.self.message b in
    let on = c.in_ok-pass.ensures.goes v.size v.random (text_so_far v) b.materials b.written (λ nothing. out ∙ none nothing) in
    steps_on (g.A.Manager.state c.args.opening.now) (g.A.Manager.state c.step.new.manager) c.args.now c.args.self.now v c.args.piece.now c.step.new.self stands going c.in-Ok.used s
    _ _ _ (c.begin.new.sealing ≡ c.args.sealing.now) (c.pass.new.output ≡ c.args.output.now) c.begin.new.self.message b _ _ (rw out at on) c.begin.ensures.opener refl

pub returns-clause-within : goal.returns-clause-within
returns-clause-within g c = c.in-Ok.ensures.within c.requires.session.session.opening c.requires.session.stands.opener

-- ---- what the manager of the new message bears

pub returns-then-self-clause-once : goal.returns-then-self-clause-once
returns-then-self-clause-once g c = λ v stands going. bears_same (g.B.Manager.state c.args.sealing.now) c.args.now (is_some v.materials)

pub returns-in-Err-clause-once : goal.returns-in-Err-clause-once
returns-in-Err-clause-once g c = λ v stands going. bears_same (g.B.Manager.state c.args.sealing.now) c.args.now (is_some v.materials)

pub returns-in_err-begin-clause-once : goal.returns-in_err-begin-clause-once
returns-in_err-begin-clause-once g c = λ v stands going.
    up_to_is (g.B.Manager.state c.args.sealing.now) (g.B.Manager.state c.begin.new.sealing) c.args.now c.args.self.now v stands going c.in_err-begin.ensures.bears

pub returns-in_err-pass-clause-once : goal.returns-in_err-pass-clause-once
returns-in_err-pass-clause-once g c = λ v stands going.
    up_to_is (g.B.Manager.state c.args.sealing.now) (g.B.Manager.state c.begin.new.sealing) c.args.now c.args.self.now v stands going
    (up_to_made (g.B.Manager.state c.args.sealing.now) (g.B.Manager.state c.begin.new.sealing) c.args.now (is_some c.args.self.now.message.sealer) (is_some c.begin.new.self.message.sealer) c.in_ok-begin.ensures.bears)

pub returns-clause-once : goal.returns-clause-once
returns-clause-once g c = λ v stands going.
    up_to_is (g.B.Manager.state c.args.sealing.now) (g.B.Manager.state c.begin.new.sealing) c.args.now c.args.self.now v stands going
    (up_to_made (g.B.Manager.state c.args.sealing.now) (g.B.Manager.state c.begin.new.sealing) c.args.now (is_some c.args.self.now.message.sealer) (is_some c.begin.new.self.message.sealer) c.in_ok-begin.ensures.bears)

pub returns-clause-bears : goal.returns-clause-bears
returns-clause-bears g c = λ v w stands going then.
    made_is (g.B.Manager.state c.args.sealing.now) (g.B.Manager.state c.begin.new.sealing) c.args.now c.args.self.now v stands going _ w then refl
    (subst (λ (b : Bool). BearsMade (g.B.Manager.state c.args.sealing.now) (g.B.Manager.state c.begin.new.sealing) c.args.now (is_some c.args.self.now.message.sealer) b) (sym c.pass.ensures.begun) c.in_ok-begin.ensures.bears)
