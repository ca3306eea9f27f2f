use Rattle.std.proofs.Common.{◌≡◌, ◌∙◌, ◌+◌, ◌-◌, ◌*◌, ◌++◌, ℕ, List, drop, take, refl, sym, ap, subst, arith}
use Rattle.esdk_decrypt.proofs.Concluding.{passed_on}
use Rattle.reseal_core.specs.declared.errors.ResealError.{ResealError}
use Rattle.reseal_core.specs.Reseal.{resealing_from}
use Rattle.reseal_core.specs.Session.{gone_on, new_resealing_session}
use Rattle.reseal_core.specs.Underway.{Reached}
use Rattle.reseal_core.proofs.StepEnds.{steps_fed}
use Rattle.callers.specs.Resealing.{ResealsNot}
use Rattle.callers.proofs.ResealedPieces.{part, random_enough, step_fails}
use Rattle.callers.proofs.resealing.take_piece.Goals as goal

pub step-requires-clause-session : goal.step-requires-clause-session
step-requires-clause-session g c =
    let b = c.requires in
    let r = c.steps.invariant.reached b.settings b.given b.size b.random b.bytes b.first b.begun b.before b.reached in
    record { session = gone_on (new_resealing_session b.settings b.given b.size b.random) r.fed.session r.materials; stands = r.stands }

pub step-requires-clause-random : goal.step-requires-clause-random
step-requires-clause-random g c = λ v stands locked.
    let b = c.requires in
    random_enough g.A.Manager.state g.B.Manager.state c.args.now b.settings b.given b.size b.random (b.bytes ++ take c.steps.taken c.args.piece.now) b.first c.steps.opening b.begun c.steps.sealing b.before (g.O.Sink.state c.steps.output) c.steps.resealer
    (c.steps.invariant.reached b.settings b.given b.size b.random b.bytes b.first b.begun b.before b.reached) (g.B.Manager.state c.steps.sealing).meaning.wraps
    (b.count ∙ ap (λ (n : ℕ). 64 + 12 * n) (sym c.steps.invariant.wraps)) v stands

pub returns-in_err-used-clause-cause : goal.returns-in_err-used-clause-cause
returns-in_err-used-clause-cause g c = λ settings given size random bytes first begun before reached more.
    let room : ℕ = c.steps.taken + c.min-room.result - c.steps.taken in
    let rest : List ℕ = take room (drop c.steps.taken c.args.piece.now) in
    let p = part c.args.piece.now c.steps.taken room c.steps-test.true (omega (arith, c.min-room.ensures, c.steps-test.true)) (omega (arith, c.min-room.ensures)) (omega (arith, c.min-room.ensures)) in
    let r = c.steps.invariant.reached settings given size random bytes first begun before reached in
    passed_on (λ (error : ResealError). ResealsNot (resealing_from (g.A.Manager.state first) (g.A.Manager.state c.step.new.opening) (g.B.Manager.state begun) (g.B.Manager.state c.step.new.sealing) c.args.now settings given size) random ((bytes ++ c.args.piece.now) ++ more) before (g.O.Sink.state c.step.new.output) error)
    c.from_residual.result c.in_err-used.field-0.0 c.from_residual.ensures.1
    (step_fails g.A.Manager.state g.B.Manager.state c.args.now settings given size random (bytes ++ take c.steps.taken c.args.piece.now) first c.steps.opening begun c.steps.sealing before (g.O.Sink.state c.steps.output) c.steps.resealer r rest
    (p.behind ++ more) ((bytes ++ c.args.piece.now) ++ more) c.step.new.opening c.step.new.sealing (g.O.Sink.state c.step.new.output) c.step.new.self (c.step.new.output ≡ c.steps.output) p.some p.few
    (c.step.ensures.unasked (gone_on (new_resealing_session settings given size random) r.fed.session r.materials) r.stands) (ap g.O.Sink.state) c.in_err-used.field-0.0
    (c.in_err-used.ensures.steps (gone_on (new_resealing_session settings given size random) r.fed.session r.materials) r.stands refl) (p.all bytes more))

pub steps-smaller : goal.steps-smaller
steps-smaller g c =
    let b = c.requires in
    let room : ℕ = c.steps.taken + c.min-room.result - c.steps.taken in
    let rest : List ℕ = take room (drop c.steps.taken c.args.piece.now) in
    let p = part c.args.piece.now c.steps.taken room c.steps-test.true (omega (arith, c.min-room.ensures, c.steps-test.true)) (omega (arith, c.min-room.ensures)) (omega (arith, c.min-room.ensures)) in
    let r = c.steps.invariant.reached b.settings b.given b.size b.random b.bytes b.first b.begun b.before b.reached in
    let fed = steps_fed g.A.Manager.state g.B.Manager.state c.args.now b.settings b.given b.size b.random (b.bytes ++ take c.steps.taken c.args.piece.now) b.first c.steps.opening b.begun c.steps.sealing b.before (g.O.Sink.state c.steps.output)
    c.steps.resealer r rest c.step.new.opening c.step.new.sealing (g.O.Sink.state c.step.new.output) c.step.new.self (c.step.new.output ≡ c.steps.output) p.some
    (c.step.ensures.unasked (gone_on (new_resealing_session b.settings b.given b.size b.random) r.fed.session r.materials) r.stands) c.in_ok-used.used
    (c.in_ok-used.ensures.steps (gone_on (new_resealing_session b.settings b.given b.size b.random) r.fed.session r.materials) r.stands refl) in
    omega (arith, fed.some, c.steps-test.true)

pub steps-preserved : goal.steps-preserved
steps-preserved g c =
    let b = c.requires in
    let room : ℕ = c.steps.taken + c.min-room.result - c.steps.taken in
    let rest : List ℕ = take room (drop c.steps.taken c.args.piece.now) in
    let p = part c.args.piece.now c.steps.taken room c.steps-test.true (omega (arith, c.min-room.ensures, c.steps-test.true)) (omega (arith, c.min-room.ensures)) (omega (arith, c.min-room.ensures)) in
    record {
      within = omega (arith, c.in_ok-used.ensures.within, p.within, c.steps-test.true);
      wraps = c.step.ensures.sealing.goes.wraps ∙ c.steps.invariant.wraps;
      reached = λ settings given size random bytes first begun before reached.
          (let r = c.steps.invariant.reached settings given size random bytes first begun before reached in
          let fed = steps_fed g.A.Manager.state g.B.Manager.state c.args.now settings given size random (bytes ++ take c.steps.taken c.args.piece.now) first c.steps.opening begun c.steps.sealing before (g.O.Sink.state c.steps.output)
          c.steps.resealer r rest c.step.new.opening c.step.new.sealing (g.O.Sink.state c.step.new.output) c.step.new.self (c.step.new.output ≡ c.steps.output) p.some
          (c.step.ensures.unasked (gone_on (new_resealing_session settings given size random) r.fed.session r.materials) r.stands) c.in_ok-used.used
          (c.in_ok-used.ensures.steps (gone_on (new_resealing_session settings given size random) r.fed.session r.materials) r.stands refl) in
          subst (λ (l : List ℕ). Reached g.A.Manager.state g.B.Manager.state c.args.now (new_resealing_session settings given size random) l first c.step.new.opening begun c.step.new.sealing before (g.O.Sink.state c.step.new.output) c.step.new.self)
          (p.ahead bytes c.in_ok-used.used fed.within) fed.reached);
    }
