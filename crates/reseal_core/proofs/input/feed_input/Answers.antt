use Rattle.std.proofs.Common.{◌≡◌, ◌∙◌, ◌++◌, ◌+◌, ◌*◌, ℕ, List, [], drop, length, take, None, inl, refl, sym, ap, subst, arith, false}
use Rattle.std.proofs.lemmas.List.{length-drop}
use Rattle.std.proofs.lemmas.Result.{err_from_is_err_and}
use Rattle.keyring_trait.proofs.Going.{went_on}
use Rattle.whole_input.specs.Pieces.{PiecesValue}
use Rattle.stream_open.specs.Asking.{served_in}
use Rattle.esdk_decrypt.proofs.Concluding.{passed_on}
use Rattle.esdk_decrypt.proofs.Pieces.{CameWell, came_headless, well_none}
use Rattle.reseal_core.specs.declared.errors.InputError.TheVariants.{Memory}
use Rattle.reseal_core.specs.Session.{gone_on, new_resealing_session}
use Rattle.reseal_core.proofs.Bearing.{bears_same, made_fed, made_none, made_short}
use Rattle.reseal_core.proofs.Concluding.{memory_first}
use Rattle.reseal_core.proofs.Feeding.{input_ends, is_unfed, left_is, left_then, reached_none}
use Rattle.reseal_core.proofs.LockedUnasked.{reached_locked, step_locked}
use Rattle.reseal_core.proofs.Reaching.{random_kept, still_going}
use Rattle.reseal_core.proofs.StepEnds.{opened_bears, step_ends, steps_fed, unstopped}
use Rattle.reseal_core.proofs.Unasked.{reached_unasked, step_unasked}
use Rattle.reseal_core.proofs.input.feed_input.Goals as goal

pub returns-in_err-pieces-clause-ends : goal.returns-in_err-pieces-clause-ends
returns-in_err-pieces-clause-ends g c = λ settings given size random stands.
    passed_on _ c.from_residual.result Memory c.from_residual.ensures.1
    (memory_first (g.A.Manager.state c.args.opening.now) (g.A.Manager.state c.args.opening.now) (g.B.Manager.state c.args.sealing.now) (g.B.Manager.state c.args.sealing.now) c.args.now settings given size random
    (g.S.Source.state c.args.input.now) (g.O.Sink.state c.args.output.now))

pub steps-init : goal.steps-init
steps-init g c =
    let b = c.requires.begins in
    record {
      within = omega arith;
      few = omega (arith, ap (λ (p : PiecesValue). length p.piece) c.in_ok-pieces.ensures);
      opening = c.requires.opening;
      sealing = c.requires.sealing;
      random = ap (length {A = ℕ}) (b.stands.going refl).written.random_is ∙ b.count;
      going = record { session = new_resealing_session b.settings b.given b.size b.random; stands = b.stands; going = refl };
      bears = made_none (g.B.Manager.state c.args.sealing.now) c.args.now c.args.resealer.now (new_resealing_session b.settings b.given b.size b.random) b.stands refl refl;
      lasts = g.met.S.Source.lasts_none _;
      bytes = [];
      well = subst (λ (p : List ℕ). CameWell (g.S.Source.state c.args.input.now) (g.S.Source.state c.args.input.now) c.in_ok-pieces.pieces.taken p) (sym (ap (λ (p : PiecesValue). p.piece) c.in_ok-pieces.ensures))
          (well_none (g.S.Source.state c.args.input.now) c.in_ok-pieces.pieces.taken (ap (λ (p : PiecesValue). p.taken) c.in_ok-pieces.ensures));
      reached = λ settings given size random stands.
          reached_none g.A.Manager.state g.B.Manager.state c.args.now settings given size random c.args.opening.now c.args.sealing.now (g.O.Sink.state c.args.output.now) c.args.resealer.now stands;
    }

pub returns-in-Err-clause-fed : goal.returns-in-Err-clause-fed
returns-in-Err-clause-fed g c = λ settings given size random stands.
    let i = c.steps.invariant in
    let ended = input_ends (g.S.Source.state c.args.input.now) (g.S.Source.state c.steps.input) (g.S.Source.state c.unfed.new.input) c.steps.pieces c.unfed.new.pieces c.steps.fed i.bytes c.in-Err.end i.well (rw c.in-Err.is at c.unfed.ensures.unfed) in
    record { bytes = i.bytes; came = ended.0; ends = ended.1; reached = i.reached settings given size random stands }

pub steps-smaller : goal.steps-smaller
steps-smaller g c =
    let i = c.steps.invariant in
    let u = is_unfed (g.S.Source.state c.args.input.now) (g.S.Source.state c.steps.input) (g.S.Source.state c.unfed.new.input) c.steps.pieces c.unfed.new.pieces c.steps.fed c.in-Ok.from i.bytes i.few i.well (rw c.in-Ok.is at c.unfed.ensures.unfed) in
    let b = c.requires.begins in
    let r = i.reached b.settings b.given b.size b.random b.stands in
    let left = left_is c.piece.result.now c.unfed.new.pieces.piece c.in-Ok.from c.piece.ensures in
    let s = rw left at c.in-Ok-step.ensures.steps (gone_on (new_resealing_session b.settings b.given b.size b.random) r.fed.session r.materials) r.stands refl in
    let stays = rw left at c.step.ensures.unasked (gone_on (new_resealing_session b.settings b.given b.size b.random) r.fed.session r.materials) r.stands in
    let fed = steps_fed g.A.Manager.state g.B.Manager.state c.args.now b.settings b.given b.size b.random i.bytes c.args.opening.now c.steps.opening c.args.sealing.now c.steps.sealing (g.O.Sink.state c.args.output.now)
    (g.O.Sink.state c.steps.output) c.steps.resealer r (drop c.in-Ok.from c.unfed.new.pieces.piece) c.step.new.opening c.step.new.sealing (g.O.Sink.state c.step.new.output) c.step.new.self _
    (omega (arith, u.some, length-drop c.in-Ok.from c.unfed.new.pieces.piece)) stays c.in-Ok-step.used s in
    omega (arith, u.less, u.some, fed.some, fed.within, length-drop c.in-Ok.from c.unfed.new.pieces.piece)

pub steps-preserved : goal.steps-preserved
steps-preserved g c =
    let i = c.steps.invariant in
    let piece : List ℕ = c.unfed.new.pieces.piece in
    let from : ℕ = c.in-Ok.from in
    let u = is_unfed (g.S.Source.state c.args.input.now) (g.S.Source.state c.steps.input) (g.S.Source.state c.unfed.new.input) c.steps.pieces c.unfed.new.pieces c.steps.fed c.in-Ok.from i.bytes i.few i.well (rw c.in-Ok.is at c.unfed.ensures.unfed) in
    let b = c.requires.begins in
    let left = left_is c.piece.result.now c.unfed.new.pieces.piece c.in-Ok.from c.piece.ensures in
    let r = i.reached b.settings b.given b.size b.random b.stands in
    let mine = steps_fed g.A.Manager.state g.B.Manager.state c.args.now b.settings b.given b.size b.random i.bytes c.args.opening.now c.steps.opening c.args.sealing.now c.steps.sealing (g.O.Sink.state c.args.output.now)
    (g.O.Sink.state c.steps.output) c.steps.resealer r (drop from piece) c.step.new.opening c.step.new.sealing (g.O.Sink.state c.step.new.output) c.step.new.self (c.step.new.output ≡ c.steps.output)
    (omega (arith, u.some, length-drop from piece)) (rw left at c.step.ensures.unasked (gone_on (new_resealing_session b.settings b.given b.size b.random) r.fed.session r.materials) r.stands) c.in-Ok-step.used
    (rw left at c.in-Ok-step.ensures.steps (gone_on (new_resealing_session b.settings b.given b.size b.random) r.fed.session r.materials) r.stands refl) in
    record {
      within = omega (arith, u.some, mine.within, length-drop from piece);
      few = u.few;
      opening = went_on _ _ _ i.opening c.step.ensures.opening;
      sealing = went_on _ _ _ i.sealing c.step.ensures.sealing;
      random = ap (length {A = ℕ}) (random_kept g.A.Manager.state g.B.Manager.state c.args.now b.settings b.given b.size b.random (i.bytes ++ take c.in-Ok-step.used (drop from piece)) c.args.opening.now c.step.new.opening c.args.sealing.now c.step.new.sealing (g.O.Sink.state c.args.output.now) (g.O.Sink.state c.step.new.output) c.step.new.self mine.reached) ∙ b.count ∙ ap (λ (n : ℕ). 64 + 12 * n) (sym (went_on _ _ _ i.sealing c.step.ensures.sealing).goes.wraps);
      going = still_going g.A.Manager.state g.B.Manager.state c.args.now b.settings b.given b.size b.random (i.bytes ++ take c.in-Ok-step.used (drop from piece)) c.args.opening.now c.step.new.opening c.args.sealing.now c.step.new.sealing (g.O.Sink.state c.args.output.now) (g.O.Sink.state c.step.new.output) c.step.new.self mine.reached;
      bears = made_fed g.A.Manager.state g.B.Manager.state c.args.now b.settings b.given b.size b.random i.bytes (i.bytes ++ take c.in-Ok-step.used (drop from piece)) c.args.opening.now c.steps.opening c.step.new.opening
          c.args.sealing.now c.steps.sealing c.step.new.sealing (g.O.Sink.state c.args.output.now) (g.O.Sink.state c.steps.output) (g.O.Sink.state c.step.new.output) c.steps.resealer c.step.new.self r mine.reached i.bears
          c.in-Ok-step.ensures.bears;
      lasts = g.met.S.Source.lasts_more _ _ _ i.lasts c.unfed.ensures.lasts;
      bytes = i.bytes ++ take c.in-Ok-step.used (drop from piece);
      well = subst (λ (p : List ℕ). CameWell (g.S.Source.state c.args.input.now) (g.S.Source.state c.unfed.new.input) c.unfed.new.pieces.taken p) (sym (left_then i.bytes piece from c.in-Ok-step.used)) u.well;
      reached = λ settings given size random stands.
          (let r = i.reached settings given size random stands in
          (steps_fed g.A.Manager.state g.B.Manager.state c.args.now settings given size random i.bytes c.args.opening.now c.steps.opening c.args.sealing.now c.steps.sealing (g.O.Sink.state c.args.output.now)
          (g.O.Sink.state c.steps.output) c.steps.resealer r (drop from piece) c.step.new.opening c.step.new.sealing (g.O.Sink.state c.step.new.output) c.step.new.self (c.step.new.output ≡ c.steps.output)
          (omega (arith, u.some, length-drop from piece)) (rw left at c.step.ensures.unasked (gone_on (new_resealing_session settings given size random) r.fed.session r.materials) r.stands) c.in-Ok-step.used
          (rw left at c.in-Ok-step.ensures.steps (gone_on (new_resealing_session settings given size random) r.fed.session r.materials) r.stands refl)).reached);
    }

pub named-requires : goal.named-requires
named-requires g c = λ stopped.
    let i = c.steps.invariant in
    let b = c.requires.begins in
    let r = i.reached b.settings b.given b.size b.random b.stands in
    let left = left_is c.piece.result.now c.unfed.new.pieces.piece c.in-Ok.from c.piece.ensures in
    let u = is_unfed (g.S.Source.state c.args.input.now) (g.S.Source.state c.steps.input) (g.S.Source.state c.unfed.new.input) c.steps.pieces c.unfed.new.pieces c.steps.fed c.in-Ok.from i.bytes i.few i.well (rw c.in-Ok.is at c.unfed.ensures.unfed) in
    unstopped g.A.Manager.state g.B.Manager.state c.args.now b.settings b.given b.size b.random i.bytes c.args.opening.now c.steps.opening c.args.sealing.now c.steps.sealing (g.O.Sink.state c.args.output.now)
    (g.O.Sink.state c.steps.output) c.steps.resealer r (drop c.in-Ok.from c.unfed.new.pieces.piece) c.step.new.opening c.step.new.sealing (g.O.Sink.state c.step.new.output) c.step.new.self _
    (omega (arith, u.some, length-drop c.in-Ok.from c.unfed.new.pieces.piece)) (rw left at c.step.ensures.unasked (gone_on (new_resealing_session b.settings b.given b.size b.random) r.fed.session r.materials) r.stands)
    (rw (stopped, left) at c.in-Err-step.ensures.steps (gone_on (new_resealing_session b.settings b.given b.size b.random) r.fed.session r.materials) r.stands refl)

pub returns-in-Err-step-clause-ends : goal.returns-in-Err-step-clause-ends
returns-in-Err-step-clause-ends g c = λ settings given size random stands.
    let i = c.steps.invariant in
    let r = i.reached settings given size random stands in
    let left = left_is c.piece.result.now c.unfed.new.pieces.piece c.in-Ok.from c.piece.ensures in
    let u = is_unfed (g.S.Source.state c.args.input.now) (g.S.Source.state c.steps.input) (g.S.Source.state c.unfed.new.input) c.steps.pieces c.unfed.new.pieces c.steps.fed c.in-Ok.from i.bytes i.few i.well (rw c.in-Ok.is at c.unfed.ensures.unfed) in
    step_ends g.A.Manager.state g.B.Manager.state c.args.now settings given size random i.bytes c.args.opening.now c.steps.opening c.args.sealing.now c.steps.sealing (g.O.Sink.state c.args.output.now)
    (g.O.Sink.state c.steps.output) c.steps.resealer r (drop c.in-Ok.from c.unfed.new.pieces.piece) c.step.new.opening c.step.new.sealing (g.O.Sink.state c.step.new.output) c.step.new.self (c.step.new.output ≡ c.steps.output)
    (omega (arith, u.some, length-drop c.in-Ok.from c.unfed.new.pieces.piece)) (rw left at c.step.ensures.unasked (gone_on (new_resealing_session settings given size random) r.fed.session r.materials) r.stands)
    (ap g.O.Sink.state) (g.S.Source.state c.args.input.now) (g.S.Source.state c.unfed.new.input) u.well.came u.well.faults (omega (arith, u.few, length-drop c.in-Ok.from c.unfed.new.pieces.piece)) c.in-Err-step.error c.named.result
    (rw left at c.in-Err-step.ensures.steps (gone_on (new_resealing_session settings given size random) r.fed.session r.materials) r.stands refl) c.named.ensures

-- ---- what the managers bear, and the input

pub returns-in_err-pieces-clause-unseals : goal.returns-in_err-pieces-clause-unseals
returns-in_err-pieces-clause-unseals g c = (None, λ lines bore. bore)

pub returns-in_err-pieces-clause-seals : goal.returns-in_err-pieces-clause-seals
returns-in_err-pieces-clause-seals g c =
    let p = err_from_is_err_and c.from_residual.result c.from_residual.ensures.1 in rw p.1 (bears_same (g.B.Manager.state c.args.sealing.now) c.args.now false)

pub returns-in_err-pieces-clause-lasts : goal.returns-in_err-pieces-clause-lasts
returns-in_err-pieces-clause-lasts g c = g.met.S.Source.lasts_none _

pub returns-in-Err-clause-unseals : goal.returns-in-Err-clause-unseals
returns-in-Err-clause-unseals g c =
    let b = c.requires.begins in
    let r = c.steps.invariant.reached b.settings b.given b.size b.random b.stands in
    (served_in r.fed.heard, r.fed.bears)

pub returns-in-Err-clause-seals : goal.returns-in-Err-clause-seals
returns-in-Err-clause-seals g c = c.steps.invariant.bears

pub returns-in-Err-clause-lasts : goal.returns-in-Err-clause-lasts
returns-in-Err-clause-lasts g c = g.met.S.Source.lasts_more _ _ _ c.steps.invariant.lasts c.unfed.ensures.lasts

pub returns-in-Err-step-clause-unseals : goal.returns-in-Err-step-clause-unseals
returns-in-Err-step-clause-unseals g c =
    let i = c.steps.invariant in
    let b = c.requires.begins in
    let r = i.reached b.settings b.given b.size b.random b.stands in
    let left = left_is c.piece.result.now c.unfed.new.pieces.piece c.in-Ok.from c.piece.ensures in
    let u = is_unfed (g.S.Source.state c.args.input.now) (g.S.Source.state c.steps.input) (g.S.Source.state c.unfed.new.input) c.steps.pieces c.unfed.new.pieces c.steps.fed c.in-Ok.from i.bytes i.few i.well (rw c.in-Ok.is at c.unfed.ensures.unfed) in
    opened_bears g.A.Manager.state g.B.Manager.state c.args.now b.settings b.given b.size b.random i.bytes c.args.opening.now c.steps.opening c.args.sealing.now c.steps.sealing (g.O.Sink.state c.args.output.now)
    (g.O.Sink.state c.steps.output) c.steps.resealer r (drop c.in-Ok.from c.unfed.new.pieces.piece) c.step.new.opening c.step.new.sealing (g.O.Sink.state c.step.new.output) c.step.new.self (c.step.new.output ≡ c.steps.output)
    (omega (arith, u.some, length-drop c.in-Ok.from c.unfed.new.pieces.piece)) (rw left at c.step.ensures.unasked (gone_on (new_resealing_session b.settings b.given b.size b.random) r.fed.session r.materials) r.stands)
    _ (rw left at c.in-Err-step.ensures.steps (gone_on (new_resealing_session b.settings b.given b.size b.random) r.fed.session r.materials) r.stands refl)

pub returns-in-Err-step-clause-seals : goal.returns-in-Err-step-clause-seals
returns-in-Err-step-clause-seals g c =
    let i = c.steps.invariant in
    let b = c.requires.begins in
    let r = i.reached b.settings b.given b.size b.random b.stands in
    made_short (g.B.Manager.state c.args.sealing.now) (g.B.Manager.state c.steps.sealing) (g.B.Manager.state c.step.new.sealing) c.args.now c.steps.resealer
    (gone_on (new_resealing_session b.settings b.given b.size b.random) r.fed.session r.materials) r.stands refl i.bears
    (c.in-Err-step.ensures.once (gone_on (new_resealing_session b.settings b.given b.size b.random) r.fed.session r.materials) r.stands refl)

pub returns-in-Err-step-clause-lasts : goal.returns-in-Err-step-clause-lasts
returns-in-Err-step-clause-lasts g c = g.met.S.Source.lasts_more _ _ _ c.steps.invariant.lasts c.unfed.ensures.lasts

-- ---- no header is whole in what came

pub returns-in_err-pieces-clause-unasked : goal.returns-in_err-pieces-clause-unasked
returns-in_err-pieces-clause-unasked g c = λ settings given size random stands bytes came none. (refl, refl)

pub returns-in-Err-clause-unasked : goal.returns-in-Err-clause-unasked
returns-in-Err-clause-unasked g c = λ settings given size random stands others told none.
    let i = c.steps.invariant in
    let ended = input_ends (g.S.Source.state c.args.input.now) (g.S.Source.state c.steps.input) (g.S.Source.state c.unfed.new.input) c.steps.pieces c.unfed.new.pieces c.steps.fed i.bytes c.in-Err.end i.well (rw c.in-Err.is at c.unfed.ensures.unfed) in
    reached_unasked g.A.Manager.state g.B.Manager.state c.args.now settings given size random i.bytes c.args.opening.now c.steps.opening c.args.sealing.now c.steps.sealing (g.O.Sink.state c.args.output.now)
    (g.O.Sink.state c.steps.output) c.steps.resealer (i.reached settings given size random stands)
    (came_headless settings (g.S.Source.state c.args.input.now) (g.S.Source.state c.unfed.new.input) i.bytes others ended.0 told none)

pub returns-in-Err-step-clause-unasked : goal.returns-in-Err-step-clause-unasked
returns-in-Err-step-clause-unasked g c = λ settings given size random stands others told none.
    let i = c.steps.invariant in
    let r = i.reached settings given size random stands in
    let left = left_is c.piece.result.now c.unfed.new.pieces.piece c.in-Ok.from c.piece.ensures in
    let u = is_unfed (g.S.Source.state c.args.input.now) (g.S.Source.state c.steps.input) (g.S.Source.state c.unfed.new.input) c.steps.pieces c.unfed.new.pieces c.steps.fed c.in-Ok.from i.bytes i.few i.well (rw c.in-Ok.is at c.unfed.ensures.unfed) in
    step_unasked g.A.Manager.state g.B.Manager.state c.args.now settings given size random i.bytes c.args.opening.now c.steps.opening c.args.sealing.now c.steps.sealing (g.O.Sink.state c.args.output.now)
    (g.O.Sink.state c.steps.output) c.steps.resealer r (drop c.in-Ok.from c.unfed.new.pieces.piece) c.step.new.opening c.step.new.sealing (g.O.Sink.state c.step.new.output) c.step.new.self (c.step.new.output ≡ c.steps.output)
    (omega (arith, u.some, length-drop c.in-Ok.from c.unfed.new.pieces.piece)) (rw left at c.step.ensures.unasked (gone_on (new_resealing_session settings given size random) r.fed.session r.materials) r.stands)
    (came_headless settings (g.S.Source.state c.args.input.now) (g.S.Source.state c.unfed.new.input) (i.bytes ++ drop c.in-Ok.from c.unfed.new.pieces.piece) others u.well.came told none)
    c.in-Err-step.error (rw left at c.in-Err-step.ensures.steps (gone_on (new_resealing_session settings given size random) r.fed.session r.materials) r.stands refl)

-- ---- the old message isn't unlocked

pub returns-in_err-pieces-clause-locked : goal.returns-in_err-pieces-clause-locked
returns-in_err-pieces-clause-locked g c = λ settings given size random stands. inl refl

pub returns-in-Err-clause-locked : goal.returns-in-Err-clause-locked
returns-in-Err-clause-locked g c = λ settings given size random stands.
    let i = c.steps.invariant in
    let ended = input_ends (g.S.Source.state c.args.input.now) (g.S.Source.state c.steps.input) (g.S.Source.state c.unfed.new.input) c.steps.pieces c.unfed.new.pieces c.steps.fed i.bytes c.in-Err.end i.well (rw c.in-Err.is at c.unfed.ensures.unfed) in
    reached_locked g.A.Manager.state g.B.Manager.state c.args.now settings given size random i.bytes c.args.opening.now c.steps.opening c.args.sealing.now c.steps.sealing (g.O.Sink.state c.args.output.now)
    (g.O.Sink.state c.steps.output) c.steps.resealer (i.reached settings given size random stands) (g.S.Source.state c.args.input.now) (g.S.Source.state c.unfed.new.input) ended.0

pub returns-in-Err-step-clause-locked : goal.returns-in-Err-step-clause-locked
returns-in-Err-step-clause-locked g c = λ settings given size random stands.
    let i = c.steps.invariant in
    let r = i.reached settings given size random stands in
    let left = left_is c.piece.result.now c.unfed.new.pieces.piece c.in-Ok.from c.piece.ensures in
    let u = is_unfed (g.S.Source.state c.args.input.now) (g.S.Source.state c.steps.input) (g.S.Source.state c.unfed.new.input) c.steps.pieces c.unfed.new.pieces c.steps.fed c.in-Ok.from i.bytes i.few i.well (rw c.in-Ok.is at c.unfed.ensures.unfed) in
    step_locked g.A.Manager.state g.B.Manager.state c.args.now settings given size random i.bytes c.args.opening.now c.steps.opening c.args.sealing.now c.steps.sealing (g.O.Sink.state c.args.output.now)
    (g.O.Sink.state c.steps.output) c.steps.resealer r (drop c.in-Ok.from c.unfed.new.pieces.piece) c.step.new.opening c.step.new.sealing (g.O.Sink.state c.step.new.output) c.step.new.self (c.step.new.output ≡ c.steps.output)
    (omega (arith, u.some, length-drop c.in-Ok.from c.unfed.new.pieces.piece)) (rw left at c.step.ensures.unasked (gone_on (new_resealing_session settings given size random) r.fed.session r.materials) r.stands)
    (g.S.Source.state c.args.input.now) (g.S.Source.state c.unfed.new.input) u.well.came (omega (arith, u.few, length-drop c.in-Ok.from c.unfed.new.pieces.piece)) c.in-Err-step.error
    (rw left at c.in-Err-step.ensures.steps (gone_on (new_resealing_session settings given size random) r.fed.session r.materials) r.stands refl)
