-- A turn is that of opening the job, or a further one, or none; and the job's file is put in its place.
use Rattle.std.proofs.Common.{◌≡◌, ◌∙◌, true, false, ap, arith, refl, sym, subst}
use Rattle.std.proofs.lemmas.Result.{IfOk-from_err}
use Rattle.esdk_batch.specs.declared.progress.Progress.{Progress}
use Rattle.esdk_batch.specs.declared.progress.Progress.TheVariants as stages
use Rattle.esdk_batch.specs.Failures.{HasFile}
use Rattle.esdk_batch.specs.Progress.{is_ended, turns_left}
use Rattle.esdk_batch.specs.Turns.{Knows, waits}
use Rattle.esdk_batch.specs.Keeping.{IsBeyond}
use Rattle.esdk_batch.specs.Underway.{JobHasSession}
use Rattle.esdk_batch.proofs.Unplaced.{counts_placed, kept_placed, kind_placed, lines_placed, number_placed, turn_placed, turns_first, turns_placed}
use Rattle.esdk_batch.proofs.Keeping.{keeps_as, keeps_same}
use Rattle.esdk_batch.specs.FileEndLaws.{from_later}
use Rattle.esdk_batch.specs.ShelfCalls.{IsOfTurn, IsWrite}
use Rattle.esdk_batch.proofs.ShelfCalls.{calls_as, on_err, reads_first, turn_finished, writes_turn}
use Rattle.esdk_batch.proofs.TakenTurns.{further_taken, lines_as, none_taken, turn_as}
use Rattle.esdk_batch.proofs.Watched.{placed_seen}
use Rattle.esdk_batch.proofs.turns.take_turn.Goals as goal

-- ---- a first turn

pub returns-in_ok-next-in-Waiting-clause-turn : goal.returns-in_ok-next-in-Waiting-clause-turn
returns-in_ok-next-in-Waiting-clause-turn g c = λ by first last v from admits stands has.
    let turn = c.in_ok-next-in-Waiting.ensures.turn by first last v from admits stands in (
      turn.0,
      turn.1,
      turn_as _ c.args.job.now c.args.progress.now stages.Waiting c.end_turn.new.progress v turn.0 _ _ _ _ c.in-Waiting.is
          (turn_placed _ c.args.job.now stages.Waiting c.in_ok-next-in-Waiting.next c.end_turn.new.progress v turn.0 _ _ _ _ _ _ _ c.end_turn.ensures.puts
          (placed_seen by c.args.job.now c.in_ok-next-in-Waiting.next c.end_turn.new.progress _ _ (from_later (IsWrite c.args.job.now.to) by _ _ c.in_ok-next-in-Waiting.ensures.calls from) c.end_turn.ensures.puts.files c.end_turn.ensures.calls)
          turn.2),
    )

pub returns-in_ok-next-in-Waiting-clause-numbers : goal.returns-in_ok-next-in-Waiting-clause-numbers
returns-in_ok-next-in-Waiting-clause-numbers g c = number_placed c.args.progress.now stages.Waiting c.in_ok-next-in-Waiting.next c.end_turn.new.progress _ _ _ _ c.in-Waiting.is refl c.end_turn.ensures.puts c.in_ok-next-in-Waiting.ensures.numbers

pub returns-in_ok-next-in-Waiting-clause-lines : goal.returns-in_ok-next-in-Waiting-clause-lines
returns-in_ok-next-in-Waiting-clause-lines g c = λ v stands knows.
    let lines = c.in_ok-next-in-Waiting.ensures.lines v stands in (
      lines.0,
      lines.1,
      lines_as c.args.job.now c.args.progress.now stages.Waiting c.end_turn.new.progress v lines.0 c.in-Waiting.is
          (lines_placed c.args.job.now stages.Waiting c.in_ok-next-in-Waiting.next c.end_turn.new.progress v lines.0 _ _ c.end_turn.ensures.puts lines.2),
    )

pub returns-in_ok-next-in-Waiting-clause-kind : goal.returns-in_ok-next-in-Waiting-clause-kind
returns-in_ok-next-in-Waiting-clause-kind g c = λ was. kind_placed c.args.job.now.work c.in_ok-next-in-Waiting.next c.end_turn.new.progress _ _ c.end_turn.ensures.puts c.in_ok-next-in-Waiting.ensures.kind

pub returns-in_ok-next-in-Waiting-clause-moment : goal.returns-in_ok-next-in-Waiting-clause-moment
returns-in_ok-next-in-Waiting-clause-moment g c = λ runs. record { moment = c.now.result; answers = record { given = c.now.ensures.given; told = (c.now.ensures.moment, c.now.ensures.moments) }; gains = c.in_ok-next-in-Waiting.ensures.moment }

pub returns-in_err-next-in-Waiting-clause-moment : goal.returns-in_err-next-in-Waiting-clause-moment
returns-in_err-next-in-Waiting-clause-moment g c = λ runs. record { moment = c.now.result; answers = record { given = c.now.ensures.given; told = (c.now.ensures.moment, c.now.ensures.moments) }; gains = c.in_err-next-in-Waiting.ensures.moment }

pub returns-in_ok-next-in-Waiting-clause-kept : goal.returns-in_ok-next-in-Waiting-clause-kept
returns-in_ok-next-in-Waiting-clause-kept g c = kept_placed _ c.in_ok-next-in-Waiting.next c.end_turn.new.progress _ _ c.args.job.now.to c.end_turn.ensures.puts c.in_ok-next-in-Waiting.ensures.kept

pub returns-in_ok-next-in-Waiting-clause-falls : goal.returns-in_ok-next-in-Waiting-clause-falls
returns-in_ok-next-in-Waiting-clause-falls g c = λ left.
    omega (arith, turns_placed c.in_ok-next-in-Waiting.next c.end_turn.new.progress _ _ c.end_turn.ensures.puts, ap turns_left c.in-Waiting.is, turns_first c.in_ok-next-in-Waiting.next _ _ c.in_ok-next-in-Waiting.ensures.numbers)

pub returns-in_ok-next-in-Waiting-clause-counts : goal.returns-in_ok-next-in-Waiting-clause-counts
returns-in_ok-next-in-Waiting-clause-counts g c = λ runs has. counts_placed c.args.job.now _ _ _ _ _ c.in_ok-next-in-Waiting.next c.end_turn.new.progress c.end_turn.ensures.puts c.in_ok-next-in-Waiting.ensures.counts

-- ---- a further turn

pub returns-in_ok-next-in-Live-clause-turn : goal.returns-in_ok-next-in-Live-clause-turn
returns-in_ok-next-in-Live-clause-turn g c = λ by first last v from admits stands has.
    let turn = c.in_ok-next-in-Live.ensures.turn by first last v from admits stands (subst (λ (p : Progress). JobHasSession v.live p) c.in-Live.is has) in (
      turn.0,
      turn.1,
      turn_as _ c.args.job.now c.args.progress.now (stages.Live c.in-Live.live) c.end_turn-in-Live.new.progress v turn.0 _ _ _ _ c.in-Live.is
          (turn_placed _ c.args.job.now (stages.Live c.in-Live.live) c.in_ok-next-in-Live.next c.end_turn-in-Live.new.progress v turn.0 _ _ _ _ _ _ _ c.end_turn-in-Live.ensures.puts
          (placed_seen by c.args.job.now c.in_ok-next-in-Live.next c.end_turn-in-Live.new.progress _ _ (from_later (IsOfTurn c.args.job.now) by _ _ c.in_ok-next-in-Live.ensures.calls from) c.end_turn-in-Live.ensures.puts.files
          c.end_turn-in-Live.ensures.calls)
          (further_taken _ c.args.job.now c.in-Live.live c.in_ok-next-in-Live.next v turn.0 _ _ _ turn.2)),
    )

pub returns-in_ok-next-in-Live-clause-numbers : goal.returns-in_ok-next-in-Live-clause-numbers
returns-in_ok-next-in-Live-clause-numbers g c =
    number_placed c.args.progress.now (stages.Live c.in-Live.live) c.in_ok-next-in-Live.next c.end_turn-in-Live.new.progress _ _ _ _ c.in-Live.is refl c.end_turn-in-Live.ensures.puts c.in_ok-next-in-Live.ensures.numbers

pub returns-in_ok-next-in-Live-clause-lines : goal.returns-in_ok-next-in-Live-clause-lines
returns-in_ok-next-in-Live-clause-lines g c = λ v stands knows.
    let lines = c.in_ok-next-in-Live.ensures.lines v stands (subst (λ (p : Progress). Knows c.args.job.now.work p v.live) c.in-Live.is knows) in (
      lines.0,
      lines.1,
      lines_as c.args.job.now c.args.progress.now (stages.Live c.in-Live.live) c.end_turn-in-Live.new.progress v lines.0 c.in-Live.is
          (lines_placed c.args.job.now (stages.Live c.in-Live.live) c.in_ok-next-in-Live.next c.end_turn-in-Live.new.progress v lines.0 _ _ c.end_turn-in-Live.ensures.puts lines.2),
    )

pub returns-in_ok-next-in-Live-clause-kind : goal.returns-in_ok-next-in-Live-clause-kind
returns-in_ok-next-in-Live-clause-kind g c = λ was. kind_placed c.args.job.now.work c.in_ok-next-in-Live.next c.end_turn-in-Live.new.progress _ _ c.end_turn-in-Live.ensures.puts c.in_ok-next-in-Live.ensures.kind

pub returns-in_ok-next-in-Live-clause-moment : goal.returns-in_ok-next-in-Live-clause-moment
returns-in_ok-next-in-Live-clause-moment g c = λ runs. record { moment = c.now-in-Live.result; answers = record { given = c.now-in-Live.ensures.given; told = (c.now-in-Live.ensures.moment, c.now-in-Live.ensures.moments) }; gains = c.in_ok-next-in-Live.ensures.moment }

pub returns-in_err-next-in-Live-clause-moment : goal.returns-in_err-next-in-Live-clause-moment
returns-in_err-next-in-Live-clause-moment g c = λ runs. record { moment = c.now-in-Live.result; answers = record { given = c.now-in-Live.ensures.given; told = (c.now-in-Live.ensures.moment, c.now-in-Live.ensures.moments) }; gains = c.in_err-next-in-Live.ensures.moment }

pub returns-in_ok-next-in-Live-clause-kept : goal.returns-in_ok-next-in-Live-clause-kept
returns-in_ok-next-in-Live-clause-kept g c = kept_placed _ c.in_ok-next-in-Live.next c.end_turn-in-Live.new.progress _ _ c.args.job.now.to c.end_turn-in-Live.ensures.puts c.in_ok-next-in-Live.ensures.kept

pub returns-in_ok-next-in-Live-clause-falls : goal.returns-in_ok-next-in-Live-clause-falls
returns-in_ok-next-in-Live-clause-falls g c = λ left.
    omega (arith, turns_placed c.in_ok-next-in-Live.next c.end_turn-in-Live.new.progress _ _ c.end_turn-in-Live.ensures.puts, ap turns_left c.in-Live.is, c.in_ok-next-in-Live.ensures.falls)

pub returns-in_ok-next-in-Live-clause-counts : goal.returns-in_ok-next-in-Live-clause-counts
returns-in_ok-next-in-Live-clause-counts g c = λ runs has.
    counts_placed c.args.job.now _ _ _ _ _ c.in_ok-next-in-Live.next c.end_turn-in-Live.new.progress c.end_turn-in-Live.ensures.puts
    (c.in_ok-next-in-Live.ensures.counts (g.W.Entropy.state c.args.entropy.now).faults
    (subst (λ (p : Progress). HasFile (g.F.Shelf.state c.args.shelf.now).files c.args.job.now p) c.in-Live.is has))

-- ---- none

pub returns-in-Ended-clause-turn : goal.returns-in-Ended-clause-turn
returns-in-Ended-clause-turn g c = λ by first last v from admits stands has. (v, stands, none_taken _ c.args.job.now c.args.progress.now v _ _ has)

pub returns-in-Ended-clause-moment : goal.returns-in-Ended-clause-moment
returns-in-Ended-clause-moment g c = λ runs. let no : true ≡ false = ap is_ended (sym c.in-Ended.is) ∙ runs in absurd cc

pub returns-in-Ended-clause-counts : goal.returns-in-Ended-clause-counts
returns-in-Ended-clause-counts g c = λ runs has. let no : true ≡ false = ap is_ended (sym c.in-Ended.is) ∙ runs in absurd cc

-- ---- the other sessions

pub returns-in_ok-next-in-Waiting-clause-sessions : goal.returns-in_ok-next-in-Waiting-clause-sessions
returns-in_ok-next-in-Waiting-clause-sessions g c = λ last under beyond.
    keeps_as last c.args.progress.now stages.Waiting c.args.desk.now c.open_job.new.desk c.in-Waiting.is (c.in_ok-next-in-Waiting.ensures.sessions last under)

pub returns-in_err-next-in-Waiting-clause-sessions : goal.returns-in_err-next-in-Waiting-clause-sessions
returns-in_err-next-in-Waiting-clause-sessions g c = λ last under beyond.
    keeps_as last c.args.progress.now stages.Waiting c.args.desk.now c.open_job.new.desk c.in-Waiting.is (c.in_err-next-in-Waiting.ensures.sessions last under)

pub returns-in_ok-next-in-Live-clause-sessions : goal.returns-in_ok-next-in-Live-clause-sessions
returns-in_ok-next-in-Live-clause-sessions g c = λ last under beyond.
    keeps_as last c.args.progress.now (stages.Live c.in-Live.live) c.args.desk.now c.go_on.new.desk c.in-Live.is
    (c.in_ok-next-in-Live.ensures.sessions last (subst (IsBeyond last) c.in-Live.is beyond))

pub returns-in_err-next-in-Live-clause-sessions : goal.returns-in_err-next-in-Live-clause-sessions
returns-in_err-next-in-Live-clause-sessions g c = λ last under beyond.
    keeps_as last c.args.progress.now (stages.Live c.in-Live.live) c.args.desk.now c.go_on.new.desk c.in-Live.is
    (c.in_err-next-in-Live.ensures.sessions last (subst (IsBeyond last) c.in-Live.is beyond))

pub returns-in-Ended-clause-sessions : goal.returns-in-Ended-clause-sessions
returns-in-Ended-clause-sessions g c = λ last under beyond. keeps_same last (waits c.args.progress.now) c.args.desk.now

-- ---- the calls of the shelf

pub returns-in_ok-next-in-Waiting-clause-calls : goal.returns-in_ok-next-in-Waiting-clause-calls
returns-in_ok-next-in-Waiting-clause-calls g c = λ runs.
    calls_as c.args.job.now c.args.progress.now stages.Waiting c.end_turn.new.progress _ _ c.in-Waiting.is
    (turn_finished c.args.job.now stages.Waiting c.in_ok-next-in-Waiting.next c.end_turn.new.progress _ _ _ c.in_ok-next-in-Waiting.ensures.kind c.end_turn.ensures.puts
    (reads_first c.args.job.now c.in_ok-next-in-Waiting.next _ _ c.in_ok-next-in-Waiting.ensures.front c.in_ok-next-in-Waiting.ensures.calls) c.end_turn.ensures.calls)

pub returns-in_err-next-in-Waiting-clause-broken : goal.returns-in_err-next-in-Waiting-clause-broken
returns-in_err-next-in-Waiting-clause-broken g c = λ runs. on_err _ (writes_turn c.args.job.now c.args.job.now.to _ _ refl c.in_err-next-in-Waiting.ensures.calls)

pub returns-in_ok-next-in-Live-clause-calls : goal.returns-in_ok-next-in-Live-clause-calls
returns-in_ok-next-in-Live-clause-calls g c = λ runs.
    calls_as c.args.job.now c.args.progress.now (stages.Live c.in-Live.live) c.end_turn-in-Live.new.progress _ _ c.in-Live.is
    (turn_finished c.args.job.now (stages.Live c.in-Live.live) c.in_ok-next-in-Live.next c.end_turn-in-Live.new.progress _ _ _ c.in_ok-next-in-Live.ensures.kind c.end_turn-in-Live.ensures.puts
    c.in_ok-next-in-Live.ensures.further c.end_turn-in-Live.ensures.calls)

pub returns-in_err-next-in-Live-clause-broken : goal.returns-in_err-next-in-Live-clause-broken
returns-in_err-next-in-Live-clause-broken g c = λ runs. on_err _ c.in_err-next-in-Live.ensures.calls

pub returns-in-Ended-clause-calls : goal.returns-in-Ended-clause-calls
returns-in-Ended-clause-calls g c = λ runs. let no : true ≡ false = ap is_ended (sym c.in-Ended.is) ∙ runs in absurd cc

-- ---- memory ran out in a first turn

pub returns-in_err-next-in-Waiting-clause-turn : goal.returns-in_err-next-in-Waiting-clause-turn
returns-in_err-next-in-Waiting-clause-turn g c = λ by first last v from admits stands has. IfOk-from_err c.from_residual.result _ c.from_residual.ensures.0

pub returns-in_err-next-in-Waiting-clause-numbers : goal.returns-in_err-next-in-Waiting-clause-numbers
returns-in_err-next-in-Waiting-clause-numbers g c = IfOk-from_err c.from_residual.result _ c.from_residual.ensures.0

pub returns-in_err-next-in-Waiting-clause-draws : goal.returns-in_err-next-in-Waiting-clause-draws
returns-in_err-next-in-Waiting-clause-draws g c = IfOk-from_err c.from_residual.result _ c.from_residual.ensures.0

pub returns-in_err-next-in-Waiting-clause-lines : goal.returns-in_err-next-in-Waiting-clause-lines
returns-in_err-next-in-Waiting-clause-lines g c = λ v stands knows. IfOk-from_err c.from_residual.result _ c.from_residual.ensures.0

pub returns-in_err-next-in-Waiting-clause-kind : goal.returns-in_err-next-in-Waiting-clause-kind
returns-in_err-next-in-Waiting-clause-kind g c = IfOk-from_err c.from_residual.result _ c.from_residual.ensures.0

pub returns-in_err-next-in-Waiting-clause-calls : goal.returns-in_err-next-in-Waiting-clause-calls
returns-in_err-next-in-Waiting-clause-calls g c = λ runs. IfOk-from_err c.from_residual.result _ c.from_residual.ensures.0

pub returns-in_err-next-in-Waiting-clause-counts : goal.returns-in_err-next-in-Waiting-clause-counts
returns-in_err-next-in-Waiting-clause-counts g c = λ runs has. IfOk-from_err c.from_residual.result _ c.from_residual.ensures.0

pub returns-in_err-next-in-Waiting-clause-falls : goal.returns-in_err-next-in-Waiting-clause-falls
returns-in_err-next-in-Waiting-clause-falls g c = IfOk-from_err c.from_residual.result _ c.from_residual.ensures.0

pub returns-in_err-next-in-Waiting-clause-kept : goal.returns-in_err-next-in-Waiting-clause-kept
returns-in_err-next-in-Waiting-clause-kept g c = c.open_job.ensures.kept

-- ---- what a first turn keeps

pub returns-in_err-next-in-Waiting-clause-worth : goal.returns-in_err-next-in-Waiting-clause-worth
returns-in_err-next-in-Waiting-clause-worth g c = c.open_job.ensures.worth

pub returns-in_err-next-in-Waiting-clause-went : goal.returns-in_err-next-in-Waiting-clause-went
returns-in_err-next-in-Waiting-clause-went g c = c.open_job.ensures.went

pub returns-in_ok-next-in-Waiting-clause-worth : goal.returns-in_ok-next-in-Waiting-clause-worth
returns-in_ok-next-in-Waiting-clause-worth g c = c.open_job.ensures.worth

pub returns-in_ok-next-in-Waiting-clause-went : goal.returns-in_ok-next-in-Waiting-clause-went
returns-in_ok-next-in-Waiting-clause-went g c = c.open_job.ensures.went

pub returns-in_ok-next-in-Waiting-clause-broken : goal.returns-in_ok-next-in-Waiting-clause-broken
returns-in_ok-next-in-Waiting-clause-broken g c = λ runs. tt

-- ---- memory ran out in a further turn

pub returns-in_err-next-in-Live-clause-turn : goal.returns-in_err-next-in-Live-clause-turn
returns-in_err-next-in-Live-clause-turn g c = λ by first last v from admits stands has. IfOk-from_err c.from_residual-in_err-next-in-Live.result _ c.from_residual-in_err-next-in-Live.ensures.0

pub returns-in_err-next-in-Live-clause-numbers : goal.returns-in_err-next-in-Live-clause-numbers
returns-in_err-next-in-Live-clause-numbers g c = IfOk-from_err c.from_residual-in_err-next-in-Live.result _ c.from_residual-in_err-next-in-Live.ensures.0

pub returns-in_err-next-in-Live-clause-draws : goal.returns-in_err-next-in-Live-clause-draws
returns-in_err-next-in-Live-clause-draws g c = IfOk-from_err c.from_residual-in_err-next-in-Live.result _ c.from_residual-in_err-next-in-Live.ensures.0

pub returns-in_err-next-in-Live-clause-lines : goal.returns-in_err-next-in-Live-clause-lines
returns-in_err-next-in-Live-clause-lines g c = λ v stands knows. IfOk-from_err c.from_residual-in_err-next-in-Live.result _ c.from_residual-in_err-next-in-Live.ensures.0

pub returns-in_err-next-in-Live-clause-kind : goal.returns-in_err-next-in-Live-clause-kind
returns-in_err-next-in-Live-clause-kind g c = IfOk-from_err c.from_residual-in_err-next-in-Live.result _ c.from_residual-in_err-next-in-Live.ensures.0

pub returns-in_err-next-in-Live-clause-calls : goal.returns-in_err-next-in-Live-clause-calls
returns-in_err-next-in-Live-clause-calls g c = λ runs. IfOk-from_err c.from_residual-in_err-next-in-Live.result _ c.from_residual-in_err-next-in-Live.ensures.0

pub returns-in_err-next-in-Live-clause-counts : goal.returns-in_err-next-in-Live-clause-counts
returns-in_err-next-in-Live-clause-counts g c = λ runs has. IfOk-from_err c.from_residual-in_err-next-in-Live.result _ c.from_residual-in_err-next-in-Live.ensures.0

pub returns-in_err-next-in-Live-clause-falls : goal.returns-in_err-next-in-Live-clause-falls
returns-in_err-next-in-Live-clause-falls g c = IfOk-from_err c.from_residual-in_err-next-in-Live.result _ c.from_residual-in_err-next-in-Live.ensures.0

pub returns-in_err-next-in-Live-clause-kept : goal.returns-in_err-next-in-Live-clause-kept
returns-in_err-next-in-Live-clause-kept g c = c.go_on.ensures.kept

-- ---- what a further turn keeps

pub returns-in_err-next-in-Live-clause-worth : goal.returns-in_err-next-in-Live-clause-worth
returns-in_err-next-in-Live-clause-worth g c = c.go_on.ensures.worth

pub returns-in_err-next-in-Live-clause-went : goal.returns-in_err-next-in-Live-clause-went
returns-in_err-next-in-Live-clause-went g c = c.go_on.ensures.went

pub returns-in_ok-next-in-Live-clause-worth : goal.returns-in_ok-next-in-Live-clause-worth
returns-in_ok-next-in-Live-clause-worth g c = c.go_on.ensures.worth

pub returns-in_ok-next-in-Live-clause-went : goal.returns-in_ok-next-in-Live-clause-went
returns-in_ok-next-in-Live-clause-went g c = c.go_on.ensures.went

pub returns-in_ok-next-in-Live-clause-broken : goal.returns-in_ok-next-in-Live-clause-broken
returns-in_ok-next-in-Live-clause-broken g c = λ runs. tt
