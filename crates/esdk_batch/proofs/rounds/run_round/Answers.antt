-- The job at the index has a turn, or it ended before.
use Rattle.std.proofs.Common.{◌<◌, ◌≤◌, length, get_or, refl, sym, ap, ◌∙◌, inl, inr, arith}
use Rattle.std.proofs.lemmas.List.{get_or_default}
use Rattle.std.proofs.lemmas.Result.{IfOk-from_err}
use Rattle.desk_core.specs.Stands.{last_of}
use Rattle.esdk_batch.specs.FileEndLaws.{from_later}
use Rattle.esdk_batch.specs.Progress.{is_ended}
use Rattle.esdk_batch.specs.Rounds.{all_waits}
use Rattle.esdk_batch.specs.ShelfCalls.{IsOfJob}
use Rattle.esdk_batch.proofs.AllCounting.{counted_after, has_file_at}
use Rattle.esdk_batch.proofs.Keeping.{beyond_set, keeps_same, keeps_turn}
use Rattle.esdk_batch.proofs.Moments.{reads_none, reads_turn}
use Rattle.esdk_batch.proofs.ShelfCalls.{jobs_after, jobs_broken, on_err}
use Rattle.esdk_batch.proofs.Standing.{others_after}
use Rattle.esdk_batch.proofs.Windows.{round_begun, round_skips, round_starts, round_turns}
use Rattle.esdk_batch.proofs.rounds.run_round.Goals as goal

pub loop-at-init : goal.loop-at-init
loop-at-init g c = record {
  on = round_starts _ c.args.jobs.now c.args.width c.args.first c.args.desk.now c.args.progress.now _ _ c.requires.each c.requires.first c.requires.ready c.requires.opened c.requires.still;
  counts = λ began all. all;
  calls = λ began all. all;
  moments = reads_none _ _ _ _ refl refl;
  sessions = λ last under beyond. (keeps_same last (all_waits c.args.progress.now) c.args.desk.now, beyond);
}

pub loop-at-preserved-then-is_ended : goal.loop-at-preserved-then-is_ended
loop-at-preserved-then-is_ended g c = record {
  on = round_skips _ c.args.jobs.now c.args.width c.args.first c.args.desk.now c.loop-at.desk c.args.progress.now c.loop-at.progress _ _ _ _ c.loop-at.at c.loop-at.turns
      c.loop-at.invariant.on (omega (arith, c.loop-at-test.true)) c.requires.first c.index-progress-at.result c.index-progress-at.is (ap is_ended c.index-progress-at.is ∙ sym c.is_ended.ensures ∙ c.if-is_ended.true);
  counts = c.loop-at.invariant.counts;
  calls = c.loop-at.invariant.calls;
  moments = c.loop-at.invariant.moments;
  sessions = c.loop-at.invariant.sessions;
}

pub loop-at-preserved : goal.loop-at-preserved
loop-at-preserved g c =
    let turn = c.in_ok-take_turn.ensures in
    let progress = c.loop-at.progress in
    let at = c.loop-at.at in
    let one = get_or progress at c.index-progress-at-in-loop-at.result in
    let within : at < length progress = omega (arith, c.loop-at-test.true, c.loop-at.invariant.on.each) in
    let runs = ap is_ended (get_or_default progress at c.index-progress-at-in-loop-at.result c.index-progress-at.result within) ∙ sym c.is_ended.ensures ∙ c.if-is_ended.false in
    let was = get_or_default progress at c.index-progress-at-in-loop-at.result one within in
    let each = c.loop-at.invariant.on.each in
    record {
      on = round_turns _ c.args.jobs.now c.args.width c.args.first c.args.desk.now c.loop-at.desk c.args.progress.now progress _ _ _ _ at c.loop-at.turns
          c.loop-at.invariant.on (omega (arith, c.loop-at-test.true)) c.requires.first one was
          c.index-jobs-at.result c.take_turn.new.progress c.take_turn.new.desk _ _ c.index-jobs-at.is c.requires.apart runs
          (omega (arith, c.if-turns-width.false, c.loop-at.invariant.on.few))
          (record { turn = turn.turn; numbers = turn.numbers; bytes = turn.draws; lines = turn.lines; kind = turn.kind; falls = turn.falls; went = turn.went; kept = turn.kept; known = λ by from. from_later (IsOfJob c.index-jobs-at.result) by _ _ (turn.calls runs).has from });
      counts = λ began first.
          let all = c.loop-at.invariant.counts began first in
          let has = has_file_at c.args.jobs.now progress at c.index-jobs-at.result one began _ within each c.index-jobs-at.is was all in
          counted_after c.args.jobs.now progress at c.index-jobs-at.result one c.take_turn.new.progress began _ _ within each c.index-jobs-at.is was runs c.requires.apart
          turn.kept (turn.counts runs has) all;
      calls = λ began first.
          jobs_after c.args.jobs.now progress at c.index-jobs-at.result one c.take_turn.new.progress began _ _ within each c.index-jobs-at.is was runs c.requires.apart
          (turn.calls runs) (c.loop-at.invariant.calls began first);
      moments = reads_turn _ _ _ _ _ _ c.loop-at.invariant.moments (turn.moment runs);
      sessions = λ last under beyond.
          let all = c.loop-at.invariant.sessions last under beyond in
          let early : last ≤ last_of c.loop-at.desk = omega (arith, under, all.0.later) in (
            keeps_turn last c.args.desk.now c.loop-at.desk c.take_turn.new.desk c.args.progress.now progress at one within was c.loop-at.invariant.on.room all.0
                (turn.sessions last early (all.1 at c.index-progress-at-in-loop-at.result within)),
            beyond_set last _ _ progress at one c.take_turn.new.progress within was early turn.numbers all.1,
          );
    }

pub returns-then-turns-width-clause-opened : goal.returns-then-turns-width-clause-opened
returns-then-turns-width-clause-opened g c =
    round_begun c.args.width c.args.first c.loop-at.at c.loop-at.turns c.loop-at.progress c.loop-at.invariant.on.begun (inl (omega (arith, c.if-turns-width.true, c.loop-at.invariant.on.slow)))

pub returns-clause-opened : goal.returns-clause-opened
returns-clause-opened g c =
    round_begun c.args.width c.args.first c.loop-at.at c.loop-at.turns c.loop-at.progress c.loop-at.invariant.on.begun (inr (omega (arith, c.loop-at-test.false, c.loop-at.invariant.on.each)))

pub returns-in_err-take_turn-clause-others : goal.returns-in_err-take_turn-clause-others
returns-in_err-take_turn-clause-others g c =
    others_after c.args.jobs.now c.loop-at.at c.index-jobs-at.result _ _ _ (omega (arith, c.loop-at-test.true, c.loop-at.invariant.on.each)) c.index-jobs-at.is
    c.in_err-take_turn.ensures.kept c.loop-at.invariant.on.others

pub returns-in_err-take_turn-clause-moments : goal.returns-in_err-take_turn-clause-moments
returns-in_err-take_turn-clause-moments g c =
    let progress = c.loop-at.progress in
    let within : c.loop-at.at < length progress = omega (arith, c.loop-at-test.true, c.loop-at.invariant.on.each) in
    let runs = ap is_ended (get_or_default progress c.loop-at.at c.index-progress-at-in-loop-at.result c.index-progress-at.result within) ∙ sym c.is_ended.ensures ∙ c.if-is_ended.false in
    reads_turn _ _ _ _ _ _ c.loop-at.invariant.moments (c.in_err-take_turn.ensures.moment runs)

-- ---- the calls of the shelf

pub returns-then-turns-width-clause-known : goal.returns-then-turns-width-clause-known
returns-then-turns-width-clause-known g c = c.loop-at.invariant.on.known

pub returns-clause-known : goal.returns-clause-known
returns-clause-known g c = c.loop-at.invariant.on.known

pub returns-then-turns-width-clause-calls : goal.returns-then-turns-width-clause-calls
returns-then-turns-width-clause-calls g c = c.loop-at.invariant.calls

pub returns-clause-calls : goal.returns-clause-calls
returns-clause-calls g c = c.loop-at.invariant.calls

pub returns-in_err-take_turn-clause-broken : goal.returns-in_err-take_turn-clause-broken
returns-in_err-take_turn-clause-broken g c = λ began first.
    let progress = c.loop-at.progress in
    let at = c.loop-at.at in
    let one = get_or progress at c.index-progress-at-in-loop-at.result in
    let within : at < length progress = omega (arith, c.loop-at-test.true, c.loop-at.invariant.on.each) in
    let runs = ap is_ended (get_or_default progress at c.index-progress-at-in-loop-at.result c.index-progress-at.result within) ∙ sym c.is_ended.ensures ∙ c.if-is_ended.false in
    let was = get_or_default progress at c.index-progress-at-in-loop-at.result one within in
    let each = c.loop-at.invariant.on.each in
    let job = c.index-jobs-at.result in
    on_err _ (jobs_broken c.args.jobs.now progress at job one began _ _ within each c.index-jobs-at.is was runs c.requires.apart
    (c.in_err-take_turn.ensures.broken runs) (c.loop-at.invariant.calls began first))

-- ---- the other sessions

pub returns-then-turns-width-clause-sessions : goal.returns-then-turns-width-clause-sessions
returns-then-turns-width-clause-sessions g c = λ last under beyond. (c.loop-at.invariant.sessions last under beyond).0

pub returns-then-turns-width-clause-beyond : goal.returns-then-turns-width-clause-beyond
returns-then-turns-width-clause-beyond g c = λ last under beyond. (c.loop-at.invariant.sessions last under beyond).1

pub returns-clause-sessions : goal.returns-clause-sessions
returns-clause-sessions g c = λ last under beyond. (c.loop-at.invariant.sessions last under beyond).0

pub returns-clause-beyond : goal.returns-clause-beyond
returns-clause-beyond g c = λ last under beyond. (c.loop-at.invariant.sessions last under beyond).1

pub returns-in_err-take_turn-clause-sessions : goal.returns-in_err-take_turn-clause-sessions
returns-in_err-take_turn-clause-sessions g c = λ last under beyond.
    let progress = c.loop-at.progress in
    let at = c.loop-at.at in
    let one = get_or progress at c.index-progress-at-in-loop-at.result in
    let within : at < length progress = omega (arith, c.loop-at-test.true, c.loop-at.invariant.on.each) in
    let was = get_or_default progress at c.index-progress-at-in-loop-at.result one within in
    let all = c.loop-at.invariant.sessions last under beyond in
    keeps_turn last c.args.desk.now c.loop-at.desk c.take_turn.new.desk c.args.progress.now progress at one within was c.loop-at.invariant.on.room all.0
    (c.in_err-take_turn.ensures.sessions last (omega (arith, under, all.0.later)) (all.1 at c.index-progress-at-in-loop-at.result within))

-- ---- memory ran out

pub returns-in_err-take_turn-clause-stand : goal.returns-in_err-take_turn-clause-stand
returns-in_err-take_turn-clause-stand g c = λ by start last began v from admits stands stand. IfOk-from_err c.from_residual.result _ c.from_residual.ensures.0

pub returns-in_err-take_turn-clause-beyond : goal.returns-in_err-take_turn-clause-beyond
returns-in_err-take_turn-clause-beyond g c = λ last under beyond. IfOk-from_err c.from_residual.result _ c.from_residual.ensures.0

pub returns-in_err-take_turn-clause-calls : goal.returns-in_err-take_turn-clause-calls
returns-in_err-take_turn-clause-calls g c = λ began all. IfOk-from_err c.from_residual.result _ c.from_residual.ensures.0

pub returns-in_err-take_turn-clause-counts : goal.returns-in_err-take_turn-clause-counts
returns-in_err-take_turn-clause-counts g c = λ began all. IfOk-from_err c.from_residual.result _ c.from_residual.ensures.0

pub returns-in_err-take_turn-clause-past : goal.returns-in_err-take_turn-clause-past
returns-in_err-take_turn-clause-past g c = IfOk-from_err c.from_residual.result _ c.from_residual.ensures.0

pub returns-in_err-take_turn-clause-ready : goal.returns-in_err-take_turn-clause-ready
returns-in_err-take_turn-clause-ready g c = IfOk-from_err c.from_residual.result _ c.from_residual.ensures.0

pub returns-in_err-take_turn-clause-known : goal.returns-in_err-take_turn-clause-known
returns-in_err-take_turn-clause-known g c = IfOk-from_err c.from_residual.result _ c.from_residual.ensures.0

pub returns-in_err-take_turn-clause-opened : goal.returns-in_err-take_turn-clause-opened
returns-in_err-take_turn-clause-opened g c = IfOk-from_err c.from_residual.result _ c.from_residual.ensures.0

pub returns-in_err-take_turn-clause-room : goal.returns-in_err-take_turn-clause-room
returns-in_err-take_turn-clause-room g c = IfOk-from_err c.from_residual.result _ c.from_residual.ensures.0

pub returns-in_err-take_turn-clause-falls : goal.returns-in_err-take_turn-clause-falls
returns-in_err-take_turn-clause-falls g c = IfOk-from_err c.from_residual.result _ c.from_residual.ensures.0

-- ---- it didn't

pub returns-then-turns-width-clause-broken : goal.returns-then-turns-width-clause-broken
returns-then-turns-width-clause-broken g c = λ began all. tt

pub returns-clause-broken : goal.returns-clause-broken
returns-clause-broken g c = λ began all. tt
