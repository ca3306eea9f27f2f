-- One round more.
use Rattle.std.proofs.Common.{◌≡◌, ◌≤◌, true, refl, arith}
use Rattle.std.proofs.lemmas.List.Elements.{All-nil}
use Rattle.std.proofs.lemmas.Result.{IfOk-from_err}
use Rattle.desk_core.specs.Stands.{last_of}
use Rattle.esdk_batch.specs.Progress.{is_ended}
use Rattle.esdk_batch.specs.Rounds.{all_waits}
use Rattle.esdk_batch.proofs.Keeping.{keeps_on, keeps_same}
use Rattle.esdk_batch.proofs.Moments.{reads_more, reads_none}
use Rattle.esdk_batch.proofs.ShelfCalls.{on_err}
use Rattle.esdk_batch.proofs.Windows.{rounds_more, rounds_start}
use Rattle.esdk_batch.proofs.rounds.run_rounds.Goals as goal

pub run_round-requires-clause-opened : goal.run_round-requires-clause-opened
run_round-requires-clause-opened g c = c.loop-first.invariant.on.opened

pub loop-first-init : goal.loop-first-init
loop-first-init g c = record {
  on = rounds_start _ c.args.jobs.now c.args.width c.args.desk.now c.args.progress.now _ _ c.requires.each c.requires.ready c.requires.opened c.requires.still;
  counts = λ began all. all;
  calls = λ began all. all;
  moments = reads_none _ _ _ _ refl refl;
  sessions = λ last under beyond. (keeps_same last (all_waits c.args.progress.now) c.args.desk.now, beyond);
  past = All-nil (λ one. is_ended one ≡ true);
}

pub loop-first-preserved : goal.loop-first-preserved
loop-first-preserved g c =
    let round = c.in_ok-run_round.ensures in
    record {
      on = rounds_more _ c.args.jobs.now c.args.width c.args.desk.now c.loop-first.desk c.run_round.new.desk c.args.progress.now c.loop-first.progress c.run_round.new.progress _ _ _ _ _ _
          c.loop-first.invariant.on (omega (arith, c.run_round.auto.progress, c.loop-first.invariant.on.each)) round.room round.ready round.opened round.went round.others round.told round.known round.stand;
      counts = λ began first. round.counts began (c.loop-first.invariant.counts began first);
      calls = λ began first. round.calls began (c.loop-first.invariant.calls began first);
      moments = reads_more _ _ _ _ _ _ c.loop-first.invariant.moments round.moments;
      past = round.past;
      sessions = λ last under beyond.
          let all = c.loop-first.invariant.sessions last under beyond in
          let early : last ≤ last_of c.loop-first.desk = omega (arith, under, all.0.later) in (
            keeps_on last (all_waits c.args.progress.now) (all_waits c.loop-first.progress) (all_waits c.args.progress.now) c.args.desk.now c.loop-first.desk c.run_round.new.desk all.0
                (round.sessions last early all.1) c.loop-first.invariant.on.room,
            round.beyond last early all.1,
          );
    }

pub returns-clause-calls : goal.returns-clause-calls
returns-clause-calls g c = c.loop-first.invariant.calls

pub returns-in_err-run_round-clause-broken : goal.returns-in_err-run_round-clause-broken
returns-in_err-run_round-clause-broken g c = λ began first. on_err _ (c.in_err-run_round.ensures.broken began (c.loop-first.invariant.calls began first))

pub returns-in_err-run_round-clause-moments : goal.returns-in_err-run_round-clause-moments
returns-in_err-run_round-clause-moments g c = reads_more _ _ _ _ _ _ c.loop-first.invariant.moments c.in_err-run_round.ensures.moments

pub returns-in_err-run_round-clause-sessions : goal.returns-in_err-run_round-clause-sessions
returns-in_err-run_round-clause-sessions g c = λ last under beyond.
    let all = c.loop-first.invariant.sessions last under beyond in
    keeps_on last (all_waits c.args.progress.now) (all_waits c.loop-first.progress) (all_waits c.args.progress.now) c.args.desk.now c.loop-first.desk c.run_round.new.desk all.0
    (c.in_err-run_round.ensures.sessions last (omega (arith, under, all.0.later)) all.1) c.loop-first.invariant.on.room

pub returns-clause-sessions : goal.returns-clause-sessions
returns-clause-sessions g c = λ last under beyond. (c.loop-first.invariant.sessions last under beyond).0

-- ---- memory ran out

pub returns-in_err-run_round-clause-ended : goal.returns-in_err-run_round-clause-ended
returns-in_err-run_round-clause-ended g c = IfOk-from_err c.from_residual.result _ c.from_residual.ensures.0

pub returns-in_err-run_round-clause-stand : goal.returns-in_err-run_round-clause-stand
returns-in_err-run_round-clause-stand g c = λ by start last began v from admits stands stand. IfOk-from_err c.from_residual.result _ c.from_residual.ensures.0

pub returns-in_err-run_round-clause-calls : goal.returns-in_err-run_round-clause-calls
returns-in_err-run_round-clause-calls g c = λ began all. IfOk-from_err c.from_residual.result _ c.from_residual.ensures.0

pub returns-in_err-run_round-clause-counts : goal.returns-in_err-run_round-clause-counts
returns-in_err-run_round-clause-counts g c = λ began all. IfOk-from_err c.from_residual.result _ c.from_residual.ensures.0
