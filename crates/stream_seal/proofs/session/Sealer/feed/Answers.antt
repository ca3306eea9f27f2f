use Rattle.std.proofs.Common.{[], refl}
use Rattle.std.proofs.lemmas.Result.{err_from_is_err_and}
use Rattle.stream_seal.proofs.FedReceivers.{feeding_ends, feeding_more, feeding_none, fails_on, none_left, receiver_fails, refuses_on, some_left, some_of_none, step_fails}
use Rattle.stream_seal.proofs.FedSealers.{going_begins, going_ends, going_fails, going_more}
use Rattle.stream_seal.proofs.session.Sealer.feed.Goals as goal

pub loop-left-init : goal.loop-left-init
loop-left-init g c = record {
  feeds = λ v stands is.
      feeding_none g.R.Receiver.takes g.R.Receiver.fails g.met.R.Receiver.takes_none v
      c.args.piece.now c.args.output.now c.args.self.now stands is;
  still = λ v stands on. going_begins v c.args.piece.now c.args.self.now stands on;
  handed = λ v stands on. ([], g.met.R.Receiver.takes_none c.args.output.now);
  empty = λ none. (none, refl, refl);
}

pub returns-in-Err-clause-feeds : goal.returns-in-Err-clause-feeds
returns-in-Err-clause-feeds g c = λ v stands is.
    step_fails g.R.Receiver.takes g.R.Receiver.fails v c.args.piece.now _ _ c.loop-left.self c.step.new.self c.loop-left.left.now c.step.result
    (c.loop-left.invariant.feeds v stands is)
    (some_left c.loop-left.left.now c.is_empty.result c.is_empty.ensures c.loop-left-test.true)
    (record { answers = c.step.ensures.answer; stands = c.step.ensures.stands }) c.in-Err.error c.in-Err.is

pub returns-in_err-hand_out-clause-feeds : goal.returns-in_err-hand_out-clause-feeds
returns-in_err-hand_out-clause-feeds g c = λ v stands is.
    let p = err_from_is_err_and c.from_residual.result c.from_residual.ensures.1 in
    rw (p.1, p.2) (
    receiver_fails g.R.Receiver.takes g.R.Receiver.fails v c.args.piece.now _ _ c.loop-left.self c.step.new.self c.loop-left.left.now c.step.result
    (c.loop-left.invariant.feeds v stands is)
    (some_left c.loop-left.left.now c.is_empty.result c.is_empty.ensures c.loop-left-test.true)
    (record { answers = c.step.ensures.answer; stands = c.step.ensures.stands }) g.met.R.Receiver.fails_behind
    _ c.in-Ok.used c.in_err-hand_out.field-0.0 c.in-Ok.is c.in_err-hand_out.ensures
    )

pub loop-left-preserved : goal.loop-left-preserved
loop-left-preserved g c = record {
  feeds = λ v stands is.
      rw c.split_at.ensures.back (
      feeding_more g.R.Receiver.takes g.R.Receiver.fails v c.args.piece.now _ _ c.loop-left.self c.step.new.self c.loop-left.left.now c.step.result
      (c.loop-left.invariant.feeds v stands is)
      (some_left c.loop-left.left.now c.is_empty.result c.is_empty.ensures c.loop-left-test.true)
      (record { answers = c.step.ensures.answer; stands = c.step.ensures.stands }) g.met.R.Receiver.takes_more
      _ c.in-Ok.used c.in-Ok.is c.in_ok-hand_out.ensures
      );
  still = λ v stands on.
      rw c.split_at.ensures.back (
      going_more v c.args.piece.now c.loop-left.self c.step.new.self c.loop-left.left.now c.step.result c.in-Ok.used
      (c.loop-left.invariant.still v stands on)
      (some_left c.loop-left.left.now c.is_empty.result c.is_empty.ensures c.loop-left-test.true)
      (record { answers = c.step.ensures.answer; stands = c.step.ensures.stands }) c.in-Ok.is
      );
  handed = λ v stands on.
      (let before = c.loop-left.invariant.still v stands on in
      let took = c.loop-left.invariant.handed v stands on in
      let after = c.step.ensures.stands before.session before.stands in
      (_, g.met.R.Receiver.takes_more _ _ _ took.0 _ took.1 (c.in_ok-hand_out.ensures _ after).0));
  empty = λ none.
      some_of_none c.loop-left.left.now c.is_empty.result c.is_empty.ensures c.loop-left-test.true (c.loop-left.invariant.empty none).0;
}

pub returns-clause-empty : goal.returns-clause-empty
returns-clause-empty g c = λ none on.
    let same = c.loop-left.invariant.empty none in (refl, same.1, same.2)

pub returns-in-Err-clause-empty : goal.returns-in-Err-clause-empty
returns-in-Err-clause-empty g c = λ none on.
    some_of_none c.loop-left.left.now c.is_empty.result c.is_empty.ensures c.loop-left-test.true (c.loop-left.invariant.empty none).0

pub returns-in_err-hand_out-clause-empty : goal.returns-in_err-hand_out-clause-empty
returns-in_err-hand_out-clause-empty g c = λ none on.
    some_of_none c.loop-left.left.now c.is_empty.result c.is_empty.ensures c.loop-left-test.true (c.loop-left.invariant.empty none).0

pub returns-clause-feeds : goal.returns-clause-feeds
returns-clause-feeds g c = λ v stands is.
    feeding_ends g.R.Receiver.takes g.R.Receiver.fails v c.args.piece.now _ _ c.loop-left.self
    (rw (none_left c.loop-left.left.now c.is_empty.result c.is_empty.ensures c.loop-left-test.false) at c.loop-left.invariant.feeds v stands is)

pub returns-clause-on : goal.returns-clause-on
returns-clause-on g c = λ v stands on.
    let took = c.loop-left.invariant.handed v stands on in (
      took.0,
      took.1,
      going_ends v c.args.piece.now c.loop-left.self
          (rw (none_left c.loop-left.left.now c.is_empty.result c.is_empty.ensures c.loop-left-test.false) at c.loop-left.invariant.still v stands on),
    )

pub returns-in-Err-clause-on : goal.returns-in-Err-clause-on
returns-in-Err-clause-on g c = λ v stands on.
    let took = c.loop-left.invariant.handed v stands on in
    refuses_on g.R.Receiver.takes g.R.Receiver.fails v c.args.piece.now _ _ c.step.new.self took.0 c.in-Err.error took.1
    (going_fails v c.args.piece.now c.loop-left.self c.step.new.self c.loop-left.left.now c.step.result c.in-Err.error (c.loop-left.invariant.still v stands on)
    (record { answers = c.step.ensures.answer; stands = c.step.ensures.stands }) c.in-Err.is)
    c.in-Err.ensures.no_memory

pub returns-in_err-hand_out-clause-on : goal.returns-in_err-hand_out-clause-on
returns-in_err-hand_out-clause-on g c = λ v stands on.
    let before = c.loop-left.invariant.still v stands on in
    let took = c.loop-left.invariant.handed v stands on in
    let p = err_from_is_err_and c.from_residual.result c.from_residual.ensures.1 in
    rw (p.1, p.2) (
    fails_on g.R.Receiver.takes g.R.Receiver.fails v c.args.piece.now _ _ _ c.step.new.self took.0 _ c.in_err-hand_out.field-0.0 g.met.R.Receiver.fails_behind took.1
    (c.in_err-hand_out.ensures _ (c.step.ensures.stands before.session before.stands))
    )
