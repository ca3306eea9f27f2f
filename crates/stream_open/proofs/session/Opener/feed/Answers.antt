use Rattle.std.proofs.Common.{◌≡◌, ℕ, List, [], Ok, take, sym, subst, ◌∙◌, arith}
use Rattle.std.proofs.lemmas.List.{take_all}
use Rattle.keyring_trait.proofs.Going.{went_on}
use Rattle.stream_open.specs.Receiving.{FedWhole}
use Rattle.stream_open.specs.Session.{opening_stepped}
use Rattle.stream_open.proofs.GoingOn.{stands_goes}
use Rattle.stream_open.proofs.PieceEnds.{left_behind, left_few, ends_at, left_some, stays_stopped, step_fed, until_on, used_behind, whole_none, whole_on}
use Rattle.stream_open.proofs.session.Opener.feed.Goals as goal

pub returns-then-is_stopped-clause-fed : goal.returns-then-is_stopped-clause-fed
returns-then-is_stopped-clause-fed g c = λ v stands.
    stays_stopped c.args.self.now c.give_nothing.new.self v c.args.manager.now c.args.output.now stands (sym c.is_stopped.ensures ∙ c.if-is_stopped.true) c.give_nothing.ensures.settings c.give_nothing.ensures.given
    c.give_nothing.ensures.reader c.give_nothing.ensures.served c.give_nothing.ensures.stopped c.give_nothing.ensures.unlocked

pub returns-then-is_stopped-clause-session : goal.returns-then-is_stopped-clause-session
returns-then-is_stopped-clause-session g c =
    let v = c.requires.session.session in
    let off = stays_stopped c.args.self.now c.give_nothing.new.self v c.args.manager.now c.args.output.now c.requires.session.stands (sym c.is_stopped.ensures ∙ c.if-is_stopped.true) c.give_nothing.ensures.settings
    c.give_nothing.ensures.given c.give_nothing.ensures.reader c.give_nothing.ensures.served c.give_nothing.ensures.stopped c.give_nothing.ensures.unlocked in
    record { session = record v { out = [] }; stands = off.stands }

pub loop-fed-init : goal.loop-fed-init
loop-fed-init g c = record {
  within = omega arith;
  went = c.wraps-wraps.ensures.stays;
  whole = λ v stands.
      whole_none g.M.Manager.state g.R.Receiver.takes c.args.now v c.args.manager.now c.args.output.now c.args.self.now
      (stands_goes c.args.self.now v stands (sym stands.stopped ∙ sym c.is_stopped.ensures ∙ c.if-is_stopped.false)) stands g.met.R.Receiver.takes_none;
}

pub overflow_add-fed : goal.overflow_add-fed
overflow_add-fed g c =
    let piece : List ℕ = c.args.piece.now in
    let fed : ℕ = c.loop-fed.fed in
    let w = c.loop-fed.invariant.whole c.requires.session.session c.requires.session.stands in
    let is = step_fed g.M.Manager.state c.args.now c.requires.session.session (take fed piece) w.given c.args.manager.now c.loop-fed.manager c.step.new.manager c.loop-fed.self c.step.new.self _ w.fed c.in-Ok.used
    (c.in-Ok.ensures.steps w.fed.session w.fed.stands) (left_some piece fed (omega arith)) in
    omega (arith, left_few piece fed c.in-Ok.used c.loop-fed.invariant.within is.within)

pub loop-fed-smaller : goal.loop-fed-smaller
loop-fed-smaller g c =
    let piece : List ℕ = c.args.piece.now in
    let fed : ℕ = c.loop-fed.fed in
    let w = c.loop-fed.invariant.whole c.requires.session.session c.requires.session.stands in
    let is = step_fed g.M.Manager.state c.args.now c.requires.session.session (take fed piece) w.given c.args.manager.now c.loop-fed.manager c.step.new.manager c.loop-fed.self c.step.new.self _ w.fed c.in-Ok.used
    (c.in-Ok.ensures.steps w.fed.session w.fed.stands) (left_some piece fed (omega arith)) in
    omega (arith, is.some)

pub loop-fed-preserved : goal.loop-fed-preserved
loop-fed-preserved g c =
    let piece : List ℕ = c.args.piece.now in
    let fed : ℕ = c.loop-fed.fed in
    let within = c.loop-fed.invariant.within in
    let w = c.loop-fed.invariant.whole c.requires.session.session c.requires.session.stands in
    let is = step_fed g.M.Manager.state c.args.now c.requires.session.session (take fed piece) w.given c.args.manager.now c.loop-fed.manager c.step.new.manager c.loop-fed.self c.step.new.self _ w.fed c.in-Ok.used
    (c.in-Ok.ensures.steps w.fed.session w.fed.stands) (left_some piece fed (omega arith)) in
    record {
      within = left_few piece fed c.in-Ok.used within is.within;
      went = went_on _ _ _ c.loop-fed.invariant.went c.step.ensures.went;
      whole = λ v stands.
          (let u = c.loop-fed.invariant.whole v stands in
          let s = c.in-Ok.ensures.steps u.fed.session u.fed.stands in
          whole_on g.M.Manager.state g.R.Receiver.takes g.R.Receiver.fails c.args.now v piece fed c.args.manager.now c.loop-fed.manager c.step.new.manager c.args.output.now c.loop-fed.output c.hand_out.new.output
          c.loop-fed.self c.step.new.self _ within (left_behind piece fed) u c.in-Ok.used s (c.step.ensures.unasked u.fed.session u.fed.stands) (left_some piece fed (omega arith)) c.out.result.now
          (c.out.ensures (opening_stepped u.fed.session _ s.heard (Ok c.in-Ok.used)) s.stands) (used_behind piece fed c.in-Ok.used) (rw c.in_default.is at c.hand_out.ensures)
          (λ r s t xs ys one two. g.met.R.Receiver.takes_more r s t xs ys one two));
    }

pub returns-in-Err-clause-fed : goal.returns-in-Err-clause-fed
returns-in-Err-clause-fed g c = λ v stands.
    let piece : List ℕ = c.args.piece.now in
    let fed : ℕ = c.loop-fed.fed in
    let u = c.loop-fed.invariant.whole v stands in
    ends_at g.M.Manager.state g.R.Receiver.takes g.R.Receiver.fails c.args.now v piece fed c.args.manager.now c.loop-fed.manager c.step.new.manager c.args.output.now c.loop-fed.output c.loop-fed.output
    c.loop-fed.self c.step.new.self _ c.loop-fed.invariant.within (left_behind piece fed) u c.in-Err.error (c.in-Err.ensures.steps u.fed.session u.fed.stands) (c.step.ensures.unasked u.fed.session u.fed.stands)

pub returns-in-Err-clause-session : goal.returns-in-Err-clause-session
returns-in-Err-clause-session g c =
    let w = c.loop-fed.invariant.whole c.requires.session.session c.requires.session.stands in
    let s = c.in-Err.ensures.steps w.fed.session w.fed.stands in
    record { session = _; stands = s.stands }

pub returns-in-Err-hand_out-clause-fed : goal.returns-in-Err-hand_out-clause-fed
returns-in-Err-hand_out-clause-fed g c = λ v stands.
    let piece : List ℕ = c.args.piece.now in
    let fed : ℕ = c.loop-fed.fed in
    let within = c.loop-fed.invariant.within in
    let u = c.loop-fed.invariant.whole v stands in
    let s = c.in-Ok.ensures.steps u.fed.session u.fed.stands in
    let is = step_fed g.M.Manager.state c.args.now v (take fed piece) u.given c.args.manager.now c.loop-fed.manager c.step.new.manager c.loop-fed.self c.step.new.self _ u.fed c.in-Ok.used s (left_some piece fed (omega arith)) in
    until_on g.M.Manager.state g.R.Receiver.takes g.R.Receiver.fails c.args.now v piece fed c.args.manager.now c.loop-fed.manager c.step.new.manager c.args.output.now c.loop-fed.output c.hand_out.new.output
    c.loop-fed.self c.step.new.self _ within (left_behind piece fed) u c.in-Ok.used s (c.step.ensures.unasked u.fed.session u.fed.stands) (left_some piece fed (omega arith)) c.out.result.now _
    (c.out.ensures (opening_stepped u.fed.session _ s.heard (Ok c.in-Ok.used)) s.stands) (used_behind piece fed c.in-Ok.used) (left_few piece fed c.in-Ok.used within is.within) (rw c.in-Err-hand_out.is at c.hand_out.ensures)
    (λ r s t xs ys error one two. g.met.R.Receiver.fails_behind r s t xs ys error one two)

pub returns-in-Err-hand_out-clause-session : goal.returns-in-Err-hand_out-clause-session
returns-in-Err-hand_out-clause-session g c =
    let w = c.loop-fed.invariant.whole c.requires.session.session c.requires.session.stands in
    let s = c.in-Ok.ensures.steps w.fed.session w.fed.stands in
    record { session = _; stands = s.stands }

pub returns-clause-fed : goal.returns-clause-fed
returns-clause-fed g c = λ v stands.
    let all : take c.loop-fed.fed c.args.piece.now ≡ c.args.piece.now = take_all c.loop-fed.fed c.args.piece.now (omega arith) in
    subst (λ (b : List ℕ). FedWhole g.M.Manager.state g.R.Receiver.takes c.args.now v b c.args.manager.now c.loop-fed.manager c.args.output.now c.loop-fed.output c.loop-fed.self) all (c.loop-fed.invariant.whole v stands)

pub returns-clause-session : goal.returns-clause-session
returns-clause-session g c =
    let w = c.loop-fed.invariant.whole c.requires.session.session c.requires.session.stands in
    record { session = w.fed.session; stands = w.fed.stands }
