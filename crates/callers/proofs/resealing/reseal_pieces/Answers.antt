use Rattle.std.proofs.Common.{◌≡◌, ◌∙◌, ◌+◌, ◌*◌, ℕ, drop, map, take, inl, refl, sym, ap}
use Rattle.std.specs.List.{concat}
use Rattle.std.proofs.lemmas.List.{take_all}
use Rattle.esdk_base.specs.ReceiverLaws.{takes_none}
use Rattle.esdk_decrypt.proofs.Concluding.{passed_on}
use Rattle.reseal_core.specs.Session.{gone_on, new_resealing_session}
use Rattle.reseal_core.proofs.Feeding.{reached_none}
use Rattle.callers.proofs.ResealedPieces.{ends_not, ends_whole, pieces_all, pieces_on}
use Rattle.callers.proofs.resealing.reseal_pieces.Goals as goal

pub returns-in_default-clause-cause : goal.returns-in_default-clause-cause
returns-in_default-clause-cause g c = inl (takes_none (g.O.Sink.state c.args.output.now))

pub loop-piece-init : goal.loop-piece-init
loop-piece-init g c = record {
  wraps = refl;
  reached = reached_none g.A.Manager.state g.B.Manager.state c.args.options.now c.args.options.settings c.args.given c.args.options.frame_length c.args.random.now c.args.opening.now c.args.sealing.now (g.O.Sink.state c.args.output.now)
      c.in-Ok.resealer c.in-Ok.ensures;
}

pub take_piece-requires : goal.take_piece-requires
take_piece-requires g c = record {
  settings = c.args.options.settings;
  given = c.args.given;
  size = c.args.options.frame_length;
  random = c.args.random.now;
  bytes = concat (map (λ piece. piece.now) (take c.loop-piece.piece-index c.args.pieces.now));
  first = c.args.opening.now;
  begun = c.args.sealing.now;
  before = g.O.Sink.state c.args.output.now;
  reached = c.loop-piece.invariant.reached;
  count = c.requires.random ∙ ap (λ (n : ℕ). 64 + 12 * n) (sym c.loop-piece.invariant.wraps);
}

pub returns-in_err-take_piece-clause-cause : goal.returns-in_err-take_piece-clause-cause
returns-in_err-take_piece-clause-cause g c =
    passed_on _ c.from_residual.result c.in_err-take_piece.field-0.0 c.from_residual.ensures.1
    (rw (pieces_all c.args.pieces.now c.loop-piece.piece-index c.loop-piece-test.true) at
    (c.in_err-take_piece.ensures.cause c.args.options.settings c.args.given c.args.options.frame_length c.args.random.now (concat (map (λ piece. piece.now) (take c.loop-piece.piece-index c.args.pieces.now))) c.args.opening.now c.args.sealing.now
    (g.O.Sink.state c.args.output.now) c.loop-piece.invariant.reached (concat (map (λ piece. piece.now) (drop (c.loop-piece.piece-index + 1) c.args.pieces.now)))))

pub loop-piece-preserved : goal.loop-piece-preserved
loop-piece-preserved g c = record {
  wraps = c.take_piece.ensures.wraps ∙ c.loop-piece.invariant.wraps;
  reached = rw (pieces_on c.args.pieces.now c.loop-piece.piece-index c.loop-piece-test.true) at
      (c.in_ok-take_piece.ensures.taken c.args.options.settings c.args.given c.args.options.frame_length c.args.random.now (concat (map (λ piece. piece.now) (take c.loop-piece.piece-index c.args.pieces.now))) c.args.opening.now c.args.sealing.now
      (g.O.Sink.state c.args.output.now) c.loop-piece.invariant.reached);
}

pub returns-clause-whole : goal.returns-clause-whole
returns-clause-whole g c =
    let r = rw (take_all c.loop-piece.piece-index c.args.pieces.now c.loop-piece-test.false) at c.loop-piece.invariant.reached in
    ends_whole g.A.Manager.state g.B.Manager.state c.args.options.now c.args.options.settings c.args.given c.args.options.frame_length c.args.random.now (concat (map (λ piece. piece.now) c.args.pieces.now)) c.args.opening.now c.loop-piece.opening c.args.sealing.now
    c.loop-piece.sealing (g.O.Sink.state c.args.output.now) (g.O.Sink.state c.loop-piece.output) c.loop-piece.resealer r (g.O.Sink.state c.finished.new.output) (c.finished.new.output ≡ c.loop-piece.output) c.finished.result
    (c.finished.ensures (gone_on (new_resealing_session c.args.options.settings c.args.given c.args.options.frame_length c.args.random.now) r.fed.session r.materials) r.stands refl)

pub returns-clause-cause : goal.returns-clause-cause
returns-clause-cause g c =
    let r = rw (take_all c.loop-piece.piece-index c.args.pieces.now c.loop-piece-test.false) at c.loop-piece.invariant.reached in
    ends_not g.A.Manager.state g.B.Manager.state c.args.options.now c.args.options.settings c.args.given c.args.options.frame_length c.args.random.now (concat (map (λ piece. piece.now) c.args.pieces.now)) c.args.opening.now c.loop-piece.opening c.args.sealing.now
    c.loop-piece.sealing (g.O.Sink.state c.args.output.now) (g.O.Sink.state c.loop-piece.output) c.loop-piece.resealer r (g.O.Sink.state c.finished.new.output) (c.finished.new.output ≡ c.loop-piece.output) (ap g.O.Sink.state) c.finished.result
    (c.finished.ensures (gone_on (new_resealing_session c.args.options.settings c.args.given c.args.options.frame_length c.args.random.now) r.fed.session r.materials) r.stands refl)
