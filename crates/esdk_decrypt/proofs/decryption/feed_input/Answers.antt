use Rattle.std.proofs.Common.{◌≡◌, ◌++◌, List, ℕ, [], None, sym, ap, refl, subst}
use Rattle.esdk_base.specs.ReceiverLaws.{takes_more, takes_none}
use Rattle.esdk_base.specs.Receiver.{PutsAll}
use Rattle.keyring_trait.proofs.Going.{went_on}
use Rattle.stream_open.specs.Asking.{served_in}
use Rattle.stream_open.specs.Receiving.{FedWhole}
use Rattle.stream_open.specs.Session.{new_opening_session}
use Rattle.stream_open.proofs.Feeding.{opened_goes}
use Rattle.stream_open.proofs.PieceEnds.{whole_as_one, whole_none}
use Rattle.whole_input.specs.Pieces.{PiecesValue}
use Rattle.whole_input.specs.Taken.{Came}
use Rattle.esdk_decrypt.proofs.Breaking.{feed_bears, feed_ends, feed_unasked, none_asked}
use Rattle.esdk_decrypt.proofs.Concluding.{lacks_first}
use Rattle.esdk_decrypt.proofs.Pieces.{came_headless, well_ends, well_more, well_none}
use Rattle.esdk_decrypt.proofs.decryption.feed_input.Goals as goal

-- ---- there is no buffer for a piece

pub returns-in_err-pieces-clause-ends : goal.returns-in_err-pieces-clause-ends
returns-in_err-pieces-clause-ends g c = λ new.
    lacks_first (g.M.Manager.state c.args.manager.now) c.args.now new.settings new.given (g.S.Source.state c.args.input.now) (g.O.Sink.state c.args.output.now) (c.args.output.now ≡ c.args.output.now) refl
    c.from_residual.result c.from_residual.ensures.1

pub returns-in_err-pieces-clause-bears : goal.returns-in_err-pieces-clause-bears
returns-in_err-pieces-clause-bears g c = (None, λ lines bore. bore)

pub returns-in_err-pieces-clause-unasked : goal.returns-in_err-pieces-clause-unasked
returns-in_err-pieces-clause-unasked g c = λ new bytes came none. refl

-- ---- there is no room for what a piece gives

pub returns-in_err-gathered-clause-ends : goal.returns-in_err-gathered-clause-ends
returns-in_err-gathered-clause-ends g c = λ new.
    lacks_first (g.M.Manager.state c.args.manager.now) c.args.now new.settings new.given (g.S.Source.state c.args.input.now) (g.O.Sink.state c.args.output.now) (c.args.output.now ≡ c.args.output.now) refl
    c.from_residual-in_err-gathered.result c.from_residual-in_err-gathered.ensures.1

pub returns-in_err-gathered-clause-bears : goal.returns-in_err-gathered-clause-bears
returns-in_err-gathered-clause-bears g c = (None, λ lines bore. bore)

pub returns-in_err-gathered-clause-unasked : goal.returns-in_err-gathered-clause-unasked
returns-in_err-gathered-clause-unasked g c = λ new bytes came none. refl

-- ---- the pieces are fed

pub reads-init : goal.reads-init
reads-init g c =
    let first = c.requires.new in
    record {
      going = record { session = new_opening_session first.settings first.given; stands = first.stands; goes = opened_goes first.settings first.given };
      went = c.requires.manager;
      lasts = g.met.S.Source.lasts_none _;
      none = c.in_ok-gathered.ensures;
      bytes = [];
      well = well_none (g.S.Source.state c.args.input.now) c.in_ok-pieces.pieces.taken (ap (λ (p : PiecesValue). p.taken) c.in_ok-pieces.ensures);
      fed = λ new. whole_none g.M.Manager.state (PutsAll g.O.Sink.state) c.args.now (new_opening_session new.settings new.given) c.args.manager.now c.args.output.now c.args.opener.now (opened_goes new.settings new.given)
          new.stands (λ r. takes_none (g.O.Sink.state r));
    }

pub reads-preserved : goal.reads-preserved
reads-preserved g c =
    let before = c.reads.invariant in
    let bytes : List ℕ = before.bytes in
    let next = rw c.in_default.is at c.next.ensures.next in
    let w = before.fed c.requires.new in
    let f = c.in_default-feed_piece.ensures.fed w.fed.session w.fed.stands in
    record {
      going = record { session = f.fed.session; stands = f.fed.stands; goes = f.fed.feeds.goes };
      went = went_on _ _ _ before.went c.feed_piece.ensures.went;
      lasts = g.met.S.Source.lasts_more _ _ _ before.lasts c.next.ensures.lasts;
      none = c.in_default-feed_piece.ensures.empty;
      bytes = bytes ++ c.next.new.self.piece;
      well = well_more (g.S.Source.state c.args.input.now) (g.S.Source.state c.reads.input) (g.S.Source.state c.next.new.input) c.reads.pieces.taken bytes c.next.new.self before.well next;
      fed = λ new.
          (let w = before.fed new in
          subst (λ (p : List ℕ). FedWhole g.M.Manager.state (PutsAll g.O.Sink.state) c.args.now (new_opening_session new.settings new.given) (bytes ++ p) c.args.manager.now c.feed_piece.new.manager
          c.args.output.now c.feed_piece.new.output c.feed_piece.new.opener) c.piece-piece.ensures
          (whole_as_one g.M.Manager.state (PutsAll g.O.Sink.state) c.args.now (new_opening_session new.settings new.given) bytes _ c.args.manager.now c.reads.manager c.feed_piece.new.manager c.args.output.now
          c.reads.output c.feed_piece.new.output c.reads.opener c.feed_piece.new.opener w (c.in_default-feed_piece.ensures.fed w.fed.session w.fed.stands)
          (λ r s t xs ys. takes_more (g.O.Sink.state r) (g.O.Sink.state s) (g.O.Sink.state t) xs ys)));
    }

-- ---- a piece isn't fed whole

pub returns-in-Err-feed_piece-clause-ends : goal.returns-in-Err-feed_piece-clause-ends
returns-in-Err-feed_piece-clause-ends g c = λ new.
    let before = c.reads.invariant in
    let bytes : List ℕ = before.bytes in
    let next = rw c.in_default.is at c.next.ensures.next in
    let well = well_more (g.S.Source.state c.args.input.now) (g.S.Source.state c.reads.input) (g.S.Source.state c.next.new.input) c.reads.pieces.taken bytes c.next.new.self before.well next in
    let w = before.fed new in
    let (error, feeds, called) = c.in-Err-feed_piece.ensures.fed w.fed.session w.fed.stands in
    feed_ends g.M.Manager.state g.O.Sink.state c.args.now new.settings new.given bytes c.piece-piece.result.now c.args.manager.now c.reads.manager c.feed_piece.new.manager c.args.output.now c.reads.output
    c.feed_piece.new.output c.reads.opener c.feed_piece.new.opener (g.S.Source.state c.args.input.now) (g.S.Source.state c.next.new.input) w
    (subst (λ (p : List ℕ). Came (g.S.Source.state c.args.input.now) (g.S.Source.state c.next.new.input) (bytes ++ p)) (sym c.piece-piece.ensures) well.came) well.faults (rw c.piece-piece.ensures next.0.fits) error
    c.in-Err-feed_piece.error feeds called

pub returns-in-Err-feed_piece-clause-bears : goal.returns-in-Err-feed_piece-clause-bears
returns-in-Err-feed_piece-clause-bears g c =
    let first = c.requires.new in
    let before = c.reads.invariant in
    let bytes : List ℕ = before.bytes in
    let next = rw c.in_default.is at c.next.ensures.next in
    let well = well_more (g.S.Source.state c.args.input.now) (g.S.Source.state c.reads.input) (g.S.Source.state c.next.new.input) c.reads.pieces.taken bytes c.next.new.self before.well next in
    let w = before.fed first in
    let (error, feeds, called) = c.in-Err-feed_piece.ensures.fed w.fed.session w.fed.stands in
    feed_bears g.M.Manager.state g.O.Sink.state c.args.now first.settings first.given bytes c.piece-piece.result.now c.args.manager.now c.reads.manager c.feed_piece.new.manager c.args.output.now c.reads.output
    c.feed_piece.new.output c.reads.opener c.feed_piece.new.opener (g.S.Source.state c.args.input.now) (g.S.Source.state c.next.new.input) w
    (subst (λ (p : List ℕ). Came (g.S.Source.state c.args.input.now) (g.S.Source.state c.next.new.input) (bytes ++ p)) (sym c.piece-piece.ensures) well.came) well.faults (rw c.piece-piece.ensures next.0.fits) error feeds

pub returns-in-Err-feed_piece-clause-unasked : goal.returns-in-Err-feed_piece-clause-unasked
returns-in-Err-feed_piece-clause-unasked g c = λ new others told none.
    let before = c.reads.invariant in
    let bytes : List ℕ = before.bytes in
    let next = rw c.in_default.is at c.next.ensures.next in
    let well = well_more (g.S.Source.state c.args.input.now) (g.S.Source.state c.reads.input) (g.S.Source.state c.next.new.input) c.reads.pieces.taken bytes c.next.new.self before.well next in
    let came = subst (λ (p : List ℕ). Came (g.S.Source.state c.args.input.now) (g.S.Source.state c.next.new.input) (bytes ++ p)) (sym c.piece-piece.ensures) well.came in
    let w = before.fed new in
    let (error, feeds, called) = c.in-Err-feed_piece.ensures.fed w.fed.session w.fed.stands in
    feed_unasked g.M.Manager.state g.O.Sink.state c.args.now new.settings new.given bytes c.piece-piece.result.now c.args.manager.now c.reads.manager c.feed_piece.new.manager c.args.output.now c.reads.output
    c.feed_piece.new.output c.reads.opener c.feed_piece.new.opener (g.S.Source.state c.args.input.now) (g.S.Source.state c.next.new.input) w came well.faults (rw c.piece-piece.ensures next.0.fits) error feeds
    (came_headless new.settings (g.S.Source.state c.args.input.now) (g.S.Source.state c.next.new.input) (bytes ++ c.piece-piece.result.now) others came told none)

pub returns-in-Err-feed_piece-clause-lasts : goal.returns-in-Err-feed_piece-clause-lasts
returns-in-Err-feed_piece-clause-lasts g c = g.met.S.Source.lasts_more _ _ _ c.reads.invariant.lasts c.next.ensures.lasts

-- ---- no more pieces came

pub returns-in-Err-clause-fed : goal.returns-in-Err-clause-fed
returns-in-Err-clause-fed g c = λ new.
    let before = c.reads.invariant in
    let ends = well_ends (g.S.Source.state c.args.input.now) (g.S.Source.state c.reads.input) (g.S.Source.state c.next.new.input) c.reads.pieces.taken before.bytes c.next.new.self c.in-Err.end before.well (rw c.in-Err.is at c.next.ensures.next) in
    record { bytes = before.bytes; came = ends.0; ends = ends.1; fed = before.fed new }

pub returns-in-Err-clause-bears : goal.returns-in-Err-clause-bears
returns-in-Err-clause-bears g c =
    let w = c.reads.invariant.fed c.requires.new in
    (served_in w.fed.heard, w.fed.bears)

pub returns-in-Err-clause-unasked : goal.returns-in-Err-clause-unasked
returns-in-Err-clause-unasked g c = λ new others told none.
    let before = c.reads.invariant in
    let ends = well_ends (g.S.Source.state c.args.input.now) (g.S.Source.state c.reads.input) (g.S.Source.state c.next.new.input) c.reads.pieces.taken before.bytes c.next.new.self c.in-Err.end before.well (rw c.in-Err.is at c.next.ensures.next) in
    (before.fed new).fed.unasked (none_asked new.settings new.given before.bytes
    (came_headless new.settings (g.S.Source.state c.args.input.now) (g.S.Source.state c.next.new.input) before.bytes others ends.0 told none))

pub returns-in-Err-clause-lasts : goal.returns-in-Err-clause-lasts
returns-in-Err-clause-lasts g c = g.met.S.Source.lasts_more _ _ _ c.reads.invariant.lasts c.next.ensures.lasts
