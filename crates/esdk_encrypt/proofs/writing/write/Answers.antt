use Rattle.std.proofs.Common.{[], arith, refl}
use Rattle.std.proofs.lemmas.Result.{err_from_is_err_and}
use Rattle.esdk_encrypt.specs.Writing.{sealing_of_text}
use Rattle.esdk_encrypt.proofs.Input.{ended_most, feeding_fails, feeding_more, feeding_names, feeding_none, feeding_ok}
use Rattle.esdk_encrypt.proofs.Messages.{concludes, header_fails}
use Rattle.esdk_encrypt.proofs.writing.write.Goals as goal

-- ---- the header

pub returns-in_default-clause-writes : goal.returns-in_default-clause-writes
returns-in_default-clause-writes g c = λ m size id wide stands.
    header_fails g.O.Receiver.takes g.O.Receiver.fails m size id g.met.O.Receiver.takes_none _ _ _ c.header.result.now _ (c.header.ensures (sealing_of_text m size id []) stands) c.in_default.ensures

pub reads-init : goal.reads-init
reads-init g c = record {
  few = omega (arith, c.requires.none);
  none = c.requires.empty;
  feeds = λ m size id wide stands.
      feeding_none g.O.Receiver.takes m size id wide _ _ _ _ _ c.header.result.now (c.header.ensures (sealing_of_text m size id []) stands) stands c.in-Ok.ensures c.requires.none;
  most = omega arith;
}

-- ---- a piece

pub written-requires : goal.written-requires
written-requires g c =
    let new = c.requires.unfed in
    feeding_names g.O.Receiver.takes new.materials new.size new.id new.wide g.O.Receiver.fails _ _ _ _ _ _
    (c.reads.invariant.feeds new.materials new.size new.id new.wide new.stands) _ _ _ c.feed.result c.feed.ensures.feeds

pub reads-preserved : goal.reads-preserved
reads-preserved g c =
    let came = c.in-Ok-next.ensures.next in
    record {
      few = came.2;
      none =
          let new = c.requires.unfed in
          feeding_ok g.O.Receiver.takes new.materials new.size new.id new.wide g.O.Receiver.fails _ _ _ _ _ _
          (c.reads.invariant.feeds new.materials new.size new.id new.wide new.stands) c.piece.result.now _ c.feed.result c.in_ok-written-in-Ok-next.ensures c.feed.ensures.empty;
      feeds = λ m size id wide stands.
          feeding_more g.O.Receiver.takes m size id wide g.O.Receiver.fails _ _ _ _ _ _ (c.reads.invariant.feeds m size id wide stands) c.next.new.self.piece _ _ g.met.O.Receiver.takes_more _ came.0
          c.feed.result _ came.1 c.in_ok-written-in-Ok-next.ensures (rw c.piece.ensures at c.feed.ensures.feeds);
      most = omega (arith, came.0.came.most, came.1, c.reads.invariant.most);
    }

pub returns-in_err-written-in-Ok-next-clause-writes : goal.returns-in_err-written-in-Ok-next-clause-writes
returns-in_err-written-in-Ok-next-clause-writes g c = λ m size id wide stands.
    let p = err_from_is_err_and c.from_residual.result c.from_residual.ensures.1 in
    rw (p.1, p.2) (
    feeding_fails g.O.Receiver.takes m size id wide g.O.Receiver.fails _ _ _ _ _ _ (c.reads.invariant.feeds m size id wide stands) c.next.new.self.piece _ _ g.met.O.Receiver.takes_more _ c.in-Ok-next.ensures.next.0
    c.feed.result c.in_err-written-in-Ok-next.field-0.0 c.in_err-written-in-Ok-next.ensures (rw c.piece.ensures at c.feed.ensures.feeds)
    )

-- ---- no piece

pub conclude-requires : goal.conclude-requires
conclude-requires g c =
    let new = c.requires.unfed in
    let feeding = c.reads.invariant.feeds new.materials new.size new.id new.wide new.stands in
    record { session = sealing_of_text new.materials new.size new.id feeding.text; stands = feeding.stands; goes = refl }

pub returns-in-Err-clause-writes : goal.returns-in-Err-clause-writes
returns-in-Err-clause-writes g c = λ m size id wide stands.
    let feeding = c.reads.invariant.feeds m size id wide stands in
    concludes g.O.Receiver.takes g.O.Receiver.fails m size id g.met.O.Receiver.takes_more wide _ _ _ _ _ _ _ _ feeding c.next.new.self c.in-Err.end c.conclude.result c.in-Err.ensures.next
    (c.conclude.ensures (sealing_of_text m size id feeding.text) feeding.stands refl)

pub returns-in-Err-clause-taken : goal.returns-in-Err-clause-taken
returns-in-Err-clause-taken g c = omega (arith, ended_most _ _ _ c.next.new.self c.in-Err.end c.in-Err.ensures.next, c.reads.invariant.most, c.reads.invariant.few)
