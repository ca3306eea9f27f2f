use Rattle.std.proofs.Common.{ap, refl, Some}
use Rattle.esdk_decrypt.specs.Decrypt.{asked_from}
use Rattle.extract_core.specs.Extract.{range_of}
use Rattle.session_parts.specs.Handed.{handed_of}
use Rattle.c_session.specs.MessageShelf.{ShelfNow}
use Rattle.c_session.proofs.Ranges.{range_comes, range_fails}
use Rattle.c_session.proofs.ranging.extract_handed.Goals as goal

pub returns-in-Ok-clause-comes : goal.returns-in-Ok-clause-comes
returns-in-Ok-clause-comes g c =
    range_comes (asked_from (g.M.Manager.state c.args.manager.now) (g.M.Manager.state c.extract-ended.new.manager) 0 c.args.settings c.args.given.now)
    (handed_of c.args.bytes) c.agreed.ensures.0 (range_of c.args.at c.args.count) _ _ _ _
    (ap (λ (s : ShelfNow). s.calls) c.new-shelf.ensures) c.extract-ended.ensures.calls c.agreed.ensures.1
    c.extract-ended.new.output.bytes _ (ap Some c.new-text.ensures.bytes) refl c.in-Ok.ensures.done

pub returns-in-Err-clause-comes : goal.returns-in-Err-clause-comes
returns-in-Err-clause-comes g c =
    rw c.unextracted.ensures
    (range_fails (asked_from (g.M.Manager.state c.args.manager.now) (g.M.Manager.state c.extract-ended.new.manager) 0 c.args.settings c.args.given.now)
    (handed_of c.args.bytes) c.agreed.ensures.0 (range_of c.args.at c.args.count) _ _ _ _
    (ap (λ (s : ShelfNow). s.calls) c.new-shelf.ensures) c.extract-ended.ensures.calls c.agreed.ensures.1
    _ c.in-Err.error c.in-Err.ensures.ends)
