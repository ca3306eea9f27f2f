-- The file is made, and the header is put behind it.
use Rattle.std.proofs.Common.{◌≡◌, ◌∙◌, ℕ, List, sym, ap, subst}
use Rattle.std.specs.Prelude.{Option, Some, OnErr, option_map}
use Rattle.std.proofs.lemmas.Result.{IfOk-from_err}
use Rattle.esdk_fields.specs.Counts.{Rose}
use Rattle.desk_core.specs.Session.{SessionValue, sealed_header}
use Rattle.esdk_batch.specs.FileEndLaws.{calls_more, from_later}
use Rattle.esdk_batch.specs.Files.{MakesFile}
use Rattle.esdk_batch.specs.ShelfCalls.{IsWrite}
use Rattle.esdk_batch.specs.Watching.{as_told, files_by}
use Rattle.esdk_batch.proofs.Counting.{emptied_there}
use Rattle.esdk_batch.proofs.ShelfCalls.{on_err}
use Rattle.esdk_batch.proofs.Watched.{file_made, put_there}
use Rattle.esdk_batch.proofs.opening.make_file.Goals as goal

-- the header that the desk gives is the session's
header_is : (o : Option SessionValue) (s : SessionValue) (header : List ℕ) → o ≡ Some s → option_map sealed_header o ≡ Some header → header ≡ sealed_header s
header_is o s header live gives = let same : Some (sealed_header s) ≡ Some header = ap (option_map sealed_header) (sym live) ∙ gives in cc

pub returns-clause-calls : goal.returns-clause-calls
returns-clause-calls g c = calls_more (IsWrite c.args.to.now) _ _ _ c.in_ok-make.ensures.calls c.put.ensures.calls

pub returns-clause-makes : goal.returns-clause-makes
returns-clause-makes g c = λ by v s from stands live.
    let header = header_is _ s c.in-Ok.header.now live (c.in-Ok.ensures.header v stands) in
    subst (λ (bytes : List ℕ). MakesFile (files_by by (g.F.Shelf.state c.args.shelf.now)) (files_by by (g.F.Shelf.state c.put.new.shelf)) c.args.to.now bytes c.put.result) header
    (file_made _ _ _ c.args.to.now c.in-Ok.header.now c.put.result (c.in_ok-make.ensures.makes by from)
    (c.put.ensures.puts by (from_later (IsWrite c.args.to.now) by _ _ c.in_ok-make.ensures.calls from)))

pub returns-clause-cause : goal.returns-clause-cause
returns-clause-cause g c =
    let there = emptied_there _ _ c.args.to.now (c.in_ok-make.ensures.makes as_told tt) in
    subst (λ (n : ℕ). OnErr c.put.result (Rose n (g.F.Shelf.state c.put.new.shelf).faults)) c.in_ok-make.ensures.cause.same (c.put.ensures.cause there)

pub returns-clause-there : goal.returns-clause-there
returns-clause-there g c = put_there _ _ c.args.to.now c.in-Ok.header.now c.put.result (c.put.ensures.puts as_told tt) (emptied_there _ _ c.args.to.now (c.in_ok-make.ensures.makes as_told tt))

-- ---- the file wasn't made

pub returns-in_err-make-clause-kept : goal.returns-in_err-make-clause-kept
returns-in_err-make-clause-kept g c = c.make.ensures.kept

pub returns-in_err-make-clause-calls : goal.returns-in_err-make-clause-calls
returns-in_err-make-clause-calls g c = c.make.ensures.calls

pub returns-in_err-make-clause-cause : goal.returns-in_err-make-clause-cause
returns-in_err-make-clause-cause g c = on_err c.from_residual.result c.in_err-make.ensures.cause.failed

pub returns-in_err-make-clause-there : goal.returns-in_err-make-clause-there
returns-in_err-make-clause-there g c = IfOk-from_err c.from_residual.result _ c.from_residual.ensures.0
