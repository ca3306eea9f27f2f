-- A session that is live isn't said not to be.
use Rattle.std.proofs.Common.{◌≡◌, ◌≢◌, ◌∙◌, Err, sym, ap}
use Rattle.desk_core.specs.declared.errors.DeskError.{DeskError}
use Rattle.desk_core.specs.declared.errors.DeskError.TheVariants as errors
use Rattle.desk_core.specs.Session.{SessionValue, Opening, open_answer}
use Rattle.desk_core.specs.Stands.{IsLive}
use Rattle.desk_core.proofs.Machines.{by_opener}
use Rattle.desk_core.proofs.Receivers.{failed}
use Rattle.desk_core.proofs.StillLive.{finish_named}
use Rattle.desk_core.proofs.session.Session.finish_into.Goals as goal

pub returns-in-Err-finish-clause-live : goal.returns-in-Err-finish-clause-live
returns-in-Err-finish-clause-live g c =
    by_opener (λ (s : SessionValue). IsLive s → failed {E = g.row.R-Error.Denot} c.opener_failed.result ≢ failed errors.NotLive) c.args.self.now c.in-Opening.opener c.in-Opening.is
    (λ v stands live e.
    let same : c.opener_failed.result ≡ errors.NotLive = cc in
    finish_named (Opening v) live (ap open_answer (sym (c.in-Err-finish.ensures.answer v stands)) ∙ ap (λ (x : DeskError). Err x) (sym c.opener_failed.ensures ∙ same)))
