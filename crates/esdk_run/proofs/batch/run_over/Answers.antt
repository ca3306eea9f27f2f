use Rattle.std.proofs.Common.{◌∙◌, ap, is_none, refl, sym}
use Rattle.std.specs.declared.option.Option.{Option}
use Rattle.cmm_caching.specs.Asked.{store_limits}
use Rattle.cmm_caching.specs.Store.{Store}
use Rattle.desk_core.specs.Desk.{empty_desk}
use Rattle.esdk_batch.proofs.Announced.{told_never}
use Rattle.esdk_run.proofs.Ages.{serves_in_time}
use Rattle.esdk_run.proofs.Serving.{Begins, counts_over, outlasts_over, runs_over, steady_cached}
use Rattle.esdk_run.proofs.batch.run_over.Goals as goal

pub returns-clause-runs : goal.returns-clause-runs
returns-clause-runs g c =
    let begins : Begins c.args.jobs.now.cache c.in_ok-manager.manager.1 (g.K.Keyring.meaning c.new.result) =
    record {
      limits = c.in_ok-manager.ensures.limits ∙ c.cache.ensures;
      tells = λ keys told steady.
          c.in_ok-manager.ensures.tells keys told (λ some. steady_cached _ (g.K.Keyring.meaning c.new.result) steady (sym (ap is_none c.cache.ensures) ∙ some));
      exact = c.in_ok-manager.ensures.exact tt;
    } in
    runs_over g.K.Keyring.meaning c.new.result c.args.tree c.into_ring.result c.in_ok-manager.manager c.new-desk.result.manager c.run_batch-ended.new.desk.manager c.args.jobs.now
    (g.F.Shelf.state c.args.shelf.now) (g.F.Shelf.state c.run_batch-ended.new.shelf) (g.W.Entropy.state c.args.entropy.now) (g.W.Entropy.state c.run_batch-ended.new.entropy)
    c.new-desk.result.journal.items c.run_batch-ended.new.desk.journal.items c.journal-journal.result.now c.run_batch-ended.result
    c.new-desk.ensures.manager c.in_ok-manager.ensures.inner c.new.ensures (c.into_ring.ensures ∙ c.into_inner.ensures ∙ (λ i. (c.into_manager.ensures i).0)) begins
    c.new-desk.ensures.stands.journal c.journal-journal.ensures.journal
    (c.run_batch-ended.ensures.went.limits c.journal-journal.result.now (c.journal-journal.ensures.within (c.run_batch-ended.ensures.bears c.new-desk.ensures.bears)))
    (c.run_batch-ended.ensures.runs empty_desk c.new-desk.ensures.stands)
    (λ held. c.run_batch-ended.ensures.shown held empty_desk c.new-desk.ensures.stands)

pub returns-clause-ages : goal.returns-clause-ages
returns-clause-ages g c =
    serves_in_time _ c.args.jobs.now (g.F.Shelf.state c.args.shelf.now).files (g.F.Shelf.state c.run_batch-ended.new.shelf).files (g.W.Entropy.state c.args.entropy.now) (g.W.Entropy.state c.run_batch-ended.new.entropy)
    c.new-desk.result.journal.items c.run_batch-ended.new.desk.journal.items c.journal-journal.result.now (g.C.Clock.state c.args.clock.now) (g.C.Clock.state c.run_batch-ended.new.clock)
    (store_limits c.new-desk.result.manager.1) c.run_batch-ended.result c.new-desk.ensures.stands.journal c.journal-journal.ensures.journal
    (ap (λ (v : g.row.K.Denot × Option Store). store_limits v.1) c.new-desk.ensures.manager ∙ c.in_ok-manager.ensures.limits ∙ c.cache.ensures)
    (c.run_batch-ended.ensures.went.limits c.journal-journal.result.now (c.journal-journal.ensures.within (c.run_batch-ended.ensures.bears c.new-desk.ensures.bears)))
    c.run_batch-ended.ensures.moments (c.run_batch-ended.ensures.runs empty_desk c.new-desk.ensures.stands)

pub returns-clause-goes : goal.returns-clause-goes
returns-clause-goes g c =
    let begins : Begins c.args.jobs.now.cache c.in_ok-manager.manager.1 (g.K.Keyring.meaning c.new.result) =
    record {
      limits = c.in_ok-manager.ensures.limits ∙ c.cache.ensures;
      tells = λ keys told steady.
          c.in_ok-manager.ensures.tells keys told (λ some. steady_cached _ (g.K.Keyring.meaning c.new.result) steady (sym (ap is_none c.cache.ensures) ∙ some));
      exact = c.in_ok-manager.ensures.exact tt;
    } in
    outlasts_over g.K.Keyring.meaning c.args.jobs.now.cache c.new.result c.args.tree c.into_ring.result c.in_ok-manager.manager c.new-desk.result.manager c.run_batch-ended.new.desk.manager
    c.new-desk.ensures.manager c.in_ok-manager.ensures.inner c.new.ensures (c.into_ring.ensures ∙ c.into_inner.ensures ∙ (λ i. (c.into_manager.ensures i).0)) begins
    c.run_batch-ended.ensures.went

pub returns-clause-failures : goal.returns-clause-failures
returns-clause-failures g c =
    counts_over g.K.Keyring.meaning c.new.result c.args.tree c.into_ring.result c.in_ok-manager.manager c.new-desk.result.manager c.run_batch-ended.new.desk.manager c.args.jobs.now.jobs
    (g.F.Shelf.state c.args.shelf.now) (g.F.Shelf.state c.run_batch-ended.new.shelf) (g.W.Entropy.state c.args.entropy.now).faults (g.W.Entropy.state c.run_batch-ended.new.entropy).faults
    c.run_batch-ended.result
    c.new-desk.ensures.manager c.in_ok-manager.ensures.inner c.new.ensures (c.into_ring.ensures ∙ c.into_inner.ensures ∙ (λ i. (c.into_manager.ensures i).0)) c.run_batch-ended.ensures.failures

pub returns-in_err-manager-clause-calls : goal.returns-in_err-manager-clause-calls
returns-in_err-manager-clause-calls g c = told_never c.args.jobs.now.jobs _ _ refl
