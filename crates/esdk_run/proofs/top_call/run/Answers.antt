use Rattle.std.proofs.Common.{ap, refl}
use Rattle.esdk_args.specs.declared.request.Request.TheVariants as requests
use Rattle.esdk_run.proofs.Keeping.{audit_keeps, batch_keeps, decrypt_keeps, encrypt_keeps, extract_keeps, gen_keeps, list_keeps, migrate_keeps, refused_keeps, reseal_keeps}
use Rattle.esdk_run.proofs.Promising.{promised, refused_runs, runs_asked}
use Rattle.esdk_run.proofs.top_call.run.Goals as goal

-- ---- `list`

pub returns-in-Ok-List-clause-runs : goal.returns-in-Ok-List-clause-runs
returns-in-Ok-List-clause-runs g c =
    runs_asked _ _ (requests.List c.in-Ok-List.asked) _ _ _ _ (rw c.in-Ok-List.field-0-is at c.in-Ok-List.ensures.read)
    (refl, c.run_list.ensures.runs)

pub returns-in-Ok-List-clause-promises : goal.returns-in-Ok-List-clause-promises
returns-in-Ok-List-clause-promises g c =
    promised _ _ _ _ _ _ _ (λ same. ap g.O.Sink.state same) (λ same. ap g.F.Shelf.state same) (returns-in-Ok-List-clause-runs g c)
    (list_keeps _ c.in-Ok-List.asked _ _ _ _ _ (rw c.in-Ok-List.field-0-is at c.in-Ok-List.ensures.read)
    refl refl refl refl c.run_list.ensures.taken c.run_list.ensures.judged)

-- ---- `encrypt`

pub returns-in-Ok-Encrypt-clause-runs : goal.returns-in-Ok-Encrypt-clause-runs
returns-in-Ok-Encrypt-clause-runs g c =
    runs_asked _ _ (requests.Encrypt c.in-Ok-Encrypt.asked) _ _ _ _ (rw c.in-Ok-Encrypt.field-0-is at c.in-Ok-Encrypt.ensures.read)
    c.run_encrypt.ensures.runs

pub returns-in-Ok-Encrypt-clause-promises : goal.returns-in-Ok-Encrypt-clause-promises
returns-in-Ok-Encrypt-clause-promises g c =
    promised _ _ _ _ _ _ _ (λ same. ap g.O.Sink.state same) (λ same. ap g.F.Shelf.state same) (returns-in-Ok-Encrypt-clause-runs g c)
    (encrypt_keeps _ c.in-Ok-Encrypt.asked _ _ _ _ _ (rw c.in-Ok-Encrypt.field-0-is at c.in-Ok-Encrypt.ensures.read)
    c.run_encrypt.ensures.files refl c.run_encrypt.ensures.taken)

-- ---- `decrypt`

pub returns-in-Ok-Decrypt-clause-runs : goal.returns-in-Ok-Decrypt-clause-runs
returns-in-Ok-Decrypt-clause-runs g c =
    runs_asked _ _ (requests.Decrypt c.in-Ok-Decrypt.asked) _ _ _ _ (rw c.in-Ok-Decrypt.field-0-is at c.in-Ok-Decrypt.ensures.read)
    (c.run_decrypt.ensures.runs (g.W.Entropy.state c.args.entropy.now))

pub returns-in-Ok-Decrypt-clause-promises : goal.returns-in-Ok-Decrypt-clause-promises
returns-in-Ok-Decrypt-clause-promises g c =
    promised _ _ _ _ _ _ _ (λ same. ap g.O.Sink.state same) (λ same. ap g.F.Shelf.state same) (returns-in-Ok-Decrypt-clause-runs g c)
    (decrypt_keeps _ c.in-Ok-Decrypt.asked _ _ _ _ _ (rw c.in-Ok-Decrypt.field-0-is at c.in-Ok-Decrypt.ensures.read)
    c.run_decrypt.ensures.files refl refl c.run_decrypt.ensures.taken)

-- ---- `migrate`

pub returns-in-Ok-Migrate-clause-runs : goal.returns-in-Ok-Migrate-clause-runs
returns-in-Ok-Migrate-clause-runs g c =
    runs_asked _ _ (requests.Migrate c.in-Ok-Migrate.asked) _ _ _ _ (rw c.in-Ok-Migrate.field-0-is at c.in-Ok-Migrate.ensures.read)
    (refl, c.run_migrate.ensures.runs)

pub returns-in-Ok-Migrate-clause-promises : goal.returns-in-Ok-Migrate-clause-promises
returns-in-Ok-Migrate-clause-promises g c =
    promised _ _ _ _ _ _ _ (λ same. ap g.O.Sink.state same) (λ same. ap g.F.Shelf.state same) (returns-in-Ok-Migrate-clause-runs g c)
    (migrate_keeps _ c.in-Ok-Migrate.asked _ _ _ _ _ (rw c.in-Ok-Migrate.field-0-is at c.in-Ok-Migrate.ensures.read)
    c.run_migrate.ensures.files refl refl refl refl)

-- ---- `batch`

pub returns-in-Ok-Batch-clause-runs : goal.returns-in-Ok-Batch-clause-runs
returns-in-Ok-Batch-clause-runs g c =
    runs_asked _ _ (requests.Batch c.in-Ok-Batch.name) _ _ _ _ (rw c.in-Ok-Batch.field-0-is at c.in-Ok-Batch.ensures.read)
    (c.run_batch.ensures.runs (g.S.Source.state c.args.input.now))

pub returns-in-Ok-Batch-clause-promises : goal.returns-in-Ok-Batch-clause-promises
returns-in-Ok-Batch-clause-promises g c =
    promised _ _ _ _ _ _ _ (λ same. ap g.O.Sink.state same) (λ same. ap g.F.Shelf.state same) (returns-in-Ok-Batch-clause-runs g c)
    (batch_keeps _ c.in-Ok-Batch.name _ _ _ _ _ (rw c.in-Ok-Batch.field-0-is at c.in-Ok-Batch.ensures.read)
    refl refl c.run_batch.ensures.ages)

-- ---- `gen`

pub returns-in-Ok-Gen-clause-runs : goal.returns-in-Ok-Gen-clause-runs
returns-in-Ok-Gen-clause-runs g c =
    runs_asked _ _ (requests.Gen c.in-Ok-Gen.seed c.in-Ok-Gen.size) _ _ _ _ (rw c.in-Ok-Gen.field-0-is at c.in-Ok-Gen.ensures.read)
    (refl, c.run_gen.ensures.runs)

pub returns-in-Ok-Gen-clause-promises : goal.returns-in-Ok-Gen-clause-promises
returns-in-Ok-Gen-clause-promises g c =
    promised _ _ _ _ _ _ _ (λ same. ap g.O.Sink.state same) (λ same. ap g.F.Shelf.state same) (returns-in-Ok-Gen-clause-runs g c)
    (gen_keeps _ c.in-Ok-Gen.seed c.in-Ok-Gen.size _ _ _ _ _ (rw c.in-Ok-Gen.field-0-is at c.in-Ok-Gen.ensures.read)
    refl refl refl refl refl refl)

-- ---- `extract`

pub returns-in-Ok-Extract-clause-runs : goal.returns-in-Ok-Extract-clause-runs
returns-in-Ok-Extract-clause-runs g c =
    runs_asked _ _ (requests.Extract c.in-Ok-Extract.asked) _ _ _ _ (rw c.in-Ok-Extract.field-0-is at c.in-Ok-Extract.ensures.read)
    (c.run_extract.ensures.runs (g.S.Source.state c.args.input.now) (g.W.Entropy.state c.args.entropy.now))

pub returns-in-Ok-Extract-clause-promises : goal.returns-in-Ok-Extract-clause-promises
returns-in-Ok-Extract-clause-promises g c =
    promised _ _ _ _ _ _ _ (λ same. ap g.O.Sink.state same) (λ same. ap g.F.Shelf.state same) (returns-in-Ok-Extract-clause-runs g c)
    (extract_keeps _ c.in-Ok-Extract.asked _ _ _ _ _ (rw c.in-Ok-Extract.field-0-is at c.in-Ok-Extract.ensures.read)
    c.run_extract.ensures.files refl refl refl refl)

-- ---- `audit`

pub returns-in-Ok-Audit-clause-runs : goal.returns-in-Ok-Audit-clause-runs
returns-in-Ok-Audit-clause-runs g c =
    runs_asked _ _ (requests.Audit c.in-Ok-Audit.name) _ _ _ _ (rw c.in-Ok-Audit.field-0-is at c.in-Ok-Audit.ensures.read)
    c.run_audit.ensures.runs

pub returns-in-Ok-Audit-clause-promises : goal.returns-in-Ok-Audit-clause-promises
returns-in-Ok-Audit-clause-promises g c =
    promised _ _ _ _ _ _ _ (λ same. ap g.O.Sink.state same) (λ same. ap g.F.Shelf.state same) (returns-in-Ok-Audit-clause-runs g c)
    (audit_keeps _ c.in-Ok-Audit.name _ _ _ _ _ (rw c.in-Ok-Audit.field-0-is at c.in-Ok-Audit.ensures.read)
    c.run_audit.ensures.files refl refl refl refl)

-- ---- `reseal`

pub returns-in-Ok-Reseal-clause-runs : goal.returns-in-Ok-Reseal-clause-runs
returns-in-Ok-Reseal-clause-runs g c =
    runs_asked _ _ (requests.Reseal c.in-Ok-Reseal.asked) _ _ _ _ (rw c.in-Ok-Reseal.field-0-is at c.in-Ok-Reseal.ensures.read)
    c.run_reseal.ensures.runs

pub returns-in-Ok-Reseal-clause-promises : goal.returns-in-Ok-Reseal-clause-promises
returns-in-Ok-Reseal-clause-promises g c =
    promised _ _ _ _ _ _ _ (λ same. ap g.O.Sink.state same) (λ same. ap g.F.Shelf.state same) (returns-in-Ok-Reseal-clause-runs g c)
    (reseal_keeps _ c.in-Ok-Reseal.asked _ _ _ _ _ (rw c.in-Ok-Reseal.field-0-is at c.in-Ok-Reseal.ensures.read)
    c.run_reseal.ensures.files refl c.run_reseal.ensures.taken)

-- ---- words that are refused

pub returns-in-Err-clause-runs : goal.returns-in-Err-clause-runs
returns-in-Err-clause-runs g c =
    refused_runs _ _ c.in-Err.fault _ _ _ _ c.in-Err.ensures.read refl refl refl refl refl refl refl
    (rw c.words_failure.ensures at c.tell_failure.ensures)

pub returns-in-Err-clause-promises : goal.returns-in-Err-clause-promises
returns-in-Err-clause-promises g c =
    promised _ _ _ _ _ _ _ (λ same. ap g.O.Sink.state same) (λ same. ap g.F.Shelf.state same) (returns-in-Err-clause-runs g c)
    (refused_keeps _ c.in-Err.fault _ _ _ _ _ c.in-Err.ensures.read (rw c.words_failure.ensures at c.tell_failure.ensures)
    refl refl refl refl refl refl)
