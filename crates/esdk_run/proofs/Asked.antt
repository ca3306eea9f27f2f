-- What a run comes to whose words ask for this.
use Rattle.std.proofs.Common.{◌≡◌, ℕ, List, Ok, subst}
use Rattle.std.specs.declared.result.Result.{Result}
use Rattle.std.specs.Prelude.{◌⊎◌}
use Rattle.esdk_args.specs.declared.request.DecryptWords.{DecryptWords}
use Rattle.esdk_args.specs.declared.request.EncryptWords.{EncryptWords}
use Rattle.esdk_args.specs.declared.request.ExtractWords.{ExtractWords}
use Rattle.esdk_args.specs.declared.request.MigrateWords.{MigrateWords}
use Rattle.esdk_args.specs.declared.request.Request.{Request}
use Rattle.esdk_args.specs.declared.request.ResealWords.{ResealWords}
use Rattle.esdk_args.specs.declared.request.Request.TheVariants as requests
use Rattle.esdk_args.specs.declared.request.WordsFault.{WordsFault}
use Rattle.esdk_run.specs.EachJob.{ShowsJudgements}
use Rattle.esdk_run.specs.Objects.{Objects, Unchanged, without_entropy}
use Rattle.esdk_run.specs.Run.{AuditRuns, BatchRuns, DecryptRuns, EncryptRuns, ExtractRuns, GenRuns, MigrateRuns, ResealRuns, RunsAs}
use Rattle.esdk_run.specs.Served.{Generates, ShowsLimits}
use Rattle.esdk_run.specs.Trees.{Trees}
use Rattle.esdk_run.proofs.Promised.{SaysWhatItReads, SaysTheJudgement, DecryptsWholeMessages, ReadsBack, MigratesWhatIsHeld, RunsWhatIsHeld, DoesWhatItMust, SaysTheOpeners, AuditsWhatIsHeld}
use Rattle.esdk_run.proofs.AuditDone.{audits_what_is_held}
use Rattle.esdk_run.proofs.Auditing.{says_the_openers}
use Rattle.esdk_run.proofs.Batches.{generates, keeps_limits, keeps_other_files, runs_what_is_held}
use Rattle.esdk_run.proofs.DoneJobs.{does_what_it_must}
use Rattle.esdk_run.proofs.EachJob.{says_each_judgement}
use Rattle.esdk_run.proofs.Decryption.{decrypts_whole_messages, reads_back, says_the_judgement, says_what_it_reads}
use Rattle.esdk_run.proofs.Migration.{migrates_what_is_held}
use Rattle.esdk_run.specs.Batch.{ChangesOnlyWritten}

pub encrypt_asked : (trees : Trees) (words : Result Request WordsFault) (asked : EncryptWords) (before after : Objects) (unchanged : Unchanged) (code : ℕ)
    → words ≡ Ok (requests.Encrypt asked) → RunsAs trees words before after unchanged code
    → EncryptRuns trees asked before after unchanged code
encrypt_asked trees words asked before after unchanged code is runs =
    subst (λ (w : Result Request WordsFault). RunsAs trees w before after unchanged code) is runs

pub decrypt_asked : (trees : Trees) (words : Result Request WordsFault) (asked : DecryptWords) (before after : Objects) (unchanged : Unchanged) (code : ℕ)
    → words ≡ Ok (requests.Decrypt asked) → RunsAs trees words before after unchanged code
    → DecryptRuns trees asked before after (without_entropy unchanged) code
decrypt_asked trees words asked before after unchanged code is runs =
    subst (λ (w : Result Request WordsFault). RunsAs trees w before after unchanged code) is runs

migrate_asked : (trees : Trees) (words : Result Request WordsFault) (asked : MigrateWords) (before after : Objects) (unchanged : Unchanged) (code : ℕ)
    → words ≡ Ok (requests.Migrate asked) → RunsAs trees words before after unchanged code
    → MigrateRuns asked before after unchanged code
migrate_asked trees words asked before after unchanged code is runs =
    (subst (λ (w : Result Request WordsFault). RunsAs trees w before after unchanged code) is runs).1

pub batch_asked : (trees : Trees) (words : Result Request WordsFault) (name : List ℕ) (before after : Objects) (unchanged : Unchanged) (code : ℕ)
    → words ≡ Ok (requests.Batch name) → RunsAs trees words before after unchanged code → BatchRuns trees name before after unchanged code
batch_asked trees words name before after unchanged code is runs =
    subst (λ (w : Result Request WordsFault). RunsAs trees w before after unchanged code) is runs

gen_asked : (trees : Trees) (words : Result Request WordsFault) (seed size : ℕ) (before after : Objects) (unchanged : Unchanged) (code : ℕ)
    → words ≡ Ok (requests.Gen seed size) → RunsAs trees words before after unchanged code → GenRuns seed size before after unchanged code
gen_asked trees words seed size before after unchanged code is runs =
    (subst (λ (w : Result Request WordsFault). RunsAs trees w before after unchanged code) is runs).1

pub reseal_asked : (trees : Trees) (words : Result Request WordsFault) (asked : ResealWords) (before after : Objects) (unchanged : Unchanged) (code : ℕ)
    → words ≡ Ok (requests.Reseal asked) → RunsAs trees words before after unchanged code → ResealRuns trees asked before after unchanged code
reseal_asked trees words asked before after unchanged code is runs =
    subst (λ (w : Result Request WordsFault). RunsAs trees w before after unchanged code) is runs

pub extract_asked : (trees : Trees) (words : Result Request WordsFault) (asked : ExtractWords) (before after : Objects) (unchanged : Unchanged) (code : ℕ)
    → words ≡ Ok (requests.Extract asked) → RunsAs trees words before after unchanged code → ExtractRuns trees asked before after unchanged code
extract_asked trees words asked before after unchanged code is runs =
    subst (λ (w : Result Request WordsFault). RunsAs trees w before after unchanged code) is runs

pub audit_asked : (trees : Trees) (words : Result Request WordsFault) (name : List ℕ) (before after : Objects) (unchanged : Unchanged) (code : ℕ)
    → words ≡ Ok (requests.Audit name) → RunsAs trees words before after unchanged code → AuditRuns trees name before after unchanged code
audit_asked trees words name before after unchanged code is runs =
    subst (λ (w : Result Request WordsFault). RunsAs trees w before after unchanged code) is runs

-- ---- what is so of such a run

pub reads_asked : (trees : Trees) (words : Result Request WordsFault) (asked : DecryptWords) (before after : Objects) (unchanged : Unchanged) (code : ℕ)
    → (unchanged.output → after.output ≡ before.output) → words ≡ Ok (requests.Decrypt asked) → RunsAs trees words before after unchanged code
    → SaysWhatItReads trees asked before after code
reads_asked trees words asked before after unchanged code same is runs =
    says_what_it_reads trees asked before after (without_entropy unchanged) code same (decrypt_asked trees words asked before after unchanged code is runs)

pub judgement_asked : (trees : Trees) (words : Result Request WordsFault) (asked : DecryptWords) (before after : Objects) (unchanged : Unchanged) (code : ℕ)
    → words ≡ Ok (requests.Decrypt asked) → RunsAs trees words before after unchanged code
    → SaysTheJudgement trees asked before after code
judgement_asked trees words asked before after unchanged code is runs =
    says_the_judgement trees asked before after (without_entropy unchanged) code (decrypt_asked trees words asked before after unchanged code is runs)

pub whole_asked : (trees : Trees) (words : Result Request WordsFault) (asked : DecryptWords) (before after : Objects) (unchanged : Unchanged) (code : ℕ)
    → words ≡ Ok (requests.Decrypt asked) → RunsAs trees words before after unchanged code
    → DecryptsWholeMessages trees asked before after code
whole_asked trees words asked before after unchanged code is runs =
    decrypts_whole_messages trees asked before after (without_entropy unchanged) code (decrypt_asked trees words asked before after unchanged code is runs)

pub round_trip_asked : (trees : Trees) (words : Result Request WordsFault) (asked : DecryptWords) (before after : Objects) (unchanged : Unchanged) (code : ℕ)
    → words ≡ Ok (requests.Decrypt asked) → RunsAs trees words before after unchanged code
    → ReadsBack trees asked before after code
round_trip_asked trees words asked before after unchanged code is runs =
    reads_back trees asked before after (without_entropy unchanged) code (decrypt_asked trees words asked before after unchanged code is runs)

pub migration_asked : (trees : Trees) (words : Result Request WordsFault) (asked : MigrateWords) (before after : Objects) (unchanged : Unchanged) (code : ℕ)
    → words ≡ Ok (requests.Migrate asked) → RunsAs trees words before after unchanged code
    → MigratesWhatIsHeld asked before.shelf after.shelf before.output after.output code
migration_asked trees words asked before after unchanged code is runs =
    migrates_what_is_held asked before after unchanged code (migrate_asked trees words asked before after unchanged code is runs)

pub limits_asked : (trees : Trees) (words : Result Request WordsFault) (name : List ℕ) (before after : Objects) (unchanged : Unchanged) (code : ℕ)
    → words ≡ Ok (requests.Batch name) → RunsAs trees words before after unchanged code
    → (code ≡ 0) ⊎ (code ≡ 7) → ShowsLimits name before after
limits_asked trees words name before after unchanged code is runs =
    keeps_limits trees name before after unchanged code (batch_asked trees words name before after unchanged code is runs)

pub others_asked : (trees : Trees) (words : Result Request WordsFault) (name : List ℕ) (before after : Objects) (unchanged : Unchanged) (code : ℕ)
    → words ≡ Ok (requests.Batch name) → RunsAs trees words before after unchanged code
    → (after.shelf.files ≡ before.shelf.files) ⊎ ChangesOnlyWritten name before.shelf after.shelf
others_asked trees words name before after unchanged code is runs =
    keeps_other_files trees name before after unchanged code (batch_asked trees words name before after unchanged code is runs)

pub jobs_asked : (trees : Trees) (words : Result Request WordsFault) (name : List ℕ) (before after : Objects) (unchanged : Unchanged) (code : ℕ)
    → words ≡ Ok (requests.Batch name) → RunsAs trees words before after unchanged code
    → RunsWhatIsHeld trees name before.shelf after.shelf before.output after.output code
jobs_asked trees words name before after unchanged code is runs =
    runs_what_is_held trees name before after unchanged code (batch_asked trees words name before after unchanged code is runs)

pub judgements_asked : (trees : Trees) (words : Result Request WordsFault) (name : List ℕ) (before after : Objects) (unchanged : Unchanged) (code : ℕ)
    → words ≡ Ok (requests.Batch name) → RunsAs trees words before after unchanged code
    → (code ≡ 0) ⊎ (code ≡ 7) → ShowsJudgements trees name before after
judgements_asked trees words name before after unchanged code is runs =
    says_each_judgement trees name before after unchanged code (batch_asked trees words name before after unchanged code is runs)

pub done_asked : (trees : Trees) (words : Result Request WordsFault) (name : List ℕ) (before after : Objects) (unchanged : Unchanged) (code : ℕ)
    → words ≡ Ok (requests.Batch name) → RunsAs trees words before after unchanged code
    → DoesWhatItMust trees name before after code
done_asked trees words name before after unchanged code is runs =
    does_what_it_must trees name before after unchanged code (batch_asked trees words name before after unchanged code is runs)

pub line_asked : (trees : Trees) (words : Result Request WordsFault) (seed size : ℕ) (before after : Objects) (unchanged : Unchanged) (code : ℕ)
    → words ≡ Ok (requests.Gen seed size) → RunsAs trees words before after unchanged code
    → Generates seed size before.output after.output unchanged.output code
line_asked trees words seed size before after unchanged code is runs =
    generates seed size before after unchanged code (gen_asked trees words seed size before after unchanged code is runs)

pub openers_asked : (trees : Trees) (words : Result Request WordsFault) (name : List ℕ) (before after : Objects) (unchanged : Unchanged) (code : ℕ)
    → words ≡ Ok (requests.Audit name) → RunsAs trees words before after unchanged code
    → SaysTheOpeners trees name before after code
openers_asked trees words name before after unchanged code is runs =
    says_the_openers trees name before after unchanged code (audit_asked trees words name before after unchanged code is runs)

pub audited_asked : (trees : Trees) (words : Result Request WordsFault) (name : List ℕ) (before after : Objects) (unchanged : Unchanged) (code : ℕ)
    → words ≡ Ok (requests.Audit name) → RunsAs trees words before after unchanged code
    → AuditsWhatIsHeld trees name before after code
audited_asked trees words name before after unchanged code is runs =
    audits_what_is_held trees name before after unchanged code (audit_asked trees words name before after unchanged code is runs)
