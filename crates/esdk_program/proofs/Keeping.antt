-- What a run keeps, by what `run` says of it and what it promises.
use Rattle.std.proofs.Common.{◌≡◌, ℕ, false, None, Ok, Err}
use Rattle.esdk_args.specs.declared.request.Request.TheVariants as requests
use Rattle.esdk_run.specs.Objects.{Objects, Unchanged}
use Rattle.esdk_run.specs.Promises.{Promises, Ticks, Words}
use Rattle.esdk_run.specs.Run.{RunsAs}
use Rattle.esdk_run.specs.Trees.{Trees}
use Rattle.esdk_program.specs.Keeps.{Keeps, takes_tree}
use Rattle.esdk_program.specs.World.{run_of}
use Rattle.esdk_program.proofs.OnlyReads.{reads_alone}

-- a command that takes no keyring tree gives none back
gives_none : (words : Words) (trees : Trees) (before after : Objects) (unchanged : Unchanged) (code : ℕ) → RunsAs trees words before after unchanged code
    → takes_tree words ≡ false → trees.kept ≡ None
gives_none (Ok (requests.List asked)) trees before after unchanged code runs none = runs.0
gives_none (Ok (requests.Migrate asked)) trees before after unchanged code runs none = runs.0
gives_none (Ok (requests.Gen seed size)) trees before after unchanged code runs none = runs.0
gives_none (Ok request) trees before after unchanged code runs none = absurd (cc none)
gives_none (Err fault) trees before after unchanged code runs none = runs.0.none

pub keeps : (words : Words) (trees : Trees) (before after : Objects) (unchanged : Unchanged) (time : Ticks) (code : ℕ) → RunsAs trees words before after unchanged code
    → Promises trees words before after unchanged time code → (unchanged.shelf → after.shelf ≡ before.shelf) → Keeps (run_of words trees before after code) unchanged time
keeps words trees before after unchanged time code runs promises still = record {
  files = promises.files;
  calls = reads_alone trees before after unchanged code still words promises.shelf runs;
  shelf = promises.shelf;
  input = promises.input;
  taken = promises.taken;
  entropy = promises.entropy;
  clock = promises.clock;
  no_tree = gives_none words trees before after unchanged code runs;
  extract_reads = promises.extract_reads;
  sealed = promises.sealed;
  opened = promises.opened;
  extracted = promises.extracted;
  fits = promises.fits;
  batched = promises.batched;
  others = promises.others;
  batch = promises.batch;
  jobs = promises.jobs;
  judgements = promises.judgements;
  limits = promises.limits;
  ages = promises.ages;
}
