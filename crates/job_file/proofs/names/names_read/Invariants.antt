-- The names that the jobs before this one read.
use Rattle.std.proofs.Common.{take}
use Rattle.std.specs.Prelude.{bytes_eq}
use Rattle.std.specs.List.{list_any}
use Rattle.job_file.specs.Found.{HasThose}
use Rattle.job_file.proofs.names.names_read.Given as goal

abbrev pub invariant-loop-job : goal.invariant-loop-job
invariant-loop-job l = HasThose l.names (λ name. list_any (λ job. bytes_eq name job.from) (take l.job-index l.jobs))
