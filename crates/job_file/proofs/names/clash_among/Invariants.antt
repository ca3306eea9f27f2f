-- The names that are read and those that the jobs before this one are to write; none before this one clashes.
use Rattle.std.proofs.Common.{◌≡◌, [], take, drop}
use Rattle.std.specs.Prelude.{◌||◌}
use Rattle.context_codec.specs.KeySet.{has}
use Rattle.job_file.specs.Found.{HasThose}
use Rattle.job_file.specs.JobFile.{is_written}
use Rattle.job_file.specs.Jobs.{clash_among, read_names}
use Rattle.job_file.proofs.names.clash_among.Given as goal

abbrev pub invariant-loop-job : goal.invariant-loop-job
invariant-loop-job l = record {
  those : HasThose l.taken (λ name. has (read_names l.own_name l.keyring l.jobs) name || is_written (take l.job-index l.jobs) name);
  none : clash_among (read_names l.own_name l.keyring l.jobs) [] l.jobs ≡ clash_among (read_names l.own_name l.keyring l.jobs) (take l.job-index l.jobs) (drop l.job-index l.jobs);
}
