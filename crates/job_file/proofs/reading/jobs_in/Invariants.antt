-- The jobs so far, and behind them those of the values that are still read, are the whole.
use Rattle.std.proofs.Common.{◌≡◌, ◌+◌, All, length, drop}
use Rattle.job_file.specs.JobFile.{IsWork}
use Rattle.serde_json.specs.View.{items_view}
use Rattle.job_file.specs.Jobs.{jobs_from}
use Rattle.job_file.proofs.Rows.{behind}
use Rattle.job_file.proofs.reading.jobs_in.Given as goal

abbrev pub invariant-loop-value : goal.invariant-loop-value
invariant-loop-value l =
    record {
      number : l.number ≡ l.value-index;
      count : length l.jobs.items ≡ l.value-index;
      fit : All (λ job. IsWork job.work) l.jobs.items;
      whole : jobs_from 1 (items_view l.values) ≡ behind l.jobs.items (jobs_from (l.number + 1) (items_view (drop l.value-index l.values)));
    }
