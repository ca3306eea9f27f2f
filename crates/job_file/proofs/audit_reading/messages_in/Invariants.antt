-- The messages so far, and behind them those of the values that are still read, are the whole.
use Rattle.std.proofs.Common.{◌≡◌, ◌+◌, length, drop}
use Rattle.serde_json.specs.View.{items_view}
use Rattle.job_file.specs.Audit.{messages_from}
use Rattle.job_file.proofs.Rows.{behind}
use Rattle.job_file.proofs.audit_reading.messages_in.Given as goal

abbrev pub invariant-loop-value : goal.invariant-loop-value
invariant-loop-value l =
    record {
      number : l.number ≡ l.value-index;
      count : length l.messages.items ≡ l.value-index;
      whole : messages_from 1 (items_view l.values) ≡ behind l.messages.items (messages_from (l.number + 1) (items_view (drop l.value-index l.values)));
    }
