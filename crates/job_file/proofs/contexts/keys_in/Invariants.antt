-- The keys are those so far, and those of the values from this one on.
use Rattle.std.proofs.Common.{◌≡◌, true, [], drop}
use Rattle.std.specs.List.{list_all}
use Rattle.context_codec.specs.Parts.{holds}
use Rattle.serde_json.specs.View.{items_view}
use Rattle.job_file.specs.JobForm.{keys_in}
use Rattle.job_file.proofs.contexts.keys_in.Given as goal

abbrev pub invariant-loop-value : goal.invariant-loop-value
invariant-loop-value l =
    record {
      whole : keys_in l.context [] (items_view l.values) ≡ keys_in l.context l.keys (items_view (drop l.value-index l.values));
      held : list_all (holds l.context) l.keys ≡ true;
    }
