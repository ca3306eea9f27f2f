-- A node that is written anew is one level below the node before it.
use Rattle.std.proofs.Common.{◌≡◌, ◌+◌, ◌*◌, drop}
use Rattle.serde_json.specs.View.{items_view}
use Rattle.keyring_file.specs.Found.{met}
use Rattle.keyring_file.specs.Room.{HasSpace}
use Rattle.keyring_file.specs.Migrate.{migrated, migrated_row}
use Rattle.keyring_file.proofs.Rewritten.{behind_made}
use Rattle.keyring_file.proofs.walk.Walk.+migrated.Given as goal

abbrev pub decreases-migrated : goal.decreases-migrated
decreases-migrated g l = 4 * l.levels

abbrev pub decreases-migrated_form : goal.decreases-migrated_form
decreases-migrated_form g l = 4 * l.levels + 3

abbrev pub decreases-migrated_multi : goal.decreases-migrated_multi
decreases-migrated_multi g l = 4 * l.levels + 2

abbrev pub decreases-migrated_optional : goal.decreases-migrated_optional
decreases-migrated_optional g l = 4 * l.levels + 1

abbrev pub decreases-migrated_row : goal.decreases-migrated_row
decreases-migrated_row g l = 4 * l.levels + 1

-- the nodes so far, and behind them those that are still written, are the whole
abbrev pub invariant-migrated_row-loop-node : goal.invariant-migrated_row-loop-node
invariant-migrated_row-loop-node g l =
    record {
      space : HasSpace l.levels (met l.self);
      whole : migrated_row (migrated l.plan.retire l.plan.version l.levels) (items_view l.nodes) (met l.fn.self)
          ≡ behind_made l.made.items l.found (migrated_row (migrated l.plan.retire l.plan.version l.levels) (items_view (drop l.node-index l.nodes)) (met l.self));
    }
