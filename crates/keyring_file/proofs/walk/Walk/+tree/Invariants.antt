-- A node that is read is one level below the node before it.
use Rattle.std.proofs.Common.{◌≡◌, ◌+◌, ◌*◌, drop}
use Rattle.serde_json.specs.View.{items_view}
use Rattle.multi_keyring.specs.Nodes.{forest}
use Rattle.keyring_file.specs.Found.{met, wraps_of}
use Rattle.keyring_file.specs.Room.{LevelsHaveRoom}
use Rattle.keyring_file.specs.Tree.{row, tree}
use Rattle.keyring_file.proofs.Rows.{behind_these}
use Rattle.keyring_file.proofs.walk.Walk.+tree.Given as goal

abbrev pub decreases-tree : goal.decreases-tree
decreases-tree g l = 4 * l.levels

abbrev pub decreases-formed : goal.decreases-formed
decreases-formed g l = 4 * l.levels + 3

abbrev pub decreases-multi : goal.decreases-multi
decreases-multi g l = 4 * l.levels + 2

abbrev pub decreases-optional : goal.decreases-optional
decreases-optional g l = 4 * l.levels + 1

abbrev pub decreases-row : goal.decreases-row
decreases-row g l = 4 * l.levels + 1

-- the trees so far, and behind them those that are still read, are the whole
abbrev pub invariant-row-loop-node : goal.invariant-row-loop-node
invariant-row-loop-node g l =
    record {
      room : LevelsHaveRoom l.levels (met l.self);
      whole : row (tree (wraps_of g.P.Keyring.meaning) l.version l.levels) (items_view l.nodes) (met l.fn.self)
          ≡ behind_these (forest l.trees.items) (row (tree (wraps_of g.P.Keyring.meaning) l.version l.levels) (items_view (drop l.node-index l.nodes)) (met l.self));
    }
