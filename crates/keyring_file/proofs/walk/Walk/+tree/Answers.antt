-- Each node is read as the definition reads it, and below it there is room for the nodes that it has.
use Rattle.std.proofs.Common.{rules, ◌+◌, ◌∷◌, [], drop, sym, ap, ◌∙◌, arith}
use Rattle.std.specs.Prelude.{option_map, option_to_list}
use Rattle.serde_json.specs.View.{view, items_view}
use Rattle.multi_keyring.specs.Nodes.{forest, generator_first}
use Rattle.multi_keyring.specs.Making.{multi_fault}
use Rattle.keyring_file.specs.Found.{met, wraps_of, form_value}
use Rattle.keyring_file.specs.Tree.{row, tree}
use Rattle.keyring_file.proofs.Facts.{room_after, tree_read}
use Rattle.keyring_file.proofs.Forms.{form_fit}
use Rattle.keyring_file.proofs.Multis.{few_children, members_made, never_refused, optional_room}
use Rattle.keyring_file.proofs.Rows.{behind_these, row_done, row_fails, row_more, stops, tree_bottom, tree_formed, tree_unshaped}
use Rattle.keyring_file.proofs.walk.Walk.+tree.Goals as goal

pub multi-row-requires : goal.multi-row-requires
multi-row-requires g t c =
    λ κs held. (
      omega (arith, c.decreases),
      (
        search rules,
        optional_room (wraps_of g.P.Keyring.meaning) c.args.version c.args.levels (option_map (λ node. view node.now) c.args.generator) (met c.args.self.now)
            (forest (option_to_list c.in_ok-generator.generator), met c.optional.new.self) c.in_ok-generator.ensures.gives c.requires.room,
      ),
    )

pub multi-new-requires : goal.multi-new-requires
multi-new-requires g t c =
    few_children (wraps_of g.P.Keyring.meaning) c.args.version c.args.levels (items_view c.args.children.now) c.in_ok-children.children.items (met c.optional.new.self) (met c.row.new.self) c.in_ok-children.ensures
    (optional_room (wraps_of g.P.Keyring.meaning) c.args.version c.args.levels (option_map (λ node. view node.now) c.args.generator) (met c.args.self.now)
    (forest (option_to_list c.in_ok-generator.generator), met c.optional.new.self) c.in_ok-generator.ensures.gives c.requires.room)

pub multi-unreachable-requires : goal.multi-unreachable-requires
multi-unreachable-requires g t c =
    never_refused (multi_fault g.P.Keyring.meaning (generator_first c.in_ok-generator.generator c.in_ok-children.children.items)) _ c.in-Err._refusal
    (members_made g.P.Keyring.meaning c.args.version c.args.levels (option_map (λ node. view node.now) c.args.generator) (items_view c.args.children.now) c.in_ok-generator.generator
    c.in_ok-children.children.items (met c.args.self.now) (met c.optional.new.self) (met c.row.new.self) c.requires.low c.requires.room c.requires.member c.in_ok-generator.ensures.gives
    c.in_ok-children.ensures) c.in-Err.ensures

pub row-returns-in_err-tree : goal.row-returns-in_err-tree
row-returns-in_err-tree g t c =
    let below = tree (wraps_of g.P.Keyring.meaning) c.args.version c.args.levels in
    stops (λ node. forest (node ∷ [])) _ c.from_residual.result c.in_err-tree.field-0.0 c.tree.new.self (below (view c.node-item.result) (met c.loop-node.self))
    (row below (items_view c.args.nodes.now) (met c.args.self.now)) (search rules)
    (λ refusal fails. c.loop-node.invariant.whole
    ∙ row_fails below c.args.nodes.now c.loop-node.node-index c.node-item.result (omega (arith, c.loop-node-test.true)) c.node-item.is (forest c.loop-node.trees.items)
    (met c.loop-node.self) refusal fails)
    c.in_err-tree.ensures

pub row-loop-node-preserved : goal.row-loop-node-preserved
row-loop-node-preserved g t c =
    let wraps = wraps_of g.P.Keyring.meaning in
    let read = tree_read wraps c.args.version c.args.levels (view c.node-item.result) (met c.loop-node.self) (forest (c.in_ok-tree.tree ∷ []), met c.tree.new.self) c.in_ok-tree.ensures in
    record {
      room = room_after wraps c.args.levels (forest (c.in_ok-tree.tree ∷ [])) (met c.loop-node.self) (met c.tree.new.self) read.read c.loop-node.invariant.room;
      whole = c.loop-node.invariant.whole
          ∙ row_more (tree wraps c.args.version c.args.levels) c.args.nodes.now c.loop-node.node-index c.node-item.result (omega (arith, c.loop-node-test.true)) c.node-item.is c.loop-node.trees.items
          c.in_ok-tree.tree (met c.loop-node.self) (met c.tree.new.self) c.in_ok-tree.ensures
          ∙ ap (λ trees. behind_these (forest trees) (row (tree wraps c.args.version c.args.levels) (items_view (drop (c.loop-node.node-index + 1) c.args.nodes.now)) (met c.tree.new.self)))
          (sym c.in_ok-push.ensures.items);
    }

pub row-returns : goal.row-returns
row-returns g t c =
    c.loop-node.invariant.whole
    ∙ row_done (tree (wraps_of g.P.Keyring.meaning) c.args.version c.args.levels) c.args.nodes.now c.loop-node.node-index (forest c.loop-node.trees.items) (met c.loop-node.self)
    (omega (arith, c.loop-node-test.false, c.loop-node.auto.node-index-end))

pub tree-returns-in_default : goal.tree-returns-in_default
tree-returns-in_default g t c = tree_unshaped (wraps_of g.P.Keyring.meaning) c.args.version c.args.levels (view c.args.node.now) (met c.args.self.now) (search rules)

pub tree-returns-then-levels-eq0 : goal.tree-returns-then-levels-eq0
tree-returns-then-levels-eq0 g t c =
    tree_bottom (wraps_of g.P.Keyring.meaning) c.args.version c.args.levels (view c.args.node.now) (met c.args.self.now) (form_value c.in-Some.form) (sym c.in-Some.ensures) c.if-levels-eq0.true

pub tree-formed-requires : goal.tree-formed-requires
tree-formed-requires g t c =
    λ κs held. (
      omega (arith, c.decreases, c.if-levels-eq0.false),
      (
        search rules,
        (
          record { few = omega (arith, c.requires.few); leaves = c.requires.leaves; keys = c.requires.keys; nodes = omega (arith, c.requires.nodes, c.if-levels-eq0.false) },
          (omega (arith, c.requires.few, c.if-levels-eq0.false), form_fit c.args.version (view c.args.node.now) (form_value c.in-Some.form) (sym c.in-Some.ensures)),
        ),
      ),
    )

pub tree-returns : goal.tree-returns
tree-returns g t c =
    rw (tree_formed (wraps_of g.P.Keyring.meaning) c.args.version c.args.levels (view c.args.node.now) (met c.args.self.now) (form_value c.in-Some.form) (sym c.in-Some.ensures) c.if-levels-eq0.false)
    c.formed.ensures
