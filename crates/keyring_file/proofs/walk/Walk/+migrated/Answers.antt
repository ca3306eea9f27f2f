-- Each node is written anew as the definition says, and below it there is room for the nodes that it has.
use Rattle.std.proofs.Common.{rules, ◌≡◌, ◌+◌, ◌-◌, drop, sym, ap, ap₂, subst, ◌∙◌, arith, Bool}
use Rattle.std.specs.Prelude.{◌||◌, option_map}
use Rattle.serde_json.specs.declared.value.Value.{Value}
use Rattle.serde_json.specs.View.{view, items_view}
use Rattle.keyring_file.specs.Found.{met, WalkGives, form_value}
use Rattle.keyring_file.specs.Migrate.{migrated, migrated_form, migrated_row}
use Rattle.keyring_file.proofs.Rewritten.{behind_made, made_bottom, made_done, made_fails, made_formed, made_more, made_unshaped}
use Rattle.keyring_file.proofs.Rows.{stops}
use Rattle.keyring_file.proofs.Spaces.{space_after, space_behind}
use Rattle.keyring_file.proofs.Steps.{with_node}
use Rattle.keyring_file.proofs.walk.Walk.+migrated.Goals.{migrated_row-then-found, migrated_row-else-found}
use Rattle.keyring_file.proofs.walk.Walk.+migrated.Goals as goal

pub migrated-returns-in_default : goal.migrated-returns-in_default
migrated-returns-in_default g t c = made_unshaped c.args.plan.retire c.args.plan.version c.args.levels (view c.args.node.now) (met c.args.self.now) (search rules)

pub migrated-returns-then-levels-eq0 : goal.migrated-returns-then-levels-eq0
migrated-returns-then-levels-eq0 g t c =
    made_bottom c.args.plan.retire c.args.plan.version c.args.levels (view c.args.node.now) (met c.args.self.now) (form_value c.in-Some.form) (sym c.in-Some.ensures) c.if-levels-eq0.true

pub migrated-returns : goal.migrated-returns
migrated-returns g t c =
    let below = migrated c.args.plan.retire c.args.plan.version (c.args.levels - 1) in
    let whole = made_formed c.args.plan.retire c.args.plan.version c.args.levels (view c.args.node.now) (met c.args.self.now) (form_value c.in-Some.form) (sym c.in-Some.ensures)
    c.if-levels-eq0.false in
    subst (λ reading. WalkGives (λ (made : Value × Bool). (view made.0, made.1)) c.migrated_form.result c.migrated_form.new.self reading) (sym whole)
    (subst (λ listed. WalkGives (λ (made : Value × Bool). (view made.0, made.1)) c.migrated_form.result c.migrated_form.new.self
    (migrated_form c.args.plan.retire below (c.args.self.now.nodes + 1) listed (form_value c.in-Some.form) (with_node (met c.args.self.now))))
    c.lists_children-listed.ensures c.migrated_form.ensures)

pub migrated_multi-migrated_row-requires : goal.migrated_multi-migrated_row-requires
migrated_multi-migrated_row-requires g t c =
    λ κs held. (
      omega (arith, c.decreases),
      (
        search rules,
        space_behind c.args.plan.retire c.args.plan.version c.args.levels (option_map (λ node. view node.now) c.args.generator) (met c.args.self.now)
            ((option_map view c.in_ok-generator.generator, c.in_ok-generator.in_generator), met c.migrated_optional.new.self) c.in_ok-generator.ensures c.requires,
      ),
    )

pub migrated_row-returns-in_err-node : goal.migrated_row-returns-in_err-node
migrated_row-returns-in_err-node g t c =
    let below = migrated c.args.plan.retire c.args.plan.version c.args.levels in
    stops (λ (made : Value × Bool). (view made.0, made.1)) _ c.from_residual.result c.in_err-node.field-0.0 c.migrated.new.self (below (view c.node-item.result) (met c.loop-node.self))
    (migrated_row below (items_view c.args.nodes.now) (met c.args.self.now)) (search rules)
    (λ refusal fails. c.loop-node.invariant.whole
    ∙ made_fails below c.args.nodes.now c.loop-node.node-index c.node-item.result (omega (arith, c.loop-node-test.true)) c.node-item.is c.loop-node.made.items c.loop-node.found
    (met c.loop-node.self) refusal fails)
    c.in_err-node.ensures

pub migrated_row-loop-node-preserved : goal.migrated_row-loop-node-preserved
migrated_row-loop-node-preserved g t c =
    let below = migrated c.args.plan.retire c.args.plan.version c.args.levels in
    let found_is : c.if-found.found ≡ (c.loop-node.found || c.in_ok-node.here) = elim c.if-found.branch [
      | migrated_row-then-found w ↦ w.found-is ∙ w.if-found.true ∙ sym (ap (λ b. b || c.in_ok-node.here) w.if-found.true)
      | migrated_row-else-found w ↦ w.found-is ∙ sym (ap (λ b. b || c.in_ok-node.here) w.if-found.false)
    ] in
    record {
      space = space_after c.args.plan.retire c.args.plan.version c.args.levels (view c.node-item.result) (met c.loop-node.self)
          ((view c.in_ok-node.node, c.in_ok-node.here), met c.migrated.new.self) c.in_ok-node.ensures c.loop-node.invariant.space;
      whole = c.loop-node.invariant.whole
          ∙ made_more below c.args.nodes.now c.loop-node.node-index c.node-item.result (omega (arith, c.loop-node-test.true)) c.node-item.is c.loop-node.made.items c.loop-node.found
          c.in_ok-node.node c.in_ok-node.here (met c.loop-node.self) (met c.migrated.new.self) c.in_ok-node.ensures
          ∙ ap₂ (λ made found. behind_made made found (migrated_row below (items_view (drop (c.loop-node.node-index + 1) c.args.nodes.now)) (met c.migrated.new.self)))
          (sym c.in_ok-push.ensures.items) (sym found_is);
    }

pub migrated_row-returns : goal.migrated_row-returns
migrated_row-returns g t c =
    c.loop-node.invariant.whole
    ∙ made_done (migrated c.args.plan.retire c.args.plan.version c.args.levels) c.args.nodes.now c.loop-node.node-index c.loop-node.made.items c.loop-node.found (met c.loop-node.self)
    (omega (arith, c.loop-node-test.false, c.loop-node.auto.node-index-end))
