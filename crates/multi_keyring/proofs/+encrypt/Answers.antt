use Rattle.std.proofs.Common.{rules, arith, ◌≡◌, ◌+◌, refl, sym, ap, ◌∙◌, subst, List, ◌++◌, None, map, min, slice_set}
use Rattle.std.specs.Prelude.{is_some, Err, IfOk, IfErr, OnOk}
use Rattle.std.specs.Option.{option_copied}
use Rattle.std.proofs.lemmas.List.Elements.{All-append, All-same}
use Rattle.std.proofs.lemmas.Result.{err_from_is_err_and}
use Rattle.edk_codec.specs.Entry.{Entry, IsEntry}
use Rattle.keyring_trait.specs.Keyring.{KeyringMeaning, Wraps, WrapCause, refusal_with, wanted}
use Rattle.keyring_trait.specs.declared.ring_refusals.RingError.TheVariants.{Refused, Memory}
use Rattle.multi_keyring.specs.Forest.{tallest}
use Rattle.multi_keyring.specs.TreeFalls.{members_fall}
use Rattle.multi_keyring.specs.Nodes.{all_of}
use Rattle.multi_keyring.specs.Tree.{all_faults, all_uses, all_wraps, joined_members, meanings, tree_meaning}
use Rattle.multi_keyring.proofs.Meanings.{meanings-forest, row_is, joined_row}
use Rattle.multi_keyring.proofs.Finding.{stays_long, stays_same}
use Rattle.multi_keyring.proofs.Appending.{begins, err_is, kept_here, once_here, cause_here, step_here, done, done_appends, done_by}
use Rattle.multi_keyring.proofs.Using.{once_any, row_failed, wraps_failed}
use Rattle.keyring_trait.proofs.Using.{once-weaker, unasked_once}
use Rattle.multi_keyring.proofs.Unvisited.{still_unvisited}
use Rattle.multi_keyring.proofs.Multis.{value_of, height_stays, value_height, multi_goes, multi_wraps_by, split_is, children_answer, generator_answers, generator_by, generator_kept, generator_once}
use Rattle.multi_keyring.proofs.+encrypt.Goals as goal

pub tree::Members::encrypt-returns-in-Some-clause-stays :
    goal.tree::Members::encrypt-returns-in-Some-clause-stays
tree::Members::encrypt-returns-in-Some-clause-stays g t c = stays_same g.P.Keyring.meaning (all_of c.args.self.now) c.entry_count-wraps.ensures.counted

pub tree::Members::encrypt-returns-then-wraps-gt-MAX_WRAPS-clause-stays :
    goal.tree::Members::encrypt-returns-then-wraps-gt-MAX_WRAPS-clause-stays
tree::Members::encrypt-returns-then-wraps-gt-MAX_WRAPS-clause-stays g t c = stays_same g.P.Keyring.meaning (all_of c.args.self.now) c.entry_count-wraps.ensures.counted

pub tree::Members::encrypt-returns-in_err-begun-in-Some-generator-clause-stays :
    goal.tree::Members::encrypt-returns-in_err-begun-in-Some-generator-clause-stays
tree::Members::encrypt-returns-in_err-begun-in-Some-generator-clause-stays g t c =
    generator_kept g.P.Keyring.meaning c.args.self.now c.in-Some-generator.generator c.encrypt.new.self c.in-Some-generator.is
    (record { height = c.encrypt.ensures.height; goes = c.encrypt.ensures.goes }) c.entry_count-wraps.ensures.counted

pub tree::Members::encrypt-returns-in_ok-begun-in-Some-generator-clause-wraps :
    goal.tree::Members::encrypt-returns-in_ok-begun-in-Some-generator-clause-wraps
tree::Members::encrypt-returns-in_ok-begun-in-Some-generator-clause-wraps g t c =
    generator_answers g.P.Keyring.meaning c.args.self.now c.in-Some-generator.generator c.args.context.now c.args.random.now c.split_at.result.0.now c.split_at.result.1.now (option_copied c.args.key)
    c.in_ok-begun-in-Some-generator.begun c.wrap_with_all-in-Some-generator.result c.in-Some-generator.is c.entry_count-wraps.ensures.counted
    (omega (arith, c.entry_count-wraps.ensures.value, c.if-wraps-gt-MAX_WRAPS.false)) (ap option_copied c.in-None.is)
    (split_is _ c.args.random.now c.split_at.result.0.now c.split_at.result.1.now c.split_at.ensures.front c.split_at.ensures.back)
    (omega (arith, c.split_at.ensures.front_len, c.entry_count.ensures.value)) c.in_ok-begun-in-Some-generator.ensures.wraps c.wrap_with_all-in-Some-generator.ensures.appends
    c.wrap_with_all-in-Some-generator.ensures.key

pub tree::Multi::encrypt-encrypt-requires : goal.tree::Multi::encrypt-encrypt-requires
tree::Multi::encrypt-encrypt-requires g t c κs within = (
  omega (arith, c.decreases, members_fall c.self.inside.members.generator c.self.inside.members.children.items, ap (λ v. tallest v.1) c.self.view_is),
  (search rules, (c.self.invariant.1, c.requires ∙ ap (λ n. wanted (is_some c.args.key) (min n 64)) (ap all_wraps (row_is g.P.Keyring.meaning c.self.inside.members c.args.self.now c.self.view_is)))),
)

pub tree::Multi::encrypt-invariant_of-self : goal.tree::Multi::encrypt-invariant_of-self
tree::Multi::encrypt-invariant_of-self g t c = (
  c.self.invariant.0,
  omega (arith, c.encrypt.ensures.few, c.self.invariant.1),
  ap (λ n. n + 1) (height_stays g.P.Keyring.meaning c.self.inside.members c.encrypt.new.self c.encrypt.ensures.stays) ∙ c.self.invariant.2,
)

pub tree::Multi::encrypt-returns-clause-height : goal.tree::Multi::encrypt-returns-clause-height
tree::Multi::encrypt-returns-clause-height g t c =
    value_height g.P.Keyring.meaning c.self.inside.members c.encrypt.new.self c.args.self.now (value_of c.encrypt.new.self) c.self.view_is refl c.encrypt.ensures.stays

pub tree::Multi::encrypt-returns-clause-goes : goal.tree::Multi::encrypt-returns-clause-goes
tree::Multi::encrypt-returns-clause-goes g t c =
    multi_goes g.P.Keyring.meaning c.self.inside.members c.encrypt.new.self c.args.self.now (value_of c.encrypt.new.self) c.self.view_is refl c.encrypt.ensures.same c.encrypt.ensures.stays

pub tree::Multi::encrypt-returns-clause-wraps : goal.tree::Multi::encrypt-returns-clause-wraps
tree::Multi::encrypt-returns-clause-wraps g t c =
    subst (λ (m : KeyringMeaning). IfOk c.encrypt.result (Wraps m c.args.context.now c.args.random.now (option_copied c.args.key)))
    (sym (joined_row g.P.Keyring.meaning c.self.inside.members c.args.self.now c.self.view_is)) c.encrypt.ensures.wraps

pub tree::Multi::encrypt-returns-clause-taken : goal.tree::Multi::encrypt-returns-clause-taken
tree::Multi::encrypt-returns-clause-taken g t c =
    subst (λ (m : KeyringMeaning). OnOk c.encrypt.result (refusal_with (is_some c.args.key) m ≡ None))
    (sym (joined_row g.P.Keyring.meaning c.self.inside.members c.args.self.now c.self.view_is)) c.encrypt.ensures.taken

pub tree::Multi::encrypt-returns-clause-cause : goal.tree::Multi::encrypt-returns-clause-cause
tree::Multi::encrypt-returns-clause-cause g t c =
    subst (λ (ms : List KeyringMeaning). IfErr c.encrypt.result
    (WrapCause (refusal_with (is_some c.args.key) (joined_members c.args.self.now.0 (meanings g.P.Keyring.meaning c.args.self.now.1))) (all_faults (meanings g.P.Keyring.meaning c.args.self.now.1)) (all_faults ms)))
    (sym (meanings-forest g.P.Keyring.meaning (all_of c.encrypt.new.self)))
    (subst (λ (m : KeyringMeaning). IfErr c.encrypt.result
    (WrapCause (refusal_with (is_some c.args.key) m) m.faults (all_faults (map (tree_meaning g.P.Keyring.meaning) (all_of c.encrypt.new.self)))))
    (sym (joined_row g.P.Keyring.meaning c.self.inside.members c.args.self.now c.self.view_is)) c.encrypt.ensures.cause)

pub tree::Multi::encrypt-returns-clause-used : goal.tree::Multi::encrypt-returns-clause-used
tree::Multi::encrypt-returns-clause-used g t c =
    multi_wraps_by g.P.Keyring.meaning c.self.inside.members c.encrypt.new.self c.args.self.now (value_of c.encrypt.new.self) c.args.context.now c.args.random.now (option_copied c.args.key)
    c.encrypt.result c.self.view_is refl c.encrypt.ensures.used

pub tree::Members::encrypt-returns-in-Some-clause-used :
    goal.tree::Members::encrypt-returns-in-Some-clause-used
tree::Members::encrypt-returns-in-Some-clause-used g t c =
    let uses = all_uses (map (tree_meaning g.P.Keyring.meaning) (all_of c.args.self.now)) in
    wraps_failed uses uses (min (all_wraps (map (tree_meaning g.P.Keyring.meaning) (all_of c.args.self.now))) 64) c.args.context.now c.args.random.now (option_copied c.args.key) (Err (Refused c.in-Some.refusal)) (Refused c.in-Some.refusal) refl
    (unasked_once uses)

pub tree::Members::encrypt-returns-then-wraps-gt-MAX_WRAPS-clause-used :
    goal.tree::Members::encrypt-returns-then-wraps-gt-MAX_WRAPS-clause-used
tree::Members::encrypt-returns-then-wraps-gt-MAX_WRAPS-clause-used g t c =
    let uses = all_uses (map (tree_meaning g.P.Keyring.meaning) (all_of c.args.self.now)) in
    wraps_failed uses uses (min (all_wraps (map (tree_meaning g.P.Keyring.meaning) (all_of c.args.self.now))) 64) c.args.context.now c.args.random.now (option_copied c.args.key) (Err (Memory)) (Memory) refl
    (unasked_once uses)

pub tree::Members::encrypt-returns-in_err-begun-in-Some-generator-clause-used :
    goal.tree::Members::encrypt-returns-in_err-begun-in-Some-generator-clause-used
tree::Members::encrypt-returns-in_err-begun-in-Some-generator-clause-used g t c =
    wraps_failed _ _ _ c.args.context.now c.args.random.now _ c.from_residual.result c.in_err-begun-in-Some-generator.field-0.0
    (let p = err_from_is_err_and c.from_residual.result c.from_residual.ensures.1 in p.1 ∙ ap Err p.2)
    (generator_once g.P.Keyring.meaning c.args.self.now c.in-Some-generator.generator c.encrypt.new.self c.in-Some-generator.is (once_any _ _ _ c.encrypt.ensures.used))

pub tree::Members::encrypt-returns-in_ok-begun-in-Some-generator-clause-used :
    goal.tree::Members::encrypt-returns-in_ok-begun-in-Some-generator-clause-used
tree::Members::encrypt-returns-in_ok-begun-in-Some-generator-clause-used g t c =
    generator_by g.P.Keyring.meaning c.args.self.now c.in-Some-generator.generator c.encrypt.new.self c.wrap_with_all-in-Some-generator.new.nodes.items c.args.context.now c.args.random.now
    c.split_at.result.0.now c.split_at.result.1.now (option_copied c.args.key) c.in_ok-begun-in-Some-generator.begun c.wrap_with_all-in-Some-generator.result c.in-Some-generator.is
    (omega (arith, c.entry_count-wraps.ensures.value, c.if-wraps-gt-MAX_WRAPS.false))
    (ap option_copied c.in-None.is) (split_is _ c.args.random.now c.split_at.result.0.now c.split_at.result.1.now c.split_at.ensures.front c.split_at.ensures.back)
    (omega (arith, c.split_at.ensures.front_len, c.entry_count.ensures.value)) c.wrap_with_all-in-Some-generator.ensures.key c.in_ok-begun-in-Some-generator.ensures.used
    c.wrap_with_all-in-Some-generator.ensures.used

pub wrapping::wrap_with_all-returns-in_err-append-clause-used :
    goal.wrapping::wrap_with_all-returns-in_err-append-clause-used
wrapping::wrap_with_all-returns-in_err-append-clause-used g t c =
    row_failed _ _ _ c.args.context.now c.args.begun.key c.args.random.now c.args.begun.entries c.from_residual-in_err-append.result Memory
    (let p = err_from_is_err_and c.from_residual-in_err-append.result c.from_residual-in_err-append.ensures.1 in p.1 ∙ ap Err p.2)
    (once_here g.P.Keyring.meaning c.args.nodes.now.items c.loop-i.nodes.items c.loop-i.i c.args.context.now c.args.begun.key c.args.random.now c.loop-i.rest.now c.args.begun.entries
    c.loop-i.entries.items c.index_mut-node.result.now c.encrypt.new.self c.loop-i.invariant.1 (omega (arith, c.loop-i-test.true, c.loop-i.invariant.0.0)) (sym c.index_mut-node.ensures.value) (once_any _ _ _ c.encrypt.ensures.used))

pub wrapping::wrap_with_all-returns-in_err-wrapped-clause-used :
    goal.wrapping::wrap_with_all-returns-in_err-wrapped-clause-used
wrapping::wrap_with_all-returns-in_err-wrapped-clause-used g t c =
    row_failed _ _ _ c.args.context.now c.args.begun.key c.args.random.now c.args.begun.entries c.from_residual.result c.in_err-wrapped.field-0.0
    (let p = err_from_is_err_and c.from_residual.result c.from_residual.ensures.1 in p.1 ∙ ap Err p.2)
    (once_here g.P.Keyring.meaning c.args.nodes.now.items c.loop-i.nodes.items c.loop-i.i c.args.context.now c.args.begun.key c.args.random.now c.loop-i.rest.now c.args.begun.entries
    c.loop-i.entries.items c.index_mut-node.result.now c.encrypt.new.self c.loop-i.invariant.1 (omega (arith, c.loop-i-test.true, c.loop-i.invariant.0.0)) (sym c.index_mut-node.ensures.value) (once_any _ _ _ c.encrypt.ensures.used))

pub wrapping::wrap_with_all-returns-clause-used : goal.wrapping::wrap_with_all-returns-clause-used
wrapping::wrap_with_all-returns-clause-used g t c =
    done_by g.P.Keyring.meaning c.args.nodes.now.items c.loop-i.nodes.items c.loop-i.i c.args.context.now c.args.begun.key c.args.random.now c.loop-i.rest.now c.args.begun.entries
    c.loop-i.entries.items c.new.result c.loop-i.invariant.1 (omega (arith, c.loop-i-test.false, c.loop-i.invariant.0.0)) c.new.ensures.entries

pub wrapping::wrap_with_all-loop-i-init : goal.wrapping::wrap_with_all-loop-i-init
wrapping::wrap_with_all-loop-i-init g t c = (
  search rules,
  rw c.into_parts-key.ensures.entries (begins g.P.Keyring.meaning c.args.nodes.now.items c.deref.result.now c.args.context.now c.args.begun.key c.args.random.now c.args.begun.entries
      c.deref.ensures.value c.entry_count_of-count.ensures.counted c.requires.takes c.requires.room),
  c.into_parts-key.ensures.key,
  All-same IsEntry _ _ c.into_parts-key.ensures.entries c.into_parts-key.ensures.each,
)

pub wrapping::wrap_with_all-returns-in_err-wrapped-clause-cause :
    goal.wrapping::wrap_with_all-returns-in_err-wrapped-clause-cause
wrapping::wrap_with_all-returns-in_err-wrapped-clause-cause g t c =
    err_is c.from_residual.result c.in_err-wrapped.field-0.0
    (WrapCause None (all_faults (map (tree_meaning g.P.Keyring.meaning) c.args.nodes.now.items))
    (all_faults (map (tree_meaning g.P.Keyring.meaning) (slice_set c.loop-i.nodes.items c.loop-i.i c.encrypt.new.self))))
    (let p = err_from_is_err_and c.from_residual.result c.from_residual.ensures.1 in p.1 ∙ ap Err p.2)
    (cause_here g.P.Keyring.meaning c.args.nodes.now.items c.loop-i.nodes.items c.loop-i.i c.args.context.now c.args.begun.key c.args.random.now c.loop-i.rest.now c.args.begun.entries
    c.loop-i.entries.items c.index_mut-node.result.now c.encrypt.new.self c.in_err-wrapped.field-0.0 c.loop-i.invariant.1 (omega (arith, c.loop-i-test.true, c.loop-i.invariant.0.0)) (sym c.index_mut-node.ensures.value) c.in_err-wrapped.ensures.cause)

pub wrapping::wrap_with_all-returns-in_err-append-clause-stays :
    goal.wrapping::wrap_with_all-returns-in_err-append-clause-stays
wrapping::wrap_with_all-returns-in_err-append-clause-stays g t c =
    kept_here g.P.Keyring.meaning c.args.nodes.now.items c.loop-i.nodes.items c.loop-i.i c.args.context.now c.args.begun.key c.args.random.now c.loop-i.rest.now c.args.begun.entries
    c.loop-i.entries.items c.index_mut-node.result.now c.encrypt.new.self c.loop-i.invariant.1 (omega (arith, c.loop-i-test.true, c.loop-i.invariant.0.0)) (sym c.index_mut-node.ensures.value) (record { height = c.encrypt.ensures.height; goes = c.encrypt.ensures.goes })

pub wrapping::wrap_with_all-returns-in_err-wrapped-clause-stays :
    goal.wrapping::wrap_with_all-returns-in_err-wrapped-clause-stays
wrapping::wrap_with_all-returns-in_err-wrapped-clause-stays g t c =
    kept_here g.P.Keyring.meaning c.args.nodes.now.items c.loop-i.nodes.items c.loop-i.i c.args.context.now c.args.begun.key c.args.random.now c.loop-i.rest.now c.args.begun.entries
    c.loop-i.entries.items c.index_mut-node.result.now c.encrypt.new.self c.loop-i.invariant.1 (omega (arith, c.loop-i-test.true, c.loop-i.invariant.0.0)) (sym c.index_mut-node.ensures.value) (record { height = c.encrypt.ensures.height; goes = c.encrypt.ensures.goes })

pub wrapping::wrap_with_all-loop-i-preserved : goal.wrapping::wrap_with_all-loop-i-preserved
wrapping::wrap_with_all-loop-i-preserved g t c = (
  still_unvisited c.loop-i.nodes.items c.args.nodes.now.items c.loop-i.i c.encrypt.new.self c.loop-i.invariant.0,
  step_here g.P.Keyring.meaning c.args.nodes.now.items c.loop-i.nodes.items c.loop-i.i c.args.context.now c.args.begun.key c.args.random.now c.loop-i.rest.now c.split_at.result.0.now
      c.split_at.result.1.now c.args.begun.entries c.loop-i.entries.items c.append.new.self.items c.index_mut-node.result.now c.encrypt.new.self c.in_ok-wrapped.wrapped c.loop-i.invariant.1
      (omega (arith, c.loop-i-test.true, c.loop-i.invariant.0.0)) (sym c.index_mut-node.ensures.value)
      (split_is _ c.loop-i.rest.now c.split_at.result.0.now c.split_at.result.1.now c.split_at.ensures.front c.split_at.ensures.back)
      (omega (arith, c.split_at.ensures.front_len, c.entry_count.ensures.value))
      (record { kept = record { height = c.encrypt.ensures.height; goes = c.encrypt.ensures.goes }; wraps = rw c.loop-i.invariant.2 at c.in_ok-wrapped.ensures.wraps; once = once-weaker _ _ _ _ (λ keys by. by) c.in_ok-wrapped.ensures.used })
      (c.in_ok-append.ensures.items ∙ ap (λ (made : List Entry). c.loop-i.entries.items ++ made) c.into_parts-made.ensures.entries),
  c.loop-i.invariant.2,
  All-same IsEntry c.append.new.self.items (c.loop-i.entries.items ++ c.into_parts-made.result.1.items) c.in_ok-append.ensures.items
      (All-append IsEntry _ _ c.loop-i.invariant.3 (All-same IsEntry _ _ c.into_parts-made.ensures.entries c.into_parts-made.ensures.each)),
)

pub tree::Members::encrypt-returns-in_ok-begun-in-Some-generator-clause-few :
    goal.tree::Members::encrypt-returns-in_ok-begun-in-Some-generator-clause-few
tree::Members::encrypt-returns-in_ok-begun-in-Some-generator-clause-few g t c =
    stays_long g.P.Keyring.meaning c.args.self.now.children.items c.wrap_with_all-in-Some-generator.new.nodes.items c.wrap_with_all-in-Some-generator.ensures.stays

pub tree::Members::encrypt-returns-in-Some-key-clause-few :
    goal.tree::Members::encrypt-returns-in-Some-key-clause-few
tree::Members::encrypt-returns-in-Some-key-clause-few g t c =
    stays_long g.P.Keyring.meaning c.args.self.now.children.items c.wrap_with_all.new.nodes.items c.wrap_with_all.ensures.stays

pub wrapping::wrap_with_all-returns-clause-stays : goal.wrapping::wrap_with_all-returns-clause-stays
wrapping::wrap_with_all-returns-clause-stays g t c =
    (done g.P.Keyring.meaning c.args.nodes.now.items c.loop-i.nodes.items c.loop-i.i c.args.context.now c.args.begun.key c.args.random.now c.loop-i.rest.now c.args.begun.entries
    c.loop-i.entries.items c.loop-i.invariant.1 (omega (arith, c.loop-i-test.false, c.loop-i.invariant.0.0))).stays

pub wrapping::wrap_with_all-returns-clause-appends : goal.wrapping::wrap_with_all-returns-clause-appends
wrapping::wrap_with_all-returns-clause-appends g t c =
    done_appends g.P.Keyring.meaning c.args.nodes.now.items c.loop-i.nodes.items c.loop-i.i c.args.context.now c.args.begun.key c.args.random.now c.loop-i.rest.now c.args.begun.entries
    c.loop-i.entries.items c.new.result c.loop-i.invariant.1 (omega (arith, c.loop-i-test.false, c.loop-i.invariant.0.0)) c.new.ensures.entries
