use Rattle.std.proofs.Common.{rules, arith, ◌+◌, refl, sym, ap, ◌∙◌, Some, true, false}
use Rattle.std.specs.Prelude.{is_some, Ok, Err}
use Rattle.keyring_trait.specs.declared.ring_refusals.RingError.TheVariants.{Refused, KeyringFault, Memory}
use Rattle.raw_aes_keyring.specs.Keyring.{raw_meaning}
use Rattle.multi_keyring.proofs.Finding.{starts, ends_here, ends_with, goes_on, stays_long, leaf_none, generator_ends, generator_goes_on, after_none, after_fault}
use Rattle.multi_keyring.proofs.Joining.{after, so_far}
use Rattle.multi_keyring.proofs.Unvisited.{still_unvisited}
use Rattle.multi_keyring.proofs.Multis.{value_of, height_stays, value_height, multi_goes, multi_opens, multi_used, multi_behind}
use Rattle.multi_keyring.proofs.+decrypt.Goals.{unwrapping::unwrap_with_any-in-Ok-None, unwrapping::unwrap_with_any-in-Err-KeyringFault}
use Rattle.multi_keyring.proofs.+decrypt.Goals as goal

pub tree::Members::decrypt-returns-in-Ok-Some-clause-unwraps :
    goal.tree::Members::decrypt-returns-in-Ok-Some-clause-unwraps
tree::Members::decrypt-returns-in-Ok-Some-clause-unwraps g t c =
    generator_ends g.P.Keyring.meaning c.args.self.now c.in-Some.generator c.decrypt.new.self c.deref.result.now c.args.context.now c.args.entries.now c.decrypt.result (Ok (Some c.in-Ok-Some.key))
    c.in-Some.is (record { height = c.decrypt.ensures.height; goes = c.decrypt.ensures.goes; opens = c.decrypt.ensures.opens; used = c.decrypt.ensures.used; none = c.decrypt.ensures.none; behind = c.decrypt.ensures.behind })
    (c.in-Ok-Some.is ∙ ap Ok c.in-Ok-Some.field-0-is) (λ n. n) c.deref.ensures.value c.entry_count_of-count.ensures.counted

pub tree::Members::decrypt-returns-in-Err-Refused : goal.tree::Members::decrypt-returns-in-Err-Refused
tree::Members::decrypt-returns-in-Err-Refused g t c = record {
  same = sym (ap is_some c.in-Some.is);
  few = refl;
  unwraps = generator_ends g.P.Keyring.meaning c.args.self.now c.in-Some.generator c.decrypt.new.self c.deref.result.now c.args.context.now c.args.entries.now c.decrypt.result
      (Err (Refused c.in-Err-Refused.refusal)) c.in-Some.is
      (record { height = c.decrypt.ensures.height; goes = c.decrypt.ensures.goes; opens = c.decrypt.ensures.opens; used = c.decrypt.ensures.used; none = c.decrypt.ensures.none; behind = c.decrypt.ensures.behind })
      (c.in-Err-Refused.is ∙ ap Err c.in-Err-Refused.field-0-is) (λ n. n) c.deref.ensures.value c.entry_count_of-count.ensures.counted;
}

pub tree::Members::decrypt-returns-in-Err-Memory : goal.tree::Members::decrypt-returns-in-Err-Memory
tree::Members::decrypt-returns-in-Err-Memory g t c = record {
  same = sym (ap is_some c.in-Some.is);
  few = refl;
  unwraps = generator_ends g.P.Keyring.meaning c.args.self.now c.in-Some.generator c.decrypt.new.self c.deref.result.now c.args.context.now c.args.entries.now c.decrypt.result (Err Memory)
      c.in-Some.is (record { height = c.decrypt.ensures.height; goes = c.decrypt.ensures.goes; opens = c.decrypt.ensures.opens; used = c.decrypt.ensures.used; none = c.decrypt.ensures.none; behind = c.decrypt.ensures.behind })
      (c.in-Err-Memory.is ∙ ap Err c.in-Err-Memory.field-0-is) (λ n. n) c.deref.ensures.value c.entry_count_of-count.ensures.counted;
}

pub tree::Members::decrypt-returns-in-Ok-None-clause-unwraps :
    goal.tree::Members::decrypt-returns-in-Ok-None-clause-unwraps
tree::Members::decrypt-returns-in-Ok-None-clause-unwraps g t c =
    generator_goes_on g.P.Keyring.meaning c.args.self.now false c.in-Some.generator c.decrypt.new.self c.unwrap_with_any-in-Ok-None.new.nodes.items c.args.context.now c.args.entries.now
    c.decrypt.result c.unwrap_with_any-in-Ok-None.result c.unwrap_with_any-in-Ok-None.result c.in-Some.is
    (record { height = c.decrypt.ensures.height; goes = c.decrypt.ensures.goes; opens = c.decrypt.ensures.opens; used = c.decrypt.ensures.used; none = c.decrypt.ensures.none; behind = c.decrypt.ensures.behind })
    (c.in-Ok-None.is ∙ ap Ok c.in-Ok-None.field-0-is) c.unwrap_with_any-in-Ok-None.ensures refl

pub tree::Members::decrypt-returns-in-Ok-Some-unwrap_with_any-clause-unwraps :
    goal.tree::Members::decrypt-returns-in-Ok-Some-unwrap_with_any-clause-unwraps
tree::Members::decrypt-returns-in-Ok-Some-unwrap_with_any-clause-unwraps g t c =
    generator_goes_on g.P.Keyring.meaning c.args.self.now true c.in-Some.generator c.decrypt.new.self c.unwrap_with_any-in-Err-KeyringFault.new.nodes.items c.args.context.now
    c.args.entries.now c.decrypt.result c.unwrap_with_any-in-Err-KeyringFault.result (Ok (Some c.in-Ok-Some-unwrap_with_any.later)) c.in-Some.is
    (record { height = c.decrypt.ensures.height; goes = c.decrypt.ensures.goes; opens = c.decrypt.ensures.opens; used = c.decrypt.ensures.used; none = c.decrypt.ensures.none; behind = c.decrypt.ensures.behind })
    (c.in-Err-KeyringFault.is ∙ ap Err c.in-Err-KeyringFault.field-0-is) c.unwrap_with_any-in-Err-KeyringFault.ensures
    (ap (after true) (c.in-Ok-Some-unwrap_with_any.is ∙ ap Ok c.in-Ok-Some-unwrap_with_any.field-0-is))

pub tree::Members::decrypt-returns-in-Ok-None-unwrap_with_any-clause-unwraps :
    goal.tree::Members::decrypt-returns-in-Ok-None-unwrap_with_any-clause-unwraps
tree::Members::decrypt-returns-in-Ok-None-unwrap_with_any-clause-unwraps g t c =
    generator_goes_on g.P.Keyring.meaning c.args.self.now true c.in-Some.generator c.decrypt.new.self c.unwrap_with_any-in-Err-KeyringFault.new.nodes.items c.args.context.now
    c.args.entries.now c.decrypt.result c.unwrap_with_any-in-Err-KeyringFault.result (Err KeyringFault) c.in-Some.is
    (record { height = c.decrypt.ensures.height; goes = c.decrypt.ensures.goes; opens = c.decrypt.ensures.opens; used = c.decrypt.ensures.used; none = c.decrypt.ensures.none; behind = c.decrypt.ensures.behind })
    (c.in-Err-KeyringFault.is ∙ ap Err c.in-Err-KeyringFault.field-0-is) c.unwrap_with_any-in-Err-KeyringFault.ensures
    (ap (after true) (c.in-Ok-None-unwrap_with_any.is ∙ ap Ok c.in-Ok-None-unwrap_with_any.field-0-is))

pub tree::Members::decrypt-returns-in-Err-clause-unwraps :
    goal.tree::Members::decrypt-returns-in-Err-clause-unwraps
tree::Members::decrypt-returns-in-Err-clause-unwraps g t c =
    generator_goes_on g.P.Keyring.meaning c.args.self.now true c.in-Some.generator c.decrypt.new.self c.unwrap_with_any-in-Err-KeyringFault.new.nodes.items c.args.context.now
    c.args.entries.now c.decrypt.result c.unwrap_with_any-in-Err-KeyringFault.result (Err c.in-Err.error) c.in-Some.is
    (record { height = c.decrypt.ensures.height; goes = c.decrypt.ensures.goes; opens = c.decrypt.ensures.opens; used = c.decrypt.ensures.used; none = c.decrypt.ensures.none; behind = c.decrypt.ensures.behind })
    (c.in-Err-KeyringFault.is ∙ ap Err c.in-Err-KeyringFault.field-0-is) c.unwrap_with_any-in-Err-KeyringFault.ensures (ap (after true) c.in-Err.is)

pub tree::Multi::decrypt-invariant_of-self : goal.tree::Multi::decrypt-invariant_of-self
tree::Multi::decrypt-invariant_of-self g t c = (
  c.self.invariant.0,
  omega (arith, c.decrypt.ensures.few, c.self.invariant.1),
  ap (λ n. n + 1) (height_stays g.P.Keyring.meaning c.self.inside.members c.decrypt.new.self c.decrypt.ensures.unwraps.stays) ∙ c.self.invariant.2,
)

pub tree::Multi::decrypt-returns-clause-height : goal.tree::Multi::decrypt-returns-clause-height
tree::Multi::decrypt-returns-clause-height g t c =
    value_height g.P.Keyring.meaning c.self.inside.members c.decrypt.new.self c.args.self.now (value_of c.decrypt.new.self) c.self.view_is refl c.decrypt.ensures.unwraps.stays

pub tree::Multi::decrypt-returns-clause-goes : goal.tree::Multi::decrypt-returns-clause-goes
tree::Multi::decrypt-returns-clause-goes g t c =
    multi_goes g.P.Keyring.meaning c.self.inside.members c.decrypt.new.self c.args.self.now (value_of c.decrypt.new.self) c.self.view_is refl c.decrypt.ensures.same c.decrypt.ensures.unwraps.stays

pub tree::Multi::decrypt-returns-clause-opens : goal.tree::Multi::decrypt-returns-clause-opens
tree::Multi::decrypt-returns-clause-opens g t c =
    multi_opens g.P.Keyring.meaning c.self.inside.members c.decrypt.new.self c.args.self.now (value_of c.decrypt.new.self) c.args.context.now c.args.entries.now c.decrypt.result
    c.self.view_is refl c.decrypt.ensures.unwraps

pub tree::Multi::decrypt-returns-clause-used : goal.tree::Multi::decrypt-returns-clause-used
tree::Multi::decrypt-returns-clause-used g t c =
    multi_used g.P.Keyring.meaning c.self.inside.members c.decrypt.new.self c.args.self.now (value_of c.decrypt.new.self) c.args.context.now c.args.entries.now c.decrypt.result
    c.self.view_is refl c.decrypt.ensures.unwraps

pub tree::Multi::decrypt-returns-clause-behind : goal.tree::Multi::decrypt-returns-clause-behind
tree::Multi::decrypt-returns-clause-behind g t c =
    multi_behind g.P.Keyring.meaning c.self.inside.members c.decrypt.new.self c.args.self.now (value_of c.decrypt.new.self) c.args.context.now c.args.entries.now c.decrypt.result
    c.self.view_is refl c.decrypt.ensures.unwraps

pub unwrapping::unwrap_with_any-loop-i-init : goal.unwrapping::unwrap_with_any-loop-i-init
unwrapping::unwrap_with_any-loop-i-init g t c = (
  search rules,
  starts g.P.Keyring.meaning c.args.nodes.now.items c.deref.result.now c.args.context.now c.args.entries.now c.deref.ensures.value c.entry_count_of-count.ensures.counted,
)

pub unwrapping::unwrap_with_any-returns-in-Ok-Some :
    goal.unwrapping::unwrap_with_any-returns-in-Ok-Some
unwrapping::unwrap_with_any-returns-in-Ok-Some g t c =
    ends_here g.P.Keyring.meaning c.args.nodes.now.items c.loop-i.nodes.items c.loop-i.i c.loop-i.failed c.args.context.now c.args.entries.now c.index_mut.result.now c.decrypt.new.self
    c.decrypt.result (Ok (Some c.in-Ok-Some.key)) c.loop-i.invariant.1 (omega (arith, c.loop-i-test.true, c.loop-i.invariant.0.0)) (sym c.index_mut.ensures.value)
    (record { height = c.decrypt.ensures.height; goes = c.decrypt.ensures.goes; opens = c.decrypt.ensures.opens; used = c.decrypt.ensures.used; none = c.decrypt.ensures.none; behind = c.decrypt.ensures.behind })
    (c.in-Ok-Some.is ∙ ap Ok c.in-Ok-Some.field-0-is) (λ n. n)

pub unwrapping::unwrap_with_any-returns-in-Err-Refused : goal.unwrapping::unwrap_with_any-returns-in-Err-Refused
unwrapping::unwrap_with_any-returns-in-Err-Refused g t c =
    ends_here g.P.Keyring.meaning c.args.nodes.now.items c.loop-i.nodes.items c.loop-i.i c.loop-i.failed c.args.context.now c.args.entries.now c.index_mut.result.now c.decrypt.new.self
    c.decrypt.result (Err (Refused c.in-Err-Refused.refusal)) c.loop-i.invariant.1 (omega (arith, c.loop-i-test.true, c.loop-i.invariant.0.0)) (sym c.index_mut.ensures.value)
    (record { height = c.decrypt.ensures.height; goes = c.decrypt.ensures.goes; opens = c.decrypt.ensures.opens; used = c.decrypt.ensures.used; none = c.decrypt.ensures.none; behind = c.decrypt.ensures.behind })
    (c.in-Err-Refused.is ∙ ap Err c.in-Err-Refused.field-0-is) (λ n. n)

pub unwrapping::unwrap_with_any-returns-in-Err-Memory : goal.unwrapping::unwrap_with_any-returns-in-Err-Memory
unwrapping::unwrap_with_any-returns-in-Err-Memory g t c =
    ends_here g.P.Keyring.meaning c.args.nodes.now.items c.loop-i.nodes.items c.loop-i.i c.loop-i.failed c.args.context.now c.args.entries.now c.index_mut.result.now c.decrypt.new.self
    c.decrypt.result (Err Memory) c.loop-i.invariant.1 (omega (arith, c.loop-i-test.true, c.loop-i.invariant.0.0)) (sym c.index_mut.ensures.value)
    (record { height = c.decrypt.ensures.height; goes = c.decrypt.ensures.goes; opens = c.decrypt.ensures.opens; used = c.decrypt.ensures.used; none = c.decrypt.ensures.none; behind = c.decrypt.ensures.behind })
    (c.in-Err-Memory.is ∙ ap Err c.in-Err-Memory.field-0-is) (λ n. n)

pub unwrapping::unwrap_with_any-loop-i-preserved :
    goal.unwrapping::unwrap_with_any-loop-i-preserved
unwrapping::unwrap_with_any-loop-i-preserved g t c = (
  still_unvisited c.loop-i.nodes.items c.args.nodes.now.items c.loop-i.i c.decrypt.new.self c.loop-i.invariant.0,
  goes_on g.P.Keyring.meaning c.args.nodes.now.items c.loop-i.nodes.items c.loop-i.i c.loop-i.failed c.match-decrypt.failed c.args.context.now c.args.entries.now c.index_mut.result.now
      c.decrypt.new.self c.decrypt.result c.loop-i.invariant.1 (omega (arith, c.loop-i-test.true, c.loop-i.invariant.0.0)) (sym c.index_mut.ensures.value)
      (record { height = c.decrypt.ensures.height; goes = c.decrypt.ensures.goes; opens = c.decrypt.ensures.opens; used = c.decrypt.ensures.used; none = c.decrypt.ensures.none; behind = c.decrypt.ensures.behind })
      (elim c.match-decrypt.branch [
        | unwrapping::unwrap_with_any-in-Ok-None w ↦
            ap (after c.loop-i.failed) (w.in-Ok-None.is ∙ ap Ok w.in-Ok-None.field-0-is) ∙ (after_none c.loop-i.failed ∙ ap so_far (sym w.failed-is))
        | unwrapping::unwrap_with_any-in-Err-KeyringFault w ↦
            ap (after c.loop-i.failed) (w.in-Err-KeyringFault.is ∙ ap Err w.in-Err-KeyringFault.field-0-is) ∙ (after_fault c.loop-i.failed ∙ ap so_far (sym w.failed-is))
      ]),
)

pub tree::Members::decrypt-returns-in_default-clause-few :
    goal.tree::Members::decrypt-returns-in_default-clause-few
tree::Members::decrypt-returns-in_default-clause-few g t c =
    stays_long g.P.Keyring.meaning c.args.self.now.children.items c.unwrap_with_any.new.nodes.items c.unwrap_with_any.ensures.stays

pub tree::Members::decrypt-returns-in-Ok-None-clause-few :
    goal.tree::Members::decrypt-returns-in-Ok-None-clause-few
tree::Members::decrypt-returns-in-Ok-None-clause-few g t c =
    stays_long g.P.Keyring.meaning c.args.self.now.children.items c.unwrap_with_any-in-Ok-None.new.nodes.items c.unwrap_with_any-in-Ok-None.ensures.stays

pub tree::Members::decrypt-returns-in-Ok-Some-unwrap_with_any-clause-few :
    goal.tree::Members::decrypt-returns-in-Ok-Some-unwrap_with_any-clause-few
tree::Members::decrypt-returns-in-Ok-Some-unwrap_with_any-clause-few g t c =
    stays_long g.P.Keyring.meaning c.args.self.now.children.items c.unwrap_with_any-in-Err-KeyringFault.new.nodes.items c.unwrap_with_any-in-Err-KeyringFault.ensures.stays

pub tree::Members::decrypt-returns-in-Ok-None-unwrap_with_any-clause-few :
    goal.tree::Members::decrypt-returns-in-Ok-None-unwrap_with_any-clause-few
tree::Members::decrypt-returns-in-Ok-None-unwrap_with_any-clause-few g t c =
    stays_long g.P.Keyring.meaning c.args.self.now.children.items c.unwrap_with_any-in-Err-KeyringFault.new.nodes.items c.unwrap_with_any-in-Err-KeyringFault.ensures.stays

pub tree::Members::decrypt-returns-in-Err-clause-few :
    goal.tree::Members::decrypt-returns-in-Err-clause-few
tree::Members::decrypt-returns-in-Err-clause-few g t c =
    stays_long g.P.Keyring.meaning c.args.self.now.children.items c.unwrap_with_any-in-Err-KeyringFault.new.nodes.items c.unwrap_with_any-in-Err-KeyringFault.ensures.stays

pub unwrapping::unwrap_with_any-returns-then-failed :
    goal.unwrapping::unwrap_with_any-returns-then-failed
unwrapping::unwrap_with_any-returns-then-failed g t c =
    ends_with g.P.Keyring.meaning c.args.nodes.now.items c.loop-i.nodes.items c.loop-i.i c.loop-i.failed true c.args.context.now c.args.entries.now c.loop-i.invariant.1
    (omega (arith, c.loop-i-test.false, c.loop-i.invariant.0.0)) c.if-failed.true

pub unwrapping::unwrap_with_any-returns-else-failed :
    goal.unwrapping::unwrap_with_any-returns-else-failed
unwrapping::unwrap_with_any-returns-else-failed g t c =
    ends_with g.P.Keyring.meaning c.args.nodes.now.items c.loop-i.nodes.items c.loop-i.i c.loop-i.failed false c.args.context.now c.args.entries.now c.loop-i.invariant.1
    (omega (arith, c.loop-i-test.false, c.loop-i.invariant.0.0)) c.if-failed.false

pub tree::Node::decrypt-returns-in-Raw-clause-none :
    goal.tree::Node::decrypt-returns-in-Raw-clause-none
tree::Node::decrypt-returns-in-Raw-clause-none g t c =
    rw c.in-Raw.is
    (leaf_none (raw_meaning c.in-Raw.keyring) (raw_meaning c.on_decrypt.new.self) c.args.context.now c.args.entries.now c.on_decrypt.result c.on_decrypt.ensures.opens c.on_decrypt.ensures.cause)
