use Rattle.std.proofs.Common.{rules, arith, refl, sym, ap, ◌∙◌, ◌+◌}
use Rattle.raw_aes_keyring.specs.Keyring.{raw_meaning}
use Rattle.multi_keyring.proofs.LeafUnwrapping.{seat_in, seat_inside, seat_last, seat_few, asks_at, generator_asked, children_asked, one_answers, answers_cause}
use Rattle.multi_keyring.specs.Tree.{all_faults, leaves, meanings, tree_meaning}
use Rattle.multi_keyring.proofs.Leaves.{forest_counts}
use Rattle.multi_keyring.proofs.Measures.{size_at}
use Rattle.multi_keyring.proofs.Multis.{value_of, height_stays, value_height, multi_goes}
use Rattle.multi_keyring.proofs.+leaf_on_decrypt.Goals as goal

pub leaf_unwrapping::ask_leaf_of-leaf_on_decrypt-requires :
    goal.leaf_unwrapping::ask_leaf_of-leaf_on_decrypt-requires
leaf_unwrapping::ask_leaf_of-leaf_on_decrypt-requires g t c κs within =
    let seat = seat_in g.P.Keyring.meaning c.args.nodes.now.items c.deref-2.result.now c.args.leaf c.seat_of-i.result.0 c.seat_of-i.result.1 c.deref-2.ensures.value c.seat_of-i.ensures in (
      omega (
        arith,
        c.decreases,
        size_at c.args.nodes.now.items c.seat_of-i.result.0 c.index_mut.result.now
            (seat_inside g.P.Keyring.meaning c.args.nodes.now.items c.args.leaf c.seat_of-i.result.0 c.seat_of-i.result.1 seat) (search rules),
      ),
      (
        search rules,
        (
          omega (
            arith,
            c.requires.few,
            seat_few g.P.Keyring.meaning c.args.nodes.now.items c.args.leaf c.seat_of-i.result.0 c.seat_of-i.result.1 c.index_mut.result.now seat (search rules),
          ),
          (
            c.seat_of-i.ensures.first,
            seat_last g.P.Keyring.meaning c.args.nodes.now.items c.args.leaf c.seat_of-i.result.0 c.seat_of-i.result.1 c.index_mut.result.now seat (search rules),
          ),
        ),
      ),
    )

pub leaf_unwrapping::ask_leaf_of-returns : goal.leaf_unwrapping::ask_leaf_of-returns
leaf_unwrapping::ask_leaf_of-returns g t c =
    let seat = seat_in g.P.Keyring.meaning c.args.nodes.now.items c.deref-2.result.now c.args.leaf c.seat_of-i.result.0 c.seat_of-i.result.1 c.deref-2.ensures.value c.seat_of-i.ensures in
    asks_at g.P.Keyring.meaning c.args.nodes.now.items c.deref.result.now c.args.leaf c.seat_of-i.result.0 c.seat_of-i.result.1 c.index_mut.result.now c.leaf_on_decrypt.new.self
    c.args.context.now c.args.entries.now c.leaf_on_decrypt.result seat (search rules)
    (record { height = c.leaf_on_decrypt.ensures.height; goes = c.leaf_on_decrypt.ensures.goes; answers = c.leaf_on_decrypt.ensures.answers })
    c.deref.ensures.value c.entry_count_of-count.ensures.counted

pub tree::Members::leaf_on_decrypt-returns-then-leaf-own-clause-asks :
    goal.tree::Members::leaf_on_decrypt-returns-then-leaf-own-clause-asks
tree::Members::leaf_on_decrypt-returns-then-leaf-own-clause-asks g t c =
    generator_asked g.P.Keyring.meaning c.args.leaf c.args.self.now c.in-Some.generator c.leaf_on_decrypt.new.self c.args.context.now c.args.entries.now c.leaf_on_decrypt.result
    c.in-Some.is (record { height = c.leaf_on_decrypt.ensures.height; goes = c.leaf_on_decrypt.ensures.goes; answers = c.leaf_on_decrypt.ensures.answers })
    c.entry_count-count.ensures.counted

pub tree::Members::leaf_on_decrypt-returns-else-leaf-own-clause-asks :
    goal.tree::Members::leaf_on_decrypt-returns-else-leaf-own-clause-asks
tree::Members::leaf_on_decrypt-returns-else-leaf-own-clause-asks g t c =
    children_asked g.P.Keyring.meaning c.args.leaf c.leaves-own.result c.args.self.now c.in-Some.generator c.ask_leaf_of-else-leaf-own.new.nodes.items c.args.context.now
    c.args.entries.now c.ask_leaf_of-else-leaf-own.result c.in-Some.is c.leaves-own.ensures (search rules) c.ask_leaf_of-else-leaf-own.ensures c.entry_count-count.ensures.counted

pub tree::Multi::leaf_on_decrypt-invariant_of-self :
    goal.tree::Multi::leaf_on_decrypt-invariant_of-self
tree::Multi::leaf_on_decrypt-invariant_of-self g t c = (
  c.self.invariant.0,
  omega (arith, c.leaf_on_decrypt.ensures.children, c.self.invariant.1),
  ap (λ n. n + 1) (height_stays g.P.Keyring.meaning c.self.inside.members c.leaf_on_decrypt.new.self c.leaf_on_decrypt.ensures.asks.stays) ∙ c.self.invariant.2,
)

pub tree::Multi::leaf_on_decrypt-returns-clause-height :
    goal.tree::Multi::leaf_on_decrypt-returns-clause-height
tree::Multi::leaf_on_decrypt-returns-clause-height g t c =
    value_height g.P.Keyring.meaning c.self.inside.members c.leaf_on_decrypt.new.self c.args.self.now (value_of c.leaf_on_decrypt.new.self) c.self.view_is refl
    c.leaf_on_decrypt.ensures.asks.stays

pub tree::Multi::leaf_on_decrypt-returns-clause-goes :
    goal.tree::Multi::leaf_on_decrypt-returns-clause-goes
tree::Multi::leaf_on_decrypt-returns-clause-goes g t c =
    multi_goes g.P.Keyring.meaning c.self.inside.members c.leaf_on_decrypt.new.self c.args.self.now (value_of c.leaf_on_decrypt.new.self) c.self.view_is refl
    c.leaf_on_decrypt.ensures.same c.leaf_on_decrypt.ensures.asks.stays

pub tree::Node::leaf_on_decrypt-returns-in-Raw-clause-answers :
    goal.tree::Node::leaf_on_decrypt-returns-in-Raw-clause-answers
tree::Node::leaf_on_decrypt-returns-in-Raw-clause-answers g t c =
    rw c.in-Raw.is
    (one_answers (raw_meaning c.in-Raw.keyring) (raw_meaning c.on_decrypt.new.self) c.args.leaf c.args.context.now c.args.entries.now c.on_decrypt.result c.requires.first
    (rw c.in-Raw.is at c.requires.last) c.on_decrypt.ensures.goes c.on_decrypt.ensures.opens c.on_decrypt.ensures.cause c.on_decrypt.ensures.used)

pub tree::Node::leaf_on_decrypt-returns-in-Handed-clause-answers :
    goal.tree::Node::leaf_on_decrypt-returns-in-Handed-clause-answers
tree::Node::leaf_on_decrypt-returns-in-Handed-clause-answers g t c =
    rw c.in-Handed.is
    (one_answers (g.P.Keyring.meaning c.in-Handed.keyring) (g.P.Keyring.meaning c.on_decrypt-in-Handed.new.self) c.args.leaf c.args.context.now c.args.entries.now c.on_decrypt-in-Handed.result
    c.requires.first (rw c.in-Handed.is at c.requires.last) c.on_decrypt-in-Handed.ensures.goes c.on_decrypt-in-Handed.ensures.opens c.on_decrypt-in-Handed.ensures.cause
    c.on_decrypt-in-Handed.ensures.used)

pub tree::Node::leaf_on_decrypt-returns-in-Multi-clause-cause :
    goal.tree::Node::leaf_on_decrypt-returns-in-Multi-clause-cause
tree::Node::leaf_on_decrypt-returns-in-Multi-clause-cause g t c =
    answers_cause c.args.leaf (tree_meaning g.P.Keyring.meaning c.args.self.now).faults (all_faults (meanings g.P.Keyring.meaning c.leaf_on_decrypt.new.self.1))
    (leaves g.P.Keyring.meaning c.deref_mut.result.now.1) (leaves g.P.Keyring.meaning c.leaf_on_decrypt.new.self.1) c.args.context.now c.args.entries.now c.leaf_on_decrypt.result
    c.leaf_on_decrypt.ensures.answers
    (ap (λ node. (tree_meaning g.P.Keyring.meaning node).faults) c.in-Multi.is
    ∙ forest_counts g.P.Keyring.meaning c.in-Multi.multi.value.1
    ∙ ap (λ v. all_faults (leaves g.P.Keyring.meaning v.1)) (sym c.deref_mut.ensures.value))
    (forest_counts g.P.Keyring.meaning c.leaf_on_decrypt.new.self.1)
