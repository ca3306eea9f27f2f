use Rattle.std.proofs.Common.{◌≡◌, ℕ, Some, List, length, sym, ap, subst, ◌∙◌, arith}
use Rattle.std.specs.Prelude.{find}
use Rattle.esdk_fields.specs.declared.faults.Fault.TheVariants.{ContextMismatch}
use Rattle.context_codec.specs.Context.{KeyValue, ctx_text, IsContext}
use Rattle.context_codec.specs.Parts.{joined, whole_of}
use Rattle.context_codec.specs.Join.{clashes}
use Rattle.context_codec.proofs.Parts.{only_given_new}
use Rattle.context_codec.proofs.JoinedPairs.{length-joined-le, IsContext-joined}
use Rattle.context_codec.proofs.JoinFaults.{fault_of_clash, fault_of_length, no_join_fault}
use Rattle.context_codec.proofs.joining.join.Goals as goal

pub returns-in-Some-clause-fault : goal.returns-in-Some-clause-fault
returns-in-Some-clause-fault c =
    let found = c.in-Some.ensures ∙ ap (find (clashes c.args.given.now)) c.pairs.ensures.pairs in
    fault_of_clash c.args.stored.now c.args.given.now c.in-Some.pair.now found ∙ ap (λ (key : List ℕ). Some (ContextMismatch key)) (sym (c.in_ok-new.ensures ∙ c.key.ensures))

pub merged-requires : goal.merged-requires
merged-requires c = only_given_new c.args.stored.now c.args.given.now c.in_ok-only.only c.in_ok-only.ensures

pub text_len-text_len-requires : goal.text_len-text_len-requires
text_len-text_len-requires c =
    let only : IsContext c.in_ok-only.only = subst IsContext c.only.view_is c.only.invariant.0 in
    let apart = only_given_new c.args.stored.now c.args.given.now c.in_ok-only.only c.in_ok-only.ensures in
    let is : c.deref.result.now ≡ joined c.args.stored.now c.in_ok-only.only = c.deref.ensures.value ∙ c.in_ok-pairs.ensures in
    omega (arith, ap (λ (ps : List KeyValue). length (ctx_text ps)) is, length-joined-le c.args.stored.now c.in_ok-only.only c.pairs.ensures.context only apart)

pub returns-then-from-gt-MAX_TEXT-clause-fault : goal.returns-then-from-gt-MAX_TEXT-clause-fault
returns-then-from-gt-MAX_TEXT-clause-fault c =
    let none = c.in_default.ensures ∙ ap (find (clashes c.args.given.now)) c.pairs.ensures.pairs in
    let is : c.deref.result.now ≡ whole_of c.args.stored.now c.args.given.now = c.deref.ensures.value ∙ c.in_ok-pairs.ensures ∙ ap (joined c.args.stored.now) c.in_ok-only.ensures in
    fault_of_length c.args.stored.now c.args.given.now c.deref.result.now c.text_len-text_len.result none is c.text_len-text_len.ensures (omega arith)

pub invariant_of-whole : goal.invariant_of-whole
invariant_of-whole c =
    let only : IsContext c.in_ok-only.only = subst IsContext c.only.view_is c.only.invariant.0 in
    let apart = only_given_new c.args.stored.now c.args.given.now c.in_ok-only.only c.in_ok-only.ensures in
    let len : c.text_len-text_len.result ≡ length (ctx_text c.in_ok-pairs.pairs.items) = c.text_len-text_len.ensures ∙ ap (λ (ps : List KeyValue). length (ctx_text ps)) c.deref.ensures.value in
    (IsContext-joined c.args.stored.now c.in_ok-only.only c.in_ok-pairs.pairs.items c.pairs.ensures.context only apart c.in_ok-pairs.ensures (omega arith), len)

pub returns-clause-taken : goal.returns-clause-taken
returns-clause-taken c =
    let none = c.in_default.ensures ∙ ap (find (clashes c.args.given.now)) c.pairs.ensures.pairs in
    let is : c.deref.result.now ≡ whole_of c.args.stored.now c.args.given.now = c.deref.ensures.value ∙ c.in_ok-pairs.ensures ∙ ap (joined c.args.stored.now) c.in_ok-only.ensures in
    no_join_fault c.args.stored.now c.args.given.now c.deref.result.now c.text_len-text_len.result none is c.text_len-text_len.ensures (omega arith)
