use Rattle.std.proofs.Common.{◌≡◌, ◌<◌, true, false, cond, eqb, List, length, subst, sym, ◌∙◌, ap, arith}
use Rattle.std.specs.List.Sorted.{IsPermutation}
use Rattle.std.proofs.lemmas.List.Elements.{All-from_get_or}
use Rattle.esdk_fields.specs.declared.faults.ContextFault.TheVariants.{Length, Utf8, Duplicate}
use Rattle.esdk_fields.specs.Bytes.{AreBytes}
use Rattle.context_codec.specs.Context.{KeyValue, are_texts, IsAscending}
use Rattle.context_codec.specs.Split.{split}
use Rattle.context_codec.specs.Found.{HasTie}
use Rattle.context_codec.proofs.Judging.{fault_none_split, fault_no_texts, fault_of_tie, no_fault_of}
use Rattle.context_codec.proofs.Paths.{refuses, split_none, split_some, texts_none, texts_some}
use Rattle.context_codec.proofs.FoundContexts.{found_context}
use Rattle.context_codec.proofs.read.read_field.Goals as goal

pub returns-in_default-clause-fault : goal.returns-in_default-clause-fault
returns-in_default-clause-fault c =
    let none = split_none c.in_ok-raw.field-0 (split c.args.bytes.now) c.in_ok-raw.ensures c.in_default.is in
    rw c.refused.ensures (refuses c.args.bytes.now Length (fault_none_split c.args.bytes.now none))

pub returns-in_default-2-clause-fault : goal.returns-in_default-2-clause-fault
returns-in_default-2-clause-fault c =
    let spelled = split_some c.in_ok-raw.field-0 c.in-Some.raw (split c.args.bytes.now) c.in_ok-raw.ensures c.in-Some.is in
    let texts : are_texts c.in-Some.raw.items ≡ false = ap are_texts (sym c.deref.ensures.value) ∙ texts_none c.in_ok-pairs.field-0 c.deref.result.now c.in_ok-pairs.ensures c.in_default-2.is in
    rw c.refused-in_default-2.ensures (refuses c.args.bytes.now Utf8 (fault_no_texts c.args.bytes.now c.in-Some.raw.items spelled texts))

pub returns-then-not-keys_ascend-clause-fault : goal.returns-then-not-keys_ascend-clause-fault
returns-then-not-keys_ascend-clause-fault c =
    let spelled = split_some c.in_ok-raw.field-0 c.in-Some.raw (split c.args.bytes.now) c.in_ok-raw.ensures c.in-Some.is in
    let found = texts_some c.in_ok-pairs.field-0 c.in-Some-2.pairs c.deref.result.now c.in_ok-pairs.ensures c.in-Some-2.is in
    let texts : are_texts c.in-Some.raw.items ≡ true = ap are_texts (sym c.deref.ensures.value) ∙ found.0 in
    let same : IsPermutation c.in-Some.raw.items c.sort.new.pairs.items = subst (λ (ps : List KeyValue). IsPermutation ps c.sort.new.pairs.items) (found.1 ∙ c.deref.ensures.value) c.sort.ensures.permutation in
    let tie : HasTie c.sort.new.pairs.items = subst HasTie c.deref-2.ensures.value c.if-not-keys_ascend.ensures in
    rw c.refused-then-not-keys_ascend.ensures (refuses c.args.bytes.now Duplicate (fault_of_tie c.args.bytes.now c.in-Some.raw.items c.sort.new.pairs.items spelled texts same c.in_ok-sort.ensures.sorted tie))

pub invariant_of-result : goal.invariant_of-result
invariant_of-result c =
    let spelled = split_some c.in_ok-raw.field-0 c.in-Some.raw (split c.args.bytes.now) c.in_ok-raw.ensures c.in-Some.is in
    let found = texts_some c.in_ok-pairs.field-0 c.in-Some-2.pairs c.deref.result.now c.in_ok-pairs.ensures c.in-Some-2.is in
    let texts : are_texts c.in-Some.raw.items ≡ true = ap are_texts (sym c.deref.ensures.value) ∙ found.0 in
    let same : IsPermutation c.in-Some.raw.items c.sort.new.pairs.items = subst (λ (ps : List KeyValue). IsPermutation ps c.sort.new.pairs.items) (found.1 ∙ c.deref.ensures.value) c.sort.ensures.permutation in
    let up : IsAscending c.sort.new.pairs.items = subst IsAscending c.deref-2.ensures.value c.if-not-keys_ascend.ensures in
    let len : c.text_len_of-text_len.result ≡ cond (eqb (length c.sort.new.pairs.items) 0) 0 (length c.args.bytes.now) =
    c.text_len_of-text_len.ensures ∙ ap (λ (ps : List KeyValue). cond (eqb (length ps) 0) 0 (length c.args.bytes.now)) c.deref-3.ensures.value in
    let fits : AreBytes c.args.bytes.now = All-from_get_or (λ b. b < 256) c.args.bytes.now 0 (λ i lt. omega (arith, c.type_inv.bytes i)) in
    found_context c.args.bytes.now c.in-Some.raw.items c.sort.new.pairs.items c.text_len_of-text_len.result fits c.requires spelled texts same up len

pub returns-clause-sound : goal.returns-clause-sound
returns-clause-sound c =
    let spelled = split_some c.in_ok-raw.field-0 c.in-Some.raw (split c.args.bytes.now) c.in_ok-raw.ensures c.in-Some.is in
    let found = texts_some c.in_ok-pairs.field-0 c.in-Some-2.pairs c.deref.result.now c.in_ok-pairs.ensures c.in-Some-2.is in
    let texts : are_texts c.in-Some.raw.items ≡ true = ap are_texts (sym c.deref.ensures.value) ∙ found.0 in
    let same : IsPermutation c.in-Some.raw.items c.sort.new.pairs.items = subst (λ (ps : List KeyValue). IsPermutation ps c.sort.new.pairs.items) (found.1 ∙ c.deref.ensures.value) c.sort.ensures.permutation in
    let up : IsAscending c.sort.new.pairs.items = subst IsAscending c.deref-2.ensures.value c.if-not-keys_ascend.ensures in
    no_fault_of c.args.bytes.now c.in-Some.raw.items c.sort.new.pairs.items spelled texts same up
