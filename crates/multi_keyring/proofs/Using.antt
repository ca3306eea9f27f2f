-- Which keys a call went by, of keyrings in a row.
use Rattle.std.proofs.Common.{◌≡◌, ℕ, ◌+◌, ◌*◌, Bool, true, false, List, [], ◌∷◌, ◌++◌, length, map, Option, Some, None, refl, sym, ap, ◌∙◌, subst, arith}
use Rattle.std.specs.Prelude.{⊤, Result, Ok, Err}
use Rattle.std.proofs.lemmas.List.{append_assoc, append-nil, map-append}
use Rattle.context_codec.specs.Context.{KeyValue}
use Rattle.edk_codec.specs.Entry.{Entry}
use Rattle.keyring_trait.specs.Wrapping.{WrapKeyValue, unwrapped}
use Rattle.keyring_trait.specs.Uses.{KeyUse, AskedOnce}
use Rattle.keyring_trait.specs.Keyring.{KeyringMeaning, WrappedValue, WrapsBy, FindsBy}
use Rattle.keyring_trait.specs.declared.ring_refusals.RingError.{RingError}
use Rattle.keyring_trait.specs.declared.ring_refusals.RingError.TheVariants.{Refused, KeyringFault, Memory}
use Rattle.keyring_trait.proofs.Using.{both_once, once-weaker, unasked_once}
use Rattle.multi_keyring.specs.Tree.{both_uses, all_uses, all_wraps, tree_meaning}
use Rattle.multi_keyring.specs.Rows.{FindsNoKey, RowWrapsBy}
use Rattle.multi_keyring.specs.declared.tree.Node.{Node}
use Rattle.multi_keyring.proofs.Joining.{all_wraps-append, found_first, found_next, so_far, after}

-- ---- lists

both_uses-assoc : (j k l : Option (List KeyUse)) → both_uses (both_uses j k) l ≡ both_uses j (both_uses k l)
both_uses-assoc None k l = refl
both_uses-assoc (Some js) None l = refl
both_uses-assoc (Some js) (Some ks) None = refl
both_uses-assoc (Some js) (Some ks) (Some ls) = ap Some (append_assoc js ks ls)

both_uses-left : (k : Option (List KeyUse)) → both_uses (Some []) k ≡ k
both_uses-left None = refl
both_uses-left (Some ks) = refl

pub both_uses-right : (k : Option (List KeyUse)) → both_uses k (Some []) ≡ k
both_uses-right None = refl
both_uses-right (Some ks) = ap Some (append-nil ks)

pub all_uses-append : (os ps : List KeyringMeaning) → all_uses (os ++ ps) ≡ both_uses (all_uses os) (all_uses ps)
all_uses-append [] ps = sym (both_uses-left (all_uses ps))
all_uses-append (o ∷ os) ps = ap (both_uses o.uses) (all_uses-append os ps) ∙ sym (both_uses-assoc o.uses (all_uses os) (all_uses ps))

pub uses-append : {P : Type 0} (leaf : P → KeyringMeaning) (os ps : List (Node P)) → all_uses (map (tree_meaning leaf) (os ++ ps)) ≡ both_uses (all_uses (map (tree_meaning leaf) os)) (all_uses (map (tree_meaning leaf) ps))
uses-append leaf os ps = ap all_uses (map-append (tree_meaning leaf) os ps) ∙ all_uses-append (map (tree_meaning leaf) os) (map (tree_meaning leaf) ps)

pub wraps_more : {P : Type 0} (leaf : P → KeyringMeaning) (os : List (Node P)) (o : Node P) → all_wraps (map (tree_meaning leaf) (os ++ (o ∷ []))) ≡ all_wraps (map (tree_meaning leaf) os) + (tree_meaning leaf o).wraps
wraps_more leaf os o = omega (arith, ap all_wraps (map-append (tree_meaning leaf) os (o ∷ [])), all_wraps-append (map (tree_meaning leaf) os) (tree_meaning leaf o ∷ []))

-- ---- two rows

pub once_join : (before now before_next now_next : Option (List KeyUse)) (P Q R : List WrapKeyValue → Type 0) → ((keys others : List WrapKeyValue) → P keys → Q others → R (keys ++ others))
    → AskedOnce before now P → AskedOnce before_next now_next Q → AskedOnce (both_uses before before_next) (both_uses now now_next) R
once_join None now before_next now_next P Q R so first next = tt
once_join (Some os) None before_next now_next P Q R so first next = absurd first
once_join (Some os) (Some ns) None now_next P Q R so first next = tt
once_join (Some os) (Some ns) (Some ps) None P Q R so first next = absurd next
once_join (Some os) (Some ns) (Some ps) (Some qs) P Q R so first next = both_once os ns ps qs P Q R so first next

-- the others aren't asked
pub once_ends : (before now rest : Option (List KeyUse)) (P R : List WrapKeyValue → Type 0) → ((keys others : List WrapKeyValue) → P keys → R (keys ++ others)) → AskedOnce before now P
    → AskedOnce (both_uses before rest) (both_uses now rest) R
once_ends before now rest P R so first = once_join before now rest rest P (λ _. ⊤) R (λ keys others is _. so keys others is) first (unasked_once rest)

-- one row by itself
pub once_alone : (before now : Option (List KeyUse)) (P : List WrapKeyValue → Type 0) → AskedOnce before now P → AskedOnce (both_uses before (Some [])) (both_uses now (Some [])) P
once_alone before now P once = rw (both_uses-right before, both_uses-right now) once

pub once_any : (before now : Option (List KeyUse)) (P : List WrapKeyValue → Type 0) → AskedOnce before now P → AskedOnce before now (λ _. ⊤)
once_any before now P once = once-weaker before now P (λ _. ⊤) (λ _ _. tt) once

-- ---- what is found

none_yet : (f : Bool) (c : List KeyValue) (es : List Entry) (keys : List WrapKeyValue) → FindsBy c es (so_far f) keys → unwrapped keys es c ≡ None
none_yet false c es keys finds = sym finds
none_yet true c es keys finds = finds

pub finds_join : (f : Bool) (r : Result (Option (List ℕ)) RingError) (c : List KeyValue) (es : List Entry) (keys others : List WrapKeyValue) → FindsBy c es (so_far f) keys → FindsBy c es r others
    → FindsBy c es (after f r) (keys ++ others)
finds_join false (Ok found) c es keys others first next = found_next keys others es c found (none_yet false c es keys first) next
finds_join false (Err (Refused r)) c es keys others first next = tt
finds_join false (Err KeyringFault) c es keys others first next = sym (found_next keys others es c None (none_yet false c es keys first) (sym next))
finds_join false (Err Memory) c es keys others first next = tt
finds_join true (Ok None) c es keys others first next = sym (found_next keys others es c None first next)
finds_join true (Ok (Some key)) c es keys others first next = found_next keys others es c (Some key) first next
finds_join true (Err (Refused r)) c es keys others first next = tt
finds_join true (Err KeyringFault) c es keys others first next = sym (found_next keys others es c None first (sym next))
finds_join true (Err Memory) c es keys others first next = tt

pub finds_ends : (r : Result (Option (List ℕ)) RingError) (c : List KeyValue) (es : List Entry) (keys others : List WrapKeyValue) → (FindsNoKey r → ⊥) → FindsBy c es r keys
    → FindsBy c es r (keys ++ others)
finds_ends (Ok None) c es keys others ends finds = absurd (ends tt)
finds_ends (Ok (Some key)) c es keys others ends finds = found_first keys others es c key finds
finds_ends (Err (Refused r)) c es keys others ends finds = tt
finds_ends (Err KeyringFault) c es keys others ends finds = absurd (ends tt)
finds_ends (Err Memory) c es keys others ends finds = tt

-- ---- what is wrapped

-- an error says nothing of the keys
pub row_failed : (before now : Option (List KeyUse)) (n : ℕ) (c : List KeyValue) (key random : List ℕ) (start : List Entry) (r : Result WrappedValue RingError) (e : RingError) → r ≡ Err e
    → AskedOnce before now (λ _. ⊤) → AskedOnce before now (RowWrapsBy n c key random start r)
row_failed before now n c key random start r e is once =
    subst (λ (s : Result WrappedValue RingError). AskedOnce before now (RowWrapsBy n c key random start s)) (sym is)
    (once-weaker before now (λ _. ⊤) (RowWrapsBy n c key random start (Err e)) (λ _ _. tt) once)

pub wraps_failed : (before now : Option (List KeyUse)) (n : ℕ) (c : List KeyValue) (random : List ℕ) (handed : Option (List ℕ)) (r : Result WrappedValue RingError) (e : RingError) → r ≡ Err e
    → AskedOnce before now (λ _. ⊤) → AskedOnce before now (WrapsBy n c random handed r)
wraps_failed before now n c random handed r e is once =
    subst (λ (s : Result WrappedValue RingError). AskedOnce before now (WrapsBy n c random handed s)) (sym is)
    (once-weaker before now (λ _. ⊤) (WrapsBy n c random handed (Err e)) (λ _ _. tt) once)
