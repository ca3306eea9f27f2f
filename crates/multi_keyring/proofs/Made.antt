-- The entries that keyrings in a row make, one behind the other.
use Rattle.std.proofs.Common.{◌≡◌, ℕ, zero, suc, ◌+◌, ◌*◌, ◌≤◌, List, [], ◌∷◌, ◌++◌, length, take, drop, Option, Some, None, refl, sym, ap, ◌∙◌, arith, length-append}
use Rattle.std.specs.Prelude.{IfSome}
use Rattle.std.proofs.lemmas.List.{append_assoc, append-nil, take-append-le, drop-append-le, length-drop}
use Rattle.context_codec.specs.Context.{KeyValue}
use Rattle.edk_codec.specs.Entry.{Entry}
use Rattle.keyring_trait.specs.Wrapping.{WrapKeyValue, wrap, active, made_under, made, ivs_of}
use Rattle.keyring_trait.specs.Keyring.{KeyringMeaning, WrappedValue, Wraps, AreMadeBy, ivs_in}
use Rattle.keyring_trait.proofs.Active.{active-append}
use Rattle.multi_keyring.specs.Tree.{both_keys, all_keys, all_wraps}
use Rattle.multi_keyring.specs.Rows.{AllCounted, Appends, AppendsBy}
use Rattle.multi_keyring.proofs.Counted.{all_told}
use Rattle.multi_keyring.proofs.Joining.{both_keys-right, all_keys-append, all_wraps-append}

length-ivs_of : (n : ℕ) (bytes : List ℕ) → length (ivs_of n bytes) ≡ n
length-ivs_of zero bytes = refl
length-ivs_of (suc n) bytes = ap suc (length-ivs_of n (drop 12 bytes))

ivs_of-append : (a b : ℕ) (r s : List ℕ) → length r ≡ 12 * a → ivs_of (a + b) (r ++ s) ≡ ivs_of a r ++ ivs_of b s
ivs_of-append zero b [] s long =
    let none : zero + b ≡ b = omega arith in
    ap (λ (n : ℕ). ivs_of n s) none
ivs_of-append zero b (x ∷ r) s long = absurd (omega (arith, long))
ivs_of-append (suc a) b r s long =
    let count : suc a + b ≡ suc (a + b) = omega arith in
    let rest = ivs_of-append a b (drop 12 r) s (omega (arith, length-drop 12 r, long)) in
    let enough : 12 ≤ length r = omega (arith, long) in
    ap (λ (n : ℕ). ivs_of n (r ++ s)) count
    ∙ (ap (λ (iv : List ℕ). iv ∷ ivs_of (a + b) (drop 12 (r ++ s))) (take-append-le 12 r s enough)
    ∙ (ap (λ (l : List ℕ). take 12 r ∷ ivs_of (a + b) l) (drop-append-le 12 r s enough) ∙ ap (λ (l : List (List ℕ)). take 12 r ∷ l) rest))

made_under-append : (ks ls : List WrapKeyValue) (c : List KeyValue) (key : List ℕ) (is js : List (List ℕ)) → length is ≡ length ks
    → made_under (ks ++ ls) c key (is ++ js) ≡ made_under ks c key is ++ made_under ls c key js
made_under-append [] ls c key [] js enough = refl
made_under-append [] ls c key (i ∷ is) js enough = absurd (omega (arith, enough))
made_under-append (k ∷ ks) ls c key [] js enough = absurd (omega (arith, enough))
made_under-append (k ∷ ks) ls c key (i ∷ is) js enough = ap (λ (es : List Entry). wrap k c i key ∷ es) (made_under-append ks ls c key is js (omega (arith, enough)))

made-append : (ks ls : List WrapKeyValue) (c : List KeyValue) (key : List ℕ) (is js : List (List ℕ)) → length is ≡ length (active ks)
    → made (ks ++ ls) c key (is ++ js) ≡ made ks c key is ++ made ls c key js
made-append ks ls c key is js enough =
    ap (λ (ws : List WrapKeyValue). made_under ws c key (is ++ js)) (active-append ks ls) ∙ made_under-append (active ks) (active ls) c key is js enough

both_made : (k l : Option (List WrapKeyValue)) (a b : ℕ) (c : List KeyValue) (key r s : List ℕ) (before mid now : List Entry) → length r ≡ 12 * a → IfSome k (λ ks. length (active ks) ≡ a)
    → IfSome k (λ ks. mid ≡ before ++ made ks c key (ivs_of a r)) → IfSome l (λ ls. now ≡ mid ++ made ls c key (ivs_of b s))
    → IfSome (both_keys k l) (λ ks. now ≡ before ++ made ks c key (ivs_of (a + b) (r ++ s)))
both_made None l a b c key r s before mid now long told first next = tt
both_made (Some ks) None a b c key r s before mid now long told first next = tt
both_made (Some ks) (Some ls) a b c key r s before mid now long told first next =
    let enough : length (ivs_of a r) ≡ length (active ks) = length-ivs_of a r ∙ sym told in
    next ∙ (ap (λ (es : List Entry). es ++ made ls c key (ivs_of b s)) first ∙ (append_assoc before (made ks c key (ivs_of a r)) (made ls c key (ivs_of b s))
    ∙ ap (λ (es : List Entry). before ++ es)
    (sym (made-append ks ls c key (ivs_of a r) (ivs_of b s) enough) ∙ ap (λ (ivs : List (List ℕ)). made (ks ++ ls) c key ivs) (sym (ivs_of-append a b r s long)))))

-- what two rows append
pub appends_join : (os ms : List KeyringMeaning) (c : List KeyValue) (key r s : List ℕ) (before mid now : List Entry) → AllCounted os → length r ≡ 12 * all_wraps os
    → Appends os c key r before mid → Appends ms c key s mid now → Appends (os ++ ms) c key (r ++ s) before now
appends_join os ms c key r s before mid now counted long first next = record {
  count = omega (arith, all_wraps-append os ms, first.count, next.count);
  told = rw (all_keys-append os ms, all_wraps-append os ms)
      (both_made (all_keys os) (all_keys ms) (all_wraps os) (all_wraps ms) c key r s before mid now long (all_told os counted) first.told next.told);
}

plus_none : (n : ℕ) → n + 0 ≡ n
plus_none n = omega arith

one_told : (k : Option (List WrapKeyValue)) (n : ℕ) (c : List KeyValue) (key bytes : List ℕ) (before es : List Entry) → IfSome k (λ ks. es ≡ made ks c key (ivs_of n bytes))
    → IfSome k (λ ks. before ++ es ≡ before ++ made ks c key (ivs_of n bytes))
one_told None n c key bytes before es told = tt
one_told (Some ks) n c key bytes before es told = ap (λ (l : List Entry). before ++ l) told

-- what one keyring appends
pub one_appends : (m : KeyringMeaning) (c : List KeyValue) (own : List ℕ) (handed : Option (List ℕ)) (wrapped : WrappedValue) (before : List Entry) → Wraps m c own handed wrapped
    → Appends (m ∷ []) c wrapped.key (ivs_in handed own) before (before ++ wrapped.entries)
one_appends m c own handed wrapped before wraps = record {
  count = omega (arith, length-append before wrapped.entries, wraps.count);
  told = rw (both_keys-right m.keys, plus_none m.wraps) (one_told m.keys m.wraps c wrapped.key (ivs_in handed own) before wrapped.entries wraps.told);
}

-- no keyrings append nothing
pub none_append : (c : List KeyValue) (key : List ℕ) (es : List Entry) → Appends [] c key [] es es
none_append c key es = record { count = omega arith; told = sym (append-nil es) }

-- ---- the keys that made them

-- what two rows append that went by these keys
pub appends_by_join : (a b : ℕ) (c : List KeyValue) (key r s : List ℕ) (before mid now : List Entry) → length r ≡ 12 * a → (keys others : List WrapKeyValue) → AppendsBy a c key r before mid keys
    → AppendsBy b c key s mid now others → AppendsBy (a + b) c key (r ++ s) before now (keys ++ others)
appends_by_join a b c key r s before mid now long keys others first next = record {
  each = omega (arith, ap length (active-append keys others), length-append (active keys) (active others), first.each, next.each);
  entries = both_made (Some keys) (Some others) a b c key r s before mid now long first.each first.entries next.entries;
}

-- what one keyring appends that was handed the data key
pub one_appends_by : (n : ℕ) (c : List KeyValue) (own key : List ℕ) (wrapped : WrappedValue) (before : List Entry) (keys : List WrapKeyValue) → wrapped.key ≡ key → AreMadeBy n c own wrapped keys
    → AppendsBy n c key own before (before ++ wrapped.entries) keys
one_appends_by n c own key wrapped before keys is made_by = record {
  each = made_by.each;
  entries = ap (λ (l : List Entry). before ++ l) (made_by.entries ∙ ap (λ (k : List ℕ). made keys c k (ivs_of n own)) is);
}
