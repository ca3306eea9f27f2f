-- What is found by keyrings in a row, where these are two rows one behind the other.
use Rattle.std.proofs.Common.{◌≡◌, ℕ, ◌+◌, ◌≤◌, Bool, true, false, List, [], ◌∷◌, ◌++◌, Option, Some, None, refl, sym, ap, ◌∙◌, subst, arith}
use Rattle.std.specs.Prelude.{IfSome, Result, Ok, Err}
use Rattle.std.specs.Option.{option_or}
use Rattle.std.proofs.lemmas.List.{append_assoc, append-nil}
use Rattle.std.proofs.lemmas.List.Elements.{Contains-append_left, Contains-append_right}
use Rattle.esdk_fields.specs.Counts.{Stayed, Rose}
use Rattle.context_codec.specs.Context.{KeyValue}
use Rattle.edk_codec.specs.Entry.{Entry}
use Rattle.keyring_trait.specs.Wrapping.{WrapKeyValue, first_some, unwrap, unwrapped, IsOpened}
use Rattle.keyring_trait.specs.Keyring.{KeyringMeaning, OpensWith}
use Rattle.keyring_trait.specs.declared.ring_refusals.RingError.{RingError}
use Rattle.keyring_trait.specs.declared.ring_refusals.RingError.TheVariants.{Refused, KeyringFault, Memory}
use Rattle.multi_keyring.specs.Tree.{both_keys, all_keys, all_wraps, all_faults}
use Rattle.multi_keyring.specs.Rows.{AllGo, OpensAs, FindsNoKey, NoneOpens, OpensEntry, RestBehind}

-- ---- sums and lists

pub both_keys-assoc : (j k l : Option (List WrapKeyValue)) → both_keys (both_keys j k) l ≡ both_keys j (both_keys k l)
both_keys-assoc None k l = refl
both_keys-assoc (Some js) None l = refl
both_keys-assoc (Some js) (Some ks) None = refl
both_keys-assoc (Some js) (Some ks) (Some ls) = ap Some (append_assoc js ks ls)

both_keys-left : (k : Option (List WrapKeyValue)) → both_keys (Some []) k ≡ k
both_keys-left None = refl
both_keys-left (Some ks) = refl

pub both_keys-right : (k : Option (List WrapKeyValue)) → both_keys k (Some []) ≡ k
both_keys-right None = refl
both_keys-right (Some ks) = ap Some (append-nil ks)

pub all_keys-append : (os ps : List KeyringMeaning) → all_keys (os ++ ps) ≡ both_keys (all_keys os) (all_keys ps)
all_keys-append [] ps = sym (both_keys-left (all_keys ps))
all_keys-append (o ∷ os) ps = ap (both_keys o.keys) (all_keys-append os ps) ∙ sym (both_keys-assoc o.keys (all_keys os) (all_keys ps))

pub all_faults-append : (os ps : List KeyringMeaning) → all_faults (os ++ ps) ≡ all_faults os + all_faults ps
all_faults-append [] ps = omega arith
all_faults-append (o ∷ os) ps = omega (arith, all_faults-append os ps)

pub all_wraps-append : (os ps : List KeyringMeaning) → all_wraps (os ++ ps) ≡ all_wraps os + all_wraps ps
all_wraps-append [] ps = omega arith
all_wraps-append (o ∷ os) ps = omega (arith, all_wraps-append os ps)

pub AllGo-append : (os ns ps qs : List KeyringMeaning) → AllGo os ns → AllGo ps qs → AllGo (os ++ ps) (ns ++ qs)
AllGo-append [] [] ps qs go others = others
AllGo-append [] (n ∷ ns) ps qs go others = absurd go
AllGo-append (o ∷ os) [] ps qs go others = absurd go
AllGo-append (o ∷ os) (n ∷ ns) ps qs go others = (go.0, AllGo-append os ns ps qs go.1 others)

pub NoneOpens-append : (os ns ps qs : List KeyringMeaning) (c : List KeyValue) (es : List Entry) → NoneOpens os ns c es → NoneOpens ps qs c es → NoneOpens (os ++ ps) (ns ++ qs) c es
NoneOpens-append [] [] ps qs c es none others = others
NoneOpens-append [] (n ∷ ns) ps qs c es none others = absurd none
NoneOpens-append (o ∷ os) [] ps qs c es none others = absurd none
NoneOpens-append (o ∷ os) (n ∷ ns) ps qs c es none others = (none.0, NoneOpens-append os ns ps qs c es none.1 others)

opens_not : (o n : KeyringMeaning) (c : List KeyValue) (es : List Entry) → (Stayed o.faults n.faults → IfSome o.keys (λ keys. unwrapped keys es c ≡ None)) → OpensEntry o n c es → ⊥
opens_not o n c es none finds =
    let nothing : unwrapped finds.keys es c ≡ None = subst (λ (k : Option (List WrapKeyValue)). IfSome k (λ keys. unwrapped keys es c ≡ None)) finds.told (none finds.stayed) in
    let clash : None ≡ Some finds.key = sym nothing ∙ finds.found in
    absurd cc

-- a row in which none opens, and another behind it
pub RestBehind-append : (os ns ps qs : List KeyringMeaning) (c : List KeyValue) (es : List Entry) → NoneOpens os ns c es → RestBehind ps qs c es → RestBehind (os ++ ps) (ns ++ qs) c es
RestBehind-append [] [] ps qs c es none rest = rest
RestBehind-append [] (n ∷ ns) ps qs c es none rest = absurd none
RestBehind-append (o ∷ os) [] ps qs c es none rest = absurd none
RestBehind-append (o ∷ os) (n ∷ ns) ps qs c es none rest = (λ finds. absurd (opens_not o n c es none.0 finds), RestBehind-append os ns ps qs c es none.1 rest)

RestBehind-same : (os : List KeyringMeaning) (c : List KeyValue) (es : List Entry) → RestBehind os os c es
RestBehind-same [] c es = tt
RestBehind-same (o ∷ os) c es = (λ finds. refl, RestBehind-same os c es)

-- a row, and another behind it that wasn't asked
pub RestBehind-unasked : (os ns rest : List KeyringMeaning) (c : List KeyValue) (es : List Entry) → RestBehind os ns c es → RestBehind (os ++ rest) (ns ++ rest) c es
RestBehind-unasked [] [] rest c es behind = RestBehind-same rest c es
RestBehind-unasked [] (n ∷ ns) rest c es behind = absurd behind
RestBehind-unasked (o ∷ os) [] rest c es behind = absurd behind
RestBehind-unasked (o ∷ os) (n ∷ ns) rest c es behind =
    (λ finds. ap (λ (l : List KeyringMeaning). l ++ rest) (behind.0 finds), RestBehind-unasked os ns rest c es behind.1)

-- ---- answers

-- the answer where no key was found yet, and perhaps a keyring failed
abbrev pub so_far : Bool → Result (Option (List ℕ)) RingError
so_far false = Ok None
so_far true = Err KeyringFault

-- the answer of further keyrings, after it
abbrev pub after : Bool → Result (Option (List ℕ)) RingError → Result (Option (List ℕ)) RingError
after false answer = answer
after true (Ok None) = Err KeyringFault
after true (Ok (Some key)) = Ok (Some key)
after true (Err e) = Err e

option_or-assoc : {A : Type 0} (a b c : Option A) → option_or (option_or a b) c ≡ option_or a (option_or b c)
option_or-assoc None b c = refl
option_or-assoc (Some x) b c = refl

first_some-append : {X A : Type 0} (look : X → Option A) (xs ys : List X) → first_some look (xs ++ ys) ≡ option_or (first_some look xs) (first_some look ys)
first_some-append look [] ys = refl
first_some-append look (x ∷ xs) ys = ap (option_or (look x)) (first_some-append look xs ys) ∙ sym (option_or-assoc (look x) (first_some look xs) (first_some look ys))

pub unwrapped-append : (ks ls : List WrapKeyValue) (es : List Entry) (c : List KeyValue) → unwrapped (ks ++ ls) es c ≡ option_or (unwrapped ks es c) (unwrapped ls es c)
unfolding unwrapped
unwrapped-append ks ls es c = first_some-append (λ w. first_some (unwrap w c) es) ks ls

opened_left : (ks ls : List WrapKeyValue) (es : List Entry) (c : List KeyValue) (key : List ℕ) → IsOpened ks es c key → IsOpened (ks ++ ls) es c key
opened_left ks ls es c key is =
    record { under = is.under; entry = is.entry; key_listed = Contains-append_left ks ls is.under is.key_listed; entry_listed = is.entry_listed; wrap = is.wrap }

opened_right : (ks ls : List WrapKeyValue) (es : List Entry) (c : List KeyValue) (key : List ℕ) → IsOpened ls es c key → IsOpened (ks ++ ls) es c key
opened_right ks ls es c key is =
    record { under = is.under; entry = is.entry; key_listed = Contains-append_right ks ls is.under is.key_listed; entry_listed = is.entry_listed; wrap = is.wrap }

pub found_first : (ks ls : List WrapKeyValue) (es : List Entry) (c : List KeyValue) (key : List ℕ) → Some key ≡ unwrapped ks es c → Some key ≡ unwrapped (ks ++ ls) es c
found_first ks ls es c key is = ap (λ o. option_or o (unwrapped ls es c)) is ∙ sym (unwrapped-append ks ls es c)

pub found_next : (ks ls : List WrapKeyValue) (es : List Entry) (c : List KeyValue) (found : Option (List ℕ)) → unwrapped ks es c ≡ None → found ≡ unwrapped ls es c → found ≡ unwrapped (ks ++ ls) es c
found_next ks ls es c found none is = is ∙ ap (λ o. option_or o (unwrapped ls es c)) (sym none) ∙ sym (unwrapped-append ks ls es c)

stayed_first : (a b x y : ℕ) → a ≤ b → x ≤ y → Stayed (a + x) (b + y) → Stayed a b
stayed_first a b x y ab xy stayed = omega (arith, ab, xy, stayed)

stayed_next : (a b x y : ℕ) → a ≤ b → x ≤ y → Stayed (a + x) (b + y) → Stayed x y
stayed_next a b x y ab xy stayed = omega (arith, ab, xy, stayed)

rose_first : (a b x y : ℕ) → a ≤ b → x ≤ y → Rose a b → Rose (a + x) (b + y)
rose_first a b x y ab xy rose = omega (arith, ab, xy, rose)

rose_next : (a b x y : ℕ) → a ≤ b → x ≤ y → Rose x y → Rose (a + x) (b + y)
rose_next a b x y ab xy rose = omega (arith, ab, xy, rose)

-- a key of the others' where the first ones told that they have none
opens_next : (ks ls : List WrapKeyValue) (es : List Entry) (c : List KeyValue) (a b x y : ℕ) (found : Option (List ℕ)) → a ≤ b → x ≤ y → OpensWith ks es c (Stayed a b) None
    → OpensWith ls es c (Stayed x y) found → OpensWith (ks ++ ls) es c (Stayed (a + x) (b + y)) found
opens_next ks ls es c a b x y None ab xy first next = record {
  opened = tt;
  none = λ _. sym (found_next ks ls es c None (first.none refl) (sym (next.none refl)));
  first = λ _. found_next ks ls es c None (first.none refl) (sym (next.none refl));
}
opens_next ks ls es c a b x y (Some key) ab xy first next = record {
  opened = opened_right ks ls es c key next.opened;
  none = λ e. absurd cc;
  first = λ stayed. found_next ks ls es c (Some key) (first.none refl) (next.first (stayed_next a b x y ab xy stayed));
}

-- a key of the others' where the first ones failed
opens_failed : (ks ls : List WrapKeyValue) (es : List Entry) (c : List KeyValue) (a b x y : ℕ) (key : List ℕ) → a ≤ b → x ≤ y → Rose a b
    → OpensWith ls es c (Stayed x y) (Some key) → OpensWith (ks ++ ls) es c (Stayed (a + x) (b + y)) (Some key)
opens_failed ks ls es c a b x y key ab xy rose next = record {
  opened = opened_right ks ls es c key next.opened;
  none = λ e. absurd cc;
  first = λ stayed. absurd (omega (arith, stayed_first a b x y ab xy stayed, rose));
}

-- a key of the first ones'
opens_first : (ks ls : List WrapKeyValue) (es : List Entry) (c : List KeyValue) (a b x y : ℕ) (key : List ℕ) → a ≤ b → x ≤ y → OpensWith ks es c (Stayed a b) (Some key)
    → OpensWith (ks ++ ls) es c (Stayed (a + x) (b + y)) (Some key)
opens_first ks ls es c a b x y key ab xy first = record {
  opened = opened_left ks ls es c key first.opened;
  none = λ e. absurd cc;
  first = λ stayed. found_first ks ls es c key (first.first (stayed_first a b x y ab xy stayed));
}

-- what two rows answer, where the first found no key
pub opens_join : (f : Bool) (r : Result (Option (List ℕ)) RingError) (k l : Option (List WrapKeyValue)) (a b x y : ℕ) (c : List KeyValue) (es : List Entry) → a ≤ b → x ≤ y
    → OpensAs k a b c es (so_far f) → OpensAs l x y c es r → OpensAs (both_keys k l) (a + x) (b + y) c es (after f r)
opens_join false (Ok found) None l a b x y c es ab xy first next = tt
opens_join false (Ok found) (Some ks) None a b x y c es ab xy first next = tt
opens_join false (Ok found) (Some ks) (Some ls) a b x y c es ab xy first next = opens_next ks ls es c a b x y found ab xy first next
opens_join false (Err (Refused r)) k l a b x y c es ab xy first next = next
opens_join false (Err KeyringFault) k l a b x y c es ab xy first next = rose_next a b x y ab xy next
opens_join false (Err Memory) k l a b x y c es ab xy first next = tt
opens_join true (Ok None) k l a b x y c es ab xy first next = rose_first a b x y ab xy first
opens_join true (Ok (Some key)) None l a b x y c es ab xy first next = tt
opens_join true (Ok (Some key)) (Some ks) None a b x y c es ab xy first next = tt
opens_join true (Ok (Some key)) (Some ks) (Some ls) a b x y c es ab xy first next = opens_failed ks ls es c a b x y key ab xy first next
opens_join true (Err (Refused r)) k l a b x y c es ab xy first next = next
opens_join true (Err KeyringFault) k l a b x y c es ab xy first next = rose_next a b x y ab xy next
opens_join true (Err Memory) k l a b x y c es ab xy first next = tt

-- the first row's answer stands where it is a key, or where memory ran out
pub opens_ends : (r : Result (Option (List ℕ)) RingError) (k l : Option (List WrapKeyValue)) (a b x y : ℕ) (c : List KeyValue) (es : List Entry) → a ≤ b → x ≤ y
    → (FindsNoKey r → ⊥) → OpensAs k a b c es r → OpensAs (both_keys k l) (a + x) (b + y) c es r
opens_ends (Ok None) k l a b x y c es ab xy ends first = absurd (ends tt)
opens_ends (Ok (Some key)) None l a b x y c es ab xy ends first = tt
opens_ends (Ok (Some key)) (Some ks) None a b x y c es ab xy ends first = tt
opens_ends (Ok (Some key)) (Some ks) (Some ls) a b x y c es ab xy ends first = opens_first ks ls es c a b x y key ab xy first
opens_ends (Err (Refused r)) k l a b x y c es ab xy ends first = first
opens_ends (Err KeyringFault) k l a b x y c es ab xy ends first = absurd (ends tt)
opens_ends (Err Memory) k l a b x y c es ab xy ends first = tt

pub so_far-none : (f : Bool) → FindsNoKey (so_far f)
so_far-none false = tt
so_far-none true = tt

pub after-none : (f : Bool) (r : Result (Option (List ℕ)) RingError) → FindsNoKey (after f r) → FindsNoKey r
after-none false r none = none
after-none true (Ok None) none = tt
after-none true (Ok (Some key)) none = none
after-none true (Err e) none = none
