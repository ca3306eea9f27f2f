-- From the members of a multi-keyring to the multi-keyring.
use Rattle.std.proofs.Common.{◌≡◌, ℕ, ◌+◌, ◌*◌, ◌≤◌, min, nat_lt, Bool, true, false, List, [], ◌∷◌, ◌++◌, length, take, drop, map, Option, Some, None, refl, sym, ap, ◌∙◌, subst, arith}
use Rattle.std.specs.Prelude.{⊤, is_some, IfOk, IfSome, Result, Ok, Err, if◌then◌else◌}
use Rattle.std.proofs.lemmas.List.{take-append-le, drop-append-le, length-drop, take-append-drop}
use Rattle.context_codec.specs.Context.{KeyValue}
use Rattle.edk_codec.specs.Entry.{Entry}
use Rattle.keyring_trait.specs.Wrapping.{WrapKeyValue, made, ivs_of}
use Rattle.keyring_trait.specs.Keyring.{KeyringMeaning, KeyringGoes, WrappedValue, Wraps, AreMadeBy, WrapsBy, FindsBy, data_key_in, ivs_in}
use Rattle.keyring_trait.specs.Uses.{KeyUse, AskedOnce}
use Rattle.keyring_trait.proofs.Using.{once-weaker}
use Rattle.keyring_trait.specs.declared.ring_refusals.RingError.{RingError}
use Rattle.multi_keyring.specs.Forest.{Forest, tallest}
use Rattle.multi_keyring.specs.Nodes.{forest, all_of, generator_first}
use Rattle.multi_keyring.specs.Tree.{both_uses, all_keys, all_wraps, all_faults, all_uses, joined_members, leaves, meanings, tree_meaning}
use Rattle.multi_keyring.specs.Rows.{IsCounted, AllCounted, Appends, AppendsBy, RowWrapsBy, OpensAs, FindsNoKey, NoneOpens, RestBehind}
use Rattle.multi_keyring.specs.Staying.{Stays}
use Rattle.multi_keyring.specs.Unwrapping.{Unwraps}
use Rattle.multi_keyring.specs.declared.tree.Members.{Members}
use Rattle.multi_keyring.specs.declared.tree.Node.{Node}
use Rattle.multi_keyring.proofs.Meanings.{joined_row}
use Rattle.multi_keyring.proofs.Heights.{tallest_stays}
use Rattle.multi_keyring.proofs.Going.{joined_goes}
use Rattle.multi_keyring.proofs.Made.{appends_join, appends_by_join, one_appends}
use Rattle.multi_keyring.proofs.Finding.{all_with, stays_join, stays_same}
use Rattle.multi_keyring.proofs.Appending.{Kept, one_stays}
use Rattle.multi_keyring.proofs.Using.{once_join, once_ends, once_any}

-- the members, as they stand in the multi-keyring's value
abbrev pub value_of : {P : Type 0} → Members P → Bool × Forest P
value_of members = (is_some members.generator, forest (all_of members))

-- the height stays
pub height_stays : {P : Type 0} (leaf : P → KeyringMeaning) (old now : Members P) → Stays leaf (all_of old) (all_of now) → tallest (forest (all_of now)) ≡ tallest (forest (all_of old))
height_stays leaf old now stays = tallest_stays (all_of old) (all_of now) stays.heights

pub value_height : {P : Type 0} (leaf : P → KeyringMeaning) (old now : Members P) (v w : Bool × Forest P) → value_of old ≡ v → value_of now ≡ w → Stays leaf (all_of old) (all_of now) → tallest w.1 ≡ tallest v.1
value_height leaf old now v w old_is now_is stays = rw (sym old_is, sym now_is) (height_stays leaf old now stays)

-- a multi-keyring goes on where its members do
pub multi_goes : {P : Type 0} (leaf : P → KeyringMeaning) (old now : Members P) (v w : Bool × Forest P) → value_of old ≡ v → value_of now ≡ w → is_some now.generator ≡ is_some old.generator
    → Stays leaf (all_of old) (all_of now) → KeyringGoes (joined_members v.0 (meanings leaf v.1)) (joined_members w.0 (meanings leaf w.1))
multi_goes leaf old now v w old_is now_is same stays =
    rw (joined_row leaf old v old_is, joined_row leaf now w now_is, same) (joined_goes (is_some old.generator) (map (tree_meaning leaf) (all_of old)) (map (tree_meaning leaf) (all_of now)) stays.goes)

-- ---- unwrapping

capped_opens : (over : Bool) (k : Option (List WrapKeyValue)) (a b : ℕ) (c : List KeyValue) (es : List Entry) (r : Result (Option (List ℕ)) RingError) → OpensAs k a b c es r
    → OpensAs (if over then None else k) a b c es r
capped_opens false k a b c es r opens = opens
capped_opens true k a b c es (Ok found) opens = tt
capped_opens true k a b c es (Err e) opens = opens

pub multi_opens : {P : Type 0} (leaf : P → KeyringMeaning) (old now : Members P) (v w : Bool × Forest P) (c : List KeyValue) (es : List Entry) (r : Result (Option (List ℕ)) RingError)
    → value_of old ≡ v → value_of now ≡ w → Unwraps leaf (all_of old) (all_of now) c es r
    → OpensAs (joined_members v.0 (meanings leaf v.1)).keys (joined_members v.0 (meanings leaf v.1)).faults (joined_members w.0 (meanings leaf w.1)).faults c es r
multi_opens leaf old now v w c es r old_is now_is u =
    subst (λ (n : KeyringMeaning). OpensAs (joined_members v.0 (meanings leaf v.1)).keys (joined_members v.0 (meanings leaf v.1)).faults n.faults c es r) (sym (joined_row leaf now w now_is))
    (subst (λ (m : KeyringMeaning). OpensAs m.keys m.faults (all_faults (map (tree_meaning leaf) (all_of now))) c es r) (sym (joined_row leaf old v old_is))
    (capped_opens (nat_lt 64 (all_wraps (map (tree_meaning leaf) (all_of old)))) (all_keys (map (tree_meaning leaf) (all_of old))) (all_faults (map (tree_meaning leaf) (all_of old)))
    (all_faults (map (tree_meaning leaf) (all_of now))) c es r u.opens))

pub multi_used : {P : Type 0} (leaf : P → KeyringMeaning) (old now : Members P) (v w : Bool × Forest P) (c : List KeyValue) (es : List Entry) (r : Result (Option (List ℕ)) RingError)
    → value_of old ≡ v → value_of now ≡ w → Unwraps leaf (all_of old) (all_of now) c es r
    → AskedOnce (joined_members v.0 (meanings leaf v.1)).uses (joined_members w.0 (meanings leaf w.1)).uses (FindsBy c es r)
multi_used leaf old now v w c es r old_is now_is u =
    subst (λ (n : KeyringMeaning). AskedOnce (joined_members v.0 (meanings leaf v.1)).uses n.uses (FindsBy c es r)) (sym (joined_row leaf now w now_is))
    (subst (λ (m : KeyringMeaning). AskedOnce m.uses (all_uses (map (tree_meaning leaf) (all_of now))) (FindsBy c es r)) (sym (joined_row leaf old v old_is)) u.used)

pub multi_none : {P : Type 0} (leaf : P → KeyringMeaning) (old now : Members P) (v w : Bool × Forest P) (c : List KeyValue) (es : List Entry) (r : Result (Option (List ℕ)) RingError)
    → value_of old ≡ v → value_of now ≡ w → Unwraps leaf (all_of old) (all_of now) c es r → FindsNoKey r → NoneOpens (leaves leaf v.1) (leaves leaf w.1) c es
multi_none leaf old now v w c es r old_is now_is u none = rw (sym old_is, sym now_is) (u.none none)

pub multi_behind : {P : Type 0} (leaf : P → KeyringMeaning) (old now : Members P) (v w : Bool × Forest P) (c : List KeyValue) (es : List Entry) (r : Result (Option (List ℕ)) RingError)
    → value_of old ≡ v → value_of now ≡ w → Unwraps leaf (all_of old) (all_of now) c es r → RestBehind (leaves leaf v.1) (leaves leaf w.1) c es
multi_behind leaf old now v w c es r old_is now_is u = rw (sym old_is, sym now_is) u.behind

-- ---- wrapping

capped_made : (over : Bool) (n : ℕ) (k : Option (List WrapKeyValue)) (c : List KeyValue) (key bytes : List ℕ) (es : List Entry) → n ≤ 64
    → IfSome k (λ ks. es ≡ made ks c key (ivs_of n bytes)) → IfSome (if over then None else k) (λ ks. es ≡ made ks c key (ivs_of (min n 64) bytes))
capped_made true n k c key bytes es few told = tt
capped_made false n k c key bytes es few told =
    let same : min n 64 ≡ n = omega (arith, few) in
    rw same told

-- what the members append is what the multi-keyring makes
pub joined_wraps : (has : Bool) (ms : List KeyringMeaning) (c : List KeyValue) (random : List ℕ) (handed : Option (List ℕ)) (wrapped : WrappedValue) → all_wraps ms ≤ 64
    → wrapped.key ≡ data_key_in handed random → Appends ms c wrapped.key (ivs_in handed random) [] wrapped.entries → Wraps (joined_members has ms) c random handed wrapped
joined_wraps has ms c random handed wrapped few key appends = record {
  key = key;
  count = omega (arith, appends.count, few);
  told = capped_made (nat_lt 64 (all_wraps ms)) (all_wraps ms) (all_keys ms) c wrapped.key (ivs_in handed random) wrapped.entries few appends.told;
}

-- where the generator drew the data key, and the children were handed it
pub drawn_appends : (m : KeyringMeaning) (ms : List KeyringMeaning) (c : List KeyValue) (random own others : List ℕ) (drawn : WrappedValue) (es : List Entry) → IsCounted m
    → random ≡ own ++ others → length own ≡ 32 + 12 * m.wraps → Wraps m c own None drawn → Appends ms c drawn.key others drawn.entries es
    → Appends (m ∷ ms) c drawn.key (drop 32 random) [] es
drawn_appends m ms c random own others drawn es counted random_is long wraps appends =
    let enough : 32 ≤ length own = omega (arith, long) in
    let mine : length (drop 32 own) ≡ 12 * (m.wraps + 0) = omega (arith, length-drop 32 own, long) in
    rw (random_is, drop-append-le 32 own others enough)
    (appends_join (m ∷ []) ms c drawn.key (drop 32 own) others [] drawn.entries es (counted, tt) mine (one_appends m c own None drawn [] wraps) appends)

pub drawn_key : (random own others : List ℕ) (n : ℕ) → random ≡ own ++ others → length own ≡ 32 + n → take 32 own ≡ take 32 random
drawn_key random own others n random_is long =
    let enough : 32 ≤ length own = omega (arith, long) in
    rw random_is (sym (take-append-le 32 own others enough))

pub split_is : (k : ℕ) (random own others : List ℕ) → own ≡ take k random → others ≡ drop k random → random ≡ own ++ others
split_is k random own others own_is others_is = rw (own_is, others_is) (sym (take-append-drop k random))

-- the generator and the children together
pub generator_wraps : {P : Type 0} (leaf : P → KeyringMeaning) (members : Members P) (o : Node P) (c : List KeyValue) (random own others : List ℕ) (handed : Option (List ℕ)) (drawn made : WrappedValue)
    → members.generator ≡ Some o → AllCounted (map (tree_meaning leaf) (all_of members)) → all_wraps (map (tree_meaning leaf) (all_of members)) ≤ 64 → handed ≡ None → random ≡ own ++ others
    → length own ≡ 32 + 12 * (tree_meaning leaf o).wraps → Wraps (tree_meaning leaf o) c own None drawn
    → Appends (map (tree_meaning leaf) members.children.items) c drawn.key others drawn.entries made.entries → made.key ≡ drawn.key
    → Wraps (joined_members (is_some members.generator) (map (tree_meaning leaf) (all_of members))) c random handed made
generator_wraps {P = P} leaf members o c random own others handed drawn made has counted few none random_is long wraps appends same =
    let all_is = all_with members o has in
    let row = subst (λ (l : List (Node P)). AllCounted (map (tree_meaning leaf) l)) all_is counted in
    let little = subst (λ (l : List (Node P)). all_wraps (map (tree_meaning leaf) l) ≤ 64) all_is few in
    let key = same ∙ (wraps.key ∙ drawn_key random own others (12 * (tree_meaning leaf o).wraps) random_is long) in
    let together = drawn_appends (tree_meaning leaf o) (map (tree_meaning leaf) members.children.items) c random own others drawn made.entries row.0 random_is long wraps appends in
    rw (none, all_is)
    (joined_wraps (is_some members.generator) (tree_meaning leaf o ∷ map (tree_meaning leaf) members.children.items) c random None made little key
    (subst (λ (k : List ℕ). Appends (tree_meaning leaf o ∷ map (tree_meaning leaf) members.children.items) c k (drop 32 random) [] made.entries) (sym same) together))

-- the same of what the children answer
pub generator_answers : {P E : Type 0} (leaf : P → KeyringMeaning) (members : Members P) (o : Node P) (c : List KeyValue) (random own others : List ℕ) (handed : Option (List ℕ)) (drawn : WrappedValue)
    (answer : Result WrappedValue E) → members.generator ≡ Some o → AllCounted (map (tree_meaning leaf) (all_of members)) → all_wraps (map (tree_meaning leaf) (all_of members)) ≤ 64 → handed ≡ None
    → random ≡ own ++ others → length own ≡ 32 + 12 * (tree_meaning leaf o).wraps → Wraps (tree_meaning leaf o) c own None drawn
    → IfOk answer (λ wrapped. Appends (map (tree_meaning leaf) members.children.items) c drawn.key others drawn.entries wrapped.entries) → IfOk answer (λ wrapped. wrapped.key ≡ drawn.key)
    → IfOk answer (Wraps (joined_members (is_some members.generator) (map (tree_meaning leaf) (all_of members))) c random handed)
generator_answers leaf members o c random own others handed drawn (Ok wrapped) has counted few none random_is long wraps appends same =
    generator_wraps leaf members o c random own others handed drawn wrapped has counted few none random_is long wraps appends same
generator_answers leaf members o c random own others handed drawn (Err error) has counted few none random_is long wraps appends same = tt

-- a generator that fails leaves the children as they were
pub generator_kept : {P : Type 0} (leaf : P → KeyringMeaning) (members : Members P) (o n : Node P) → members.generator ≡ Some o → Kept leaf o n
    → AllCounted (map (tree_meaning leaf) (all_of members)) → Stays leaf (all_of members) (n ∷ members.children.items)
generator_kept {P = P} leaf members o n has kept counted =
    let row = subst (λ (l : List (Node P)). AllCounted (map (tree_meaning leaf) l)) (all_with members o has) counted in
    rw (all_with members o has) (stays_join leaf (o ∷ []) (n ∷ []) members.children.items members.children.items (one_stays leaf o n kept) (stays_same leaf members.children.items row.1))

-- ---- the keys that a call went by

pub multi_wraps_by : {P : Type 0} (leaf : P → KeyringMeaning) (old now : Members P) (v w : Bool × Forest P) (c : List KeyValue) (random : List ℕ) (handed : Option (List ℕ))
    (r : Result WrappedValue RingError) → value_of old ≡ v → value_of now ≡ w
    → AskedOnce (all_uses (map (tree_meaning leaf) (all_of old))) (all_uses (map (tree_meaning leaf) (all_of now))) (WrapsBy (min (all_wraps (map (tree_meaning leaf) (all_of old))) 64) c random handed r)
    → AskedOnce (joined_members v.0 (meanings leaf v.1)).uses (joined_members w.0 (meanings leaf w.1)).uses (WrapsBy (joined_members v.0 (meanings leaf v.1)).wraps c random handed r)
multi_wraps_by leaf old now v w c random handed r old_is now_is once =
    subst (λ (n : KeyringMeaning). AskedOnce (joined_members v.0 (meanings leaf v.1)).uses n.uses (WrapsBy (joined_members v.0 (meanings leaf v.1)).wraps c random handed r)) (sym (joined_row leaf now w now_is))
    (subst (λ (m : KeyringMeaning). AskedOnce m.uses (all_uses (map (tree_meaning leaf) (all_of now))) (WrapsBy m.wraps c random handed r)) (sym (joined_row leaf old v old_is)) once)

-- a row that begins with nothing makes what the multi-keyring does
row_made : (n : ℕ) (c : List KeyValue) (key random ivs : List ℕ) (wrapped : WrappedValue) (keys : List WrapKeyValue) → n ≤ 64 → wrapped.key ≡ key → ivs ≡ random
    → AppendsBy n c key random [] wrapped.entries keys → AreMadeBy (min n 64) c ivs wrapped keys
row_made n c key random ivs wrapped keys few key_is ivs_are appends =
    let same : min n 64 ≡ n = omega (arith, few) in
    rw (same, key_is, ivs_are) record { each = appends.each; entries = appends.entries }

-- the children were handed the data key
children_by : (before now : Option (List KeyUse)) (n : ℕ) (c : List KeyValue) (key random : List ℕ) (r : Result WrappedValue RingError) → n ≤ 64
    → IfOk r (λ wrapped. wrapped.key ≡ key) → AskedOnce before now (RowWrapsBy n c key random [] r) → AskedOnce before now (WrapsBy (min n 64) c random (Some key) r)
children_by before now n c key random (Ok wrapped) few key_is once =
    once-weaker before now (RowWrapsBy n c key random [] (Ok wrapped)) (WrapsBy (min n 64) c random (Some key) (Ok wrapped))
    (λ keys is. row_made n c key random random wrapped keys few key_is refl is) once
children_by before now n c key random (Err e) few key_is once =
    once-weaker before now (RowWrapsBy n c key random [] (Err e)) (WrapsBy (min n 64) c random (Some key) (Err e)) (λ _ _. tt) once

all_without : {P : Type 0} (members : Members P) → is_some members.generator ≡ false → all_of members ≡ members.children.items
all_without {P = P} members none = by members.generator none
  where
    by : (o : Option (Node P)) → is_some o ≡ false → generator_first o members.children.items ≡ members.children.items
    by None is = refl
    by (Some generator) is = absurd cc

pub children_answer : {P : Type 0} (leaf : P → KeyringMeaning) (members : Members P) (qs : List (Node P)) (c : List KeyValue) (key random : List ℕ) (r : Result WrappedValue RingError)
    → is_some members.generator ≡ false → all_wraps (map (tree_meaning leaf) (all_of members)) ≤ 64 → IfOk r (λ wrapped. wrapped.key ≡ key)
    → AskedOnce (all_uses (map (tree_meaning leaf) members.children.items)) (all_uses (map (tree_meaning leaf) qs)) (RowWrapsBy (all_wraps (map (tree_meaning leaf) members.children.items)) c key random [] r)
    → AskedOnce (all_uses (map (tree_meaning leaf) (all_of members))) (all_uses (map (tree_meaning leaf) qs)) (WrapsBy (min (all_wraps (map (tree_meaning leaf) (all_of members))) 64) c random (Some key) r)
children_answer {P = P} leaf members qs c key random r none few key_is once =
    let all_is = all_without members none in
    let little = subst (λ (l : List (Node P)). all_wraps (map (tree_meaning leaf) l) ≤ 64) all_is few in
    rw all_is
    (children_by (all_uses (map (tree_meaning leaf) members.children.items)) (all_uses (map (tree_meaning leaf) qs)) (all_wraps (map (tree_meaning leaf) members.children.items)) c key random r little key_is once)

-- the generator drew the data key, and the children were handed it
drawn_by : (g n : ℕ) (c : List KeyValue) (random own others : List ℕ) (drawn made : WrappedValue) (keys more : List WrapKeyValue) → random ≡ own ++ others → length own ≡ 32 + 12 * g → g + n ≤ 64
    → made.key ≡ drawn.key → AreMadeBy g c (ivs_in None own) drawn keys → AppendsBy n c drawn.key others drawn.entries made.entries more
    → AreMadeBy (min (g + n) 64) c (ivs_in None random) made (keys ++ more)
drawn_by g n c random own others drawn made keys more random_is long few same first next =
    let enough : 32 ≤ length own = omega (arith, long) in
    let mine : length (drop 32 own) ≡ 12 * g = omega (arith, length-drop 32 own, long) in
    let ivs : drop 32 random ≡ drop 32 own ++ others = ap (drop 32) random_is ∙ drop-append-le 32 own others enough in
    let begun : AppendsBy g c drawn.key (drop 32 own) [] drawn.entries keys = record { each = first.each; entries = first.entries } in
    row_made (g + n) c drawn.key (drop 32 own ++ others) (drop 32 random) made (keys ++ more) few same ivs
    (appends_by_join g n c drawn.key (drop 32 own) others [] drawn.entries made.entries mine keys more begun next)

drawn_answers : (before now before_next now_next : Option (List KeyUse)) (g n : ℕ) (c : List KeyValue) (random own others : List ℕ) (drawn : WrappedValue) (r : Result WrappedValue RingError)
    → random ≡ own ++ others → length own ≡ 32 + 12 * g → g + n ≤ 64 → IfOk r (λ wrapped. wrapped.key ≡ drawn.key)
    → AskedOnce before now (WrapsBy g c own None (Ok drawn)) → AskedOnce before_next now_next (RowWrapsBy n c drawn.key others drawn.entries r)
    → AskedOnce (both_uses before before_next) (both_uses now now_next) (WrapsBy (min (g + n) 64) c random None r)
drawn_answers before now before_next now_next g n c random own others drawn (Ok made) random_is long few same first next =
    once_join before now before_next now_next (WrapsBy g c own None (Ok drawn)) (RowWrapsBy n c drawn.key others drawn.entries (Ok made)) (WrapsBy (min (g + n) 64) c random None (Ok made))
    (λ keys more by next_by. drawn_by g n c random own others drawn made keys more random_is long few same by next_by) first next
drawn_answers before now before_next now_next g n c random own others drawn (Err e) random_is long few same first next =
    once_join before now before_next now_next (WrapsBy g c own None (Ok drawn)) (RowWrapsBy n c drawn.key others drawn.entries (Err e)) (WrapsBy (min (g + n) 64) c random None (Err e))
    (λ _ _ _ _. tt) first next

pub generator_by : {P : Type 0} (leaf : P → KeyringMeaning) (members : Members P) (o n : Node P) (qs : List (Node P)) (c : List KeyValue) (random own others : List ℕ) (handed : Option (List ℕ))
    (drawn : WrappedValue) (r : Result WrappedValue RingError) → members.generator ≡ Some o → all_wraps (map (tree_meaning leaf) (all_of members)) ≤ 64 → handed ≡ None → random ≡ own ++ others
    → length own ≡ 32 + 12 * (tree_meaning leaf o).wraps → IfOk r (λ wrapped. wrapped.key ≡ drawn.key)
    → AskedOnce (tree_meaning leaf o).uses (tree_meaning leaf n).uses (WrapsBy (tree_meaning leaf o).wraps c own None (Ok drawn))
    → AskedOnce (all_uses (map (tree_meaning leaf) members.children.items)) (all_uses (map (tree_meaning leaf) qs)) (RowWrapsBy (all_wraps (map (tree_meaning leaf) members.children.items)) c drawn.key others drawn.entries r)
    → AskedOnce (all_uses (map (tree_meaning leaf) (all_of members))) (all_uses (map (tree_meaning leaf) (n ∷ qs))) (WrapsBy (min (all_wraps (map (tree_meaning leaf) (all_of members))) 64) c random handed r)
generator_by {P = P} leaf members o n qs c random own others handed drawn r has few none random_is long same first next =
    let all_is = all_with members o has in
    let little = subst (λ (l : List (Node P)). all_wraps (map (tree_meaning leaf) l) ≤ 64) all_is few in
    rw (none, all_is)
    (drawn_answers (tree_meaning leaf o).uses (tree_meaning leaf n).uses (all_uses (map (tree_meaning leaf) members.children.items)) (all_uses (map (tree_meaning leaf) qs))
    (tree_meaning leaf o).wraps (all_wraps (map (tree_meaning leaf) members.children.items)) c random own others drawn r random_is long little same first next)

-- the generator failed, and the children weren't asked
pub generator_once : {P : Type 0} (leaf : P → KeyringMeaning) (members : Members P) (o n : Node P) → members.generator ≡ Some o
    → AskedOnce (tree_meaning leaf o).uses (tree_meaning leaf n).uses (λ _. ⊤)
    → AskedOnce (all_uses (map (tree_meaning leaf) (all_of members))) (all_uses (map (tree_meaning leaf) (n ∷ members.children.items))) (λ _. ⊤)
generator_once leaf members o n has once =
    rw (all_with members o has)
    (once_ends (tree_meaning leaf o).uses (tree_meaning leaf n).uses (all_uses (map (tree_meaning leaf) members.children.items)) (λ _. ⊤) (λ _. ⊤) (λ _ _ _. tt) once)
