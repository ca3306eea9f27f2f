-- What a tree means is what its leaves mean together.
use Rattle.std.proofs.Common.{◌≡◌, ℕ, ◌+◌, ◌-◌, ◌^◌, nat_lt, Bool, true, false, ◌&&◌, List, [], ◌∷◌, ◌++◌, Option, Some, None, refl, sym, ap, ◌∙◌, arith}
use Rattle.std.specs.Prelude.{⊤, if◌then◌else◌}
use Rattle.std.specs.Option.{option_or}
use Rattle.context_codec.specs.Context.{KeyValue}
use Rattle.edk_codec.specs.Entry.{Entry}
use Rattle.keyring_trait.specs.Wrapping.{WrapKeyValue, first_some, unwrapped}
use Rattle.keyring_trait.specs.Keyring.{KeyringMeaning}
use Rattle.raw_aes_keyring.specs.Keyring.{raw_meaning}
use Rattle.multi_keyring.specs.Forest.{Forest, Nil, RawThen, HandedThen, MultiThen}
use Rattle.multi_keyring.specs.Tree.{both_keys, both_uses, all_keys, all_uses, all_wraps, all_faults, all_steady, joined_members, meanings, leaves, node_leaves, tree_meaning}
use Rattle.multi_keyring.specs.declared.tree.Node.{Node}
use Rattle.multi_keyring.specs.declared.tree.Node.TheVariants.{Raw, Handed, Multi}
use Rattle.multi_keyring.specs.Laws.{opened_with}
use Rattle.multi_keyring.proofs.Going.{first_true, second_true}
use Rattle.multi_keyring.proofs.Joining.{all_keys-append, both_keys-right, all_faults-append, unwrapped-append}
use Rattle.multi_keyring.proofs.Using.{both_uses-right, all_uses-append}

-- ---- the keys

-- what is told at all is that
abbrev pub ToldAs : Option (List WrapKeyValue) → Option (List WrapKeyValue) → Type 0
ToldAs None l = ⊤
ToldAs (Some ks) l = l ≡ Some ks

same_told : (k : Option (List WrapKeyValue)) → ToldAs k k
same_told None = tt
same_told (Some ks) = refl

both_told_as : (j k l m : Option (List WrapKeyValue)) → ToldAs j k → ToldAs l m → ToldAs (both_keys j l) (both_keys k m)
both_told_as None k l m first next = tt
both_told_as (Some js) k None m first next = tt
both_told_as (Some js) k (Some ls) m first next = rw (first, next) refl

capped_told_as : (over : Bool) (k l : Option (List WrapKeyValue)) → ToldAs k l → ToldAs (if over then None else k) l
capped_told_as true k l told = tt
capped_told_as false k l told = told

forest_told : {P : Type 0} (leaf : P → KeyringMeaning) (f : Forest P) → ToldAs (all_keys (meanings leaf f)) (all_keys (leaves leaf f))
forest_told leaf Nil = refl
forest_told leaf (RawThen key f) =
    both_told_as (raw_meaning key).keys (raw_meaning key).keys (all_keys (meanings leaf f)) (all_keys (leaves leaf f)) (same_told (raw_meaning key).keys) (forest_told leaf f)
forest_told leaf (HandedThen keyring f) =
    both_told_as (leaf keyring).keys (leaf keyring).keys (all_keys (meanings leaf f)) (all_keys (leaves leaf f)) (same_told (leaf keyring).keys) (forest_told leaf f)
forest_told leaf (MultiThen has members f) =
    rw (all_keys-append (leaves leaf members) (leaves leaf f))
    (both_told_as (joined_members has (meanings leaf members)).keys (all_keys (leaves leaf members)) (all_keys (meanings leaf f)) (all_keys (leaves leaf f))
    (capped_told_as (nat_lt 64 (all_wraps (meanings leaf members))) (all_keys (meanings leaf members)) (all_keys (leaves leaf members)) (forest_told leaf members)) (forest_told leaf f))

node_told : {P : Type 0} (leaf : P → KeyringMeaning) (node : Node P) → ToldAs (tree_meaning leaf node).keys (all_keys (node_leaves leaf node))
node_told leaf (Raw key) = refl
node_told leaf (Handed keyring) = rw (both_keys-right (leaf keyring).keys) (same_told (leaf keyring).keys)
node_told leaf (Multi multi) =
    capped_told_as (nat_lt 64 (all_wraps (meanings leaf multi.value.1))) (all_keys (meanings leaf multi.value.1)) (all_keys (leaves leaf multi.value.1)) (forest_told leaf multi.value.1)

says : (k l : Option (List WrapKeyValue)) (ks : List WrapKeyValue) → ToldAs k l → k ≡ Some ks → l ≡ Some ks
says None l ks told is = absurd cc
says (Some js) l ks told is = told ∙ is

pub tells_its_leaves : {P : Type 0} (leaf : P → KeyringMeaning) (node : Node P) (keys : List WrapKeyValue) → (tree_meaning leaf node).keys ≡ Some keys → all_keys (node_leaves leaf node) ≡ Some keys
tells_its_leaves leaf node keys is = says (tree_meaning leaf node).keys (all_keys (node_leaves leaf node)) keys (node_told leaf node) is

-- ---- the faults

pub forest_counts : {P : Type 0} (leaf : P → KeyringMeaning) (f : Forest P) → all_faults (meanings leaf f) ≡ all_faults (leaves leaf f)
forest_counts leaf Nil = refl
forest_counts leaf (RawThen key f) = ap (λ n. (raw_meaning key).faults + n) (forest_counts leaf f)
forest_counts leaf (HandedThen keyring f) = ap (λ n. (leaf keyring).faults + n) (forest_counts leaf f)
forest_counts leaf (MultiThen has members f) = omega (arith, forest_counts leaf members, forest_counts leaf f, all_faults-append (leaves leaf members) (leaves leaf f))

pub counts_its_leaves : {P : Type 0} (leaf : P → KeyringMeaning) (node : Node P) → (tree_meaning leaf node).faults ≡ all_faults (node_leaves leaf node)
counts_its_leaves leaf (Raw key) = omega arith
counts_its_leaves leaf (Handed keyring) = omega arith
counts_its_leaves leaf (Multi multi) = forest_counts leaf multi.value.1

-- ---- which keys they went by

forest_shows : {P : Type 0} (leaf : P → KeyringMeaning) (f : Forest P) → all_uses (meanings leaf f) ≡ all_uses (leaves leaf f)
forest_shows leaf Nil = refl
forest_shows leaf (RawThen key f) = ap (both_uses (raw_meaning key).uses) (forest_shows leaf f)
forest_shows leaf (HandedThen keyring f) = ap (both_uses (leaf keyring).uses) (forest_shows leaf f)
forest_shows leaf (MultiThen has members f) =
    ap (λ uses. both_uses uses (all_uses (meanings leaf f))) (forest_shows leaf members)
    ∙ ap (both_uses (all_uses (leaves leaf members))) (forest_shows leaf f)
    ∙ sym (all_uses-append (leaves leaf members) (leaves leaf f))

pub shows_its_leaves : {P : Type 0} (leaf : P → KeyringMeaning) (node : Node P) → (tree_meaning leaf node).uses ≡ all_uses (node_leaves leaf node)
shows_its_leaves leaf (Raw key) = sym (both_uses-right (raw_meaning key).uses)
shows_its_leaves leaf (Handed keyring) = sym (both_uses-right (leaf keyring).uses)
shows_its_leaves leaf (Multi multi) = forest_shows leaf multi.value.1

-- ---- whether they are steady

both_true : (a b : Bool) → a ≡ true → b ≡ true → (a && b) ≡ true
both_true a b first second = rw (first, second) refl

steady-append : (os ps : List KeyringMeaning) → all_steady os ≡ true → all_steady ps ≡ true → all_steady (os ++ ps) ≡ true
steady-append [] ps first second = second
steady-append (o ∷ os) ps first second =
    both_true o.steady (all_steady (os ++ ps)) (first_true o.steady (all_steady os) first) (steady-append os ps (second_true o.steady (all_steady os) first) second)

forest_steady : {P : Type 0} (leaf : P → KeyringMeaning) (f : Forest P) → all_steady (meanings leaf f) ≡ true → all_steady (leaves leaf f) ≡ true
forest_steady leaf Nil steady = refl
forest_steady leaf (RawThen key f) steady =
    both_true (raw_meaning key).steady (all_steady (leaves leaf f)) (first_true (raw_meaning key).steady (all_steady (meanings leaf f)) steady)
    (forest_steady leaf f (second_true (raw_meaning key).steady (all_steady (meanings leaf f)) steady))
forest_steady leaf (HandedThen keyring f) steady =
    both_true (leaf keyring).steady (all_steady (leaves leaf f)) (first_true (leaf keyring).steady (all_steady (meanings leaf f)) steady)
    (forest_steady leaf f (second_true (leaf keyring).steady (all_steady (meanings leaf f)) steady))
forest_steady leaf (MultiThen has members f) steady =
    let own = joined_members has (meanings leaf members) in
    steady-append (leaves leaf members) (leaves leaf f)
    (forest_steady leaf members (first_true (all_steady (meanings leaf members)) (nat_lt (all_faults (meanings leaf members)) (2 ^ 64 - 1)) (first_true own.steady (all_steady (meanings leaf f)) steady)))
    (forest_steady leaf f (second_true own.steady (all_steady (meanings leaf f)) steady))

pub leaves_steady : {P : Type 0} (leaf : P → KeyringMeaning) (node : Node P) → (tree_meaning leaf node).steady ≡ true → all_steady (node_leaves leaf node) ≡ true
leaves_steady leaf (Raw key) steady = both_true (raw_meaning key).steady true steady refl
leaves_steady leaf (Handed keyring) steady = both_true (leaf keyring).steady true steady refl
leaves_steady leaf (Multi multi) steady =
    forest_steady leaf multi.value.1 (first_true (all_steady (meanings leaf multi.value.1)) (nat_lt (all_faults (meanings leaf multi.value.1)) (2 ^ 64 - 1)) steady)

-- ---- what they open

opens_first : (told : Option (List WrapKeyValue)) (others : Option (List WrapKeyValue)) (keys : List WrapKeyValue) (es : List Entry) (c : List KeyValue) (found : Option (List ℕ))
    → both_keys told others ≡ Some keys → ((ks : List WrapKeyValue) → others ≡ Some ks → unwrapped ks es c ≡ found) → unwrapped keys es c ≡ option_or (opened_with told es c) found
opens_first None others keys es c found is next = absurd cc
opens_first (Some ks) None keys es c found is next = absurd cc
opens_first (Some ks) (Some ls) keys es c found is next =
    let all : ks ++ ls ≡ keys = cc in
    ap (λ (l : List WrapKeyValue). unwrapped l es c) (sym all) ∙ (unwrapped-append ks ls es c ∙ ap (option_or (unwrapped ks es c)) (next ls refl))

row_opens : (ms : List KeyringMeaning) (keys : List WrapKeyValue) (es : List Entry) (c : List KeyValue) → all_keys ms ≡ Some keys
    → unwrapped keys es c ≡ first_some (λ (m : KeyringMeaning). opened_with m.keys es c) ms
unfolding unwrapped
row_opens [] keys es c told =
    let none : [] ≡ keys = cc in
    ap (λ (l : List WrapKeyValue). unwrapped l es c) (sym none)
row_opens (m ∷ ms) keys es c told =
    opens_first m.keys (all_keys ms) keys es c (first_some (λ (n : KeyringMeaning). opened_with n.keys es c) ms) told (λ ks is. row_opens ms ks es c is)

pub opens_with_its_leaves : {P : Type 0} (leaf : P → KeyringMeaning) (node : Node P) (keys : List WrapKeyValue) (es : List Entry) (c : List KeyValue) → (tree_meaning leaf node).keys ≡ Some keys
    → unwrapped keys es c ≡ first_some (λ (m : KeyringMeaning). opened_with m.keys es c) (node_leaves leaf node)
opens_with_its_leaves leaf node keys es c told = row_opens (node_leaves leaf node) keys es c (tells_its_leaves leaf node keys told)
