-- What trees in a row find together, one after the other.
use Rattle.std.proofs.Common.{◌≡◌, ℕ, ◌+◌, ◌≤◌, ◌<◌, Bool, true, false, List, [], ◌∷◌, ◌++◌, length, map, slice_index_or, slice_set, Option, Some, None, refl, sym, ap, ◌∙◌, subst, arith, length-append}
use Rattle.std.specs.Prelude.{IfSome, IfOk, IfErr, Result, Ok, Err}
use Rattle.std.proofs.lemmas.List.{append_assoc, append-nil, map-append, length-map}
use Rattle.std.proofs.Math.Seq.{set-append_seam, get_or-append_seam}
use Rattle.context_codec.specs.Context.{KeyValue}
use Rattle.edk_codec.specs.Entry.{Entry}
use Rattle.esdk_fields.specs.Counts.{Stayed}
use Rattle.keyring_trait.specs.Wrapping.{WrapKeyValue, unwrapped}
use Rattle.keyring_trait.specs.Keyring.{KeyringMeaning, KeyringGoes, Opens, OpensWith, UnwrapCause, FindsBy}
use Rattle.keyring_trait.specs.Uses.{AskedOnce}
use Rattle.keyring_trait.specs.declared.ring_refusals.RingError.{RingError}
use Rattle.keyring_trait.specs.declared.ring_refusals.RingError.TheVariants.{Refused, KeyringFault, Memory}
use Rattle.raw_aes_keyring.specs.Keyring.{raw_meaning}
use Rattle.multi_keyring.specs.Nodes.{forest, node_height, all_of, generator_first}
use Rattle.multi_keyring.specs.Tree.{both_keys, all_keys, all_faults, all_uses, leaves, node_leaves, tree_meaning}
use Rattle.multi_keyring.specs.Rows.{AllCounted, AllGo, OpensAs, FindsNoKey, NoneOpens, RestBehind}
use Rattle.multi_keyring.specs.Staying.{Stays}
use Rattle.multi_keyring.specs.Unwrapping.{Unwraps}
use Rattle.multi_keyring.specs.declared.tree.Node.{Node}
use Rattle.multi_keyring.specs.declared.tree.Node.TheVariants.{Raw, Handed, Multi}
use Rattle.multi_keyring.specs.declared.tree.Members.{Members}
use Rattle.multi_keyring.proofs.Going.{faults_go}
use Rattle.multi_keyring.proofs.Joining.{both_keys-right, all_keys-append, all_faults-append, AllGo-append, NoneOpens-append, RestBehind-append, RestBehind-unasked, so_far, after, opens_join, opens_ends, so_far-none, after-none}
use Rattle.multi_keyring.proofs.Using.{uses-append, once_join, once_ends, once_alone, finds_join, finds_ends}

-- ---- one row behind another

pub leaves-append : {P : Type 0} (leaf : P → KeyringMeaning) (os ps : List (Node P)) → leaves leaf (forest (os ++ ps)) ≡ leaves leaf (forest os) ++ leaves leaf (forest ps)
leaves-append leaf [] ps = refl
leaves-append leaf (Raw key ∷ os) ps = ap (λ (ms : List KeyringMeaning). raw_meaning key ∷ ms) (leaves-append leaf os ps)
leaves-append leaf (Handed keyring ∷ os) ps = ap (λ (ms : List KeyringMeaning). leaf keyring ∷ ms) (leaves-append leaf os ps)
leaves-append leaf (Multi multi ∷ os) ps =
    ap (λ (ms : List KeyringMeaning). leaves leaf multi.value.1 ++ ms) (leaves-append leaf os ps) ∙ sym (append_assoc (leaves leaf multi.value.1) (leaves leaf (forest os)) (leaves leaf (forest ps)))

keys-append : {P : Type 0} (leaf : P → KeyringMeaning) (os ps : List (Node P)) → all_keys (map (tree_meaning leaf) (os ++ ps)) ≡ both_keys (all_keys (map (tree_meaning leaf) os)) (all_keys (map (tree_meaning leaf) ps))
keys-append leaf os ps = ap all_keys (map-append (tree_meaning leaf) os ps) ∙ all_keys-append (map (tree_meaning leaf) os) (map (tree_meaning leaf) ps)

pub faults-append : {P : Type 0} (leaf : P → KeyringMeaning) (os ps : List (Node P)) → all_faults (map (tree_meaning leaf) (os ++ ps)) ≡ all_faults (map (tree_meaning leaf) os) + all_faults (map (tree_meaning leaf) ps)
faults-append leaf os ps = ap all_faults (map-append (tree_meaning leaf) os ps) ∙ all_faults-append (map (tree_meaning leaf) os) (map (tree_meaning leaf) ps)

pub stays_join : {P : Type 0} (leaf : P → KeyringMeaning) (os ns ps qs : List (Node P)) → Stays leaf os ns → Stays leaf ps qs → Stays leaf (os ++ ps) (ns ++ qs)
stays_join leaf os ns ps qs s t = record {
  heights = map-append node_height ns qs ∙ (ap (λ (l : List ℕ). l ++ map node_height qs) s.heights ∙ (ap (λ (l : List ℕ). map node_height os ++ l) t.heights ∙ sym (map-append node_height os ps)));
  goes = rw (map-append (tree_meaning leaf) os ps, map-append (tree_meaning leaf) ns qs)
      (AllGo-append (map (tree_meaning leaf) os) (map (tree_meaning leaf) ns) (map (tree_meaning leaf) ps) (map (tree_meaning leaf) qs) s.goes t.goes);
}

counted_goes : (ms : List KeyringMeaning) → AllCounted ms → AllGo ms ms
counted_goes [] counted = tt
counted_goes (m ∷ ms) counted = (
  record { keys = refl; wraps = refl; refuses_key = refl; refuses_none = refl; steady = refl; later = omega arith; still = counted.0.steady },
  counted_goes ms counted.1,
)

-- trees that aren't asked stay as they are
pub stays_same : {P : Type 0} (leaf : P → KeyringMeaning) (nodes : List (Node P)) → AllCounted (map (tree_meaning leaf) nodes) → Stays leaf nodes nodes
stays_same leaf nodes counted = record { heights = refl; goes = counted_goes (map (tree_meaning leaf) nodes) counted }

-- a row that stays is as long as it was
pub stays_long : {P : Type 0} (leaf : P → KeyringMeaning) (old now : List (Node P)) → Stays leaf old now → length now ≡ length old
stays_long leaf old now stays = sym (length-map now node_height) ∙ (ap length stays.heights ∙ length-map old node_height)

-- a row that found no key, and another that was asked after it
pub unwraps_join : {P : Type 0} (leaf : P → KeyringMeaning) (f : Bool) (r : Result (Option (List ℕ)) RingError) (os ns ps qs : List (Node P)) (c : List KeyValue) (es : List Entry)
    → Unwraps leaf os ns c es (so_far f) → Unwraps leaf ps qs c es r → Unwraps leaf (os ++ ps) (ns ++ qs) c es (after f r)
unwraps_join leaf f r os ns ps qs c es u v = record {
  stays = stays_join leaf os ns ps qs u.stays v.stays;
  opens = rw (keys-append leaf os ps, faults-append leaf os ps, faults-append leaf ns qs)
      (opens_join f r (all_keys (map (tree_meaning leaf) os)) (all_keys (map (tree_meaning leaf) ps)) (all_faults (map (tree_meaning leaf) os)) (all_faults (map (tree_meaning leaf) ns))
      (all_faults (map (tree_meaning leaf) ps)) (all_faults (map (tree_meaning leaf) qs)) c es
      (faults_go (map (tree_meaning leaf) os) (map (tree_meaning leaf) ns) u.stays.goes) (faults_go (map (tree_meaning leaf) ps) (map (tree_meaning leaf) qs) v.stays.goes) u.opens v.opens);
  used = rw (uses-append leaf os ps, uses-append leaf ns qs)
      (once_join (all_uses (map (tree_meaning leaf) os)) (all_uses (map (tree_meaning leaf) ns)) (all_uses (map (tree_meaning leaf) ps)) (all_uses (map (tree_meaning leaf) qs))
      (FindsBy c es (so_far f)) (FindsBy c es r) (FindsBy c es (after f r)) (λ keys others first next. finds_join f r c es keys others first next) u.used v.used);
  none = λ e. rw (leaves-append leaf os ps, leaves-append leaf ns qs)
      (NoneOpens-append (leaves leaf (forest os)) (leaves leaf (forest ns)) (leaves leaf (forest ps)) (leaves leaf (forest qs)) c es (u.none (so_far-none f)) (v.none (after-none f r e)));
  behind = rw (leaves-append leaf os ps, leaves-append leaf ns qs)
      (RestBehind-append (leaves leaf (forest os)) (leaves leaf (forest ns)) (leaves leaf (forest ps)) (leaves leaf (forest qs)) c es (u.none (so_far-none f)) v.behind);
}

-- a row whose answer ended the search, and another that wasn't asked
pub unwraps_ends : {P : Type 0} (leaf : P → KeyringMeaning) (r : Result (Option (List ℕ)) RingError) (os ns rest : List (Node P)) (c : List KeyValue) (es : List Entry)
    → (FindsNoKey r → ⊥) → Unwraps leaf os ns c es r → Stays leaf rest rest → Unwraps leaf (os ++ rest) (ns ++ rest) c es r
unwraps_ends leaf r os ns rest c es ends u same = record {
  stays = stays_join leaf os ns rest rest u.stays same;
  opens = rw (keys-append leaf os rest, faults-append leaf os rest, faults-append leaf ns rest)
      (opens_ends r (all_keys (map (tree_meaning leaf) os)) (all_keys (map (tree_meaning leaf) rest)) (all_faults (map (tree_meaning leaf) os)) (all_faults (map (tree_meaning leaf) ns))
      (all_faults (map (tree_meaning leaf) rest)) (all_faults (map (tree_meaning leaf) rest)) c es
      (faults_go (map (tree_meaning leaf) os) (map (tree_meaning leaf) ns) u.stays.goes) (faults_go (map (tree_meaning leaf) rest) (map (tree_meaning leaf) rest) same.goes) ends u.opens);
  used = rw (uses-append leaf os rest, uses-append leaf ns rest)
      (once_ends (all_uses (map (tree_meaning leaf) os)) (all_uses (map (tree_meaning leaf) ns)) (all_uses (map (tree_meaning leaf) rest)) (FindsBy c es r) (FindsBy c es r)
      (λ keys others finds. finds_ends r c es keys others ends finds) u.used);
  none = λ e. absurd (ends e);
  behind = rw (leaves-append leaf os rest, leaves-append leaf ns rest) (RestBehind-unasked (leaves leaf (forest os)) (leaves leaf (forest ns)) (leaves leaf (forest rest)) c es u.behind);
}

-- ---- one tree

leaves_one : {P : Type 0} (leaf : P → KeyringMeaning) (node : Node P) → leaves leaf (forest (node ∷ [])) ≡ node_leaves leaf node
leaves_one leaf (Raw key) = refl
leaves_one leaf (Handed keyring) = refl
leaves_one leaf (Multi multi) = append-nil (leaves leaf multi.value.1)

plus_none : (n : ℕ) → n + 0 ≡ n
plus_none n = omega arith

-- What a tree answers to entries.
pub record NodeAnswers {P : Type 0} (leaf : P → KeyringMeaning) (o n : Node P) (c : List KeyValue) (es : List Entry) (r : Result (Option (List ℕ)) RingError) : Type 0 where
  pub height : node_height n ≡ node_height o
  pub goes : KeyringGoes (tree_meaning leaf o) (tree_meaning leaf n)
  pub opens : OpensAs (tree_meaning leaf o).keys (tree_meaning leaf o).faults (tree_meaning leaf n).faults c es r
  pub used : AskedOnce (tree_meaning leaf o).uses (tree_meaning leaf n).uses (FindsBy c es r)
  pub none : FindsNoKey r → NoneOpens (node_leaves leaf o) (node_leaves leaf n) c es
  pub behind : RestBehind (node_leaves leaf o) (node_leaves leaf n) c es

-- it is a row by itself
pub one_unwraps : {P : Type 0} (leaf : P → KeyringMeaning) (o n : Node P) (c : List KeyValue) (es : List Entry) (r : Result (Option (List ℕ)) RingError)
    → NodeAnswers leaf o n c es r → Unwraps leaf (o ∷ []) (n ∷ []) c es r
one_unwraps leaf o n c es r is = record {
  stays = record { heights = ap (λ (h : ℕ). h ∷ []) is.height; goes = (is.goes, tt) };
  opens = rw (both_keys-right (tree_meaning leaf o).keys, plus_none (tree_meaning leaf o).faults, plus_none (tree_meaning leaf n).faults) is.opens;
  used = once_alone (tree_meaning leaf o).uses (tree_meaning leaf n).uses (FindsBy c es r) is.used;
  none = λ e. rw (leaves_one leaf o, leaves_one leaf n) (is.none e);
  behind = rw (leaves_one leaf o, leaves_one leaf n) is.behind;
}

none_told : (told : Option (List WrapKeyValue)) (stayed : Type 0) (c : List KeyValue) (es : List Entry) → IfSome told (λ keys. OpensWith keys es c stayed None) → IfSome told (λ keys. unwrapped keys es c ≡ None)
none_told None stayed c es opens = tt
none_told (Some keys) stayed c es opens = opens.none refl

-- where a leaf found no key, it opens no entry
pub leaf_none : (m n : KeyringMeaning) (c : List KeyValue) (es : List Entry) (r : Result (Option (List ℕ)) RingError) → IfOk r (Opens m n c es) → IfErr r (UnwrapCause m.faults n.faults)
    → FindsNoKey r → NoneOpens (m ∷ []) (n ∷ []) c es
leaf_none m n c es (Ok None) opens cause nothing = (λ stayed. none_told m.keys (Stayed m.faults n.faults) c es opens, tt)
leaf_none m n c es (Ok (Some key)) opens cause nothing = absurd nothing
leaf_none m n c es (Err (Refused r)) opens cause nothing = absurd nothing
leaf_none m n c es (Err KeyringFault) opens cause nothing = (λ stayed. absurd (omega (arith, cause, stayed)), tt)
leaf_none m n c es (Err Memory) opens cause nothing = absurd nothing

-- no tree finds no key
pub unwraps_none : {P : Type 0} (leaf : P → KeyringMeaning) (c : List KeyValue) (es : List Entry) → Unwraps {P = P} leaf [] [] c es (Ok None)
unfolding unwrapped
unwraps_none leaf c es = record {
  stays = record { heights = refl; goes = tt };
  opens = record { opened = tt; none = λ _. refl; first = λ _. refl };
  used = ([], refl, refl);
  none = λ _. tt;
  behind = tt;
}

-- ---- a loop over a row

-- Some trees of the row were asked and found no key, and the others stand as they did.
pub record Between {P : Type 0} (leaf : P → KeyringMeaning) (old now : List (Node P)) (i : ℕ) (failed : Bool) (c : List KeyValue) (es : List Entry) : Type 0 where
  pub before : List (Node P)
  pub asked : List (Node P)
  pub left : List (Node P)
  pub old_is : old ≡ before ++ left
  pub now_is : now ≡ asked ++ left
  pub at : length asked ≡ i
  pub unwraps : Unwraps leaf before asked c es (so_far failed)
  pub counted : AllCounted (map (tree_meaning leaf) left)

pub starts : {P : Type 0} (leaf : P → KeyringMeaning) (nodes shown : List (Node P)) (c : List KeyValue) (es : List Entry) → shown ≡ nodes → AllCounted (map (tree_meaning leaf) shown)
    → Between leaf nodes nodes 0 false c es
starts {P = P} leaf nodes shown c es same counted = record {
  before = [];
  asked = [];
  left = nodes;
  old_is = refl;
  now_is = refl;
  at = refl;
  unwraps = unwraps_none leaf c es;
  counted = subst (λ (l : List (Node P)). AllCounted (map (tree_meaning leaf) l)) same counted;
}

at_end : {P : Type 0} (leaf : P → KeyringMeaning) (f : Bool) (before asked left : List (Node P)) (c : List KeyValue) (es : List Entry) → length left ≤ 0
    → Unwraps leaf before asked c es (so_far f) → Unwraps leaf (before ++ left) (asked ++ left) c es (so_far f)
at_end leaf f before asked [] c es none u = rw (append-nil before, append-nil asked) u
at_end leaf f before asked (y ∷ left) c es none u = absurd (omega (arith, none))

pub ends_all : {P : Type 0} (leaf : P → KeyringMeaning) (old now : List (Node P)) (i : ℕ) (f : Bool) (c : List KeyValue) (es : List Entry) → Between leaf old now i f c es → length now ≤ i
    → Unwraps leaf old now c es (so_far f)
ends_all leaf old now i f c es b all = rw (b.old_is, b.now_is) (at_end leaf f b.before b.asked b.left c es (omega (arith, ap length b.now_is, length-append b.asked b.left, b.at, all)) b.unwraps)

pub ends_with : {P : Type 0} (leaf : P → KeyringMeaning) (old now : List (Node P)) (i : ℕ) (f g : Bool) (c : List KeyValue) (es : List Entry) → Between leaf old now i f c es → length now ≤ i → f ≡ g
    → Unwraps leaf old now c es (so_far g)
ends_with leaf old now i f g c es b all is = subst (λ (h : Bool). Unwraps leaf old now c es (so_far h)) is (ends_all leaf old now i f c es b all)

after-ends : (f : Bool) (r : Result (Option (List ℕ)) RingError) → (FindsNoKey r → ⊥) → after f r ≡ r
after-ends false r ends = refl
after-ends true (Ok None) ends = absurd (ends tt)
after-ends true (Ok (Some key)) ends = refl
after-ends true (Err e) ends = refl

ends_at : {P : Type 0} (leaf : P → KeyringMeaning) (f : Bool) (before asked left : List (Node P)) (x d : Node P) (c : List KeyValue) (es : List Entry) (r : Result (Option (List ℕ)) RingError)
    → length asked < length (asked ++ left) → Unwraps leaf before asked c es (so_far f) → AllCounted (map (tree_meaning leaf) left)
    → NodeAnswers leaf (slice_index_or (asked ++ left) (length asked) d) x c es r → (FindsNoKey r → ⊥) → Unwraps leaf (before ++ left) (slice_set (asked ++ left) (length asked) x) c es r
ends_at leaf f before asked [] x d c es r some u counted is ends = absurd (omega (arith, some, length-append asked []))
ends_at leaf f before asked (y ∷ left) x d c es r some u counted is ends =
    let one = one_unwraps leaf y x c es r (subst (λ (z : Node _). NodeAnswers leaf z x c es r) (get_or-append_seam asked y left d) is) in
    let both = subst (λ (a : Result (Option (List ℕ)) RingError). Unwraps leaf (before ++ (y ∷ [])) (asked ++ (x ∷ [])) c es a) (after-ends f r ends)
    (unwraps_join leaf f r before asked (y ∷ []) (x ∷ []) c es u one) in
    rw (set-append_seam asked y left x, sym (append_assoc before (y ∷ []) left), sym (append_assoc asked (x ∷ []) left))
    (unwraps_ends leaf r (before ++ (y ∷ [])) (asked ++ (x ∷ [])) left c es ends both (stays_same leaf left counted.1))

-- the tree at the index gave an answer that ends the search
pub ends_here : {P : Type 0} (leaf : P → KeyringMeaning) (old now : List (Node P)) (i : ℕ) (f : Bool) (c : List KeyValue) (es : List Entry) (y x : Node P) (r s : Result (Option (List ℕ)) RingError)
    → Between leaf old now i f c es → i < length now → slice_index_or now i y ≡ y → NodeAnswers leaf y x c es r → r ≡ s → (FindsNoKey s → ⊥) → Unwraps leaf old (slice_set now i x) c es s
ends_here {P = P} leaf old now i f c es y x r s b some there is same ends =
    rw (b.old_is, b.now_is, sym b.at)
    (ends_at leaf f b.before b.asked b.left x y c es s (subst (λ (l : List (Node P)). length b.asked < length l) b.now_is (omega (arith, some, b.at))) b.unwraps b.counted
    (subst (λ (l : List (Node P)). NodeAnswers leaf (slice_index_or l (length b.asked) y) x c es s) b.now_is
    (subst (λ (n : ℕ). NodeAnswers leaf (slice_index_or now n y) x c es s) (sym b.at)
    (subst (λ (z : Node P). NodeAnswers leaf z x c es s) (sym there) (subst (λ (a : Result (Option (List ℕ)) RingError). NodeAnswers leaf y x c es a) same is))))
    ends)

next_at : {P : Type 0} (leaf : P → KeyringMeaning) (f g : Bool) (before asked left : List (Node P)) (x d : Node P) (c : List KeyValue) (es : List Entry) (r : Result (Option (List ℕ)) RingError)
    → length asked < length (asked ++ left) → Unwraps leaf before asked c es (so_far f) → AllCounted (map (tree_meaning leaf) left)
    → NodeAnswers leaf (slice_index_or (asked ++ left) (length asked) d) x c es r → after f r ≡ so_far g
    → Between leaf (before ++ left) (slice_set (asked ++ left) (length asked) x) (length asked + 1) g c es
next_at leaf f g before asked [] x d c es r some u counted is so = absurd (omega (arith, some, length-append asked []))
next_at {P = P} leaf f g before asked (y ∷ left) x d c es r some u counted is so =
    let one = one_unwraps leaf y x c es r (subst (λ (z : Node P). NodeAnswers leaf z x c es r) (get_or-append_seam asked y left d) is) in
    record {
      before = before ++ (y ∷ []);
      asked = asked ++ (x ∷ []);
      left = left;
      old_is = sym (append_assoc before (y ∷ []) left);
      now_is = set-append_seam asked y left x ∙ sym (append_assoc asked (x ∷ []) left);
      at = length-append asked (x ∷ []);
      unwraps = subst (λ (a : Result (Option (List ℕ)) RingError). Unwraps leaf (before ++ (y ∷ [])) (asked ++ (x ∷ [])) c es a) so
          (unwraps_join leaf f r before asked (y ∷ []) (x ∷ []) c es u one);
      counted = counted.1;
    }

-- the tree at the index found no key either
pub goes_on : {P : Type 0} (leaf : P → KeyringMeaning) (old now : List (Node P)) (i : ℕ) (f g : Bool) (c : List KeyValue) (es : List Entry) (y x : Node P) (r : Result (Option (List ℕ)) RingError)
    → Between leaf old now i f c es → i < length now → slice_index_or now i y ≡ y → NodeAnswers leaf y x c es r → after f r ≡ so_far g → Between leaf old (slice_set now i x) (i + 1) g c es
goes_on {P = P} leaf old now i f g c es y x r b some there is so =
    rw (b.old_is, b.now_is, sym b.at)
    (next_at leaf f g b.before b.asked b.left x y c es r (subst (λ (l : List (Node P)). length b.asked < length l) b.now_is (omega (arith, some, b.at))) b.unwraps b.counted
    (subst (λ (l : List (Node P)). NodeAnswers leaf (slice_index_or l (length b.asked) y) x c es r) b.now_is
    (subst (λ (n : ℕ). NodeAnswers leaf (slice_index_or now n y) x c es r) (sym b.at) (subst (λ (z : Node P). NodeAnswers leaf z x c es r) (sym there) is)))
    so)

pub after_none : (f : Bool) → after f (Ok None) ≡ so_far f
after_none false = refl
after_none true = refl

pub after_fault : (f : Bool) → after f (Err KeyringFault) ≡ so_far true
after_fault false = refl
after_fault true = refl

-- ---- a generator and its children

pub all_with : {P : Type 0} (members : Members P) (generator : Node P) → members.generator ≡ Some generator → all_of members ≡ generator ∷ members.children.items
all_with {P = P} members generator is = ap (λ (o : Option (Node P)). generator_first o members.children.items) is

-- the generator's answer ended the search
pub generator_ends : {P : Type 0} (leaf : P → KeyringMeaning) (members : Members P) (o n : Node P) (shown : List (Node P)) (c : List KeyValue) (es : List Entry) (r s : Result (Option (List ℕ)) RingError)
    → members.generator ≡ Some o → NodeAnswers leaf o n c es r → r ≡ s → (FindsNoKey s → ⊥) → shown ≡ members.children.items → AllCounted (map (tree_meaning leaf) shown)
    → Unwraps leaf (all_of members) (n ∷ members.children.items) c es s
generator_ends {P = P} leaf members o n shown c es r s has is same ends shown_is counted =
    let first = subst (λ (a : Result (Option (List ℕ)) RingError). Unwraps leaf (o ∷ []) (n ∷ []) c es a) same (one_unwraps leaf o n c es r is) in
    let others = stays_same leaf members.children.items (subst (λ (l : List (Node P)). AllCounted (map (tree_meaning leaf) l)) shown_is counted) in
    rw (all_with members o has) (unwraps_ends leaf s (o ∷ []) (n ∷ []) members.children.items c es ends first others)

-- the generator found no key, and the children were asked
pub generator_goes_on : {P : Type 0} (leaf : P → KeyringMeaning) (members : Members P) (f : Bool) (o n : Node P) (qs : List (Node P)) (c : List KeyValue) (es : List Entry)
    (r s t : Result (Option (List ℕ)) RingError) → members.generator ≡ Some o → NodeAnswers leaf o n c es r → r ≡ so_far f → Unwraps leaf members.children.items qs c es s → after f s ≡ t
    → Unwraps leaf (all_of members) (n ∷ qs) c es t
generator_goes_on leaf members f o n qs c es r s t has is same next so =
    let first = subst (λ (a : Result (Option (List ℕ)) RingError). Unwraps leaf (o ∷ []) (n ∷ []) c es a) same (one_unwraps leaf o n c es r is) in
    rw (all_with members o has)
    (subst (λ (a : Result (Option (List ℕ)) RingError). Unwraps leaf (o ∷ members.children.items) (n ∷ qs) c es a) so
    (unwraps_join leaf f s (o ∷ []) (n ∷ []) members.children.items qs c es first next))
