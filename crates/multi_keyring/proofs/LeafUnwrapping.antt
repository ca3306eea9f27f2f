-- Where a leaf stands, and what asking it keeps.
use Rattle.std.proofs.Common.{◌≡◌, ℕ, suc, ◌+◌, ◌-◌, ◌≤◌, ◌<◌, List, [], ◌∷◌, ◌++◌, length, drop, map, slice_index_or, slice_set, Option, Some, refl, sym, ap, ◌∙◌, subst, arith, length-append, drop-cons, add-one}
use Rattle.std.specs.Prelude.{IfOk, IfErr, Result, Ok, Err}
use Rattle.std.proofs.lemmas.List.{append_assoc, append-nil, drop_all, map-append}
use Rattle.std.proofs.Math.Seq.{set-append_seam, get_or-append_seam}
use Rattle.context_codec.specs.Context.{KeyValue}
use Rattle.edk_codec.specs.Entry.{Entry}
use Rattle.keyring_trait.specs.Keyring.{KeyringMeaning, KeyringGoes, Opens, UnwrapCause, FindsBy}
use Rattle.keyring_trait.specs.Uses.{AskedOnce}
use Rattle.keyring_trait.specs.declared.ring_refusals.RingError.{RingError}
use Rattle.keyring_trait.specs.declared.ring_refusals.RingError.TheVariants.{Refused, KeyringFault, Memory}
use Rattle.multi_keyring.specs.Nodes.{forest, node_height, all_of}
use Rattle.multi_keyring.specs.Tree.{all_faults, leaves, node_leaves, tree_meaning}
use Rattle.multi_keyring.specs.Rows.{AllCounted, OpensAs}
use Rattle.multi_keyring.specs.LeafUnwrapping.{AnswersAt, AsksLeaf, IsSeat}
use Rattle.multi_keyring.specs.declared.tree.Node.{Node}
use Rattle.multi_keyring.specs.declared.tree.Node.TheVariants.{Raw, Handed, Multi}
use Rattle.multi_keyring.specs.declared.tree.Members.{Members}
use Rattle.multi_keyring.proofs.Finding.{all_with, leaves-append, stays_join, stays_same}
use Rattle.multi_keyring.proofs.Appending.{one_stays}
use Rattle.multi_keyring.proofs.Joining.{all_faults-append}

-- ---- the leaves of a row

leaves_cons : {P : Type 0} (leaf : P → KeyringMeaning) (node : Node P) (nodes : List (Node P)) → leaves leaf (forest (node ∷ nodes)) ≡ node_leaves leaf node ++ leaves leaf (forest nodes)
leaves_cons leaf (Raw key) nodes = refl
leaves_cons leaf (Handed keyring) nodes = refl
leaves_cons leaf (Multi multi) nodes = refl

pub leaves_first : {P : Type 0} (leaf : P → KeyringMeaning) (node : Node P) (nodes : List (Node P))
    → length (leaves leaf (forest (node ∷ nodes))) ≡ length (node_leaves leaf node) + length (leaves leaf (forest nodes))
leaves_first leaf node nodes = ap length (leaves_cons leaf node nodes) ∙ length-append (node_leaves leaf node) (leaves leaf (forest nodes))

leaves_split : {P : Type 0} (leaf : P → KeyringMeaning) (before : List (Node P)) (node : Node P) (behind : List (Node P))
    → leaves leaf (forest (before ++ node ∷ behind)) ≡ leaves leaf (forest before) ++ (node_leaves leaf node ++ leaves leaf (forest behind))
leaves_split leaf before node behind =
    leaves-append leaf before (node ∷ behind) ∙ ap (λ (ms : List KeyringMeaning). leaves leaf (forest before) ++ ms) (leaves_cons leaf node behind)

split_length : {P : Type 0} (leaf : P → KeyringMeaning) (before : List (Node P)) (node : Node P) (behind : List (Node P))
    → length (leaves leaf (forest (before ++ node ∷ behind))) ≡ length (leaves leaf (forest before)) + (length (node_leaves leaf node) + length (leaves leaf (forest behind)))
split_length leaf before node behind = omega (
  arith,
  ap length (leaves-append leaf before (node ∷ behind)),
  length-append (leaves leaf (forest before)) (leaves leaf (forest (node ∷ behind))),
  leaves_first leaf node behind,
)

-- ---- the number of leaves

-- those of the tree at the index, and those behind it
tally_from : {P : Type 0} (leaf : P → KeyringMeaning) (nodes : List (Node P)) (i : ℕ) (node : Node P) → i < length nodes → node ≡ slice_index_or nodes i node
    → length (leaves leaf (forest (drop i nodes))) ≡ length (node_leaves leaf node) + length (leaves leaf (forest (drop (i + 1) nodes)))
tally_from {P = P} leaf nodes i node some is =
    let next = drop-cons nodes i node some ∙ ap (λ (n : Node P). n ∷ drop (suc i) nodes) (sym is) ∙ ap (λ (k : ℕ). node ∷ drop k nodes) (sym (add-one i)) in
    ap (λ (l : List (Node P)). length (leaves leaf (forest l))) next ∙ leaves_first leaf node (drop (i + 1) nodes)

pub tally_more : {P : Type 0} (leaf : P → KeyringMeaning) (nodes : List (Node P)) (i count own : ℕ) (node : Node P) → i < length nodes → node ≡ slice_index_or nodes i node
    → length (leaves leaf (forest nodes)) ≡ count + length (leaves leaf (forest (drop i nodes))) → own ≡ length (node_leaves leaf node)
    → length (leaves leaf (forest nodes)) ≡ count + own + length (leaves leaf (forest (drop (i + 1) nodes)))
tally_more leaf nodes i count own node some is so_far own_is = omega (arith, so_far, own_is, tally_from leaf nodes i node some is)

pub tally_few : {P : Type 0} (leaf : P → KeyringMeaning) (nodes : List (Node P)) (i count own : ℕ) (node : Node P) → i < length nodes → node ≡ slice_index_or nodes i node
    → length (leaves leaf (forest nodes)) ≡ count + length (leaves leaf (forest (drop i nodes))) → own ≡ length (node_leaves leaf node) → count + own ≤ length (leaves leaf (forest nodes))
tally_few leaf nodes i count own node some is so_far own_is = omega (arith, so_far, own_is, tally_from leaf nodes i node some is)

pub tally_all : {P : Type 0} (leaf : P → KeyringMeaning) (nodes : List (Node P)) (i count : ℕ) → length nodes ≤ i
    → length (leaves leaf (forest nodes)) ≡ count + length (leaves leaf (forest (drop i nodes))) → count ≡ length (leaves leaf (forest nodes))
tally_all {P = P} leaf nodes i count all so_far = omega (arith, so_far, ap (λ (l : List (Node P)). length (leaves leaf (forest l))) (drop_all i nodes all))

-- those of the generator, and those of the children
pub tally_members : {P : Type 0} (leaf : P → KeyringMeaning) (members : Members P) (generator : Node P) (shown : List (Node P)) (own others : ℕ) → members.generator ≡ Some generator
    → shown ≡ members.children.items → own ≡ length (node_leaves leaf generator) → others ≡ length (leaves leaf (forest shown)) → own + others ≡ length (leaves leaf (forest (all_of members)))
tally_members {P = P} leaf members generator shown own others has shown_is own_is others_is = omega (
  arith,
  own_is,
  others_is,
  ap (λ (l : List (Node P)). length (leaves leaf (forest l))) shown_is,
  ap (λ (l : List (Node P)). length (leaves leaf (forest l))) (all_with members generator has),
  leaves_first leaf generator members.children.items,
)

-- ---- the search for a leaf

-- The trees before the index don't have the leaf; it has this number among the others'.
pub record Seeks {P : Type 0} (leaf : P → KeyringMeaning) (nodes : List (Node P)) (number index own : ℕ) : Type 0 where
  pub before : List (Node P)
  pub others : List (Node P)
  pub nodes_are : nodes ≡ before ++ others
  pub at : length before ≡ index
  pub number_is : number ≡ length (leaves leaf (forest before)) + own
  pub first : 1 ≤ own
  pub last : own ≤ length (leaves leaf (forest others))

pub seek_starts : {P : Type 0} (leaf : P → KeyringMeaning) (nodes : List (Node P)) (number : ℕ) → 1 ≤ number → number ≤ length (leaves leaf (forest nodes)) → Seeks leaf nodes number 0 number
seek_starts leaf nodes number first last = record { before = []; others = nodes; nodes_are = refl; at = refl; number_is = omega arith; first = first; last = last }

more_trees : {P : Type 0} (leaf : P → KeyringMeaning) (before others : List (Node P)) → 1 ≤ length (leaves leaf (forest others)) → length before < length (before ++ others)
more_trees leaf before [] some = absurd (omega (arith, some))
more_trees leaf before (node ∷ others) some = omega (arith, length-append before (node ∷ others))

-- there is a tree at the index
pub seek_inside : {P : Type 0} (leaf : P → KeyringMeaning) (nodes : List (Node P)) (number index own : ℕ) → Seeks leaf nodes number index own → index < length nodes
seek_inside leaf nodes number index own s = rw (s.nodes_are, sym s.at) (more_trees leaf s.before s.others (omega (arith, s.first, s.last)))

next_is : {P : Type 0} (before others : List (Node P)) (node : Node P) → length before < length (before ++ others) → slice_index_or (before ++ others) (length before) node ≡ node
    → others ≡ node ∷ drop 1 others
next_is before [] node some there = absurd (omega (arith, some, length-append before []))
next_is {P = P} before (other ∷ others) node some there = ap (λ (n : Node P). n ∷ others) (sym (get_or-append_seam before other others node) ∙ there)

-- it stands between the trees before it and those behind it
seek_split : {P : Type 0} (leaf : P → KeyringMeaning) (nodes : List (Node P)) (number index own : ℕ) (node : Node P) (s : Seeks leaf nodes number index own) → slice_index_or nodes index node ≡ node
    → s.others ≡ node ∷ drop 1 s.others
seek_split {P = P} leaf nodes number index own node s there =
    next_is s.before s.others node (more_trees leaf s.before s.others (omega (arith, s.first, s.last)))
    (subst (λ (l : List (Node P)). slice_index_or l (length s.before) node ≡ node) s.nodes_are (subst (λ (k : ℕ). slice_index_or nodes k node ≡ node) (sym s.at) there))

seek_count : {P : Type 0} (leaf : P → KeyringMeaning) (nodes : List (Node P)) (number index own : ℕ) (node : Node P) (s : Seeks leaf nodes number index own) → slice_index_or nodes index node ≡ node
    → length (leaves leaf (forest s.others)) ≡ length (node_leaves leaf node) + length (leaves leaf (forest (drop 1 s.others)))
seek_count {P = P} leaf nodes number index own node s there =
    ap (λ (l : List (Node P)). length (leaves leaf (forest l))) (seek_split leaf nodes number index own node s there) ∙ leaves_first leaf node (drop 1 s.others)

-- it has no more leaves than all
pub seek_few : {P : Type 0} (leaf : P → KeyringMeaning) (nodes : List (Node P)) (number index own : ℕ) (node : Node P) → Seeks leaf nodes number index own → slice_index_or nodes index node ≡ node
    → length (node_leaves leaf node) ≤ length (leaves leaf (forest nodes))
seek_few {P = P} leaf nodes number index own node s there = omega (
  arith,
  ap (λ (l : List (Node P)). length (leaves leaf (forest l))) s.nodes_are,
  ap length (leaves-append leaf s.before s.others),
  length-append (leaves leaf (forest s.before)) (leaves leaf (forest s.others)),
  seek_count leaf nodes number index own node s there,
)

-- it has the leaf
pub seek_ends : {P : Type 0} (leaf : P → KeyringMeaning) (nodes : List (Node P)) (number index own : ℕ) (node : Node P) → Seeks leaf nodes number index own → slice_index_or nodes index node ≡ node
    → own ≤ length (node_leaves leaf node) → IsSeat leaf nodes number index own
seek_ends {P = P} leaf nodes number index own node s there last = record {
  before = s.before;
  tree = node;
  behind = drop 1 s.others;
  nodes_are = s.nodes_are ∙ ap (λ (l : List (Node P)). s.before ++ l) (seek_split leaf nodes number index own node s there);
  at = s.at;
  number_is = s.number_is;
  first = s.first;
  last = last;
}

-- it doesn't have the leaf
pub seek_goes_on : {P : Type 0} (leaf : P → KeyringMeaning) (nodes : List (Node P)) (number index own count : ℕ) (node : Node P) → Seeks leaf nodes number index own
    → slice_index_or nodes index node ≡ node → count ≡ length (node_leaves leaf node) → count < own → Seeks leaf nodes number (index + 1) (own - count)
seek_goes_on {P = P} leaf nodes number index own count node s there count_is more = record {
  before = s.before ++ (node ∷ []);
  others = drop 1 s.others;
  nodes_are = s.nodes_are ∙ (ap (λ (l : List (Node P)). s.before ++ l) (seek_split leaf nodes number index own node s there) ∙ sym (append_assoc s.before (node ∷ []) (drop 1 s.others)));
  at = omega (arith, length-append s.before (node ∷ []), s.at);
  number_is = omega (arith, s.number_is, split_length leaf s.before node [], count_is, more);
  first = omega (arith, more);
  last = omega (arith, s.last, seek_count leaf nodes number index own node s there, count_is, more);
}

-- ---- the leaf's answer

seam : (before front : List KeyringMeaning) (m : KeyringMeaning) (back behind : List KeyringMeaning) → before ++ ((front ++ m ∷ back) ++ behind) ≡ (before ++ front) ++ m ∷ (back ++ behind)
seam before front m back behind =
    ap (λ (l : List KeyringMeaning). before ++ l) (append_assoc front (m ∷ back) behind) ∙ sym (append_assoc before front (m ∷ (back ++ behind)))

-- keyrings of a longer row
answers_between : (before behind old now : List KeyringMeaning) (number own : ℕ) (c : List KeyValue) (es : List Entry) (r : Result (Option (List ℕ)) RingError) → number ≡ length before + own
    → AnswersAt own old now c es r → AnswersAt number (before ++ (old ++ behind)) (before ++ (now ++ behind)) c es r
answers_between before behind old now number own c es r number_is a = record {
  before = before ++ a.before;
  asked = a.asked;
  left = a.left;
  behind = a.behind ++ behind;
  at = omega (arith, number_is, a.at, length-append before a.before);
  old_is = ap (λ (l : List KeyringMeaning). before ++ (l ++ behind)) a.old_is ∙ seam before a.before a.asked a.behind behind;
  now_is = ap (λ (l : List KeyringMeaning). before ++ (l ++ behind)) a.now_is ∙ seam before a.before a.left a.behind behind;
  goes = a.goes;
  opens = a.opens;
  used = a.used;
}

-- What a tree answers whose leaf is asked.
pub record TreeAsks {P : Type 0} (leaf : P → KeyringMeaning) (own : ℕ) (o n : Node P) (c : List KeyValue) (es : List Entry) (r : Result (Option (List ℕ)) RingError) : Type 0 where
  pub height : node_height n ≡ node_height o
  pub goes : KeyringGoes (tree_meaning leaf o) (tree_meaning leaf n)
  pub answers : AnswersAt own (node_leaves leaf o) (node_leaves leaf n) c es r

counted_front : (os ms : List KeyringMeaning) → AllCounted (os ++ ms) → AllCounted os
counted_front [] ms counted = tt
counted_front (o ∷ os) ms counted = (counted.0, counted_front os ms counted.1)

counted_back : (os ms : List KeyringMeaning) → AllCounted (os ++ ms) → AllCounted ms
counted_back [] ms counted = counted
counted_back (o ∷ os) ms counted = counted_back os ms counted.1

-- a tree between others that aren't asked
pub asks_between : {P : Type 0} (leaf : P → KeyringMeaning) (number own : ℕ) (before behind : List (Node P)) (o n : Node P) (c : List KeyValue) (es : List Entry)
    (r : Result (Option (List ℕ)) RingError) → number ≡ length (leaves leaf (forest before)) + own → TreeAsks leaf own o n c es r → AllCounted (map (tree_meaning leaf) (before ++ o ∷ behind))
    → AsksLeaf leaf number (before ++ o ∷ behind) (before ++ n ∷ behind) c es r
asks_between leaf number own before behind o n c es r number_is asks counted =
    let all = rw (map-append (tree_meaning leaf) before (o ∷ behind)) at counted in
    let front = stays_same leaf before (counted_front (map (tree_meaning leaf) before) (map (tree_meaning leaf) (o ∷ behind)) all) in
    let back = stays_same leaf behind (counted_back (map (tree_meaning leaf) before) (map (tree_meaning leaf) (o ∷ behind)) all).1 in
    record {
      stays = stays_join leaf before before (o ∷ behind) (n ∷ behind) front
          (stays_join leaf (o ∷ []) (n ∷ []) behind behind (one_stays leaf o n (record { height = asks.height; goes = asks.goes })) back);
      answers = rw (leaves_split leaf before o behind, leaves_split leaf before n behind)
          (answers_between (leaves leaf (forest before)) (leaves leaf (forest behind)) (node_leaves leaf o) (node_leaves leaf n) number own c es r number_is asks.answers);
    }

-- trees behind one that isn't asked
pub asks_behind : {P : Type 0} (leaf : P → KeyringMeaning) (number own : ℕ) (node : Node P) (old now : List (Node P)) (c : List KeyValue) (es : List Entry)
    (r : Result (Option (List ℕ)) RingError) → number ≡ length (node_leaves leaf node) + own → AsksLeaf leaf own old now c es r → AllCounted (map (tree_meaning leaf) (node ∷ old))
    → AsksLeaf leaf number (node ∷ old) (node ∷ now) c es r
asks_behind leaf number own node old now c es r number_is asks counted = record {
  stays = stays_join leaf (node ∷ []) (node ∷ []) old now (stays_same leaf (node ∷ []) (counted.0, tt)) asks.stays;
  answers = rw (leaves_cons leaf node old, leaves_cons leaf node now, sym (append-nil (leaves leaf (forest old))), sym (append-nil (leaves leaf (forest now))))
      (answers_between (node_leaves leaf node) [] (leaves leaf (forest old)) (leaves leaf (forest now)) number own c es r number_is asks.answers);
}

-- ---- the tree at the index that was found

pub seat_in : {P : Type 0} (leaf : P → KeyringMeaning) (nodes shown : List (Node P)) (number index own : ℕ) → shown ≡ nodes → IsSeat leaf shown number index own → IsSeat leaf nodes number index own
seat_in {P = P} leaf nodes shown number index own is seat = subst (λ (l : List (Node P)). IsSeat leaf l number index own) is seat

pub seat_inside : {P : Type 0} (leaf : P → KeyringMeaning) (nodes : List (Node P)) (number index own : ℕ) → IsSeat leaf nodes number index own → index < length nodes
seat_inside leaf nodes number index own seat = omega (arith, ap length seat.nodes_are, length-append seat.before (seat.tree ∷ seat.behind), seat.at)

seat_tree : {P : Type 0} (leaf : P → KeyringMeaning) (nodes : List (Node P)) (number index own : ℕ) (o : Node P) (seat : IsSeat leaf nodes number index own) → slice_index_or nodes index o ≡ o
    → seat.tree ≡ o
seat_tree {P = P} leaf nodes number index own o seat there =
    sym (get_or-append_seam seat.before seat.tree seat.behind o)
    ∙ subst (λ (l : List (Node P)). slice_index_or l (length seat.before) o ≡ o) seat.nodes_are (subst (λ (k : ℕ). slice_index_or nodes k o ≡ o) (sym seat.at) there)

pub seat_last : {P : Type 0} (leaf : P → KeyringMeaning) (nodes : List (Node P)) (number index own : ℕ) (o : Node P) → IsSeat leaf nodes number index own → slice_index_or nodes index o ≡ o
    → own ≤ length (node_leaves leaf o)
seat_last {P = P} leaf nodes number index own o seat there = subst (λ (x : Node P). own ≤ length (node_leaves leaf x)) (seat_tree leaf nodes number index own o seat there) seat.last

pub seat_few : {P : Type 0} (leaf : P → KeyringMeaning) (nodes : List (Node P)) (number index own : ℕ) (o : Node P) → IsSeat leaf nodes number index own → slice_index_or nodes index o ≡ o
    → length (node_leaves leaf o) ≤ length (leaves leaf (forest nodes))
seat_few {P = P} leaf nodes number index own o seat there = omega (
  arith,
  ap (λ (l : List (Node P)). length (leaves leaf (forest l))) seat.nodes_are,
  split_length leaf seat.before seat.tree seat.behind,
  ap (λ (x : Node P). length (node_leaves leaf x)) (seat_tree leaf nodes number index own o seat there),
)

pub asks_at : {P : Type 0} (leaf : P → KeyringMeaning) (nodes shown : List (Node P)) (number index own : ℕ) (o n : Node P) (c : List KeyValue) (es : List Entry) (r : Result (Option (List ℕ)) RingError)
    → IsSeat leaf nodes number index own → slice_index_or nodes index o ≡ o → TreeAsks leaf own o n c es r → shown ≡ nodes → AllCounted (map (tree_meaning leaf) shown)
    → AsksLeaf leaf number nodes (slice_set nodes index n) c es r
asks_at {P = P} leaf nodes shown number index own o n c es r seat there asks shown_is counted =
    let nodes_are = seat.nodes_are ∙ ap (λ (x : Node P). seat.before ++ x ∷ seat.behind) (seat_tree leaf nodes number index own o seat there) in
    let all = subst (λ (l : List (Node P)). AllCounted (map (tree_meaning leaf) l)) (shown_is ∙ nodes_are) counted in
    rw (nodes_are, sym seat.at, set-append_seam seat.before o seat.behind n)
    (asks_between leaf number own seat.before seat.behind o n c es r seat.number_is asks all)

-- ---- a generator and its children

pub generator_asked : {P : Type 0} (leaf : P → KeyringMeaning) (number : ℕ) (members : Members P) (o n : Node P) (c : List KeyValue) (es : List Entry) (r : Result (Option (List ℕ)) RingError)
    → members.generator ≡ Some o → TreeAsks leaf number o n c es r → AllCounted (map (tree_meaning leaf) (all_of members))
    → AsksLeaf leaf number (all_of members) (n ∷ members.children.items) c es r
generator_asked {P = P} leaf number members o n c es r has asks counted =
    let all = subst (λ (l : List (Node P)). AllCounted (map (tree_meaning leaf) l)) (all_with members o has) counted in
    rw (all_with members o has) (asks_between leaf number number [] members.children.items o n c es r (omega arith) asks all)

pub children_asked : {P : Type 0} (leaf : P → KeyringMeaning) (number count : ℕ) (members : Members P) (o : Node P) (qs : List (Node P)) (c : List KeyValue) (es : List Entry)
    (r : Result (Option (List ℕ)) RingError) → members.generator ≡ Some o → count ≡ length (node_leaves leaf o) → count < number
    → AsksLeaf leaf (number - count) members.children.items qs c es r → AllCounted (map (tree_meaning leaf) (all_of members)) → AsksLeaf leaf number (all_of members) (o ∷ qs) c es r
children_asked {P = P} leaf number count members o qs c es r has count_is more asks counted =
    let all = subst (λ (l : List (Node P)). AllCounted (map (tree_meaning leaf) l)) (all_with members o has) counted in
    rw (all_with members o has) (asks_behind leaf number (number - count) o members.children.items qs c es r (omega (arith, count_is, more)) asks all)

-- ---- a leaf

opens_as : (m n : KeyringMeaning) (c : List KeyValue) (es : List Entry) (r : Result (Option (List ℕ)) RingError) → IfOk r (Opens m n c es) → IfErr r (UnwrapCause m.faults n.faults)
    → OpensAs m.keys m.faults n.faults c es r
opens_as m n c es (Ok found) opens cause = opens
opens_as m n c es (Err e) opens cause = cause

-- a keyring is a row by itself
pub one_answers : (m n : KeyringMeaning) (number : ℕ) (c : List KeyValue) (es : List Entry) (r : Result (Option (List ℕ)) RingError) → 1 ≤ number → number ≤ length (m ∷ []) → KeyringGoes m n
    → IfOk r (Opens m n c es) → IfErr r (UnwrapCause m.faults n.faults) → AskedOnce m.uses n.uses (FindsBy c es r) → AnswersAt number (m ∷ []) (n ∷ []) c es r
one_answers m n number c es r first last goes opens cause used =
    record { before = []; asked = m; left = n; behind = []; at = omega (arith, first, last); old_is = refl; now_is = refl; goes = goes; opens = opens_as m n c es r opens cause; used = used }

-- ---- the cause of an error

-- where the leaf failed, so did the tree
pub answers_cause : (number a b : ℕ) (old now : List KeyringMeaning) (c : List KeyValue) (es : List Entry) (r : Result (Option (List ℕ)) RingError) → AnswersAt number old now c es r
    → a ≡ all_faults old → b ≡ all_faults now → IfErr r (UnwrapCause a b)
answers_cause number a b old now c es (Ok found) answers before after = tt
answers_cause number a b old now c es (Err (Refused r)) answers before after = answers.opens
answers_cause number a b old now c es (Err KeyringFault) answers before after = omega (
  arith,
  answers.opens,
  before,
  after,
  ap all_faults answers.old_is,
  ap all_faults answers.now_is,
  all_faults-append answers.before (answers.asked ∷ answers.behind),
  all_faults-append answers.before (answers.left ∷ answers.behind),
)
answers_cause number a b old now c es (Err Memory) answers before after = tt
