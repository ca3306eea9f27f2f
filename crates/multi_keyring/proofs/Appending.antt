-- How the trees of a row wrap a data key, one after the other.
use Rattle.std.proofs.Common.{◌≡◌, ℕ, ◌+◌, ◌*◌, ◌≤◌, ◌<◌, List, [], ◌∷◌, ◌++◌, length, map, slice_index_or, slice_set, Some, None, refl, sym, ap, ◌∙◌, subst, arith, length-append}
use Rattle.std.specs.Prelude.{⊤, Result, Ok, Err, IfErr}
use Rattle.std.proofs.lemmas.List.{append_assoc, append-nil, map-append}
use Rattle.std.proofs.Math.Seq.{set-append_seam, get_or-append_seam}
use Rattle.esdk_fields.specs.Counts.{Rose}
use Rattle.context_codec.specs.Context.{KeyValue}
use Rattle.edk_codec.specs.Entry.{Entry}
use Rattle.keyring_trait.specs.Keyring.{KeyringMeaning, KeyringGoes, WrappedValue, Wraps, AreMadeBy, WrapCause}
use Rattle.keyring_trait.specs.Uses.{AskedOnce}
use Rattle.keyring_trait.specs.Wrapping.{WrapKeyValue}
use Rattle.keyring_trait.proofs.Using.{once-weaker, unasked_once}
use Rattle.keyring_trait.specs.declared.ring_refusals.RingError.{RingError}
use Rattle.keyring_trait.specs.declared.ring_refusals.RingError.TheVariants.{Refused, KeyringFault, Memory}
use Rattle.multi_keyring.specs.Nodes.{node_height}
use Rattle.multi_keyring.specs.Tree.{all_faults, all_uses, all_wraps, first_refusal, tree_meaning}
use Rattle.multi_keyring.specs.Rows.{AllCounted, Appends, AppendsBy, RowWrapsBy}
use Rattle.multi_keyring.specs.Staying.{Stays}
use Rattle.multi_keyring.specs.declared.tree.Node.{Node}
use Rattle.multi_keyring.proofs.Counted.{or_first, or_next}
use Rattle.multi_keyring.proofs.Going.{faults_go}
use Rattle.multi_keyring.proofs.Joining.{all_wraps-append}
use Rattle.multi_keyring.proofs.Made.{appends_join, appends_by_join, one_appends, one_appends_by, none_append}
use Rattle.multi_keyring.proofs.Using.{uses-append, wraps_more, once_join, once_ends, once_alone}
use Rattle.multi_keyring.proofs.Finding.{stays_join, stays_same, faults-append}

-- What a tree that is handed a data key keeps.
pub record Kept {P : Type 0} (leaf : P → KeyringMeaning) (o n : Node P) : Type 0 where
  pub height : node_height n ≡ node_height o
  pub goes : KeyringGoes (tree_meaning leaf o) (tree_meaning leaf n)

pub one_stays : {P : Type 0} (leaf : P → KeyringMeaning) (o n : Node P) → Kept leaf o n → Stays leaf (o ∷ []) (n ∷ [])
one_stays leaf o n kept = record { heights = ap (λ (h : ℕ). h ∷ []) kept.height; goes = (kept.goes, tt) }

AllCounted-append : (os ms : List KeyringMeaning) → AllCounted os → AllCounted ms → AllCounted (os ++ ms)
AllCounted-append [] ms counted others = others
AllCounted-append (o ∷ os) ms counted others = (counted.0, AllCounted-append os ms counted.1 others)

-- Some trees of the row have wrapped the data key, and the others stand as they did; the random bytes are used and left for them.
pub record Midway {P : Type 0} (leaf : P → KeyringMeaning) (old now : List (Node P)) (i : ℕ) (c : List KeyValue) (key random rest : List ℕ) (start es : List Entry) : Type 0 where
  pub before : List (Node P)
  pub asked : List (Node P)
  pub left : List (Node P)
  pub used : List ℕ
  pub old_is : old ≡ before ++ left
  pub now_is : now ≡ asked ++ left
  pub at : length asked ≡ i
  pub random_is : random ≡ used ++ rest
  pub used_long : length used ≡ 12 * all_wraps (map (tree_meaning leaf) before)
  pub room : length rest ≡ 12 * all_wraps (map (tree_meaning leaf) left)
  pub takes : first_refusal (map (tree_meaning leaf) left) ≡ None
  pub stays : Stays leaf before asked
  pub appends : Appends (map (tree_meaning leaf) before) c key used start es
  pub once : AskedOnce (all_uses (map (tree_meaning leaf) before)) (all_uses (map (tree_meaning leaf) asked)) (AppendsBy (all_wraps (map (tree_meaning leaf) before)) c key used start es)
  pub counted_before : AllCounted (map (tree_meaning leaf) before)
  pub counted : AllCounted (map (tree_meaning leaf) left)

pub begins : {P : Type 0} (leaf : P → KeyringMeaning) (nodes shown : List (Node P)) (c : List KeyValue) (key random : List ℕ) (start : List Entry) → shown ≡ nodes
    → AllCounted (map (tree_meaning leaf) shown) → first_refusal (map (tree_meaning leaf) nodes) ≡ None → length random ≡ 12 * all_wraps (map (tree_meaning leaf) nodes)
    → Midway leaf nodes nodes 0 c key random random start start
begins {P = P} leaf nodes shown c key random start same counted takes room = record {
  before = [];
  asked = [];
  left = nodes;
  used = [];
  old_is = refl;
  now_is = refl;
  at = refl;
  random_is = refl;
  used_long = refl;
  room = room;
  takes = takes;
  stays = record { heights = refl; goes = tt };
  appends = none_append c key start;
  once = ([], refl, record { each = refl; entries = sym (append-nil start) });
  counted_before = tt;
  counted = subst (λ (l : List (Node P)). AllCounted (map (tree_meaning leaf) l)) same counted;
}

-- ---- at the end

-- What the whole row gives.
pub record Done {P : Type 0} (leaf : P → KeyringMeaning) (old now : List (Node P)) (c : List KeyValue) (key random : List ℕ) (start es : List Entry) : Type 0 where
  pub stays : Stays leaf old now
  pub appends : Appends (map (tree_meaning leaf) old) c key random start es
  pub once : AskedOnce (all_uses (map (tree_meaning leaf) old)) (all_uses (map (tree_meaning leaf) now)) (AppendsBy (all_wraps (map (tree_meaning leaf) old)) c key random start es)

nil_of : (l : List ℕ) (n : ℕ) → length l ≡ 12 * n → n ≡ 0 → l ≡ []
nil_of [] n long none = refl
nil_of (x ∷ l) n long none = absurd (omega (arith, long, none))

done_at : {P : Type 0} (leaf : P → KeyringMeaning) (before asked left : List (Node P)) (c : List KeyValue) (key used rest : List ℕ) (start es : List Entry) → length left ≤ 0
    → length rest ≡ 12 * all_wraps (map (tree_meaning leaf) left) → Stays leaf before asked → Appends (map (tree_meaning leaf) before) c key used start es
    → AskedOnce (all_uses (map (tree_meaning leaf) before)) (all_uses (map (tree_meaning leaf) asked)) (AppendsBy (all_wraps (map (tree_meaning leaf) before)) c key used start es)
    → Done leaf (before ++ left) (asked ++ left) c key (used ++ rest) start es
done_at leaf before asked [] c key used rest start es none room stays appends once =
    rw (append-nil before, append-nil asked, nil_of rest 0 room refl, append-nil used) record { stays = stays; appends = appends; once = once }
done_at leaf before asked (y ∷ left) c key used rest start es none room stays appends once = absurd (omega (arith, none))

pub done : {P : Type 0} (leaf : P → KeyringMeaning) (old now : List (Node P)) (i : ℕ) (c : List KeyValue) (key random rest : List ℕ) (start es : List Entry)
    → Midway leaf old now i c key random rest start es → length now ≤ i → Done leaf old now c key random start es
done leaf old now i c key random rest start es m all = rw (m.old_is, m.now_is, m.random_is)
    (done_at leaf m.before m.asked m.left c key m.used rest start es (omega (arith, ap length m.now_is, length-append m.asked m.left, m.at, all)) m.room m.stays m.appends m.once)

pub done_appends : {P : Type 0} (leaf : P → KeyringMeaning) (old now : List (Node P)) (i : ℕ) (c : List KeyValue) (key random rest : List ℕ) (start es : List Entry) (wrapped : WrappedValue)
    → Midway leaf old now i c key random rest start es → length now ≤ i → wrapped.entries ≡ es → Appends (map (tree_meaning leaf) old) c key random start wrapped.entries
done_appends leaf old now i c key random rest start es wrapped m all is =
    subst (λ (l : List Entry). Appends (map (tree_meaning leaf) old) c key random start l) (sym is) (done leaf old now i c key random rest start es m all).appends

-- by the keys that its trees went by
pub done_by : {P : Type 0} (leaf : P → KeyringMeaning) (old now : List (Node P)) (i : ℕ) (c : List KeyValue) (key random rest : List ℕ) (start es : List Entry) (wrapped : WrappedValue)
    → Midway leaf old now i c key random rest start es → length now ≤ i → wrapped.entries ≡ es
    → AskedOnce (all_uses (map (tree_meaning leaf) old)) (all_uses (map (tree_meaning leaf) now)) (RowWrapsBy (all_wraps (map (tree_meaning leaf) old)) c key random start (Ok wrapped))
done_by leaf old now i c key random rest start es wrapped m all is =
    once-weaker (all_uses (map (tree_meaning leaf) old)) (all_uses (map (tree_meaning leaf) now)) (AppendsBy (all_wraps (map (tree_meaning leaf) old)) c key random start es)
    (RowWrapsBy (all_wraps (map (tree_meaning leaf) old)) c key random start (Ok wrapped))
    (λ keys by. subst (λ (l : List Entry). AppendsBy (all_wraps (map (tree_meaning leaf) old)) c key random start l keys) (sym is) by)
    (done leaf old now i c key random rest start es m all).once

-- ---- one step

-- What the tree at the index is asked for.
pub record Here (m : KeyringMeaning) (rest : List ℕ) : Type 0 where
  pub takes : m.refuses_key ≡ None
  pub room : 12 * m.wraps ≤ length rest
  pub few : m.wraps ≤ 64

here_at : {P : Type 0} (leaf : P → KeyringMeaning) (asked left : List (Node P)) (rest : List ℕ) (d : Node P) → length asked < length (asked ++ left)
    → length rest ≡ 12 * all_wraps (map (tree_meaning leaf) left) → first_refusal (map (tree_meaning leaf) left) ≡ None → AllCounted (map (tree_meaning leaf) left)
    → Here (tree_meaning leaf (slice_index_or (asked ++ left) (length asked) d)) rest
here_at leaf asked [] rest d some room takes counted = absurd (omega (arith, some, length-append asked []))
here_at leaf asked (y ∷ left) rest d some room takes counted =
    rw (get_or-append_seam asked y left d) record {
      takes = or_first (tree_meaning leaf y).refuses_key (first_refusal (map (tree_meaning leaf) left)) takes;
      room = omega (arith, room);
      few = counted.0.bound;
    }

pub here : {P : Type 0} (leaf : P → KeyringMeaning) (old now : List (Node P)) (i : ℕ) (c : List KeyValue) (key random rest : List ℕ) (start es : List Entry) (y : Node P)
    → Midway leaf old now i c key random rest start es → i < length now → slice_index_or now i y ≡ y → Here (tree_meaning leaf y) rest
here {P = P} leaf old now i c key random rest start es y m some there =
    subst (λ (z : Node P). Here (tree_meaning leaf z) rest) there
    (rw (m.now_is, sym m.at)
    (here_at leaf m.asked m.left rest y (subst (λ (l : List (Node P)). length m.asked < length l) m.now_is (omega (arith, some, m.at))) m.room m.takes m.counted))

kept_at : {P : Type 0} (leaf : P → KeyringMeaning) (before asked left : List (Node P)) (x d : Node P) → length asked < length (asked ++ left) → Stays leaf before asked
    → AllCounted (map (tree_meaning leaf) left) → Kept leaf (slice_index_or (asked ++ left) (length asked) d) x → Stays leaf (before ++ left) (slice_set (asked ++ left) (length asked) x)
kept_at leaf before asked [] x d some stays counted kept = absurd (omega (arith, some, length-append asked []))
kept_at {P = P} leaf before asked (y ∷ left) x d some stays counted kept =
    let one = one_stays leaf y x (subst (λ (z : Node P). Kept leaf z x) (get_or-append_seam asked y left d) kept) in
    rw (set-append_seam asked y left x) (stays_join leaf before asked (y ∷ left) (x ∷ left) stays (stays_join leaf (y ∷ []) (x ∷ []) left left one (stays_same leaf left counted.1)))

-- the row is kept, whatever the tree at the index answered
pub kept_here : {P : Type 0} (leaf : P → KeyringMeaning) (old now : List (Node P)) (i : ℕ) (c : List KeyValue) (key random rest : List ℕ) (start es : List Entry) (y x : Node P)
    → Midway leaf old now i c key random rest start es → i < length now → slice_index_or now i y ≡ y → Kept leaf y x → Stays leaf old (slice_set now i x)
kept_here {P = P} leaf old now i c key random rest start es y x m some there kept =
    rw (m.old_is, m.now_is, sym m.at)
    (kept_at leaf m.before m.asked m.left x y (subst (λ (l : List (Node P)). length m.asked < length l) m.now_is (omega (arith, some, m.at))) m.stays m.counted
    (subst (λ (l : List (Node P)). Kept leaf (slice_index_or l (length m.asked) y) x) m.now_is
    (subst (λ (n : ℕ). Kept leaf (slice_index_or now n y) x) (sym m.at) (subst (λ (z : Node P). Kept leaf z x) (sym there) kept))))

once_at : {P : Type 0} (leaf : P → KeyringMeaning) (before asked left : List (Node P)) (x d : Node P) → length asked < length (asked ++ left)
    → AskedOnce (all_uses (map (tree_meaning leaf) before)) (all_uses (map (tree_meaning leaf) asked)) (λ _. ⊤)
    → AskedOnce (tree_meaning leaf (slice_index_or (asked ++ left) (length asked) d)).uses (tree_meaning leaf x).uses (λ _. ⊤)
    → AskedOnce (all_uses (map (tree_meaning leaf) (before ++ left))) (all_uses (map (tree_meaning leaf) (slice_set (asked ++ left) (length asked) x))) (λ _. ⊤)
once_at leaf before asked [] x d some first here = absurd (omega (arith, some, length-append asked []))
once_at {P = P} leaf before asked (y ∷ left) x d some first here =
    let one = subst (λ (z : Node P). AskedOnce (tree_meaning leaf z).uses (tree_meaning leaf x).uses (λ _. ⊤)) (get_or-append_seam asked y left d) here in
    rw (set-append_seam asked y left x, uses-append leaf before (y ∷ left), uses-append leaf asked (x ∷ left))
    (once_join (all_uses (map (tree_meaning leaf) before)) (all_uses (map (tree_meaning leaf) asked)) (all_uses (map (tree_meaning leaf) (y ∷ left))) (all_uses (map (tree_meaning leaf) (x ∷ left)))
    (λ _. ⊤) (λ _. ⊤) (λ _. ⊤) (λ _ _ _ _. tt) first
    (once_ends (tree_meaning leaf y).uses (tree_meaning leaf x).uses (all_uses (map (tree_meaning leaf) left)) (λ _. ⊤) (λ _. ⊤) (λ _ _ _. tt) one))

-- no tree of the row is asked twice, whatever the one at the index answered
pub once_here : {P : Type 0} (leaf : P → KeyringMeaning) (old now : List (Node P)) (i : ℕ) (c : List KeyValue) (key random rest : List ℕ) (start es : List Entry) (y x : Node P)
    → Midway leaf old now i c key random rest start es → i < length now → slice_index_or now i y ≡ y → AskedOnce (tree_meaning leaf y).uses (tree_meaning leaf x).uses (λ _. ⊤)
    → AskedOnce (all_uses (map (tree_meaning leaf) old)) (all_uses (map (tree_meaning leaf) (slice_set now i x))) (λ _. ⊤)
once_here {P = P} leaf old now i c key random rest start es y x m some there here =
    rw (m.old_is, m.now_is, sym m.at)
    (once_at leaf m.before m.asked m.left x y (subst (λ (l : List (Node P)). length m.asked < length l) m.now_is (omega (arith, some, m.at)))
    (once-weaker (all_uses (map (tree_meaning leaf) m.before)) (all_uses (map (tree_meaning leaf) m.asked)) (AppendsBy (all_wraps (map (tree_meaning leaf) m.before)) c key m.used start es)
    (λ _. ⊤) (λ _ _. tt) m.once)
    (subst (λ (l : List (Node P)). AskedOnce (tree_meaning leaf (slice_index_or l (length m.asked) y)).uses (tree_meaning leaf x).uses (λ _. ⊤)) m.now_is
    (subst (λ (n : ℕ). AskedOnce (tree_meaning leaf (slice_index_or now n y)).uses (tree_meaning leaf x).uses (λ _. ⊤)) (sym m.at)
    (subst (λ (z : Node P). AskedOnce (tree_meaning leaf z).uses (tree_meaning leaf x).uses (λ _. ⊤)) (sym there) here))))

-- a failure of the tree at the index is one of the row
failed_at : {P : Type 0} (leaf : P → KeyringMeaning) (before asked left : List (Node P)) (x d : Node P) → length asked < length (asked ++ left) → Stays leaf before asked
    → Rose (tree_meaning leaf (slice_index_or (asked ++ left) (length asked) d)).faults (tree_meaning leaf x).faults
    → Rose (all_faults (map (tree_meaning leaf) (before ++ left))) (all_faults (map (tree_meaning leaf) (slice_set (asked ++ left) (length asked) x)))
failed_at leaf before asked [] x d some stays rose = absurd (omega (arith, some, length-append asked []))
failed_at {P = P} leaf before asked (y ∷ left) x d some stays rose =
    let one = subst (λ (z : Node P). Rose (tree_meaning leaf z).faults (tree_meaning leaf x).faults) (get_or-append_seam asked y left d) rose in
    rw (set-append_seam asked y left x)
    (omega (arith, one, faults-append leaf before (y ∷ left), faults-append leaf asked (x ∷ left), faults_go (map (tree_meaning leaf) before) (map (tree_meaning leaf) asked) stays.goes))

pub cause_here : {P : Type 0} (leaf : P → KeyringMeaning) (old now : List (Node P)) (i : ℕ) (c : List KeyValue) (key random rest : List ℕ) (start es : List Entry) (y x : Node P) (e : RingError)
    → Midway leaf old now i c key random rest start es → i < length now → slice_index_or now i y ≡ y → WrapCause (tree_meaning leaf y).refuses_key (tree_meaning leaf y).faults (tree_meaning leaf x).faults e
    → WrapCause None (all_faults (map (tree_meaning leaf) old)) (all_faults (map (tree_meaning leaf) (slice_set now i x))) e
cause_here leaf old now i c key random rest start es y x (Refused r) m some there cause = sym (here leaf old now i c key random rest start es y m some there).takes ∙ cause
cause_here {P = P} leaf old now i c key random rest start es y x KeyringFault m some there cause = (
  refl,
  rw (m.old_is, m.now_is, sym m.at)
      (failed_at leaf m.before m.asked m.left x y (subst (λ (l : List (Node P)). length m.asked < length l) m.now_is (omega (arith, some, m.at))) m.stays
      (subst (λ (l : List (Node P)). Rose (tree_meaning leaf (slice_index_or l (length m.asked) y)).faults (tree_meaning leaf x).faults) m.now_is
      (subst (λ (n : ℕ). Rose (tree_meaning leaf (slice_index_or now n y)).faults (tree_meaning leaf x).faults) (sym m.at)
      (subst (λ (z : Node P). Rose (tree_meaning leaf z).faults (tree_meaning leaf x).faults) (sym there) cause.1)))),
)
cause_here leaf old now i c key random rest start es y x Memory m some there cause = refl

-- What the tree at the index made.
pub record Makes {P : Type 0} (leaf : P → KeyringMeaning) (o n : Node P) (c : List KeyValue) (own key : List ℕ) (wrapped : WrappedValue) : Type 0 where
  pub kept : Kept leaf o n
  pub wraps : Wraps (tree_meaning leaf o) c own (Some key) wrapped
  pub once : AskedOnce (tree_meaning leaf o).uses (tree_meaning leaf n).uses (AreMadeBy (tree_meaning leaf o).wraps c own wrapped)

more_once : {P : Type 0} (leaf : P → KeyringMeaning) (before asked : List (Node P)) (y x : Node P) (c : List KeyValue) (key used own : List ℕ) (start es : List Entry) (wrapped : WrappedValue)
    → length used ≡ 12 * all_wraps (map (tree_meaning leaf) before) → wrapped.key ≡ key
    → AskedOnce (all_uses (map (tree_meaning leaf) before)) (all_uses (map (tree_meaning leaf) asked)) (AppendsBy (all_wraps (map (tree_meaning leaf) before)) c key used start es)
    → AskedOnce (tree_meaning leaf y).uses (tree_meaning leaf x).uses (AreMadeBy (tree_meaning leaf y).wraps c own wrapped)
    → AskedOnce (all_uses (map (tree_meaning leaf) (before ++ (y ∷ [])))) (all_uses (map (tree_meaning leaf) (asked ++ (x ∷ []))))
    (AppendsBy (all_wraps (map (tree_meaning leaf) (before ++ (y ∷ [])))) c key (used ++ own) start (es ++ wrapped.entries))
more_once leaf before asked y x c key used own start es wrapped long is first here =
    let all : ℕ = all_wraps (map (tree_meaning leaf) before) in
    let mine : ℕ = (tree_meaning leaf y).wraps in
    rw (uses-append leaf before (y ∷ []), uses-append leaf asked (x ∷ []), wraps_more leaf before y)
    (once_join (all_uses (map (tree_meaning leaf) before)) (all_uses (map (tree_meaning leaf) asked)) (all_uses (map (tree_meaning leaf) (y ∷ []))) (all_uses (map (tree_meaning leaf) (x ∷ [])))
    (AppendsBy all c key used start es) (AreMadeBy mine c own wrapped) (AppendsBy (all + mine) c key (used ++ own) start (es ++ wrapped.entries))
    (λ keys others before_by made_by.
    appends_by_join all mine c key used own start es (es ++ wrapped.entries) long keys others before_by (one_appends_by mine c own key wrapped es others is made_by))
    first (once_alone (tree_meaning leaf y).uses (tree_meaning leaf x).uses (AreMadeBy mine c own wrapped) here))

step_at : {P : Type 0} (leaf : P → KeyringMeaning) (before asked left : List (Node P)) (x d : Node P) (c : List KeyValue) (key used own others : List ℕ) (start es : List Entry) (wrapped : WrappedValue)
    → length asked < length (asked ++ left) → length used ≡ 12 * all_wraps (map (tree_meaning leaf) before) → length (own ++ others) ≡ 12 * all_wraps (map (tree_meaning leaf) left)
    → length own ≡ 12 * (tree_meaning leaf (slice_index_or (asked ++ left) (length asked) d)).wraps
    → first_refusal (map (tree_meaning leaf) left) ≡ None → Stays leaf before asked → Appends (map (tree_meaning leaf) before) c key used start es
    → AskedOnce (all_uses (map (tree_meaning leaf) before)) (all_uses (map (tree_meaning leaf) asked)) (AppendsBy (all_wraps (map (tree_meaning leaf) before)) c key used start es)
    → AllCounted (map (tree_meaning leaf) before) → AllCounted (map (tree_meaning leaf) left) → Makes leaf (slice_index_or (asked ++ left) (length asked) d) x c own key wrapped
    → Midway leaf (before ++ left) (slice_set (asked ++ left) (length asked) x) (length asked + 1) c key (used ++ (own ++ others)) others start (es ++ wrapped.entries)
step_at leaf before asked [] x d c key used own others start es wrapped some used_long room own_long takes stays appends once counted_before counted makes = absurd (omega (arith, some, length-append asked []))
step_at {P = P} leaf before asked (y ∷ left) x d c key used own others start es wrapped some used_long room own_long takes stays appends once counted_before counted makes =
    let made = subst (λ (z : Node P). Makes leaf z x c own key wrapped) (get_or-append_seam asked y left d) makes in
    let long = subst (λ (z : Node P). length own ≡ 12 * (tree_meaning leaf z).wraps) (get_or-append_seam asked y left d) own_long in
    let one = subst (λ (k : List ℕ). Appends (tree_meaning leaf y ∷ []) c k own es (es ++ wrapped.entries)) made.wraps.key (one_appends (tree_meaning leaf y) c own (Some key) wrapped es made.wraps) in
    record {
      before = before ++ (y ∷ []);
      asked = asked ++ (x ∷ []);
      left = left;
      used = used ++ own;
      old_is = sym (append_assoc before (y ∷ []) left);
      now_is = set-append_seam asked y left x ∙ sym (append_assoc asked (x ∷ []) left);
      at = length-append asked (x ∷ []);
      random_is = sym (append_assoc used own others);
      used_long = omega (arith, length-append used own, used_long, long, ap all_wraps (map-append (tree_meaning leaf) before (y ∷ [])), all_wraps-append (map (tree_meaning leaf) before) (tree_meaning leaf y ∷ []));
      room = omega (arith, length-append own others, room, long);
      takes = or_next (tree_meaning leaf y).refuses_key (first_refusal (map (tree_meaning leaf) left)) takes;
      stays = stays_join leaf before asked (y ∷ []) (x ∷ []) stays (one_stays leaf y x made.kept);
      appends = rw (map-append (tree_meaning leaf) before (y ∷ []))
          (appends_join (map (tree_meaning leaf) before) (tree_meaning leaf y ∷ []) c key used own start es (es ++ wrapped.entries) counted_before used_long appends one);
      once = more_once leaf before asked y x c key used own start es wrapped used_long made.wraps.key once made.once;
      counted_before = rw (map-append (tree_meaning leaf) before (y ∷ [])) (AllCounted-append (map (tree_meaning leaf) before) (tree_meaning leaf y ∷ []) counted_before (counted.0, tt));
      counted = counted.1;
    }

-- the tree at the index wrapped the data key, and what it made was appended
pub step_here : {P : Type 0} (leaf : P → KeyringMeaning) (old now : List (Node P)) (i : ℕ) (c : List KeyValue) (key random rest own others : List ℕ) (start es after : List Entry) (y x : Node P) (wrapped : WrappedValue)
    → Midway leaf old now i c key random rest start es → i < length now → slice_index_or now i y ≡ y → rest ≡ own ++ others → length own ≡ 12 * (tree_meaning leaf y).wraps
    → Makes leaf y x c own key wrapped → after ≡ es ++ wrapped.entries → Midway leaf old (slice_set now i x) (i + 1) c key random others start after
step_here {P = P} leaf old now i c key random rest own others start es after y x wrapped m some there rest_is own_long makes after_is =
    rw (m.old_is, m.now_is, m.random_is, rest_is, sym m.at, after_is)
    (step_at leaf m.before m.asked m.left x y c key m.used own others start es wrapped (subst (λ (l : List (Node P)). length m.asked < length l) m.now_is (omega (arith, some, m.at)))
    m.used_long (sym (ap length rest_is) ∙ m.room)
    (subst (λ (l : List (Node P)). length own ≡ 12 * (tree_meaning leaf (slice_index_or l (length m.asked) y)).wraps) m.now_is
    (subst (λ (n : ℕ). length own ≡ 12 * (tree_meaning leaf (slice_index_or now n y)).wraps) (sym m.at)
    (subst (λ (z : Node P). length own ≡ 12 * (tree_meaning leaf z).wraps) (sym there) own_long)))
    m.takes m.stays m.appends m.once m.counted_before m.counted
    (subst (λ (l : List (Node P)). Makes leaf (slice_index_or l (length m.asked) y) x c own key wrapped) m.now_is
    (subst (λ (n : ℕ). Makes leaf (slice_index_or now n y) x c own key wrapped) (sym m.at) (subst (λ (z : Node P). Makes leaf z x c own key wrapped) (sym there) makes))))

-- what is said of the error of an answer
pub err_is : {T : Type 0} (r : Result T RingError) (e : RingError) (says : RingError → Type 0) → r ≡ Err e → says e → IfErr r says
err_is r e says is said = rw is said
