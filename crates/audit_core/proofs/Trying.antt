-- One leaf more is asked.
use Rattle.std.proofs.Common.{◌≡◌, ℕ, ◌+◌, ◌≤◌, Bool, true, false, List, [], ◌∷◌, ◌++◌, length, map, Option, None, refl, sym, ap, subst, ◌∙◌, arith}
use Rattle.std.specs.Prelude.{All, if◌then◌else◌}
use Rattle.std.proofs.lemmas.List.{append_assoc, append-nil, length-append, length-map, map-append}
use Rattle.std.proofs.lemmas.List.Elements.{All-nil, All-cons, All-append}
use Rattle.context_codec.specs.Context.{KeyValue}
use Rattle.context_codec.specs.Parts.{only_given, whole_of}
use Rattle.header_codec.specs.Header.{HeaderValue}
use Rattle.keyring_trait.specs.Keyring.{KeyringMeaning, KeyringGoes}
use Rattle.keyring_trait.specs.Unlocking.{pair_offence}
use Rattle.audit_core.specs.Asking.{LeafAnswer, IsAnswer, NamesOpeners, NamesFirst, TriesLeaf}
use Rattle.audit_core.specs.Openers.{numbers_of, unlocks}
use Rattle.audit_core.proofs.Numbered.{same_front, numbers_more}

-- a keyring's answer in a tree's row
abbrev answer_of : KeyringMeaning → KeyringMeaning → Option (List ℕ) → LeafAnswer
answer_of before after found = record { before = before; after = after; found = found }

-- the openers so far, and the leaf of this number where it is one
abbrev with_opener : Bool → ℕ → List ℕ → List ℕ
with_opener true number openers = openers ++ number ∷ []
with_opener false number openers = openers

opener_more : (b test : Bool) (number : ℕ) (openers : List ℕ) → b ≡ test → with_opener b number openers ≡ openers ++ (if test then number ∷ [] else [])
opener_more true test number openers is = rw (sym is) refl
opener_more false test number openers is = rw (sym is) (sym (append-nil openers))

row_more : (f : LeafAnswer → KeyringMeaning) (answers : List LeafAnswer) (a : LeafAnswer) (behind : List KeyringMeaning) → map f answers ++ f a ∷ behind ≡ map f (answers ++ a ∷ []) ++ behind
row_more f answers a behind =
    sym (append_assoc (map f answers) (f a ∷ []) behind) ∙ ap (λ (l : List KeyringMeaning). l ++ behind) (sym (map-append f answers (a ∷ [])))

one_more : (old now after : List KeyringMeaning) (h : HeaderValue) (whole only : List KeyValue) (count : ℕ) (openers : List ℕ) (is_opener : Bool)
    → NamesFirst old now h whole only count openers → TriesLeaf (count + 1) now after h whole only is_opener
    → NamesFirst old after h whole only (count + 1) (with_opener is_opener (count + 1) openers)
one_more old now after h whole only count openers is_opener first tries =
    let answers = first.answers in
    let leaf = tries.answers in
    let a : LeafAnswer = answer_of leaf.asked leaf.left tries.found in
    let test : LeafAnswer → Bool = λ x. unlocks h only x.found in
    let seam = same_front (map (λ (x : LeafAnswer). x.after) answers) leaf.before first.behind (leaf.asked ∷ leaf.behind) (sym first.now_is ∙ leaf.old_is)
    (omega (arith, length-map answers (λ (x : LeafAnswer). x.after), first.count_is, leaf.at)) in
    record {
      answers = answers ++ a ∷ [];
      behind = leaf.behind;
      old_is = first.old_is ∙ (ap (λ (l : List KeyringMeaning). map (λ (x : LeafAnswer). x.before) answers ++ l) seam.back ∙ row_more (λ (x : LeafAnswer). x.before) answers a leaf.behind);
      now_is = leaf.now_is ∙ (ap (λ (l : List KeyringMeaning). l ++ leaf.left ∷ leaf.behind) (sym seam.front) ∙ row_more (λ (x : LeafAnswer). x.after) answers a leaf.behind);
      count_is = omega (arith, first.count_is, length-append answers (a ∷ []));
      are = All-append (IsAnswer whole h.entries) answers (a ∷ []) first.are
          (All-cons (IsAnswer whole h.entries) a [] (record { goes = leaf.goes; opens = leaf.opens; used = leaf.used }) (All-nil (IsAnswer whole h.entries)));
      openers_are = opener_more is_opener (test a) (count + 1) openers tries.is
          ∙ (ap (λ (l : List ℕ). l ++ numbers_of test (count + 1) (a ∷ [])) first.openers_are
          ∙ sym (numbers_more test 1 (count + 1) answers a (omega (arith, first.count_is))));
    }

-- it is an opener, and stands behind the others
pub one_is_opener : (old now after : List KeyringMeaning) (h : HeaderValue) (whole only : List KeyValue) (count : ℕ) (openers more : List ℕ) (is_opener : Bool) → is_opener ≡ true
    → more ≡ openers ++ (count + 1) ∷ [] → NamesFirst old now h whole only count openers → TriesLeaf (count + 1) now after h whole only is_opener
    → NamesFirst old after h whole only (count + 1) more
one_is_opener old now after h whole only count openers more is_opener is more_is first tries =
    let all : with_opener is_opener (count + 1) openers ≡ more = ap (λ (b : Bool). with_opener b (count + 1) openers) is ∙ sym more_is in
    subst (λ (l : List ℕ). NamesFirst old after h whole only (count + 1) l) all (one_more old now after h whole only count openers is_opener first tries)

-- or it is none
pub one_is_none : (old now after : List KeyringMeaning) (h : HeaderValue) (whole only : List KeyValue) (count : ℕ) (openers more : List ℕ) (is_opener : Bool) → is_opener ≡ false
    → more ≡ openers → NamesFirst old now h whole only count openers → TriesLeaf (count + 1) now after h whole only is_opener → NamesFirst old after h whole only (count + 1) more
one_is_none old now after h whole only count openers more is_opener is more_is first tries =
    let all : with_opener is_opener (count + 1) openers ≡ more = ap (λ (b : Bool). with_opener b (count + 1) openers) is ∙ sym more_is in
    subst (λ (l : List ℕ). NamesFirst old after h whole only (count + 1) l) all (one_more old now after h whole only count openers is_opener first tries)

no_more : {A : Type 0} (xs : List A) → length xs ≡ 0 → xs ≡ []
no_more [] none = refl
no_more (x ∷ xs) none = absurd (omega (arith, none))

-- all leaves were asked
pub all_tried : (old now : List KeyringMeaning) (h : HeaderValue) (given whole only : List KeyValue) (count : ℕ) (openers : List ℕ) → pair_offence h.stored given [] ≡ None
    → whole ≡ whole_of h.stored given → only ≡ only_given h.stored given → length old ≤ count → NamesFirst old now h whole only count openers → NamesOpeners old now h given openers
all_tried old now h given whole only count openers sound whole_is only_is all first =
    let none = no_more first.behind (omega (
      arith,
      all,
      first.count_is,
      ap length first.old_is,
      length-append (map (λ (x : LeafAnswer). x.before) first.answers) first.behind,
      length-map first.answers (λ (x : LeafAnswer). x.before),
    )) in
    record {
      sound = sound;
      answers = first.answers;
      old_is = first.old_is ∙ (ap (λ (l : List KeyringMeaning). map (λ (x : LeafAnswer). x.before) first.answers ++ l) none ∙ append-nil (map (λ (x : LeafAnswer). x.before) first.answers));
      now_is = first.now_is ∙ (ap (λ (l : List KeyringMeaning). map (λ (x : LeafAnswer). x.after) first.answers ++ l) none ∙ append-nil (map (λ (x : LeafAnswer). x.after) first.answers));
      are = subst (λ (w : List KeyValue). All (IsAnswer w h.entries) first.answers) whole_is first.are;
      openers_are = subst (λ (o : List KeyValue). openers ≡ numbers_of (λ x. unlocks h o x.found) 1 first.answers) only_is first.openers_are;
    }

-- as many leaves are left as there were
pub as_many : (old now : List KeyringMeaning) (h : HeaderValue) (whole only : List KeyValue) (count : ℕ) (openers : List ℕ) → NamesFirst old now h whole only count openers → length now ≡ length old
as_many old now h whole only count openers first = omega (
  arith,
  ap length first.old_is,
  ap length first.now_is,
  length-append (map (λ (x : LeafAnswer). x.before) first.answers) first.behind,
  length-append (map (λ (x : LeafAnswer). x.after) first.answers) first.behind,
  length-map first.answers (λ (x : LeafAnswer). x.before),
  length-map first.answers (λ (x : LeafAnswer). x.after),
)

-- one call more
pub tree_goes_on : (first old new : KeyringMeaning) → KeyringGoes first old → KeyringGoes old new → KeyringGoes first new
tree_goes_on first old new before after = record {
  keys = after.keys ∙ before.keys;
  wraps = after.wraps ∙ before.wraps;
  refuses_key = after.refuses_key ∙ before.refuses_key;
  refuses_none = after.refuses_none ∙ before.refuses_none;
  steady = after.steady ∙ before.steady;
  later = omega (arith, before.later, after.later);
  still = λ steady.
      (let one = before.still steady in
      let other = after.still (before.steady ∙ steady) in
      omega (arith, one, other, before.later, after.later));
}
