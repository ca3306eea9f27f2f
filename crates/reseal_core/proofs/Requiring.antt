-- A request for materials over a context, of which the keys of some pairs are required.
use Rattle.std.proofs.Common.{◌≡◌, ◌∙◌, ℕ, Bool, true, false, ◌||◌, List, [], ◌∷◌, Some, None, refl, sym, ap, subst}
use Rattle.std.specs.Prelude.{not, find, option_map}
use Rattle.std.proofs.lemmas.List.Elements.{All-nil, All-cons, All-contains, All-weaker}
use Rattle.std.specs.BTreeMap.{insert_entry}
use Rattle.std.specs.Ordering.{match_ordering}
use Rattle.std.specs.declared.cmp.Ordering.{Ordering}
use Rattle.std.specs.declared.cmp.Ordering.TheVariants.{Less, Equal, Greater}
use Rattle.esdk_fields.specs.declared.refusals.Refusal.{Refusal}
use Rattle.esdk_fields.specs.declared.refusals.Refusal.TheVariants.{RequiredAbsent}
use Rattle.context_codec.specs.Context.{KeyValue, has_key}
use Rattle.context_codec.specs.KeySet.{IsKeySet, with_keys}
use Rattle.context_codec.specs.Parts.{holds, joined, keys_of, only_given, whole_of}
use Rattle.context_codec.proofs.KeySets.{with_keys-from_nil}
use Rattle.context_codec.proofs.Keys.{equal_same, key_cmp}
use Rattle.context_codec.proofs.Members.{Contains-head, none_found}
use Rattle.context_codec.proofs.Parts.{holds_own}
use Rattle.keyring_trait.specs.Requests.{AllHeld, EncRequestValue, required_absent}
use Rattle.reseal_core.specs.Front.{request_for}

abbrev asking : List KeyValue → List (List ℕ) → EncRequestValue
asking context required = record { context = context; required = required; declared = None }

-- The keys of a set, put into none, are the set.
pub request_is : (whole only : List KeyValue) (keys : List (List ℕ)) (context : List KeyValue) (plain request : EncRequestValue) → keys ≡ keys_of only → context ≡ whole → IsKeySet keys → plain ≡ asking context []
    → request ≡ record { context = plain.context; required = with_keys plain.required keys; declared = plain.declared } → request ≡ request_for whole only
request_is whole only keys context plain request keys_is context_is set plain_is is =
    is ∙ ap (λ (p : EncRequestValue). record { context = p.context; required = with_keys p.required keys; declared = p.declared }) plain_is
    ∙ ap (λ (c : List KeyValue). asking c (with_keys [] keys)) context_is ∙ ap (asking whole) (with_keys-from_nil keys set.ascending ∙ keys_is)

-- None of the keys that are held is absent.
pub none_absent : (whole only : List KeyValue) (keys : List (List ℕ)) (context : List KeyValue) (plain : EncRequestValue) (refusal : Refusal) → keys ≡ keys_of only → context ≡ whole → plain ≡ asking context []
    → AllHeld whole (keys_of only) → required_absent plain.context keys ≡ Some refusal → ⊥
none_absent whole only keys context plain refusal keys_is context_is plain_is held absent =
    let none : find (λ key. not (holds whole key)) (keys_of only) ≡ None =
    none_found (λ key. not (holds whole key)) (keys_of only) (λ key listed. ap not (All-contains (λ k. holds whole k ≡ true) (keys_of only) key held listed)) in
    let no : None ≡ Some refusal =
    sym (ap (option_map (λ (k : List ℕ). RequiredAbsent k)) none)
    ∙ sym (ap (λ (p : EncRequestValue). required_absent p.context keys) plain_is ∙ ap (λ (c : List KeyValue). required_absent c keys) context_is ∙ ap (required_absent whole) keys_is)
    ∙ absent in
    cc

-- ---- pairs that are joined

or_true : (b c : Bool) → c ≡ true → (b || c) ≡ true
or_true true c e = refl
or_true false c e = e

or_more : (b c d : Bool) → (b || c) ≡ true → (c ≡ true → d ≡ true) → (b || d) ≡ true
or_more true c d e more = refl
or_more false c d e more = more e

put_own : (key value : List ℕ) (q : KeyValue) (qs : List KeyValue) (o : Ordering) → o ≡ key_cmp key q.0 → holds (insert_entry key_cmp qs key value) key ≡ true
    → holds (match_ordering o ((key, value) ∷ q ∷ qs) ((q.0, value) ∷ qs) (q ∷ insert_entry key_cmp qs key value)) key ≡ true
put_own key value q qs Less is rest = holds_own ((key, value) ∷ q ∷ qs) (key, value) (Contains-head (key, value) (q ∷ qs))
put_own key value q qs Equal is rest =
    ap (holds ((q.0, value) ∷ qs)) (equal_same key q.0 (sym is)) ∙ holds_own ((q.0, value) ∷ qs) (q.0, value) (Contains-head (q.0, value) qs)
put_own key value q qs Greater is rest = or_true (has_key key q) (holds (insert_entry key_cmp qs key value) key) rest

-- a pair that is put there is held
put_held : (key value : List ℕ) (qs : List KeyValue) → holds (insert_entry key_cmp qs key value) key ≡ true
put_held key value [] = holds_own ((key, value) ∷ []) (key, value) (Contains-head (key, value) [])
put_held key value (q ∷ qs) = put_own key value q qs (key_cmp key q.0) refl (put_held key value qs)

put_other : (key value other : List ℕ) (q : KeyValue) (qs : List KeyValue) (o : Ordering) → holds (q ∷ qs) other ≡ true → (holds qs other ≡ true → holds (insert_entry key_cmp qs key value) other ≡ true)
    → holds (match_ordering o ((key, value) ∷ q ∷ qs) ((q.0, value) ∷ qs) (q ∷ insert_entry key_cmp qs key value)) other ≡ true
put_other key value other q qs Less held rest = or_true (has_key other (key, value)) (holds (q ∷ qs) other) held
put_other key value other q qs Equal held rest = held
put_other key value other q qs Greater held rest = or_more (has_key other q) (holds qs other) (holds (insert_entry key_cmp qs key value) other) held rest

-- and so are the others still
put_keeps : (key value other : List ℕ) (qs : List KeyValue) → holds qs other ≡ true → holds (insert_entry key_cmp qs key value) other ≡ true
put_keeps key value other [] held = absurd (let no : false ≡ true = held in cc)
put_keeps key value other (q ∷ qs) held = put_other key value other q qs (key_cmp key q.0) held (put_keeps key value other qs)

joined_held : (ps more : List KeyValue) → AllHeld (joined ps more) (keys_of more)
joined_held ps [] = All-nil (λ key. holds ps key ≡ true)
joined_held ps (p ∷ more) =
    All-cons (λ key. holds (joined ps (p ∷ more)) key ≡ true) p.0 (keys_of more) (put_held p.0 p.1 (joined ps more))
    (All-weaker (λ key. holds (joined ps more) key ≡ true) (λ key. holds (joined ps (p ∷ more)) key ≡ true) (λ key held. put_keeps p.0 p.1 key (joined ps more) held) (keys_of more) (joined_held ps more))

-- The whole context holds the pairs that are only authenticated.
pub whole_held : (stored given whole only : List KeyValue) → whole ≡ whole_of stored given → only ≡ only_given stored given → AllHeld whole (keys_of only)
whole_held stored given whole only whole_is only_is =
    subst (λ (w : List KeyValue). AllHeld w (keys_of only)) (sym whole_is)
    (subst (λ (o : List KeyValue). AllHeld (whole_of stored given) (keys_of o)) (sym only_is) (joined_held stored (only_given stored given)))
