-- A tree without a leaf that is needed for no message.
use Rattle.std.proofs.Common.{◌≡◌, ◌≢◌, ℕ, ◌+◌, true, List, [], ◌∷◌, ◌++◌, length, map, Option, Some, None, refl, sym, ap, subst, ◌∙◌, inl, inr, arith}
use Rattle.std.specs.Prelude.{All, Contains}
use Rattle.std.specs.Option.{option_or}
use Rattle.std.proofs.lemmas.List.Elements.{All-contains, All-contains_itself, All-weaker, Contains-append_right}
use Rattle.context_codec.specs.Context.{KeyValue}
use Rattle.context_codec.specs.Parts.{only_given, whole_of}
use Rattle.context_codec.proofs.Members.{Contains-head, Contains-tail, Contains-cases, Contains-nil}
use Rattle.edk_codec.specs.Entry.{Entry}
use Rattle.header_codec.specs.Header.{HeaderValue}
use Rattle.header_codec.specs.Table.{HeaderFields}
use Rattle.keyring_trait.specs.Wrapping.{WrapKeyValue, first_some, unwrapped}
use Rattle.keyring_trait.proofs.Firsts.{first_some-found, first_some-none}
use Rattle.message_format.specs.Judgement.{header_of}
use Rattle.multi_keyring.proofs.Joining.{unwrapped-append}
use Rattle.audit_core.specs.Laws.{Fits, UnlockedWith, tree_keys}
use Rattle.audit_core.specs.Messages.{Message, audited}
use Rattle.audit_core.specs.Openers.{found_with, is_opener, needed_for, numbers_of, openers, unlocks}
use Rattle.audit_core.proofs.Numbered.{number_listed, number_of}
use Rattle.audit_core.proofs.Needed.{leaves_another}
use Rattle.audit_core.proofs.Unlocked.{BeginsSo, listed_of, opener_of, stands_of, unlocked_of, unlocking_is}

-- ---- places in a list

-- What stands somewhere in a list.
pub record Split {A : Type 0} (xs : List A) (x : A) : Type 0 where
  pub before : List A
  pub behind : List A
  pub are : xs ≡ before ++ x ∷ behind

split_at : {A : Type 0} (xs : List A) (x : A) → Contains xs x → Split xs x
split_at [] x listed = absurd (Contains-nil x listed)
split_at {A = A} (y ∷ ys) x listed =
    elim (Contains-cases y ys x listed) [
      | inl is ↦ record { before = []; behind = ys; are = ap (λ (z : A). z ∷ ys) is }
      | inr later ↦ let there = split_at ys x later in record { before = y ∷ there.before; behind = there.behind; are = ap (λ (l : List A). y ∷ l) there.are }
    ]

-- what stands elsewhere than the one that is taken out
elsewhere : {A : Type 0} (before : List A) (out : A) (behind other : List A) (x : A) (rest : List A) → before ++ out ∷ behind ≡ other ++ x ∷ rest → length other ≢ length before
    → Contains (before ++ behind) x
elsewhere [] out behind [] x rest are apart = absurd (apart refl)
elsewhere {A = A} [] out behind (z ∷ zs) x rest are apart =
    let back : behind ≡ zs ++ x ∷ rest = cc in
    subst (λ (l : List A). Contains l x) (sym back) (Contains-append_right zs (x ∷ rest) x (Contains-head x rest))
elsewhere {A = A} (y ∷ ys) out behind [] x rest are apart =
    let first : y ≡ x = cc in
    subst (λ (z : A). Contains (y ∷ (ys ++ behind)) z) first (Contains-head y (ys ++ behind))
elsewhere (y ∷ ys) out behind (z ∷ zs) x rest are apart =
    let later : ys ++ out ∷ behind ≡ zs ++ x ∷ rest = cc in
    Contains-tail y (ys ++ behind) x (elsewhere ys out behind zs x rest later (λ same. apart (omega (arith, same))))

-- what is left stood there before
stood : {A : Type 0} (before : List A) (out : A) (behind : List A) (x : A) → Contains (before ++ behind) x → Contains (before ++ out ∷ behind) x
stood [] out behind x listed = Contains-tail out behind x listed
stood (y ∷ ys) out behind x listed =
    elim (Contains-cases y (ys ++ behind) x listed) [
      | inl is ↦ subst (λ z. Contains (y ∷ (ys ++ out ∷ behind)) z) is (Contains-head y (ys ++ out ∷ behind))
      | inr later ↦ Contains-tail y (ys ++ out ∷ behind) x (stood ys out behind x later)
    ]

-- ---- what the leaves find together

-- what each of them finds
abbrev finds : HeaderValue → (given : List KeyValue) → List WrapKeyValue → Option (List ℕ)
finds h given keys = found_with keys h given

together : (leaves : List (List WrapKeyValue)) (entries : List Entry) (c : List KeyValue) → unwrapped (tree_keys leaves) entries c ≡ first_some (λ (keys : List WrapKeyValue). unwrapped keys entries c) leaves
unfolding unwrapped
together [] entries c = refl
together (keys ∷ leaves) entries c = unwrapped-append keys (tree_keys leaves) entries c ∙ ap (option_or (unwrapped keys entries c)) (together leaves entries c)

pub tree_finds : (leaves : List (List WrapKeyValue)) (h : HeaderValue) (given : List KeyValue) → found_with (tree_keys leaves) h given ≡ first_some (finds h given) leaves
tree_finds leaves h given = together leaves h.entries (whole_of h.stored given)

some_found : (h : HeaderValue) (only : List KeyValue) (found : Option (List ℕ)) → unlocks h only found ≡ true → (key : List ℕ) × (found ≡ Some key)
some_found h only None opens = absurd cc
some_found h only (Some key) opens = (key, refl)

-- A leaf of these opens the message.
pub record OpenerAmong (h : HeaderValue) (given : List KeyValue) (leaves : List (List WrapKeyValue)) : Type 0 where
  pub keys : List WrapKeyValue
  pub listed : Contains leaves keys
  pub opens : is_opener h given keys ≡ true

-- where the tree opens it, some leaf does
tree_opener : (h : HeaderValue) (given : List KeyValue) (leaves : List (List WrapKeyValue)) → is_opener h given (tree_keys leaves) ≡ true → OpenerAmong h given leaves
tree_opener h given leaves opens =
    let only = only_given h.stored given in
    let found = some_found h only (found_with (tree_keys leaves) h given) opens in
    let leaf = first_some-found (finds h given) leaves found.0 (sym (tree_finds leaves h given) ∙ found.1) in
    record { keys = leaf.at; listed = leaf.listed; opens = ap (unlocks h only) (leaf.found ∙ sym found.1) ∙ opens }

-- where some leaf opens it, the tree finds a data key, and a leaf finds the same
pub record FoundAmong (h : HeaderValue) (given : List KeyValue) (leaves : List (List WrapKeyValue)) : Type 0 where
  pub keys : List WrapKeyValue
  pub key : List ℕ
  pub listed : Contains leaves keys
  pub found : found_with keys h given ≡ Some key
  pub tree : found_with (tree_keys leaves) h given ≡ Some key

found_first : (h : HeaderValue) (given : List KeyValue) (leaves : List (List WrapKeyValue)) (one : OpenerAmong h given leaves) (first : Option (List ℕ)) → first_some (finds h given) leaves ≡ first
    → FoundAmong h given leaves
found_first h given leaves one None is =
    absurd
    (let none : found_with one.keys h given ≡ None = first_some-none (finds h given) leaves is one.keys one.listed in
    let shut = ap (unlocks h (only_given h.stored given)) none in
    let opens = one.opens in
    cc)
found_first h given leaves one (Some key) is =
    let leaf = first_some-found (finds h given) leaves key is in
    record { keys = leaf.at; key = key; listed = leaf.listed; found = leaf.found; tree = tree_finds leaves h given ∙ is }

-- ---- without the leaf

same_header : (m : Message) (one other : BeginsSo m (λ h. Unit {0})) → one.parts ≡ other.parts
same_header m one other =
    let same = sym one.read ∙ other.read in
    cc

opener_same : (m : Message) (keys : List WrapKeyValue) (one other : HeaderFields) → one ≡ other → is_opener (header_of m.bytes one) m.given keys ≡ true
    → is_opener (header_of m.bytes other) m.given keys ≡ true
opener_same m keys one other same opens = subst (λ (p : HeaderFields). is_opener (header_of m.bytes p) m.given keys ≡ true) same opens

-- of a message
without : (before : List (List WrapKeyValue)) (keys : List WrapKeyValue) (behind : List (List WrapKeyValue)) (messages : List Message)
    → needed_for (length before + 1) (map (audited (before ++ keys ∷ behind)) messages) ≡ [] → (m : Message) → Contains messages m → All (Fits m) (before ++ keys ∷ behind)
    → UnlockedWith (tree_keys (before ++ keys ∷ behind)) m → UnlockedWith (tree_keys (before ++ behind)) m
without before keys behind messages none m listed fit unlocked =
    let leaves = before ++ keys ∷ behind in
    let left = before ++ behind in
    let has = opener_of m (tree_keys leaves) unlocked in
    let h = header_of m.bytes has.parts in
    let one = tree_opener h m.given leaves has.so in
    let place = split_at leaves one.keys one.listed in
    let number = length place.before + 1 in
    let in_line : Contains (openers leaves h m.given) number =
    subst (λ (l : List (List WrapKeyValue)). Contains (numbers_of (is_opener h m.given) 1 l) number) (sym place.are)
    (number_listed (is_opener h m.given) 1 place.before one.keys place.behind number (omega arith) one.opens) in
    let stands = stands_of leaves m number (record { parts = has.parts; body = has.body; read = has.read; sound = has.sound; so = in_line }) in
    let another = leaves_another leaves messages (length before + 1) m none listed number stands in
    opens_left another.other (listed_of leaves m another.other another.stands) another.apart
  where
    opens_left : (number : ℕ) → BeginsSo m (λ h. Contains (openers (before ++ keys ∷ behind) h m.given) number) → number ≢ length before + 1
        → UnlockedWith (tree_keys (before ++ behind)) m
    opens_left number other apart =
        let h = header_of m.bytes other.parts in
        let is = number_of (is_opener h m.given) 1 (before ++ keys ∷ behind) number other.so in
        let among = elsewhere before keys behind is.before is.one is.behind is.are (λ same. apart (omega (arith, is.number_is, same))) in
        let found = found_first h m.given (before ++ behind) (record { keys = is.one; listed = among; opens = is.passes }) (first_some (finds h m.given) (before ++ behind)) refl in
        let answer = unlocking_is m found.keys found.key (record { parts = other.parts; body = other.body; read = other.read; sound = other.sound; so = found.found }) in
        let fits = All-contains (Fits m) (before ++ keys ∷ behind) found.keys fit (stood before keys behind found.keys found.listed) in
        let alone = opener_of m found.keys (fits (whole_of h.stored m.given) (only_given h.stored m.given) found.key answer) in
        let same : alone.parts ≡ other.parts = same_header m (record { parts = alone.parts; body = alone.body; read = alone.read; sound = alone.sound; so = tt })
        (record { parts = other.parts; body = other.body; read = other.read; sound = other.sound; so = tt }) in
        let opens : is_opener h m.given found.keys ≡ true = opener_same m found.keys alone.parts other.parts same alone.so in
        unlocked_of m (tree_keys (before ++ behind)) (record {
          parts = other.parts;
          body = other.body;
          read = other.read;
          sound = other.sound;
          so = ap (unlocks h (only_given h.stored m.given)) (found.tree ∙ sym found.found) ∙ opens;
        })

pub opens_without : (before : List (List WrapKeyValue)) (keys : List WrapKeyValue) (behind : List (List WrapKeyValue)) (messages : List Message)
    → needed_for (length before + 1) (map (audited (before ++ keys ∷ behind)) messages) ≡ [] → All (λ m. All (Fits m) (before ++ keys ∷ behind)) messages
    → All (λ m. UnlockedWith (tree_keys (before ++ keys ∷ behind)) m → UnlockedWith (tree_keys (before ++ behind)) m) messages
opens_without before keys behind messages none fit =
    All-weaker (Contains messages) (λ m. UnlockedWith (tree_keys (before ++ keys ∷ behind)) m → UnlockedWith (tree_keys (before ++ behind)) m)
    (λ m listed unlocked. without before keys behind messages none m listed (All-contains (λ x. All (Fits x) (before ++ keys ∷ behind)) messages m fit listed) unlocked) messages
    (All-contains_itself messages)
