-- Which leaves stand in a message's line.
use Rattle.std.proofs.Common.{◌≡◌, ℕ, ◌+◌, Bool, true, List, [], ◌∷◌, ◌++◌, length, Option, Some, None, refl, sym, ap, subst, ◌∙◌, arith}
use Rattle.std.specs.Prelude.{◌↔◌, Contains, is_none}
use Rattle.esdk_fields.specs.declared.faults.Fault as faults
use Rattle.esdk_fields.specs.Place.{Place, start}
use Rattle.esdk_fields.specs.Reading.{Reading, Read, Refused, Wanting}
use Rattle.context_codec.specs.Context.{KeyValue}
use Rattle.context_codec.specs.Parts.{only_given, whole_of}
use Rattle.header_codec.specs.Header.{HeaderValue, no_limits}
use Rattle.header_codec.specs.Table.{HeaderFields, header}
use Rattle.keyring_trait.specs.Unlocking.{Unlocking, Unlocks, opens_with, pair_offence, unless, unlock}
use Rattle.keyring_trait.specs.Wrapping.{WrapKeyValue}
use Rattle.message_format.specs.Judgement.{header_of, judged, judged_header, judged_lock, judged_reading, lock_fault}
use Rattle.message_format.specs.Reading.{read, unlock_reading, unlocking}
use Rattle.audit_core.specs.Laws.{StandsIn, UnlockedWith}
use Rattle.audit_core.specs.Messages.{Message, audited, audited_reading, unless_offence}
use Rattle.audit_core.specs.Openers.{found_with, is_opener, openers, unlocks}
use Rattle.audit_core.proofs.Numbered.{number_listed, number_of, same_front}

-- The message has a whole header, nothing is wrong with its pairs, and this is so of it.
pub record BeginsSo (m : Message) (So : HeaderValue → Type 0) : Type 0 where
  pub parts : HeaderFields
  pub body : Place
  pub read : header no_limits (start m.bytes) ≡ Read parts body
  pub sound : pair_offence (header_of m.bytes parts).stored m.given [] ≡ None
  pub so : So (header_of m.bytes parts)

-- ---- a reader with these keys

abbrev body_unlocked : HeaderValue → Place → Unlocking → Bool
body_unlocked h body answer = (judged_header no_limits h body answer).unlocked

lock_unlocked : (h : HeaderValue) (key : List ℕ) (body : Place) (fault : Option faults.Fault) → (judged_lock no_limits h key body fault).unlocked ≡ is_none fault
lock_unlocked h key body None = refl
lock_unlocked h key body (Some fault) = refl

-- with what the keys find
opened_unlocked : (h : HeaderValue) (body : Place) (whole only : List KeyValue) (found : Option (List ℕ)) → body_unlocked h body (opens_with whole only found) ≡ unlocks h only found
opened_unlocked h body whole only None = refl
opened_unlocked h body whole only (Some key) = lock_unlocked h key body (lock_fault h only key)

-- where this is what is wrong with the pairs
abbrev UnlocksUnless : HeaderValue → (given : List KeyValue) → Place → Option faults.Fault → List WrapKeyValue → Type 0
UnlocksUnless h given body offence keys =
    body_unlocked h body (unless offence (opens_with (whole_of h.stored given) (only_given h.stored given) (found_with keys h given))) ≡ true

unless_none : (h : HeaderValue) (given : List KeyValue) (body : Place) (offence : Option faults.Fault) (keys : List WrapKeyValue) → UnlocksUnless h given body offence keys
    → (offence ≡ None) × (is_opener h given keys ≡ true)
unless_none h given body None keys is = (refl, sym (opened_unlocked h body (whole_of h.stored given) (only_given h.stored given) (found_with keys h given)) ∙ is)
unless_none h given body (Some fault) keys is = absurd cc

-- what was read
abbrev ReadingUnlocks : Message → List WrapKeyValue → Reading HeaderFields → Type 0
ReadingUnlocks m keys reading = (judged_reading m.bytes no_limits (unlock_reading m.bytes m.given [] keys reading) reading).unlocked ≡ true

reading_unlocks : (m : Message) (keys : List WrapKeyValue) (reading : Reading HeaderFields) → header no_limits (start m.bytes) ≡ reading → ReadingUnlocks m keys reading
    → BeginsSo m (λ h. is_opener h m.given keys ≡ true)
unfolding unlock
reading_unlocks m keys (Refused fault at) is unlocked = absurd cc
reading_unlocks m keys Wanting is unlocked = absurd cc
reading_unlocks m keys (Read parts body) is unlocked =
    let h = header_of m.bytes parts in
    let both = unless_none h m.given body (pair_offence h.stored m.given []) keys unlocked in
    record { parts = parts; body = body; read = is; sound = both.0; so = both.1 }

pub opener_of : (m : Message) (keys : List WrapKeyValue) → UnlockedWith keys m → BeginsSo m (λ h. is_opener h m.given keys ≡ true)
unfolding read judged unlocking
opener_of m keys unlocked = reading_unlocks m keys (header no_limits (start m.bytes)) refl unlocked

reading_opener : (m : Message) (keys : List WrapKeyValue) (parts : HeaderFields) (body : Place) → pair_offence (header_of m.bytes parts).stored m.given [] ≡ None
    → is_opener (header_of m.bytes parts) m.given keys ≡ true → ReadingUnlocks m keys (Read parts body)
unfolding unlock
reading_opener m keys parts body sound opens =
    let h = header_of m.bytes parts in
    ap (λ (o : Option faults.Fault). body_unlocked h body (unless o (opens_with (whole_of h.stored m.given) (only_given h.stored m.given) (found_with keys h m.given)))) sound
    ∙ (opened_unlocked h body (whole_of h.stored m.given) (only_given h.stored m.given) (found_with keys h m.given) ∙ opens)

pub unlocked_of : (m : Message) (keys : List WrapKeyValue) → BeginsSo m (λ h. is_opener h m.given keys ≡ true) → UnlockedWith keys m
unfolding read judged unlocking
unlocked_of m keys has =
    subst (λ (r : Reading HeaderFields). (judged_reading m.bytes no_limits (unlock_reading m.bytes m.given [] keys r) r).unlocked ≡ true) (sym has.read)
    (reading_opener m keys has.parts has.body has.sound has.so)

-- what its keys answer, where they find this data key
pub unlocking_is : (m : Message) (keys : List WrapKeyValue) (key : List ℕ) (has : BeginsSo m (λ h. found_with keys h m.given ≡ Some key))
    → unlocking m.bytes no_limits m.given [] keys
    ≡ Unlocks (whole_of (header_of m.bytes has.parts).stored m.given) (only_given (header_of m.bytes has.parts).stored m.given) key
unfolding unlocking unlock
unlocking_is m keys key has =
    let h = header_of m.bytes has.parts in
    let whole = whole_of h.stored m.given in
    let only = only_given h.stored m.given in
    ap (unlock_reading m.bytes m.given [] keys) has.read
    ∙ (ap (λ (o : Option faults.Fault). unless o (opens_with whole only (found_with keys h m.given))) has.sound
    ∙ ap (λ (o : Option (List ℕ)). opens_with whole only o) has.so)

-- ---- a line

unless_stands : (offence : Option faults.Fault) (numbers : List ℕ) (leaf : ℕ) → StandsIn (unless_offence offence numbers) leaf → (offence ≡ None) × Contains numbers leaf
unless_stands None numbers leaf stands = (refl, stands)
unless_stands (Some fault) numbers leaf stands = absurd stands

reading_stands : (leaves : List (List WrapKeyValue)) (m : Message) (leaf : ℕ) (reading : Reading HeaderFields) → header no_limits (start m.bytes) ≡ reading
    → StandsIn (audited_reading leaves m reading) leaf → BeginsSo m (λ h. Contains (openers leaves h m.given) leaf)
reading_stands leaves m leaf (Refused fault at) is stands = absurd stands
reading_stands leaves m leaf Wanting is stands = absurd stands
reading_stands leaves m leaf (Read parts body) is stands =
    let h = header_of m.bytes parts in
    let both = unless_stands (pair_offence h.stored m.given []) (openers leaves h m.given) leaf stands in
    record { parts = parts; body = body; read = is; sound = both.0; so = both.1 }

pub listed_of : (leaves : List (List WrapKeyValue)) (m : Message) (leaf : ℕ) → StandsIn (audited leaves m) leaf → BeginsSo m (λ h. Contains (openers leaves h m.given) leaf)
unfolding audited
listed_of leaves m leaf stands = reading_stands leaves m leaf (header no_limits (start m.bytes)) refl stands

pub stands_of : (leaves : List (List WrapKeyValue)) (m : Message) (leaf : ℕ) → BeginsSo m (λ h. Contains (openers leaves h m.given) leaf) → StandsIn (audited leaves m) leaf
unfolding audited
stands_of leaves m leaf has =
    let h = header_of m.bytes has.parts in
    subst (λ (r : Reading HeaderFields). StandsIn (audited_reading leaves m r) leaf) (sym has.read)
    (subst (λ (o : Option faults.Fault). StandsIn (unless_offence o (openers leaves h m.given)) leaf) (sym has.sound) has.so)

-- ---- the law

same_leaf : (before other : List (List WrapKeyValue)) (keys : List WrapKeyValue) (one : List WrapKeyValue) (behind rest : List (List WrapKeyValue))
    → before ++ keys ∷ behind ≡ other ++ one ∷ rest → length before ≡ length other → one ≡ keys
same_leaf before other keys one behind rest are long =
    let seam = same_front before other (keys ∷ behind) (one ∷ rest) are long in
    let back = seam.back in
    cc

pub openers_unlock : (before : List (List WrapKeyValue)) (keys : List WrapKeyValue) (behind : List (List WrapKeyValue)) (m : Message)
    → StandsIn (audited (before ++ keys ∷ behind) m) (length before + 1) ↔ UnlockedWith keys m
openers_unlock before keys behind m = (forward, backward)
  where
    forward : StandsIn (audited (before ++ keys ∷ behind) m) (length before + 1) → UnlockedWith keys m
    forward stands =
        let has = listed_of (before ++ keys ∷ behind) m (length before + 1) stands in
        let h = header_of m.bytes has.parts in
        let is = number_of (is_opener h m.given) 1 (before ++ keys ∷ behind) (length before + 1) has.so in
        let same = same_leaf before is.before keys is.one behind is.behind is.are (omega (arith, is.number_is)) in
        unlocked_of m keys (record {
          parts = has.parts;
          body = has.body;
          read = has.read;
          sound = has.sound;
          so = subst (λ (ks : List WrapKeyValue). is_opener h m.given ks ≡ true) same is.passes;
        })

    backward : UnlockedWith keys m → StandsIn (audited (before ++ keys ∷ behind) m) (length before + 1)
    backward unlocked =
        let has = opener_of m keys unlocked in
        let h = header_of m.bytes has.parts in
        stands_of (before ++ keys ∷ behind) m (length before + 1) (record {
          parts = has.parts;
          body = has.body;
          read = has.read;
          sound = has.sound;
          so = number_listed (is_opener h m.given) 1 before keys behind (length before + 1) (omega arith) has.so;
        })
