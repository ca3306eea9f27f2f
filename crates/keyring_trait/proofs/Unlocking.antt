-- What a writer stored is unlocked.
use Rattle.std.proofs.Common.{◌≡◌, ℕ, ◌≤◌, Bool, true, false, List, [], length, Option, Some, None, refl, sym, ap, subst, ◌∙◌, arith, ltb}
use Rattle.std.specs.Prelude.{Contains, filter, not, option_map}
use Rattle.std.specs.Map.{lookup}
use Rattle.std.specs.List.{list_any}
use Rattle.std.specs.Str.{bytes_eq}
use Rattle.std.proofs.lemmas.Bool.{false_from_ne_true, not-true, not_from_false}
use Rattle.std.proofs.lemmas.Slice.Eq.{bytes_eq-Decides}
use Rattle.context_codec.specs.Context.{KeyValue, IsAscending, ctx_text, IsContext}
use Rattle.context_codec.proofs.Keys.{Ascends, ascends_from, ascending_from}
use Rattle.context_codec.proofs.OneContext.{same_ascending}
use Rattle.edk_codec.specs.Entry.{Entry}
use Rattle.esdk_fields.specs.declared.faults.Fault.{Fault}
use Rattle.esdk_fields.specs.declared.faults.Fault.TheVariants.{ContextMismatch, MissingRequired}
use Rattle.context_codec.specs.Parts.{holds, is_among, stored_of, only_of, joined, only_given, whole_of}
use Rattle.keyring_trait.specs.Wrapping.{WrapKeyValue, first_some, unwrapped, IsOpened}
use Rattle.context_codec.specs.Join.{differs, clashes, mismatch, too_long}
use Rattle.keyring_trait.specs.Unlocking.{Unlocking, Unlocks, reserved_key, missing_required, reserved_stored, offences, opens_with, unless, unlock}
use Rattle.keyring_trait.specs.Laws.{AreWrapped, IsEnough, AreGiven, IsUnlockedByKey}
use Rattle.context_codec.proofs.Members.{Contains-filter, Contains-filter_back, none_found}
use Rattle.keyring_trait.proofs.Wrapping.{unwrapped_key, unwraps_only_wraps}
use Rattle.context_codec.proofs.Parts.{Ascends-filter, joined_parts, holds_own, holds_pair, same_pair, found_pair}

-- ---- what is given

-- it is some pairs of the context
pub given_is : (c given : List KeyValue) (required : List (List ℕ)) → IsAscending c → IsEnough c required given → given ≡ filter (λ p. holds given p.0) c
given_is c given required up enough =
    let up_c = ascends_from c up in
    same_ascending given (filter (λ p. holds given p.0) c) (ascends_from given enough.ascending) (Ascends-filter (λ p. holds given p.0) c up_c)
    (λ x listed. Contains-filter (λ p. holds given p.0) c x (enough.others x listed) (holds_own given x listed))
    (λ x listed.
    let parts = Contains-filter_back (λ p. holds given p.0) c x listed in
    let found = holds_pair given x.0 parts.1 in
    subst (λ (q : KeyValue). Contains given q) (sym (same_pair c x found.pair up_c parts.0 (enough.others found.pair found.listed) found.same)) found.listed)

-- and any pairs of the context, those with required keys among them, are enough
pub enough_filter : (c : List KeyValue) (required : List (List ℕ)) (test : KeyValue → Bool) → IsAscending c → ((p : KeyValue) → is_among required p ≡ true → test p ≡ true) → IsEnough c required (filter test c)
enough_filter c required test up h = record {
  ascending = ascending_from (filter test c) (Ascends-filter test c (ascends_from c up));
  required_given = λ p listed among. Contains-filter test c p listed (h p among);
  others = λ p listed. (Contains-filter_back test c p listed).0;
}

-- ---- what is only authenticated

-- a stored pair's key is not required
stored_key : (required : List (List ℕ)) (c : List KeyValue) (x : KeyValue) → holds (stored_of required c) x.0 ≡ true → is_among required x ≡ false
stored_key required c x h =
    let found = holds_pair (stored_of required c) x.0 h in
    let other = not-true (is_among required found.pair) (Contains-filter_back (λ p. not (is_among required p)) c found.pair found.listed).1 in
    ap (λ (k : List ℕ). list_any (bytes_eq k) required) found.same ∙ other

pub only_is : (c given : List KeyValue) (required : List (List ℕ)) → IsAscending c → IsEnough c required given → only_given (stored_of required c) given ≡ only_of required c
only_is c given required up enough =
    let stored = stored_of required c in
    same_ascending (only_given stored given) (only_of required c)
    (Ascends-filter (λ p. not (holds stored p.0)) given (ascends_from given enough.ascending))
    (Ascends-filter (is_among required) c (ascends_from c up))
    (λ x listed.
    let parts = Contains-filter_back (λ p. not (holds stored p.0)) given x listed in
    let there = enough.others x parts.0 in
    Contains-filter (is_among required) c x there (is_required x there (not-true (holds stored x.0) parts.1)))
    (λ x listed.
    let parts = Contains-filter_back (is_among required) c x listed in
    Contains-filter (λ p. not (holds stored p.0)) given x (enough.required_given x parts.0 parts.1) (not_from_false (holds stored x.0) (not_stored x parts.1)))
  where
    -- a pair whose key is not stored has a required key
    is_required : (x : KeyValue) → Contains c x → holds (stored_of required c) x.0 ≡ false → is_among required x ≡ true
    is_required x there absent = by_test (is_among required x) refl
      where
        by_test : (b : Bool) → b ≡ is_among required x → b ≡ true
        by_test true is = refl
        by_test false is =
            absurd (let own = holds_own (stored_of required c) x (Contains-filter (λ p. not (is_among required p)) c x there (not_from_false (is_among required x) (sym is))) in cc)

    not_stored : (x : KeyValue) → is_among required x ≡ true → holds (stored_of required c) x.0 ≡ false
    not_stored x among = false_from_ne_true (holds (stored_of required c) x.0) (λ h. let other = stored_key required c x h in cc)

pub whole_is : (c given : List KeyValue) (required : List (List ℕ)) → IsAscending c → IsEnough c required given → whole_of (stored_of required c) given ≡ c
whole_is c given required up enough =
    ap (joined (stored_of required c)) (only_is c given required up enough) ∙ joined_parts required c (ascends_from c up)

-- ---- nothing is wrong with the pairs

none_missing : (asked : List (List ℕ)) (given : List KeyValue) → AreGiven asked given → missing_required given asked ≡ None
none_missing asked given h =
    ap (option_map MissingRequired) (none_found (λ key. not (holds given key)) asked (λ key listed. rw (h key listed) refl))

not_reserved : (c : List KeyValue) (required : List (List ℕ)) → holds c reserved_key ≡ false → reserved_stored (stored_of required c) ≡ None
not_reserved c required h =
    let absent : holds (stored_of required c) reserved_key ≡ false =
    false_from_ne_true (holds (stored_of required c) reserved_key)
    (λ held.
    let found = holds_pair (stored_of required c) reserved_key held in
    let there = (Contains-filter_back (λ p. not (is_among required p)) c found.pair found.listed).0 in
    let own : holds c reserved_key ≡ true = ap (holds c) found.same ∙ holds_own c found.pair there in
    cc) in
    rw absent refl

none_clashes : (c given : List KeyValue) (required : List (List ℕ)) → Ascends c → ((p : KeyValue) → Contains given p → Contains c p) → mismatch (stored_of required c) given ≡ None
none_clashes c given required up others =
    ap (option_map (λ p. ContextMismatch p.0)) (none_found (clashes given) (stored_of required c)
    (λ p listed. by_value p (Contains-filter_back (λ q. not (is_among required q)) c p listed).0 (lookup (bytes_eq p.0) given) refl))
  where
    by_value : (p : KeyValue) → Contains c p → (found : Option (List ℕ)) → found ≡ lookup (bytes_eq p.0) given → differs found p.1 ≡ false
    by_value p there None is = refl
    by_value p there (Some value) is =
        let pair : p ≡ (p.0, value) = same_pair c p (p.0, value) up there (others (p.0, value) (found_pair p.0 value given (sym is))) refl in
        let same : bytes_eq value p.1 ≡ true = (bytes_eq-Decides value p.1).1 (sym (ap (λ (q : KeyValue). q.1) pair)) in
        rw same refl

short_enough : (c : List KeyValue) → length (ctx_text c) ≤ 65535 → too_long c ≡ None
short_enough c short =
    let fits : ltb 65535 (length (ctx_text c)) ≡ false = grind (arith, short) in
    rw fits refl

no_offence : (stored given : List KeyValue) (required : List (List ℕ)) → missing_required given required ≡ None → reserved_stored stored ≡ None → mismatch stored given ≡ None → too_long (whole_of stored given) ≡ None
    → first_some (λ o. o) (offences stored given required) ≡ None
unfolding offences
no_offence stored given required first second third fourth = rw (first, second, third, fourth) refl

unlocked_by : (stored given : List KeyValue) (required : List (List ℕ)) (entries : List Entry) (keys : List WrapKeyValue) → first_some (λ o. o) (offences stored given required) ≡ None
    → unlock stored entries given required keys ≡ opens_with (whole_of stored given) (only_given stored given) (unwrapped keys entries (whole_of stored given))
unfolding unlock
unlocked_by stored given required entries keys none = rw none refl

pub unlocks_stored : (writers readers : List WrapKeyValue) (c given : List KeyValue) (required asked : List (List ℕ)) (key : List ℕ) (entries : List Entry)
    → IsContext c → holds c reserved_key ≡ false → AreWrapped writers readers c key entries → IsEnough c required given → AreGiven asked given
    → unlock (stored_of required c) entries given asked readers ≡ Unlocks c (only_of required c) key
unlocks_stored writers readers c given required asked key entries context unreserved wrapped enough asked_given =
    let stored = stored_of required c in
    let whole : whole_of stored given ≡ c = whole_is c given required context.ascending enough in
    let only : only_given stored given ≡ only_of required c = only_is c given required context.ascending enough in
    let right = no_offence stored given asked (none_missing asked given asked_given) (not_reserved c required unreserved)
    (none_clashes c given required (ascends_from c context.ascending) enough.others) (ap too_long whole ∙ short_enough c context.short) in
    unlocked_by stored given asked entries readers right
    ∙ ap (λ (w : List KeyValue). opens_with w (only_given stored given) (unwrapped readers entries w)) whole
    ∙ ap (λ (o : List KeyValue). opens_with c o (unwrapped readers entries c)) only
    ∙ ap (opens_with c (only_of required c)) (unwrapped_key writers readers c key entries wrapped)

-- ---- no pairs at all

pub unlock_plain : (entries : List Entry) (keys : List WrapKeyValue) → unlock [] entries [] [] keys ≡ opens_with [] [] (unwrapped keys entries [])
unlock_plain entries keys = unlocked_by [] [] [] entries keys (no_offence [] [] [] refl refl refl refl)

-- ---- what is unlocked at all

-- the answer's parts, where it unlocks
opened_parts : (o : Option (List ℕ)) (w whole p only : List KeyValue) (key : List ℕ) → opens_with w p o ≡ Unlocks whole only key → (w ≡ whole) × (p ≡ only) × (o ≡ Some key)
opened_parts None w whole p only key e = absurd cc
opened_parts (Some k) w whole p only key e = (cc, cc, cc)

unlocked_parts : (fault : Option Fault) (answer : Unlocking) (whole only : List KeyValue) (key : List ℕ) → unless fault answer ≡ Unlocks whole only key → answer ≡ Unlocks whole only key
unlocked_parts None answer whole only key e = e
unlocked_parts (Some fault) answer whole only key e = absurd cc

pub unlocks_only_wraps : (stored given : List KeyValue) (entries : List Entry) (required : List (List ℕ)) (keys : List WrapKeyValue) (whole only : List KeyValue) (key : List ℕ)
    → unlock stored entries given required keys ≡ Unlocks whole only key → IsUnlockedByKey stored entries given keys whole only key
unfolding unlock
unlocks_only_wraps stored given entries required keys whole only key e =
    let w = whole_of stored given in
    let answer = unlocked_parts (first_some (λ o. o) (offences stored given required)) (opens_with w (only_given stored given) (unwrapped keys entries w)) whole only key e in
    let parts = opened_parts (unwrapped keys entries w) w whole (only_given stored given) only key answer in
    record {
      whole_is = sym parts.0;
      only_is = sym parts.1;
      opened = subst (λ (c : List KeyValue). IsOpened keys entries c key) parts.0 (unwraps_only_wraps keys entries w key parts.2);
    }
