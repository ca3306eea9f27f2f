-- The keys that calls read, and the row of bytes behind them.
use Rattle.std.proofs.Common.{◌≡◌, ◌≢◌, ℕ, zero, suc, ◌+◌, ◌<◌, ◌≤◌, Bool, true, false, ◌&&◌, List, [], ◌∷◌, ◌++◌, length, take, map, Option, Some, None, inl, inr, refl, sym, ap, subst, ◌∙◌, arith, append_assoc, append-nil}
use Rattle.std.specs.Prelude.{◌==◌, if◌then◌else◌, Result, Ok, Err}
use Rattle.std.specs.Str.{bytes_eq}
use Rattle.std.proofs.lemmas.Slice.Eq.{bytes_eq-Decides}
use Rattle.std.proofs.lemmas.Bool.Decides.{eqb_tells, leb_tells}
use Rattle.std.proofs.lemmas.List.{length-take-le, map-append, nil_from_length, take_all}
use Rattle.esdk_seen.specs.Calls.{ShelfCall, reads}
use Rattle.keyring_trait.specs.Uses.{ReadAnew, AskedOnce}
use Rattle.keyring_trait.specs.Wrapping.{WrapKeyValue}
use Rattle.keyring_trait.proofs.Using.{read_once}
use Rattle.esdk_base.specs.Streams.{ShelfState}
use Rattle.keydir_keyring.specs.Keydir.{KeydirValue, keydir_meaning, keydir_key}
use Rattle.keydir_keyring.specs.KeysRead.{ShowsFront, ShowsKey, ShowsRoom, key_ended, keys_read, key_or_none, row_with}
use Rattle.keydir_keyring.specs.Reading.{ReadsOnce, key_of_file}
use Rattle.keydir_keyring.proofs.Keys.{key_in_is, key_in_none}

-- ---- lists of calls

-- the row behind these calls
abbrev pub row_read : List ℕ → List ℕ → List ShelfCall → List ℕ
row_read file row [] = row
row_read file row (call ∷ calls) = row_read file (row_with file row call) calls

keys-append : (file row : List ℕ) (calls more : List ShelfCall) → keys_read file row (calls ++ more) ≡ keys_read file row calls ++ keys_read file (row_read file row calls) more
keys-append file row [] more = refl
keys-append file row (call ∷ calls) more =
    let behind = row_with file row call in
    ap (λ (ks : List (List ℕ)). key_ended file row call ++ ks) (keys-append file behind calls more)
    ∙ sym (append_assoc (key_ended file row call) (keys_read file behind calls) (keys_read file (row_read file behind calls) more))

row-append : (file row : List ℕ) (calls more : List ShelfCall) → row_read file row (calls ++ more) ≡ row_read file (row_read file row calls) more
row-append file row [] more = refl
row-append file row (call ∷ calls) more = row-append file (row_with file row call) calls more

same_file : (file : List ℕ) → bytes_eq file file ≡ true
same_file file = (bytes_eq-Decides file file).1 refl

-- ---- one read

-- a read that gave something ends no key
no_key : (file row : List ℕ) (at : ℕ) (piece : List ℕ) → length piece ≢ 0 → keys_read file row (reads file at piece ∷ []) ≡ []
no_key file row at [] some = absurd (some refl)
no_key file row at (b ∷ bs) some = refl

if_all : (a b c : Bool) (row : List ℕ) → a ≡ true → b ≡ true → c ≡ true → (if a && b && c then row ∷ [] else []) ++ [] ≡ row ∷ []
if_all a b c row ea eb ec = rw (ea, eb, ec) refl

if_last : (a b c : Bool) (row : List ℕ) → c ≡ false → (if a && b && c then row ∷ [] else []) ++ [] ≡ []
if_last true true c row ec = rw ec refl
if_last true false c row ec = refl
if_last false b c row ec = refl

-- one that gave nothing ends the row before it, where that is a key
end_key : (file row front : List ℕ) (at : ℕ) → length front ≡ at → (1 ≤ at → row ≡ front) → keys_read file row (reads file at [] ∷ []) ≡ key_or_none (key_of_file front)
end_key file row front at long is =
    elim (eqb_tells at 32) [
      | inl same ↦
          let row_is : row ≡ front = is (omega (arith, same.1)) in
          let whole : length front ≡ 32 = long ∙ same.1 in
          let full : (length row == 32) ≡ true = ap (λ (r : List ℕ). length r == 32) row_is ∙ ap (λ (n : ℕ). n == 32) whole in
          if_all (bytes_eq file file) (length row == 32) (at == 32) row (same_file file) full same.0
          ∙ ap (λ (r : List ℕ). r ∷ []) row_is ∙ ap key_or_none (sym (key_in_is front whole))
      | inr differs ↦
          if_last (bytes_eq file file) (length row == 32) (at == 32) row differs.0
          ∙ ap key_or_none (sym (key_in_none front (λ whole. differs.1 (sym long ∙ whole))))
    ]

-- the bytes before the offset
row_take : (at : ℕ) (row before : List ℕ) → at ≤ length before → (1 ≤ at → row ≡ take at before) → take at row ≡ take at before
row_take zero row before inside is = refl
row_take (suc n) row before inside is =
    ap (take (suc n)) (is (omega arith)) ∙ take_all (suc n) (take (suc n) before) (omega (arith, length-take-le (suc n) before inside))

if_same : (same : Bool) (row other : List ℕ) → same ≡ true → (if same then row else other) ≡ row
if_same same row other is = rw is refl

row_one : (file row : List ℕ) (at : ℕ) (piece : List ℕ) → row_read file row (reads file at piece ∷ []) ≡ take at row ++ piece
row_one file row at piece = if_same (bytes_eq file file) (take at row ++ piece) row (same_file file)

-- ---- a room that fills

-- So far no key was read, and the row is what stands in the room.
pub record RowGoes (first now : List ShelfCall) (file room : List ℕ) (n : ℕ) : Type 0 where
  pub keys : keys_read file [] now ≡ keys_read file [] first
  pub row : 1 ≤ n → row_read file [] now ≡ take n room

pub row_starts : (first : List ShelfCall) (file room : List ℕ) → RowGoes first first file room 0
row_starts first file room = record { keys = refl; row = λ some. absurd (omega (arith, some)) }

-- one read more that gave something
pub row_goes_on : (first old new : List ShelfCall) (file before after : List ℕ) (at more : ℕ) → at ≤ length before → RowGoes first old file before at → ReadsOnce old new file before after at more
    → more ≢ 0 → RowGoes first new file after (at + more)
row_goes_on first old new file before after at more inside goes once some =
    let row : List ℕ = row_read file [] old in
    record {
      keys = ap (keys_read file []) once.call
          ∙ (keys-append file [] old (reads file at once.piece ∷ [])
          ∙ (ap (λ (ks : List (List ℕ)). keys_read file [] old ++ ks) (no_key file row at once.piece (λ none. some (sym once.long ∙ none)))
          ∙ (append-nil (keys_read file [] old) ∙ goes.keys)));
      row = λ _.
          ap (row_read file []) once.call
          ∙ (row-append file [] old (reads file at once.piece ∷ [])
          ∙ (row_one file row at once.piece ∙ (ap (λ (r : List ℕ). r ++ once.piece) (row_take at row before inside goes.row) ∙ sym once.room)));
    }

-- and one that gave nothing
pub row_ends : (first old new : List ShelfCall) (file before after : List ℕ) (at more : ℕ) → at ≤ length before → RowGoes first old file before at
    → ReadsOnce old new file before after at more → more ≡ 0 → at < length after → ShowsRoom first new file after at
row_ends first old new file before after at more inside goes once none room =
    let row : List ℕ = row_read file [] old in
    let empty : once.piece ≡ [] = nil_from_length once.piece (once.long ∙ none) in
    let here : at + more ≡ at = omega (arith, none) in
    let front : take at before ≡ take at after =
    sym (append-nil (take at before)) ∙ (ap (λ (b : List ℕ). take at before ++ b) (sym empty) ∙ (sym once.room ∙ ap (λ (n : ℕ). take n after) here)) in
    record {
      ended = λ _.
          ap (keys_read file []) once.call
          ∙ (keys-append file [] old (reads file at once.piece ∷ [])
          ∙ (ap (λ (p : List ℕ). keys_read file [] old ++ keys_read file row (reads file at p ∷ [])) empty
          ∙ (ap (λ (ks : List (List ℕ)). keys_read file [] old ++ ks) (end_key file row (take at before) at (length-take-le at before inside) goes.row)
          ∙ (ap (λ (ks : List (List ℕ)). ks ++ key_or_none (key_of_file (take at before))) goes.keys
          ∙ ap (λ (b : List ℕ). keys_read file [] first ++ key_or_none (key_of_file b)) front))));
      full = λ over. absurd (omega (arith, over, room));
    }

-- no key more
none_more : (first now : List ShelfCall) (file : List ℕ) → keys_read file [] now ≡ keys_read file [] first → ShowsKey first now file None
none_more first now file same = same ∙ sym (append-nil (keys_read file [] first))

pub row_full : (first now : List ShelfCall) (file room : List ℕ) (n : ℕ) → length room ≤ n → RowGoes first now file room n → ShowsRoom first now file room n
row_full first now file room n over goes = record { ended = λ less. absurd (omega (arith, less, over)); full = λ _. none_more first now file goes.keys }

pub row_failed : {E : Type 0} (first old new : List ShelfCall) (file room after : List ℕ) (n : ℕ) (result : Result ℕ E) (e : E) → RowGoes first old file room n → new ≡ old → result ≡ Err e
    → ShowsFront first new file after result
row_failed {E = E} first old new file room after n result e goes same is =
    subst (λ (r : Result ℕ E). ShowsFront first new file after r) (sym is) (none_more first new file (ap (keys_read file []) same ∙ goes.keys))

-- ---- the key that is read

pub shown_none : (first now : List ShelfCall) (file room : List ℕ) (n : ℕ) → n ≢ 32 → ShowsRoom first now file room n → ShowsKey first now file None
shown_none first now file room n other shows =
    elim (leb_tells (length room) n) [
      | inl over ↦ shows.full over.1
      | inr less ↦
          let none : key_of_file (take n room) ≡ None = key_in_none (take n room) (λ is. other (sym (length-take-le n room (omega (arith, less.1))) ∙ is)) in
          subst (λ (key : Option (List ℕ)). ShowsKey first now file key) none (shows.ended less.1)
    ]

pub shown_failed : {E : Type 0} (first now : List ShelfCall) (file room : List ℕ) (result : Result ℕ E) → ((n : ℕ) → result ≡ Ok n → ⊥) → ShowsFront first now file room result
    → ShowsKey first now file None
shown_failed first now file room (Ok n) not_ok shows = absurd (not_ok n refl)
shown_failed first now file room (Err e) not_ok shows = shows

pub shown_not : (first now : List ShelfCall) (file : List ℕ) (key : Option (List ℕ)) → ((k : List ℕ) → key ≡ Some k → ⊥) → ShowsKey first now file key → ShowsKey first now file None
shown_not first now file (Some k) not_some shows = absurd (not_some k refl)
shown_not first now file None not_some shows = shows

pub shown_key : (first now : List ShelfCall) (file room key : List ℕ) (n : ℕ) → length room ≡ 33 → n ≡ 32 → key ≡ take 32 room → ShowsRoom first now file room n
    → ShowsKey first now file (Some key)
shown_key first now file room key n long whole is shows =
    let less : n < length room = omega (arith, long, whole) in
    let same : take n room ≡ key = ap (λ (m : ℕ). take m room) whole ∙ sym is in
    let full : length (take n room) ≡ 32 = length-take-le n room (omega (arith, less)) ∙ whole in
    subst (λ (k : Option (List ℕ)). ShowsKey first now file k) (key_in_is (take n room) full ∙ ap Some same) (shows.ended less)

-- ---- the keyring

-- the wrapping key of these names and bytes
abbrev pub named : List ℕ → List ℕ → List ℕ → WrapKeyValue
named namespace name bytes = record { namespace = namespace; name = name; key = bytes; retired = false }

-- a keyring that went by what its shelf's calls read meanwhile; `asked` is the name that they were about
pub key_used : {S : Type 0} (state : S → ShelfState) (old : KeydirValue S) (first shelf : S) (file namespace name asked : List ℕ) (key : Option (List ℕ)) (So : List WrapKeyValue → Type 0)
    → first ≡ old.shelf → file ≡ old.file → namespace ≡ old.namespace → name ≡ old.name → asked ≡ old.file → ShowsKey (state first).calls (state shelf).calls asked key → So (map (keydir_key old) (key_or_none key))
    → AskedOnce (keydir_meaning state old).uses (Some (ReadAnew (map (named namespace name) (keys_read file [] (state shelf).calls)) ∷ [])) So
key_used {S = S} state old first shelf file namespace name asked key So same_shelf same_file same_namespace same_name is shown so =
    let calls : List ShelfCall = (state shelf).calls in
    let before : List (List ℕ) = keys_read old.file [] (state old.shelf).calls in
    let all : keys_read old.file [] calls ≡ before ++ key_or_none key =
    subst (λ (s : S). keys_read old.file [] calls ≡ keys_read old.file [] (state s).calls ++ key_or_none key) same_shelf
    (subst (λ (f : List ℕ). keys_read f [] calls ≡ keys_read f [] (state first).calls ++ key_or_none key) is shown) in
    read_once (map (keydir_key old) before) (map (keydir_key old) (key_or_none key)) (map (named namespace name) (keys_read file [] calls)) So
    (ap (λ (f : List ℕ). map (named namespace name) (keys_read f [] calls)) same_file
    ∙ (ap (λ (n : List ℕ). map (named n name) (keys_read old.file [] calls)) same_namespace
    ∙ (ap (λ (n : List ℕ). map (named old.namespace n) (keys_read old.file [] calls)) same_name
    ∙ (ap (map (keydir_key old)) all ∙ map-append (keydir_key old) before (key_or_none key)))))
    (few key) so
  where
    few : (k : Option (List ℕ)) → length (map (keydir_key old) (key_or_none k)) ≤ 1
    few (Some k) = omega arith
    few None = omega arith
