-- The key that the front of a file shows.
use Rattle.std.proofs.Common.{◌≡◌, ◌≢◌, ◌⊎◌, ℕ, ◌<◌, ◌≤◌, Bool, true, false, List, length, take, Option, Some, None, inl, inr, refl, sym, ap, subst, ◌∙◌, arith, eq-eqb}
use Rattle.std.specs.Prelude.{IfSome, OnErr, is_none, if◌then◌else◌, Result, Ok, Err}
use Rattle.std.specs.Option.{option_and_then}
use Rattle.std.specs.FinMap.{get}
use Rattle.std.proofs.lemmas.List.{length-take-le, length-take, take_all}
use Rattle.std.proofs.lemmas.Bool.Decides.{eqb_tells}
use Rattle.esdk_fields.specs.Counts.{Rose}
use Rattle.esdk_base.specs.Shelf.{Files, HasCauseOrMissing, is_missing}
use Rattle.esdk_base.specs.Streams.{ShelfState}
use Rattle.whole_input.specs.FileReads.{ReadsWholeFile}
use Rattle.keydir_keyring.specs.Reading.{Gave, HasNoKey, IsKeyFront, IsNoKey, ReadsFewer, ReadsKeyFront, ReadsKey, key_of_file, told_key}

-- bytes that are a key, and bytes that are none
pub key_in_is : (bytes : List ℕ) → length bytes ≡ 32 → key_of_file bytes ≡ Some bytes
key_in_is bytes long = ap (λ (b : Bool). if b then Some bytes else None) (eq-eqb (length bytes) 32 long)

pub key_in_none : (bytes : List ℕ) → length bytes ≢ 32 → key_of_file bytes ≡ None
key_in_none bytes other = elim (eqb_tells (length bytes) 32) [ inl same ↦ absurd (other same.1) | inr differs ↦ ap (λ (b : Bool). if b then Some bytes else None) differs.0 ]

-- 32 bytes with room behind them are the file
whole_key : (held : Option (List ℕ)) (room : List ℕ) → is_none held ≡ false → ((bytes : List ℕ) → held ≡ Some bytes → take 32 room ≡ take 32 bytes)
    → ((bytes : List ℕ) → held ≡ Some bytes → length bytes ≡ 32) → option_and_then key_of_file held ≡ Some (take 32 room)
whole_key None room there front whole = absurd (cc)
whole_key (Some bytes) room there front whole =
    let long : length bytes ≡ 32 = whole bytes refl in
    key_in_is bytes long ∙ ap (λ (b : List ℕ). Some b) (sym (front bytes refl ∙ take_all 32 bytes (omega (arith, long))))

-- the key that is read is the one that is told
pub key_is_told : (told : Option Files) (file room : List ℕ) → length room ≡ 33 → is_missing told file ≡ false → IsKeyFront told file room 32
    → IfSome told (λ _. told_key told file ≡ Some (take 32 room))
key_is_told None file room long there front = tt
key_is_told (Some files) file room long there front = whole_key (get files file) room there front.filled.front (front.whole (omega (arith, long)))

-- more or fewer bytes are no key
other_length : (held : Option (List ℕ)) (room : List ℕ) (n : ℕ) → length room ≡ 33 → n ≤ 33 → n ≢ 32 → ((bytes : List ℕ) → held ≡ Some bytes → take n room ≡ take n bytes)
    → (n < length room → (bytes : List ℕ) → held ≡ Some bytes → length bytes ≡ n) → option_and_then key_of_file held ≡ None
other_length None room n long fits other front whole = refl
other_length (Some bytes) room n long fits other front whole =
    key_in_none bytes (λ is.
    let same : length (take n room) ≡ length (take n bytes) = ap length (front bytes refl) in
    let full : length (take n room) ≡ n = length-take-le n room (omega (arith, long, fits)) in
    let full_n : n ≤ length bytes = omega (arith, same, full, length-take n bytes) in
    other (sym (whole (omega (arith, full_n, is, long)) bytes refl) ∙ is))

none_is_told : (told : Option Files) (file room : List ℕ) (n : ℕ) → length room ≡ 33 → n ≢ 32 → IsKeyFront told file room n → told_key told file ≡ None
none_is_told None file room n long other front = refl
none_is_told (Some files) file room n long other front =
    other_length (get files file) room n long (omega (arith, front.filled.fits, long)) other front.filled.front front.whole

-- what could be read is there
there_by : {T E : Type 0} (missing : Bool) (old new : ℕ) (x : T) → HasCauseOrMissing {T = T} {E = E} missing old new (Ok x) → missing ≡ false
there_by true old new x cause = absurd (let e = cause.absent refl in cc)
there_by false old new x cause = refl

pub is_there : {T E : Type 0} (told : Option Files) (file : List ℕ) (old new : ℕ) (x : T) → HasCauseOrMissing {T = T} {E = E} (is_missing told file) old new (Ok x)
    → is_missing told file ≡ false
is_there told file old new x cause = there_by (is_missing told file) old new x cause

-- what 32 bytes with room behind them come to
pub key_read : {E : Type 0} (old new : ShelfState) (file room key : List ℕ) (n : ℕ) → length room ≡ 33 → n ≡ 32 → IsKeyFront old.files file room n
    → ReadsKeyFront old.calls new.calls file room n → Gave old new n → HasCauseOrMissing {T = ℕ} {E = E} (is_missing old.files file) old.faults new.faults (Ok n) → key ≡ take 32 room
    → ReadsKey old new file (Some key)
key_read old new file room key n long whole front reads gave cause is =
    let front_32 : IsKeyFront old.files file room 32 = subst (λ (n : ℕ). IsKeyFront old.files file room n) whole front in
    let same : take n room ≡ key = ap (λ (n : ℕ). take n room) whole ∙ sym is in
    record {
      read = subst (λ (b : List ℕ). ReadsWholeFile file old.calls new.calls b) same (reads.whole (omega (arith, long, whole)));
      long = ap length is ∙ length-take-le 32 room (omega (arith, long));
      gave = subst (λ (n : ℕ). Gave old new n) whole gave;
      told =
          subst (λ (k : List ℕ). IfSome old.files (λ _. told_key old.files file ≡ Some k)) (sym is)
          (key_is_told old.files file room long (is_there old.files file old.faults new.faults n cause) front_32);
    }

-- and more or fewer
pub none_read : (old new : ShelfState) (file room : List ℕ) (n : ℕ) → length room ≡ 33 → n ≢ 32 → IsKeyFront old.files file room n → ReadsKeyFront old.calls new.calls file room n
    → Gave old new n → IsNoKey old new file
none_read old new file room n long other front reads gave =
    let so : length (take n room) ≡ n = length-take-le n room front.filled.fits in
    record {
      bytes = take n room;
      read = reads.row;
      other = λ is. other (sym so ∙ is);
      ended = λ few. reads.whole (omega (arith, few, so, long));
      gave = subst (λ (n : ℕ). Gave old new n) (sym so) gave;
      none = none_is_told old.files file room n long other front;
    }

-- why a read fails
fails_by : {T E : Type 0} (missing : Bool) (old new : ℕ) (e : E) → HasCauseOrMissing {T = T} {E = E} missing old new (Err e) → Rose old new ⊎ ((missing ≡ true) × (new ≡ old))
fails_by true old new e cause = inr (refl, cause.uncounted refl)
fails_by false old new e cause = inl (cause.failed refl)

-- a read that failed shows none
pub unread : {T E : Type 0} (old new : ShelfState) (file : List ℕ) (result : Result T E) → ((x : T) → result ≡ Ok x → ⊥) → HasCauseOrMissing (is_missing old.files file) old.faults new.faults result
    → OnErr result (ReadsFewer old.calls new.calls file 33) → HasNoKey old new file
unread old new file (Ok x) not_ok cause fewer = absurd (not_ok x refl)
unread old new file (Err e) not_ok cause fewer = inl (record { cause = fails_by (is_missing old.files file) old.faults new.faults e cause; read = fewer })
