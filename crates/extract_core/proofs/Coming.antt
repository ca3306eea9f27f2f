-- What one read of a file comes to, by what the shelf says of it.
use Rattle.std.proofs.Common.{◌≡◌, ◌∙◌, ℕ, ◌+◌, ◌<◌, ◌≤◌, Bool, true, false, List, [], ◌∷◌, ◌++◌, length, take, drop, Result, Ok, Err, refl, sym, ap, subst, arith, inl, inr, append-nil}
use Rattle.std.specs.Io.{ReadsAtMost}
use Rattle.std.proofs.lemmas.List.{length-take, take-append-le}
use Rattle.esdk_fields.specs.Counts.{CountsGiven, Rose, counted}
use Rattle.esdk_seen.specs.Calls.{ShelfCall, reads}
use Rattle.esdk_base.specs.Shelf.{EndsAt, HasCauseOrMissing, Holds, ReadsFrom, is_missing}
use Rattle.esdk_base.specs.Streams.{FailsToRead, ShelfState}
use Rattle.esdk_base.specs.Told.{TellsRead}
use Rattle.whole_input.specs.FileReads.{Grows, IsSeenAs}
use Rattle.whole_input.proofs.Agreeing.{one_read}
use Rattle.extract_core.specs.ReadAhead.{Comes, ReadsIntoFront}

-- the calls of the shelf were only added to
pub tells_grows : {E : Type 0} (old new : List ShelfCall) (r : Result ℕ E) (name : List ℕ) (at : ℕ) (out : List ℕ) → TellsRead old new r name at out → Grows old new
tells_grows old new (Ok n) name at out tells = (reads name at (take n out) ∷ [], tells)
tells_grows old new (Err error) name at out tells = ([], tells ∙ sym (append-nil old))

-- a file that is told has there what was read, and so has what agrees with this read
front_seen : (old new : ShelfState) (name : List ℕ) (at n : ℕ) (out told : List ℕ) → ((bytes : List ℕ) → Holds old.files name bytes → drop at bytes ≡ take n out ++ drop (at + n) bytes)
    → new.calls ≡ old.calls ++ reads name at (take n out) ∷ [] → length (take n out) ≡ n → IsSeenAs old new name told → drop at told ≡ take n out ++ drop (at + length (take n out)) told
front_seen old new name at n out told from tells long (inl holds) = from told holds ∙ ap (λ (m : ℕ). take n out ++ drop (at + m) told) (sym long)
front_seen old new name at n out told from tells long (inr read) = (one_read old.calls new.calls name told at (take n out) tells read).0

end_seen : (old new : ShelfState) (name : List ℕ) (at n : ℕ) (out told : List ℕ) → ((bytes : List ℕ) → Holds old.files name bytes → n ≡ 0 → 0 < length out → drop at bytes ≡ [])
    → new.calls ≡ old.calls ++ reads name at (take n out) ∷ [] → n ≡ 0 → 0 < length out → take n out ≡ [] → IsSeenAs old new name told → drop at told ≡ []
end_seen old new name at n out told ends tells none room empty (inl holds) = ends told holds none room
end_seen old new name at n out told ends tells none room empty (inr read) = (one_read old.calls new.calls name told at (take n out) tells read).1 empty

-- why a read failed
failed : (old new : ShelfState) (name : List ℕ) (missing : Bool) → is_missing old.files name ≡ missing → (missing ≡ false → Rose old.faults new.faults) → (missing ≡ true → new.faults ≡ old.faults)
    → FailsToRead old new name
failed old new name true is rose same = inr (is, same refl)
failed old new name false is rose same = inl (rose refl)

pub reads_front : {E : Type 0} (old new : ShelfState) (name : List ℕ) (at room : ℕ) (out rest : List ℕ) (r : Result ℕ E) → ReadsAtMost r out → ReadsFrom old.files r name at out
    → EndsAt old.files r name at out → CountsGiven old.given new.given r → HasCauseOrMissing (is_missing old.files name) old.faults new.faults r
    → TellsRead old.calls new.calls r name at out → length out ≡ room → 1 ≤ room → ReadsIntoFront old new name at room (out ++ rest) r
reads_front old new name at room out rest (Ok n) fits from ends given cause tells size some =
    let is : take n (out ++ rest) ≡ take n out = take-append-le n out rest fits.0 in
    let long : length (take n out) ≡ n = length-take n out ∙ omega (arith, fits.0) in (
      subst (Comes old new name at room) (sym is) (record {
        few = omega (arith, long, fits.0, size);
        front = λ told seen. front_seen old new name at n out told from tells long seen;
        end = λ none told seen.
            end_seen old new name at n out told ends tells (sym long ∙ ap length none) (omega (arith, size, some)) none seen;
        given = given ∙ ap (counted old.given) (sym long);
        faults = cause.same;
      }),
      ap length is ∙ long,
    )
reads_front old new name at room out rest (Err error) fits from ends given cause tells size some =
    (failed old new name (is_missing old.files name) refl cause.failed cause.uncounted, given)
