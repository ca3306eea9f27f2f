-- What is read of bytes that were handed over agrees with each message that has them.
use Rattle.std.proofs.Common.{◌≡◌, ◌∙◌, ℕ, ◌+◌, ◌≤◌, List, [], ◌∷◌, ◌++◌, length, take, drop, sym, ap, subst, append_assoc}
use Rattle.std.specs.List.{All}
use Rattle.std.proofs.lemmas.List.{drop-drop, length-take-le, take-append-drop, take-append-le}
use Rattle.std.proofs.lemmas.List.Elements.{All-append, All-cons, All-nil}
use Rattle.esdk_seen.specs.Calls.{ShelfCall, announces, reads}
use Rattle.whole_input.specs.FileReads.{AgreesWithCall, AgreesWithRead, Grows, IsReadAs}
use Rattle.session_parts.specs.Handed.{HandedPart, HasHanded, notes_of, the_message}
use Rattle.c_session.specs.MessageShelf.{AgreesSoFar, FillsRoom}

-- ---- a read

-- the front of what is left
given_agrees : (message left piece : List ℕ) (at count : ℕ) → AgreesWithRead message at left → count ≤ length left → piece ≡ take count left → (count ≡ 0 → left ≡ []) → AgreesWithRead message at piece
given_agrees message left piece at count agrees most is none =
    let long : length piece ≡ count = ap (length {A = ℕ}) is ∙ length-take-le count left most in (
      sym (take-append-drop count (drop at message))
          ∙ ap (λ (b : List ℕ). b ++ drop count (drop at message))
          (ap (take count) agrees.0 ∙ take-append-le count left (drop (at + length left) message) most ∙ sym is)
          ∙ ap (λ (b : List ℕ). piece ++ b) (drop-drop count at message ∙ ap (λ (n : ℕ). drop (at + n) message) (sym long)),
      λ empty. agrees.1 (none (sym long ∙ ap (length {A = ℕ}) empty)),
    )

-- one call more agrees, of which each message that has the bytes does
call_agrees : (h : HandedPart) (old new : List ShelfCall) (call : ShelfCall) → AgreesSoFar h old
    → ((message : List ℕ) → HasHanded h message → AgreesWithCall the_message message call) → new ≡ old ++ call ∷ [] → AgreesSoFar h new
call_agrees h old new call so agrees is = record {
  made = so.made ++ call ∷ [];
  so_far = is ∙ ap (λ (calls : List ShelfCall). calls ++ call ∷ []) so.so_far ∙ append_assoc (notes_of h) so.made (call ∷ []);
  agree = λ message has.
      All-append (AgreesWithCall the_message message) so.made (call ∷ []) (so.agree message has)
      (All-cons (AgreesWithCall the_message message) call [] (agrees message has) (All-nil (AgreesWithCall the_message message)));
}

-- so does a read
pub read_agrees : (h : HandedPart) (old new : List ShelfCall) (name left room : List ℕ) (at count : ℕ) → AgreesSoFar h old → FillsRoom left room count
    → ((message : List ℕ) → HasHanded h message → AgreesWithRead message at left) → new ≡ old ++ reads name at (take count room) ∷ []
    → AgreesSoFar h new
read_agrees h old new name left room at count so gives agrees is =
    call_agrees h old new (reads name at (take count room)) so
    (λ message has same. given_agrees message left (take count room) at count (agrees message has) gives.most gives.front gives.none) is

-- and an announcement, which agrees with each message
pub announce_agrees : (h : HandedPart) (old new : List ShelfCall) (name : List ℕ) → AgreesSoFar h old → new ≡ old ++ announces name ∷ [] → AgreesSoFar h new
announce_agrees h old new name so is = call_agrees h old new (announces name) so (λ message has. tt) is

-- ---- all reads

-- each message that has the bytes is the file that was read
pub read_as : (h g : HandedPart) (old new : List ShelfCall) → old ≡ notes_of h → Grows old new → AgreesSoFar g new → (message : List ℕ) → HasHanded h message → IsReadAs old new the_message message
read_as h g old new noted grows so message has =
    let both : notes_of h ++ grows.0 ≡ notes_of g ++ so.made = ap (λ (calls : List ShelfCall). calls ++ grows.0) (sym noted) ∙ sym grows.1 ∙ so.so_far in
    let notes : notes_of h ≡ notes_of g = ap (take 3) both in
    let others : grows.0 ≡ so.made = ap (drop 3) both in
    record {
      made = grows.0;
      calls = grows.1;
      agree = subst (All (AgreesWithCall the_message message)) (sym others)
          (so.agree message (subst (All (AgreesWithCall the_message message)) notes has));
    }
