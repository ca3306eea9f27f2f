-- Bytes that agree with what reads gave: with calls in a row, and with each part of them.
use Rattle.std.proofs.Common.{◌≡◌, ◌∙◌, ℕ, ◌+◌, ◌≤◌, List, [], ◌∷◌, ◌++◌, length, drop, Bool, true, false, Option, refl, sym, ap, subst, arith, inl, inr, append_assoc, append-nil, length-append}
use Rattle.std.specs.List.{All, concat}
use Rattle.std.proofs.lemmas.List.{append_cancel_left, drop_all, length-drop}
use Rattle.std.proofs.lemmas.List.Elements.{All-append, All-cons, All-contains, All-head, All-nil, All-tail}
use Rattle.esdk_seen.specs.Calls.{ShelfCall, reads}
use Rattle.esdk_base.specs.Shelf.{Files, Holds}
use Rattle.esdk_base.specs.Streams.{ShelfState}
use Rattle.whole_input.specs.FileReads.{AgreesWithCall, AgreesWithRead, ComesFrom, Grows, IsReadAs, IsSeenAs, ReadsRow, SeesEnd, reads_in_row}

-- ---- calls in a row

pub grows_none : (calls : List ShelfCall) → Grows calls calls
grows_none calls = ([], sym (append-nil calls))

pub grows_more : (a b c : List ShelfCall) → Grows a b → Grows b c → Grows a c
grows_more a b c first second = (
  first.0 ++ second.0,
  second.1 ∙ ap (λ (l : List ShelfCall). l ++ second.0) first.1 ∙ append_assoc a first.0 second.0,
)

-- what was read as these bytes grew
pub grows_read : (old new : List ShelfCall) (name bytes : List ℕ) → IsReadAs old new name bytes → Grows old new
grows_read old new name bytes read = (read.made, read.calls)

all_first : (P : ShelfCall → Type 0) (xs ys : List ShelfCall) → All P (xs ++ ys) → All P xs
all_first P [] ys all = All-nil P
all_first P (x ∷ xs) ys all = All-cons P x xs (All-head P x (xs ++ ys) all) (all_first P xs ys (All-tail P x (xs ++ ys) all))

all_second : (P : ShelfCall → Type 0) (xs ys : List ShelfCall) → All P (xs ++ ys) → All P ys
all_second P [] ys all = all
all_second P (x ∷ xs) ys all = all_second P xs ys (All-tail P x (xs ++ ys) all)

-- what agrees with calls in a row
both : (a b c : List ShelfCall) (name bytes : List ℕ) (first : Grows a b) (second : Grows b c) → IsReadAs a c name bytes
    → All (AgreesWithCall name bytes) (first.0 ++ second.0)
unfolding grows_more
both a b c name bytes first second read =
    let is : read.made ≡ first.0 ++ second.0 =
    append_cancel_left a read.made (first.0 ++ second.0) (sym read.calls ∙ (grows_more a b c first second).1) in
    subst (All (AgreesWithCall name bytes)) is read.agree

-- agrees with the first of them, and with the others
pub read_first : (a b c : List ShelfCall) (name bytes : List ℕ) → Grows a b → Grows b c → IsReadAs a c name bytes → IsReadAs a b name bytes
read_first a b c name bytes first second read = record {
  made = first.0;
  calls = first.1;
  agree = all_first (AgreesWithCall name bytes) first.0 second.0 (both a b c name bytes first second read);
}

pub read_second : (a b c : List ShelfCall) (name bytes : List ℕ) → Grows a b → Grows b c → IsReadAs a c name bytes → IsReadAs b c name bytes
read_second a b c name bytes first second read = record {
  made = second.0;
  calls = second.1;
  agree = all_second (AgreesWithCall name bytes) first.0 second.0 (both a b c name bytes first second read);
}

-- and what agrees with each agrees with all
pub read_both : (a b c : List ShelfCall) (name bytes : List ℕ) → IsReadAs a b name bytes → IsReadAs b c name bytes → IsReadAs a c name bytes
unfolding grows_more
read_both a b c name bytes first second = record {
  made = first.made ++ second.made;
  calls = (grows_more a b c (first.made, first.calls) (second.made, second.calls)).1;
  agree = All-append (AgreesWithCall name bytes) first.made second.made first.agree second.agree;
}

-- the same of a file that is told, or read so
pub seen_first : (a b c : ShelfState) (name bytes : List ℕ) → Grows a.calls b.calls → Grows b.calls c.calls → IsSeenAs a c name bytes → IsSeenAs a b name bytes
seen_first a b c name bytes first second (inl holds) = inl holds
seen_first a b c name bytes first second (inr read) = inr (read_first a.calls b.calls c.calls name bytes first second read)

pub seen_second : (a b c : ShelfState) (name bytes : List ℕ) → b.files ≡ a.files → Grows a.calls b.calls → Grows b.calls c.calls → IsSeenAs a c name bytes → IsSeenAs b c name bytes
seen_second a b c name bytes same first second (inl holds) = inl (subst (λ (f : Option Files). Holds f name bytes) (sym same) holds)
seen_second a b c name bytes same first second (inr read) = inr (read_second a.calls b.calls c.calls name bytes first second read)

-- ---- reads

-- what agrees with one read
pub one_read : (old new : List ShelfCall) (name bytes : List ℕ) (at : ℕ) (piece : List ℕ) → new ≡ old ++ reads name at piece ∷ [] → IsReadAs old new name bytes → AgreesWithRead bytes at piece
one_read old new name bytes at piece is read =
    let one : read.made ≡ reads name at piece ∷ [] = append_cancel_left old read.made (reads name at piece ∷ []) (sym read.calls ∙ is) in
    All-head (AgreesWithCall name bytes) (reads name at piece) [] (subst (All (AgreesWithCall name bytes)) one read.agree) refl

-- what agrees with reads in a row has what they gave, in a row
row_is : (name bytes : List ℕ) (at : ℕ) (pieces : List (List ℕ)) → All (AgreesWithCall name bytes) (reads_in_row name at pieces)
    → drop at bytes ≡ concat pieces ++ drop (at + length (concat pieces)) bytes
unfolding reads_in_row
row_is name bytes at [] all = ap (λ (n : ℕ). drop n bytes) (omega arith)
row_is name bytes at (piece ∷ more) all =
    let next : ℕ = at + length piece in
    let later : List ShelfCall = reads_in_row name next more in
    let here : AgreesWithRead bytes at piece = All-head (AgreesWithCall name bytes) (reads name at piece) later all refl in
    let there = row_is name bytes next more (All-tail (AgreesWithCall name bytes) (reads name at piece) later all) in
    let far : next + length (concat more) ≡ at + length (concat (piece ∷ more)) = omega (arith, length-append piece (concat more)) in
    here.0 ∙ ap (λ (b : List ℕ). piece ++ b) (there ∙ ap (λ (n : ℕ). concat more ++ drop n bytes) far)
    ∙ sym (append_assoc piece (concat more) (drop (at + length (concat (piece ∷ more))) bytes))

pub row_read : (name : List ℕ) (at : ℕ) (old new : List ShelfCall) (got bytes : List ℕ) → ReadsRow name at old new got → IsReadAs old new name bytes
    → drop at bytes ≡ got ++ drop (at + length got) bytes
row_read name at old new got bytes row read =
    let made : read.made ≡ reads_in_row name at row.pieces = append_cancel_left old read.made (reads_in_row name at row.pieces) (sym read.calls ∙ row.calls) in
    subst (λ (b : List ℕ). drop at bytes ≡ b ++ drop (at + length b) bytes) (sym row.all)
    (row_is name bytes at row.pieces (subst (All (AgreesWithCall name bytes)) made read.agree))

-- and ends where a read gave nothing
pub end_read : (name : List ℕ) (at : ℕ) (old new : List ShelfCall) (bytes : List ℕ) → SeesEnd name at old new → IsReadAs old new name bytes → length bytes ≤ at
end_read name at old new bytes sees read =
    let made : read.made ≡ sees.made = append_cancel_left old read.made sees.made (sym read.calls ∙ sees.calls) in
    let here = All-contains (AgreesWithCall name bytes) sees.made (reads name sees.end []) (subst (All (AgreesWithCall name bytes)) made read.agree) sees.read in
    let none : drop sees.end bytes ≡ [] = (here refl).1 refl in
    omega (arith, ap length none, length-drop sees.end bytes, sees.within)

-- ---- a file as a source, from its front

-- what agrees with what came begins with it
pub came_front : (name : List ℕ) (now_at : ℕ) (old new : List ShelfCall) (came now_came got bytes : List ℕ) (ended now_ended : Bool) → ComesFrom name 0 now_at old new came now_came ended now_ended
    → now_came ≡ came ++ got → IsReadAs old new name bytes → bytes ≡ got ++ drop (length got) bytes
came_front name now_at old new came now_came got bytes ended now_ended comes more read =
    let is : comes.bytes ≡ got = append_cancel_left came comes.bytes got (sym comes.more ∙ more) in
    subst (λ (b : List ℕ). bytes ≡ b ++ drop (length b) bytes) is
    (row_read name 0 old new comes.bytes bytes comes.row read ∙ ap (λ (n : ℕ). comes.bytes ++ drop n bytes) (omega arith))

-- and is it, where its end was seen
pub came_whole : (name : List ℕ) (now_at : ℕ) (old new : List ShelfCall) (came now_came got bytes : List ℕ) (ended now_ended : Bool) → ComesFrom name 0 now_at old new came now_came ended now_ended
    → now_came ≡ came ++ got → ended ≡ false → now_ended ≡ true → IsReadAs old new name bytes → bytes ≡ got
came_whole name now_at old new came now_came got bytes ended now_ended comes more first now read =
    let is : comes.bytes ≡ got = append_cancel_left came comes.bytes got (sym comes.more ∙ more) in
    let few : length bytes ≤ length got = elim (comes.end now) [
      | inl was ↦ absurd (cc)
      | inr sees ↦ (let most = end_read name now_at old new bytes sees read in omega (arith, most, comes.on, ap length is))
    ] in
    let all : bytes ≡ got ++ drop (length got) bytes = came_front name now_at old new came now_came got bytes ended now_ended comes more read in
    all ∙ ap (λ (b : List ℕ). got ++ b) (drop_all (length got) bytes few) ∙ append-nil got
