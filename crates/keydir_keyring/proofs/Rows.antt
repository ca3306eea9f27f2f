-- Reads of a file in a row from its front, and the room that they fill.
use Rattle.std.proofs.Common.{◌≡◌, ℕ, ◌+◌, ◌<◌, ◌≤◌, List, [], ◌∷◌, ◌++◌, length, take, sym, ap, subst, ◌∙◌, arith, append-nil}
use Rattle.std.proofs.lemmas.List.{length-take-le, nil_from_length, take-append-le}
use Rattle.std.proofs.Math.Seq.{take-append-add}
use Rattle.std.specs.Prelude.{OnErr, Result, Ok, Err}
use Rattle.std.specs.Io.{ReadsAtMost}
use Rattle.esdk_base.specs.Told.{TellsRead}
use Rattle.esdk_seen.specs.Calls.{ShelfCall, reads}
use Rattle.whole_input.specs.FileReads.{ReadsRow, ReadsWholeFile}
use Rattle.whole_input.specs.FileReadsLaws.{row_ends, row_more, row_one}
use Rattle.keydir_keyring.specs.Reading.{ReadsFewer, ReadsKeyFront, ReadsMore, ReadsOnce}

-- what one read put behind the first bytes of the room
room_more : (before out rest : List ℕ) (at more : ℕ) → at ≤ length before → more ≤ length out → take (at + more) (take at before ++ (out ++ rest)) ≡ take at before ++ take more out
room_more before out rest at more inside fits =
    let long : length (take at before) ≡ at = length-take-le at before inside in
    let put : take (at + more) (take at before ++ (out ++ rest)) ≡ take at before ++ take more (out ++ rest) =
    subst (λ n. take (n + more) (take at before ++ (out ++ rest)) ≡ take at before ++ take more (out ++ rest)) long (take-append-add (take at before) (out ++ rest) more) in
    put ∙ ap (λ b. take at before ++ b) (take-append-le more out rest fits)

-- one read more, as its call tells it
pub reads_by : {E : Type 0} (old new : List ShelfCall) (file before out rest : List ℕ) (at : ℕ) (result : Result ℕ E) → at ≤ length before → ReadsAtMost result out
    → TellsRead old new result file at out → ReadsMore old new file before (take at before ++ (out ++ rest)) at result
reads_by old new file before out rest at (Ok more) inside fits call = record {
  piece = take more out;
  long = length-take-le more out fits.0;
  call = call;
  room = room_more before out rest at more inside fits.0;
}
reads_by old new file before out rest at (Err e) inside fits call = call

-- its bytes join the row
pub row_by : (first old new : List ShelfCall) (file before after : List ℕ) (at more : ℕ) → at ≤ length before → ReadsRow file 0 first old (take at before)
    → ReadsOnce old new file before after at more → ReadsRow file 0 first new (take (at + more) after)
row_by first old new file before after at more inside row once =
    let long : length (take at before) ≡ at = length-take-le at before inside in
    let one : ReadsRow file at old new once.piece = row_one file at old new once.piece once.call in
    subst (λ (b : List ℕ). ReadsRow file 0 first new b) (sym once.room) (row_more file 0 at first old new (take at before) once.piece (omega (arith, long)) row one)

-- a read that gave nothing ends it
pub front_ends : (first old new : List ShelfCall) (file before after : List ℕ) (at more : ℕ) → at ≤ length before → ReadsRow file 0 first old (take at before)
    → ReadsOnce old new file before after at more → more ≡ 0 → ReadsKeyFront first new file after at
front_ends first old new file before after at more inside row once none =
    let long : length (take at before) ≡ at = length-take-le at before inside in
    let here : at + more ≡ at = omega (arith, none) in
    let empty : once.piece ≡ [] = nil_from_length once.piece (once.long ∙ none) in
    let last : new ≡ old ++ reads file (length (take at before)) [] ∷ [] =
    once.call ∙ ap (λ (b : List ℕ). old ++ reads file at b ∷ []) empty ∙ ap (λ (n : ℕ). old ++ reads file n [] ∷ []) (sym long) in
    let same : take at before ≡ take at after =
    sym (append-nil (take at before)) ∙ ap (λ (b : List ℕ). take at before ++ b) (sym empty) ∙ sym once.room ∙ ap (λ (n : ℕ). take n after) here in
    record {
      row = subst (λ (n : ℕ). ReadsRow file 0 first new (take n after)) here (row_by first old new file before after at more inside row once);
      whole = λ _. subst (λ (b : List ℕ). ReadsWholeFile file first new b) same (row_ends file first old new (take at before) row last);
    }

-- no room is left
pub front_full : (first now : List ShelfCall) (file room : List ℕ) (n : ℕ) → length room ≤ n → ReadsRow file 0 first now (take n room) → ReadsKeyFront first now file room n
front_full first now file room n full row = record { row = row; whole = λ less. absurd (omega (arith, less, full)) }

-- a read that failed leaves the row as it was
pub fewer_by : {T E : Type 0} (first old new : List ShelfCall) (file room : List ℕ) (n limit : ℕ) (result : Result T E) → n ≤ length room → n < limit → ReadsRow file 0 first old (take n room)
    → new ≡ old → OnErr result (ReadsFewer first new file limit)
fewer_by first old new file room n limit (Ok x) inside less row same = tt
fewer_by first old new file room n limit (Err e) inside less row same = record {
  bytes = take n room;
  row = subst (λ (calls : List ShelfCall). ReadsRow file 0 first calls (take n room)) (sym same) row;
  few = omega (arith, less, length-take-le n room inside);
}
