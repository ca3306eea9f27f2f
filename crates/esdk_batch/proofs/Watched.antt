-- What the calls of a shelf make of its files, however they are known.
use Rattle.std.proofs.Common.{◌≡◌, ◌∙◌, ℕ, ◌+◌, ◌≤◌, Bool, true, false, List, [], ◌∷◌, ◌++◌, length, take, drop, refl, sym, ap, subst, inl, inr, arith}
use Rattle.std.specs.Prelude.{◌^◌, Result, Ok, Err, OnOk, is_none, if◌then◌else◌}
use Rattle.std.specs.declared.option.Option.{Option}
use Rattle.std.specs.declared.option.Option.TheVariants.{None, Some}
use Rattle.std.specs.Option.{option_and_then, option_map}
use Rattle.std.specs.FinMap.{get}
use Rattle.std.specs.Cmp.Lexicographic.{bytes_decides}
use Rattle.std.proofs.lemmas.List.{drop-append-le}
use Rattle.esdk_seen.specs.Calls.{ForWhom, ShelfCall, appends, creates, finishes, reads}
use Rattle.esdk_base.specs.Shelf.{AppendsTo, Creates, Files, Holds, appended, created, is_missing}
use Rattle.esdk_base.specs.Streams.{ShelfState}
use Rattle.esdk_base.specs.Told.{TellsAppend, TellsCall, whom}
use Rattle.job_file.specs.declared.job.Job.{Job}
use Rattle.esdk_batch.specs.declared.progress.Progress.{Progress}
use Rattle.esdk_batch.specs.declared.progress.Progress.TheVariants as stages
use Rattle.esdk_batch.specs.FileEndLaws.{gained_nothing, gained_there}
use Rattle.esdk_batch.specs.Files.{Empties, FileGains, Holding, Makes, MakesFile, Puts, ReadsPiece}
use Rattle.esdk_batch.specs.Placing.{readers_of}
use Rattle.esdk_batch.specs.ShelfCalls.{FinishesBy}
use Rattle.esdk_batch.specs.Watching.{IsFrom, Watch, agrees, as_shown, as_told, behind_call, behind_calls, behind_read, files_by}
use Rattle.esdk_batch.proofs.Named.{gained, makes, puts}
use Rattle.esdk_batch.proofs.Took.{piece_long}

-- ---- one call more

behind_both : (told : Option Files) (first later : List ShelfCall) → behind_calls told (first ++ later) ≡ behind_calls (behind_calls told first) later
behind_both told [] later = refl
behind_both told (call ∷ first) later = behind_both (option_and_then (λ files. behind_call files call) told) first later

shown_one : (since : ℕ) (before : Files) (old new : ShelfState) (call : ShelfCall) → since ≤ length old.calls → new.calls ≡ old.calls ++ call ∷ []
    → behind_calls (Some before) (drop since new.calls) ≡ option_and_then (λ files. behind_call files call) (behind_calls (Some before) (drop since old.calls))
shown_one since before old new call from is =
    ap (λ (calls : List ShelfCall). behind_calls (Some before) (drop since calls)) is
    ∙ ap (behind_calls (Some before)) (drop-append-le since old.calls (call ∷ []) from)
    ∙ behind_both (Some before) (drop since old.calls) (call ∷ [])

some_map : (change : Files → Files) (told : Option Files) → option_and_then (λ files. Some (change files)) told ≡ option_map change told
some_map change None = refl
some_map change (Some files) = refl

pub some_same : (told : Option Files) → option_and_then (λ files. Some files) told ≡ told
some_same None = refl
some_same (Some files) = refl

-- where no call was told all is as before
pub still_seen : (by : Watch) (old new : ShelfState) → new.files ≡ old.files → new.calls ≡ old.calls → files_by by new ≡ files_by by old
still_seen as_told old new same still = same
still_seen (as_shown since before) old new same still = ap (λ (calls : List ShelfCall). behind_calls (Some before) (drop since calls)) still

-- so it is where a file was finished
finished_seen : (by : Watch) (old new : ShelfState) (name : List ℕ) (readers : ForWhom) → IsFrom by old → new.files ≡ old.files → new.calls ≡ old.calls ++ finishes name readers ∷ [] → files_by by new ≡ files_by by old
finished_seen as_told old new name readers from same told = same
finished_seen (as_shown since before) old new name readers from same told =
    shown_one since before old new (finishes name readers) from told ∙ some_same (behind_calls (Some before) (drop since old.calls))

pub placed_seen : (by : Watch) (job : Job) (next placed : Progress) (old new : ShelfState) → IsFrom by old → new.files ≡ old.files → FinishesBy job next placed old new → files_by by new ≡ files_by by old
placed_seen by job stages.Waiting placed old new from same calls = still_seen by old new same calls
placed_seen by job (stages.Live live) placed old new from same calls = still_seen by old new same calls
placed_seen by job (stages.Ended line) placed old new from same calls = elim calls [
  | inl told ↦ finished_seen by old new job.to (whom (readers_of line.kind)) from same told
  | inr failed ↦ still_seen by old new same failed.0
]

-- ---- a file that is made, and what is put behind it

pub made_seen : {T E : Type 0} (by : Watch) (old new : ShelfState) (name : List ℕ) (result : Result T E) → IsFrom by old → Creates old.files new.files result name
    → TellsCall old.calls new.calls result (creates name) → Creates (files_by by old) (files_by by new) result name
made_seen as_told old new name result from made tells = made
made_seen (as_shown since before) old new name (Ok done) from made tells =
    shown_one since before old new (creates name) from tells ∙ some_map (λ files. created files name) (behind_calls (Some before) (drop since old.calls))
made_seen (as_shown since before) old new name (Err failed) from made tells = elim tells [
  | inl same ↦ inl (ap (λ (calls : List ShelfCall). behind_calls (Some before) (drop since calls)) same)
  | inr told ↦ inr (shown_one since before old new (creates name) from told ∙ some_map (λ files. created files name) (behind_calls (Some before) (drop since old.calls)))
]

pub makes_seen : {T E : Type 0} (by : Watch) (old new : ShelfState) (name : List ℕ) (result : Result T E) → IsFrom by old → Creates old.files new.files result name
    → TellsCall old.calls new.calls result (creates name) → Makes (files_by by old) (files_by by new) name result
makes_seen by old new name result from made tells = makes (files_by by old) (files_by by new) name result (made_seen by old new name result from made tells)

-- so many of the bytes were appended, as the calls show
appended_seen : (since : ℕ) (before : Files) (old new : ShelfState) (name bytes : List ℕ) → since ≤ length old.calls → new.calls ≡ old.calls ++ appends name bytes ∷ []
    → FileGains (behind_calls (Some before) (drop since old.calls)) (behind_calls (Some before) (drop since new.calls)) name bytes
appended_seen since before old new name bytes from told =
    let held : Option Files = behind_calls (Some before) (drop since old.calls) in
    subst (λ (files : Option Files). FileGains held files name bytes)
    (sym (shown_one since before old new (appends name bytes) from told ∙ some_map (λ files. appended files name bytes) held)) (gained held name bytes)

pub puts_seen : {T E : Type 0} (by : Watch) (old new : ShelfState) (name bytes : List ℕ) (result : Result T E) → IsFrom by old → AppendsTo old.files new.files result name bytes
    → TellsAppend old.calls new.calls result name bytes → Puts (files_by by old) (files_by by new) name bytes result
puts_seen as_told old new name bytes result from put tells = puts old.files new.files name bytes result put
puts_seen (as_shown since before) old new name bytes (Ok done) from put tells = appended_seen since before old new name bytes from tells
puts_seen (as_shown since before) old new name bytes (Err failed) from put tells = elim tells [
  | inl same ↦
      let held : Option Files = behind_calls (Some before) (drop since old.calls) in
      (0, subst (λ (files : Option Files). FileGains held files name []) (sym (ap (λ (calls : List ShelfCall). behind_calls (Some before) (drop since calls)) same)) (gained_nothing held name))
  | inr told ↦ (told.0, appended_seen since before old new name (take told.0 bytes) from told.1)
]

-- a file that was made holds what was put behind it
put_behind : (first mid last : Option Files) (name bytes : List ℕ) → Empties first mid name → FileGains mid last name bytes → Holding first last name bytes
put_behind first mid last name bytes empties gains = record {
  keeps = record {
    tells = gains.keeps.tells ∙ empties.keeps.tells;
    others = λ other apart. gains.keeps.others other apart ∙ empties.keeps.others other apart;
  };
  this = λ told. gains.this ∙ ap (option_map (λ held. held ++ bytes)) (empties.this told);
}

pub file_made : {T E : Type 0} (first mid last : Option Files) (name bytes : List ℕ) (result : Result T E) → Empties first mid name → Puts mid last name bytes result → MakesFile first last name bytes result
file_made first mid last name bytes (Ok done) empties put = put_behind first mid last name bytes empties put
file_made first mid last name bytes (Err failed) empties put = inr (put.0, put_behind first mid last name (take put.0 bytes) empties put.1)

pub put_there : {T E : Type 0} (mid last : Option Files) (name bytes : List ℕ) (result : Result T E) → Puts mid last name bytes result → is_missing mid name ≡ false → OnOk result (is_missing last name ≡ false)
put_there mid last name bytes (Ok done) put there = gained_there mid last name bytes put there
put_there mid last name bytes (Err failed) put there = tt

-- ---- a piece that is read

by_test : (b : Bool) (files left : Files) → (if b then Some files else None) ≡ Some left → (files ≡ left) × (b ≡ true)
by_test true files left e = (let same : files ≡ left = cc in same, refl)
by_test false files left e = absurd (let no : None ≡ Some left = e in cc)

read_by : (files left : Files) (held : Option (List ℕ)) (at : ℕ) (piece : List ℕ) → behind_read files held at piece ≡ Some left
    → (files ≡ left) × ((bytes : List ℕ) × (held ≡ Some bytes) × (agrees bytes at piece ≡ true))
read_by files left None at piece e = absurd (let no : None ≡ Some left = e in cc)
read_by files left (Some bytes) at piece e = let is = by_test (agrees bytes at piece) files left e in (is.0, (bytes, refl, is.1))

-- What is known behind a read was known before it, and agrees with it.
record Agrees (told : Option Files) (name : List ℕ) (at : ℕ) (piece : List ℕ) (left : Files) : Type 0 where
  was : told ≡ Some left
  bytes : List ℕ
  holds : get left name ≡ Some bytes
  agree : agrees bytes at piece ≡ true

read_behind : (told : Option Files) (name : List ℕ) (at : ℕ) (piece : List ℕ) (left : Files) → option_and_then (λ files. behind_call files (reads name at piece)) told ≡ Some left → Agrees told name at piece left
read_behind None name at piece left e = absurd (let no : None ≡ Some left = e in cc)
read_behind (Some files) name at piece left e =
    let is = read_by files left (get files name) at piece e in
    record {
      was = ap (λ (f : Files). Some f) is.0;
      bytes = is.1.0;
      holds = ap (λ (f : Files). get f name) (sym is.0) ∙ is.1.1;
      agree = is.1.2;
    }

next_at : (bytes : List ℕ) (at : ℕ) (piece : List ℕ) → agrees bytes at piece ≡ true → drop at bytes ≡ piece ++ drop (at + length piece) bytes
next_at bytes at [] e = let same : at ≡ at + 0 = omega arith in ap (λ (n : ℕ). drop n bytes) same
next_at bytes at (byte ∷ piece) e = (bytes_decides (drop at bytes) (byte ∷ piece ++ drop (at + length (byte ∷ piece)) bytes)).0 e

end_at : (bytes : List ℕ) (at : ℕ) (piece : List ℕ) → agrees bytes at piece ≡ true → length piece ≡ 0 → drop at bytes ≡ []
end_at bytes at [] e none = (bytes_decides (drop at bytes) []).0 e
end_at bytes at (byte ∷ piece) e none = absurd (omega (arith, none))

same_bytes : (held : Option (List ℕ)) (bytes text : List ℕ) → held ≡ Some bytes → held ≡ Some text → bytes ≡ text
same_bytes held bytes text one two = cc

module _ (name : List ℕ) (at count : ℕ) (buffer : List ℕ) (fits : count ≤ length buffer) where
  piece_of : (told : Option Files) (left : Files) (text : List ℕ) → Agrees told name at (take count buffer) left → get left name ≡ Some text
      → (drop at text ≡ take count buffer ++ drop (at + count) text) × (count ≡ 0 → drop at text ≡ [])
  piece_of told left text a holds =
      let long : length (take count buffer) ≡ count = piece_long count buffer fits in
      let is : a.bytes ≡ text = same_bytes (get left name) a.bytes text a.holds holds in
      let agree : agrees text at (take count buffer) ≡ true = subst (λ (b : List ℕ). agrees b at (take count buffer) ≡ true) is a.agree in
      (next_at text at (take count buffer) agree ∙ ap (λ (n : ℕ). take count buffer ++ drop (at + n) text) long, λ none. end_at text at (take count buffer) agree (long ∙ none))

  module _ (before told : Option Files) (most : at + count ≤ 2 ^ 62) (agree : (left : Files) → told ≡ Some left → Agrees before name at (take count buffer) left) where
    there_in : (known : Option Files) → told ≡ known → is_missing known name ≡ false
    there_in None is = refl
    there_in (Some left) is = ap is_none (agree left is).holds

    holds_in : (known : Option Files) (text : List ℕ) → told ≡ known → Holds known name text → (drop at text ≡ take count buffer ++ drop (at + count) text) × (count ≡ 0 → drop at text ≡ [])
    holds_in None text is holds = absurd (let no : None ≡ Some text = holds in cc)
    holds_in (Some left) text is holds = piece_of before left text (agree left is) holds

    piece_in : ReadsPiece told name at count buffer
    piece_in = record {
      there = there_in told refl;
      fits = fits;
      most = most;
      bytes = λ text holds. (holds_in told text refl holds).0;
      end = λ text holds none. (holds_in told text refl holds).1 none;
    }

agrees_by : (since : ℕ) (before : Files) (old new : ShelfState) (name : List ℕ) (at : ℕ) (piece : List ℕ) → since ≤ length old.calls → new.calls ≡ old.calls ++ reads name at piece ∷ [] → (left : Files)
    → behind_calls (Some before) (drop since new.calls) ≡ Some left → Agrees (behind_calls (Some before) (drop since old.calls)) name at piece left
agrees_by since before old new name at piece from told left is =
    read_behind (behind_calls (Some before) (drop since old.calls)) name at piece left (sym (shown_one since before old new (reads name at piece) from told) ∙ is)

pub piece_seen : (by : Watch) (old new : ShelfState) (name : List ℕ) (at count : ℕ) (buffer : List ℕ) → IsFrom by old → new.files ≡ old.files → new.calls ≡ old.calls ++ reads name at (take count buffer) ∷ []
    → ReadsPiece old.files name at count buffer → ReadsPiece (files_by by new) name at count buffer
piece_seen as_told old new name at count buffer from same told piece = subst (λ (f : Option Files). ReadsPiece f name at count buffer) (sym same) piece
piece_seen (as_shown since before) old new name at count buffer from same told piece =
    piece_in name at count buffer piece.fits (behind_calls (Some before) (drop since old.calls)) (behind_calls (Some before) (drop since new.calls)) piece.most
    (agrees_by since before old new name at (take count buffer) from told)

-- what is known behind it was known before it
pub read_known : (by : Watch) (old new : ShelfState) (name : List ℕ) (at : ℕ) (piece : List ℕ) → IsFrom by old → new.files ≡ old.files → new.calls ≡ old.calls ++ reads name at piece ∷ [] → (left : Files)
    → files_by by new ≡ Some left → files_by by old ≡ Some left
read_known as_told old new name at piece from same told left is = sym same ∙ is
read_known (as_shown since before) old new name at piece from same told left is = (agrees_by since before old new name at piece from told left is).was
