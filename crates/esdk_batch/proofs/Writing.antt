-- What a receiver puts behind a job's file, by what a call of the desk answers that hands bytes to it.
use Rattle.std.proofs.Common.{◌≡◌, ℕ, ◌≤◌, Bool, false, List, take, Result, Ok, Err, refl, sym, ap, subst}
use Rattle.std.specs.Prelude.{MatchResult, OnErr}
use Rattle.esdk_fields.specs.Counts.{Rose}
use Rattle.esdk_seen.specs.Calls.{ShelfCall}
use Rattle.esdk_base.specs.Shelf.{is_missing}
use Rattle.esdk_base.specs.Streams.{ShelfState}
use Rattle.esdk_base.specs.declared.receiver.FeedError.{FeedError}
use Rattle.esdk_base.specs.declared.receiver.FeedError.TheVariants as failures
use Rattle.desk_core.specs.declared.errors.DeskError.{DeskError}
use Rattle.esdk_batch.specs.declared.file_end.FileEnd.{FileEnd}
use Rattle.esdk_batch.specs.FileEnd.{AppendFails, FileTakes, file_fails, file_takes}
use Rattle.esdk_batch.specs.Files.{FileGains, KeepsOthers, Puts}
use Rattle.esdk_batch.specs.ShelfCalls.{HasCalls, IsWrite}
use Rattle.esdk_batch.specs.Watching.{IsFrom, Watch, as_told, files_by}

-- What a receiver says of the file behind whose end it puts bytes: what it takes the file gains, and where it fails a front of that. The shelf is lent to it by this name still.
pub record Writes {R E : Type 0} (takes : R → R → List ℕ → Type 0) (fails : R → R → List ℕ → E → Type 0) (before after : R) (to : List ℕ) (lent still : ℕ) (missing : Bool) (old new : ShelfState) : Type 0 where
  pub took : (bytes : List ℕ) → takes before after bytes → FileGains old.files new.files to bytes × (old.faults ≤ new.faults) × (still ≡ lent) × HasCalls (IsWrite to) old new
  pub failed : (bytes : List ℕ) (error : E) → fails before after bytes error
      → (count : ℕ) × FileGains old.files new.files to (take count bytes) × (old.faults ≤ new.faults) × (missing ≡ false → Rose old.faults new.faults) × (still ≡ lent) × HasCalls (IsWrite to) old new
  pub same : after ≡ before → (new ≡ old) × (still ≡ lent)

-- the end of a file does
pub writes_file : {F E : Type 0} (state : F → ShelfState) (before after : FileEnd F)
    → Writes {E = E} (file_takes state) (file_fails state) before after before.name.now before.shelf.ghost_name after.shelf.ghost_name
    (is_missing (state before.shelf.now).files before.name.now) (state before.shelf.now) (state after.shelf.now)
writes_file state before after = record {
  took = λ bytes is. (is.gains as_told tt, is.calls.later, is.shelf, is.calls);
  failed = λ bytes error is. (let front = is.gains as_told tt in (front.0, front.1, is.calls.later, is.rose, is.shelf, is.calls));
  same = λ is. (ap (λ (f : FileEnd _). state f.shelf.now) is, ap (λ (f : FileEnd _). f.shelf.ghost_name) is);
}

-- by what a call of it answers
pub takes_so : {T E : Type 0} (lent : ℕ) (name : List ℕ) (old new : ShelfState) (bytes : List ℕ) (result : Result T E)
    → ((by : Watch) → IsFrom by old → Puts (files_by by old) (files_by by new) name bytes result) → HasCalls (IsWrite name) old new → (is_missing old.files name ≡ false → OnErr result (Rose old.faults new.faults))
    → MatchResult result (λ _. FileTakes lent lent name name old new bytes) (λ _. AppendFails lent lent name name old new bytes)
takes_so lent name old new bytes (Ok done) puts calls rose = record { shelf = refl; file = refl; gains = puts; calls = calls }
takes_so lent name old new bytes (Err error) puts calls rose = record { shelf = refl; file = refl; gains = puts; calls = calls; rose = rose }

-- what a shelf is worth whose files are known so
abbrev pub seen_by : Watch → ShelfState → ShelfState
seen_by by shelf = record shelf { files = files_by by shelf }

seen_calls : (P : ShelfCall → Type 0) (by : Watch) (old new : ShelfState) → HasCalls P old new → HasCalls P (seen_by by old) (seen_by by new)
seen_calls P by old new has = record { made = has.made; calls = has.calls; all = has.all; later = has.later }

-- the end of a file does, however the files are known
pub writes_seen : {F E : Type 0} (state : F → ShelfState) (by : Watch) (before after : FileEnd F) → IsFrom by (state before.shelf.now)
    → Writes {E = E} (file_takes state) (file_fails state) before after before.name.now before.shelf.ghost_name after.shelf.ghost_name
    (is_missing (state before.shelf.now).files before.name.now) (seen_by by (state before.shelf.now)) (seen_by by (state after.shelf.now))
writes_seen state by before after from = record {
  took = λ bytes is. (is.gains by from, is.calls.later, is.shelf, seen_calls (IsWrite before.name.now) by (state before.shelf.now) (state after.shelf.now) is.calls);
  failed = λ bytes error is.
      (let front = is.gains by from in (front.0, front.1, is.calls.later, is.rose, is.shelf, seen_calls (IsWrite before.name.now) by (state before.shelf.now) (state after.shelf.now) is.calls));
  same = λ is. (ap (λ (f : FileEnd _). seen_by by (state f.shelf.now)) is, ap (λ (f : FileEnd _). f.shelf.ghost_name) is);
}

-- something was put behind the file; or, where the receiver failed, the shelf counted that
abbrev pub Put : {T E : Type 0} → ℕ → ℕ → Bool → ShelfState → ShelfState → List ℕ → Result T (FeedError DeskError E) → Type 0
Put lent still missing old new to (Ok done) = (bytes : List ℕ) × FileGains old.files new.files to bytes × (old.faults ≤ new.faults) × (still ≡ lent) × HasCalls (IsWrite to) old new
Put lent still missing old new to (Err (failures.Machine error)) = (bytes : List ℕ) × FileGains old.files new.files to bytes × (old.faults ≤ new.faults) × (still ≡ lent) × HasCalls (IsWrite to) old new
Put lent still missing old new to (Err (failures.Receiver error)) =
    (bytes : List ℕ) × FileGains old.files new.files to bytes × (old.faults ≤ new.faults) × (missing ≡ false → Rose old.faults new.faults) × (still ≡ lent) × HasCalls (IsWrite to) old new

-- every other file is as before
pub put_keeps : {T E : Type 0} (lent still : ℕ) (missing : Bool) (old new : ShelfState) (to : List ℕ) (result : Result T (FeedError DeskError E)) → Put lent still missing old new to result → KeepsOthers old.files new.files to
put_keeps lent still missing old new to (Ok done) put = put.1.keeps
put_keeps lent still missing old new to (Err (failures.Machine error)) put = put.1.keeps
put_keeps lent still missing old new to (Err (failures.Receiver error)) put = put.1.keeps

pub put_same : {T E : Type 0} (lent still : ℕ) (missing : Bool) (old new : ShelfState) (to : List ℕ) (result : Result T (FeedError DeskError E)) → Put lent still missing old new to result → still ≡ lent
put_same lent still missing old new to (Ok done) put = put.3
put_same lent still missing old new to (Err (failures.Machine error)) put = put.3
put_same lent still missing old new to (Err (failures.Receiver error)) put = put.4

-- it was called only to append to the file
pub put_calls : {T E : Type 0} (lent still : ℕ) (missing : Bool) (old new : ShelfState) (to : List ℕ) (result : Result T (FeedError DeskError E)) → Put lent still missing old new to result → HasCalls (IsWrite to) old new
put_calls lent still missing old new to (Ok done) put = put.4
put_calls lent still missing old new to (Err (failures.Machine error)) put = put.4
put_calls lent still missing old new to (Err (failures.Receiver error)) put = put.5

-- what holds of the last value behind a borrow holds of the value that it leaves
pub along : {A : Type 0} (P : A → Type 0) (left last : A) → P last → left ≡ last → P left
along P left last holds is = subst P (sym is) holds
