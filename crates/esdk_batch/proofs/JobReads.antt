-- What reading on adds to the reads of a job's file, and that other calls add none.
use Rattle.std.proofs.Common.{◌≡◌, ◌≢◌, ◌≤◌, ◌+◌, ◌∙◌, ℕ, zero, Bool, true, false, cond, List, [], ◌∷◌, ◌++◌, length, refl, sym, ap, inl, inr, arith, append_assoc, append-nil, length-append}
use Rattle.std.specs.Prelude.{All, bytes_eq, ◌==◌, if◌then◌else◌}
use Rattle.std.proofs.lemmas.Bool.{eq-eqb}
use Rattle.std.proofs.lemmas.Bool.Decides.{eqb_tells}
use Rattle.std.specs.List.{concat, filter}
use Rattle.std.specs.Cmp.Lexicographic.{bytes_decides}
use Rattle.std.proofs.lemmas.List.Elements.{All-append, All-cons, All-nil, All-rest, All-weaker, filter-append}
use Rattle.std.proofs.lemmas.List.Folds.{concat-append}
use Rattle.esdk_seen.specs.Calls.{ShelfCall, announces, appends, creates, finishes, reads}
use Rattle.whole_input.specs.FileReads.{reads_in_row}
use Rattle.whole_input.specs.FileReadsLaws.{row_behind}
use Rattle.job_file.specs.declared.job.Job.{Job}
use Rattle.esdk_batch.specs.declared.progress.Progress.TheVariants as stages
use Rattle.esdk_batch.specs.JobReads.{IsReadSo, JobTurn, ReadsOnce, ReadsSoFar, all_calls, calls_of, is_read_of, reads_of}
use Rattle.esdk_batch.specs.ShelfCalls.{IsWrite}

-- ---- calls that are picked

kept_none : (b : Bool) (call : ShelfCall) (rest : List ShelfCall) → b ≡ false → cond b (call ∷ rest) rest ≡ rest
kept_none true call rest e = absurd cc
kept_none false call rest e = refl

pub filter_none : (p : ShelfCall → Bool) (made : List ShelfCall) → All (λ call. p call ≡ false) made → filter p made ≡ []
filter_none p [] none = refl
filter_none p (call ∷ made) none =
    kept_none (p call) call (filter p made) (none zero call (omega arith))
    ∙ filter_none p made (All-rest (λ (c : ShelfCall). p c ≡ false) call made (call ∷ made) refl none)

pub kept_one : (b : Bool) (call : ShelfCall) → b ≡ true → cond b (call ∷ []) [] ≡ call ∷ []
kept_one true call e = refl
kept_one false call e = absurd cc

other_name : (b : Bool) (q name : List ℕ) → bytes_eq q name ≡ b → q ≢ name → b ≡ false
other_name true q name e apart = absurd (apart ((bytes_decides q name).0 e))
other_name false q name e apart = refl

pub apart_names : (q name other : List ℕ) → q ≡ name → other ≢ name → bytes_eq q other ≡ false
apart_names q name other is apart = other_name (bytes_eq q other) q other refl (λ same. apart (sym same ∙ is))

-- ---- the reads among calls

reads_both : (name : List ℕ) (made more : List ShelfCall) → reads_of name (made ++ more) ≡ reads_of name made ++ reads_of name more
reads_both name made more = filter-append (is_read_of name) made more

unread : (name to : List ℕ) (call : ShelfCall) → IsWrite to call → is_read_of name call ≡ false
unread name to (reads other at bytes) of = absurd of
unread name to (creates other) of = refl
unread name to (appends other bytes) of = refl
unread name to (announces other) of = refl
unread name to (finishes other whom) of = refl

-- what writes reads nothing
writes_unread : (name to : List ℕ) (made : List ShelfCall) → All (IsWrite to) made → reads_of name made ≡ []
writes_unread name to made all =
    filter_none (is_read_of name) made (All-weaker (IsWrite to) (λ (call : ShelfCall). is_read_of name call ≡ false) (unread name to) made all)

pub none_behind : (name : List ℕ) (made more : List ShelfCall) → reads_of name more ≡ [] → reads_of name (made ++ more) ≡ reads_of name made
none_behind name made more none = reads_both name made more ∙ ap (λ (l : List ShelfCall). reads_of name made ++ l) none ∙ append-nil (reads_of name made)

pub writes_behind : (name to : List ℕ) (made more : List ShelfCall) → All (IsWrite to) more → reads_of name (made ++ more) ≡ reads_of name made
writes_behind name to made more all = none_behind name made more (writes_unread name to more all)

-- a read of the file is one
read_here : (name from : List ℕ) (at : ℕ) (piece : List ℕ) → from ≡ name → reads_of name (reads from at piece ∷ []) ≡ reads name at piece ∷ []
read_here name from at piece is =
    kept_one (bytes_eq from name) (reads from at piece) ((bytes_decides from name).1 is) ∙ ap (λ (n : List ℕ). reads n at piece ∷ []) is

-- a read of the file, and behind it writes
pub read_and_writes : (name from to : List ℕ) (at : ℕ) (piece : List ℕ) (made more : List ShelfCall) → from ≡ name → All (IsWrite to) more
    → reads_of name (made ++ reads from at piece ∷ more) ≡ reads_of name made ++ reads name at piece ∷ []
read_and_writes name from to at piece made more is all =
    reads_both name made (reads from at piece ∷ more)
    ∙ ap (λ (l : List ShelfCall). reads_of name made ++ l)
    (reads_both name (reads from at piece ∷ []) more ∙ ap (λ (l : List ShelfCall). reads_of name (reads from at piece ∷ []) ++ l) (writes_unread name to more all)
    ∙ append-nil (reads_of name (reads from at piece ∷ [])) ∙ read_here name from at piece is)

-- ---- how far a file is read

pub so_far_more : (name : List ℕ) (count : ℕ) (calls : List ShelfCall) (piece : List ℕ) → 1 ≤ length piece → ReadsSoFar name count calls
    → ReadsSoFar name (count + length piece) (calls ++ reads name count piece ∷ [])
unfolding reads_in_row
so_far_more name count calls piece some so =
    let there : count ≡ 0 + length (concat so.pieces) = omega (arith, so.many) in
    record {
      pieces = so.pieces ++ piece ∷ [];
      row = ap (λ (l : List ShelfCall). l ++ reads name count piece ∷ []) so.row
          ∙ ap (λ (n : ℕ). reads_in_row name 0 so.pieces ++ reads name n piece ∷ []) there
          ∙ sym (row_behind name 0 so.pieces (piece ∷ []));
      some = All-append (λ (p : List ℕ). 1 ≤ length p) so.pieces (piece ∷ []) so.some (All-cons (λ (p : List ℕ). 1 ≤ length p) piece [] some (All-nil (λ (p : List ℕ). 1 ≤ length p)));
      many = ap length (concat-append so.pieces (piece ∷ [])) ∙ length-append (concat so.pieces) (piece ++ []) ∙ omega (arith, so.many, length-append piece []);
    }

-- behind the read of a piece, or of none
pub once_read : (name : List ℕ) (count : ℕ) (calls : List ShelfCall) (piece : List ℕ) → ReadsSoFar name count calls → ReadsOnce name (calls ++ reads name count piece ∷ [])
once_read name count calls [] so = record { count = count; front = calls; so_far = so; last = inr refl }
once_read name count calls (byte ∷ piece) so = record {
  count = count + length (byte ∷ piece);
  front = calls ++ reads name count (byte ∷ piece) ∷ [];
  so_far = so_far_more name count calls (byte ∷ piece) (omega arith) so;
  last = inl refl;
}

pub once_so_far : (name : List ℕ) (count : ℕ) (calls : List ShelfCall) → ReadsSoFar name count calls → ReadsOnce name calls
once_so_far name count calls so = record { count = count; front = calls; so_far = so; last = inl refl }

-- before the first call
pub read_none : (job : Job) → IsReadSo job stages.Waiting []
unfolding reads_in_row
read_none job = record { pieces = []; row = refl; some = All-nil (λ (p : List ℕ). 1 ≤ length p); many = refl }

-- ---- turns

pub all_more : (turns : List JobTurn) (turn : JobTurn) → all_calls (turns ++ turn ∷ []) ≡ all_calls turns ++ turn.calls
all_more [] turn = append-nil turn.calls
all_more (first ∷ turns) turn =
    ap (λ (l : List ShelfCall). first.calls ++ l) (all_more turns turn) ∙ sym (append_assoc first.calls (all_calls turns) turn.calls)

of_more : (k : ℕ) (turns : List JobTurn) (turn : JobTurn) → calls_of k (turns ++ turn ∷ []) ≡ calls_of k turns ++ (if turn.job == k then turn.calls else [])
of_more k [] turn = append-nil (if turn.job == k then turn.calls else [])
of_more k (first ∷ turns) turn =
    let here : List ShelfCall = if first.job == k then first.calls else [] in
    ap (λ (l : List ShelfCall). here ++ l) (of_more k turns turn) ∙ sym (append_assoc here (calls_of k turns) (if turn.job == k then turn.calls else []))

picked_none : (b : Bool) (calls : List ShelfCall) → b ≡ false → (if b then calls else []) ≡ []
picked_none true calls e = absurd cc
picked_none false calls e = refl

picked_all : (b : Bool) (calls : List ShelfCall) → b ≡ true → (if b then calls else []) ≡ calls
picked_all true calls e = refl
picked_all false calls e = absurd cc

other_job : (i k : ℕ) → k ≢ i → (i == k) ≡ false
other_job i k apart = elim (eqb_tells i k) [
  | inl same ↦ absurd (apart (sym same.1))
  | inr other ↦ other.0
]

-- a turn of this job
pub turns_here : (i : ℕ) (turns : List JobTurn) (calls : List ShelfCall) → calls_of i (turns ++ (record { job = i; calls = calls }) ∷ []) ≡ calls_of i turns ++ calls
turns_here i turns calls =
    of_more i turns (record { job = i; calls = calls }) ∙ ap (λ (l : List ShelfCall). calls_of i turns ++ l) (picked_all (i == i) calls (eq-eqb i i refl))

-- a turn of another
pub turns_there : (i k : ℕ) (turns : List JobTurn) (calls : List ShelfCall) → k ≢ i → calls_of k (turns ++ (record { job = i; calls = calls }) ∷ []) ≡ calls_of k turns
turns_there i k turns calls apart =
    of_more k turns (record { job = i; calls = calls }) ∙ ap (λ (l : List ShelfCall). calls_of k turns ++ l) (picked_none (i == k) calls (other_job i k apart))
    ∙ append-nil (calls_of k turns)
