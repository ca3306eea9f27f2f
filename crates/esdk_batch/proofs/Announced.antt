-- A shelf that was told what jobs read.
use Rattle.std.proofs.Common.{◌≡◌, ◌∙◌, ℕ, ◌<◌, ◌≤◌, ◌+◌, List, [], ◌∷◌, ◌++◌, length, take, map, get_or, refl, sym, ap, subst, inl, inr, arith, append_assoc, append-nil, length-append}
use Rattle.std.specs.Prelude.{◌⊎◌, is_some}
use Rattle.std.specs.declared.option.Option.{Option}
use Rattle.std.specs.declared.option.Option.TheVariants.{Some}
use Rattle.std.specs.Option.{option_and_then}
use Rattle.std.proofs.lemmas.List.{drop_at, map_more}
use Rattle.esdk_seen.specs.Calls.{ShelfCall, announces}
use Rattle.esdk_base.specs.Shelf.{Files, file_of}
use Rattle.esdk_base.specs.Streams.{ShelfState}
use Rattle.whole_input.specs.FileReads.{Grows}
use Rattle.job_file.specs.declared.job.Job.{Job}
use Rattle.job_file.specs.JobFile.{is_written}
use Rattle.esdk_batch.specs.Batch.{OnlyWritten}
use Rattle.esdk_batch.specs.ShelfCalls.{AnnouncesFirst, announced}
use Rattle.esdk_batch.specs.Watching.{as_shown, behind_call, behind_calls, files_by}
use Rattle.esdk_batch.proofs.Watched.{some_same}

-- the calls that announce what each of these jobs reads
abbrev announcements : List Job → List ShelfCall
announcements jobs = map (λ job. announces job.from) jobs

-- ---- one job after another

shelf_as : (a b : ShelfState) → a.files ≡ b.files → a.given ≡ b.given → a.faults ≡ b.faults → a.calls ≡ b.calls → a ≡ b
shelf_as a b files given faults calls =
    subst (λ (l : List ShelfCall). a ≡ record { files = b.files; given = b.given; faults = b.faults; calls = l }) calls
    (subst (λ (n : ℕ). a ≡ record { files = b.files; given = b.given; faults = n; calls = a.calls }) faults
    (subst (λ (n : ℕ). a ≡ record { files = b.files; given = n; faults = a.faults; calls = a.calls }) given
    (subst (λ (f : Option Files). a ≡ record { files = f; given = a.given; faults = a.faults; calls = a.calls }) files refl)))

-- of no job
pub told_none : (shelf : ShelfState) → shelf ≡ announced [] shelf
told_none shelf = ap (λ (l : List ShelfCall). record shelf { calls = l }) (sym (append-nil shelf.calls))

-- nothing was told
pub told_same : (jobs : List Job) (old mid new : ShelfState) → mid ≡ announced jobs old → new.files ≡ mid.files → new.given ≡ mid.given → new.faults ≡ mid.faults → new.calls ≡ mid.calls
    → new ≡ announced jobs old
told_same jobs old mid new was files given faults calls = shelf_as new mid files given faults calls ∙ was

-- what the next job reads was told
pub told_more : (jobs : List Job) (i : ℕ) (job : Job) (name : List ℕ) (old mid new : ShelfState) → i < length jobs → job ≡ get_or jobs i job → name ≡ job.from → mid ≡ announced (take i jobs) old
    → new.files ≡ mid.files → new.given ≡ mid.given → new.faults ≡ mid.faults → new.calls ≡ mid.calls ++ announces name ∷ [] → new ≡ announced (take (i + 1) jobs) old
told_more jobs i job name old mid new within is named was files given faults calls =
    let those : List ShelfCall = announcements (take i jobs) in
    let one : announces name ≡ announces (get_or jobs i job).from = ap (λ (n : List ℕ). announces n) (named ∙ ap (λ (j : Job). j.from) is) in
    let all : those ++ announces name ∷ [] ≡ announcements (take (i + 1) jobs) =
    ap (λ (c : ShelfCall). those ++ c ∷ []) one ∙ sym (map_more (λ (j : Job). announces j.from) jobs i job within) in
    shelf_as new (announced (take (i + 1) jobs) old)
    (files ∙ ap (λ (s : ShelfState). s.files) was) (given ∙ ap (λ (s : ShelfState). s.given) was) (faults ∙ ap (λ (s : ShelfState). s.faults) was)
    (calls ∙ ap (λ (s : ShelfState). s.calls ++ announces name ∷ []) was ∙ append_assoc old.calls those (announces name ∷ []) ∙ ap (λ (l : List ShelfCall). old.calls ++ l) all)

-- memory ran out at the next job
pub told_some : (jobs : List Job) (i : ℕ) (job : Job) (name : List ℕ) (old mid new : ShelfState) → i < length jobs → job ≡ get_or jobs i job → name ≡ job.from → mid ≡ announced (take i jobs) old
    → new.files ≡ mid.files → new.given ≡ mid.given → new.faults ≡ mid.faults → (new.calls ≡ mid.calls) ⊎ (new.calls ≡ mid.calls ++ announces name ∷ [])
    → (count : ℕ) × (new ≡ announced (take count jobs) old)
told_some jobs i job name old mid new within is named was files given faults calls = elim calls [
  | inl same ↦ (i, told_same (take i jobs) old mid new was files given faults same)
  | inr told ↦ (i + 1, told_more jobs i job name old mid new within is named was files given faults told)
]

-- ---- the batch

pub told_as : (jobs file : List Job) (old new : ShelfState) → jobs ≡ file → new ≡ announced jobs old → new ≡ announced file old
told_as jobs file old new same told = told ∙ ap (λ (js : List Job). announced js old) same

-- no job was told of, and the shelf wasn't called
pub told_never : (jobs : List Job) (old new : ShelfState) → new ≡ old → AnnouncesFirst jobs old new
told_never jobs old new same = inl (0, same ∙ told_none old)

-- memory ran out meanwhile
pub told_front : (jobs file : List Job) (old new : ShelfState) → jobs ≡ file → (count : ℕ) × (new ≡ announced (take count jobs) old) → AnnouncesFirst file old new
told_front jobs file old new same told = inl (told.0, told.1 ∙ ap (λ (js : List Job). announced (take told.0 js) old) same)

-- the calls were only added to
pub told_grows : (jobs : List Job) (old new : ShelfState) (made : List ShelfCall) → new.calls ≡ (announced jobs old).calls ++ made → Grows old.calls new.calls
told_grows jobs old new made calls = (announcements jobs ++ made, calls ∙ append_assoc old.calls (announcements jobs) made)

pub first_grows : (jobs : List Job) (old new : ShelfState) → AnnouncesFirst jobs old new → Grows old.calls new.calls
first_grows jobs old new first = elim first [
  | inl told ↦ (announcements (take told.0 jobs), ap (λ (s : ShelfState). s.calls) told.1)
  | inr most ↦ told_grows jobs old new most.has.made most.has.calls
]

-- ---- the files stay

pub told_only : (jobs told : List Job) (old new : ShelfState) → new ≡ announced told old → OnlyWritten jobs old.files new.files
told_only jobs told old new same = λ name unwritten. ap (λ (s : ShelfState). file_of s.files name) same

pub only_behind : (jobs file told : List Job) (old mid new : ShelfState) → jobs ≡ file → mid ≡ announced told old → OnlyWritten jobs mid.files new.files → OnlyWritten file old.files new.files
only_behind jobs file told old mid new same first all = λ name unwritten.
    all name (ap (λ (js : List Job). is_written js name) same ∙ unwritten) ∙ ap (λ (s : ShelfState). file_of s.files name) first

pub still_told : (told : List Job) (old new : ShelfState) → new ≡ announced told old → is_some new.files ≡ is_some old.files
still_told told old new same = ap (λ (s : ShelfState). is_some s.files) same

-- ---- what is seen of them

pub told_longer : (jobs : List Job) (shelf : ShelfState) → length shelf.calls ≤ length (announced jobs shelf).calls
told_longer jobs shelf = omega (arith, length-append shelf.calls (announcements jobs))

announced_seen : (told : Option Files) (jobs : List Job) → behind_calls told (announcements jobs) ≡ told
announced_seen told [] = refl
announced_seen told (job ∷ jobs) = announced_seen (option_and_then (λ files. behind_call files (announces job.from)) told) jobs ∙ some_same told

-- behind the announcements the files are what they were before
pub told_seen : (before : Files) (jobs : List Job) (shelf : ShelfState) → files_by (as_shown (length shelf.calls) before) (announced jobs shelf) ≡ Some before
told_seen before jobs shelf =
    ap (behind_calls (Some before)) (drop_at shelf.calls (announcements jobs) (length shelf.calls) refl) ∙ announced_seen (Some before) jobs
