-- What a batch's report shows of the limits of its cache.
use Rattle.std.proofs.Common.{◌≡◌, ◌≤◌, ◌∙◌, ℕ, suc, ◌+◌, List, [], ◌∷◌, length, None, Some, refl, sym, ap, subst, arith}
use Rattle.std.specs.Prelude.{IfSome, ◌&&◌, All, map, zip, filter_map, option_map, sum_by, if◌then◌else◌}
use Rattle.std.specs.declared.option.Option.{Option}
use Rattle.std.specs.List.{cons_option}
use Rattle.std.proofs.lemmas.List.Elements.{All-cons, All-head, All-map, All-nil, All-tail}
use Rattle.std.proofs.lemmas.List.Sorted.{All-permutation, IsPermutation-sym, sum_by-IsPermutation}
use Rattle.std.proofs.lemmas.List.Sums.{sum_by-cons}
use Rattle.esdk_base.specs.Shelf.{Files}
use Rattle.keyring_trait.specs.declared.journal.JournalLine.{JournalLine}
use Rattle.keyring_trait.specs.declared.journal.Kind.{Kind}
use Rattle.keyring_trait.specs.declared.journal.Kind.TheVariants.{Seal, Unseal}
use Rattle.keyring_trait.specs.declared.served.Served.{Served}
use Rattle.keyring_trait.specs.declared.served.Served.TheVariants.{Direct}
use Rattle.cmm_caching.specs.Journal.{KeepsWithin, is_sealing, names, seal_bytes, seals}
use Rattle.cmm_caching.specs.Limits.{LimitsValue}
use Rattle.cmm_caching.specs.Store.{use_bytes}
use Rattle.job_file.specs.declared.job.Job.{Job}
use Rattle.batch_report.specs.declared.job_lines.JobLine.{JobLine}
use Rattle.esdk_batch.specs.Batch.{AllCome, ManagerAnswer, SaysWhatWasServed, in_line, in_report, length_of}
use Rattle.keyring_trait.specs.Saying.{Saying}
use Rattle.esdk_run.specs.Served.{AreServedWithin, bytes_shown, seals_shown, seals_under, shows_number}

-- each job has a line
pub each_has_a_line : (manager : Saying) (before after : Option Files) (jobs : List Job) (drawn : List (List ℕ)) (lines : List JobLine)
    → AllCome manager before after jobs drawn lines → length lines ≡ length jobs
each_has_a_line manager before after [] [] [] all = refl
each_has_a_line manager before after (job ∷ jobs) (drawn ∷ draws) (line ∷ lines) all = ap suc (each_has_a_line manager before after jobs draws lines all.1)
each_has_a_line manager before after jobs drawn lines all = absurd all

-- ---- an answer that a line shows

-- what a line shows of an answer, of a job of this kind and with this declared length
abbrev answer_of : Kind → Option ℕ → Option Served → Option ManagerAnswer
answer_of kind size served = option_map (λ s. record { kind = kind; served = s; length = size }) served

abbrev IsDirect : ManagerAnswer → Type 0
IsDirect answer = answer.served ≡ Direct

direct_first : (kind : Kind) (size : Option ℕ) (served : Option Served) (rest : List ManagerAnswer) → All IsDirect (cons_option (answer_of kind size served) rest)
    → IfSome served (λ s. s ≡ Direct) × All IsDirect rest
direct_first kind size None rest all = (tt, all)
direct_first kind size (Some s) rest all = (All-head IsDirect _ rest all, All-tail IsDirect (record { kind = kind; served = s; length = size }) rest all)

direct_lines : (manager : Saying) (before after : Option Files) (jobs : List Job) (drawn : List (List ℕ)) (lines : List JobLine)
    → AllCome manager before after jobs drawn lines → All IsDirect (filter_map in_report (zip jobs lines)) → All (λ line. IfSome line.served (λ served. served ≡ Direct)) lines
direct_lines manager before after [] [] [] all direct = All-nil (λ line. IfSome line.served (λ served. served ≡ Direct))
direct_lines manager before after (job ∷ jobs) (drawn ∷ draws) (line ∷ lines) all direct =
    let parts : IfSome line.served (λ s. s ≡ Direct) × All IsDirect (filter_map in_report (zip jobs lines)) =
    direct_first line.kind (length_of job.work) line.served (filter_map in_report (zip jobs lines)) direct in
    All-cons (λ line. IfSome line.served (λ served. served ≡ Direct)) line lines parts.0 (direct_lines manager before after jobs draws lines all.1 parts.1)
direct_lines manager before after jobs drawn lines all direct = absurd all

-- ---- sums

-- what an answer adds to a sum, where there is one
abbrev worth : (ManagerAnswer → ℕ) → Kind → Option ℕ → Option Served → ℕ
worth f kind size None = 0
worth f kind size (Some s) = f (record { kind = kind; served = s; length = size })

sum_first : (f : ManagerAnswer → ℕ) (kind : Kind) (size : Option ℕ) (served : Option Served) (rest : List ManagerAnswer)
    → sum_by f (cons_option (answer_of kind size served) rest) ≡ worth f kind size served + sum_by f rest
sum_first f kind size None rest = omega arith
sum_first f kind size (Some s) rest = sum_by-cons f (record { kind = kind; served = s; length = size }) rest

sum_shown : (f : ManagerAnswer → ℕ) (g : Job × JobLine → ℕ) → ((pair : Job × JobLine) → worth f pair.1.kind (length_of pair.0.work) pair.1.served ≡ g pair)
    → (pairs : List (Job × JobLine)) → sum_by f (filter_map in_report pairs) ≡ sum_by g pairs
sum_shown f g same [] = refl
sum_shown f g same (pair ∷ pairs) =
    let first : sum_by f (cons_option (answer_of pair.1.kind (length_of pair.0.work) pair.1.served) (filter_map in_report pairs))
    ≡ worth f pair.1.kind (length_of pair.0.work) pair.1.served + sum_by f (filter_map in_report pairs) =
    sum_first f pair.1.kind (length_of pair.0.work) pair.1.served (filter_map in_report pairs) in
    first ∙ (λ i. same pair i + sum_shown f g same pairs i) ∙ sym (sum_by-cons g pair pairs)

sum_lines : (f : ManagerAnswer → ℕ) (lines : List JournalLine) → sum_by f (map in_line lines) ≡ sum_by (λ line. f (in_line line)) lines
sum_lines f [] = refl
sum_lines f (line ∷ lines) =
    sum_by-cons f (in_line line) (map in_line lines) ∙ ap (λ (n : ℕ). f (in_line line) + n) (sum_lines f lines) ∙ sym (sum_by-cons (λ l. f (in_line l)) line lines)

-- the sum over the journal is that over the report
sum_served : (f : ManagerAnswer → ℕ) (g : Job × JobLine → ℕ) (jobs : List Job) (lines : List JobLine) (gained : List JournalLine)
    → ((pair : Job × JobLine) → worth f pair.1.kind (length_of pair.0.work) pair.1.served ≡ g pair) → SaysWhatWasServed jobs lines gained
    → sum_by g (zip jobs lines) ≡ sum_by (λ line. f (in_line line)) gained
sum_served f g jobs lines gained same served =
    sym (sum_shown f g same (zip jobs lines)) ∙ sym (sum_by-IsPermutation f (filter_map in_report (zip jobs lines)) (map in_line gained) served) ∙ sum_lines f gained

-- ---- encryptions with one number

abbrev counts : ℕ → ManagerAnswer → ℕ
counts n answer = if is_sealing answer.kind && names n answer.served then 1 else 0

abbrev counts_bytes : ℕ → ManagerAnswer → ℕ
counts_bytes n answer = if is_sealing answer.kind && names n answer.served then use_bytes answer.length else 0

count_worth : (n : ℕ) (kind : Kind) (size : Option ℕ) (served : Option Served)
    → worth (counts n) kind size served ≡ (if is_sealing kind && shows_number n served then 1 else 0)
count_worth n Seal size None = refl
count_worth n Unseal size None = refl
count_worth n kind size (Some s) = refl

bytes_worth : (n : ℕ) (kind : Kind) (size : Option ℕ) (served : Option Served)
    → worth (counts_bytes n) kind size served ≡ (if is_sealing kind && shows_number n served then use_bytes size else 0)
bytes_worth n Seal size None = refl
bytes_worth n Unseal size None = refl
bytes_worth n kind size (Some s) = refl

seals_counted : (n : ℕ) (jobs : List Job) (lines : List JobLine) (gained : List JournalLine) → SaysWhatWasServed jobs lines gained → seals_shown n jobs lines ≡ seals n gained
seals_counted n jobs lines gained served =
    sum_served (counts n) (λ pair. if seals_under n pair.1 then 1 else 0) jobs lines gained (λ pair. count_worth n pair.1.kind (length_of pair.0.work) pair.1.served) served

bytes_counted : (n : ℕ) (jobs : List Job) (lines : List JobLine) (gained : List JournalLine) → SaysWhatWasServed jobs lines gained → bytes_shown n jobs lines ≡ seal_bytes n gained
bytes_counted n jobs lines gained served =
    sum_served (counts_bytes n) (λ pair. if seals_under n pair.1 then use_bytes (length_of pair.0.work) else 0) jobs lines gained
    (λ pair. bytes_worth n pair.1.kind (length_of pair.0.work) pair.1.served) served

-- ---- the limits

-- a journal within the limits is shown by a report within them
pub shows_limits : (cache : Option LimitsValue) (manager : Saying) (before after : Option Files) (jobs : List Job) (drawn : List (List ℕ)) (lines : List JobLine) (gained : List JournalLine)
    → AllCome manager before after jobs drawn lines → SaysWhatWasServed jobs lines gained → KeepsWithin cache gained → AreServedWithin cache jobs lines
shows_limits None manager before after jobs drawn lines gained all served within =
    direct_lines manager before after jobs drawn lines all
    (All-permutation IsDirect (map in_line gained) (filter_map in_report (zip jobs lines)) (IsPermutation-sym _ _ served) (All-map IsDirect in_line gained within))
shows_limits (Some limits) manager before after jobs drawn lines gained all served within = λ n. (
  subst (λ (count : ℕ). count ≤ limits.messages) (sym (seals_counted n jobs lines gained served)) (within.messages n),
  subst (λ (count : ℕ). count ≤ limits.bytes) (sym (bytes_counted n jobs lines gained served)) (within.bytes n),
)
