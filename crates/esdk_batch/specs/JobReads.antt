-- How a job reads its file, as the calls of the shelf tell it: in a row from its front, and not on
-- behind its end.
use Rattle.std.specs.Prelude.{◌≡◌, ◌⊎◌, ◌≤◌, ℕ, Bool, false, List, [], ◌∷◌, ◌++◌, length}
use Rattle.std.specs.Prelude.{All, ◌==◌, if◌then◌else◌}
use Rattle.std.specs.List.{concat, filter}
use Rattle.std.specs.Str.{bytes_eq}
use Rattle.esdk_seen.specs.Calls.{ShelfCall, announces, appends, creates, finishes, reads}
use Rattle.whole_input.specs.FileReads.{reads_in_row}
use Rattle.job_file.specs.declared.job.Job.{Job}
use Rattle.esdk_batch.specs.declared.progress.Progress.{Progress}
use Rattle.esdk_batch.specs.declared.progress.Progress.TheVariants as stages

-- it reads the file of this name
abbrev pub is_read_of : List ℕ → ShelfCall → Bool
is_read_of name (reads other at bytes) = bytes_eq other name
is_read_of name (creates other) = false
is_read_of name (appends other bytes) = false
is_read_of name (announces other) = false
is_read_of name (finishes other whom) = false

-- the calls that read the file of this name
abbrev pub reads_of : List ℕ → List ShelfCall → List ShelfCall
reads_of name made = filter (is_read_of name) made

-- The calls read the file of this name in a row from its front: each gave something, and all of
-- them so many bytes.
pub record ReadsSoFar (name : List ℕ) (count : ℕ) (calls : List ShelfCall) : Type 0 where
  pub pieces : List (List ℕ)
  pub row : calls ≡ reads_in_row name 0 pieces
  pub some : All (λ piece. 1 ≤ length piece) pieces
  pub many : length (concat pieces) ≡ count

-- So do they; or so do all but the last, which reads on from there and gave nothing, since the file
-- ends there.
pub record ReadsOnce (name : List ℕ) (calls : List ShelfCall) : Type 0 where
  pub count : ℕ
  pub front : List ShelfCall
  pub so_far : ReadsSoFar name count front
  pub last : (calls ≡ front) ⊎ (calls ≡ front ++ reads name count [] ∷ [])

-- by these calls a job that is so far read its file
abbrev pub IsReadSo : Job → Progress → List ShelfCall → Type 0
IsReadSo job stages.Waiting made = ReadsSoFar job.from 0 (reads_of job.from made)
IsReadSo job (stages.Live live) made = ReadsSoFar job.from live.at (reads_of job.from made)
IsReadSo job (stages.Ended line) made = ReadsOnce job.from (reads_of job.from made)

-- ---- turns

-- calls that one job made, in one of its turns: the index of the job, and the calls
pub record JobTurn : Type 0 where
  pub job : ℕ
  pub calls : List ShelfCall

-- the calls of all turns, in their order
abbrev pub all_calls : List JobTurn → List ShelfCall
all_calls [] = []
all_calls (turn ∷ turns) = turn.calls ++ all_calls turns

-- those of the turns of one job
abbrev pub calls_of : ℕ → List JobTurn → List ShelfCall
calls_of job [] = []
calls_of job (turn ∷ turns) =
    (if turn.job == job then turn.calls else []) ++ calls_of job turns

-- a job that was opened just now stands at the front of its file, or it ended
abbrev pub IsAtFront : Progress → Type 0
IsAtFront stages.Waiting = ⊥
IsAtFront (stages.Live live) = live.at ≡ 0
IsAtFront (stages.Ended line) = Unit {0}
