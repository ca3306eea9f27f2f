-- What a job file means, or why it is refused.
use Rattle.std.specs.Prelude.{ℕ, ◌+◌, ◌||◌, List, [], ◌∷◌, ◌++◌, map, Option, Some, None, Result}
use Rattle.std.specs.Prelude.{Ok, Err, if◌then◌else◌}
use Rattle.esdk_fields.specs.declared.refusals.FileRefusal.{FileRefusal}
use Rattle.esdk_fields.specs.declared.refusals.FileRefusal.TheVariants.{NotJson, BadShape}
use Rattle.esdk_fields.specs.declared.refusals.FileRefusal.TheVariants.{NamesClash}
use Rattle.serde_json.specs.Data.{Data, Items, no_items, item}
use Rattle.context_codec.specs.KeySet.{has}
use Rattle.json_values.specs.Values.{json_value}
use Rattle.job_file.specs.declared.job.Job.{Job}
use Rattle.job_file.specs.JobFile.{JobFile, is_written}
use Rattle.job_file.specs.JobForm.{JobFileHead, job_file_head, job_of}

-- where there is a value, the reading that it chooses goes on
abbrev pub then_made : {A B : Type 0} → Result A FileRefusal → (A → Result B FileRefusal)
    → Result B FileRefusal
then_made (Ok x) next = next x
then_made (Err refusal) next = Err refusal

infixl 10 ◌>>=◌
abbrev pub ◌>>=◌ : {A B : Type 0} → Result A FileRefusal → (A → Result B FileRefusal)
    → Result B FileRefusal
(found >>= next) = then_made found next

-- this value, if there is one; else this refusal
abbrev pub or_refuse : {A : Type 0} → FileRefusal → Option A → Result A FileRefusal
or_refuse refusal (Some x) = Ok x
or_refuse refusal None = Err refusal

-- What each of these items is read as; K2 at the first that has no form that is read, where the
-- first of all has this number.
unfoldable pub each_from : {A : Type 0} → (Data → Option A) → (number : ℕ) → Items
    → Result (List A) FileRefusal
each_from read number no_items = Ok []
each_from read number (item d ds) = do
  one ← or_refuse (BadShape number) (read d)
  others ← each_from read (number + 1) ds
  Ok (one ∷ others)

-- the jobs, of the two forms
abbrev pub jobs_from : (number : ℕ) → Items → Result (List Job) FileRefusal
jobs_from number items = each_from job_of number items

-- The first name, in the order of the jobs, that a job is to write although it is one of these
-- names, or an earlier job is to write it.
unfoldable pub clash_among : (names : List (List ℕ)) (earlier jobs : List Job) → Option (List ℕ)
clash_among names earlier [] = None
clash_among names earlier (job ∷ jobs) =
    if has names job.to || is_written earlier job.to then Some job.to
    else clash_among names (earlier ++ job ∷ []) jobs

-- the names that no job may write: the job file's own, the keyring's, and those that are read
abbrev pub read_names : List ℕ → List ℕ → List Job → List (List ℕ)
read_names own_name keyring jobs = own_name ∷ keyring ∷ map (λ job. job.from) jobs

-- the file of these jobs
abbrev pub job_file_of : JobFileHead → List Job → JobFile
job_file_of head jobs = record {
  keyring = head.keyring;
  width = head.width;
  piece = head.piece;
  cache = head.cache;
  jobs = jobs;
}

-- K9, if a name clashes
abbrev pub unless_clash : Option (List ℕ) → JobFile → Result JobFile FileRefusal
unless_clash None file = Ok file
unless_clash (Some name) file = Err (NamesClash name)

-- What the bytes of a job file of this name mean; or the first refusal: K1, where they are no JSON;
-- K2 with 0, where the file's own members have another form; K2 with the number of the first job
-- that has another form; K9, where a name clashes.
unfoldable pub jobs_of : (bytes own_name : List ℕ) → Result JobFile FileRefusal
jobs_of bytes own_name = do
  file ← or_refuse NotJson (json_value bytes)
  head ← or_refuse (BadShape 0) (job_file_head file)
  jobs ← jobs_from 1 head.jobs
  unless_clash (clash_among (read_names own_name head.keyring jobs) [] jobs) (job_file_of head jobs)
