-- What stands in a job file, with the members that it leaves out.
use Rattle.std.specs.Prelude.{◌≡◌, ◌≢◌, ◌≤◌, ℕ, ◌-◌, ◌^◌, Bool, true, false, List, length, All}
use Rattle.std.specs.Prelude.{AllPairs, Option, IfSome}
use Rattle.std.specs.List.{list_all, list_any}
use Rattle.std.specs.Str.{bytes_eq}
use Rattle.cmm_caching.specs.Limits.{LimitsValue, AreLimits}
use Rattle.context_codec.specs.Parts.{holds}
use Rattle.job_file.specs.declared.job.Job.{Job}
use Rattle.job_file.specs.declared.job.Work.{Work}
use Rattle.job_file.specs.declared.job.Work.TheVariants.{Encrypt, Decrypt}

-- The keyring file's name; how many jobs run at a time; how many bytes a turn reads; the limits of
-- the cache, where it is on; the jobs in their order.
pub record JobFile : Type 0 where
  pub keyring : List ℕ
  pub width : ℕ
  pub piece : ℕ
  pub cache : Option LimitsValue
  pub jobs : List Job

-- A declared length is below 2^63 and a frame has 1 to 2^32 - 1 bytes; the required keys are keys
-- of the context.
abbrev pub IsWork : Work → Type 0
IsWork (Encrypt length frame context required) =
    IfSome length (λ n. n ≤ 2 ^ 63 - 1) × (1 ≤ frame) × (list_all (holds context) required ≡ true)
IsWork (Decrypt given required) = list_all (holds given) required ≡ true

-- some job is to write this name
abbrev pub is_written : List Job → List ℕ → Bool
is_written jobs name = list_any (λ job. bytes_eq name job.to) jobs

-- What every job file keeps. No job writes what one reads, and no two jobs write one file.
pub record IsJobFile (file : JobFile) : Type 0 where
  pub wide : 1 ≤ file.width
  pub narrow : file.width ≤ 64
  pub some : 1 ≤ file.piece
  pub short : file.piece ≤ 65536
  pub limits : IfSome file.cache AreLimits
  pub jobs : 1 ≤ length file.jobs
  pub few : length file.jobs ≤ 1000
  pub fit : All (λ job. IsWork job.work) file.jobs
  pub unread : All (λ job. is_written file.jobs job.from ≡ false) file.jobs
  pub apart : AllPairs (λ one other. one.to ≢ other.to) file.jobs
