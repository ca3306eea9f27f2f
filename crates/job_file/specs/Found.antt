-- What the code finds, where it stands in the file.
use Rattle.std.specs.Prelude.{◌≡◌, ◌≤◌, ℕ, List, length, Bool, true, false, Option, Some, None}
use Rattle.std.specs.Prelude.{IfSome, Result, Ok, Err}
use Rattle.std.specs.Borrow.{Bor}
use Rattle.std.specs.BTreeSet.{BTreeSet, contains}
use Rattle.std.specs.Cmp.Lexicographic.{slice_cmp}
use Rattle.std.specs.Ordering.{nat_cmp}
use Rattle.esdk_fields.specs.declared.refusals.FileRefusal.{FileRefusal}
use Rattle.serde_json.specs.View.{items_view}
use Rattle.cmm_caching.specs.Limits.{AreLimits}
use Rattle.json_values.specs.declared.errors.ReadError.{ReadError}
use Rattle.json_values.specs.declared.errors.ReadError.TheVariants.{File, Memory}
use Rattle.job_file.specs.declared.head.Head as head
use Rattle.job_file.specs.JobForm.{JobFileHead}

-- what a file says of itself
abbrev pub head_value : head.Head → JobFileHead
head_value h = record {
  keyring = h.keyring.now;
  width = h.width;
  piece = h.piece;
  cache = h.cache;
  jobs = items_view h.jobs.now;
}

-- this value, where the test says so
abbrev pub only_if : {A : Type 0} → Bool → A → Option A
only_if true x = Some x
only_if false x = None

-- What a head of a job file keeps.
pub record IsHead (h : head.Head) : Type 0 where
  pub wide : 1 ≤ h.width
  pub narrow : h.width ≤ 64
  pub some : 1 ≤ h.piece
  pub short : h.piece ≤ 65536
  pub limits : IfSome h.cache AreLimits
  pub jobs : 1 ≤ length h.jobs.now
  pub few : length h.jobs.now ≤ 1000

-- What this value means, or this refusal; want of memory may come at any time.
abbrev pub MeansThis : {A B : Type 0} → (A → B) → Result A ReadError → Result B FileRefusal → Type 0
MeansThis means (Ok x) reading = reading ≡ Ok (means x)
MeansThis means (Err (File refusal)) reading = reading ≡ Err refusal
MeansThis means (Err Memory) reading = Unit {0}

-- The set has the names that pass this test, and no others.
abbrev pub HasThose : BTreeSet (Bor (List ℕ)) → (List ℕ → Bool) → Type 0
HasThose set test = (name : Bor (List ℕ))
    → contains (λ one other. slice_cmp nat_cmp one.now other.now) set name ≡ test name.now
