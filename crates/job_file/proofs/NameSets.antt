-- Sets of names, with one name more after the other.
use Rattle.std.proofs.Common.{◌≡◌, ◌<◌, ◌≤◌, ◌+◌, ℕ, Bool, true, false, List, [], ◌∷◌, Bor, map, take, length, get_or, nat_cmp, is_eq, cond, refl, sym, ap, ◌∙◌}
use Rattle.std.specs.Prelude.{◌||◌, bytes_eq}
use Rattle.std.specs.BTreeSet.{BTreeSet, contains, Updates}
use Rattle.std.specs.Cmp.Lexicographic.{slice_cmp}
use Rattle.std.specs.List.{list_any}
use Rattle.std.proofs.Math.Bool.{or_comm}
use Rattle.std.proofs.lemmas.Cmp.{nat_list_eq_equiv}
use Rattle.std.proofs.lemmas.List.{take_all}
use Rattle.std.proofs.lemmas.List.Folds.{list_any_more}
use Rattle.std.proofs.lemmas.Map.Text.{is_eq-slice_cmp}
use Rattle.context_codec.specs.KeySet.{has}
use Rattle.job_file.specs.declared.job.Job.{Job}
use Rattle.job_file.specs.Found.{HasThose}
use Rattle.job_file.specs.JobFile.{is_written}
use Rattle.job_file.specs.Jobs.{read_names}

-- the set with one name more, in the order of the bytes
abbrev Adds : BTreeSet (Bor (List ℕ)) → BTreeSet (Bor (List ℕ)) → Bor (List ℕ) → Type 0
Adds old new name = Updates (λ one other. slice_cmp nat_cmp one.now other.now) old new name true

cond_or : (a b : Bool) → cond a true b ≡ (a || b)
cond_or true b = refl
cond_or false b = refl

same_name : (one other : List ℕ) → is_eq (slice_cmp nat_cmp one other) ≡ bytes_eq other one
same_name one other = is_eq-slice_cmp one other ∙ nat_list_eq_equiv.symm one other

-- the test of a set with one name more
those_and : (old new : BTreeSet (Bor (List ℕ))) (name : Bor (List ℕ)) (test : List ℕ → Bool) → HasThose old test
    → Adds old new name → HasThose new (λ other. bytes_eq other name.now || test other)
those_and old new name test those added other =
    added.0 other
    ∙ cond_or (is_eq (slice_cmp nat_cmp name.now other.now)) (contains (λ one other. slice_cmp nat_cmp one.now other.now) old other)
    ∙ ap (λ b. b || contains (λ one other. slice_cmp nat_cmp one.now other.now) old other) (same_name name.now other.now)
    ∙ ap (λ b. bytes_eq other.now name.now || b) (those other)

-- ---- jobs, one after the other

module _ (jobs : List Job) (i : ℕ) (job : Job) (lt : i < length jobs) (is : job ≡ get_or jobs i job) where
  -- the test of this job, or of one before it
  one_more : (test : Job → Bool) → (test job || list_any test (take i jobs)) ≡ list_any test (take (i + 1) jobs)
  one_more test = or_comm (test job) (list_any test (take i jobs)) ∙ ap (λ x. list_any test (take i jobs) || test x) is ∙ sym (list_any_more test jobs i job lt)

  pub read_more : (old new : BTreeSet (Bor (List ℕ))) (name : Bor (List ℕ)) → name.now ≡ job.from → HasThose old (λ other. list_any (λ job. bytes_eq other job.from) (take i jobs))
      → Adds old new name → HasThose new (λ other. list_any (λ job. bytes_eq other job.from) (take (i + 1) jobs))
  read_more old new name named those added other =
      those_and old new name (λ other. list_any (λ job. bytes_eq other job.from) (take i jobs)) those added other
      ∙ ap (λ name. bytes_eq other.now name || list_any (λ job. bytes_eq other.now job.from) (take i jobs)) named
      ∙ one_more (λ job. bytes_eq other.now job.from)

  pub written_more : (names : List (List ℕ)) (old new : BTreeSet (Bor (List ℕ))) (name : Bor (List ℕ)) → name.now ≡ job.to → HasThose old (λ other. has names other || is_written (take i jobs) other)
      → Adds old new name → HasThose new (λ other. has names other || is_written (take (i + 1) jobs) other)
  written_more names old new name named those added other =
      those_and old new name (λ other. has names other || is_written (take i jobs) other) those added other
      ∙ ap (λ name. bytes_eq other.now name || (has names other.now || is_written (take i jobs) other.now)) named
      ∙ turned (bytes_eq other.now job.to) (has names other.now) (is_written (take i jobs) other.now)
      ∙ ap (λ b. has names other.now || b) (one_more (λ job. bytes_eq other.now job.to))
    where
      turned : (a b c : Bool) → (a || (b || c)) ≡ (b || (a || c))
      turned true true c = refl
      turned true false c = refl
      turned false b c = refl

-- ---- the names that no job may write

read_by : (jobs : List Job) (name : List ℕ) → list_any (λ job. bytes_eq name job.from) jobs ≡ has (map (λ job. job.from) jobs) name
read_by [] name = refl
read_by (job ∷ jobs) name = ap (λ b. bytes_eq name job.from || b) (read_by jobs name)

-- those that all jobs read, then the keyring's, then the job file's own
pub all_read : (jobs : List Job) (i : ℕ) (own keyring : Bor (List ℕ)) (sources others all : BTreeSet (Bor (List ℕ))) → length jobs ≤ i
    → HasThose sources (λ name. list_any (λ job. bytes_eq name job.from) (take i jobs)) → Adds sources others keyring → Adds others all own
    → HasThose all (has (read_names own.now keyring.now jobs))
all_read jobs i own keyring sources others all past those keyed owned name =
    let read : HasThose sources (has (map (λ job. job.from) jobs)) = λ name. those name ∙ ap (list_any (λ job. bytes_eq name.now job.from)) (take_all i jobs past) ∙ read_by jobs name.now in
    those_and others all own (has (keyring.now ∷ map (λ job. job.from) jobs)) (those_and sources others keyring (has (map (λ job. job.from) jobs)) read keyed) owned name
