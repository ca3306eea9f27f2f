-- Jobs of which none writes what one reads, and no two write one file.
use Rattle.std.proofs.Common.{◌≡◌, ◌≢◌, ℕ, Bool, true, false, List, [], ◌∷◌, ◌++◌, map, refl, sym, ◌∙◌, arith}
use Rattle.std.specs.Prelude.{◌||◌, All, AllPairs, Option, Some, None, bytes_eq, if◌then◌else◌}
use Rattle.std.specs.Cmp.Lexicographic.{bytes_decides}
use Rattle.std.proofs.lemmas.List.Elements.{All-nil, All-cons, All-head, All-tail, All-weaker}
use Rattle.std.proofs.lemmas.List.Folds.{list_any_none, list_any-append}
use Rattle.std.proofs.lemmas.List.Kept.{AllPairs-cons}
use Rattle.context_codec.specs.KeySet.{has}
use Rattle.job_file.specs.declared.job.Job.{Job}
use Rattle.job_file.specs.JobFile.{is_written}
use Rattle.job_file.specs.Jobs.{clash_among, read_names}

-- ---- tests

neither : (a b : Bool) → (a || b) ≡ false → (a ≡ false) × (b ≡ false)
neither false b e = (refl, e)
neither true b e = absurd cc

passes : {A : Type 0} (test : Bool) (x : A) (rest : Option A) → (if test then Some x else rest) ≡ None → (test ≡ false) × (rest ≡ None)
passes true x rest e = absurd cc
passes false x rest e = (refl, e)

unlike : (x y : List ℕ) → bytes_eq x y ≡ false → x ≢ y
unlike x y e same = let is : bytes_eq x y ≡ true = (bytes_decides x y).1 same in cc

differs : (x y : List ℕ) (test : Bool) → bytes_eq x y ≡ test → x ≢ y → test ≡ false
differs x y true e apart = absurd (apart ((bytes_decides x y).0 e))
differs x y false e apart = refl

-- ---- names that are none of some

unlisted : (names : List (List ℕ)) (name : List ℕ) → has names name ≡ false → All (λ other. name ≢ other) names
unlisted [] name none = All-nil (λ other. name ≢ other)
unlisted (other ∷ names) name none =
    let both = neither (bytes_eq name other) (has names name) none in
    All-cons (λ other. name ≢ other) other names (unlike name other both.0) (unlisted names name both.1)

is_unwritten : (jobs : List Job) (name : List ℕ) → All (λ job. name ≢ job.to) jobs → is_written jobs name ≡ false
is_unwritten jobs name apart =
    list_any_none (λ job. bytes_eq name job.to) jobs
    (All-weaker (λ job. name ≢ job.to) (λ job. bytes_eq name job.to ≡ false) (λ job apart. differs name job.to (bytes_eq name job.to) refl apart) jobs apart)

-- a name that neither these jobs nor this one writes
unwritten_push : (earlier : List Job) (job : Job) (name : List ℕ) → is_written (earlier ++ job ∷ []) name ≡ false → (is_written earlier name ≡ false) × (job.to ≢ name)
unwritten_push earlier job name none =
    let both = neither (is_written earlier name) (bytes_eq name job.to || false) (sym (list_any-append (λ job. bytes_eq name job.to) earlier (job ∷ [])) ∙ none) in
    let last = neither (bytes_eq name job.to) false both.1 in (
      both.0,
      λ same. unlike name job.to last.0 (sym same),
    )

-- ---- jobs none of whose names clashes

record AreClear (names : List (List ℕ)) (earlier jobs : List Job) : Type 0 where
  unlisted : All (λ job. has names job.to ≡ false) jobs
  fresh : All (λ job. is_written earlier job.to ≡ false) jobs
  apart : AllPairs (λ one other. one.to ≢ other.to) jobs

clear : (names : List (List ℕ)) (earlier jobs : List Job) → clash_among names earlier jobs ≡ None → AreClear names earlier jobs
unfolding clash_among
clear names earlier [] none = record {
  unlisted = All-nil (λ job. has names job.to ≡ false);
  fresh = All-nil (λ job. is_written earlier job.to ≡ false);
  apart = λ i j d before within. absurd (omega arith);
}
clear names earlier (job ∷ jobs) none =
    let here = passes (has names job.to || is_written earlier job.to) job.to (clash_among names (earlier ++ job ∷ []) jobs) none in
    let both = neither (has names job.to) (is_written earlier job.to) here.0 in
    let rest = clear names (earlier ++ job ∷ []) jobs here.1 in
    record {
      unlisted = All-cons (λ job. has names job.to ≡ false) job jobs both.0 rest.unlisted;
      fresh = All-cons (λ job. is_written earlier job.to ≡ false) job jobs both.1
          (All-weaker (λ other. is_written (earlier ++ job ∷ []) other.to ≡ false) (λ other. is_written earlier other.to ≡ false) (λ other fresh. (unwritten_push earlier job other.to fresh).0) jobs rest.fresh);
      apart = AllPairs-cons (λ one other. one.to ≢ other.to) job jobs
          (All-weaker (λ other. is_written (earlier ++ job ∷ []) other.to ≡ false) (λ other. job.to ≢ other.to) (λ other fresh. (unwritten_push earlier job other.to fresh).1) jobs rest.fresh)
          rest.apart;
    }

pub written_apart : (names : List (List ℕ)) (jobs : List Job) → clash_among names [] jobs ≡ None → AllPairs (λ one other. one.to ≢ other.to) jobs
written_apart names jobs none = (clear names [] jobs none).apart

from_sources : (P : List ℕ → Type 0) (jobs : List Job) → All P (map (λ job. job.from) jobs) → All (λ job. P job.from) jobs
from_sources P [] all = All-nil (λ (job : Job). P job.from)
from_sources P (job ∷ jobs) all =
    All-cons (λ job. P job.from) job jobs (All-head P job.from (map (λ job. job.from) jobs) all) (from_sources P jobs (All-tail P job.from (map (λ job. job.from) jobs) all))

-- no job writes what one reads
unread_by : (own keyring name : List ℕ) (jobs : List Job) → has (read_names own keyring jobs) name ≡ false → All (λ job. name ≢ job.from) jobs
unread_by own keyring name jobs none =
    let sources = map (λ job. job.from) jobs in
    let later = unlisted (read_names own keyring jobs) name none in
    from_sources (λ other. name ≢ other) jobs
    (All-tail (λ other. name ≢ other) keyring sources (All-tail (λ other. name ≢ other) own (keyring ∷ sources) later))

pub reads_apart : (own keyring : List ℕ) (jobs : List Job) → clash_among (read_names own keyring jobs) [] jobs ≡ None → All (λ job. is_written jobs job.from ≡ false) jobs
reads_apart own keyring jobs none = λ k d within.
    let all = (clear (read_names own keyring jobs) [] jobs none).unlisted in
    is_unwritten jobs _ (λ i e below same. unread_by own keyring _ jobs (all i e below) k d within (sym same))
