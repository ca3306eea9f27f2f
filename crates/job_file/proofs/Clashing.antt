-- Names that clash, job by job.
use Rattle.std.proofs.Common.{◌≡◌, ◌<◌, ◌≤◌, ◌+◌, ℕ, Bool, false, true, List, [], ◌∷◌, ◌++◌, length, take, drop, get_or, sym, ap, ◌∙◌}
use Rattle.std.specs.Prelude.{◌||◌, Some, None}
use Rattle.std.proofs.lemmas.List.{drop_all, drop_more, take_more}
use Rattle.context_codec.specs.KeySet.{has}
use Rattle.job_file.specs.declared.job.Job.{Job}
use Rattle.job_file.specs.JobFile.{is_written}
use Rattle.job_file.specs.Jobs.{clash_among}

module _ (names : List (List ℕ)) (jobs : List Job) (i : ℕ) (job : Job) (name : List ℕ) (test : Bool) (lt : i < length jobs) (is : job ≡ get_or jobs i job) (named : name ≡ job.to)
    (tested : test ≡ (has names name || is_written (take i jobs) name)) where
  -- the job at the index, and those behind it
  left_from : drop i jobs ≡ job ∷ drop (i + 1) jobs
  left_from = drop_more jobs i job lt ∙ ap (λ x. x ∷ drop (i + 1) jobs) (sym is)

  test_of : (has names job.to || is_written (take i jobs) job.to) ≡ test
  test_of = ap (λ name. has names name || is_written (take i jobs) name) (sym named) ∙ sym tested

  -- its name doesn't clash
  pub clash_later : test ≡ false → clash_among names (take i jobs) (drop i jobs) ≡ clash_among names (take (i + 1) jobs) (drop (i + 1) jobs)
  unfolding clash_among
  clash_later apart =
      let e = test_of ∙ apart in
      ap (clash_among names (take i jobs)) left_from
      ∙ rw e (ap (λ earlier. clash_among names earlier (drop (i + 1) jobs)) (ap (λ x. take i jobs ++ x ∷ []) is ∙ sym (take_more jobs i job lt)))

  -- its name clashes
  pub clash_here : test ≡ true → clash_among names (take i jobs) (drop i jobs) ≡ Some name
  unfolding clash_among
  clash_here clash =
      let e = test_of ∙ clash in
      ap (clash_among names (take i jobs)) left_from ∙ rw e (ap (λ name. Some name) (sym named))

pub clash_nowhere : (names : List (List ℕ)) (jobs : List Job) (i : ℕ) → length jobs ≤ i → clash_among names (take i jobs) (drop i jobs) ≡ None
unfolding clash_among
clash_nowhere names jobs i past = ap (clash_among names (take i jobs)) (drop_all i jobs past)
