-- The sessions that are live beside those of the jobs stay as they are.
use Rattle.std.proofs.Common.{◌≡◌, ◌≢◌, ◌∙◌, ◌<◌, ℕ, zero, suc, Bool, true, false, cond, List, [], ◌∷◌, length, get_or, set, refl, sym, ap, subst, inl, inr, arith}
use Rattle.std.specs.Prelude.{All, Option, None, nat_eq}
use Rattle.std.specs.Map.{update}
use Rattle.std.proofs.lemmas.Bool.{cases_eq}
use Rattle.std.proofs.lemmas.List.Elements.{All-head, All-tail}
use Rattle.std.proofs.lemmas.Map.{update_apart, update_here}
use Rattle.desk_core.specs.Session.{SessionValue}
use Rattle.esdk_batch.specs.declared.progress.Progress.{Progress}
use Rattle.esdk_batch.specs.declared.progress.Progress.TheVariants as stages
use Rattle.esdk_batch.specs.Progress.{is_ended}
use Rattle.esdk_batch.specs.Underway.{sessions_beside}
use Rattle.esdk_batch.specs.Rounds.{beside_all}

-- ---- one session

module _ (live left : ℕ → Option SessionValue) (id : ℕ) (others : (other : ℕ) → other ≢ id → left other ≡ live other) where
  -- it isn't live any more
  pub rest_over : left id ≡ None → (session : ℕ) → left session ≡ update nat_eq live id None session
  rest_over none session = elim (cases_eq session id) [
    | inl same ↦ subst (λ (s : ℕ). left s ≡ update nat_eq live id None s) (sym same) (none ∙ sym (update_here live id None))
    | inr apart ↦ others session apart ∙ sym (update_apart live id None session apart)
  ]

  -- it is live still
  pub rest_on : (session : ℕ) → update nat_eq left id None session ≡ update nat_eq live id None session
  rest_on session = elim (cases_eq session id) [
    | inl same ↦ subst (λ (s : ℕ). update nat_eq left id None s ≡ update nat_eq live id None s) (sym same) (update_here left id None ∙ sym (update_here live id None))
    | inr apart ↦ update_apart left id None session apart ∙ others session apart ∙ sym (update_apart live id None session apart)
  ]

  -- it wasn't live before
  pub rest_begun : live id ≡ None → (session : ℕ) → update nat_eq left id None session ≡ live session
  rest_begun none session = elim (cases_eq session id) [
    | inl same ↦ subst (λ (s : ℕ). update nat_eq left id None s ≡ live s) (sym same) (update_here left id None ∙ sym none)
    | inr apart ↦ update_apart left id None session apart ∙ others session apart
  ]

  -- nor is it now
  pub rest_never : live id ≡ None → left id ≡ None → (session : ℕ) → left session ≡ live session
  rest_never none over session = elim (cases_eq session id) [
    | inl same ↦ subst (λ (s : ℕ). left s ≡ live s) (sym same) (over ∙ sym none)
    | inr apart ↦ others session apart
  ]

-- ---- the sessions of several jobs

beside_same : (one : Progress) (f g : ℕ → Option SessionValue) → ((s : ℕ) → f s ≡ g s) → (s : ℕ) → sessions_beside one f s ≡ sessions_beside one g s
beside_same stages.Waiting f g same s = same s
beside_same (stages.Live now) f g same s = ap (λ (o : Option SessionValue). cond (nat_eq now.session s) None o) (same s)
beside_same (stages.Ended line) f g same s = same s

cond_swap : (a b : Bool) (o : Option SessionValue) → cond a None (cond b None o) ≡ cond b None (cond a None o)
cond_swap true true o = refl
cond_swap true false o = refl
cond_swap false true o = refl
cond_swap false false o = refl

beside_swap : (one other : Progress) (f : ℕ → Option SessionValue) (s : ℕ) → sessions_beside one (sessions_beside other f) s ≡ sessions_beside other (sessions_beside one f) s
beside_swap stages.Waiting stages.Waiting f s = refl
beside_swap stages.Waiting (stages.Live now) f s = refl
beside_swap stages.Waiting (stages.Ended line) f s = refl
beside_swap (stages.Live now) stages.Waiting f s = refl
beside_swap (stages.Live now) (stages.Live other) f s = cond_swap (nat_eq now.session s) (nat_eq other.session s) (f s)
beside_swap (stages.Live now) (stages.Ended line) f s = refl
beside_swap (stages.Ended line) stages.Waiting f s = refl
beside_swap (stages.Ended line) (stages.Live now) f s = refl
beside_swap (stages.Ended line) (stages.Ended other) f s = refl

beside_all_same : (progress : List Progress) (f g : ℕ → Option SessionValue) → ((s : ℕ) → f s ≡ g s) → (s : ℕ) → beside_all progress f s ≡ beside_all progress g s
beside_all_same [] f g same s = same s
beside_all_same (one ∷ progress) f g same s = beside_same one (beside_all progress f) (beside_all progress g) (beside_all_same progress f g same) s

beside_through : (one : Progress) (progress : List Progress) (f : ℕ → Option SessionValue) (s : ℕ) → sessions_beside one (beside_all progress f) s ≡ beside_all progress (sessions_beside one f) s
beside_through one [] f s = refl
beside_through one (other ∷ progress) f s =
    beside_swap one other (beside_all progress f) s ∙ beside_same other (sessions_beside one (beside_all progress f)) (beside_all progress (sessions_beside one f)) (beside_through one progress f) s

-- a turn of the job at a place
pub rest_set : (progress : List Progress) (i : ℕ) (old new : Progress) (live left : ℕ → Option SessionValue) → i < length progress → old ≡ get_or progress i old
    → ((s : ℕ) → sessions_beside new left s ≡ sessions_beside old live s) → (s : ℕ) → beside_all (set progress i new) left s ≡ beside_all progress live s
rest_set [] i old new live left within was turn s = absurd (omega (arith, within))
rest_set (one ∷ progress) zero old new live left within was turn s =
    beside_through new progress left s ∙ beside_all_same progress (sessions_beside new left) (sessions_beside old live) turn s ∙ sym (beside_through old progress live s)
    ∙ ap (λ (p : Progress). sessions_beside p (beside_all progress live) s) was
rest_set (one ∷ progress) (suc i) old new live left within was turn s =
    beside_same one (beside_all (set progress i new) left) (beside_all progress live) (rest_set progress i old new live left (omega (arith, within)) was turn) s

-- no job had a turn
pub rest_waits : (progress : List Progress) (live : ℕ → Option SessionValue) → All (λ one. one ≡ stages.Waiting) progress → (s : ℕ) → beside_all progress live s ≡ live s
rest_waits [] live wait s = refl
rest_waits (one ∷ progress) live wait s =
    ap (λ (p : Progress). sessions_beside p (beside_all progress live) s) (All-head (λ (p : Progress). p ≡ stages.Waiting) one progress wait)
    ∙ rest_waits progress live (All-tail (λ (p : Progress). p ≡ stages.Waiting) one progress wait) s

ended_rest : (one : Progress) (f : ℕ → Option SessionValue) (s : ℕ) → is_ended one ≡ true → sessions_beside one f s ≡ f s
ended_rest stages.Waiting f s ended = absurd cc
ended_rest (stages.Live now) f s ended = absurd cc
ended_rest (stages.Ended line) f s ended = refl

-- every job ended
pub rest_ended : (progress : List Progress) (live : ℕ → Option SessionValue) → All (λ one. is_ended one ≡ true) progress → (s : ℕ) → beside_all progress live s ≡ live s
rest_ended [] live ended s = refl
rest_ended (one ∷ progress) live ended s =
    ended_rest one (beside_all progress live) s (All-head (λ (p : Progress). is_ended p ≡ true) one progress ended)
    ∙ rest_ended progress live (All-tail (λ (p : Progress). is_ended p ≡ true) one progress ended) s
