-- A step ends at the first stop.
use Rattle.std.proofs.Common.{◌≡◌, ℕ, get_or, ◌+◌, ◌-◌, ◌<◌, ◌≤◌, ◌⊎◌, Bool, true, false, not, List, length, min, Ok, Err, refl, sym, ap, subst, ◌∙◌, arith, inl, inr}
use Rattle.std.specs.List.{prefix_len, range_with_len}
use Rattle.std.proofs.lemmas.Bool.{cases_lt}
use Rattle.std.proofs.lemmas.List.Sums.{prefix_len-le-length, prefix_len_passes, prefix_len_stops}
use Rattle.std.proofs.lemmas.List.FromFn.{length-range_with_len, get_or-range_with_len}
use Rattle.stream_open.specs.declared.errors.OpenError.TheVariants as errors
use Rattle.stream_open.specs.Asking.{Heard, Nothing, Found, Named, Failed}
use Rattle.stream_open.specs.Session.{OpeningValue, judged_with, keeping, is_stop, reach, answer_on, opening_step_answer}
use Rattle.stream_open.specs.Laws.{FirstStopIsAt, EndsExactly}
use Rattle.stream_open.proofs.AnyCut.{ok_at, on_going}

-- ---- the first number from 1 on that a test stops at

pub record FirstStop (stop : ℕ → Bool) (most n : ℕ) : Type 0 where
  pub within : n ≤ most
  pub some : 1 ≤ most → 1 ≤ n
  pub before : (k : ℕ) → 1 ≤ k → k < n → stop k ≡ false
  pub here : (n ≡ most) ⊎ (stop n ≡ true)

unstopped : (b : Bool) → not b ≡ true → b ≡ false
unstopped true e = absurd cc
unstopped false e = refl

is_stopped : (b : Bool) → not b ≡ false → b ≡ true
is_stopped true e = refl
is_stopped false e = absurd cc

pub first_stop : (stop : ℕ → Bool) (most : ℕ) → FirstStop stop most (min (1 + prefix_len (λ n. not (stop n)) (range_with_len 1 most)) most)
first_stop stop most =
    let k : ℕ = prefix_len (λ n. not (stop n)) (range_with_len 1 most) in
    let len : length (range_with_len 1 most) ≡ most = length-range_with_len 1 most in
    let few : k ≤ most = omega (arith, prefix_len-le-length (λ n. not (stop n)) (range_with_len 1 most), len) in
    let passes : (j : ℕ) → 1 ≤ j → j < 1 + k → stop j ≡ false = λ j low high.
    (let sum : 1 + (j - 1) ≡ j = omega arith in
    let at : get_or (range_with_len 1 most) (j - 1) 0 ≡ j = get_or-range_with_len 1 most (j - 1) 0 (omega arith) ∙ sum in
    unstopped (stop j) (sym (ap (λ (i : ℕ). not (stop i)) at) ∙ prefix_len_passes (λ n. not (stop n)) (range_with_len 1 most) (j - 1) 0 (omega arith))) in
    elim (cases_lt k most) [
      | inl inside ↦
          (let is : min (1 + k) most ≡ 1 + k = omega arith in
          let at : get_or (range_with_len 1 most) k 0 ≡ 1 + k = get_or-range_with_len 1 most k 0 inside in
          let stops : stop (1 + k) ≡ true = is_stopped (stop (1 + k)) (sym (ap (λ (i : ℕ). not (stop i)) at) ∙ prefix_len_stops (λ n. not (stop n)) (range_with_len 1 most) 0 (omega arith)) in
          subst (λ (n : ℕ). FirstStop stop most n) (sym is)
          (record { within = omega arith; some = λ _. omega arith; before = λ j low high. passes j low (omega arith); here = inr stops }))
      | inr behind ↦
          (let is : min (1 + k) most ≡ most = omega arith in
          subst (λ (n : ℕ). FirstStop stop most n) (sym is)
          (record { within = omega arith; some = λ h. h; before = λ j low high. passes j low (omega arith); here = inl refl }))
    ]

-- ---- steps

pub reach_ends : (v : OpeningValue) (piece : List ℕ) → FirstStopIsAt v piece (reach v piece)
unfolding reach
reach_ends v piece =
    let first = first_stop (is_stop v piece) (length piece) in
    record { within = first.within; some = first.some; before = first.before; here = first.here }

ends_at : (v : OpeningValue) (piece : List ℕ) (n : ℕ) → reach v piece ≡ n → FirstStopIsAt v piece n
ends_at v piece n e = subst (λ (k : ℕ). FirstStopIsAt v piece k) e (reach_ends v piece)

used_by : (v : OpeningValue) (piece : List ℕ) (heard : Heard) (n : ℕ) → opening_step_answer v piece heard ≡ Ok n → FirstStopIsAt (keeping v heard) piece n
unfolding opening_step_answer
used_by v piece Nothing n is =
    ends_at v piece n (ok_at (reach v piece) n (judged_with v piece (reach v piece)).verdict (on_going v.stopped (answer_on v piece Nothing) n is).is).same
used_by v piece (Found m) n is =
    let w : OpeningValue = keeping v (Found m) in
    ends_at w piece n (ok_at (reach w piece) n (judged_with w piece (reach w piece)).verdict (on_going v.stopped (answer_on v piece (Found m)) n is).is).same
used_by v piece (Named fault) n is =
    let w : OpeningValue = keeping v (Named fault) in
    ends_at w piece n (ok_at (reach w piece) n (judged_with w piece (reach w piece)).verdict (on_going v.stopped (answer_on v piece (Named fault)) n is).is).same
used_by v piece Failed n is = absurd (let no : Err errors.KeyringFault ≡ Ok n = (on_going v.stopped (answer_on v piece Failed) n is).is in cc)

pub ends_exactly : (v : OpeningValue) (piece : List ℕ) (heard : Heard) → EndsExactly v piece heard
ends_exactly v piece heard = record { used = λ n is. used_by v piece heard n is; fault = λ fault is. reach_ends (keeping v heard) piece }
