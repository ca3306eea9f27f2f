-- Where a step within a unit ends.
use Rattle.std.proofs.Common.{◌≡◌, ◌⊎◌, ℕ, get_or, ◌+◌, ◌-◌, ◌<◌, ◌≤◌, Bool, true, false, List, ◌++◌, length, take, min, refl, sym, ap, subst, ◌∙◌, arith, inl, inr}
use Rattle.std.specs.List.{prefix_len, range_with_len}
use Rattle.std.proofs.lemmas.Bool.{cases_lt}
use Rattle.std.proofs.lemmas.List.Sums.{prefix_len_is, prefix_len-le-length, prefix_len_passes, prefix_len_stops}
use Rattle.std.proofs.lemmas.List.FromFn.{length-range_with_len, get_or-range_with_len}
use Rattle.esdk_fields.specs.Reading.{Reading, Read, Refused, Wanting}
use Rattle.frame_codec.specs.Unit.{Piece}
use Rattle.stream_open.specs.declared.body.Body.{Body}
use Rattle.stream_open.specs.Body.{is_wanting, open_unit, reach_in_piece}

-- A test holds of every number from 1 on below n, and doesn't hold of n, or n is the most.
pub record Stops (test : ℕ → Bool) (most n : ℕ) : Type 0 where
  pub within : n ≤ most
  pub some : 1 ≤ most → 1 ≤ n
  pub before : (k : ℕ) → k < n → test k ≡ true
  pub here : (n ≡ most) ⊎ (test n ≡ false)

at_place : (test : ℕ → Bool) (most k : ℕ) (b : Bool) → k < most → test (1 + k) ≡ b → test (get_or (range_with_len 1 most) k 0) ≡ b
at_place test most k b h e = ap test (get_or-range_with_len 1 most k 0 h) ∙ e

pub stops_by : (test : ℕ → Bool) (most n : ℕ) (b : Bool) → test n ≡ b → Stops test most n → min (1 + prefix_len test (range_with_len 1 most)) most ≡ n
stops_by test most n false e s =
    let len : length (range_with_len 1 most) ≡ most = length-range_with_len 1 most in
    elim (cases_lt n 1) [
      | inl none ↦
          (let empty : most ≡ 0 = elim (cases_lt most 1) [ inl few ↦ omega arith | inr many ↦ absurd (let some = s.some many in omega arith) ] in
          omega arith)
      | inr some ↦
          (let same : 1 + (n - 1) ≡ n = omega arith in
          let is : prefix_len test (range_with_len 1 most) ≡ n - 1 = prefix_len_is test (range_with_len 1 most) (n - 1) 0 (omega (arith, len, s.within))
          (λ k h. at_place test most k true (omega (arith, s.within)) (s.before (1 + k) (omega arith)))
          (λ h. at_place test most (n - 1) false (omega (arith, len)) (ap test same ∙ e)) in
          let within : n ≤ most = s.within in
          omega arith)
    ]
stops_by test most n true e s =
    let len : length (range_with_len 1 most) ≡ most = length-range_with_len 1 most in
    let all : n ≡ most = elim s.here [ inl is ↦ is | inr stops ↦ absurd (true_false (sym e ∙ stops)) ] in
    let is : prefix_len test (range_with_len 1 most) ≡ most = prefix_len_is test (range_with_len 1 most) most 0 (omega (arith, len))
    (λ k h. at_place test most k true h (elim (cases_lt (1 + k) n) [ inl early ↦ s.before (1 + k) early | inr last ↦ (let same : 1 + k ≡ n = omega arith in ap test same ∙ e) ]))
    (λ h. absurd (omega (arith, len))) in
    omega arith
  where
    true_false : true ≡ false → ⊥
    true_false e = cc

-- and there is such a number
stops_first : (test : ℕ → Bool) (most : ℕ) → test 0 ≡ true → Stops test most (min (1 + prefix_len test (range_with_len 1 most)) most)
stops_first test most none =
    let k : ℕ = prefix_len test (range_with_len 1 most) in
    let len : length (range_with_len 1 most) ≡ most = length-range_with_len 1 most in
    let few : k ≤ most = omega (arith, prefix_len-le-length test (range_with_len 1 most), len) in
    let passes : (j : ℕ) → j < 1 + k → test j ≡ true = λ j high. elim (cases_lt j 1) [
      | inl first ↦ (let zero_is : j ≡ 0 = omega arith in ap test zero_is ∙ none)
      | inr later ↦
          (let sum : 1 + (j - 1) ≡ j = omega arith in
          let at : get_or (range_with_len 1 most) (j - 1) 0 ≡ j = get_or-range_with_len 1 most (j - 1) 0 (omega arith) ∙ sum in
          sym (ap test at) ∙ prefix_len_passes test (range_with_len 1 most) (j - 1) 0 (omega arith))
    ] in
    elim (cases_lt k most) [
      | inl inside ↦
          (let is : min (1 + k) most ≡ 1 + k = omega arith in
          let at : get_or (range_with_len 1 most) k 0 ≡ 1 + k = get_or-range_with_len 1 most k 0 inside in
          let stops : test (1 + k) ≡ false = sym (ap test at) ∙ prefix_len_stops test (range_with_len 1 most) 0 (omega arith) in
          subst (λ (n : ℕ). Stops test most n) (sym is) (record { within = omega arith; some = λ _. omega arith; before = λ j high. passes j high; here = inr stops }))
      | inr behind ↦
          (let is : min (1 + k) most ≡ most = omega arith in
          subst (λ (n : ℕ). Stops test most n) (sym is) (record { within = omega arith; some = λ h. h; before = λ j high. passes j (omega arith); here = inl refl }))
    ]

-- With fewer than n bytes of the piece the unit wants more, and with n it doesn't, or these are all of the piece.
pub record Reaches (body : Body) (piece : List ℕ) (n : ℕ) : Type 0 where
  pub within : n ≤ length piece
  pub some : 1 ≤ length piece → 1 ≤ n
  pub before : (k : ℕ) → k < n → open_unit body (body.unit.held ++ take k piece) ≡ Wanting
  pub here : (n ≡ length piece) ⊎ (is_wanting (open_unit body (body.unit.held ++ take n piece)) ≡ false)

pub reach_is : (body : Body) (piece : List ℕ) (n : ℕ) → Reaches body piece n → reach_in_piece body piece ≡ n
unfolding reach_in_piece
reach_is body piece n r =
    stops_by (λ n. is_wanting (open_unit body (body.unit.held ++ take n piece))) (length piece) n (is_wanting (open_unit body (body.unit.held ++ take n piece))) refl
    (record { within = r.within; some = r.some; before = λ k h. ap is_wanting (r.before k h); here = r.here })

wants : (r : Reading Piece) → is_wanting r ≡ true → r ≡ Wanting
wants (Read piece next) e = absurd cc
wants (Refused fault at) e = absurd cc
wants Wanting e = refl

pub reaches : (body : Body) (piece : List ℕ) → open_unit body (body.unit.held ++ take 0 piece) ≡ Wanting → Reaches body piece (reach_in_piece body piece)
unfolding reach_in_piece
reaches body piece none =
    let s = stops_first (λ n. is_wanting (open_unit body (body.unit.held ++ take n piece))) (length piece) (ap is_wanting none) in
    record { within = s.within; some = s.some; before = λ k h. wants (open_unit body (body.unit.held ++ take k piece)) (s.before k h); here = s.here }
