-- Vectors of 16 bytes, lane by lane.
use Rattle.std.proofs.Common.{◌≡◌, ℕ, suc, ◌+◌, ◌-◌, ◌*◌, ◌/◌, ◌%◌, ◌<◌, ◌==◌, Bool, true, cond, ltb, List, [], ◌∷◌, length, map, replicate, get_or, bit_and, Fits, w8, refl, sym, subst, ap, ◌∙◌, inl, inr, arith}
use Rattle.std.specs.Simd.Lanes.{Each1, zip2, sel_l, top}
use Rattle.std.proofs.lemmas.List.{ext_get_or, get_or-map, get_or_past, length-map}
use Rattle.std.proofs.lemmas.Bool.{cases_lt, eqb-true}
use Rattle.std.proofs.lemmas.Nat.{and_le_r}
use Rattle.std.proofs.lemmas.Simd.{Each1-from_get_or, Each1-get_or, SwzOk, SwzOk-from_below, get_or-swz_l_below, length-swz_l, pick_l_whole, swz_l, zip2_splat}
use Rattle.base64.specs.Tables.{all_below}
use Rattle.base64.proofs.Tables.{all_below_at}

-- the lanes one by one
pub sixteen : (v : List ℕ) → length v ≡ 16
    → get_or v 0 0 ∷ get_or v 1 0 ∷ get_or v 2 0 ∷ get_or v 3 0 ∷ get_or v 4 0 ∷ get_or v 5 0 ∷ get_or v 6 0 ∷ get_or v 7 0
    ∷ get_or v 8 0 ∷ get_or v 9 0 ∷ get_or v 10 0 ∷ get_or v 11 0 ∷ get_or v 12 0 ∷ get_or v 13 0 ∷ get_or v 14 0 ∷ get_or v 15 0 ∷ [] ≡ v
sixteen v long = pick_l_whole 0 v 16 long

-- what is the same of each lane is the same of all
pub same_lanes : (f g : ℕ → ℕ) (n : ℕ) → ((x : ℕ) → x < n → f x ≡ g x) → (v : List ℕ) → ((j : ℕ) → get_or v j 0 < n) → map f v ≡ map g v
same_lanes f g n same [] small = refl
same_lanes f g n same (x ∷ v) small =
    ap (λ (y : ℕ). y ∷ map f v) (same x (small 0)) ∙ ap (λ (ys : List ℕ). g x ∷ ys) (same_lanes f g n same v (λ j. small (suc j)))

-- what was computed at each number below n
pub computed : (f g : ℕ → ℕ) (n : ℕ) → all_below (λ x. f x == g x) n ≡ true → (x : ℕ) → x < n → f x ≡ g x
computed f g n all x within = eqb-true (f x) (g x) (all_below_at (λ k. f k == g k) n x all within)

-- a bound of a function is one of each lane that it makes
pub lanes_below : (f : ℕ → ℕ) (n m : ℕ) → 0 < m → ((x : ℕ) → x < n → f x < m) → (v : List ℕ) → ((j : ℕ) → get_or v j 0 < n) → (j : ℕ) → get_or (map f v) j 0 < m
lanes_below f n m some below v small j = elim (cases_lt j (length v)) [
  | inl within ↦ subst (λ x. x < m) (sym (get_or-map f v j 0 0 within)) (below (get_or v j 0) (small j))
  | inr past ↦ subst (λ x. x < m) (sym (get_or_past (map f v) j 0 (omega (arith, past, length-map v f)))) some
]

-- ---- a table of 16 lanes

pub places_ok : (places : List ℕ) → length places ≡ 16 → ((j : ℕ) → get_or places j 0 < 16) → SwzOk w8 16 16 0 places
places_ok places long small = SwzOk-from_below w8 16 1 16 0 places refl (omega (arith, long)) (Each1-from_get_or (λ j. j < 16) places 0 (λ i within. small i))

pub table_lanes : (table places : List ℕ) → length places ≡ 16 → ((j : ℕ) → get_or places j 0 < 16) → swz_l w8 16 table 0 places ≡ map (λ k. get_or table k 0) places
table_lanes table places long small =
    let size = length-swz_l w8 16 table 0 places in
    ext_get_or 0 (swz_l w8 16 table 0 places) (map (λ k. get_or table k 0) places) (size ∙ sym (length-map places (λ k. get_or table k 0))) (λ i within.
    let here : i < length places = omega (arith, within, size) in
    let first : 16 * ((0 + i) / 16) + get_or places i 0 ≡ get_or places i 0 = omega (arith, here, long) in
    get_or-swz_l_below w8 16 table 0 places i here (small i) ∙ ap (λ k. get_or table k 0) first ∙ sym (get_or-map (λ k. get_or table k 0) places i 0 0 here))

-- ---- lanes below a bound, as tests

abbrev pub less : List ℕ → List ℕ → List Bool
less v w = map (top 7) (zip2 (λ a b. cond (ltb a b) 255 0) v w)

-- `saturating_sub`
abbrev pub monus : List ℕ → List ℕ → List ℕ
monus v w = zip2 (λ a b. (a + (256 - b)) % 256) (sel_l (less v w) w v) w

-- the same of one lane
abbrev pub lane_less : ℕ → ℕ → Bool
lane_less a b = top 7 (cond (ltb a b) 255 0)

abbrev pub lane_monus : ℕ → ℕ → ℕ
lane_monus a b = (cond (lane_less a b) b a + (256 - b)) % 256

-- ---- six bits of each lane

pub masked_below : (v : List ℕ) → length v ≡ 16 → (j : ℕ) → get_or (zip2 bit_and v (replicate 16 63)) j 0 < 64
masked_below v long j =
    subst (λ x. get_or x j 0 < 64) (sym (zip2_splat bit_and v 16 63 long)) (by_lane j)
  where
    by_lane : (j : ℕ) → get_or (map (λ a. bit_and a 63) v) j 0 < 64
    by_lane j = elim (cases_lt j (length v)) [
      | inl within ↦ subst (λ x. x < 64) (sym (get_or-map (λ a. bit_and a 63) v j 0 0 within)) (omega (arith, and_le_r (get_or v j 0) 63))
      | inr past ↦ subst (λ x. x < 64) (sym (get_or_past (map (λ a. bit_and a 63) v) j 0 (omega (arith, past, length-map v (λ a. bit_and a 63))))) (omega arith)
    ]

-- the lanes of a vector of bytes
pub bytes_below : (v : List ℕ) → (length v ≡ 16) × Each1 (Fits w8) v → (j : ℕ) → get_or v j 0 < 256
bytes_below v fits j = elim (cases_lt j (length v)) [
  | inl within ↦ (Each1-get_or (Fits w8) v j 0 within fits.1).fits
  | inr past ↦ rw (get_or_past v j 0 past) (omega arith)
]
