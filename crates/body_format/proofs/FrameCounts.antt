-- How many frames a text has, and how long what stands in them is.
use Rattle.std.proofs.Common.{◌≡◌, ℕ, zero, suc, ◌+◌, ◌-◌, ◌*◌, ◌/◌, ◌^◌, ◌<◌, ◌≤◌, List, length, drop, refl, ap, arith, inl, inr}
use Rattle.std.proofs.Math.Nat.{div-mul-le_self, lt-div-mul-add, mul-le-mul_right}
use Rattle.std.proofs.lemmas.Bool.{cases_lt, ne_eqb}
use Rattle.std.proofs.lemmas.List.{length-take, length-drop, take_all}
use Rattle.body_format.specs.Written.{frame_count, piece, IsFramed}

-- one more, as a product
pub one_more : (n m : ℕ) → 1 ≤ n → n * m ≡ (n - 1) * m + m
one_more zero m h = absurd (omega arith)
one_more (suc n) m h = let e : suc n - 1 ≡ n = omega arith in rw e (omega arith)

-- some frame, so many that all but the last are full, and the last has what is left, which is nothing only where the text is empty
pub record IsCount (size frame count : ℕ) : Type 0 where
  pub some : 1 ≤ count
  pub full : (count - 1) * frame ≤ size
  pub all : size ≤ (count - 1) * frame + frame
  pub rest : 0 < size → (count - 1) * frame < size

-- of a text that isn't empty
count_some : (n frame : ℕ) → frame_count (suc n) frame ≡ (suc n + frame - 1) / frame
unfolding frame_count
count_some n frame = rw (ne_eqb (suc n) 0 (λ e. omega arith)) refl

pub count_is : (size frame : ℕ) → 1 ≤ frame → IsCount size frame (frame_count size frame)
unfolding frame_count
count_is zero frame h = record { some = omega arith; full = omega arith; all = omega arith; rest = λ some. absurd (omega arith) }
count_is (suc n) frame h =
    let q : ℕ = (suc n + frame - 1) / frame in
    let low : q * frame ≤ suc n + frame - 1 = div-mul-le_self (suc n + frame - 1) frame in
    let high : suc n + frame - 1 < q * frame + frame = lt-div-mul-add (omega arith) in
    let some : 1 ≤ q = elim (cases_lt 0 q) [ inl more ↦ omega arith | inr none ↦ (let e : q ≡ 0 = omega arith in let f : q * frame ≡ 0 * frame = ap (λ (k : ℕ). k * frame) e in absurd (omega arith)) ] in
    let product : q * frame ≡ (q - 1) * frame + frame = one_more q frame some in
    rw (count_some n frame) (record { some = some; full = omega arith; all = omega arith; rest = λ more. omega arith })

-- a count of frames is at most the most
pub count_few : (frame_length : ℕ) (text : List ℕ) → IsFramed frame_length text → frame_count (length text) frame_length ≤ 2 ^ 32 - 1
count_few frame_length text framed =
    let count : ℕ = frame_count (length text) frame_length in
    let is = count_is (length text) frame_length framed.some in
    elim (cases_lt (2 ^ 32 - 1) count) [
      | inl many ↦
          (let long : (2 ^ 32 - 1) * frame_length ≤ (count - 1) * frame_length = mul-le-mul_right frame_length (omega arith) in
          let few : length text ≤ (2 ^ 32 - 1) * frame_length = framed.few in
          let some : 1 ≤ frame_length = framed.some in
          elim (cases_lt 0 (length text)) [
            | inl more ↦ absurd (omega (arith, is.rest more))
            | inr none ↦ absurd (omega (arith, is.full))
          ])
      | inr few ↦ few
    ]

-- the frames before the last are full
pub length-piece : (frame : ℕ) (text : List ℕ) (i : ℕ) → (i + 1) * frame ≤ length text → length (piece frame text i) ≡ frame
length-piece frame text i h = omega (arith, length-take frame (drop (i * frame) text), length-drop (i * frame) text)

-- the last piece is all that is left
pub last_piece : (frame : ℕ) (text : List ℕ) (i : ℕ) → length text ≤ i * frame + frame → piece frame text i ≡ drop (i * frame) text
last_piece frame text i h = take_all frame (drop (i * frame) text) (omega (arith, length-drop (i * frame) text))

no_more : (size frame n m : ℕ) → 1 ≤ frame → IsCount size frame n → IsCount size frame m → n < m → ⊥
no_more size frame n m wide first second more =
    let some : 1 ≤ n = first.some in
    let product : n * frame ≡ (n - 1) * frame + frame = one_more n frame some in
    let later : n * frame ≤ (m - 1) * frame = mul-le-mul_right frame (omega arith) in
    let all : size ≤ (n - 1) * frame + frame = first.all in
    let full : (m - 1) * frame ≤ size = second.full in
    elim (cases_lt 0 size) [
      | inl some ↦ (let rest : (m - 1) * frame < size = second.rest some in omega arith)
      | inr none ↦ omega arith
    ]

-- there is one such count
pub count_unique : (size frame n : ℕ) → 1 ≤ frame → IsCount size frame n → frame_count size frame ≡ n
count_unique size frame n wide is =
    let count = count_is size frame wide in
    elim (cases_lt n (frame_count size frame)) [
      | inl more ↦ absurd (no_more size frame n (frame_count size frame) wide is count more)
      | inr few ↦ elim (cases_lt (frame_count size frame) n) [
        | inl fewer ↦ absurd (no_more size frame (frame_count size frame) n wide count is fewer)
        | inr same ↦ omega arith
      ]
    ]
