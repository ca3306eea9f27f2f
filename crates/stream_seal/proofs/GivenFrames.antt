-- How many frames are handed out of a text that goes on, and how many bytes of it are taken at the most.
use Rattle.std.proofs.Common.{◌≡◌, ℕ, ◌+◌, ◌-◌, ◌*◌, ◌<◌, ◌≤◌, min, Bool, true, false, ◌==◌, Option, Some, None, if◌then◌else◌, refl, ap, arith, inl, inr, nat_le}
use Rattle.std.proofs.Math.Nat.{mul-le-mul_right}
use Rattle.std.proofs.lemmas.Bool.{cases_lt, eqb-true, eqb-false, le-leb, lt-leb}
use Rattle.esdk_fields.specs.declared.refusals.Refusal.{Refusal}
use Rattle.esdk_fields.specs.declared.refusals.Refusal.TheVariants as refusals
use Rattle.body_format.proofs.FrameCounts.{IsCount, count_is, count_unique}
use Rattle.stream_seal.specs.Feeding.{frames_given, most_of, over_of, IsLeastCount}
use Rattle.stream_seal.specs.Session.{spent_of, within_of}
use Rattle.stream_seal.specs.Start.{most_frames, most_text}

-- ---- how many frames are given

-- Of so many bytes m frames are full, and one more has room for what is left, which is nothing only where there are no bytes.
pub record AreGiven (count size m : ℕ) : Type 0 where
  pub low : m * size ≤ count
  pub high : count ≤ m * size + size
  pub rest : 0 < count → m * size < count

pub are_given : (count size : ℕ) → 1 ≤ size → AreGiven count size (frames_given count size)
are_given count size wide = let is = count_is count size wide in record { low = is.full; high = is.all; rest = is.rest }

pub given_is : (count size m : ℕ) → 1 ≤ size → AreGiven count size m → frames_given count size ≡ m
given_is count size m wide are =
    let back : m + 1 - 1 ≡ m = omega arith in
    let same : (m + 1 - 1) * size ≡ m * size = ap (λ (n : ℕ). n * size) back in
    let is : IsCount count size (m + 1) = record {
      some = omega arith;
      full = omega (arith, are.low);
      all = omega (arith, are.high);
      rest = λ some. omega (arith, are.rest some);
    } in
    omega (arith, count_unique count size (m + 1) wide is)

-- they are the fewest
pub least_is : (count size m : ℕ) → 1 ≤ size → AreGiven count size m → IsLeastCount count size m
least_is count size m wide are = record {
  room = let product : (m + 1) * size ≡ m * size + size = omega arith in omega (arith, are.high);
  least = λ k all. elim (cases_lt k m) [
    | inl fewer ↦
        (let below : (k + 1) * size ≤ m * size = mul-le-mul_right size (omega arith) in
        let some : 1 * size ≤ m * size = mul-le-mul_right size (omega arith) in
        elim (cases_lt 0 count) [
          | inl more ↦ absurd (omega (arith, are.rest more))
          | inr none ↦ absurd (omega (arith, are.low))
        ])
    | inr most ↦ omega arith
  ];
}

-- more bytes have no fewer frames, and more than are full have one more
pub given_more : (count size m more : ℕ) → 1 ≤ size → AreGiven count size m → count ≤ more → m ≤ frames_given more size
given_more count size m more wide are longer =
    let later = are_given more size wide in
    let product : (frames_given more size + 1) * size ≡ frames_given more size * size + size = omega arith in
    (least_is count size m wide are).least (frames_given more size) (omega (arith, later.high))

pub given_next : (count size m : ℕ) → 1 ≤ size → m * size + size < count → m + 1 ≤ frames_given count size
given_next count size m wide longer = elim (cases_lt (frames_given count size) (m + 1)) [
  | inl fewer ↦
      (let below : frames_given count size * size ≤ m * size = mul-le-mul_right size (omega arith) in
      absurd (omega (arith, (are_given count size wide).high)))
  | inr more ↦ omega arith
]

-- of a text that fills a message all frames are given but the last
pub frames_of_most : (size : ℕ) → 1 ≤ size → frames_given (most_text size) size ≡ most_frames - 1
frames_of_most size wide =
    let product : most_frames * size ≡ (most_frames - 1) * size + size = omega arith in
    given_is (most_text size) size (most_frames - 1) wide (record { low = omega arith; high = omega arith; rest = λ some. omega arith })

-- fewer frames are given than the most, of a text for which there is room
pub given_few : (count size m : ℕ) → 1 ≤ size → AreGiven count size m → count ≤ most_text size → m < most_frames
given_few count size m wide are short = elim (cases_lt m most_frames) [
  | inl fewer ↦ fewer
  | inr many ↦
      (let long : most_frames * size ≤ m * size = mul-le-mul_right size many in
      let some : 1 * size ≤ most_frames * size = mul-le-mul_right size (omega arith) in
      absurd (omega (arith, are.rest (omega (arith, are.low)))))
]

-- ---- how many bytes are taken

pub most_low : (declared : Option ℕ) (room : ℕ) → most_of declared room ≤ room
most_low None room = omega arith
most_low (Some whole) room = omega arith

-- Here no byte more can be taken, and this is why.
pub record IsMost (declared : Option ℕ) (room count : ℕ) (refusal : Refusal) : Type 0 where
  pub most : most_of declared room ≡ count
  pub why : over_of declared room ≡ refusal

-- all declared bytes were taken
pub most_spent : (declared : Option ℕ) (room count whole : ℕ) → count ≤ most_of declared room → spent_of declared count ≡ Some whole
    → IsMost declared room count (refusals.OverDeclared whole)
most_spent None room count whole short spent = absurd (cc)
most_spent (Some most) room count whole short spent = by_test (most - count == 0) refl spent
  where
    by_test : (b : Bool) → (most - count == 0) ≡ b → (if b then Some most else None) ≡ Some whole → IsMost (Some most) room count (refusals.OverDeclared whole)
    by_test true none is =
        let same : most ≡ whole = cc in
        let left = eqb-true (most - count) 0 none in
        let test : nat_le most room ≡ true = le-leb most room (omega (arith, left, short)) in
        record { most = omega (arith, left, short); why = rw test (ap (λ (n : ℕ). refusals.OverDeclared n) same) }
    by_test false more is = absurd (cc)

-- all that have room were taken, and not all declared ones
pub most_full : (declared : Option ℕ) (room count : ℕ) → count ≤ most_of declared room → spent_of declared count ≡ None → count ≡ room
    → IsMost declared room count refusals.TooManyFrames
most_full None room count short unspent full = record { most = omega arith; why = refl }
most_full (Some whole) room count short unspent full = by_test (whole - count == 0) refl unspent
  where
    by_test : (b : Bool) → (whole - count == 0) ≡ b → (if b then Some whole else None) ≡ None → IsMost (Some whole) room count refusals.TooManyFrames
    by_test true none is = absurd (cc)
    by_test false more is =
        let left = eqb-false (whole - count) 0 more in
        let test : nat_le whole room ≡ false = lt-leb whole room (omega (arith, left, full)) in
        record { most = omega (arith, left, full); why = rw test refl }

-- there is room, and not all declared bytes were taken
pub most_more : (declared : Option ℕ) (room count : ℕ) → spent_of declared count ≡ None → count < room → count < most_of declared room
most_more None room count unspent more = more
most_more (Some whole) room count unspent more = by_test (whole - count == 0) refl unspent
  where
    by_test : (b : Bool) → (whole - count == 0) ≡ b → (if b then Some whole else None) ≡ None → count < min whole room
    by_test true none is = absurd (cc)
    by_test false some is = let left = eqb-false (whole - count) 0 some in omega (arith, left)

-- what is taken has room
pub most_within : (declared : Option ℕ) (room count step : ℕ) → count ≤ most_of declared room → count + step ≤ room → count + within_of declared count step ≤ most_of declared room
most_within None room count step short fits = fits
most_within (Some whole) room count step short fits = omega arith
