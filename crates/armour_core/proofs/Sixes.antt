-- Numbers of six bits in the lanes of vectors.
use Rattle.std.proofs.Common.{◌≡◌, ℕ, zero, suc, ◌+◌, ◌*◌, ◌/◌, ◌%◌, ◌^◌, ◌<◌, List, [], ◌∷◌, ◌++◌, length, map, take, drop, replicate, get_or, refl, subst, ap, ◌∙◌, arith}
use Rattle.std.specs.Simd.Lanes.{zip2, pick_l}
use Rattle.std.proofs.lemmas.List.{length-map, map-append}
use Rattle.base64.specs.Rfc4648.{encode_group, encode_symbols}
use Rattle.base64.specs.Engines.{standard}
use Rattle.std.specs.List.{range_with_len}
use Rattle.armour_core.specs.Widths.{four_bytes, two_bytes}
use Rattle.armour_core.specs.Sextets.{sextets_of, symbols_in, symbols_of}
use Rattle.armour_core.proofs.Lanes.{sixteen}

-- ---- three bytes and four numbers

-- two numbers of six bits in two bytes
abbrev two_sixes : ℕ → ℕ → ℕ → ℕ
two_sixes x first second = (x * first % 65536 / 1024 + x * second % 65536 / 1024 * 256 % 65536) % 65536

-- both halves of such a sum
both_halves : (x y : ℕ) → x < 256 → y < 256 → ((x + y * 256 % 65536) % 65536 / 1 % 256 ≡ x) × ((x + y * 256 % 65536) % 65536 / 256 % 256 ≡ y)
both_halves x y fx fy = (omega (arith, fx, fy), omega (arith, fx, fy))

-- four lanes of three bytes
pub four_of_three : (a b c : ℕ) (rest more : List ℕ) → a < 256 → b < 256 → c < 256 → rest ≡ more
    → two_sixes (b + 256 * a) 1 64 / 1 % 256 ∷ two_sixes (b + 256 * a) 1 64 / 256 % 256
    ∷ two_sixes (c + 256 * b) 16 1024 / 1 % 256 ∷ two_sixes (c + 256 * b) 16 1024 / 256 % 256 ∷ rest
    ≡ a / 4 ∷ (a % 4 * 16 + b / 16) ∷ (b % 16 * 4 + c / 64) ∷ c % 64 ∷ more
four_of_three a b c rest more fa fb fc same =
    let p : (b + 256 * a) * 1 % 65536 / 1024 ≡ a / 4 = omega (arith, fa, fb) in
    let q : (b + 256 * a) * 64 % 65536 / 1024 ≡ a % 4 * 16 + b / 16 = omega (arith, fa, fb) in
    let r : (c + 256 * b) * 16 % 65536 / 1024 ≡ b % 16 * 4 + c / 64 = omega (arith, fb, fc) in
    let s : (c + 256 * b) * 1024 % 65536 / 1024 ≡ c % 64 = omega (arith, fb, fc) in
    let front = both_halves (a / 4) (a % 4 * 16 + b / 16) (omega (arith, fa)) (omega (arith, fb)) in
    let back = both_halves (b % 16 * 4 + c / 64) (c % 64) (omega (arith, fc)) (omega arith) in
    rw (p, q, r, s, front.0, front.1, back.0, back.1, same) refl

-- a number of twelve bits of two
abbrev twelve_of : ℕ → ℕ
twelve_of w = (w * 256 % 65536 / 4 + w / 256) % 65536

abbrev halves_of : ℕ → ℕ → ℕ
halves_of t u = t / 1 % 256 + 256 * (t / 256 % 256 + 256 * (u / 1 % 256 + 256 * (u / 256 % 256)))

abbrev whole_of : ℕ → ℕ
whole_of h = (h * 65536 % 4294967296 / 16 + h / 65536) % 4294967296

abbrev whole_of_four : ℕ → ℕ → ℕ → ℕ → ℕ
whole_of_four a b c d = whole_of (halves_of (twelve_of (a + 256 * b)) (twelve_of (c + 256 * d)))

whole_is : (a b c d : ℕ) → a < 64 → b < 64 → c < 64 → d < 64 → whole_of_four a b c d ≡ (a * 64 + b) * 4096 + (c * 64 + d)
whole_is a b c d fa fb fc fd =
    let t : twelve_of (a + 256 * b) ≡ a * 64 + b = omega (arith, fa, fb) in
    let u : twelve_of (c + 256 * d) ≡ c * 64 + d = omega (arith, fc, fd) in
    let halves : halves_of (a * 64 + b) (c * 64 + d) ≡ a * 64 + b + 65536 * (c * 64 + d) = omega (arith, fa, fb, fc, fd) in
    let whole : whole_of (a * 64 + b + 65536 * (c * 64 + d)) ≡ (a * 64 + b) * 4096 + (c * 64 + d) = omega (arith, fa, fb, fc, fd) in
    ap (λ (x : ℕ). whole_of (halves_of x (twelve_of (c + 256 * d)))) t ∙ ap (λ (x : ℕ). whole_of (halves_of (a * 64 + b) x)) u ∙ ap (λ (x : ℕ). whole_of x) halves ∙ whole

-- three bytes of four numbers
abbrev three : ℕ → ℕ → ℕ → ℕ → List ℕ → List ℕ
three a b c d rest = whole_of_four a b c d / 65536 % 256 ∷ whole_of_four a b c d / 256 % 256 ∷ whole_of_four a b c d / 1 % 256 ∷ rest

-- the four numbers that three bytes made of them have
pub three_of_four : (a b c d : ℕ) (rest more : List ℕ) → a < 64 → b < 64 → c < 64 → d < 64 → sextets_of rest ≡ more → sextets_of (three a b c d rest) ≡ a ∷ b ∷ c ∷ d ∷ more
unfolding sextets_of
three_of_four a b c d rest more fa fb fc fd same =
    let n : ℕ = (a * 64 + b) * 4096 + (c * 64 + d) in
    let is = whole_is a b c d fa fb fc fd in
    let x : n / 65536 % 256 ≡ a * 4 + b / 16 = omega (arith, fa, fb, fc, fd) in
    let y : n / 256 % 256 ≡ b % 16 * 16 + c / 4 = omega (arith, fa, fb, fc, fd) in
    let z : n / 1 % 256 ≡ c % 4 * 64 + d = omega (arith, fa, fb, fc, fd) in
    let e0 : (a * 4 + b / 16) / 4 ≡ a = omega (arith, fb) in
    let e1 : (a * 4 + b / 16) % 4 * 16 + (b % 16 * 16 + c / 4) / 16 ≡ b = omega (arith, fb, fc) in
    let e2 : (b % 16 * 16 + c / 4) % 16 * 4 + (c % 4 * 64 + d) / 64 ≡ c = omega (arith, fc, fd) in
    let e3 : (c % 4 * 64 + d) % 64 ≡ d = omega (arith, fd) in
    ap (λ (k : ℕ). sextets_of (k / 65536 % 256 ∷ k / 256 % 256 ∷ k / 1 % 256 ∷ rest)) is ∙ rw (x, y, z, e0, e1, e2, e3, same) refl

-- ---- a vector of them

abbrev up : List ℕ → List ℕ → List ℕ
up v by = zip2 (λ x s. x * 2 ^ s % 65536) v by

abbrev down : List ℕ → List ℕ → List ℕ
down v by = zip2 (λ x s. x / 2 ^ s) v by

abbrev sums : List ℕ → List ℕ → List ℕ
sums v w = zip2 (λ a b. (a + b) % 65536) v w

-- the bytes of lanes of two and of four bytes
abbrev pub parts_of_two : List ℕ → List ℕ
parts_of_two ws = map (λ k. get_or ws (k / 2) 0 / 256 ^ (k % 2) % 256) (range_with_len 0 16)

abbrev pub parts_of_four : List ℕ → List ℕ
parts_of_four ws = map (λ k. get_or ws (k / 4) 0 / 256 ^ (k % 4) % 256) (range_with_len 0 16)

abbrev pub paired : List ℕ → List ℕ
paired v = map (two_bytes (pick_l 0 (v ++ v) (1 ∷ 0 ∷ 2 ∷ 1 ∷ 4 ∷ 3 ∷ 5 ∷ 4 ∷ 7 ∷ 6 ∷ 8 ∷ 7 ∷ 10 ∷ 9 ∷ 11 ∷ 10 ∷ []))) (range_with_len 0 8)

abbrev pub split_pairs : List ℕ → List ℕ
split_pairs ps =
    parts_of_two (sums (down (up ps (0 ∷ 4 ∷ 0 ∷ 4 ∷ 0 ∷ 4 ∷ 0 ∷ 4 ∷ [])) (replicate 8 10))
    (up (down (up ps (6 ∷ 10 ∷ 6 ∷ 10 ∷ 6 ∷ 10 ∷ 6 ∷ 10 ∷ [])) (replicate 8 10)) (replicate 8 8)))

pub split : (v : List ℕ) → length v ≡ 16 → ((j : ℕ) → get_or v j 0 < 256) → split_pairs (paired v) ≡ sextets_of (take 12 v)
unfolding sextets_of
split v long small =
    subst (λ w. split_pairs (paired w) ≡ sextets_of (take 12 w)) (sixteen v long)
    (four_of_three (get_or v 0 0) (get_or v 1 0) (get_or v 2 0) _ _ (small 0) (small 1) (small 2)
    (four_of_three (get_or v 3 0) (get_or v 4 0) (get_or v 5 0) _ _ (small 3) (small 4) (small 5)
    (four_of_three (get_or v 6 0) (get_or v 7 0) (get_or v 8 0) _ _ (small 6) (small 7) (small 8)
    (four_of_three (get_or v 9 0) (get_or v 10 0) (get_or v 11 0) [] [] (small 9) (small 10) (small 11) refl))))

abbrev pub twelves : List ℕ → List ℕ
twelves ps = sums (down (up ps (replicate 8 8)) (replicate 8 2)) (down ps (replicate 8 8))

abbrev pub wholes : List ℕ → List ℕ
wholes hs =
    zip2 (λ a b. (a + b) % 4294967296) (down (zip2 (λ x s. x * 2 ^ s % 4294967296) hs (replicate 4 16)) (replicate 4 4))
    (down hs (replicate 4 16))

abbrev pub put_in_order : List ℕ → List ℕ
put_in_order bs = pick_l 0 (bs ++ bs) (2 ∷ 1 ∷ 0 ∷ 6 ∷ 5 ∷ 4 ∷ 10 ∷ 9 ∷ 8 ∷ 14 ∷ 13 ∷ 12 ∷ 3 ∷ 7 ∷ 11 ∷ 15 ∷ [])

abbrev pub pairs_of : List ℕ → List ℕ
pairs_of v = map (two_bytes v) (range_with_len 0 8)

abbrev pub fours_of : List ℕ → List ℕ
fours_of v = map (four_bytes v) (range_with_len 0 4)

abbrev pub packed_lanes : List ℕ → List ℕ
packed_lanes v = put_in_order (parts_of_four (wholes (fours_of (parts_of_two (twelves (pairs_of v))))))

pub packs : (v : List ℕ) → length v ≡ 16 → ((j : ℕ) → get_or v j 0 < 64) → sextets_of (take 12 (packed_lanes v)) ≡ v
unfolding sextets_of
packs v long small =
    let x : ℕ → ℕ = λ j. get_or v j 0 in
    let d : List ℕ = three (x 12) (x 13) (x 14) (x 15) [] in
    let c : List ℕ = three (x 8) (x 9) (x 10) (x 11) d in
    let b : List ℕ = three (x 4) (x 5) (x 6) (x 7) c in
    let last : List ℕ = x 12 ∷ x 13 ∷ x 14 ∷ x 15 ∷ [] in
    let third : List ℕ = x 8 ∷ x 9 ∷ x 10 ∷ x 11 ∷ last in
    let second : List ℕ = x 4 ∷ x 5 ∷ x 6 ∷ x 7 ∷ third in
    subst (λ w. sextets_of (take 12 (packed_lanes w)) ≡ w) (sixteen v long)
    (three_of_four (x 0) (x 1) (x 2) (x 3) b second (small 0) (small 1) (small 2) (small 3)
    (three_of_four (x 4) (x 5) (x 6) (x 7) c third (small 4) (small 5) (small 6) (small 7)
    (three_of_four (x 8) (x 9) (x 10) (x 11) d last (small 8) (small 9) (small 10) (small 11)
    (three_of_four (x 12) (x 13) (x 14) (x 15) [] [] (small 12) (small 13) (small 14) (small 15) refl))))

-- the last twelve lanes, in front
pub last_lanes : (v : List ℕ) → length v ≡ 16 → take 12 (pick_l 0 (v ++ v) (4 ∷ 5 ∷ 6 ∷ 7 ∷ 8 ∷ 9 ∷ 10 ∷ 11 ∷ 12 ∷ 13 ∷ 14 ∷ 15 ∷ 0 ∷ 1 ∷ 2 ∷ 3 ∷ [])) ≡ drop 4 v
last_lanes v long = subst (λ w. take 12 (pick_l 0 (w ++ w) (4 ∷ 5 ∷ 6 ∷ 7 ∷ 8 ∷ 9 ∷ 10 ∷ 11 ∷ 12 ∷ 13 ∷ 14 ∷ 15 ∷ 0 ∷ 1 ∷ 2 ∷ 3 ∷ [])) ≡ drop 4 w) (sixteen v long) refl

-- ---- lists of them

pub length-sextets : (xs : List ℕ) → length (sextets_of xs) ≡ length xs / 3 * 4
unfolding sextets_of
length-sextets [] = refl
length-sextets (a ∷ []) = refl
length-sextets (a ∷ b ∷ []) = refl
length-sextets (a ∷ b ∷ c ∷ xs) = let h = length-sextets xs in omega (arith, h)

pub sextets_below : (xs : List ℕ) → ((j : ℕ) → get_or xs j 0 < 256) → (j : ℕ) → get_or (sextets_of xs) j 0 < 64
unfolding sextets_of
sextets_below [] small j = omega arith
sextets_below (a ∷ []) small j = omega arith
sextets_below (a ∷ b ∷ []) small j = omega arith
sextets_below (a ∷ b ∷ c ∷ xs) small zero = let h = small 0 in omega (arith, h)
sextets_below (a ∷ b ∷ c ∷ xs) small (suc zero) = let h = small 1 in omega (arith, h)
sextets_below (a ∷ b ∷ c ∷ xs) small (suc (suc zero)) = let h = small 2 in omega (arith, h)
sextets_below (a ∷ b ∷ c ∷ xs) small (suc (suc (suc zero))) = omega arith
sextets_below (a ∷ b ∷ c ∷ xs) small (suc (suc (suc (suc j)))) = sextets_below xs (λ k. small (suc (suc (suc k)))) j

pub below_front : (n : ℕ) (xs : List ℕ) → ((j : ℕ) → get_or xs j 0 < 256) → (j : ℕ) → get_or (take n xs) j 0 < 256
below_front zero xs small j = omega arith
below_front (suc n) [] small j = omega arith
below_front (suc n) (x ∷ xs) small zero = small 0
below_front (suc n) (x ∷ xs) small (suc j) = below_front n xs (λ k. small (suc k)) j

sextets-append : (xs ys : List ℕ) → length xs % 3 ≡ 0 → sextets_of (xs ++ ys) ≡ sextets_of xs ++ sextets_of ys
unfolding sextets_of
sextets-append [] ys whole = refl
sextets-append (a ∷ []) ys whole = absurd (omega (arith, whole))
sextets-append (a ∷ b ∷ []) ys whole = absurd (omega (arith, whole))
sextets-append (a ∷ b ∷ c ∷ xs) ys whole =
    ap (λ (l : List ℕ). a / 4 ∷ (a % 4 * 16 + b / 16) ∷ (b % 16 * 4 + c / 64) ∷ c % 64 ∷ l) (sextets-append xs ys (omega (arith, whole)))

pub symbols-append : (xs ys : List ℕ) → length xs % 3 ≡ 0 → symbols_in (xs ++ ys) ≡ symbols_in xs ++ symbols_in ys
symbols-append xs ys whole = ap symbols_of (sextets-append xs ys whole) ∙ map-append (λ i. get_or standard.encode_table i 0) (sextets_of xs) (sextets_of ys)

pub length-symbols : (xs : List ℕ) → length (symbols_in xs) ≡ length xs / 3 * 4
length-symbols xs = length-map (sextets_of xs) (λ i. get_or standard.encode_table i 0) ∙ length-sextets xs

-- the base64 of whole groups
pub encoded : (xs : List ℕ) → length xs % 3 ≡ 0 → encode_symbols standard.encode_table xs ≡ symbols_in xs
unfolding sextets_of encode_symbols
encoded [] whole = refl
encoded (a ∷ []) whole = absurd (omega (arith, whole))
encoded (a ∷ b ∷ []) whole = absurd (omega (arith, whole))
encoded (a ∷ b ∷ c ∷ xs) whole =
    ap (λ (l : List ℕ). encode_group standard.encode_table a b c ++ l) (encoded xs (omega (arith, whole)))
