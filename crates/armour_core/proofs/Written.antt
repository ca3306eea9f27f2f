-- Lines that are written and read twelve bytes, or 16 characters, at a time.
use borrow.Rule.Slice.PartMut.{put_mid}
use lib.Count.{count_trailing_zeros}
use Rattle.std.proofs.Common.{◌≡◌, ℕ, zero, suc, ◌+◌, ◌-◌, ◌*◌, ◌/◌, ◌%◌, ◌^◌, ◌≤◌, eqb, Bool, true, false, not, cond, List, [], ◌∷◌, ◌++◌, length, map, take, drop, refl, sym, ap, ◌∙◌, inl, inr, arith, w8}
use Rattle.std.specs.List.{prefix_len}
use Rattle.std.specs.Simd.Lanes.{chunk, mask_l, put_chunk, top, zip2}
use Rattle.std.proofs.lemmas.Bool.{cases_Bool, eqb-true}
use Rattle.std.proofs.lemmas.List.{drop-drop, length-drop, length-take-le, take-append-drop, take_all, take_at}
use Rattle.std.proofs.lemmas.List.Sums.{prefix_len-le-length}
use Rattle.std.proofs.lemmas.Simd.{leading_from_mask_l, length-zip2, mask_l-mod, take_more_put_chunk, tops_compared, trailing_mask_l}
use Rattle.std.proofs.lemmas.Slice.{take-put_mid}
use Rattle.std.proofs.Math.Seq.{take-add, take-append-add}
use Rattle.armour_core.specs.Sextets.{AreGroups, sextets_of, symbols_in, symbols_of}
use Rattle.armour_core.proofs.Sixes.{length-symbols, symbols-append}

pub symbols_nil : symbols_in [] ≡ []
unfolding sextets_of
symbols_nil = refl

-- a shorter front
front_of : (n k : ℕ) (xs : List ℕ) → take n (take (n + k) xs) ≡ take n xs
front_of zero k xs = refl
front_of (suc n) k [] = let more : suc n + k ≡ suc (n + k) = omega arith in ap (λ (m : ℕ). take (suc n) (take m [])) more
front_of (suc n) k (x ∷ xs) =
    let more : suc n + k ≡ suc (n + k) = omega arith in
    ap (λ (m : ℕ). take (suc n) (take m (x ∷ xs))) more ∙ ap (λ (l : List ℕ). x ∷ l) (front_of n k xs)

-- ---- symbols that are written

-- twelve bytes more
pub twelve_put : (bytes text written : List ℕ) (from to : ℕ) → from + 16 ≤ length bytes → to + 16 ≤ length text → from % 3 ≡ 0 → take to text ≡ symbols_in (take from bytes)
    → written ≡ symbols_in (take 12 (chunk from 16 bytes)) → length written ≡ 16 → take (to + 16) (put_chunk to text written) ≡ symbols_in (take (from + 12) bytes)
twelve_put bytes text written from to within room groups front is size =
    let twelve : List ℕ = take 12 (drop from bytes) in
    let before : length (take from bytes) ≡ from = length-take-le from bytes (omega (arith, within)) in
    take_more_put_chunk to text written (to + 16) (omega (arith, size)) room
    ∙ ap (λ (x : List ℕ). x ++ written) front
    ∙ ap (λ (x : List ℕ). symbols_in (take from bytes) ++ x) (is ∙ ap symbols_in (front_of 12 4 (drop from bytes)))
    ∙ sym (symbols-append (take from bytes) twelve (omega (arith, groups, before)))
    ∙ ap symbols_in (sym (take-add from 12 bytes))

-- three bytes fewer than 48
pub fewer : (bytes text : List ℕ) → 48 ≤ length bytes → take 64 text ≡ symbols_in (take 48 bytes) → take 60 text ≡ symbols_in (take 45 bytes)
fewer bytes text within all =
    let front : List ℕ = take 45 bytes in
    let size : length front ≡ 45 = length-take-le 45 bytes (omega (arith, within)) in
    let long : length (symbols_in front) ≡ 60 = length-symbols front ∙ omega (arith, size) in
    sym (front_of 60 4 text) ∙ ap (take 60) (all ∙ ap symbols_in (take-add 45 3 bytes) ∙ symbols-append front (take 3 (drop 45 bytes)) (omega (arith, size)))
    ∙ take_at (symbols_in front) (symbols_in (take 3 (drop 45 bytes))) 60 long

-- the last twelve of a line
pub last_put : (bytes text last written : List ℕ) → length bytes ≡ 57 → 76 ≤ length text → take 60 text ≡ symbols_in (take 45 bytes) → take 12 last ≡ drop 4 (chunk 41 16 bytes)
    → written ≡ symbols_in (take 12 last) → length written ≡ 16 → take 76 (put_chunk 60 text written) ≡ symbols_in bytes
last_put bytes text last written full room front twelve is size =
    let before : length (take 45 bytes) ≡ 45 = length-take-le 45 bytes (omega (arith, full)) in
    let rest : drop 4 (chunk 41 16 bytes) ≡ drop 45 bytes = ap (drop 4) (take_all 16 (drop 41 bytes) (omega (arith, full, length-drop 41 bytes))) ∙ drop-drop 4 41 bytes in
    take_more_put_chunk 60 text written 76 (omega (arith, size)) room
    ∙ ap (λ (x : List ℕ). x ++ written) front
    ∙ ap (λ (x : List ℕ). symbols_in (take 45 bytes) ++ x) (is ∙ ap symbols_in (twelve ∙ rest))
    ∙ sym (symbols-append (take 45 bytes) (drop 45 bytes) (omega (arith, before)))
    ∙ ap symbols_in (take-append-drop 45 bytes)

-- ---- bytes that are written

abbrev differs : ℕ → ℕ → Bool
differs a b = not (eqb a b)

-- the lanes before the first that differs
same_front : (xs ys : List ℕ) (n : ℕ) → length xs ≡ length ys → n ≤ prefix_len not (zip2 differs xs ys) → take n xs ≡ take n ys
same_front xs ys zero size within = refl
same_front [] [] (suc n) size within = refl
same_front [] (y ∷ ys) (suc n) size within = absurd (omega (arith, size))
same_front (x ∷ xs) [] (suc n) size within = absurd (omega (arith, size))
same_front (x ∷ xs) (y ∷ ys) (suc n) size within =
    let rest : ℕ = prefix_len not (zip2 differs xs ys) in
    let count : Bool → ℕ = λ b. cond (not (not b)) (1 + rest) 0 in
    elim (cases_Bool (eqb x y)) [
      | inl same ↦
          let more : count (eqb x y) ≡ count true = ap count same in
          ap (λ (z : ℕ). z ∷ take n xs) (eqb-true x y same) ∙ ap (λ (zs : List ℕ). y ∷ zs) (same_front xs ys n (omega (arith, size)) (omega (arith, within, more)))
      | inr other ↦
          let none : count (eqb x y) ≡ count false = ap count other in
          absurd (omega (arith, within, none))
    ]

each : (ms : List Bool) → map (λ b. b) ms ≡ ms
each [] = refl
each (m ∷ ms) = ap (λ (xs : List Bool). m ∷ xs) (each ms)

-- the mask of a comparison of all lanes
abbrev pub differing : List ℕ → List ℕ → ℕ
differing xs ys = mask_l (map (top 7) (zip2 (λ a b. cond (differs a b) 255 0) xs ys)) % 2 ^ 64

module _ (xs ys : List ℕ) (size : length xs ≡ length ys) (few : length xs ≤ 64) where
  abbrev tests : List Bool
  tests = zip2 differs xs ys

  long : length tests ≡ length xs
  long = length-zip2 differs xs ys size

  mask_is : differing xs ys ≡ mask_l (map (λ b. b) tests)
  mask_is = ap (λ (ms : List Bool). mask_l ms % 2 ^ 64) (tops_compared w8 differs xs ys) ∙ mask_l-mod tests 64 (omega (arith, long, few)) ∙ ap mask_l (sym (each tests))

  -- what it says
  pub no_difference : differing xs ys ≡ 0 → xs ≡ ys
  no_difference none =
      let all : prefix_len not tests ≡ length tests = leading_from_mask_l (λ b. b) tests (sym mask_is ∙ none) in
      sym (take_all (length xs) xs (omega arith)) ∙ same_front xs ys (length xs) size (omega (arith, all, long)) ∙ take_all (length xs) ys (omega (arith, size))

  first_difference : (differing xs ys ≡ 0 → ⊥) → count_trailing_zeros 64 (differing xs ys) ≡ prefix_len not tests
  first_difference some = ap (count_trailing_zeros 64) mask_is ∙ trailing_mask_l (λ b. b) 64 tests (omega (arith, long, few)) (omega (arith, some, mask_is))

  -- the groups of four lanes before the first difference
  pub same_groups : (differing xs ys ≡ 0 → ⊥) → take (4 * (count_trailing_zeros 64 (differing xs ys) / 4)) xs ≡ take (4 * (count_trailing_zeros 64 (differing xs ys) / 4)) ys
  same_groups some = same_front xs ys (4 * (count_trailing_zeros 64 (differing xs ys) / 4)) size (omega (arith, first_difference some))

  pub few_groups : length xs ≡ 16 → (differing xs ys ≡ 0 → ⊥) → count_trailing_zeros 64 (differing xs ys) / 4 ≤ 4
  few_groups sixteen some = omega (arith, first_difference some, prefix_len-le-length not tests, long, sixteen)

-- twelve bytes at the front of 16 that were written, or of a part that was
pub chunk_written : (bytes packed : List ℕ) (to : ℕ) → length packed ≡ 16 → to + 16 ≤ length bytes → take (to + 12) (put_chunk to bytes packed) ≡ take to bytes ++ take 12 packed
chunk_written bytes packed to long room =
    let front : List ℕ = take to bytes in
    let before : length front ≡ to = length-take-le to bytes (omega (arith, room)) in
    let all : List ℕ = put_chunk to bytes packed in
    let more : to + 12 + 4 ≡ to + 16 = omega arith in
    sym (front_of (to + 12) 4 all) ∙ ap (λ (n : ℕ). take (to + 12) (take n all)) more ∙ ap (take (to + 12)) (take_more_put_chunk to bytes packed (to + 16) (omega (arith, long)) room)
    ∙ ap (λ (n : ℕ). take (n + 12) (front ++ packed)) (sym before) ∙ take-append-add front packed 12

pub part_written : (bytes copied packed : List ℕ) (to k : ℕ) → copied ≡ take 12 packed → length packed ≡ 16 → to ≤ length bytes → take (to + 12) (put_mid to k bytes copied) ≡ take to bytes ++ take 12 packed
part_written bytes copied packed to k copy long room =
    let twelve : length copied ≡ 12 = ap length copy ∙ length-take-le 12 packed (omega (arith, long)) in
    take-put_mid to k bytes copied (to + 12) (omega (arith, twelve)) room ∙ ap (λ (x : List ℕ). take to bytes ++ x) copy

-- the symbols of a front
front_symbols : (count : ℕ) (xs : List ℕ) → 3 * count ≤ length xs → symbols_in (take (3 * count) xs) ≡ take (4 * count) (symbols_in xs)
front_symbols count xs within =
    let front : List ℕ = take (3 * count) xs in
    let size : length front ≡ 3 * count = length-take-le (3 * count) xs within in
    let long : length (symbols_in front) ≡ 4 * count = length-symbols front ∙ omega (arith, size) in
    sym (ap (take (4 * count)) (ap symbols_in (sym (take-append-drop (3 * count) xs)) ∙ symbols-append front (drop (3 * count) xs) (omega (arith, size)))
    ∙ take_at (symbols_in front) (symbols_in (drop (3 * count) xs)) (4 * count) long)

-- fewer groups
pub fewer_groups : (count more : ℕ) (characters bytes : List ℕ) → 3 * (count + more) ≤ length bytes → AreGroups (count + more) characters bytes → AreGroups count characters bytes
fewer_groups count more characters bytes within all =
    let n : ℕ = 3 * (count + more) in
    let size : length (take n bytes) ≡ n = length-take-le n bytes within in
    let three : 3 * count + 3 * more ≡ n = omega arith in
    let four : 4 * count + 4 * more ≡ 4 * (count + more) = omega arith in
    ap symbols_in (sym (front_of (3 * count) (3 * more) bytes) ∙ ap (λ (m : ℕ). take (3 * count) (take m bytes)) three)
    ∙ front_symbols count (take n bytes) (omega (arith, size))
    ∙ ap (take (4 * count)) (all ∙ ap (λ (m : ℕ). take m characters) (sym four))
    ∙ front_of (4 * count) (4 * more) characters

-- up to four groups more
pub groups_put : (characters bytes new packed numbers : List ℕ) (done count : ℕ) → 3 * done ≤ length bytes → AreGroups done characters bytes
    → take (3 * done + 12) new ≡ take (3 * done) bytes ++ take 12 packed → length packed ≡ 16 → sextets_of (take 12 packed) ≡ numbers
    → take (4 * count) (symbols_of numbers) ≡ take (4 * count) (take 16 (drop (4 * done) characters)) → count ≤ 4 → AreGroups (done + count) characters new
groups_put characters bytes new packed numbers done count room front written long six same few =
    let twelve : List ℕ = take 12 packed in
    let before : length (take (3 * done) bytes) ≡ 3 * done = length-take-le (3 * done) bytes room in
    let size : length twelve ≡ 12 = length-take-le 12 packed (omega (arith, long)) in
    let three : 3 * (done + count) ≡ 3 * done + 3 * count = omega arith in
    let four : 4 * (done + count) ≡ 4 * done + 4 * count = omega arith in
    let rest : 3 * done + 3 * count + (12 - 3 * count) ≡ 3 * done + 12 = omega (arith, few) in
    let sixteen : 4 * count + (16 - 4 * count) ≡ 16 = omega (arith, few) in
    let cut : take (3 * (done + count)) new ≡ take (3 * done) bytes ++ take (3 * count) twelve =
    ap (λ (m : ℕ). take m new) three ∙ sym (front_of (3 * done + 3 * count) (12 - 3 * count) new) ∙ ap (λ (m : ℕ). take (3 * done + 3 * count) (take m new)) rest ∙ ap (take (3 * done + 3 * count)) written
    ∙ ap (λ (m : ℕ). take (m + 3 * count) (take (3 * done) bytes ++ twelve)) (sym before) ∙ take-append-add (take (3 * done) bytes) twelve (3 * count) in
    let good : symbols_in (take (3 * count) twelve) ≡ take (4 * count) (drop (4 * done) characters) =
    front_symbols count twelve (omega (arith, size, few)) ∙ ap (λ (x : List ℕ). take (4 * count) (symbols_of x)) six ∙ same
    ∙ ap (λ (m : ℕ). take (4 * count) (take m (drop (4 * done) characters))) (sym sixteen) ∙ front_of (4 * count) (16 - 4 * count) (drop (4 * done) characters) in
    ap symbols_in cut
    ∙ symbols-append (take (3 * done) bytes) (take (3 * count) twelve) (omega (arith, before))
    ∙ ap (λ (x : List ℕ). x ++ symbols_in (take (3 * count) twelve)) front
    ∙ ap (λ (x : List ℕ). take (4 * done) characters ++ x) good
    ∙ sym (take-add (4 * done) (4 * count) characters)
    ∙ ap (λ (m : ℕ). take m characters) (sym four)
