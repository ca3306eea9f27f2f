-- Round 2 on the counter blocks of a page, and the planes that have its images.
use Rattle.std.proofs.Common.{◌≡◌, ℕ, ◌+◌, ◌-◌, ◌*◌, ◌/◌, ◌%◌, ◌^◌, ◌<◌, List, [], ◌∷◌, ◌++◌, length, cond, map, get_or, bit_xor, eqb, w8, refl, sym, ap, ◌∙◌, arith}
use Rattle.std.specs.List.{range_with_len}
use Rattle.std.specs.Int.Bits.{xor_zero_r}
use Rattle.std.proofs.lemmas.List.FromFn.{get_or-map-range_with_len}
use Rattle.std.proofs.lemmas.Simd.{SwzOk}
use Rattle.cipher_spec.specs.Field.{field_product}
use Rattle.cipher_spec.specs.Aes.{add_round_key, at, mix_columns, round, rounds, shift_rows, state_of, sub_byte, word_at}
use Rattle.plane_core.specs.declared.planes.Planes.{Planes}
use Rattle.plane_core.specs.Bits.{block, byte_of, mixed_byte}
use Rattle.plane_core.specs.Places.{lane, lane_bit}
use Rattle.plane_core.proofs.Blocks.{each_of_four}
use Rattle.plane_core.proofs.States.{same_state}
use Rattle.plane_core.proofs.WideBlocks.{each_of_sixteen}
use Rattle.aes_core.specs.Column.{share}
use Rattle.aes_core.specs.Counters.{round_difference, column_byte, four_times, image, lane_byte, last_byte, last_key_byte, page_bytes, page_rest, page_state, quad_images, row_for, second_image, spread, without_column}
use Rattle.aes_core.specs.declared.second_round.TheConstants.{ONCE, TWICE}
use Rattle.aes_core.proofs.ImagePlanes.{lane_at, once_from, state_byte, state_from, twice_from}
use Rattle.aes_core.proofs.Pages.{cond_below, from_zero, mixed_at, page_law, round_apart, subbed, unmasked_below}
use Rattle.aes_core.proofs.Positions.{same_within}

-- ---- ShiftRows and MixColumns on column 0

-- f r in row r of column 0, and zeros elsewhere
abbrev pub in_column : (ℕ → ℕ) → ℕ → ℕ
in_column f j = cond (eqb (j / 4) 0) (f (j % 4)) 0

-- by how many rows byte j is above the one that ShiftRows moves to its column
abbrev pub rows_above : ℕ → ℕ
rows_above j = (row_for (j / 4) + 4 - j % 4) % 4

spread_is : (f : ℕ → ℕ) → mix_columns (shift_rows (map (in_column f) (range_with_len 0 16))) ≡ spread f
unfolding field_product
spread_is f =
    let own : (y : ℕ) → mixed_byte y 0 0 0 ≡ field_product 2 y = λ y.
    xor_zero_r (bit_xor (bit_xor (field_product 2 y) 0) 0) ∙ xor_zero_r (bit_xor (field_product 2 y) 0) ∙ xor_zero_r (field_product 2 y) in
    let next : (y : ℕ) → mixed_byte 0 y 0 0 ≡ field_product 3 y = λ y. xor_zero_r (bit_xor (field_product 3 y) 0) ∙ xor_zero_r (field_product 3 y) in
    let third : (y : ℕ) → mixed_byte 0 0 y 0 ≡ y = λ y. xor_zero_r y in
    let last : (y : ℕ) → mixed_byte 0 0 0 y ≡ y = λ y. refl in
    same_state (mixed_at (in_column f)) (λ j. share (rows_above j) (f (row_for (j / 4))))
    (each_of_sixteen (λ j. mixed_at (in_column f) j ≡ share (rows_above j) (f (row_for (j / 4))))
    (own (f 0)) (last (f 0)) (third (f 0)) (next (f 0))
    (last (f 3)) (third (f 3)) (next (f 3)) (own (f 3))
    (third (f 2)) (next (f 2)) (own (f 2)) (last (f 2))
    (next (f 1)) (own (f 1)) (last (f 1)) (third (f 1)))

pub same_spread : (f g : ℕ → ℕ) → ((r : ℕ) → r < 4 → f r ≡ g r) → spread f ≡ spread g
same_spread f g e =
    same_state (λ j. share (rows_above j) (f (row_for (j / 4)))) (λ j. share (rows_above j) (g (row_for (j / 4)))) (λ j h.
    ap (share (rows_above j)) (e (row_for (j / 4)) (omega arith)))

-- ---- a page

second_image_below : (k : ℕ) (s : List ℕ) (n r : ℕ) → second_image k s n r < 256
unfolding second_image
second_image_below k s n r = unmasked_below _

-- the states of a page after round 1 differ after SubBytes in the images of column 0 alone
column_apart : (k n : ℕ) (s : List ℕ) (j : ℕ) → j < 16
    → subbed (add_round_key s (round_difference k n)) j ≡ bit_xor (subbed (without_column s) j) (in_column (second_image k s n) j)
unfolding round_difference second_image
column_apart k n s =
    let varied : (r : ℕ) → sub_byte (bit_xor (get_or s r 0) (column_byte r (image k n))) ≡ bit_xor (sub_byte 0) (bit_xor (sub_byte (bit_xor (get_or s r 0) (column_byte r (image k n)))) 0x63) = λ r.
    from_zero (bit_xor (get_or s r 0) (column_byte r (image k n))) in
    let same : (j : ℕ) → sub_byte (bit_xor (get_or s j 0) 0) ≡ bit_xor (sub_byte (get_or s j 0)) 0 = λ j.
    ap sub_byte (xor_zero_r (get_or s j 0)) ∙ sym (xor_zero_r (sub_byte (get_or s j 0))) in
    each_of_sixteen (λ j. subbed (add_round_key s (round_difference k n)) j ≡ bit_xor (subbed (without_column s) j) (in_column (second_image k s n) j))
    (varied 0) (varied 1) (varied 2) (varied 3) (same 4) (same 5) (same 6) (same 7) (same 8) (same 9) (same 10) (same 11) (same 12) (same 13) (same 14) (same 15)

two_rounds : (schedule : List (List ℕ)) (x : List ℕ) → rounds schedule x 2 ≡ round (rounds schedule x 1) (word_at schedule 2)
unfolding rounds
two_rounds schedule x = refl

-- the state after round 2 of each block of a page
pub second_law : (schedule : List (List ℕ)) (iv : List ℕ) (page n : ℕ) → length iv ≡ 12
    → rounds schedule (page_bytes iv page ++ n ∷ []) 2
    ≡ add_round_key (page_rest schedule iv page) (spread (second_image (last_key_byte schedule) (page_state schedule iv page) n))
unfolding page_rest
second_law schedule iv page n long =
    let k = last_key_byte schedule in
    let s = page_state schedule iv page in
    let key = word_at schedule 2 in
    let f = second_image k s n in
    two_rounds schedule (page_bytes iv page ++ n ∷ []) ∙ ap (λ t. round t key) (page_law schedule iv page n long)
    ∙ round_apart (add_round_key s (round_difference k n)) (without_column s) key (in_column f) (λ j. cond_below (eqb (j / 4) 0) (f (j % 4)) (second_image_below k s n (j % 4))) (column_apart k n s)
    ∙ ap (add_round_key (round (without_column s) key)) (spread_is f)

-- the same of a group in planes, by the images of its quad
pub group_law : (schedule : List (List ℕ)) (iv x y z : List ℕ) (page q t b : ℕ) → length iv ≡ 12 → t < 4
    → z ≡ add_round_key x (spread (λ r. at y r t)) → x ≡ page_rest schedule iv page
    → y ≡ quad_images (last_key_byte schedule) (page_state schedule iv page) q b
    → z ≡ rounds schedule (page_bytes iv page ++ last_byte q t b ∷ []) 2
group_law schedule iv x y z page q t b long few is-z is-x is-y =
    let f = λ (r c : ℕ). second_image (last_key_byte schedule) (page_state schedule iv page) (last_byte q c b) r in
    let image : (r : ℕ) → r < 4 → at y r t ≡ f r t = λ r h.
    let row : (r + 4 * t) % 4 ≡ r = omega arith in
    let column : (r + 4 * t) / 4 ≡ t = omega arith in
    ap (λ l. at l r t) is-y ∙ get_or-map-range_with_len (λ k. f (k % 4) (k / 4)) 0 16 (r + 4 * t) (r + 4 * t) 0 (omega arith) (omega arith)
    ∙ ap (λ i. f i ((r + 4 * t) / 4)) row ∙ ap (f r) column in
    is-z ∙ ap (λ u. add_round_key u (spread (λ r. at y r t))) is-x
    ∙ ap (add_round_key (page_rest schedule iv page)) (same_spread (λ r. at y r t) (λ r. f r t) image)
    ∙ sym (second_law schedule iv page (last_byte q t b) long)

-- ---- a quad's images

-- the S-box's images of column 0 and what the last bytes add to it
pub images_block : (c t x y : Planes (List ℕ)) (s : List ℕ) (k q b : ℕ) → block lane_bit c b ≡ four_times s
    → block lane_bit t b ≡ state_of (λ r c. column_byte r (image k (last_byte q c b)))
    → ((j b : ℕ) → byte_of lane_bit x j b ≡ bit_xor (byte_of lane_bit c j b) (byte_of lane_bit t j b))
    → ((j b : ℕ) → byte_of lane_bit y j b ≡ bit_xor (sub_byte (byte_of lane_bit x j b)) 0x63)
    → block lane_bit y b ≡ quad_images k s q b
unfolding second_image
images_block c t x y s k q b is-c is-t summed subbed =
    state_from y (λ r c. bit_xor (sub_byte (bit_xor (at s r 0) (column_byte r (image k (last_byte q c b))))) 0x63) b (λ j h.
    subbed j b ∙ ap (λ a. bit_xor (sub_byte a) 0x63) (summed j b
    ∙ ap (λ a. bit_xor a (byte_of lane_bit t j b)) (state_byte c (λ r c. at s r 0) j b h is-c)
    ∙ ap (bit_xor (at s (j % 4) 0)) (state_byte t (λ r c. column_byte r (image k (last_byte q c b))) j b h is-t)))

-- ---- the lanes of a group

-- the lanes of group t, from those of group 0
abbrev pub group_lanes : ℕ → List ℕ → List ℕ
group_lanes t from = map (λ n. (n + t) % 2 ^ 8) from

pub once_at : (t j : ℕ) → t < 4 → j < 16 → get_or (group_lanes t ONCE) (lane j) 0 ≡ once_from (rows_above j) (4 * row_for (j / 4) + t) (0x80 + t)
once_at t j h l =
    same_within (λ t j. get_or (group_lanes t ONCE) (lane j) 0) (λ t j. once_from (rows_above j) (4 * row_for (j / 4) + t) (0x80 + t)) 4 16 tt t j h l

pub twice_at : (t j : ℕ) → t < 4 → j < 16 → get_or (group_lanes t TWICE) (lane j) 0 ≡ twice_from (rows_above j) (4 * row_for (j / 4) + t) (0x80 + t)
twice_at t j h l =
    same_within (λ t j. get_or (group_lanes t TWICE) (lane j) 0) (λ t j. twice_from (rows_above j) (4 * row_for (j / 4) + t) (0x80 + t)) 4 16 tt t j h l

-- each lane is there, or is to be zero
pub once_ok : (t : ℕ) → t < 4 → SwzOk w8 16 16 0 (group_lanes t ONCE)
once_ok t h = each_of_four (λ t. SwzOk w8 16 16 0 (group_lanes t ONCE)) (tt, (tt, (tt, (tt, (tt, (tt, (tt, (tt, (tt, (tt, (tt, (tt, (tt, (tt, (tt, (tt, tt)))))))))))))))) (tt, (tt, (tt, (tt, (tt, (tt, (tt, (tt, (tt, (tt, (tt, (tt, (tt, (tt, (tt, (tt, tt)))))))))))))))) (tt, (tt, (tt, (tt, (tt, (tt, (tt, (tt, (tt, (tt, (tt, (tt, (tt, (tt, (tt, (tt, tt)))))))))))))))) (tt, (tt, (tt, (tt, (tt, (tt, (tt, (tt, (tt, (tt, (tt, (tt, (tt, (tt, (tt, (tt, tt)))))))))))))))) t h

pub twice_ok : (t : ℕ) → t < 4 → SwzOk w8 16 16 0 (group_lanes t TWICE)
twice_ok t h = each_of_four (λ t. SwzOk w8 16 16 0 (group_lanes t TWICE)) (tt, (tt, (tt, (tt, (tt, (tt, (tt, (tt, (tt, (tt, (tt, (tt, (tt, (tt, (tt, (tt, tt)))))))))))))))) (tt, (tt, (tt, (tt, (tt, (tt, (tt, (tt, (tt, (tt, (tt, (tt, (tt, (tt, (tt, (tt, tt)))))))))))))))) (tt, (tt, (tt, (tt, (tt, (tt, (tt, (tt, (tt, (tt, (tt, (tt, (tt, (tt, (tt, (tt, tt)))))))))))))))) (tt, (tt, (tt, (tt, (tt, (tt, (tt, (tt, (tt, (tt, (tt, (tt, (tt, (tt, (tt, (tt, tt)))))))))))))))) t h

-- what a group's images add
pub spread_block : (x y : Planes (List ℕ)) (t b : ℕ) → t < 4
    → ((j : ℕ) → j < 16 → byte_of lane_bit y j b ≡ share (rows_above j) (lane_byte x (4 * row_for (j / 4) + t) b))
    → block lane_bit y b ≡ spread (λ r. at (block lane_bit x b) r t)
spread_block x y t b few e =
    state_from y (λ r c. share ((row_for c + 4 - r) % 4) (at (block lane_bit x b) (row_for c) t)) b (λ j h.
    e j h ∙ ap (share (rows_above j)) (lane_at x (row_for (j / 4)) t b (omega arith) few))
