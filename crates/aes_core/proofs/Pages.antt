-- The first round on the counter blocks of a page, which differ in their last byte alone.
use Rattle.std.proofs.Common.{◌≡◌, ℕ, ◌+◌, ◌/◌, ◌%◌, ◌^◌, ◌<◌, Bool, true, false, List, [], ◌∷◌, ◌++◌, length, cond, map, get_or, bit_xor, eqb, refl, sym, ap, ◌∙◌, arith, length-append}
use Rattle.std.specs.List.{range_with_len}
use Rattle.std.specs.Int.{bytes_high_first, w32, to_be_bytes}
use Rattle.std.specs.Int.Bits.{xor_assoc, xor_self, xor_zero_r}
use Rattle.std.proofs.lemmas.Nat.{xor_comm, xor_lt}
use Rattle.std.proofs.lemmas.List.{get_or_append_left, get_or-append_right}
use Rattle.cipher_spec.specs.Field.{field_product, inverse, xtime}
use Rattle.cipher_spec.specs.Aes.{add_round_key, mix_columns, round, rounds, shift_rows, state_of, sub_byte}
use Rattle.cipher_spec.specs.Gcm.{counter}
use Rattle.cipher_spec.proofs.Computed.{same_below}
use Rattle.plane_core.specs.Bits.{mixed_byte}
use Rattle.plane_core.specs.Places.{shifted, below}
use Rattle.plane_core.proofs.States.{mix_is, same_state}
use Rattle.plane_core.proofs.WideBlocks.{each_of_sixteen}
use Rattle.aes_core.specs.Counters.{round_difference, column_byte, image, last_key_byte, page_bytes, page_state}
use Rattle.aes_core.proofs.Constants.{swap_inner, sub_byte_below}
use Rattle.aes_core.proofs.CounterBlocks.{counter-later, page_split}

-- ---- MixColumns of sums

-- twice a byte is its product with x
pub twice_is : (a : ℕ) → a < 256 → xtime a ≡ field_product 2 a
unfolding field_product
twice_is a h = same_below xtime (field_product 2) 256 tt a h

-- three times a byte is twice the byte, and the byte
pub triple_is : (a : ℕ) → a < 256 → field_product 3 a ≡ bit_xor (field_product 2 a) a
unfolding field_product
triple_is a h = same_below (field_product 3) (λ a. bit_xor (field_product 2 a) a) 256 tt a h

added_twice : (a b : ℕ) → bit_xor (bit_xor a b) b ≡ a
added_twice a b = xor_assoc a b b ∙ ap (bit_xor a) (xor_self b) ∙ xor_zero_r a

double_sum : (a b : ℕ) → a < 256 → b < 256 → field_product 2 (bit_xor a b) ≡ bit_xor (field_product 2 a) (field_product 2 b)
double_sum a b h l =
    let x = xtime (bit_xor a b) in
    let p = field_product 2 a in
    let q = field_product 2 b in
    let r = field_product 3 b in
    let mixed : bit_xor x b ≡ bit_xor p r = sym (xor_zero_r (bit_xor x b)) ∙ mix_is a b 0 0 h l ∙ xor_zero_r (bit_xor (bit_xor p r) 0) ∙ xor_zero_r (bit_xor p r) in
    sym (twice_is (bit_xor a b) (xor_lt 8 a b h l)) ∙ sym (added_twice x b) ∙ ap (λ n. bit_xor n b) (mixed ∙ ap (bit_xor p) (triple_is b l))
    ∙ xor_assoc p (bit_xor q b) b ∙ ap (bit_xor p) (added_twice q b)

triple_sum : (a b : ℕ) → a < 256 → b < 256 → field_product 3 (bit_xor a b) ≡ bit_xor (field_product 3 a) (field_product 3 b)
triple_sum a b h l =
    triple_is (bit_xor a b) (xor_lt 8 a b h l) ∙ ap (λ n. bit_xor n (bit_xor a b)) (double_sum a b h l)
    ∙ swap_inner (field_product 2 a) (field_product 2 b) a b
    ∙ ap (λ n. bit_xor n (bit_xor (field_product 2 b) b)) (sym (triple_is a h)) ∙ ap (bit_xor (field_product 3 a)) (sym (triple_is b l))

mixed_sum : (a b c d p q r s : ℕ) → a < 256 → b < 256 → p < 256 → q < 256
    → mixed_byte (bit_xor a p) (bit_xor b q) (bit_xor c r) (bit_xor d s) ≡ bit_xor (mixed_byte a b c d) (mixed_byte p q r s)
mixed_sum a b c d p q r s h l m n =
    let x = field_product 2 a in
    let y = field_product 3 b in
    let v = field_product 2 p in
    let w = field_product 3 q in
    rw (
      double_sum a p h m,
      triple_sum b q l n,
      swap_inner x v y w,
      swap_inner (bit_xor x y) (bit_xor v w) c r,
      swap_inner (bit_xor (bit_xor x y) c) (bit_xor (bit_xor v w) r) d s,
    ) refl

-- the same, of bytes that are sums
mixed_sums : (a b c d e f g h p q r s : ℕ) → a ≡ bit_xor e p → b ≡ bit_xor f q → c ≡ bit_xor g r → d ≡ bit_xor h s
    → e < 256 → f < 256 → p < 256 → q < 256 → mixed_byte a b c d ≡ bit_xor (mixed_byte e f g h) (mixed_byte p q r s)
mixed_sums a b c d e f g h p q r s is-a is-b is-c is-d small-e small-f small-p small-q =
    rw (is-a, is-b, is-c, is-d) (mixed_sum e f g h p q r s small-e small-f small-p small-q)

-- ---- a round

-- byte j after SubBytes
abbrev pub subbed : List ℕ → ℕ → ℕ
subbed s j = sub_byte (get_or s j 0)

xor_right_swapped : (a b c : ℕ) → bit_xor (bit_xor a b) c ≡ bit_xor (bit_xor a c) b
xor_right_swapped a b c = xor_assoc a b c ∙ ap (bit_xor a) (xor_comm b c) ∙ sym (xor_assoc a c b)

-- MixColumns of what ShiftRows brings to byte j
abbrev pub mixed_at : (ℕ → ℕ) → ℕ → ℕ
mixed_at f j = mixed_byte (f (shifted j)) (f (shifted (below 1 j))) (f (shifted (below 2 j))) (f (shifted (below 3 j)))

-- states for which SubBytes gives bytes that differ by f
pub round_apart : (x z k : List ℕ) (f : ℕ → ℕ) → ((j : ℕ) → f j < 256)
    → ((j : ℕ) → j < 16 → subbed x j ≡ bit_xor (subbed z j) (f j))
    → round x k ≡ add_round_key (round z k) (mix_columns (shift_rows (map f (range_with_len 0 16))))
unfolding round
round_apart x z k f small apart =
    let p = subbed x in
    let q = subbed z in
    let sum : (j : ℕ) → j < 16 → mixed_at p j ≡ bit_xor (mixed_at q j) (mixed_at f j) = λ j h.
    mixed_sums (p (shifted j)) (p (shifted (below 1 j))) (p (shifted (below 2 j))) (p (shifted (below 3 j)))
    (q (shifted j)) (q (shifted (below 1 j))) (q (shifted (below 2 j))) (q (shifted (below 3 j)))
    (f (shifted j)) (f (shifted (below 1 j))) (f (shifted (below 2 j))) (f (shifted (below 3 j)))
    (apart (shifted j) (omega arith)) (apart (shifted (below 1 j)) (omega arith)) (apart (shifted (below 2 j)) (omega arith)) (apart (shifted (below 3 j)) (omega arith))
    (sub_byte_below _) (sub_byte_below _) (small (shifted j)) (small (shifted (below 1 j))) in
    same_state (λ j. bit_xor (mixed_at p j) (get_or k j 0)) (λ j. bit_xor (bit_xor (mixed_at q j) (get_or k j 0)) (mixed_at f j))
    (λ j h. ap (λ n. bit_xor n (get_or k j 0)) (sum j h) ∙ xor_right_swapped (mixed_at q j) (mixed_at f j) (get_or k j 0))

-- y where p holds, and else 0
pub cond_below : (p : Bool) (y : ℕ) → y < 256 → cond p y 0 < 256
cond_below true y h = h
cond_below false y h = omega arith

-- ---- the first round

-- y in byte 15, and zeros else
abbrev pub lone : ℕ → ℕ → ℕ
lone y j = cond (eqb j 15) y 0

-- what the rest of the round makes of a lone byte
pub lone_column : (y : ℕ) → mix_columns (shift_rows (map (lone y) (range_with_len 0 16))) ≡ state_of (λ r c. cond (eqb c 0) (column_byte r y) 0)
unfolding field_product
lone_column y =
    let three = field_product 3 y in
    let two = field_product 2 y in
    same_state (mixed_at (lone y)) (λ j. cond (eqb (j / 4) 0) (column_byte (j % 4) y) 0)
    (each_of_sixteen (λ j. mixed_at (lone y) j ≡ cond (eqb (j / 4) 0) (column_byte (j % 4) y) 0)
    refl (xor_zero_r y) (xor_zero_r (bit_xor three 0) ∙ xor_zero_r three)
    (xor_zero_r (bit_xor (bit_xor two 0) 0) ∙ xor_zero_r (bit_xor two 0) ∙ xor_zero_r two)
    refl refl refl refl refl refl refl refl refl refl refl refl)

-- ---- the last byte

zero_subbed : sub_byte 0 ≡ 0x63
unfolding sub_byte inverse field_product
zero_subbed = refl

-- a byte of SubBytes without its constant
pub unmasked_below : (n : ℕ) → bit_xor (sub_byte n) 0x63 < 256
unmasked_below n = xor_lt 8 (sub_byte n) 0x63 (sub_byte_below n) (omega arith)

pub image_below : (k n : ℕ) → image k n < 256
unfolding image
image_below k n = unmasked_below (bit_xor n k)

-- the S-box at a byte, as a sum with that at 0
pub from_zero : (n : ℕ) → sub_byte n ≡ bit_xor (sub_byte 0) (bit_xor (sub_byte n) 0x63)
from_zero n =
    let s = sub_byte n in
    sym (ap (λ b. bit_xor b (bit_xor s 0x63)) zero_subbed ∙ xor_comm 0x63 (bit_xor s 0x63) ∙ xor_assoc s 0x63 0x63 ∙ xor_zero_r s)

-- the image of a byte, as a sum with that of 0
image_apart : (k n : ℕ) → sub_byte (bit_xor n k) ≡ bit_xor (sub_byte (bit_xor k k)) (image k n)
unfolding image
image_apart k n =
    from_zero (bit_xor n k) ∙ ap (λ b. bit_xor (sub_byte b) (bit_xor (sub_byte (bit_xor n k)) 0x63)) (sym (xor_self k))

-- a block with the first round key added
abbrev pub first_keyed : List (List ℕ) → List ℕ → List ℕ
first_keyed schedule x = add_round_key x (get_or schedule 0 [])

before_last : (schedule : List (List ℕ)) (front : List ℕ) (n m : ℕ) → length front ≡ 15 → (j : ℕ) → j < 15
    → sub_byte (bit_xor (get_or (front ++ n ∷ []) j 0) (get_or (get_or schedule 0 []) j 0))
    ≡ bit_xor (sub_byte (bit_xor (get_or (front ++ m ∷ []) j 0) (get_or (get_or schedule 0 []) j 0))) 0
before_last schedule front n m long j h =
    let left : (a : ℕ) → get_or (front ++ a ∷ []) j 0 ≡ get_or front j 0 = λ a. get_or_append_left front (a ∷ []) 0 j (omega arith) in
    let at = λ (b : ℕ). sub_byte (bit_xor b (get_or (get_or schedule 0 []) j 0)) in
    ap at (left n ∙ sym (left m)) ∙ sym (xor_zero_r (at (get_or (front ++ m ∷ []) j 0)))

-- the blocks of a page differ after SubBytes in the last byte's image alone
same_but_last : (schedule : List (List ℕ)) (front : List ℕ) (n : ℕ) → length front ≡ 15 → (j : ℕ) → j < 16
    → subbed (first_keyed schedule (front ++ n ∷ [])) j
    ≡ bit_xor (subbed (first_keyed schedule (front ++ last_key_byte schedule ∷ [])) j) (lone (image (last_key_byte schedule) n) j)
same_but_last schedule front n long =
    let k = last_key_byte schedule in
    let right : (a : ℕ) → get_or (front ++ a ∷ []) 15 0 ≡ a = λ a. get_or-append_right front (a ∷ []) 15 15 0 long (omega arith) in
    let same = before_last schedule front n k long in
    each_of_sixteen (λ j. subbed (first_keyed schedule (front ++ n ∷ [])) j ≡ bit_xor (subbed (first_keyed schedule (front ++ k ∷ [])) j) (lone (image k n) j))
    (same 0 (omega arith)) (same 1 (omega arith)) (same 2 (omega arith)) (same 3 (omega arith)) (same 4 (omega arith)) (same 5 (omega arith)) (same 6 (omega arith)) (same 7 (omega arith))
    (same 8 (omega arith)) (same 9 (omega arith)) (same 10 (omega arith)) (same 11 (omega arith)) (same 12 (omega arith)) (same 13 (omega arith)) (same 14 (omega arith))
    (ap (λ b. sub_byte (bit_xor b k)) (right n) ∙ image_apart k n ∙ ap (λ b. bit_xor (sub_byte (bit_xor b k)) (image k n)) (sym (right k)))

-- ---- a page

-- the state after round 1 of each block of a page: the page's, and what the last byte adds
pub page_law : (schedule : List (List ℕ)) (iv : List ℕ) (page n : ℕ) → length iv ≡ 12
    → rounds schedule (page_bytes iv page ++ n ∷ []) 1 ≡ add_round_key (page_state schedule iv page) (round_difference (last_key_byte schedule) n)
unfolding page_state round_difference rounds
page_law schedule iv page n long =
    let front = page_bytes iv page in
    let k = last_key_byte schedule in
    let size : length front ≡ 15 = length-append iv (bytes_high_first 3 page) ∙ ap (λ l. l + 3) long in
    let z = first_keyed schedule (front ++ k ∷ []) in
    let key = get_or schedule 1 [] in
    round_apart (first_keyed schedule (front ++ n ∷ [])) z key (lone (image k n)) (λ j. cond_below (eqb j 15) (image k n) (image_below k n)) (same_but_last schedule front n size)
    ∙ ap (add_round_key (round z key)) (lone_column (image k n))

-- a counter block of a group, by its page and its last byte
pub group_block : (iv : List ℕ) (count b page n : ℕ) → length iv ≡ 12 → count < 2 ^ 32 → count % 8 ≡ 2 → count % 2 ^ 8 < 250 → b < 8
    → page ≡ count / 2 ^ 8 → n ≡ (count + b) % 2 ^ 8
    → page_bytes iv page ++ n ∷ [] ≡ counter (iv ++ to_be_bytes w32 count) b
group_block iv count b page n long fits place inside few is-page is-n =
    let later = (count + b) % 2 ^ 32 in
    let same_page : page ≡ later / 2 ^ 8 = omega arith in
    let last : n ≡ later % 2 ^ 8 = omega arith in
    ap (λ m. page_bytes iv m ++ n ∷ []) same_page ∙ ap (λ m. page_bytes iv (later / 2 ^ 8) ++ m ∷ []) last
    ∙ sym (page_split iv later) ∙ counter-later iv count b long fits
