-- The S-box by groups of four bits, computed at each byte; and vectors lane by lane.
use Rattle.std.proofs.Common.{◌≡◌, ℕ, ◌+◌, ◌*◌, ◌/◌, ◌%◌, ◌<◌, ◌||◌, T, List, cond, leb, ltb, length, map, replicate, get_or, bit_xor, Fits, w8, refl, sym, ap, subst, ◌∙◌, arith}
use Rattle.std.specs.Int.Bits.{xor_assoc}
use Rattle.std.specs.List.{range_with_len}
use Rattle.std.specs.Simd.Lanes.{Each1, zip2}
use Rattle.std.proofs.lemmas.List.{get_or-map}
use Rattle.std.proofs.lemmas.List.FromFn.{fill_by_all}
use Rattle.std.proofs.lemmas.Nat.{xor_comm, xor_mod, xor_shr}
use Rattle.std.proofs.lemmas.Simd.{swz_l, SwzOk, SwzOk-from_Each1, Each1-from_get_or, Each1-get_or, get_or-swz_l, get_or-zip2, length-zip2, zip2_splat}
use Rattle.cipher_spec.specs.Field.{field_product, inverse}
use Rattle.cipher_spec.specs.Aes.{sub_byte}
use Rattle.plane_core.specs.Bits.{mixed_byte}
use Rattle.plane_core.proofs.States.{same_state}
use Rattle.cipher_spec.proofs.Computed.{holds_below, at_each, same_below}
use Rattle.aes_core.specs.declared.sbox.TheConstants.{BACK_FROM_LOWER, BACK_FROM_UPPER, FROM_FIRST, FROM_LOWER, FROM_SECOND, FROM_UPPER, ONCE_FROM_FIRST, ONCE_FROM_SECOND, TWICE_FROM_FIRST, TWICE_FROM_SECOND}
use Rattle.aes_core.proofs.Constants.{swap_inner}
use Rattle.aes_core.proofs.Pages.{triple_is}
use Rattle.aes_core.proofs.Positions.{same_within}
use Rattle.aes_core.specs.Groups.{AreEntries, table_entry, first_quotient, out_of_basis, second_quotient, state_in}

-- ---- vectors lane by lane

pub lane_of_two : (f : ℕ → ℕ → ℕ) (x y : List ℕ) (p : ℕ) → length x ≡ 16 → length y ≡ 16 → p < 16 → get_or (zip2 f x y) p 0 ≡ f (get_or x p 0) (get_or y p 0)
lane_of_two f x y p h l within = get_or-zip2 f x y p 0 0 0 (omega arith) (omega arith)

pub lane_of_one : (f : ℕ → ℕ → ℕ) (x : List ℕ) (p n : ℕ) → length x ≡ 16 → p < 16 → get_or (zip2 f x (replicate 16 n)) p 0 ≡ f (get_or x p 0) n
lane_of_one f x p n long within =
    ap (λ l. get_or l p 0) (zip2_splat f x 16 n long) ∙ get_or-map (λ a. f a n) x p 0 0 (omega arith)

pub long_of_two : (f : ℕ → ℕ → ℕ) (x y : List ℕ) → length x ≡ 16 → length y ≡ 16 → length (zip2 f x y) ≡ 16
long_of_two f x y h l = length-zip2 f x y (h ∙ sym l) ∙ h

pub lane_below : (x : List ℕ) (p : ℕ) → length x ≡ 16 → Each1 (Fits w8) x → p < 16 → get_or x p 0 < 256
lane_below x p long h within = (Each1-get_or (Fits w8) x p 0 (omega (arith, long)) h).fits

-- ---- look-ups

-- what a shuffle asks
pub are_entries : (at : List ℕ) → length at ≡ 16 → AreEntries at → SwzOk w8 16 16 0 at
are_entries at long h =
    SwzOk-from_Each1 w8 16 1 16 0 at refl (omega (arith, long)) (Each1-from_get_or (λ n. T (leb 0x80 n || ltb n 16)) at 0 (λ p l. h p (omega (arith, long))))

pub looked_up : (table at : List ℕ) (p : ℕ) → length at ≡ 16 → p < 16 → get_or (swz_l w8 16 table 0 at) p 0 ≡ table_entry table (get_or at p 0)
looked_up table at p long h =
    let n = get_or at p 0 in
    let e : 16 * ((0 + p) / 16) + n ≡ n = omega arith in
    get_or-swz_l w8 16 table 0 at p (omega (arith, long)) ∙ ap (λ i. cond (leb 0x80 n) 0 (get_or table i 0)) e

-- an entry's number, or none, as it was computed for each byte
pub is_entry : (f : ℕ → ℕ) → T (holds_below (λ b. leb 0x80 (f b) || ltb (f b) 16) 256) → (b n : ℕ) → b < 256 → n ≡ f b → T (leb 0x80 n || ltb n 16)
is_entry f computed b n h e = subst (λ n. T (leb 0x80 n || ltb n 16)) (sym e) (at_each (λ b. leb 0x80 (f b) || ltb (f b) 16) 256 computed b h)

-- ---- the other basis

lower_sum : (m n : ℕ) → m < 16 → n < 16 → table_entry BACK_FROM_LOWER (bit_xor m n) ≡ bit_xor (table_entry BACK_FROM_LOWER m) (table_entry BACK_FROM_LOWER n)
lower_sum m n h l = same_within (λ m n. table_entry BACK_FROM_LOWER (bit_xor m n)) (λ m n. bit_xor (table_entry BACK_FROM_LOWER m) (table_entry BACK_FROM_LOWER n)) 16 16 tt m n h l

upper_sum : (m n : ℕ) → m < 16 → n < 16 → table_entry BACK_FROM_UPPER (bit_xor m n) ≡ bit_xor (table_entry BACK_FROM_UPPER m) (table_entry BACK_FROM_UPPER n)
upper_sum m n h l = same_within (λ m n. table_entry BACK_FROM_UPPER (bit_xor m n)) (λ m n. bit_xor (table_entry BACK_FROM_UPPER m) (table_entry BACK_FROM_UPPER n)) 16 16 tt m n h l

-- a sum in the other basis is the sum
pub out_sum : (a b : ℕ) → out_of_basis (bit_xor a b) ≡ bit_xor (out_of_basis a) (out_of_basis b)
unfolding out_of_basis
out_sum a b =
    let low : bit_xor a b % 16 ≡ bit_xor (a % 16) (b % 16) = xor_mod a b 4 in
    let high : bit_xor a b / 16 % 16 ≡ bit_xor (a / 16 % 16) (b / 16 % 16) = ap (λ n. n % 16) (xor_shr a b 4) ∙ xor_mod (a / 16) (b / 16) 4 in
    rw (low, high, lower_sum (a % 16) (b % 16) (omega arith) (omega arith), upper_sum (a / 16 % 16) (b / 16 % 16) (omega arith) (omega arith))
    (swap_inner (table_entry BACK_FROM_LOWER (a % 16)) (table_entry BACK_FROM_LOWER (b % 16)) (table_entry BACK_FROM_UPPER (a / 16 % 16)) (table_entry BACK_FROM_UPPER (b / 16 % 16)))

-- a byte in the other basis
abbrev pub in_basis : ℕ → ℕ
in_basis b = bit_xor (table_entry FROM_LOWER (b % 16)) (table_entry FROM_UPPER (b / 16))

-- a byte that goes there comes back
pub out_in : (b : ℕ) → b < 256 → out_of_basis (in_basis b) ≡ b
unfolding out_of_basis
out_in b h = same_below (λ b. out_of_basis (in_basis b)) (λ b. b) 256 tt b h

-- a block whose bytes stand in the other basis of a vector
pub state_of_lanes : (v x : List ℕ) → ((p : ℕ) → p < 16 → out_of_basis (get_or v p 0) ≡ get_or x p 0) → state_in v ≡ map (λ j. get_or x j 0) (range_with_len 0 16)
unfolding state_in
state_of_lanes v x e = same_state (λ j. out_of_basis (get_or v j 0)) (λ j. get_or x j 0) e

pub lanes_of_state : (v x : List ℕ) → length x ≡ 16 → ((p : ℕ) → p < 16 → get_or x p 0 ≡ out_of_basis (get_or v p 0)) → x ≡ state_in v
unfolding state_in
lanes_of_state v x long e = fill_by_all (λ j. out_of_basis (get_or v j 0)) x 16 0 long e

-- ---- images

-- what tables have for the two quotients of a byte in the other basis
abbrev pub by_quotients : List ℕ → List ℕ → ℕ → ℕ
by_quotients first second b = bit_xor (table_entry first (first_quotient b)) (table_entry second (second_quotient b))

-- the S-box's image of a byte in the other basis, but for the constant
abbrev pub plain_image : ℕ → ℕ
plain_image b = bit_xor (sub_byte (out_of_basis b)) 0x63

pub image_is : (b : ℕ) → b < 256 → by_quotients FROM_FIRST FROM_SECOND b ≡ plain_image b
unfolding sub_byte inverse field_product out_of_basis first_quotient second_quotient
image_is b h = same_below (by_quotients FROM_FIRST FROM_SECOND) plain_image 256 tt b h

pub once_is : (b : ℕ) → b < 256 → out_of_basis (by_quotients ONCE_FROM_FIRST ONCE_FROM_SECOND b) ≡ plain_image b
unfolding sub_byte inverse field_product out_of_basis first_quotient second_quotient
once_is b h = same_below (λ b. out_of_basis (by_quotients ONCE_FROM_FIRST ONCE_FROM_SECOND b)) plain_image 256 tt b h

pub twice_is : (b : ℕ) → b < 256 → out_of_basis (by_quotients TWICE_FROM_FIRST TWICE_FROM_SECOND b) ≡ field_product 2 (plain_image b)
unfolding sub_byte inverse field_product out_of_basis first_quotient second_quotient
twice_is b h = same_below (λ b. out_of_basis (by_quotients TWICE_FROM_FIRST TWICE_FROM_SECOND b)) (λ b. field_product 2 (plain_image b)) 256 tt b h

-- both quotients look up entries
pub first_is_entry : (b n : ℕ) → b < 256 → n ≡ first_quotient b → T (leb 0x80 n || ltb n 16)
unfolding first_quotient
first_is_entry b n h e = is_entry first_quotient tt b n h e

pub second_is_entry : (b n : ℕ) → b < 256 → n ≡ second_quotient b → T (leb 0x80 n || ltb n 16)
unfolding second_quotient
second_is_entry b n h e = is_entry second_quotient tt b n h e

-- ---- MixColumns

-- a byte of a mixed column as it is put together in the other basis: twice the first and three times the second, and the third, the fourth and the key's
pub mixed_is : (w x y z key r near keyed far p q t u : ℕ) → x < 256 → r ≡ bit_xor near keyed → keyed ≡ bit_xor far key → near ≡ bit_xor p q
    → out_of_basis p ≡ field_product 2 w → out_of_basis q ≡ bit_xor x (field_product 2 x) → far ≡ bit_xor t u → out_of_basis t ≡ y → out_of_basis u ≡ z
    → out_of_basis r ≡ bit_xor (mixed_byte w x y z) (out_of_basis key)
mixed_is w x y z key r near keyed far p q t u small er ek en ep eq ef et eu =
    let thrice : bit_xor x (field_product 2 x) ≡ field_product 3 x = xor_comm x (field_product 2 x) ∙ sym (triple_is x small) in
    let both = bit_xor (field_product 2 w) (field_product 3 x) in
    rw (er, ek, en, ef, out_sum (bit_xor p q) (bit_xor (bit_xor t u) key), out_sum (bit_xor t u) key, out_sum p q, out_sum t u, ep, eq, et, eu, thrice)
    (sym (xor_assoc both (bit_xor y z) (out_of_basis key)) ∙ ap (λ n. bit_xor n (out_of_basis key)) (sym (xor_assoc both y z)))
