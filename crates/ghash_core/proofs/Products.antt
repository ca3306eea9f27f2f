-- A product of blocks as a sum over the bytes of its first factor.
use Rattle.std.proofs.Common.{◌≡◌, ℕ, zero, suc, ◌+◌, ◌-◌, ◌*◌, ◌/◌, ◌%◌, ◌^◌, ◌<◌, ◌≤◌, bit_xor, refl, sym, ap, ◌∙◌, arith}
use Rattle.std.specs.Int.Bits.{xor_assoc}
use Rattle.std.proofs.lemmas.Nat.{xor_lt, xor_mod, xor_shr}
use Rattle.cipher_spec.specs.Field.{add_if}
use Rattle.cipher_spec.specs.Ghash.{half, halves, times, times_bits}
use Rattle.ghash_core.specs.Tables.{block_byte, byte_times, chosen, nibble_times, sixteenth}
use Rattle.ghash_core.proofs.Nibbles.{lower_of_byte, times_bits-nibble, upper_of_byte}
use Rattle.ghash_core.proofs.Ring.{add_if-lt, half-lt, times-lt, times_is_bits}
use Rattle.ghash_core.proofs.Shifts.{moved, moved-half, moved-nothing, moved-sum, moved_is}
use Rattle.ghash_core.proofs.Sums.{xsum, xsum-more, xsum-none, xsum-reversed, xsum-same, xsum-xor}

-- ---- a function that keeps sums, at an entry of a table

add_if_each : (g : ℕ → ℕ) → ((a b : ℕ) → g (bit_xor a b) ≡ bit_xor (g a) (g b)) → (b z v : ℕ) → g (add_if b z v) ≡ add_if b (g z) (g v)
add_if_each g adds zero z v = refl
add_if_each g adds (suc b) z v = adds z v

chosen_each : (g : ℕ → ℕ) → g 0 ≡ 0 → ((a b : ℕ) → g (bit_xor a b) ≡ bit_xor (g a) (g b)) → (y a b c n : ℕ) → g (chosen y a b c n) ≡ chosen (g y) (g a) (g b) (g c) n
unfolding chosen
chosen_each g none adds y a b c n =
    let i = n / 8 % 2 in
    let j = n / 4 % 2 in
    let k = n / 2 % 2 in
    let l = n % 2 in
    let e0 : g (add_if i 0 y) ≡ add_if i 0 (g y) = add_if_each g adds i 0 y ∙ ap (λ z. add_if i z (g y)) none in
    let e1 : g (add_if j (add_if i 0 y) a) ≡ add_if j (add_if i 0 (g y)) (g a) =
    add_if_each g adds j (add_if i 0 y) a ∙ ap (λ z. add_if j z (g a)) e0 in
    let e2 : g (add_if k (add_if j (add_if i 0 y) a) b) ≡ add_if k (add_if j (add_if i 0 (g y)) (g a)) (g b) =
    add_if_each g adds k (add_if j (add_if i 0 y) a) b ∙ ap (λ z. add_if k z (g b)) e1 in
    add_if_each g adds l (add_if k (add_if j (add_if i 0 y) a) b) c ∙ ap (λ z. add_if l z (g c)) e2

-- one byte of it
byte_of-sum : (k a b : ℕ) → block_byte (bit_xor a b) k ≡ bit_xor (block_byte a k) (block_byte b k)
byte_of-sum k a b =
    ap (λ n. n % 256) (xor_shr a b (8 * k)) ∙ xor_mod (a / 2 ^ (8 * k)) (b / 2 ^ (8 * k)) 8

byte_of-nothing : (k : ℕ) → block_byte 0 k ≡ 0
byte_of-nothing k =
    let none : 0 / 2 ^ (8 * k) ≡ 0 = omega arith in
    ap (λ n. n % 256) none

pub entry_is : (v k n y a b c : ℕ) → y ≡ block_byte v k → a ≡ block_byte (half v) k → b ≡ block_byte (half (half v)) k → c ≡ block_byte (half (half (half v))) k → chosen y a b c n ≡ block_byte (nibble_times v n) k
unfolding nibble_times
entry_is v k n y a b c ey ea eb ec =
    ap (λ s. chosen s a b c n) ey ∙ ap (λ s. chosen (block_byte v k) s b c n) ea ∙ ap (λ s. chosen (block_byte v k) (block_byte (half v) k) s c n) eb ∙ ap (λ s. chosen (block_byte v k) (block_byte (half v) k) (block_byte (half (half v)) k) s n) ec ∙ sym (chosen_each (λ s. block_byte s k) (byte_of-nothing k) (byte_of-sum k) v (half v) (half (half v)) (half (half (half v))) n)

-- what two entries add
pub entries_added : (h b k : ℕ) → bit_xor (block_byte (nibble_times h (b / 16)) k) (block_byte (nibble_times (sixteenth h) (b % 16)) k) ≡ block_byte (byte_times h b) k
unfolding byte_times
entries_added h b k =
    sym (byte_of-sum k (nibble_times h (b / 16)) (nibble_times (sixteenth h) (b % 16)))

byte_of-four : (k a b c d : ℕ) → bit_xor (bit_xor (bit_xor (block_byte a k) (block_byte b k)) (block_byte c k)) (block_byte d k) ≡ block_byte (bit_xor (bit_xor (bit_xor a b) c) d) k
byte_of-four k a b c d =
    sym (byte_of-sum k (bit_xor (bit_xor a b) c) d ∙ ap (λ s. bit_xor s (block_byte d k)) (byte_of-sum k (bit_xor a b) c ∙ ap (λ s. bit_xor s (block_byte c k)) (byte_of-sum k a b)))

-- ---- bounds

chosen-lt : (y a b c n : ℕ) → y < 2 ^ 128 → a < 2 ^ 128 → b < 2 ^ 128 → c < 2 ^ 128 → chosen y a b c n < 2 ^ 128
unfolding chosen
chosen-lt y a b c n hy ha hb hc =
    add_if-lt (n % 2) _ c (add_if-lt (n / 2 % 2) _ b (add_if-lt (n / 4 % 2) _ a (add_if-lt (n / 8 % 2) 0 y (omega arith) hy) ha) hb) hc

nibble_times-lt : (y n : ℕ) → y < 2 ^ 128 → nibble_times y n < 2 ^ 128
unfolding nibble_times
nibble_times-lt y n h =
    let one = half-lt y h in
    let two = half-lt (half y) one in
    chosen-lt y (half y) (half (half y)) (half (half (half y))) n h one two (half-lt (half (half y)) two)

sixteenth-lt : (y : ℕ) → y < 2 ^ 128 → sixteenth y < 2 ^ 128
unfolding sixteenth
sixteenth-lt y h =
    half-lt (half (half (half y))) (half-lt (half (half y)) (half-lt (half y) (half-lt y h)))

pub byte_times-lt : (y b : ℕ) → y < 2 ^ 128 → byte_times y b < 2 ^ 128
unfolding byte_times
byte_times-lt y b h =
    xor_lt 128 (nibble_times y (b / 16)) (nibble_times (sixteenth y) (b % 16)) (nibble_times-lt y (b / 16) h) (nibble_times-lt (sixteenth y) (b % 16) (sixteenth-lt y h))

-- ---- entries of a block that is moved

nibble-moved : (m y n : ℕ) → moved m (nibble_times y n) ≡ nibble_times (moved m y) n
unfolding nibble_times
nibble-moved m y n =
    let one : moved m (half y) ≡ half (moved m y) = moved-half m y in
    let two : moved m (half (half y)) ≡ half (half (moved m y)) = moved-half m (half y) ∙ ap half one in
    let three : moved m (half (half (half y))) ≡ half (half (half (moved m y))) = moved-half m (half (half y)) ∙ ap half two in
    chosen_each (moved m) (moved-nothing m) (moved-sum m) y (half y) (half (half y)) (half (half (half y))) n ∙ ap (λ s. chosen (moved m y) s (moved m (half (half y))) (moved m (half (half (half y)))) n) one ∙ ap (λ s. chosen (moved m y) (half (moved m y)) s (moved m (half (half (half y)))) n) two ∙ ap (λ s. chosen (moved m y) (half (moved m y)) (half (half (moved m y))) s n) three

-- four steps more
four_steps : (n y : ℕ) → halves (n + 4) y ≡ moved n (sixteenth y)
unfolding sixteenth
four_steps n y =
    let e : n + 4 ≡ suc (suc (suc (suc n))) = omega arith in
    let is : halves n y ≡ moved n y = sym (moved_is n y) in
    ap (λ k. halves k y) e ∙ ap (λ v. half (half (half (half v)))) is ∙ ap (λ v. half (half (half v))) (sym (moved-half n y)) ∙ ap (λ v. half (half v)) (sym (moved-half n (half y))) ∙ ap half (sym (moved-half n (half (half y)))) ∙ sym (moved-half n (half (half (half y))))

-- ---- the product

-- eight more bits
times_bits-byte : (x h i : ℕ) → i < 16 → times_bits (8 * i + 4 + 4) x h ≡ bit_xor (times_bits (8 * i) x h) (moved (8 * i) (byte_times h (block_byte x (15 - i))))
unfolding byte_times
times_bits-byte x h i within =
    let n = 8 * i in
    let b = block_byte x (15 - i) in
    let t = times_bits (8 * i) x h in
    let last : 124 - (8 * i + 4) ≡ 120 - 8 * i = omega arith in
    let one : times_bits (8 * i + 4) x h ≡ bit_xor t (moved n (nibble_times h (b / 16))) =
    times_bits-nibble x h (8 * i) (omega arith) ∙ ap (λ u. bit_xor t (nibble_times (halves (8 * i) h) u)) (sym (upper_of_byte x i within)) ∙ ap (λ v. bit_xor t (nibble_times v (b / 16))) (sym (moved_is n h)) ∙ ap (bit_xor t) (sym (nibble-moved n h (b / 16))) in
    let two : nibble_times (halves (8 * i + 4) h) (x / 2 ^ (124 - (8 * i + 4)) % 16) ≡ moved n (nibble_times (sixteenth h) (b % 16)) =
    ap (λ k. nibble_times (halves (8 * i + 4) h) (x / 2 ^ k % 16)) last ∙ ap (nibble_times (halves (8 * i + 4) h)) (sym (lower_of_byte x i within)) ∙ ap (λ v. nibble_times v (b % 16)) (four_steps n h) ∙ sym (nibble-moved n (sixteenth h) (b % 16)) in
    times_bits-nibble x h (8 * i + 4) (omega arith) ∙ ap (bit_xor (times_bits (8 * i + 4) x h)) two ∙ ap (λ s. bit_xor s (moved n (nibble_times (sixteenth h) (b % 16)))) one ∙ xor_assoc t (moved n (nibble_times h (b / 16))) (moved n (nibble_times (sixteenth h) (b % 16))) ∙ ap (bit_xor t) (sym (moved-sum n (nibble_times h (b / 16)) (nibble_times (sixteenth h) (b % 16))))

times_summed : (n x h : ℕ) → n ≤ 16 → times_bits (8 * n) x h ≡ xsum n (λ i. moved (8 * i) (byte_times h (block_byte x (15 - i))))
times_summed zero x h within = sym (xsum-none (λ i. moved (8 * i) (byte_times h (block_byte x (15 - i)))))
times_summed (suc n) x h within =
    let f = λ (i : ℕ). moved (8 * i) (byte_times h (block_byte x (15 - i))) in
    let e : 8 * suc n ≡ 8 * n + 4 + 4 = omega arith in
    let more : n + 1 ≡ suc n = omega arith in
    ap (λ k. times_bits k x h) e ∙ times_bits-byte x h n (omega arith) ∙ ap (λ s. bit_xor s (f n)) (times_summed n x h (omega arith)) ∙ sym (xsum-more n f) ∙ ap (λ k. xsum k f) more

pub product_summed : (x h : ℕ) → times x h ≡ xsum 16 (λ i. moved (120 - 8 * i) (byte_times h (block_byte x i)))
product_summed x h =
    times_is_bits x h ∙ times_summed 16 x h (omega arith) ∙ xsum-reversed 16 (λ i. moved (8 * i) (byte_times h (block_byte x (15 - i)))) (λ i. moved (120 - 8 * i) (byte_times h (block_byte x i))) (λ i j e.
    let left : 8 * i ≡ 120 - 8 * j = omega arith in
    let right : 15 - i ≡ j = omega arith in
    ap (λ k. moved k (byte_times h (block_byte x (15 - i)))) left ∙ ap (λ k. moved (120 - 8 * j) (byte_times h (block_byte x k))) right)

-- the sum of four products
four_moved : (m a b c d : ℕ) → moved m (bit_xor (bit_xor (bit_xor a b) c) d) ≡ bit_xor (bit_xor (bit_xor (moved m a) (moved m b)) (moved m c)) (moved m d)
four_moved m a b c d =
    moved-sum m (bit_xor (bit_xor a b) c) d ∙ ap (λ s. bit_xor s (moved m d)) (moved-sum m (bit_xor a b) c ∙ ap (λ s. bit_xor s (moved m c)) (moved-sum m a b))

four_summed : (n : ℕ) (a b c d : ℕ → ℕ) → xsum n (λ i. bit_xor (bit_xor (bit_xor (a i) (b i)) (c i)) (d i)) ≡ bit_xor (bit_xor (bit_xor (xsum n a) (xsum n b)) (xsum n c)) (xsum n d)
four_summed n a b c d =
    xsum-xor n (λ i. bit_xor (bit_xor (a i) (b i)) (c i)) d ∙ ap (λ s. bit_xor s (xsum n d)) (xsum-xor n (λ i. bit_xor (a i) (b i)) c ∙ ap (λ s. bit_xor s (xsum n c)) (xsum-xor n a b))

products_summed : (w x y z e f g h : ℕ) → xsum 16 (λ i. moved (120 - 8 * i) (bit_xor (bit_xor (bit_xor (byte_times e (block_byte w i)) (byte_times f (block_byte x i))) (byte_times g (block_byte y i))) (byte_times h (block_byte z i)))) ≡ bit_xor (bit_xor (bit_xor (times w e) (times x f)) (times y g)) (times z h)
products_summed w x y z e f g h =
    let part = λ (v u i : ℕ). moved (120 - 8 * i) (byte_times u (block_byte v i)) in
    xsum-same 16 (λ i. moved (120 - 8 * i) (bit_xor (bit_xor (bit_xor (byte_times e (block_byte w i)) (byte_times f (block_byte x i))) (byte_times g (block_byte y i))) (byte_times h (block_byte z i)))) (λ i. bit_xor (bit_xor (bit_xor (part w e i) (part x f i)) (part y g i)) (part z h i)) (λ i l. four_moved (120 - 8 * i) (byte_times e (block_byte w i)) (byte_times f (block_byte x i)) (byte_times g (block_byte y i)) (byte_times h (block_byte z i))) ∙ four_summed 16 (λ i. part w e i) (λ i. part x f i) (λ i. part y g i) (λ i. part z h i) ∙ rw (product_summed w e, product_summed x f, product_summed y g, product_summed z h) refl

-- byte i of four blocks, each times the upper byte of its power of h
pub four_bytes_times : ℕ → ℕ → ℕ → ℕ → ℕ → ℕ → ℕ
four_bytes_times h w x y z i =
    bit_xor (bit_xor (bit_xor (byte_times (times h (times h (times h h))) (block_byte w i)) (byte_times (times h (times h h)) (block_byte x i))) (byte_times (times h h) (block_byte y i))) (byte_times h (block_byte z i))

pub four_bytes_times-lt : (h w x y z i : ℕ) → h < 2 ^ 128 → four_bytes_times h w x y z i < 2 ^ 128
unfolding four_bytes_times
four_bytes_times-lt h w x y z i small =
    let two = times-lt h h small in
    let three = times-lt h (times h h) two in
    let four = times-lt h (times h (times h h)) three in
    let a = byte_times (times h (times h (times h h))) (block_byte w i) in
    let b = byte_times (times h (times h h)) (block_byte x i) in
    let c = byte_times (times h h) (block_byte y i) in
    let d = byte_times h (block_byte z i) in
    let ab = xor_lt 128 a b (byte_times-lt (times h (times h (times h h))) (block_byte w i) four) (byte_times-lt (times h (times h h)) (block_byte x i) three) in
    let abc = xor_lt 128 (bit_xor a b) c ab (byte_times-lt (times h h) (block_byte y i) two) in
    xor_lt 128 (bit_xor (bit_xor a b) c) d abc (byte_times-lt h (block_byte z i) small)

-- byte k of it, of the bytes k that four look-ups gave
pub four_bytes_looked : (h w x y z i k p q r s n b c d e : ℕ) → p ≡ block_byte w i → q ≡ block_byte x i → r ≡ block_byte y i → s ≡ block_byte z i
    → b ≡ block_byte (byte_times (times h (times h (times h h))) p) k → c ≡ block_byte (byte_times (times h (times h h)) q) k → d ≡ block_byte (byte_times (times h h) r) k → e ≡ block_byte (byte_times h s) k
    → n ≡ bit_xor (bit_xor (bit_xor b c) d) e → n ≡ block_byte (four_bytes_times h w x y z i) k
unfolding four_bytes_times
four_bytes_looked h w x y z i k p q r s n b c d e ep eq er es eb ec ed ee is =
    let two = times h h in
    let three = times h (times h h) in
    let four = times h (times h (times h h)) in
    let fb : b ≡ block_byte (byte_times four (block_byte w i)) k = eb ∙ ap (λ v. block_byte (byte_times four v) k) ep in
    let fc : c ≡ block_byte (byte_times three (block_byte x i)) k = ec ∙ ap (λ v. block_byte (byte_times three v) k) eq in
    let fd : d ≡ block_byte (byte_times two (block_byte y i)) k = ed ∙ ap (λ v. block_byte (byte_times two v) k) er in
    let fe : e ≡ block_byte (byte_times h (block_byte z i)) k = ee ∙ ap (λ v. block_byte (byte_times h v) k) es in
    is ∙ ap (λ v. bit_xor (bit_xor (bit_xor v c) d) e) fb ∙ ap (λ v. bit_xor (bit_xor (bit_xor (block_byte (byte_times four (block_byte w i)) k) v) d) e) fc ∙ ap (λ v. bit_xor (bit_xor (bit_xor (block_byte (byte_times four (block_byte w i)) k) (block_byte (byte_times three (block_byte x i)) k)) v) e) fd ∙ ap (bit_xor (bit_xor (bit_xor (block_byte (byte_times four (block_byte w i)) k) (block_byte (byte_times three (block_byte x i)) k)) (block_byte (byte_times two (block_byte y i)) k))) fe ∙ byte_of-four k (byte_times four (block_byte w i)) (byte_times three (block_byte x i)) (byte_times two (block_byte y i)) (byte_times h (block_byte z i))

pub four_products : (h w x y z : ℕ) → xsum 16 (λ i. moved (120 - 8 * i) (four_bytes_times h w x y z i)) ≡ bit_xor (bit_xor (bit_xor (times w (times h (times h (times h h)))) (times x (times h (times h h)))) (times y (times h h))) (times z h)
unfolding four_bytes_times
four_products h w x y z = products_summed w x y z (times h (times h (times h h))) (times h (times h h)) (times h h) h

-- ---- the same of two blocks

-- byte i of two blocks, each times its power of h
pub two_bytes_times : ℕ → ℕ → ℕ → ℕ → ℕ
two_bytes_times h x y i = bit_xor (byte_times (times h h) (block_byte x i)) (byte_times h (block_byte y i))

pub two_bytes_times-lt : (h x y i : ℕ) → h < 2 ^ 128 → two_bytes_times h x y i < 2 ^ 128
unfolding two_bytes_times
two_bytes_times-lt h x y i small =
    xor_lt 128 (byte_times (times h h) (block_byte x i)) (byte_times h (block_byte y i)) (byte_times-lt (times h h) (block_byte x i) (times-lt h h small)) (byte_times-lt h (block_byte y i) small)

pub two_bytes_looked : (h x y i k p q n b c : ℕ) → p ≡ block_byte x i → q ≡ block_byte y i → b ≡ block_byte (byte_times (times h h) p) k → c ≡ block_byte (byte_times h q) k → n ≡ bit_xor b c → n ≡ block_byte (two_bytes_times h x y i) k
unfolding two_bytes_times
two_bytes_looked h x y i k p q n b c ep eq eb ec is =
    let fb : b ≡ block_byte (byte_times (times h h) (block_byte x i)) k = eb ∙ ap (λ v. block_byte (byte_times (times h h) v) k) ep in
    let fc : c ≡ block_byte (byte_times h (block_byte y i)) k = ec ∙ ap (λ v. block_byte (byte_times h v) k) eq in
    is ∙ ap (λ v. bit_xor v c) fb ∙ ap (bit_xor (block_byte (byte_times (times h h) (block_byte x i)) k)) fc ∙ sym (byte_of-sum k (byte_times (times h h) (block_byte x i)) (byte_times h (block_byte y i)))

pub two_products : (h x y : ℕ) → xsum 16 (λ i. moved (120 - 8 * i) (two_bytes_times h x y i)) ≡ bit_xor (times x (times h h)) (times y h)
unfolding two_bytes_times
two_products h x y =
    let first = λ (i : ℕ). moved (120 - 8 * i) (byte_times (times h h) (block_byte x i)) in
    let second = λ (i : ℕ). moved (120 - 8 * i) (byte_times h (block_byte y i)) in
    xsum-same 16 (λ i. moved (120 - 8 * i) (bit_xor (byte_times (times h h) (block_byte x i)) (byte_times h (block_byte y i)))) (λ i. bit_xor (first i) (second i)) (λ i l. moved-sum (120 - 8 * i) (byte_times (times h h) (block_byte x i)) (byte_times h (block_byte y i))) ∙ xsum-xor 16 first second ∙ rw (product_summed x (times h h), product_summed y h) refl
