-- The bytes of a seed, one after another.
use Rattle.std.proofs.Common.{◌≡◌, ◌∙◌, ℕ, zero, suc, ◌+◌, ◌-◌, ◌*◌, ◌%◌, ◌^◌, ◌≤◌, List, [], ◌∷◌, ◌++◌, length, take, drop, refl, sym, ap, arith}
use Rattle.std.proofs.Math.Nat.{mod-add-mod}
use Rattle.std.proofs.lemmas.List.{drop_at, take_at}
use Rattle.esdk_gen.specs.Bytes.{top_byte, gen_bytes, next_state, seed_part, state_after}

-- the code takes the remainder after each of the two operations
pub stepped : (x : ℕ) → (x * 6364136223846793005 % 2 ^ 64 + 1442695040888963407) % 2 ^ 64 ≡ next_state x
stepped x = mod-add-mod (x * 6364136223846793005) (2 ^ 64) 1442695040888963407

pub length-gen_bytes : (x n : ℕ) → length (gen_bytes x n) ≡ n
unfolding gen_bytes
length-gen_bytes x zero = refl
length-gen_bytes x (suc n) = ap suc (length-gen_bytes (next_state x) n)

pub bytes_none : (x : ℕ) → gen_bytes x 0 ≡ []
unfolding gen_bytes
bytes_none x = refl

pub state_none : (x : ℕ) → state_after x 0 ≡ x
unfolding state_after
state_none x = refl

-- so many bytes, and so many more
pub state_add : (x a b : ℕ) → state_after x (a + b) ≡ state_after (state_after x a) b
unfolding state_after
state_add x zero b = let e : 0 + b ≡ b = omega arith in rw e refl
state_add x (suc a) b = let e : suc a + b ≡ suc (a + b) = omega arith in rw e (state_add (next_state x) a b)

pub bytes_add : (x a b : ℕ) → gen_bytes x (a + b) ≡ gen_bytes x a ++ gen_bytes (state_after x a) b
unfolding gen_bytes state_after
bytes_add x zero b = let e : 0 + b ≡ b = omega arith in rw e refl
bytes_add x (suc a) b =
    let e : suc a + b ≡ suc (a + b) = omega arith in rw e (ap (λ (l : List ℕ). top_byte (next_state x) ∷ l) (bytes_add (next_state x) a b))

-- one byte more
pub state_push : (x n : ℕ) → state_after x (n + 1) ≡ next_state (state_after x n)
unfolding state_after
state_push x n = state_add x n 1

pub bytes_push : (x n : ℕ) → gen_bytes x (n + 1) ≡ gen_bytes x n ++ top_byte (next_state (state_after x n)) ∷ []
unfolding gen_bytes
bytes_push x n = bytes_add x n 1

-- a part is what follows from the state before it
pub part_is : (seed from count : ℕ) → seed_part seed from count ≡ gen_bytes (state_after seed from) count
part_is seed from count = ap (drop from) (bytes_add seed from count) ∙ drop_at (gen_bytes seed from) (gen_bytes (state_after seed from) count) from (length-gen_bytes seed from)

-- ---- a text that is made piece by piece

-- so many bytes are left, and the next n of them are made
sooner : (size left n : ℕ) → left ≤ size → n ≤ left → size - (left - n) ≡ (size - left) + n
sooner size left n few within = omega arith

pub state_then : (x size left n : ℕ) → left ≤ size → n ≤ left → state_after (state_after x (size - left)) n ≡ state_after x (size - (left - n))
state_then x size left n few within = sym (ap (state_after x) (sooner size left n few within) ∙ state_add x (size - left) n)

pub bytes_then : (x size left n : ℕ) → left ≤ size → n ≤ left → gen_bytes x (size - left) ++ gen_bytes (state_after x (size - left)) n ≡ gen_bytes x (size - (left - n))
bytes_then x size left n few within = sym (ap (gen_bytes x) (sooner size left n few within) ∙ bytes_add x (size - left) n)

-- the front of a buffer that was filled
pub filled : (out rest : List ℕ) (n : ℕ) {x y k : ℕ} → x ≡ y → out ≡ gen_bytes x k → k ≡ n → take n (out ++ rest) ≡ gen_bytes y n
filled out rest n {x} {y} {k} same is full =
    let long : length out ≡ n = ap length is ∙ length-gen_bytes x k ∙ full in
    take_at out rest n long ∙ is ∙ (λ i. gen_bytes (same i) (full i))
