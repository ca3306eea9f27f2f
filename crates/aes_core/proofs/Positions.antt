-- Where the table of last bytes takes its lanes from.
use Rattle.std.proofs.Common.{◌≡◌, ℕ, ◌+◌, ◌-◌, ◌*◌, ◌/◌, ◌%◌, ◌<◌, T, get_or, [], eqb, w8, eqb→eq}
use Rattle.std.proofs.lemmas.Simd.{SwzOk}
use Rattle.cipher_spec.proofs.Computed.{holds_below, at_each}
use Rattle.plane_core.specs.Places.{lane}
use Rattle.plane_core.proofs.Blocks.{each_of_four}
use Rattle.aes_core.specs.declared.last_byte.TheConstants.{ONCE, TWICE}
use Rattle.aes_core.proofs.ImagePlanes.{once_from, twice_from}

-- two functions that compute to the same numbers below n and m
pub same_within : (f g : ℕ → ℕ → ℕ) (n m : ℕ) → T (holds_below (λ a. holds_below (λ j. eqb (f a j) (g a j)) m) n) → (a j : ℕ) → a < n → j < m → f a j ≡ g a j
same_within f g n m computed a j h l =
    eqb→eq _ _ (at_each (λ j. eqb (f a j) (g a j)) m (at_each (λ a. holds_below (λ j. eqb (f a j) (g a j)) m) n computed a h) j l)

pub once_at : (q j : ℕ) → q < 4 → j < 16 → get_or (get_or ONCE q []) (lane j) 0 ≡ once_from (3 - j % 4) (4 * q + j / 4) 0x80
once_at q j h l = same_within (λ q j. get_or (get_or ONCE q []) (lane j) 0) (λ q j. once_from (3 - j % 4) (4 * q + j / 4) 0x80) 4 16 tt q j h l

pub twice_at : (q j : ℕ) → q < 4 → j < 16 → get_or (get_or TWICE q []) (lane j) 0 ≡ twice_from (3 - j % 4) (4 * q + j / 4) 0x80
twice_at q j h l = same_within (λ q j. get_or (get_or TWICE q []) (lane j) 0) (λ q j. twice_from (3 - j % 4) (4 * q + j / 4) 0x80) 4 16 tt q j h l

-- each lane is there, or is to be zero
pub once_ok : (q : ℕ) → q < 4 → SwzOk w8 16 16 0 (get_or ONCE q [])
once_ok q h = each_of_four (λ q. SwzOk w8 16 16 0 (get_or ONCE q [])) (tt, (tt, (tt, (tt, (tt, (tt, (tt, (tt, (tt, (tt, (tt, (tt, (tt, (tt, (tt, (tt, tt)))))))))))))))) (tt, (tt, (tt, (tt, (tt, (tt, (tt, (tt, (tt, (tt, (tt, (tt, (tt, (tt, (tt, (tt, tt)))))))))))))))) (tt, (tt, (tt, (tt, (tt, (tt, (tt, (tt, (tt, (tt, (tt, (tt, (tt, (tt, (tt, (tt, tt)))))))))))))))) (tt, (tt, (tt, (tt, (tt, (tt, (tt, (tt, (tt, (tt, (tt, (tt, (tt, (tt, (tt, (tt, tt)))))))))))))))) q h

pub twice_ok : (q : ℕ) → q < 4 → SwzOk w8 16 16 0 (get_or TWICE q [])
twice_ok q h = each_of_four (λ q. SwzOk w8 16 16 0 (get_or TWICE q [])) (tt, (tt, (tt, (tt, (tt, (tt, (tt, (tt, (tt, (tt, (tt, (tt, (tt, (tt, (tt, (tt, tt)))))))))))))))) (tt, (tt, (tt, (tt, (tt, (tt, (tt, (tt, (tt, (tt, (tt, (tt, (tt, (tt, (tt, (tt, tt)))))))))))))))) (tt, (tt, (tt, (tt, (tt, (tt, (tt, (tt, (tt, (tt, (tt, (tt, (tt, (tt, (tt, (tt, tt)))))))))))))))) (tt, (tt, (tt, (tt, (tt, (tt, (tt, (tt, (tt, (tt, (tt, (tt, (tt, (tt, (tt, (tt, tt)))))))))))))))) q h
