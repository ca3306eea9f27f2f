-- The symbols of numbers of six bits, lane by lane.
use Rattle.std.proofs.Common.{◌≡◌, ℕ, ◌+◌, ◌-◌, ◌/◌, ◌%◌, ◌^◌, ◌<◌, cond, List, length, map, replicate, get_or, nat_lt, refl, subst, ◌∙◌, arith, eqb}
use Rattle.std.specs.Simd.Lanes.{zip2, sel_l, top}
use Rattle.std.proofs.lemmas.Bool.{ltb-true}
use Rattle.base64.proofs.Tables.{all_below_at}
use Rattle.base64.specs.Engines.{standard}
use Rattle.armour_core.specs.Sextets.{symbols_of}
use Rattle.armour_core.specs.declared.vectors.TheConstants.{OFFSETS}
use Rattle.armour_core.proofs.Lanes.{computed, lane_less, lane_monus, lanes_below, less, monus, same_lanes, sixteen}

pub places : (v : List ℕ) → length v ≡ 16 → ((j : ℕ) → get_or v j 0 < 64) → monus v (replicate 16 51) ≡ map (λ n. n - 51) v
places v long small =
    let lane : ℕ → ℕ = λ x. lane_monus x 51 in
    subst (λ w. monus w (replicate 16 51) ≡ map (λ x. lane_monus x 51) w) (sixteen v long) refl
    ∙ same_lanes (λ x. lane_monus x 51) (λ n. n - 51) 64 (computed (λ x. lane_monus x 51) (λ n. n - 51) 64 refl) v small

-- a number's symbol
abbrev pub symbol_lane : ℕ → ℕ
symbol_lane x = ((get_or OFFSETS (x - 51) 0 + x) % 256 + cond (lane_less x 26) 250 0) % 256

abbrev pub symbol_lanes : List ℕ → List ℕ → List ℕ
symbol_lanes offsets v = zip2 (λ a b. (a + b) % 256) (zip2 (λ a b. (a + b) % 256) offsets v) (sel_l (less v (replicate 16 26)) (replicate 16 250) (replicate 16 0))

pub symbols_are : (v : List ℕ) → length v ≡ 16 → ((j : ℕ) → get_or v j 0 < 64) → symbol_lanes (map (λ n. get_or OFFSETS (n - 51) 0) v) v ≡ symbols_of v
symbols_are v long small =
    subst (λ w. symbol_lanes (map (λ n. get_or OFFSETS (n - 51) 0) w) w ≡ map symbol_lane w) (sixteen v long) refl
    ∙ same_lanes symbol_lane (λ i. get_or standard.encode_table i 0) 64 (computed symbol_lane (λ i. get_or standard.encode_table i 0) 64 refl) v small

-- ---- the classes of characters

abbrev pub class_lane : ℕ → ℕ
class_lane x = (x / 2 ^ 4 + cond (top 7 (cond (eqb x 47) 255 0)) 255 0) % 256

abbrev pub class_lanes : List ℕ → List ℕ
class_lanes v =
    zip2 (λ a b. (a + b) % 256) (zip2 (λ x s. x / 2 ^ s) v (replicate 16 4))
    (sel_l (map (top 7) (zip2 (λ a b. cond (eqb a b) 255 0) v (replicate 16 47))) (replicate 16 255) (replicate 16 0))

pub classes_are : (v : List ℕ) → length v ≡ 16 → class_lanes v ≡ map class_lane v
classes_are v long = subst (λ w. class_lanes w ≡ map class_lane w) (sixteen v long) refl

class_small : (x : ℕ) → x < 256 → class_lane x < 16
class_small x within = ltb-true (class_lane x) 16 (all_below_at (λ k. nat_lt (class_lane k) 16) 256 x refl within)

pub classes_small : (v : List ℕ) → ((j : ℕ) → get_or v j 0 < 256) → (j : ℕ) → get_or (map class_lane v) j 0 < 16
classes_small v small j = lanes_below class_lane 256 16 (omega arith) class_small v small j
