-- The circuit's parts, one after another, are the S-box.
use Rattle.std.proofs.Common.{◌≡◌, ℕ, ◌<◌, List, [], ◌∷◌, get_or, bit_xor, ap, ◌∙◌}
use Rattle.cipher_spec.specs.Field.{field_product, inverse}
use Rattle.cipher_spec.specs.Aes.{sub_byte}
use Rattle.plane_core.specs.declared.planes.Planes.{Planes}
use Rattle.plane_core.specs.Bits.{number_of, byte_of}
use Rattle.plane_core.specs.Circuit.{circuit_head, inner, tail}
use Rattle.plane_core.proofs.Bytes.{by_all_bytes}

-- the number of eight bits, the highest first
abbrev pub number : List ℕ → ℕ
number l = number_of (get_or l 7 0) (get_or l 6 0) (get_or l 5 0) (get_or l 4 0) (get_or l 3 0) (get_or l 2 0) (get_or l 1 0) (get_or l 0 0)

-- a function of four numbers, given them as a list
abbrev pub of_four : (ℕ → ℕ → ℕ → ℕ → List ℕ) → List ℕ → List ℕ
of_four f l = f (get_or l 0 0) (get_or l 1 0) (get_or l 2 0) (get_or l 3 0)

-- the circuit on the bits of a byte, the lowest first
unfoldable pub circuit : ℕ → ℕ → ℕ → ℕ → ℕ → ℕ → ℕ → ℕ → ℕ
circuit b0 b1 b2 b3 b4 b5 b6 b7 =
    number (of_four (tail b7 b6 b5 b4 b3 b2 b1 b0) (of_four inner (circuit_head b7 b6 b5 b4 b3 b2 b1 b0)))

pub circuit_is : {P : Type 0} → (bit : P → ℕ → ℕ → ℕ) → ((p : P) (j b : ℕ) → bit p j b < 2) → (x : Planes P) (j b : ℕ)
    → circuit (bit x.b0 j b) (bit x.b1 j b) (bit x.b2 j b) (bit x.b3 j b) (bit x.b4 j b) (bit x.b5 j b) (bit x.b6 j b) (bit x.b7 j b) ≡ bit_xor (sub_byte (byte_of bit x j b)) 0x63
unfolding circuit circuit_head inner tail sub_byte inverse field_product
circuit_is bit is_bit = by_all_bytes bit is_bit circuit (λ n. bit_xor (sub_byte n) 0x63) tt

-- the parts joined
pub joined : (b0 b1 b2 b3 b4 b5 b6 b7 p0 p1 p2 p3 q0 q1 q2 q3 s0 s1 s2 s3 s4 s5 s6 s7 : ℕ)
    → (p0 ∷ p1 ∷ p2 ∷ p3 ∷ []) ≡ circuit_head b7 b6 b5 b4 b3 b2 b1 b0 → (q0 ∷ q1 ∷ q2 ∷ q3 ∷ []) ≡ inner p0 p1 p2 p3
    → (s7 ∷ s6 ∷ s5 ∷ s4 ∷ s3 ∷ s2 ∷ s1 ∷ s0 ∷ []) ≡ tail b7 b6 b5 b4 b3 b2 b1 b0 q0 q1 q2 q3
    → number_of s0 s1 s2 s3 s4 s5 s6 s7 ≡ circuit b0 b1 b2 b3 b4 b5 b6 b7
unfolding circuit
joined b0 b1 b2 b3 b4 b5 b6 b7 p0 p1 p2 p3 q0 q1 q2 q3 s0 s1 s2 s3 s4 s5 s6 s7 e f g =
    ap number (g ∙ ap (of_four (tail b7 b6 b5 b4 b3 b2 b1 b0)) (f ∙ ap (of_four inner) e))
