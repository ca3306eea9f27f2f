-- What a run comes to is what its seed says.
use Rattle.std.proofs.Common.{◌≡◌, ◌∙◌, ℕ, ◌≤◌, List, length, ap, sym, arith}
use Rattle.esdk_gen.specs.Bytes.{gen_bytes, seed_part, state_after}
use Rattle.esdk_gen.specs.Generator.{gen_line, gen_message, generator_line, message_with}
use Rattle.esdk_gen.specs.Opening.{IsWholeUnder}
use Rattle.esdk_gen.proofs.Sequence.{length-gen_bytes, part_is, state_add, state_none}
use Rattle.esdk_gen.proofs.Whole.{with_is_whole}

message_is : (seed size : ℕ) (key random : List ℕ) (state : ℕ) → key ≡ gen_bytes seed 32 → random ≡ gen_bytes (state_after seed 32) 76 → state ≡ state_after (state_after seed 32) 76
    → message_with key random (gen_bytes state size) ≡ gen_message seed size
unfolding gen_message
message_is seed size key random state key_is random_is state_is =
    let first : key ≡ seed_part seed 0 32 = key_is ∙ sym (part_is seed 0 32 ∙ ap (λ (x : ℕ). gen_bytes x 32) (state_none seed)) in
    let second : random ≡ seed_part seed 32 76 = random_is ∙ sym (part_is seed 32 76) in
    let third : gen_bytes state size ≡ seed_part seed 108 size = ap (λ (x : ℕ). gen_bytes x size) (state_is ∙ sym (state_add seed 32 76)) ∙ sym (part_is seed 108 size) in
    λ i. message_with (first i) (second i) (third i)

pub line_is : (seed size : ℕ) (key random : List ℕ) (state : ℕ) → key ≡ gen_bytes seed 32 → random ≡ gen_bytes (state_after seed 32) 76 → state ≡ state_after (state_after seed 32) 76
    → generator_line size (message_with key random (gen_bytes state size)) size ≡ gen_line seed size
unfolding gen_line
line_is seed size key random state key_is random_is state_is = ap (λ (b : List ℕ). generator_line size b size) (message_is seed size key random state key_is random_is state_is)

length-part : (seed from count : ℕ) → length (seed_part seed from count) ≡ count
length-part seed from count = ap length (part_is seed from count) ∙ length-gen_bytes (state_after seed from) count

-- the message of a seed is whole, and has the seed's text
pub generated_is_whole : (seed size : ℕ) → size ≤ 67108864 → IsWholeUnder (seed_part seed 0 32) (gen_message seed size) (seed_part seed 108 size)
unfolding gen_message
generated_is_whole seed size few =
    with_is_whole (seed_part seed 0 32) (seed_part seed 32 76) (seed_part seed 108 size) (length-part seed 32 76) (omega (arith, length-part seed 108 size, few))
