-- Masks, added to a text.
use Rattle.std.proofs.Common.{◌≡◌, ℕ, ◌+◌, ◌-◌, ◌*◌, ◌/◌, ◌%◌, ◌<◌, ◌≤◌, List, [], ◌++◌, length, take, drop, get_or, bit_xor, refl, sym, ap, ◌∙◌, arith}
use Rattle.std.specs.Simd.Lanes.{zip2, chunk, put_chunk}
use Rattle.std.proofs.lemmas.List.{get_or-append_right, get_or_append_left, get_or-drop, get_or-take, length-take-le, length-drop}
use Rattle.std.proofs.lemmas.List.FromFn.{fill_by_all}
use Rattle.std.proofs.lemmas.Simd.{get_or-chunk, get_or-zip2, length-chunk, length-zip2, put_chunk_whole}
use borrow.Rule.Slice.PartMut.{put_mid}
use Rattle.gcm_core.specs.Masks.{masked}

-- a vector's 16 bytes, added to a text where they lie
pub get_or-put_sum : (f : ℕ → ℕ → ℕ) (text mask : List ℕ) (at n i : ℕ) → n ≡ 16 → at + 16 ≤ length text → length mask ≡ 16 → i < 16 → get_or (put_mid at n text (put_chunk 0 (take n (drop at text)) (zip2 f (chunk 0 16 (take n (drop at text))) mask))) (at + i) 0 ≡ f (get_or text (at + i) 0) (get_or mask i 0)
get_or-put_sum f text mask at n i size inside long h =
    let part = take n (drop at text) in
    let l1 : length part ≡ 16 = length-take-le n (drop at text) (omega (arith, length-drop at text)) ∙ size in
    let sum = zip2 f (chunk 0 16 part) mask in
    let l2 : length (chunk 0 16 part) ≡ 16 = length-chunk 0 16 part (omega arith) in
    let l3 : length sum ≡ 16 = length-zip2 f (chunk 0 16 part) mask (l2 ∙ sym long) ∙ l2 in
    let whole : put_chunk 0 part sum ≡ sum = put_chunk_whole part sum (l1 ∙ sym l3) in
    let front : length (take at text) ≡ at = length-take-le at text (omega arith) in
    let back : at + i - at ≡ i = omega arith in
    let here : 0 + i ≡ i = omega arith in
    let rest = drop n (drop at text) in
    get_or-append_right (take at text) (put_chunk 0 part sum ++ rest) at (at + i) 0 front (omega arith)
    ∙ ap (λ k. get_or (put_chunk 0 part sum ++ rest) k 0) back
    ∙ get_or_append_left (put_chunk 0 part sum) rest 0 i (omega (arith, ap length whole))
    ∙ ap (λ l. get_or l i 0) whole
    ∙ get_or-zip2 f (chunk 0 16 part) mask i 0 0 0 (omega arith) (omega arith)
    ∙ ap (λ a. f a (get_or mask i 0)) (get_or-chunk 0 16 part i 0 h ∙ ap (λ k. get_or part k 0) here ∙ get_or-take n (drop at text) i 0 (omega arith) ∙ get_or-drop at text i 0)

-- the bytes of a block of masks
pub masks-block : (masks : List (List ℕ)) (k i : ℕ) → i < 16 → get_or (get_or masks k []) i 0 ≡ get_or (get_or masks ((16 * k + i) / 16) []) ((16 * k + i) % 16) 0
masks-block masks k i h =
    let d : (16 * k + i) / 16 ≡ k = omega arith in
    let m : (16 * k + i) % 16 ≡ i = omega arith in
    rw (d, m) refl

-- a text to all of whose bytes masks were added
pub masked-all : (old new : List ℕ) (masks : List (List ℕ)) → length new ≡ length old → ((j : ℕ) → j < length old → get_or new j 0 ≡ bit_xor (get_or old j 0) (get_or (get_or masks (j / 16) []) (j % 16) 0)) → new ≡ masked old masks
masked-all old new masks long added =
    fill_by_all (λ j. bit_xor (get_or old j 0) (get_or (get_or masks (j / 16) []) (j % 16) 0)) new (length old) 0 long added
