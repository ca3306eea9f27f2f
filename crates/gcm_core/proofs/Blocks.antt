-- A block of fewer bytes than sixteen, filled up with zeros.
use Rattle.std.proofs.Common.{◌≡◌, ℕ, ◌+◌, ◌-◌, ◌*◌, ◌≤◌, List, ◌++◌, length, drop, replicate, get_or, refl, sym, ap, ◌∙◌, inl, inr, arith, append_assoc}
use borrow.Rule.Slice.PartMut.{put_mid}
use Rattle.std.specs.Int.{w128, from_be_bytes}
use Rattle.std.proofs.Math.Seq.{take-append_seam, drop-append_seam}
use Rattle.std.proofs.lemmas.Bool.{cases_lt}
use Rattle.std.proofs.lemmas.List.{drop-replicate, get_or-replicate, get_or_past, get_or_append_left, get_or-append_right, get_or-drop, length-replicate}
use Rattle.cipher_spec.specs.Gcm.{block_at}
use Rattle.gcm_core.proofs.Hashing.{same_block}

-- so many zeros
abbrev zeros : ℕ → List ℕ
zeros n = replicate n 0

-- a byte of zeros is 0
get_or-zeros : (n i : ℕ) → get_or (zeros n) i 0 ≡ 0
get_or-zeros n i = elim (cases_lt i n) [
  | inl below ↦ get_or-replicate n i 0 0 below
  | inr above ↦ let long : length (zeros n) ≡ n = length-replicate n 0 in get_or_past (zeros n) i 0 (omega arith)
]

-- zeros behind a text are as what is past its end
get_or-filled : (text : List ℕ) (n i : ℕ) → get_or (text ++ zeros n) i 0 ≡ get_or text i 0
get_or-filled text n i = elim (cases_lt i (length text)) [
  | inl below ↦ get_or_append_left text (zeros n) 0 i below
  | inr above ↦
      get_or-append_right text (zeros n) (length text) i 0 refl above ∙ get_or-zeros n (i - length text) ∙ sym (get_or_past text i 0 above)
]

-- two texts laid one after the other over a block of zeros
laid : (xs ys : List ℕ) (n : ℕ) → length xs + length ys ≤ n → put_mid (length xs) (length xs + length ys - length xs) (xs ++ drop (length xs) (zeros n)) ys ≡ (xs ++ ys) ++ zeros (n - length xs - length ys)
laid xs ys n few =
    let a = length xs in
    let behind = drop a (zeros n) in
    let k : length xs + length ys - length xs ≡ length ys = omega arith in
    let rest : drop (length ys) behind ≡ zeros (n - a - length ys) = ap (drop (length ys)) (drop-replicate a n 0) ∙ drop-replicate (length ys) (n - a) 0 in
    rw (take-append_seam xs behind, drop-append_seam xs behind, k, rest) (sym (append_assoc xs ys (zeros (n - a - length ys))))

-- the block that they make
pub joined-block : (xs ys first second : List ℕ) → length xs + length ys ≤ 16 → first ≡ xs → second ≡ ys → from_be_bytes w128 (put_mid (length xs) (length xs + length ys - length xs) (first ++ drop (length xs) (zeros 16)) second) ≡ block_at (xs ++ ys) 0
joined-block xs ys first second few p q =
    let made = (xs ++ ys) ++ zeros (16 - length xs - length ys) in
    rw (p, q, laid xs ys 16 few) (same_block made (xs ++ ys) 0 0 (λ i h. get_or-filled (xs ++ ys) (16 - length xs - length ys) (16 * 0 + i)))

-- the block behind k whole ones
pub block-behind : (text : List ℕ) (k : ℕ) → block_at (drop (16 * k) text) 0 ≡ block_at text k
block-behind text k =
    same_block (drop (16 * k) text) text 0 k (λ i h. let e : 16 * k + (16 * 0 + i) ≡ 16 * k + i = omega arith in get_or-drop (16 * k) text (16 * 0 + i) 0 ∙ ap (λ j. get_or text j 0) e)
