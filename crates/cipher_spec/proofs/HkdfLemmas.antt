-- The length and the bytes of what HKDF derives, over any digest whose length and bytes are known, and
-- what one more output block adds.
use Rattle.std.proofs.Common.{◌≡◌, ◌<◌, ◌≤◌, ◌*◌, ◌+◌, ◌-◌, ℕ, zero, suc, List, [], ◌∷◌, ◌++◌, length, replicate, take, drop, refl, ap, sym, ◌∙◌, inl, inr, arith, length-append}
use Rattle.std.specs.Prelude.{All}
use Rattle.std.specs.Int.{div_ceil}
use Rattle.std.proofs.Math.Seq.{take-append-add}
use Rattle.std.proofs.lemmas.Bool.{cases_lt}
use Rattle.std.proofs.lemmas.Grind.{div_ceil_times}
use Rattle.std.proofs.lemmas.List.{append-nil, drop_all, length-take-le, take_all, take_at}
use Rattle.std.proofs.lemmas.List.Elements.{All-nil, All-append, All-take}
use Rattle.sha2.specs.Sha256.{sha256}
use Rattle.sha2.specs.Sha512.{sha512}
use Rattle.sha2.proofs.Facts256.{length-sha256}
use Rattle.sha2.proofs.Facts512.{length-sha512}
use Rattle.cipher_spec.specs.Hmac.{hmac, key_block, keyed_digest}
use Rattle.cipher_spec.specs.Hkdf.{expand, extract, hkdf, hkdf256, hkdf512, output_block, output_blocks}
use Rattle.cipher_spec.proofs.HmacLemmas.{IsByte, bytes-hmac, bytes-sha256, bytes-sha512, hmac-zeros, length-hmac}

-- T(i + 1), made from the key's block and T(i)
pub output_block_next : (digest : List ℕ → List ℕ) (block : ℕ) (prk info k : List ℕ) (i : ℕ) → k ≡ key_block digest block prk
    → keyed_digest digest k (output_block digest block prk info i ++ info ++ (i + 1) ∷ []) ≡ output_block digest block prk info (i + 1)
unfolding hmac output_block
output_block_next digest block prk info k i is = let e : i + 1 ≡ suc i = omega arith in rw (e, is) refl

-- T(1) | .. | T(n + 1) ends with T(n + 1)
pub output_blocks_next : (digest : List ℕ → List ℕ) (block : ℕ) (prk info : List ℕ) (n : ℕ)
    → output_blocks digest block prk info (n + 1) ≡ output_blocks digest block prk info n ++ output_block digest block prk info (n + 1)
unfolding output_blocks
output_blocks_next digest block prk info n = let e : n + 1 ≡ suc n = omega arith in rw e refl

pub length-output_blocks : (digest : List ℕ → List ℕ) (size : ℕ) → ((m : List ℕ) → length (digest m) ≡ size)
    → (block : ℕ) (prk info : List ℕ) (n : ℕ) → length (output_blocks digest block prk info n) ≡ n * size
unfolding output_block output_blocks
length-output_blocks digest size long block prk info zero = omega arith
length-output_blocks digest size long block prk info (suc n) =
    let before = length-output_blocks digest size long block prk info n in
    let last = length-hmac digest size long block prk (output_block digest block prk info n ++ info ++ suc n ∷ []) in
    length-append (output_blocks digest block prk info n) (output_block digest block prk info (suc n)) ∙ omega (arith, before, last)

pub bytes-output_blocks : (digest : List ℕ → List ℕ) → ((m : List ℕ) → All IsByte (digest m))
    → (block : ℕ) (prk info : List ℕ) (n : ℕ) → All IsByte (output_blocks digest block prk info n)
unfolding output_block output_blocks
bytes-output_blocks digest bytes block prk info zero = All-nil IsByte
bytes-output_blocks digest bytes block prk info (suc n) =
    All-append IsByte _ _ (bytes-output_blocks digest bytes block prk info n) (bytes-hmac digest bytes block prk _)

-- what is derived has the length that was asked for
pub length-expand : (digest : List ℕ → List ℕ) (size : ℕ) → ((m : List ℕ) → length (digest m) ≡ size) → 0 < size
    → (block : ℕ) (prk info : List ℕ) (count : ℕ) → length (expand digest block size prk info count) ≡ count
unfolding expand
length-expand digest size long some block prk info count =
    let enough = div_ceil_times count size some in
    let whole = length-output_blocks digest size long block prk info (div_ceil count size) in
    length-take-le count _ (omega (arith, enough, whole))

pub length-hkdf256 : (ikm salt info : List ℕ) (count : ℕ) → length (hkdf256 ikm salt info count) ≡ count
unfolding hkdf hkdf256
length-hkdf256 ikm salt info count = length-expand sha256 32 length-sha256 (omega arith) 64 _ info count

pub length-hkdf512 : (ikm salt info : List ℕ) (count : ℕ) → length (hkdf512 ikm salt info count) ≡ count
unfolding hkdf hkdf512
length-hkdf512 ikm salt info count = length-expand sha512 64 length-sha512 (omega arith) 128 _ info count

-- what is derived is made of bytes
pub bytes-hkdf256 : (ikm salt info : List ℕ) (count : ℕ) → All IsByte (hkdf256 ikm salt info count)
unfolding hkdf hkdf256 expand
bytes-hkdf256 ikm salt info count =
    All-take IsByte count _ (bytes-output_blocks sha256 bytes-sha256 64 _ info (div_ceil count 32))

pub bytes-hkdf512 : (ikm salt info : List ℕ) (count : ℕ) → All IsByte (hkdf512 ikm salt info count)
unfolding hkdf hkdf512 expand
bytes-hkdf512 ikm salt info count =
    All-take IsByte count _ (bytes-output_blocks sha512 bytes-sha512 128 _ info (div_ceil count 64))

-- the last block is cut off at the list's end
cut_off : (old out done last : List ℕ) (at size : ℕ) → length done ≡ at → at < length old → length last ≡ size
    → length old < at + size
    → out ≡ done ++ take (length old - at) last ++ drop (at + size) old
    → take (at + size) out ≡ take (length old) (done ++ last)
cut_off old out done last at size long room full short is =
    let none : drop (at + size) old ≡ [] = drop_all (at + size) old (omega arith) in
    let e : out ≡ done ++ take (length old - at) last = rw none at is ∙ append-nil _ in
    let part : length (take (length old - at) last) ≡ length old - at = length-take-le (length old - at) last (omega arith) in
    let all : length out ≤ at + size = rw (e, length-append) (omega arith) in
    let n : length done + (length old - at) ≡ length old = omega arith in
    take_all (at + size) out all ∙ e ∙ sym (ap (λ k. take k (done ++ last)) (sym n) ∙ take-append-add done last (length old - at))

-- the block lies within the list
within : (old out done last : List ℕ) (at size : ℕ) → length done ≡ at → length last ≡ size → at + size ≤ length old
    → out ≡ done ++ take (length old - at) last ++ drop (at + size) old
    → take (at + size) out ≡ take (length old) (done ++ last)
within old out done last at size long full fits is =
    let uncut : take (length old - at) last ≡ last = take_all (length old - at) last (omega arith) in
    let e : out ≡ done ++ last ++ drop (at + size) old = rw uncut at is in
    let both : length (done ++ last) ≡ at + size = length-append done last ∙ omega arith in
    ap (take (at + size)) e ∙ take_at (done ++ last) _ (at + size) both
    ∙ sym (take_all (length old) (done ++ last) (omega arith))

-- a list whose first `at` bytes are written, and a block written over it from there on, as far as it
-- goes: then `size` bytes more are written
pub written_more : (old out done last : List ℕ) (at size : ℕ) → length done ≡ at → at < length old → length last ≡ size
    → take at old ≡ take (length old) done
    → out ≡ take at old ++ take (length old - at) last ++ drop (at + size) old
    → take (at + size) out ≡ take (length old) (done ++ last)
written_more old out done last at size long room full before now =
    let whole : take at old ≡ done = before ∙ take_all (length old) done (omega (arith, long)) in
    let is : out ≡ done ++ take (length old - at) last ++ drop (at + size) old = rw whole at now in
    elim (cases_lt (length old) (at + size)) [
      | inl short ↦ cut_off old out done last at size long room full short is
      | inr fits ↦ within old out done last at size long full fits is
    ]

-- the empty salt is a salt of zeros, as many as a digest has bytes
pub hkdf256-no_salt : (ikm info : List ℕ) (count : ℕ) → hkdf256 ikm [] info count ≡ hkdf256 ikm (replicate 32 0) info count
unfolding hkdf hkdf256 extract
hkdf256-no_salt ikm info count =
    ap (λ prk. expand sha256 64 32 prk info count) (hmac-zeros sha256 64 32 (omega arith) ikm)

pub hkdf512-no_salt : (ikm info : List ℕ) (count : ℕ) → hkdf512 ikm [] info count ≡ hkdf512 ikm (replicate 64 0) info count
unfolding hkdf hkdf512 extract
hkdf512-no_salt ikm info count =
    ap (λ prk. expand sha512 128 64 prk info count) (hmac-zeros sha512 128 64 (omega arith) ikm)
