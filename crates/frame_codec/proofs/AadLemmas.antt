-- The parts of a unit's associated data can be told from it.
use Rattle.std.proofs.Common.{◌≡◌, ℕ, ◌+◌, ◌^◌, ◌<◌, List, ◌++◌, length, take, drop, refl, sym, ap, ◌∙◌, append_assoc, arith}
use Rattle.std.specs.Int.{w32, w64}
use Rattle.std.proofs.lemmas.List.{length-append, take_at, drop_at}
use Rattle.esdk_fields.specs.Numbers.{from_big_endian, to_big_endian}
use Rattle.esdk_fields.proofs.Again.{length-to_big_endian32, length-to_big_endian64, from-to_big_endian32, from-to_big_endian64}
use Rattle.frame_codec.specs.declared.kinds.UnitKind.{UnitKind}
use Rattle.frame_codec.specs.declared.kinds.UnitKind.TheVariants.{Regular, Final, Single}
use Rattle.frame_codec.specs.UnitAad.{kind_text, unit_aad}

-- ---- the fixed texts have different lengths

abbrev text_length : UnitKind → ℕ
text_length Regular = 28
text_length Final = 34
text_length Single = 35

length-kind_text : (kind : UnitKind) → length (kind_text kind) ≡ text_length kind
unfolding kind_text
length-kind_text Regular = refl
length-kind_text Final = refl
length-kind_text Single = refl

same_kind : (kind next : UnitKind) → text_length kind ≡ text_length next → kind ≡ next
same_kind Regular Regular e = refl
same_kind Regular Final e = absurd (omega arith)
same_kind Regular Single e = absurd (omega arith)
same_kind Final Regular e = absurd (omega arith)
same_kind Final Final e = refl
same_kind Final Single e = absurd (omega arith)
same_kind Single Regular e = absurd (omega arith)
same_kind Single Final e = absurd (omega arith)
same_kind Single Single e = refl

pub length-unit_aad : (id : List ℕ) (kind : UnitKind) (n size : ℕ) → length (unit_aad id kind n size) ≡ length id + text_length kind + 12
unfolding unit_aad
length-unit_aad id kind n size =
    let text = kind_text kind in
    omega (
      arith,
      length-append (id ++ text ++ to_big_endian w32 n) (to_big_endian w64 size),
      length-append (id ++ text) (to_big_endian w32 n),
      length-append id text,
      length-kind_text kind,
      length-to_big_endian32 n,
      length-to_big_endian64 size,
    )

-- ---- the parts, cut out of the whole

grouped : (id text number size : List ℕ) → id ++ text ++ number ++ size ≡ id ++ (text ++ (number ++ size))
grouped id text number size = simp append_assoc

id_of : (id : List ℕ) (kind : UnitKind) (n size : ℕ) → take (length id) (unit_aad id kind n size) ≡ id
unfolding unit_aad
id_of id kind n size =
    let text = kind_text kind in
    ap (take (length id)) (grouped id text (to_big_endian w32 n) (to_big_endian w64 size)) ∙ take_at id (text ++ (to_big_endian w32 n ++ to_big_endian w64 size)) (length id) refl

numbers_of : (id : List ℕ) (kind : UnitKind) (n size : ℕ) → drop (length id + text_length kind) (unit_aad id kind n size) ≡ to_big_endian w32 n ++ to_big_endian w64 size
unfolding unit_aad
numbers_of id kind n size =
    let text = kind_text kind in
    let number = to_big_endian w32 n in
    let behind = to_big_endian w64 size in
    let regrouped : id ++ text ++ number ++ behind ≡ (id ++ text) ++ (number ++ behind) = simp append_assoc in
    let front : length (id ++ text) ≡ length id + text_length kind = omega (arith, length-append id text, length-kind_text kind) in
    ap (drop (length id + text_length kind)) regrouped ∙ drop_at (id ++ text) (number ++ behind) (length id + text_length kind) front

number_of : (n size : ℕ) → n < 2 ^ 32 → from_big_endian w32 (take 4 (to_big_endian w32 n ++ to_big_endian w64 size)) ≡ n
number_of n size low = ap (from_big_endian w32) (take_at (to_big_endian w32 n) (to_big_endian w64 size) 4 (length-to_big_endian32 n)) ∙ from-to_big_endian32 n low

size_of : (n size : ℕ) → size < 2 ^ 64 → from_big_endian w64 (drop 4 (to_big_endian w32 n ++ to_big_endian w64 size)) ≡ size
size_of n size low = ap (from_big_endian w64) (drop_at (to_big_endian w32 n) (to_big_endian w64 size) 4 (length-to_big_endian32 n)) ∙ from-to_big_endian64 size low

-- ---- all of it

pub tells_apart : (id other : List ℕ) (kind next : UnitKind) (m n size length_of : ℕ) → length id ≡ length other → m < 2 ^ 32 → n < 2 ^ 32 → size < 2 ^ 64 → length_of < 2 ^ 64
    → unit_aad id kind m size ≡ unit_aad other next n length_of → (id ≡ other) × (kind ≡ next) × (m ≡ n) × (size ≡ length_of)
tells_apart id other kind next m n size length_of same_length m_low n_low size_low length_low e =
    let kind_length : text_length kind ≡ text_length next = omega (arith, ap length e, length-unit_aad id kind m size, length-unit_aad other next n length_of) in
    let at : length id + text_length kind ≡ length other + text_length next = omega arith in
    let numbers : to_big_endian w32 m ++ to_big_endian w64 size ≡ to_big_endian w32 n ++ to_big_endian w64 length_of =
    sym (numbers_of id kind m size) ∙ ap (drop (length id + text_length kind)) e ∙ ap (λ (k : ℕ). drop k (unit_aad other next n length_of)) at ∙ numbers_of other next n length_of in
    let id_is : id ≡ other = sym (id_of id kind m size) ∙ ap (take (length id)) e ∙ ap (λ (k : ℕ). take k (unit_aad other next n length_of)) same_length ∙ id_of other next n length_of in
    let number_is : m ≡ n = sym (number_of m size m_low) ∙ ap (λ (b : List ℕ). from_big_endian w32 (take 4 b)) numbers ∙ number_of n length_of n_low in
    let size_is : size ≡ length_of = sym (size_of m size size_low) ∙ ap (λ (b : List ℕ). from_big_endian w64 (drop 4 b)) numbers ∙ size_of n length_of length_low in
    (id_is, same_kind kind next kind_length, number_is, size_is)
