-- Armour text is read back, and line breaks are passed over.
use Rattle.std.proofs.Common.{◌≡◌, nat_le, ℕ, zero, suc, ◌+◌, ◌*◌, ◌/◌, ◌%◌, ◌==◌, Bool, true, false, not, ◌&&◌, List, [], ◌∷◌, ◌++◌, length, take, drop, slice_index, replicate, Option, Some, None, refl, sym, ap, ◌∙◌, arith, eq-eqb, inl, inr, if◌then◌else◌}
use Rattle.std.proofs.lemmas.List.{append-nil, get_or_past, take_all}
use Rattle.std.proofs.lemmas.List.Elements.{filter-append}
use Rattle.std.proofs.lemmas.Bool.{and_parts, cases_lt, lt-leb, not-true}
use Rattle.std.proofs.Math.Seq.{take-add}
use Rattle.std.specs.Result.{result_ok}
use Rattle.esdk_base.specs.Streams.{most_input}
use Rattle.base64.specs.Tables.{all_below}
use Rattle.base64.proofs.Tables.{all_below_at}
use Rattle.base64.specs.GeneralPurpose.{IsBytes, decoded_of, encode_of}
use Rattle.base64.specs.Rfc4648.{encode_symbols, padding_len}
use Rattle.base64.specs.Engines.{standard}
use Rattle.base64.proofs.EngineFacts.{decode_of-encode_of, encode_of-append, front_bytes}
use Rattle.esdk_fields.specs.Bytes.{AreBytes}
use Rattle.armour_core.specs.Outlook.{Outlook, end_of, taken_front, text_outlook}
use Rattle.armour_core.specs.ArmourText.{armour_text, in_lines, line_feed}
use Rattle.armour_core.specs.Unarmoured.{GroupsRead, Unarmoured, groups_behind, characters, group_count, group_then, groups_read, is_character, padding, unarmoured}
use Rattle.armour_core.specs.Laws.{AreLineBreaks, PassesLineBreaks, ReadsArmourText, TakesArmourText}
use Rattle.armour_core.proofs.Groups.{read_nil}
use Rattle.armour_core.specs.LineLaws.{encoded_length}
use Rattle.armour_core.proofs.Reading.{same_characters}

-- ---- line breaks

no_characters : (breaks : List ℕ) → AreLineBreaks breaks → characters breaks ≡ []
no_characters [] are = refl
no_characters (x ∷ breaks) are =
    ap (λ (b : Bool). if b then x ∷ characters breaks else characters breaks) (are 0 0 (omega arith)) ∙ no_characters breaks (λ k d within. are (suc k) d (omega (arith, within)))

pub passes_breaks : PassesLineBreaks
passes_breaks front breaks rest are =
    same_characters (front ++ breaks ++ rest) (front ++ rest)
    (filter-append is_character (front ++ breaks) rest ∙ ap (λ (x : List ℕ). x ++ characters rest) (filter-append is_character front breaks ∙ ap (λ (x : List ℕ). characters front ++ x) (no_characters breaks are) ∙ append-nil (characters front))
    ∙ sym (filter-append is_character front rest))

-- ---- the symbols of base64

-- a character, and not the padding
abbrev is_symbol : ℕ → Bool
is_symbol symbol = is_character symbol && not (symbol == padding)

abbrev pub table : List ℕ
table = standard.encode_table

table_symbols : all_below (λ i. is_symbol (slice_index table i)) 64 ≡ true
table_symbols = refl

symbols : (i : ℕ) → is_symbol (slice_index table i) ≡ true
symbols i = elim (cases_lt i 64) [
  | inl within ↦ all_below_at (λ k. is_symbol (slice_index table k)) 64 i table_symbols within
  | inr past ↦ ap is_symbol (get_or_past table i 0 past)
]

symbol_is : (i : ℕ) → is_character (slice_index table i) ≡ true
symbol_is i = (and_parts (is_character (slice_index table i)) (not (slice_index table i == padding)) (symbols i)).0

pub no_padding : (i : ℕ) → (slice_index table i == padding) ≡ false
no_padding i = not-true (slice_index table i == padding) (and_parts (is_character (slice_index table i)) (not (slice_index table i == padding)) (symbols i)).1

pub keep : (x : ℕ) (xs : List ℕ) → is_character x ≡ true → characters xs ≡ xs → characters (x ∷ xs) ≡ x ∷ xs
keep x xs is rest = ap (λ (b : Bool). if b then x ∷ characters xs else characters xs) is ∙ ap (λ (l : List ℕ). x ∷ l) rest

keep_symbol : (i : ℕ) (xs : List ℕ) → characters xs ≡ xs → characters (slice_index table i ∷ xs) ≡ slice_index table i ∷ xs
keep_symbol i xs rest = keep (slice_index table i) xs (symbol_is i) rest

keep_symbols : (bytes : List ℕ) → characters (encode_symbols table bytes) ≡ encode_symbols table bytes
unfolding encode_symbols
keep_symbols [] = refl
keep_symbols (a ∷ []) = keep_symbol (a / 4) (slice_index table (a % 4 * 16) ∷ []) (keep_symbol (a % 4 * 16) [] refl)
keep_symbols (a ∷ b ∷ []) =
    keep_symbol (a / 4) (slice_index table (a % 4 * 16 + b / 16) ∷ slice_index table (b % 16 * 4) ∷ [])
    (keep_symbol (a % 4 * 16 + b / 16) (slice_index table (b % 16 * 4) ∷ []) (keep_symbol (b % 16 * 4) [] refl))
keep_symbols (a ∷ b ∷ c ∷ rest) =
    let more : List ℕ = encode_symbols table rest in
    keep_symbol (a / 4) (slice_index table (a % 4 * 16 + b / 16) ∷ slice_index table (b % 16 * 4 + c / 64) ∷ slice_index table (c % 64) ∷ more)
    (keep_symbol (a % 4 * 16 + b / 16) (slice_index table (b % 16 * 4 + c / 64) ∷ slice_index table (c % 64) ∷ more)
    (keep_symbol (b % 16 * 4 + c / 64) (slice_index table (c % 64) ∷ more) (keep_symbol (c % 64) more (keep_symbols rest))))

keep_padding : (count : ℕ) → characters (replicate count padding) ≡ replicate count padding
keep_padding zero = refl
keep_padding (suc n) = keep padding (replicate n padding) refl (keep_padding n)

pub keep_encoded : (bytes : List ℕ) → characters (encode_of standard bytes) ≡ encode_of standard bytes
keep_encoded bytes =
    let pads : List ℕ = replicate (padding_len (length bytes)) padding in
    filter-append is_character (encode_symbols table bytes) pads ∙ ap (λ (x : List ℕ). x ++ characters pads) (keep_symbols bytes) ∙ ap (λ (x : List ℕ). encode_symbols table bytes ++ x) (keep_padding (padding_len (length bytes)))

-- ---- lines

in_line : (count : ℕ) (cs : List ℕ) → characters (in_lines count cs) ≡ characters (take (76 * count) cs)
unfolding in_lines
in_line zero cs = refl
in_line (suc n) cs =
    let more : 76 + 76 * n ≡ 76 * suc n = omega arith in
    filter-append is_character (take 76 cs) (line_feed ∷ in_lines n (drop 76 cs)) ∙ ap (λ (x : List ℕ). characters (take 76 cs) ++ x) (in_line n (drop 76 cs))
    ∙ sym (filter-append is_character (take 76 cs) (take (76 * n) (drop 76 cs)))
    ∙ ap characters (sym (take-add 76 (76 * n) cs)) ∙ ap (λ (k : ℕ). characters (take k cs)) more

in_text : (bytes : List ℕ) → characters (armour_text bytes) ≡ encode_of standard bytes
unfolding armour_text
in_text bytes =
    let cs : List ℕ = encode_of standard bytes in
    in_line ((length cs + 75) / 76) cs ∙ ap characters (take_all (76 * ((length cs + 75) / 76)) cs (omega arith)) ∙ keep_encoded bytes

-- ---- groups

bytes_at : (bytes : List ℕ) → AreBytes bytes → IsBytes bytes
bytes_at bytes are i = elim (cases_lt i (length bytes)) [
  | inl within ↦ are i 0 within
  | inr past ↦ omega (arith, get_or_past bytes i 0 past)
]

decoded_again : (bytes : List ℕ) → IsBytes bytes → decoded_of standard (encode_of standard bytes) ≡ Some bytes
unfolding decoded_of
decoded_again bytes are = ap result_ok (decode_of-encode_of standard bytes refl are)

pub group_again : (n s0 s1 s2 s3 : ℕ) (bytes rest : List ℕ) → IsBytes bytes → encode_of standard bytes ≡ s0 ∷ s1 ∷ s2 ∷ s3 ∷ []
    → groups_read n false (s0 ∷ s1 ∷ s2 ∷ s3 ∷ rest) ≡ groups_behind bytes (groups_read (n + 1) (s3 == padding) rest)
unfolding groups_read
group_again n s0 s1 s2 s3 bytes rest are is =
    ap (λ (x : Option (List ℕ)). group_then n x (groups_read (n + 1) (s3 == padding) rest)) (ap (decoded_of standard) (sym is) ∙ decoded_again bytes are)

pub groups_again : (n : ℕ) (bytes : List ℕ) → IsBytes bytes → groups_read n false (encode_of standard bytes) ≡ record { bytes = bytes; bad = None }
unfolding encode_symbols
groups_again n [] are = read_nil n false
groups_again n (a ∷ []) are = group_again n _ _ _ _ (a ∷ []) [] are refl ∙ ap (groups_behind (a ∷ [])) (read_nil (n + 1) true)
groups_again n (a ∷ b ∷ []) are = group_again n _ _ _ _ (a ∷ b ∷ []) [] are refl ∙ ap (groups_behind (a ∷ b ∷ [])) (read_nil (n + 1) true)
groups_again n (a ∷ b ∷ c ∷ rest) are =
    let front : List ℕ = a ∷ b ∷ c ∷ [] in
    ap (groups_read n false) (encode_of-append standard front rest refl)
    ∙ group_again n _ _ _ _ front (encode_of standard rest) (front_bytes front rest are) refl
    ∙ ap (λ (p : Bool). groups_behind front (groups_read (n + 1) p (encode_of standard rest))) (no_padding (c % 64))
    ∙ ap (groups_behind front) (groups_again (n + 1) rest (λ i. are (suc (suc (suc i)))))

-- the groups are whole
encoded_whole : (bytes : List ℕ) → length (encode_of standard bytes) % 4 ≡ 0
encoded_whole bytes = let len = encoded_length bytes in omega (arith, len)

pub reads_back : ReadsArmourText
unfolding unarmoured
reads_back bytes are =
    let text = in_text bytes in
    let all = ap (groups_read 1 false) text ∙ groups_again 1 bytes (bytes_at bytes are) in
    let short : not (length (characters (armour_text bytes)) % 4 == 0) ≡ false = ap (λ (cs : List ℕ). not (length cs % 4 == 0)) text ∙ ap not (eq-eqb (length (encode_of standard bytes) % 4) 0 (encoded_whole bytes)) in
    ap (λ (r : GroupsRead). let u : Unarmoured = record { bytes = r.bytes; bad = r.bad; short = not (length (characters (armour_text bytes)) % 4 == 0) } in u) all
    ∙ ap (λ (s : Bool). let u : Unarmoured = record { bytes = bytes; bad = None; short = s } in u) short

pub takes_armour_text : TakesArmourText
unfolding text_outlook
takes_armour_text bytes are few =
    let text : List ℕ = armour_text bytes in
    let all : taken_front text ≡ text = take_all most_input text (omega (arith, few)) in
    let short : nat_le most_input (length text) ≡ false = lt-leb most_input (length text) few in
    let read = reads_back bytes are in
    ap (λ (t : List ℕ). let o : Outlook = record { bytes = (unarmoured t).bytes; end = end_of (unarmoured t).bad (nat_le most_input (length text)) (unarmoured t).short (group_count t) } in o) all
    ∙ ap (λ (u : Unarmoured). let o : Outlook = record { bytes = u.bytes; end = end_of u.bad (nat_le most_input (length text)) u.short (group_count text) } in o) read
    ∙ ap (λ (long : Bool). let o : Outlook = record { bytes = bytes; end = end_of None long false (group_count text) } in o) short
