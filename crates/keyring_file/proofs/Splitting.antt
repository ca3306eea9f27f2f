-- Splitting a line at its spaces, and at its end.
use Rattle.std.proofs.Common.{◌≡◌, ◌≢◌, ◌<◌, ◌≤◌, ◌+◌, ◌-◌, ℕ, Bool, true, false, eqb, List, [], ◌∷◌, ◌++◌, length, take, drop, get_or, refl, sym, ap, subst, ◌∙◌, inl, inr, arith}
use Rattle.std.specs.Prelude.{All, ◌==◌, nat_lt, slice_index, Option, Some, None, MatchOption}
use Rattle.std.specs.Borrow.{Bor}
use Rattle.std.specs.Io.BufRead.{ends_with_byte, strip_last}
use Rattle.std.specs.Option.{unwrap_or}
use Rattle.std.specs.List.{position_or_len, before_first, after_first, onto_first}
use Rattle.std.proofs.Math.Seq.{get_or-append_seam}
use Rattle.std.proofs.lemmas.Bool.{and_parts, cases_eq, eqb-true, lt-ltb, ltb-true, ne_eqb}
use Rattle.std.proofs.lemmas.List.{append-nil, drop_more, drop_all, length-append, take-append-drop, take_at}
use Rattle.std.proofs.lemmas.List.Elements.{All-cons, All-from_get_or, All-nil}
use Rattle.std.proofs.lemmas.List.Splits.{length-slice_split, slice_split_at, slice_split_none, slice_split_first, slice_split-cons_no, slice_split-cons_yes}
use Rattle.std.proofs.lemmas.List.Sums.{fails_before_first}
use Rattle.keyring_file.specs.KeyLine.{space_parts}
use Rattle.keyring_file.specs.Found.{SplitsAtSpace}
use Rattle.keyring_file.specs.Spelling.{IsLineEnd}

-- ---- spaces

-- no space stands in the list
abbrev pub IsUnspaced : List ℕ → Type 0
IsUnspaced xs = All (λ b. b ≢ 32) xs

pub one_part : (line : List ℕ) → IsUnspaced line → space_parts line ≡ line ∷ []
one_part line none = slice_split_none (λ b. eqb b 32) line (λ k d lt. ne_eqb (get_or line k d) 32 (none k d lt))

-- no space before the end of the list
no_space : (line : List ℕ) → position_or_len (λ b. eqb b 32) line ≡ length line → space_parts line ≡ line ∷ []
no_space line none = slice_split_none (λ b. eqb b 32) line (All-from_get_or (λ b. eqb b 32 ≡ false) line 0 (λ k lt. fails_before_first (λ b. eqb b 32) line k 0 (omega (arith, none))))

pub splits_at_space : (text : List ℕ) (r : Option (Bor (List ℕ) × Bor (List ℕ)))
    → MatchOption r (position_or_len (λ b. eqb b 32) text ≡ length text)
    (λ x. (position_or_len (λ b. eqb b 32) text < length text) × (x.0.now ≡ before_first (λ b. eqb b 32) text) × (x.1.now ≡ after_first (λ b. eqb b 32) text))
    → SplitsAtSpace r text
splits_at_space text (Some halves) found = rw (found.1, found.2) (slice_split_first (λ b. eqb b 32) text 0 found.0)
splits_at_space text None found = no_space text found

-- there is a part
pub some_part : (line : List ℕ) → 1 ≤ length (space_parts line)
some_part line = omega (arith, length-slice_split (λ b. eqb b 32) line)

-- ---- the parts

-- no part has a space
unfoldable pub AreUnspaced : List (List ℕ) → Type 0
AreUnspaced [] = Unit {0}
AreUnspaced (part ∷ parts) = IsUnspaced part × AreUnspaced parts

unspaced_onto : (x : ℕ) (parts : List (List ℕ)) → x ≢ 32 → AreUnspaced parts → AreUnspaced (onto_first x parts)
unfolding AreUnspaced
unspaced_onto x [] other none = (All-cons (λ b. b ≢ 32) x [] other (All-nil (λ b. b ≢ 32)), tt)
unspaced_onto x (part ∷ parts) other all = (All-cons (λ b. b ≢ 32) x part other all.0, all.1)

pub unspaced_parts : (line : List ℕ) → AreUnspaced (space_parts line)
unfolding AreUnspaced
unspaced_parts [] = (All-nil (λ b. b ≢ 32), tt)
unspaced_parts (x ∷ line) = elim (cases_eq x 32) [
  | inl same ↦ subst AreUnspaced (sym (slice_split-cons_yes (λ b. eqb b 32) x line (rw same refl))) (All-nil (λ b. b ≢ 32), unspaced_parts line)
  | inr other ↦ subst AreUnspaced (sym (slice_split-cons_no (λ b. eqb b 32) x line (ne_eqb x 32 other))) (unspaced_onto x (space_parts line) other (unspaced_parts line))
]

-- three parts with spaces between them
pub three_parts : (a b c : List ℕ) → IsUnspaced a → IsUnspaced b → IsUnspaced c → space_parts (a ++ 32 ∷ (b ++ 32 ∷ c)) ≡ a ∷ b ∷ c ∷ []
three_parts a b c one two three =
    slice_split_at (λ x. eqb x 32) a 32 (b ++ 32 ∷ c) (λ k d lt. ne_eqb (get_or a k d) 32 (one k d lt)) refl
    ∙ ap (λ parts. a ∷ parts) (slice_split_at (λ x. eqb x 32) b 32 c (λ k d lt. ne_eqb (get_or b k d) 32 (two k d lt)) refl)
    ∙ ap (λ parts. a ∷ b ∷ parts) (one_part c three)

-- ---- the end

last_byte : (bytes : List ℕ) (byte : ℕ) → 1 ≤ length bytes → get_or bytes (length bytes - 1) 0 ≡ byte → bytes ≡ take (length bytes - 1) bytes ++ byte ∷ []
last_byte bytes byte some is =
    let n = length bytes - 1 in
    let e : drop n bytes ≡ get_or bytes n 0 ∷ drop (n + 1) bytes = drop_more bytes n 0 (omega arith) in
    let none : drop (n + 1) bytes ≡ [] = drop_all (n + 1) bytes (omega arith) in
    sym (take-append-drop n bytes) ∙ ap (λ l. take n bytes ++ l) (e ∙ rw (none, is) refl)

-- a line feed stands last
fed : (bytes : List ℕ) → ends_with_byte 10 bytes ≡ true → bytes ≡ take (length bytes - 1) bytes ++ 10 ∷ []
fed bytes e =
    let t = and_parts (nat_lt 0 (length bytes)) (slice_index bytes (length bytes - 1) == 10) e in
    last_byte bytes 10 (ltb-true 0 (length bytes) t.0) (eqb-true (slice_index bytes (length bytes - 1)) 10 t.1)

-- a line, and its end
pub record IsEnded (bytes : List ℕ) : Type 0 where
  pub end : List ℕ
  pub ends : IsLineEnd end
  pub is : bytes ≡ strip_last 10 bytes ++ end

ended_as : (bytes : List ℕ) (b : Bool) → ends_with_byte 10 bytes ≡ b → IsEnded bytes
ended_as bytes true e = record { end = 10 ∷ []; ends = inr refl; is = fed bytes e ∙ ap (λ l. l ++ 10 ∷ []) (sym (rw e refl)) }
ended_as bytes false e = record { end = []; ends = inl refl; is = sym (append-nil bytes) ∙ ap (λ l. l ++ []) (sym (rw e refl)) }

pub ended : (bytes : List ℕ) → IsEnded bytes
ended bytes = ended_as bytes (ends_with_byte 10 bytes) refl

-- a line feed stands last, behind these bytes
pub strip_last-yes : (front : List ℕ) → strip_last 10 (front ++ 10 ∷ []) ≡ front
strip_last-yes front =
    let long : length (front ++ 10 ∷ []) ≡ length front + 1 = length-append front (10 ∷ []) in
    let last : length (front ++ 10 ∷ []) - 1 ≡ length front = omega (arith, long) in
    let some : nat_lt 0 (length (front ++ 10 ∷ [])) ≡ true = lt-ltb 0 (length (front ++ 10 ∷ [])) (omega (arith, long)) in
    let fed : slice_index (front ++ 10 ∷ []) (length front) ≡ 10 = get_or-append_seam front 10 [] 0 in
    rw (some, last, fed) (take_at front (10 ∷ []) (length front) refl)

strips_none : (bytes : List ℕ) (b : Bool) → ends_with_byte 10 bytes ≡ b → ((front : List ℕ) → bytes ≢ front ++ 10 ∷ []) → strip_last 10 bytes ≡ bytes
strips_none bytes true e other = absurd (other (take (length bytes - 1) bytes) (fed bytes e))
strips_none bytes false e other = rw e refl

-- none stands last
pub strip_last-no : (bytes : List ℕ) → ((front : List ℕ) → bytes ≢ front ++ 10 ∷ []) → strip_last 10 bytes ≡ bytes
strip_last-no bytes other = strips_none bytes (ends_with_byte 10 bytes) refl other

-- a text, or what stands before its last line feed
pub stripped : (text : Bor (List ℕ)) (r : Option (Bor (List ℕ)))
    → MatchOption r ((front : List ℕ) → text.now ≢ front ++ 10 ∷ []) (λ x. text.now ≡ x.now ++ 10 ∷ []) → (unwrap_or r text).now ≡ strip_last 10 text.now
stripped text (Some front) is = sym (ap (strip_last 10) is ∙ strip_last-yes front.now)
stripped text None other = sym (strip_last-no text.now other)

-- three parts and those of what stands behind a third space
pub fourth_part : (parts : List (List ℕ)) (a b c more : List ℕ) → parts ≡ a ∷ b ∷ c ∷ space_parts more → length parts ≡ 3 → ⊥
fourth_part parts a b c more is three = omega (arith, ap length is, some_part more, three)
