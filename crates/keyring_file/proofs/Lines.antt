-- A line is read as a key exactly where it is spelled as that key's line.
use Rattle.std.proofs.Common.{◌≡◌, ◌≢◌, ◌+◌, ℕ, Bool, true, false, List, [], ◌∷◌, ◌++◌, length, get_or, refl, sym, ap, subst, ◌∙◌, inl, inr, arith, append_assoc}
use Rattle.std.specs.Prelude.{IfOk, Result, Ok, Err, if◌then◌else◌}
use Rattle.std.specs.Io.BufRead.{strip_last}
use Rattle.std.specs.List.{AllPass}
use Rattle.std.specs.Str.{bytes_eq, is_utf8, IsUtf8}
use Rattle.std.proofs.lemmas.Bool.{false_from_ne_true}
use Rattle.std.proofs.lemmas.List.{append-nil, get_or-append-add, length-append}
use Rattle.std.proofs.lemmas.List.Splits.{join_with_byte-slice_split}
use Rattle.std.proofs.Math.Seq.{get_or-append_seam}
use Rattle.std.proofs.lemmas.Slice.Eq.{bytes_eq-Decides}
use Rattle.std.proofs.lemmas.Str.{IsUtf8-from_is_utf8, is_utf8-from_IsUtf8}
use Rattle.std.specs.List.{join_with_byte}
use Rattle.hex.specs.Hex.{decode_sized, is_hex_digit}
use Rattle.hex.proofs.HexLemmas.{IsOk-decode_sized}
use Rattle.esdk_fields.specs.declared.refusals.FileRefusal.{FileRefusal}
use Rattle.esdk_fields.specs.declared.refusals.FileRefusal.TheVariants.{BadShape}
use Rattle.keyring_trait.specs.Wrapping.{WrapKeyValue}
use Rattle.raw_aes_keyring.specs.RawKey.{reserved_namespace}
use Rattle.keyring_file.specs.KeyLine.{key_in_parts, key_line, key_of_parts, parts_in, space_parts}
use Rattle.keyring_file.specs.declared.key_line.KeyLine.{KeyLine}
use Rattle.keyring_file.specs.Found.{FindsKey, key_value}
use Rattle.keyring_file.specs.Spelling.{IsKeyLine, IsLineEnd, IsLineKey}
use Rattle.keyring_file.proofs.Keys.{AreParts, parts_read, parts_are_read, word_is, word_length}
use Rattle.keyring_file.proofs.Splitting.{AreUnspaced, IsUnspaced, ended, strip_last-no, strip_last-yes, three_parts, unspaced_parts}

when_true : (b : Bool) (r : Result WrapKeyValue FileRefusal) (w : WrapKeyValue) → (if b then r else Err (BadShape 1)) ≡ Ok w → (b ≡ true) × (r ≡ Ok w)
when_true true r w e = (refl, e)
when_true false r w e = absurd cc

true_other : true ≡ false → ⊥
true_other e = cc

-- ---- what is read is spelled so

unspaced_three : (a b c : List ℕ) → AreUnspaced (a ∷ b ∷ c ∷ []) → IsUnspaced a × IsUnspaced b
unfolding AreUnspaced
unspaced_three a b c all = (all.0, all.1.0)

-- what key a line has
pub line_key : (bytes : List ℕ) (w : WrapKeyValue) → AreParts (parts_in bytes) w → IsLineKey w
line_key bytes w p =
    let none = unspaced_three w.namespace w.name p.digits (subst AreUnspaced p.are (unspaced_parts (strip_last 10 bytes))) in
    let namespace = word_length w.namespace p.namespace in
    let name = word_length w.name p.name in
    record {
      namespace = record { some = namespace.some; short = namespace.short; unspaced = none.0 };
      name = record { some = name.some; short = name.short; unspaced = none.1 };
      unreserved = λ same. absurd (true_other (sym ((bytes_eq-Decides w.namespace reserved_namespace).1 same) ∙ p.unreserved));
      active = p.active;
    }

-- the line, but for its end
abbrev unended : WrapKeyValue → List ℕ → List ℕ
unended w digits = w.namespace ++ 32 ∷ w.name ++ 32 ∷ digits

joined : (line a b c : List ℕ) → space_parts line ≡ a ∷ b ∷ c ∷ [] → line ≡ a ++ 32 ∷ b ++ 32 ∷ c
joined line a b c is = sym (join_with_byte-slice_split 32 line) ∙ ap (join_with_byte 32) is ∙ sym (append_assoc a (32 ∷ b) (32 ∷ c))

pub line_is_spelled : (bytes : List ℕ) (w : WrapKeyValue) → key_line bytes ≡ Ok w → IsKeyLine bytes w
unfolding key_line
line_is_spelled bytes w e =
    let t = when_true (is_utf8 bytes) (key_in_parts (parts_in bytes)) w e in
    let p = parts_read (parts_in bytes) w t.1 in
    let d = ended bytes in
    record {
      digits = p.digits;
      end = d.end;
      key = line_key bytes w p;
      spelled = p.spelled;
      ends = d.ends;
      line = d.is ∙ ap (λ line. line ++ d.end) (joined (strip_last 10 bytes) w.namespace w.name p.digits p.are);
      text = IsUtf8-from_is_utf8 bytes t.0;
    }

-- ---- what is spelled so is read

pub record AreDigits (digits : List ℕ) : Type 0 where
  pub long : length digits ≡ 64
  pub each : AllPass is_hex_digit digits

pub digits_of : (digits key : List ℕ) → decode_sized digits 32 ≡ Ok key → AreDigits digits
digits_of digits key e = let t = (IsOk-decode_sized digits 32).0 (rw e refl) in record { long = t.0; each = t.1 }

-- a digit is no byte that is none
pub digit_other : (b c : ℕ) → is_hex_digit b ≡ true → is_hex_digit c ≡ false → b ≢ c
digit_other b c digit other same = true_other (sym (subst (λ (x : ℕ). is_hex_digit x ≡ true) same digit) ∙ other)

digits_unspaced : (digits : List ℕ) → AreDigits digits → IsUnspaced digits
digits_unspaced digits are = λ k d lt. digit_other (get_or digits k d) 32 (are.each k d lt) refl

-- a digit stands last, and no line feed
digit_last : (xs digits front : List ℕ) → AreDigits digits → xs ++ 32 ∷ digits ≡ front ++ 10 ∷ [] → ⊥
digit_last xs digits front are is =
    let long : length front ≡ length xs + 64 = omega (arith, ap length is, length-append xs (32 ∷ digits), length-append front (10 ∷ []), are.long) in
    let left : get_or (xs ++ 32 ∷ digits) (length xs + 64) 0 ≡ get_or digits 63 0 = get_or-append-add xs (32 ∷ digits) 64 0 in
    let right : get_or (front ++ 10 ∷ []) (length front) 0 ≡ 10 = get_or-append_seam front 10 [] 0 in
    let fed : get_or digits 63 0 ≡ 10 = sym left ∙ ap (λ l. get_or l (length xs + 64) 0) is ∙ ap (λ n. get_or (front ++ 10 ∷ []) n 0) (sym long) ∙ right in
    digit_other (get_or digits 63 0) 10 (are.each 63 0 (omega (arith, are.long))) refl fed

line_of : (bytes xs digits end : List ℕ) → AreDigits digits → IsLineEnd end → bytes ≡ (xs ++ 32 ∷ digits) ++ end → strip_last 10 bytes ≡ xs ++ 32 ∷ digits
line_of bytes xs digits end are (inl none) is =
    let e : bytes ≡ xs ++ 32 ∷ digits = is ∙ ap (λ l. (xs ++ 32 ∷ digits) ++ l) none ∙ append-nil (xs ++ 32 ∷ digits) in
    ap (strip_last 10) e ∙ strip_last-no (xs ++ 32 ∷ digits) (λ front. digit_last xs digits front are)
line_of bytes xs digits end are (inr fed) is =
    ap (strip_last 10) (is ∙ ap (λ l. (xs ++ 32 ∷ digits) ++ l) fed) ∙ strip_last-yes (xs ++ 32 ∷ digits)

pub spelled_is_read : (bytes : List ℕ) (w : WrapKeyValue) → IsKeyLine bytes w → key_line bytes ≡ Ok w
unfolding key_line
spelled_is_read bytes w s =
    let are = digits_of s.digits w.key s.spelled in
    let line : strip_last 10 bytes ≡ unended w s.digits = line_of bytes (w.namespace ++ 32 ∷ w.name) s.digits s.end are s.ends s.line in
    let split : parts_in bytes ≡ w.namespace ∷ w.name ∷ s.digits ∷ [] =
    ap space_parts (line ∙ append_assoc w.namespace (32 ∷ w.name) (32 ∷ s.digits)) ∙ three_parts w.namespace w.name s.digits s.key.namespace.unspaced s.key.name.unspaced (digits_unspaced s.digits are) in
    let read : key_in_parts (parts_in bytes) ≡ Ok w = parts_are_read (parts_in bytes) w (record {
      digits = s.digits;
      are = split;
      namespace = word_is w.namespace s.key.namespace.some s.key.namespace.short;
      name = word_is w.name s.key.name.some s.key.name.short;
      unreserved = false_from_ne_true (bytes_eq w.namespace reserved_namespace) (λ e. s.key.unreserved ((bytes_eq-Decides w.namespace reserved_namespace).0 e));
      spelled = s.spelled;
      active = s.key.active;
    }) in
    rw (is_utf8-from_IsUtf8 bytes s.text) read

-- ---- what the code finds

pub not_text : (bytes : List ℕ) → (IsUtf8 bytes → ⊥) → key_line bytes ≡ Err (BadShape 1)
unfolding key_line
not_text bytes other = rw (false_from_ne_true (is_utf8 bytes) (λ e. other (IsUtf8-from_is_utf8 bytes e))) refl

pub three_of_text : (bytes a b digits : List ℕ) → IsUtf8 bytes → parts_in bytes ≡ a ∷ b ∷ digits ∷ [] → key_line bytes ≡ key_of_parts a b digits
unfolding key_line
three_of_text bytes a b digits text parts = rw (is_utf8-from_IsUtf8 bytes text, parts) refl

pub found_key : (bytes : List ℕ) (r : Result KeyLine FileRefusal) → FindsKey r (key_line bytes) → IfOk r (λ line. IsLineKey (key_value line))
found_key bytes (Ok line) found = (line_is_spelled bytes (key_value line) found).key
found_key bytes (Err refusal) found = tt
