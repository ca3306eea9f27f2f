-- Which words write which numbers.
use Rattle.std.proofs.Common.{◌≡◌, ◌<◌, ◌≤◌, ◌+◌, ◌^◌, ℕ, zero, suc, Bool, true, false, List, ◌∷◌, ◌++◌, length, replicate, get_or, refl, sym, ap, subst, ◌∙◌, arith, rules, decimal, length-append}
use Rattle.std.proofs.lemmas.List.{length-replicate}
use Rattle.std.specs.Prelude.{◌&&◌, nat_le, Some, None, if◌then◌else◌}
use Rattle.std.specs.Char.{is_ascii_digit}
use Rattle.std.specs.Int.{IsInRange}
use Rattle.std.specs.List.{list_all}
use Rattle.std.proofs.lemmas.Bool.{and_parts, and_from, leb-true, le-leb, false_from_ne_true}
use Rattle.std.proofs.lemmas.List.Sums.{AllPass-from_list_all, list_all-from_AllPass}
use Rattle.std.proofs.lemmas.List.Folds.{list_all-append}
use Rattle.std.proofs.lemmas.Str.Parse.{IsNumeralModel, numerals_by_weight}
use Rattle.std.proofs.lemmas.Fmt.{digits_decimal, digits_value-decimal, decimal_nonempty}
use Rattle.esdk_args.specs.declared.options.OptionName.{OptionName}
use Rattle.esdk_args.specs.Options.{greatest, least}
use Rattle.esdk_args.specs.Numbers.{decimal_value, is_numeral, option_number}
use Rattle.esdk_args.specs.Spelling.{SpellsNumber, WritesFor}

-- all bytes are digits
abbrev pub AreDigits : List ℕ → Type 0
AreDigits word = list_all is_ascii_digit word ≡ true

pub own : IsNumeralModel AreDigits decimal_value
unfolding decimal_value
own = numerals_by_weight AreDigits (search rules) decimal_value (search rules)

-- ---- numerals

digit_of : (c : ℕ) → is_ascii_digit c ≡ true → IsInRange 48 57 c
digit_of c e = let t = and_parts (nat_le 48 c) (nat_le c 57) e in (leb-true 48 c t.0, leb-true c 57 t.1)

digit_is : (c : ℕ) → IsInRange 48 57 c → is_ascii_digit c ≡ true
digit_is c r = and_from (nat_le 48 c) (nat_le c 57) (le-leb 48 c r.0) (le-leb c 57 r.1)

pub writes : (word : List ℕ) → is_numeral word ≡ true → SpellsNumber word (decimal_value word)
writes word e =
    let t = and_parts (nat_le 1 (length word) && nat_le (length word) 20) (list_all is_ascii_digit word) e in
    let lengths = and_parts (nat_le 1 (length word)) (nat_le (length word) 20) t.0 in
    record {
      some = leb-true 1 (length word) lengths.0;
      short = leb-true (length word) 20 lengths.1;
      digits = λ k d lt. digit_of (get_or word k d) (AllPass-from_list_all is_ascii_digit word t.1 k d lt);
      value = refl;
    }

pub are_digits : (word : List ℕ) (n : ℕ) → SpellsNumber word n → AreDigits word
are_digits word n w = list_all-from_AllPass is_ascii_digit word (λ k d lt. digit_is (get_or word k d) (w.digits k d lt))

pub is_numeral_when : (word : List ℕ) (n : ℕ) → SpellsNumber word n → is_numeral word ≡ true
is_numeral_when word n w = rw (le-leb 1 (length word) w.some, le-leb (length word) 20 w.short, are_digits word n w) refl

-- ---- the number of an option

chosen : (b : Bool) (v n : ℕ) → (if b then Some v else None) ≡ Some n → (b ≡ true) × (v ≡ n)
chosen true v n e = (refl, cc)
chosen false v n e = absurd cc

refused : (b : Bool) (v : ℕ) → (if b then Some v else None) ≡ None → b ≡ false
refused true v e = absurd cc
refused false v e = refl

abbrev passes : OptionName → List ℕ → Bool
passes name word = is_numeral word && nat_le (least name) (decimal_value word) && nat_le (decimal_value word) (greatest name)

passed : (name : OptionName) (word : List ℕ) → passes name word ≡ true → WritesFor name word (decimal_value word)
passed name word e =
    let v = decimal_value word in
    let t = and_parts (is_numeral word && nat_le (least name) v) (nat_le v (greatest name)) e in
    let parts = and_parts (is_numeral word) (nat_le (least name) v) t.0 in
    (writes word parts.0, leb-true (least name) v parts.1, leb-true v (greatest name) t.1)

passes_when : (name : OptionName) (word : List ℕ) (n : ℕ) → WritesFor name word n → passes name word ≡ true
passes_when name word n w =
    let v = decimal_value word in
    let e : v ≡ n = w.0.value in
    and_from (is_numeral word && nat_le (least name) v) (nat_le v (greatest name))
    (and_from (is_numeral word) (nat_le (least name) v) (is_numeral_when word n w.0) (le-leb (least name) v (omega (arith, e, w.1))))
    (le-leb v (greatest name) (omega (arith, e, w.2)))

pub number_read : (name : OptionName) (word : List ℕ) (n : ℕ) → WritesFor name word n
    → option_number name word ≡ Some n
unfolding option_number
number_read name word n w = rw (passes_when name word n w, w.0.value) refl

pub number_writes : (name : OptionName) (word : List ℕ) (n : ℕ) → option_number name word ≡ Some n
    → WritesFor name word n
unfolding option_number
number_writes name word n e =
    let t = chosen (passes name word) (decimal_value word) n e in
    subst (WritesFor name word) t.1 (passed name word t.0)

pub number_bad : (name : OptionName) (word : List ℕ) → ((n : ℕ) → ¬ (WritesFor name word n))
    → option_number name word ≡ None
unfolding option_number
number_bad name word other =
    rw (false_from_ne_true (passes name word) (λ e. other (decimal_value word) (passed name word e)))
    refl

true_other : true ≡ false → ⊥
true_other e = cc

pub number_refused : (name : OptionName) (word : List ℕ) → option_number name word ≡ None
    → (n : ℕ) → ¬ (WritesFor name word n)
unfolding option_number
number_refused name word e n w = true_other
    (sym (passes_when name word n w) ∙ refused (passes name word) (decimal_value word) e)

-- ---- numbers that are written in decimal

zero_digit : (digits : List ℕ) → decimal_value (48 ∷ digits) ≡ decimal_value digits
unfolding decimal_value
zero_digit digits = omega arith

zeros_before : (zeros : ℕ) (digits : List ℕ) → decimal_value (replicate zeros 48 ++ digits) ≡ decimal_value digits
zeros_before zero digits = refl
zeros_before (suc zeros) digits = zero_digit (replicate zeros 48 ++ digits) ∙ zeros_before zeros digits

zero_digits : (zeros : ℕ) → AreDigits (replicate zeros 48)
zero_digits zero = refl
zero_digits (suc zeros) = zero_digits zeros

pub written : (n zeros : ℕ) → n < 2 ^ 64 → zeros + length (decimal n) ≤ 20 → SpellsNumber (replicate zeros 48 ++ decimal n) n
written n zeros small short =
    let word = replicate zeros 48 ++ decimal n in
    let long : length word ≡ zeros + length (decimal n) = length-append (replicate zeros 48) (decimal n) ∙ ap (λ k. k + length (decimal n)) (length-replicate zeros 48) in
    let digits : AreDigits word =
    list_all-append is_ascii_digit (replicate zeros 48) (decimal n) ∙ and_from (list_all is_ascii_digit (replicate zeros 48)) (list_all is_ascii_digit (decimal n)) (zero_digits zeros) (digits_decimal own n small) in
    record {
      some = omega (arith, long, decimal_nonempty n small);
      short = omega (arith, long, short);
      digits = λ k d lt. digit_of (get_or word k d) (AllPass-from_list_all is_ascii_digit word digits k d lt);
      value = zeros_before zeros (decimal n) ∙ digits_value-decimal own n small;
    }
