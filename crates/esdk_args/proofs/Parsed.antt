-- What `parse` makes of a numeral.
use Rattle.std.proofs.Common.{◌≡◌, ◌<◌, ◌≤◌, ◌^◌, ℕ, true, List, refl, sym, subst, inl, inr, arith}
use Rattle.std.specs.Prelude.{Some, None, Ok, Err}
use Rattle.std.specs.Str.Parse.{ParsesUnsigned}
use Rattle.std.specs.declared.num.ParseIntError.{ParseIntError}
use Rattle.std.proofs.lemmas.Bool.{cases_lt}
use Rattle.std.proofs.lemmas.Str.Parse.{parse_digits}
use Rattle.esdk_args.specs.declared.options.OptionName.{OptionName}
use Rattle.esdk_args.specs.declared.options.OptionName.TheVariants.{Frame}
use Rattle.esdk_args.specs.Options.{greatest, least}
use Rattle.esdk_args.specs.Numbers.{decimal_value, is_numeral, option_number}
use Rattle.esdk_args.specs.Spelling.{SpellsNumber}
use Rattle.esdk_args.proofs.Numerals.{own, writes, are_digits, number_read, number_bad}

greatest_fits : (name : OptionName) → greatest name < 2 ^ 64
greatest_fits Frame = omega arith
greatest_fits name = omega arith

-- the number is the numeral's value
pub parsed_value : (word : List ℕ) (n : ℕ) → is_numeral word ≡ true → ParsesUnsigned {E = ParseIntError} 64 10 word (Ok n) → decimal_value word ≡ n
parsed_value word n numeral h =
    sym (parse_digits own {E = ParseIntError} 64 word (Ok n) h (are_digits word (decimal_value word) (writes word numeral))).1

-- no number: the value is beyond 64 bits
pub unparsed_value : (word : List ℕ) (e : ParseIntError) → is_numeral word ≡ true → ParsesUnsigned {E = ParseIntError} 64 10 word (Err e) → 2 ^ 64 ≤ decimal_value word
unparsed_value word e numeral h =
    let w = writes word numeral in
    let none = parse_digits own {E = ParseIntError} 64 word (Err e) h (are_digits word (decimal_value word) w) in
    elim (cases_lt (decimal_value word) (2 ^ 64)) [
      | inl lt ↦ absurd (none (omega (arith, w.some), lt))
      | inr past ↦ past
    ]

-- a value that is in the option's range, and one that isn't
pub in_range : (name : OptionName) (word : List ℕ) (n : ℕ) → is_numeral word ≡ true
    → decimal_value word ≡ n → least name ≤ n → n ≤ greatest name → option_number name word ≡ Some n
in_range name word n numeral value from upto =
    number_read name word n (subst (SpellsNumber word) value (writes word numeral), from, upto)

pub out_of_range : (name : OptionName) (word : List ℕ) (n : ℕ) → decimal_value word ≡ n
    → ((least name ≤ n) × (n ≤ greatest name) → ⊥) → option_number name word ≡ None
out_of_range name word n value out = number_bad name word (λ m w.
    let same : decimal_value word ≡ m = w.0.value in
    out (omega (arith, same, value, w.1), omega (arith, same, value, w.2)))

pub too_great : (name : OptionName) (word : List ℕ) → 2 ^ 64 ≤ decimal_value word
    → option_number name word ≡ None
too_great name word past = out_of_range name word (decimal_value word) refl
    (λ r. omega (arith, past, r.1, greatest_fits name))
