-- The numbers of the options.
use Rattle.std.specs.Prelude.{ℕ, ◌+◌, ◌-◌, ◌*◌, ◌^◌, Bool, ◌&&◌, nat_le, List, [], ◌∷◌, length}
use Rattle.std.specs.Prelude.{Option, Some, None, if◌then◌else◌}
use Rattle.std.specs.Char.{is_ascii_digit}
use Rattle.std.specs.List.{list_all}
use Rattle.esdk_args.specs.declared.options.OptionName.{OptionName}
use Rattle.esdk_args.specs.Options.{greatest, least}

-- the decimal value of ASCII digits: `0` is 48, and each digit is worth ten times one at the next
-- place
unfoldable pub decimal_value : List ℕ → ℕ
decimal_value [] = 0
decimal_value (digit ∷ digits) = (digit - 48) * 10 ^ length digits + decimal_value digits

-- 1 to 20 ASCII digits
abbrev pub is_numeral : List ℕ → Bool
is_numeral word =
    nat_le 1 (length word) && nat_le (length word) 20 && list_all is_ascii_digit word

-- the number that the option's word writes, where it is in the option's range
unfoldable pub option_number : OptionName → List ℕ → Option ℕ
option_number name word =
    if is_numeral word && nat_le (least name) (decimal_value word)
    && nat_le (decimal_value word) (greatest name) then Some (decimal_value word)
    else None
