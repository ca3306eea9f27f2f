-- What the words behind a command say, argument by argument.
use Rattle.std.specs.Prelude.{ℕ, Bool, true, false, List, [], ◌∷◌, find, Option, Some, None, codes}
use Rattle.std.specs.Prelude.{option_and_then, option_map, unwrap_or, is_some, if◌then◌else◌}
use Rattle.std.specs.Option.{option_or}
use Rattle.std.specs.Str.{bytes_eq}
use Rattle.clap.specs.Words.{Row, all_of, first_of, found_of, rows_of}
use Rattle.clap.specs.declared.parser.matches.ArgMatches.{ArgMatches}
use Rattle.clap.specs.declared.parser.matches.ValueSource.{ValueSource}
use Rattle.clap.specs.declared.parser.matches.ValueSource.TheVariants.{CommandLine}
use Rattle.esdk_args.specs.declared.commands.Argument.{Argument}
use Rattle.esdk_args.specs.declared.commands.Argument.TheVariants.{Required, Optional, Flag, Pairs}
use Rattle.esdk_args.specs.declared.options.FlagOption.{FlagOption}
use Rattle.esdk_args.specs.declared.options.NameOption.{NameOption}
use Rattle.esdk_args.specs.declared.options.OptionName.{OptionName}
use Rattle.esdk_args.specs.declared.options.ValueOption.{ValueOption}
use Rattle.esdk_args.specs.declared.options.ValueOption.TheVariants.{Name, Number}
use Rattle.esdk_args.specs.declared.pair_words.PairWord.{PairWord}
use Rattle.esdk_args.specs.declared.request.WordsFault.{WordsFault}
use Rattle.esdk_args.specs.declared.request.WordsFault.TheVariants.{BadNumber, BadPair}
use Rattle.esdk_args.specs.Numbers.{option_number}
use Rattle.esdk_args.specs.Options.{flag_name, value_name}
use Rattle.esdk_args.specs.PairWords.{bad_pair, pairs_of}

-- ---- what `clap` found

-- The words behind a command: that of each option with a value, where it is given; whether each
-- flag is given; and the pair words.
pub record Values : Type 0 where
  pub words : ValueOption → Option (List ℕ)
  pub flags : FlagOption → Bool
  pub pairs : List (List ℕ)

-- the words gave it, and not a default
abbrev pub is_from_words : Option ValueSource → Bool
is_from_words (Some CommandLine) = true
is_from_words _ = false

-- where the value of this name came from
abbrev pub source_in : List ℕ → List Row → Option ValueSource
source_in name rows = option_and_then (λ r. r.source) (find (λ r. bytes_eq r.id name) rows)

-- what is found in the rows of a parse
abbrev pub values_in : List Row → Values
values_in rows = record {
  words = λ option. first_of (value_name option) rows;
  flags = λ flag. is_from_words (source_in (flag_name flag) rows);
  pairs = unwrap_or (all_of (codes "pairs") rows) [];
}

-- the same, of the matches
abbrev pub values_of : ArgMatches → Values
values_of matches = values_in (rows_of (found_of matches))

-- ---- faults

-- the fault of an option's word: a number that isn't one of the option's range
abbrev pub value_fault : ValueOption → Option (List ℕ) → Option WordsFault
value_fault (Number option) (Some word) =
    if is_some (option_number option word) then None else Some (BadNumber option)
value_fault option word = None

-- the fault of an argument
abbrev pub argument_fault : Values → Argument → Option WordsFault
argument_fault values (Required option) = value_fault option (values.words option)
argument_fault values (Optional option) = value_fault option (values.words option)
argument_fault values (Flag flag) = None
argument_fault values Pairs = option_map (λ n. BadPair n) (bad_pair values.pairs)

-- the fault of the first argument that has one
abbrev pub first_fault : Values → List Argument → Option WordsFault
first_fault values [] = None
first_fault values (argument ∷ more) =
    option_or (argument_fault values argument) (first_fault values more)

-- ---- what they give

-- What the words behind a command say: names, numbers, flags and pairs.
pub record Given : Type 0 where
  pub names : NameOption → Option (List ℕ)
  pub numbers : OptionName → Option ℕ
  pub flags : FlagOption → Bool
  pub pairs : List PairWord

abbrev pub given_of : Values → Given
given_of values = record {
  names = λ option. values.words (Name option);
  numbers = λ option. option_and_then (option_number option) (values.words (Number option));
  flags = values.flags;
  pairs = pairs_of values.pairs;
}

-- the name of an option that the command requires: `clap` takes no words without one (law
-- `required_options_are_given`)
abbrev pub required_name : Given → NameOption → List ℕ
required_name given option = unwrap_or (given.names option) []

-- the number of one, likewise
abbrev pub required_number : Given → OptionName → ℕ
required_number given option = unwrap_or (given.numbers option) 0
