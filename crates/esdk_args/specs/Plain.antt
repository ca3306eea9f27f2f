-- The plain form of the words: a command, then its arguments in the order of its row, each at most
-- once. An option is two words, its name and its value, but a flag is one. A word that begins with
-- `-` is neither a pair word nor an option's value.
use Rattle.std.specs.Prelude.{◌≡◌, ◌≢◌, ℕ, Bool, true, false, List, [], ◌∷◌, All}
use Rattle.std.specs.Prelude.{Option, Some, None, IfSome, IsSomeAnd}
use Rattle.std.specs.List.{flat_map}
use Rattle.esdk_args.specs.declared.commands.Argument.{Argument}
use Rattle.esdk_args.specs.declared.commands.Argument.TheVariants.{Required, Optional, Flag, Pairs}
use Rattle.esdk_args.specs.declared.commands.CommandName.{CommandName}
use Rattle.esdk_args.specs.Commands.{arguments, command_text}
use Rattle.esdk_args.specs.Options.{dashed, flag_name, value_name}
use Rattle.esdk_args.specs.Values.{Values}

-- an option's value or a pair word: a word that doesn't begin with `-` (45)
abbrev pub IsValue : List ℕ → Type 0
IsValue word = (rest : List ℕ) → word ≢ 45 ∷ rest

-- the option of this name and its value, where it has one
abbrev pub option_words : List ℕ → Option (List ℕ) → List (List ℕ)
option_words name (Some value) = dashed name ∷ value ∷ []
option_words name None = []

-- the flag of this name, where it is given
abbrev pub flag_words : List ℕ → Bool → List (List ℕ)
flag_words name true = dashed name ∷ []
flag_words name false = []

-- the words of an argument
abbrev pub argument_words : Values → Argument → List (List ℕ)
argument_words values (Required option) = option_words (value_name option) (values.words option)
argument_words values (Optional option) = option_words (value_name option) (values.words option)
argument_words values (Flag flag) = flag_words (flag_name flag) (values.flags flag)
argument_words values Pairs = values.pairs

-- none of an argument's values begins with `-`, and one that is required is there
abbrev pub ArgumentIsPlain : Values → Argument → Type 0
ArgumentIsPlain values (Required option) = IsSomeAnd (values.words option) IsValue
ArgumentIsPlain values (Optional option) = IfSome (values.words option) IsValue
ArgumentIsPlain values (Flag flag) = Unit {0}
ArgumentIsPlain values Pairs = All IsValue values.pairs

-- The words are the command with these values of the arguments of its row.
pub record AreForm (name : CommandName) (words : List (List ℕ)) (values : Values) : Type 0 where
  pub are : words ≡ command_text name ∷ flat_map (argument_words values) (arguments name)
  pub plain : All (ArgumentIsPlain values) (arguments name)
