-- The same without reading: which words ask for which request, and which have which fault.
use Rattle.std.specs.Prelude.{◌≡◌, ◌≢◌, ◌≤◌, ◌⊎◌, ℕ, ◌+◌, ◌-◌, ◌^◌, min, Bool, true, false}
use Rattle.std.specs.Prelude.{List, [], ◌∷◌, ◌++◌, length, map, All, Option, Some, None}
use Rattle.std.specs.Prelude.{IsSome, IsSomeAnd, IfSome}
use Rattle.std.specs.Int.{IsInRange}
use Rattle.clap.specs.Words.{fault_of, matches_of}
use Rattle.esdk_args.specs.declared.commands.Argument.{Argument}
use Rattle.esdk_args.specs.declared.commands.Argument.TheVariants.{Required, Optional, Flag, Pairs}
use Rattle.esdk_args.specs.declared.commands.CommandName.{CommandName}
use Rattle.esdk_args.specs.declared.options.OptionName.{OptionName}
use Rattle.esdk_args.specs.declared.options.ValueOption.{ValueOption}
use Rattle.esdk_args.specs.declared.options.ValueOption.TheVariants.{Name, Number}
use Rattle.esdk_args.specs.declared.pair_words.PairWord.{PairWord}
use Rattle.esdk_args.specs.declared.request.Request.{Request}
use Rattle.esdk_args.specs.declared.request.WordsFault.{WordsFault}
use Rattle.esdk_args.specs.declared.request.WordsFault.TheVariants.{BadNumber, BadPair}
use Rattle.esdk_args.specs.Commands.{app_of_command, arguments, command_text}
use Rattle.esdk_args.specs.Numbers.{decimal_value}
use Rattle.esdk_args.specs.Options.{greatest, least}
use Rattle.esdk_args.specs.Building.{request_from}
use Rattle.esdk_args.specs.Values.{Given, Values, values_in}

-- ---- one word

-- The word writes this number: 1 to 20 digits, `0` (48) to `9` (57), of this decimal value.
pub record SpellsNumber (word : List ℕ) (n : ℕ) : Type 0 where
  pub some : 1 ≤ length word
  pub short : length word ≤ 20
  pub digits : All (IsInRange 48 57) word
  pub value : decimal_value word ≡ n

-- the word writes this number, which the option takes
abbrev pub WritesFor : OptionName → List ℕ → ℕ → Type 0
WritesFor name word n = SpellsNumber word n × (least name ≤ n) × (n ≤ greatest name)

-- a colon (58), where the key is required
abbrev pub colon_text : Bool → List ℕ
colon_text true = 58 ∷ []
colon_text false = []

-- `=` (61) and the value, where there is one
abbrev pub value_text : Option (List ℕ) → List ℕ
value_text (Some value) = 61 ∷ value
value_text None = []

-- the word that names a pair
abbrev pub pair_word_text : PairWord → List ℕ
pair_word_text pair = pair.key ++ colon_text pair.required ++ value_text pair.value

-- A word names this pair: its key isn't empty and has no `=`. A key that isn't required doesn't end
-- in a colon, and has a value.
pub record IsPair (pair : PairWord) : Type 0 where
  pub some : pair.key ≢ []
  pub plain : All (λ b. b ≢ 61) pair.key
  pub optional : pair.required ≡ false
      → IsSome pair.value × ((front : List ℕ) → pair.key ≢ front ++ 58 ∷ [])

-- The words are those of these pairs.
abbrev pub ArePairs : List (List ℕ) → List PairWord → Type 0
ArePairs words pairs = (words ≡ map pair_word_text pairs) × All IsPair pairs

-- ---- what `clap` takes

-- The words are the command, and `clap` takes those behind it, with these values of its arguments.
pub record AreTaken (name : CommandName) (words : List (List ℕ)) (values : Values) : Type 0 where
  pub behind : List (List ℕ)
  pub are : words ≡ command_text name ∷ behind
  pub taken : fault_of (app_of_command name) behind ≡ []
  pub values_are : values_in (matches_of (app_of_command name) behind) ≡ values

-- The words are a command, and `clap` refuses those behind it.
pub record AreRefused (words : List (List ℕ)) : Type 0 where
  pub name : CommandName
  pub behind : List (List ℕ)
  pub are : words ≡ command_text name ∷ behind
  pub refused : fault_of (app_of_command name) behind ≢ []

-- The words begin with no command.
abbrev pub NameNoCommand : List (List ℕ) → Type 0
NameNoCommand words =
    (name : CommandName) (behind : List (List ℕ)) → words ≢ command_text name ∷ behind

-- ---- requests

-- no word, or one that writes this number
abbrev pub MayGive : OptionName → Option (List ℕ) → Option ℕ → Type 0
MayGive name word None = word ≡ None
MayGive name word (Some n) = IsSomeAnd word (λ text. WritesFor name text n)

-- the option's word is this name, or writes this number
abbrev pub SaysValue : ValueOption → Option (List ℕ) → Given → Type 0
SaysValue (Name option) word given = given.names option ≡ word
SaysValue (Number option) word given = MayGive option word (given.numbers option)

-- the words of this argument say what is given of it; one that is required has a word
abbrev pub Says : Values → Given → Argument → Type 0
Says values given (Required option) =
    IsSome (values.words option) × SaysValue option (values.words option) given
Says values given (Optional option) = SaysValue option (values.words option) given
Says values given (Flag flag) = given.flags flag ≡ values.flags flag
Says values given Pairs = ArePairs values.pairs given.pairs

-- The words ask for this request: `clap` takes them with values that say what the command makes it
-- of.
pub record Asks (words : List (List ℕ)) (request : Request) : Type 0 where
  pub name : CommandName
  pub values : Values
  pub given : Given
  pub taken : AreTaken name words values
  pub says : All (Says values given) (arguments name)
  pub is : request_from name given ≡ request

-- ---- faults

-- the words ask for nothing: they begin with no command, or `clap` refuses those behind it
abbrev pub AreNotRead : List (List ℕ) → Type 0
AreNotRead words = NameNoCommand words ⊎ AreRefused words

-- a word of an option with a number writes one that it takes
abbrev pub IsGoodValue : ValueOption → Option (List ℕ) → Type 0
IsGoodValue (Name option) word = Unit {0}
IsGoodValue (Number option) word = IfSome word (λ text. (n : ℕ) × WritesFor option text n)

-- the option has a word, which writes no number that it takes
abbrev pub IsBadNumber : OptionName → Option (List ℕ) → Type 0
IsBadNumber name word = IsSomeAnd word (λ text. (n : ℕ) → ¬ (WritesFor name text n))

-- The n-th of these words is the first that names no pair. They are counted from 1, and n stands
-- still at 2^32 - 1.
pub record IsFirstBadPair (words : List (List ℕ)) (n : ℕ) : Type 0 where
  pub before : List PairWord
  pub bad : List ℕ
  pub behind : List (List ℕ)
  pub are : words ≡ map pair_word_text before ++ bad ∷ behind
  pub pairs : All IsPair before
  pub no_pair : (pair : PairWord) → IsPair pair → bad ≢ pair_word_text pair
  pub number : n ≡ min (length before + 1) (2 ^ 32 - 1)

-- the words of this argument are good
abbrev pub IsGood : Values → Argument → Type 0
IsGood values (Required option) = IsGoodValue option (values.words option)
IsGood values (Optional option) = IsGoodValue option (values.words option)
IsGood values (Flag flag) = Unit {0}
IsGood values Pairs = (pairs : List PairWord) × ArePairs values.pairs pairs

-- this option's word is the fault
abbrev pub HasBadValue : ValueOption → Option (List ℕ) → WordsFault → Type 0
HasBadValue (Number option) word (BadNumber name) = (option ≡ name) × IsBadNumber option word
HasBadValue option word fault = ⊥

-- the words of this argument have this fault
abbrev pub ArgumentHasFault : Values → WordsFault → Argument → Type 0
ArgumentHasFault values fault (Required option) = HasBadValue option (values.words option) fault
ArgumentHasFault values fault (Optional option) = HasBadValue option (values.words option) fault
ArgumentHasFault values (BadPair n) Pairs = IsFirstBadPair values.pairs n
ArgumentHasFault values fault argument = ⊥

-- Of these arguments, the first that isn't good has this fault.
pub record IsFirstFault (values : Values) (row : List Argument) (fault : WordsFault) : Type 0 where
  pub before : List Argument
  pub bad : Argument
  pub behind : List Argument
  pub are : row ≡ before ++ bad ∷ behind
  pub good : All (IsGood values) before
  pub has : ArgumentHasFault values fault bad

-- `clap` takes the words, and the first argument of the command's row that isn't good has this
-- fault.
pub record HaveFault (words : List (List ℕ)) (fault : WordsFault) : Type 0 where
  pub name : CommandName
  pub values : Values
  pub taken : AreTaken name words values
  pub first : IsFirstFault values (arguments name) fault
