-- What is found among the words.
use Rattle.std.specs.Prelude.{◌≡◌, ◌≢◌, ℕ, List, [], Result, Ok, Err}
use Rattle.std.specs.Option.{option_copied}
use Rattle.clap.specs.Words.{fault_of, found_of, matches_of, rows_of}
use Rattle.clap.specs.declared.error.kind.ErrorKind.{ErrorKind}
use Rattle.clap.specs.declared.error.kind.ErrorKind.TheVariants.{OutOfMemory}
use Rattle.clap.specs.declared.parser.matches.ArgMatches.{ArgMatches}
use Rattle.esdk_args.specs.declared.commands.CommandName.{CommandName}
use Rattle.esdk_args.specs.declared.pair_words.PairWord.{PairWord}
use Rattle.esdk_args.specs.declared.pair_words.PairParts.{PairParts}
use Rattle.esdk_args.specs.declared.request.WordsFault.{WordsFault}
use Rattle.esdk_args.specs.declared.request.WordsFault.TheVariants.{NotRead, BadNumber, BadPair}
use Rattle.esdk_args.specs.declared.request.WordsFault.TheVariants.{Memory}
use Rattle.esdk_args.specs.Commands.{app_of_command}

-- the pair
abbrev pub pair_value : PairParts → PairWord
pair_value parts = record {
  key = parts.key.now;
  value = option_copied parts.value;
  required = parts.required;
}

-- what an error of `clap` of this kind comes to
abbrev pub refusal_of_error : ErrorKind → WordsFault
refusal_of_error OutOfMemory = Memory
refusal_of_error kind = NotRead

-- `clap` takes the words behind the command and finds these matches, or refuses them; want of
-- memory may come at any time
abbrev pub Parses : CommandName → List (List ℕ) → Result ArgMatches WordsFault → Type 0
Parses name words (Ok m) = (fault_of (app_of_command name) words ≡ [])
    × (rows_of (found_of m) ≡ matches_of (app_of_command name) words)
Parses name words (Err NotRead) = fault_of (app_of_command name) words ≢ []
Parses name words (Err (BadNumber option)) = ⊥
Parses name words (Err (BadPair n)) = ⊥
Parses name words (Err Memory) = Unit {0}
