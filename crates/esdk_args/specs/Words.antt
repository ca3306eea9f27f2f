-- What the words ask for: the first word names the command, and `clap` reads the words behind it.
-- The first argument of the command's row that has a fault refuses them; where none has one, they
-- ask for the command's request.
use Rattle.std.specs.Prelude.{◌≤◌, ℕ, List, [], ◌∷◌, Option, Some, None, Result, Ok, Err}
use Rattle.clap.specs.Words.{Kinds, fault_of, matches_of}
use Rattle.esdk_args.specs.declared.commands.CommandName.{CommandName}
use Rattle.esdk_args.specs.declared.options.OptionName.TheVariants.{Size, At, Count}
use Rattle.esdk_args.specs.declared.request.Request.{Request}
use Rattle.esdk_args.specs.declared.request.Request.TheVariants as requests
use Rattle.esdk_args.specs.declared.request.WordsFault.{WordsFault}
use Rattle.esdk_args.specs.declared.request.WordsFault.TheVariants.{NotRead}
use Rattle.esdk_args.specs.Building.{request_from}
use Rattle.esdk_args.specs.Commands.{app_of_command, arguments, command_named}
use Rattle.esdk_args.specs.Options.{greatest}
use Rattle.esdk_args.specs.Values.{Values, first_fault, given_of, values_in}

-- ---- one command

-- the fault, or the request
abbrev pub unless_faulty : Option WordsFault → Request → Result Request WordsFault
unless_faulty None request = Ok request
unless_faulty (Some fault) request = Err fault

-- what the values of a command's words ask for
abbrev pub request_of_words : CommandName → Values → Result Request WordsFault
request_of_words name values = unless_faulty (first_fault values (arguments name))
    (request_from name (given_of values))

-- ---- the words

-- where `clap` refuses the words, they ask for nothing
abbrev pub unless_words_refused : Kinds → Result Request WordsFault → Result Request WordsFault
unless_words_refused [] request = request
unless_words_refused (kind ∷ more) request = Err NotRead

-- what the words behind a command ask for
abbrev pub read_behind : Option CommandName → List (List ℕ) → Result Request WordsFault
read_behind None words = Err NotRead
read_behind (Some name) words = unless_words_refused (fault_of (app_of_command name) words)
    (request_of_words name (values_in (matches_of (app_of_command name) words)))

-- what the words ask for
unfoldable pub words_of : List (List ℕ) → Result Request WordsFault
words_of [] = Err NotRead
words_of (word ∷ behind) = read_behind (command_named word) behind

-- ---- bounds

-- A frame length is at least 1.
abbrev pub HasFrame : Request → Type 0
HasFrame (requests.Encrypt asked) = 1 ≤ asked.frame
HasFrame (requests.Reseal asked) = 1 ≤ asked.frame
HasFrame request = Unit {0}

-- The size of a generated text is one that its option takes.
abbrev pub HasSize : Request → Type 0
HasSize (requests.Gen seed size) = size ≤ greatest Size
HasSize request = Unit {0}

-- The range of an extraction is one that its options take.
abbrev pub HasRange : Request → Type 0
HasRange (requests.Extract asked) = (asked.at ≤ greatest At) × (asked.count ≤ greatest Count)
HasRange request = Unit {0}
