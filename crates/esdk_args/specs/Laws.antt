-- What the laws of this crate say of words.
use Rattle.std.specs.Prelude.{◌≡◌, ◌≢◌, ◌↔◌, ◌≤◌, ◌<◌, ◌+◌, ◌^◌, ℕ, List, ◌++◌, length, replicate}
use Rattle.std.specs.Prelude.{decimal, All, IsSome, [], Ok, Err}
use Rattle.clap.specs.Words.{fault_of, first_of, matches_of}
use Rattle.esdk_args.specs.declared.commands.CommandName.{CommandName}
use Rattle.esdk_args.specs.declared.options.OptionName.{OptionName}
use Rattle.esdk_args.specs.declared.request.Request.{Request}
use Rattle.esdk_args.specs.declared.request.WordsFault.TheVariants.{NotRead, BadNumber, BadPair}
use Rattle.esdk_args.specs.declared.request.WordsFault.TheVariants.{Memory}
use Rattle.esdk_args.specs.Commands.{app_of_command, required_options}
use Rattle.esdk_args.specs.Plain.{AreForm}
use Rattle.esdk_args.specs.Spelling.{AreNotRead, Asks, HaveFault, SpellsNumber}
use Rattle.esdk_args.specs.Values.{Values}
use Rattle.esdk_args.specs.Words.{request_of_words, words_of}

-- Words are read as a request exactly where they ask for it.
abbrev pub ReadsRequests : Type 0
ReadsRequests =
    (words : List (List ℕ)) (request : Request) → (words_of words ≡ Ok request) ↔ Asks words request

-- Words are not read exactly where they begin with no command, or `clap` refuses those behind it.
abbrev pub ReadsNoOthers : Type 0
ReadsNoOthers = (words : List (List ℕ)) → (words_of words ≡ Err NotRead) ↔ AreNotRead words

-- A bad number of an option is named exactly where the words have one, and it is the first fault.
abbrev pub NamesBadNumbers : Type 0
NamesBadNumbers = (words : List (List ℕ)) (name : OptionName)
    → (words_of words ≡ Err (BadNumber name)) ↔ HaveFault words (BadNumber name)

-- A bad pair word is named exactly where the words have one, and it is the first fault.
abbrev pub NamesBadPairs : Type 0
NamesBadPairs = (words : List (List ℕ)) (n : ℕ)
    → (words_of words ≡ Err (BadPair n)) ↔ HaveFault words (BadPair n)

-- Words that `clap` takes behind a command give each of its required options a value.
abbrev pub GivesRequired : Type 0
GivesRequired =
    (name : CommandName) (words : List (List ℕ)) → fault_of (app_of_command name) words ≡ []
    → All (λ option. IsSome (first_of option (matches_of (app_of_command name) words)))
    (required_options name)

-- No words mean want of memory. So each list of words is one of those above.
abbrev pub NeverMemory : Type 0
NeverMemory = (words : List (List ℕ)) → words_of words ≢ Err Memory

-- Words in the plain form ask for what the values that they write ask for.
abbrev pub ReadsPlainWords : Type 0
ReadsPlainWords = (name : CommandName) (words : List (List ℕ)) (values : Values)
    → AreForm name words values → words_of words ≡ request_of_words name values

-- A number below 2^64 in decimal, with zeros before it to at most 20 digits, writes that number.
abbrev pub ReadsWrittenNumbers : Type 0
ReadsWrittenNumbers = (n zeros : ℕ) → n < 2 ^ 64 → zeros + length (decimal n) ≤ 20
    → SpellsNumber (replicate zeros 48 ++ decimal n) n
