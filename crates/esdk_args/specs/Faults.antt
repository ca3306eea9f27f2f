-- What a call may answer in place of a reading.
use Rattle.std.specs.Prelude.{◌≡◌, ℕ, List, ◌++◌, Result, Ok, Err, codes, decimal}
use Rattle.esdk_args.specs.declared.request.WordsFault.{WordsFault}
use Rattle.esdk_args.specs.declared.request.WordsFault.TheVariants.{NotRead, BadNumber, BadPair}
use Rattle.esdk_args.specs.declared.request.WordsFault.TheVariants.{Memory}
use Rattle.esdk_args.specs.Options.{option_text}

-- This value, or this fault; want of memory may come at any time.
abbrev pub AnswersWords : {A : Type 0} → Result A WordsFault → Result A WordsFault → Type 0
AnswersWords (Ok value) reading = reading ≡ Ok value
AnswersWords (Err NotRead) reading = reading ≡ Err NotRead
AnswersWords (Err (BadNumber name)) reading = reading ≡ Err (BadNumber name)
AnswersWords (Err (BadPair n)) reading = reading ≡ Err (BadPair n)
AnswersWords (Err Memory) reading = Unit {0}

-- what is shown of why the words ask for nothing
unfoldable pub words_fault_text : WordsFault → List ℕ
words_fault_text NotRead = codes "the words are those of no command"
words_fault_text (BadNumber option) = option_text option ++ codes " has no number of its range"
words_fault_text (BadPair place) = codes "pair word " ++ decimal place ++ codes " is no pair"
words_fault_text Memory = codes "memory ran out"
