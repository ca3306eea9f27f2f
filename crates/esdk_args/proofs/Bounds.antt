-- The bounds of what words ask for.
use Rattle.std.proofs.Common.{◌≡◌, ◌≤◌, ℕ, List, [], ◌∷◌, refl, subst, arith}
use Rattle.std.specs.Prelude.{IfOk, Option, Some, None, Result, Ok, Err, option_and_then, unwrap_or}
use Rattle.clap.specs.Words.{Kinds, fault_of, matches_of}
use Rattle.esdk_args.specs.declared.commands.CommandName.{CommandName}
use Rattle.esdk_args.specs.declared.commands.CommandName.TheVariants as commands
use Rattle.esdk_args.specs.declared.options.OptionName.{OptionName}
use Rattle.esdk_args.specs.declared.options.OptionName.TheVariants.{Frame, Size, At, Count}
use Rattle.esdk_args.specs.declared.options.ValueOption.TheVariants.{Number}
use Rattle.esdk_args.specs.declared.request.Request.{Request}
use Rattle.esdk_args.specs.declared.request.WordsFault.{WordsFault}
use Rattle.esdk_args.specs.Commands.{app_of_command, arguments}
use Rattle.esdk_args.specs.Faults.{AnswersWords}
use Rattle.esdk_args.specs.Numbers.{option_number}
use Rattle.esdk_args.specs.Options.{greatest, least}
use Rattle.esdk_args.specs.Building.{request_from}
use Rattle.esdk_args.specs.Values.{Values, first_fault, given_of, values_in}
use Rattle.esdk_args.specs.Words.{HasFrame, HasRange, HasSize, read_behind, unless_faulty, unless_words_refused}
use Rattle.esdk_args.proofs.Numerals.{number_writes}

-- the number of an option is one that it takes
in_range : (option : OptionName) (word : Option (List ℕ)) (other : ℕ) → least option ≤ other → other ≤ greatest option
    → (least option ≤ unwrap_or (option_and_then (option_number option) word) other)
    × (unwrap_or (option_and_then (option_number option) word) other ≤ greatest option)
in_range option None other from upto = (from, upto)
in_range option (Some word) other from upto = by_number (option_number option word) (λ n is. (number_writes option word n is).1) (λ n is. (number_writes option word n is).2)
  where
    by_number : (read : Option ℕ) → ((n : ℕ) → read ≡ Some n → least option ≤ n) → ((n : ℕ) → read ≡ Some n → n ≤ greatest option)
        → (least option ≤ unwrap_or read other) × (unwrap_or read other ≤ greatest option)
    by_number None one two = (from, upto)
    by_number (Some n) one two = (one n refl, two n refl)

frame_from : (name : CommandName) (values : Values) → HasFrame (request_from name (given_of values))
frame_from commands.Encrypt values = (in_range Frame (values.words (Number Frame)) 4096 (omega arith) (omega arith)).0
frame_from commands.Reseal values = (in_range Frame (values.words (Number Frame)) 4096 (omega arith) (omega arith)).0
frame_from name values = tt

size_from : (name : CommandName) (values : Values) → HasSize (request_from name (given_of values))
size_from commands.Gen values = (in_range Size (values.words (Number Size)) 0 (omega arith) (omega arith)).1
size_from name values = tt

range_from : (name : CommandName) (values : Values) → HasRange (request_from name (given_of values))
range_from commands.Extract values =
    ((in_range At (values.words (Number At)) 0 (omega arith) (omega arith)).1, (in_range Count (values.words (Number Count)) 0 (omega arith) (omega arith)).1)
range_from name values = tt

-- a request that is read is the command's
read_is : (kinds : Kinds) (found : Option WordsFault) (request asked : Request)
    → unless_words_refused kinds (unless_faulty found request) ≡ Ok asked → request ≡ asked
read_is [] None request asked e = cc
read_is [] (Some fault) request asked e = absurd cc
read_is (kind ∷ more) found request asked e = absurd cc

-- what holds of each command's request holds of what is read
holds : (P : Request → Type 0) (name : CommandName) (words : List (List ℕ)) (read : Result Request WordsFault)
    → ((values : Values) → P (request_from name (given_of values))) → AnswersWords read (read_behind (Some name) words) → IfOk read P
holds P name words (Err fault) of_each answers = tt
holds P name words (Ok asked) of_each answers =
    let values = values_in (matches_of (app_of_command name) words) in
    subst P (read_is (fault_of (app_of_command name) words) (first_fault values (arguments name)) (request_from name (given_of values)) asked answers)
    (of_each values)

pub read_frame : (name : CommandName) (words : List (List ℕ)) (read : Result Request WordsFault) → AnswersWords read (read_behind (Some name) words) → IfOk read HasFrame
read_frame name words read answers = holds HasFrame name words read (frame_from name) answers

pub read_size : (name : CommandName) (words : List (List ℕ)) (read : Result Request WordsFault) → AnswersWords read (read_behind (Some name) words) → IfOk read HasSize
read_size name words read answers = holds HasSize name words read (size_from name) answers

pub read_range : (name : CommandName) (words : List (List ℕ)) (read : Result Request WordsFault) → AnswersWords read (read_behind (Some name) words) → IfOk read HasRange
read_range name words read answers = holds HasRange name words read (range_from name) answers
