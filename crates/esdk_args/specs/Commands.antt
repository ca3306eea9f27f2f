-- The table of commands: what may stand behind each, and the command of `clap` that reads it.
--     list [--allow-uncommitted] [--armour]
--     encrypt --keyring NAME [--frame N] [--max-keys N] [--armour] PAIR..
--     decrypt --keyring NAME [--max-keys N] [--max-unit N] [--allow-uncommitted] [--armour]
--         PAIR..
--     batch --jobs NAME
--     gen --seed N --size N
--     extract --keyring NAME --from NAME --at N --count N PAIR..
--     audit --jobs NAME
--     migrate --keyring NAME [--retire N]
--     reseal --keyring NAME --to-keyring NAME [--frame N] [--max-unit N] [--allow-uncommitted]
--         PAIR..
use Rattle.std.specs.Prelude.{ℕ, Bool, true, false, List, [], ◌∷◌, map, filter, find, fold}
use Rattle.std.specs.Prelude.{Option, Some, codes}
use Rattle.std.specs.Str.{bytes_eq}
use Rattle.clap.specs.Words.{App, Rule, new_app, new_rule, with_rule}
use Rattle.clap.specs.Simple.{on_top}
use Rattle.clap.specs.declared.builder.action.ArgAction.TheVariants.{Append, SetTrue}
use Rattle.esdk_args.specs.declared.commands.Argument.{Argument}
use Rattle.esdk_args.specs.declared.commands.Argument.TheVariants.{Required, Optional, Flag, Pairs}
use Rattle.esdk_args.specs.declared.commands.CommandName.{CommandName}
use Rattle.esdk_args.specs.declared.commands.CommandName.TheVariants as commands
use Rattle.esdk_args.specs.declared.options.FlagOption.TheVariants.{AllowUncommitted, Armour}
use Rattle.esdk_args.specs.declared.options.NameOption.TheVariants.{Keyring, Jobs, From, ToKeyring}
use Rattle.esdk_args.specs.declared.options.OptionName.TheVariants.{Frame, MaxKeys, MaxUnit}
use Rattle.esdk_args.specs.declared.options.OptionName.TheVariants.{Retire, Seed, Size, At, Count}
use Rattle.esdk_args.specs.declared.options.ValueOption.TheVariants.{Name, Number}
use Rattle.esdk_args.specs.Options.{flag_name, value_name}

-- ---- the rows

-- the command as it is written
abbrev pub command_text : CommandName → List ℕ
command_text commands.List = codes "list"
command_text commands.Encrypt = codes "encrypt"
command_text commands.Decrypt = codes "decrypt"
command_text commands.Batch = codes "batch"
command_text commands.Gen = codes "gen"
command_text commands.Extract = codes "extract"
command_text commands.Audit = codes "audit"
command_text commands.Migrate = codes "migrate"
command_text commands.Reseal = codes "reseal"

-- what may stand behind it, in the order in which it is judged; pair words come last
abbrev pub arguments : CommandName → List Argument
arguments commands.List = Flag AllowUncommitted ∷ Flag Armour ∷ []
arguments commands.Encrypt =
    Required (Name Keyring) ∷ Optional (Number Frame) ∷ Optional (Number MaxKeys) ∷ Flag Armour
    ∷ Pairs ∷ []
arguments commands.Decrypt =
    Required (Name Keyring) ∷ Optional (Number MaxKeys) ∷ Optional (Number MaxUnit)
    ∷ Flag AllowUncommitted ∷ Flag Armour ∷ Pairs ∷ []
arguments commands.Batch = Required (Name Jobs) ∷ []
arguments commands.Gen = Required (Number Seed) ∷ Required (Number Size) ∷ []
arguments commands.Extract =
    Required (Name Keyring) ∷ Required (Name From) ∷ Required (Number At)
    ∷ Required (Number Count) ∷ Pairs ∷ []
arguments commands.Audit = Required (Name Jobs) ∷ []
arguments commands.Migrate = Required (Name Keyring) ∷ Optional (Number Retire) ∷ []
arguments commands.Reseal =
    Required (Name Keyring) ∷ Required (Name ToKeyring) ∷ Optional (Number Frame)
    ∷ Optional (Number MaxUnit) ∷ Flag AllowUncommitted ∷ Pairs ∷ []

-- all of them
abbrev pub every_command : List CommandName
every_command =
    commands.List ∷ commands.Encrypt ∷ commands.Decrypt ∷ commands.Batch ∷ commands.Gen
    ∷ commands.Extract ∷ commands.Audit ∷ commands.Migrate ∷ commands.Reseal ∷ []

-- the command that the word names
abbrev pub command_named : List ℕ → Option CommandName
command_named word = find (λ name. bytes_eq word (command_text name)) every_command

-- ---- one argument

-- its name
abbrev pub argument_name : Argument → List ℕ
argument_name (Required option) = value_name option
argument_name (Optional option) = value_name option
argument_name (Flag flag) = flag_name flag
argument_name Pairs = codes "pairs"

-- whether it has to stand there
abbrev pub is_required : Argument → Bool
is_required (Required option) = true
is_required argument = false

-- the names of the options that have to stand behind a command
abbrev pub required_options : CommandName → List (List ℕ)
required_options name = map argument_name (filter is_required (arguments name))

-- ---- the command of `clap`

-- an option of one text value
abbrev pub option_rule : List ℕ → Rule
option_rule name = record (new_rule name) { long = Some name }

-- one that is required
abbrev pub required_rule : List ℕ → Rule
required_rule name = record (option_rule name) { required = true }

-- The argument as `clap` has it: an option that is required, an option, a flag, and a positional
-- with any number of values.
abbrev pub argument_rule : Argument → Rule
argument_rule (Required option) = required_rule (value_name option)
argument_rule (Optional option) = option_rule (value_name option)
argument_rule (Flag flag) = record (option_rule (flag_name flag)) { action = Some SetTrue }
argument_rule Pairs = record (new_rule (codes "pairs")) { action = Some Append }

-- a command of `clap` with no argument; the program's name isn't among its words, and it has
-- neither a help flag nor a version flag
abbrev pub bare_app : List ℕ → App
bare_app name = on_top (λ s. record s {
  no_binary_name = true;
  disable_help_flag = true;
  disable_version_flag = true;
}) (new_app name)

-- the command of `clap` that reads the words behind this command
abbrev pub app_of_command : CommandName → App
app_of_command name =
    fold with_rule (bare_app (command_text name)) (map argument_rule (arguments name))
