-- What is computed of each row of the table.
use Rattle.std.proofs.Common.{◌≡◌, ◌∙◌, ◌&&◌, ◌||◌, ℕ, Bool, true, false, List, [], ◌∷◌, map, refl, ap}
use Rattle.std.specs.Prelude.{Option, Some, None, codes, not}
use Rattle.std.specs.List.{list_all}
use Rattle.std.specs.Str.{bytes_eq}
use Rattle.clap.specs.Faults.{built_fault, fault_of, is_simple_and_free, level_fault}
use Rattle.clap.specs.Lexer.{long_of}
use Rattle.clap.specs.Simple.{App, Shape, argument_words, built, is_simple, matches_of, names_of, new_shape}
use Rattle.clap.specs.Walk.{Rule, Text, arg_by_id, arg_by_index, arg_by_long, nothing_held, rows_after}
use Rattle.clap.proofs.FaultLemmas.{leaf_fault}
use Rattle.esdk_args.specs.declared.commands.Argument.{Argument}
use Rattle.esdk_args.specs.declared.commands.Argument.TheVariants.{Required, Optional, Flag, Pairs}
use Rattle.esdk_args.specs.declared.commands.CommandName.{CommandName}
use Rattle.esdk_args.specs.declared.commands.CommandName.TheVariants as commands
use Rattle.esdk_args.specs.Commands.{app_of_command, argument_name, arguments, command_named, command_text}
use Rattle.esdk_args.specs.Options.{dashed, flag_name, value_name}
use Rattle.esdk_args.proofs.Walks.{HasFlag, HasOption, HasPairs, flag_filled, option_filled, pairs_filled}

-- ---- what a parse has of a row

-- the argument as the parse has it
abbrev pub argument_filled : Argument → Rule
argument_filled (Required option) = option_filled (value_name option) true
argument_filled (Optional option) = option_filled (value_name option) false
argument_filled (Flag flag) = flag_filled (flag_name flag)
argument_filled Pairs = pairs_filled

-- the rules of a row
abbrev pub rules : CommandName → List Rule
rules name = map argument_filled (arguments name)

-- the row's command
abbrev pub shape : CommandName → Shape
shape name = record (new_shape (command_text name)) {
  rules = rules name;
  no_binary_name = true;
  disable_help_flag = true;
  disable_help_subcommand = true;
  disable_version_flag = true;
  is_built = true;
}

-- what is found among the rules by an argument's name
abbrev pub Lookup : Type 0
Lookup = Option (Text × Option Text) × Bool × Option Rule × Option Rule × Bool

-- no default
abbrev pub has_none : List Text → Bool
has_none [] = true
has_none (value ∷ values) = false

-- no argument of this name has a default
abbrev pub has_no_default : List ℕ → List Rule → Bool
has_no_default name rules = list_all (λ r. has_none r.defaults || not (bytes_eq r.id name)) rules

abbrev option_lookup : List Rule → List ℕ → Bool → Lookup
option_lookup rules name undefaulted = (
  long_of (dashed name),
  bytes_eq (dashed name) (45 ∷ 45 ∷ []),
  arg_by_long rules name,
  arg_by_id rules name,
  undefaulted,
)

abbrev pub lookup : List Rule → Argument → Lookup
lookup rules (Required option) =
    option_lookup rules (value_name option) (has_no_default (value_name option) rules)
lookup rules (Optional option) =
    option_lookup rules (value_name option) (has_no_default (value_name option) rules)
lookup rules (Flag flag) = option_lookup rules (flag_name flag) true
lookup rules Pairs = (
  None,
  false,
  arg_by_index rules 1,
  arg_by_id rules (codes "pairs"),
  has_no_default (codes "pairs") rules,
)

-- the argument itself
abbrev pub itself : Argument → Lookup
itself Pairs = (None, false, Some pairs_filled, Some pairs_filled, true)
itself argument = (
  Some (argument_name argument, None),
  false,
  Some (argument_filled argument),
  Some (argument_filled argument),
  true,
)

-- two names differ, either way
abbrev pub differ : Argument → Argument → Bool
differ a b = not (bytes_eq (argument_name a) (argument_name b))
    && not (bytes_eq (argument_name b) (argument_name a))

-- pair words come last
abbrev pub comes_last : Argument → List Argument → Bool
comes_last Pairs (argument ∷ row) = false
comes_last argument row = true

-- the names differ
abbrev pub is_row : List Argument → Bool
is_row [] = true
is_row (argument ∷ row) = comes_last argument row && (list_all (differ argument) row && is_row row)

-- What is computed of a row.
abbrev Computed : Type 0
Computed = App × Bool × Bool × Bool × Option CommandName × Bool × List Lookup

abbrev computed : CommandName → Computed
computed name = (
  built (app_of_command name),
  (app_of_command name).top.no_binary_name,
  is_simple (app_of_command name),
  is_simple_and_free (app_of_command name),
  command_named (command_text name),
  is_row (arguments name),
  map (lookup (rules name)) (arguments name),
)

abbrev wanted : CommandName → Computed
wanted name = (
  record { top = shape name; subs = [] },
  true,
  true,
  true,
  Some name,
  true,
  map itself (arguments name),
)

-- each row is as it is wanted
row : (name : CommandName) → computed name ≡ wanted name
row commands.List = refl
row name = refl

-- ---- what follows

-- each command is one of which `clap` says all
pub simple : (name : CommandName) → is_simple (app_of_command name) ≡ true
simple name = ap (λ (c : Computed). c.2) (row name)

pub simple_and_free : (name : CommandName) → is_simple_and_free (app_of_command name) ≡ true
simple_and_free name = ap (λ (c : Computed). c.3) (row name)

-- a command's word names it
pub named_back : (name : CommandName) → command_named (command_text name) ≡ Some name
named_back name = ap (λ (c : Computed). c.4) (row name)

-- names differ, and pair words come last
pub rows_differ : (name : CommandName) → is_row (arguments name) ≡ true
rows_differ name = ap (λ (c : Computed). c.5) (row name)

-- each argument is found by its name
pub found : (name : CommandName) → map (lookup (rules name)) (arguments name) ≡ map itself (arguments name)
found name = ap (λ (c : Computed). c.6) (row name)

-- the words of a command are those of its shape
words_are : (name : CommandName) (words : List Text) → argument_words (app_of_command name) words ≡ words
words_are name words = rw (ap (λ (c : Computed). c.1) (row name)) refl

pub fault_is : (name : CommandName) (words : List Text)
    → fault_of (app_of_command name) words ≡ level_fault (shape name) [] nothing_held words false []
fault_is name words =
    let app = app_of_command name in
    let made : App = record { top = shape name; subs = [] } in
    ap (λ b. built_fault b nothing_held (argument_words app words)) (ap (λ (c : Computed). c.0) (row name))
    ∙ ap (built_fault made nothing_held) (words_are name words) ∙ leaf_fault made nothing_held words refl

pub matches_are : (name : CommandName) (words : List Text)
    → matches_of (app_of_command name) words ≡ rows_after (rules name) [] words
matches_are name words =
    let app = app_of_command name in
    ap (λ (b : App). rows_after b.top.rules (names_of b) (argument_words app words)) (ap (λ (c : Computed). c.0) (row name))
    ∙ ap (rows_after (rules name) []) (words_are name words)

-- ---- one argument

-- the row's command has the argument
abbrev pub Has : CommandName → Argument → Type 0
Has name (Required option) = HasOption (shape name) (value_name option) true
Has name (Optional option) = HasOption (shape name) (value_name option) false
Has name (Flag flag) = HasFlag (shape name) (flag_name flag)
Has name Pairs = HasPairs (shape name)

pub has : (name : CommandName) (argument : Argument) → lookup (rules name) argument ≡ itself argument
    → Has name argument
has name (Required option) e = record {
  once = refl;
  long = ap (λ (l : Lookup). l.0) e;
  not_dashes = ap (λ (l : Lookup). l.1) e;
  by_long = ap (λ (l : Lookup). l.2) e;
  by_id = ap (λ (l : Lookup). l.3) e;
}
has name (Optional option) e = record {
  once = refl;
  long = ap (λ (l : Lookup). l.0) e;
  not_dashes = ap (λ (l : Lookup). l.1) e;
  by_long = ap (λ (l : Lookup). l.2) e;
  by_id = ap (λ (l : Lookup). l.3) e;
}
has name (Flag flag) e = record {
  once = refl;
  long = ap (λ (l : Lookup). l.0) e;
  not_dashes = ap (λ (l : Lookup). l.1) e;
  by_long = ap (λ (l : Lookup). l.2) e;
}
has name Pairs e =
    record { by_index = ap (λ (l : Lookup). l.2) e; by_id = ap (λ (l : Lookup). l.3) e }
