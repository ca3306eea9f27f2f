-- Where `clap` takes the words behind a command, a value of each of its required options was found.
use Rattle.std.proofs.Common.{◌≡◌, ◌∙◌, ◌&&◌, ℕ, true, false, List, [], ◌∷◌, map, refl, sym, subst}
use Rattle.std.specs.Prelude.{All, IsSome, None, filter, not}
use Rattle.std.specs.List.{list_all, list_any}
use Rattle.std.proofs.lemmas.List.Elements.{All-cons, All-head, All-nil, All-tail}
use Rattle.clap.specs.Faults.{fault_of}
use Rattle.clap.specs.Simple.{matches_of}
use Rattle.clap.specs.Takes.{is_given}
use Rattle.clap.specs.Walk.{Row, Rule, Text, arg_by_short, first_of}
use Rattle.esdk_args.specs.declared.commands.Argument.{Argument}
use Rattle.esdk_args.specs.declared.commands.Argument.TheVariants.{Required, Optional, Flag, Pairs}
use Rattle.esdk_args.specs.declared.commands.CommandName.{CommandName}
use Rattle.esdk_args.specs.Commands.{app_of_command, argument_name, arguments, is_required, required_options}
use Rattle.esdk_args.specs.Options.{value_name}
use Rattle.esdk_args.specs.Spelling.{AreTaken}
use Rattle.esdk_args.specs.Values.{Values, values_in}
use Rattle.esdk_args.proofs.Arguments.{Each, IsThere}
use Rattle.esdk_args.proofs.Filled.{asked_given, check_given, fills, none_asked, values_given}
use Rattle.esdk_args.proofs.Table.{argument_filled, fault_is, matches_are, shape}

-- ---- a row

all_fill : (row : List Argument) → list_all fills (map argument_filled row) ≡ true
all_fill [] = refl
all_fill (Required option ∷ row) = all_fill row
all_fill (Optional option ∷ row) = all_fill row
all_fill (Flag flag ∷ row) = all_fill row
all_fill (Pairs ∷ row) = all_fill row

no_shorts : (row : List Argument) (x : ℕ) → arg_by_short (map argument_filled row) x ≡ None
no_shorts [] x = refl
no_shorts (Required option ∷ row) x = no_shorts row x
no_shorts (Optional option ∷ row) x = no_shorts row x
no_shorts (Flag flag ∷ row) x = no_shorts row x
no_shorts (Pairs ∷ row) x = no_shorts row x

-- the required options of these arguments
abbrev required_names : List Argument → List (List ℕ)
required_names row = map argument_name (filter is_required row)

all_given : (rows : List Row) (row : List Argument)
    → list_any (λ a. a.required && not (is_given a.id rows)) (map argument_filled row) ≡ false
    → All (λ id. is_given id rows ≡ true) (required_names row)
all_given rows [] none = All-nil (λ id. is_given id rows ≡ true)
all_given rows (Required option ∷ row) none =
    let id = value_name option in
    let rest = list_any (λ (a : Rule). a.required && not (is_given a.id rows)) (map argument_filled row) in
    All-cons (λ id. is_given id rows ≡ true) id (required_names row) (asked_given (is_given id rows) rest none)
    (all_given rows row (none_asked (is_given id rows) rest none))
all_given rows (Optional option ∷ row) none = all_given rows row none
all_given rows (Flag flag ∷ row) none = all_given rows row none
all_given rows (Pairs ∷ row) none = all_given rows row none

-- the words that a command takes give its required options values
pub required_given : (name : CommandName) (words : List Text) → fault_of (app_of_command name) words ≡ []
    → All (λ option. IsSome (first_of option (matches_of (app_of_command name) words))) (required_options name)
required_given name words none =
    subst (λ rows. All (λ option. IsSome (first_of option rows)) (required_options name)) (sym (matches_are name words))
    (values_given (shape name) words (required_options name) (all_fill (arguments name)) (no_shorts (arguments name))
    (sym (fault_is name words) ∙ none) (λ rows e. all_given rows (arguments name) (check_given false false _ e)))

-- argument by argument
each_there : (rows : List Row) (row : List Argument) → All (λ option. IsSome (first_of option rows)) (required_names row)
    → Each (IsThere (values_in rows)) row
each_there rows [] all = tt
each_there rows (Required option ∷ row) all =
    let P = λ (id : List ℕ). IsSome (first_of id rows) in
    (All-head P (value_name option) (required_names row) all, each_there rows row (All-tail P (value_name option) (required_names row) all))
each_there rows (Optional option ∷ row) all = (tt, each_there rows row all)
each_there rows (Flag flag ∷ row) all = (tt, each_there rows row all)
each_there rows (Pairs ∷ row) all = (tt, each_there rows row all)

pub taken_there : (name : CommandName) (words : List (List ℕ)) (values : Values) → AreTaken name words values → Each (IsThere values) (arguments name)
taken_there name words values form =
    subst (λ v. Each (IsThere v) (arguments name)) form.values_are
    (each_there (matches_of (app_of_command name) form.behind) (arguments name) (required_given name form.behind form.taken))
