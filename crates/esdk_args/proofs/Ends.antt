-- What is found at the end of words in the plain form.
use Rattle.std.proofs.Common.{◌≡◌, ◌∙◌, ◌&&◌, ◌||◌, ◌++◌, ℕ, Bool, true, false, List, [], ◌∷◌, map, refl, ap, subst, append_assoc}
use Rattle.std.specs.Prelude.{Option, Some, None, IsSome, codes, find, fold, not, option_and_then, option_map, slice_get, unwrap_or, if◌then◌else◌}
use Rattle.std.specs.List.{flat_map, list_all, list_any}
use Rattle.std.specs.Option.{option_map_or, option_or}
use Rattle.std.specs.Str.{bytes_eq}
use Rattle.std.proofs.lemmas.List.Folds.{find-append}
use Rattle.std.proofs.lemmas.Slice.Eq.{bytes_eq-Decides}
use Rattle.clap.specs.Facts.{explicit_source}
use Rattle.clap.specs.Faults.{check_fault, default_fault, defaults_fault, given_default_fault}
use Rattle.clap.specs.Kinds.{Kinds, check_kinds, or_else}
use Rattle.clap.specs.Takes.{is_given}
use Rattle.clap.specs.Walk.{Row, Rule, Text, all_of, default_rows, first_of, has_row, more_values, reading_by, with_default}
use Rattle.clap.specs.declared.parser.matches.ValueSource.TheVariants.{DefaultValue}
use Rattle.esdk_args.specs.declared.commands.Argument.{Argument}
use Rattle.esdk_args.specs.declared.commands.Argument.TheVariants.{Required, Optional, Flag, Pairs}
use Rattle.esdk_args.specs.declared.commands.CommandName.{CommandName}
use Rattle.clap.proofs.OnLiterals.{clap_on_literals}
use Rattle.esdk_args.specs.Commands.{argument_name, arguments}
use Rattle.esdk_args.specs.Options.{flag_name, value_name}
use Rattle.esdk_args.specs.Values.{Values, is_from_words, values_in}
use Rattle.esdk_args.proofs.Arguments.{Each, IsThere, each_both, each_more}
use Rattle.esdk_args.proofs.Table.{Lookup, argument_filled, comes_last, differ, found, has_no_default, has_none, is_row, itself, lookup, rows_differ, rules, shape}
use Rattle.esdk_args.proofs.Walks.{added, flag_filled, flag_row, option_row, pair_rows}

-- ---- the rows of a row's values

-- the row of an option, where it is given
abbrev pub option_rows : List ℕ → Bool → Option (List ℕ) → List Row
option_rows name required (Some value) = option_row name required value ∷ []
option_rows name required None = []

-- the row of a flag, where it is given
abbrev pub flag_rows : List ℕ → Bool → List Row
flag_rows name true = flag_row name ∷ []
flag_rows name false = []

-- the rows of an argument
abbrev pub argument_rows : Values → Argument → List Row
argument_rows values (Required option) = option_rows (value_name option) true (values.words option)
argument_rows values (Optional option) = option_rows (value_name option) false (values.words option)
argument_rows values (Flag flag) = flag_rows (flag_name flag) (values.flags flag)
argument_rows values Pairs = pair_rows values.pairs

-- no row has the name of another argument
option_other : (name id : List ℕ) (required : Bool) (word : Option (List ℕ)) → bytes_eq name id ≡ false → has_row id (option_rows name required word) ≡ false
option_other name id required None other = refl
option_other name id required (Some word) other = rw other refl

flag_other : (name id : List ℕ) (given : Bool) → bytes_eq name id ≡ false → has_row id (flag_rows name given) ≡ false
flag_other name id false other = refl
flag_other name id true other = rw other refl

pairs_other : (id : List ℕ) (words : List (List ℕ)) → bytes_eq (codes "pairs") id ≡ false → has_row id (pair_rows words) ≡ false
pairs_other id [] other = refl
pairs_other id (word ∷ words) other = rw other refl

rows_other : (values : Values) (argument : Argument) (id : List ℕ) → bytes_eq (argument_name argument) id ≡ false → has_row id (argument_rows values argument) ≡ false
rows_other values (Required option) id other = option_other (value_name option) id true (values.words option) other
rows_other values (Optional option) id other = option_other (value_name option) id false (values.words option) other
rows_other values (Flag flag) id other = flag_other (flag_name flag) id (values.flags flag) other
rows_other values Pairs id other = pairs_other id values.pairs other

-- ---- names that no row has

none_of_both : (id : List ℕ) (one other : List Row) → has_row id one ≡ false → has_row id other ≡ false → has_row id (one ++ other) ≡ false
none_of_both id [] other none rest = rest
none_of_both id (r ∷ one) other none rest = by_test (bytes_eq r.id id) refl (none_of_both id one other)
  where
    by_test : (b : Bool) → bytes_eq r.id id ≡ b
        → (has_row id one ≡ false → has_row id other ≡ false → has_row id (one ++ other) ≡ false)
        → has_row id ((r ∷ one) ++ other) ≡ false
    by_test true here more = let never = rw here at none in absurd cc
    by_test false here more = let left = rw here at none in rw here (more left rest)

-- what is left of a test that holds of all
pub test_both : (a b : Bool) → (a && b) ≡ true → (a ≡ true) × (b ≡ true)
test_both true b e = (refl, e)
test_both false b e = absurd cc

pub test_not : (a : Bool) → not a ≡ true → a ≡ false
test_not true e = absurd cc
test_not false e = refl

-- no row has one of these names
abbrev pub IsFresh : List Row → Argument → Type 0
IsFresh rows argument = has_row (argument_name argument) rows ≡ false

pub fresh_more : (values : Values) (front : List Row) (argument : Argument) (row : List Argument) → list_all (differ argument) row ≡ true
    → Each (IsFresh front) row → Each (IsFresh (front ++ argument_rows values argument)) row
fresh_more values front argument [] apart fresh = tt
fresh_more values front argument (other ∷ row) apart fresh =
    let t = test_both (differ argument other) (list_all (differ argument) row) apart in
    let names = test_both (not (bytes_eq (argument_name argument) (argument_name other))) (not (bytes_eq (argument_name other) (argument_name argument))) t.0 in (
      none_of_both (argument_name other) front (argument_rows values argument) fresh.0
          (rows_other values argument (argument_name other) (test_not (bytes_eq (argument_name argument) (argument_name other)) names.0)),
      fresh_more values front argument row t.1 fresh.1,
    )

-- nothing is there at first
pub fresh : (row : List Argument) → Each (IsFresh []) row
fresh [] = tt
fresh (argument ∷ row) = (refl, fresh row)

-- the rows of the others don't have an argument's name
rest_other : (values : Values) (argument : Argument) (row : List Argument) → list_all (differ argument) row ≡ true
    → has_row (argument_name argument) (flat_map (argument_rows values) row) ≡ false
rest_other values argument [] apart = refl
rest_other values argument (other ∷ row) apart =
    let t = test_both (differ argument other) (list_all (differ argument) row) apart in
    let names = test_both (not (bytes_eq (argument_name argument) (argument_name other))) (not (bytes_eq (argument_name other) (argument_name argument))) t.0 in
    none_of_both (argument_name argument) (argument_rows values other) (flat_map (argument_rows values) row)
    (rows_other values other (argument_name argument) (test_not (bytes_eq (argument_name other) (argument_name argument)) names.1))
    (rest_other values argument row t.1)

-- ---- what is found by a name

-- the row of this name
abbrev at_name : List ℕ → List Row → Option Row
at_name id rows = find (λ r. bytes_eq r.id id) rows

none_at : (id : List ℕ) (rows : List Row) → has_row id rows ≡ false → at_name id rows ≡ None
none_at id [] none = refl
none_at id (r ∷ rows) none = by_test (bytes_eq r.id id) refl (none_at id rows)
  where
    by_test : (b : Bool) → bytes_eq r.id id ≡ b → (has_row id rows ≡ false → at_name id rows ≡ None) → at_name id (r ∷ rows) ≡ None
    by_test true here more = let never = rw here at none in absurd cc
    by_test false here more = let left = rw here at none in rw here (more left)

or_nothing : {X : Type 0} (found : Option X) → option_or found None ≡ found
or_nothing None = refl
or_nothing (Some x) = refl

-- what is found of an argument is its own row
abbrev IsFound : Values → List Row → Argument → Type 0
IsFound values rows argument = at_name (argument_name argument) rows ≡ at_name (argument_name argument) (argument_rows values argument)

found_there : (values : Values) (front : List Row) (row : List Argument) → Each (IsFresh front) row → is_row row ≡ true
    → Each (IsFound values (front ++ flat_map (argument_rows values) row)) row
found_there values front [] fresh are = tt
found_there values front (argument ∷ row) fresh are =
    let id = argument_name argument in
    let own = argument_rows values argument in
    let rest = flat_map (argument_rows values) row in
    let p = λ (r : Row). bytes_eq r.id id in
    let t = test_both (comes_last argument row) (list_all (differ argument) row && is_row row) are in
    let apart = test_both (list_all (differ argument) row) (is_row row) t.1 in (
      find-append p front (own ++ rest)
          ∙ ap (λ f. option_or f (at_name id (own ++ rest))) (none_at id front fresh.0)
          ∙ find-append p own rest
          ∙ ap (option_or (at_name id own)) (none_at id rest (rest_other values argument row apart.0))
          ∙ or_nothing (at_name id own),
      subst (λ l. Each (IsFound values l) row) (append_assoc front own rest)
          (found_there values (front ++ own) row (fresh_more values front argument row apart.0 fresh.1) apart.1),
    )

-- ---- defaults

-- the row of a default
abbrev default_row : Rule → List Text → Row
default_row a values = record { id = a.id; values = values; count = None; source = Some DefaultValue; reading = reading_by a }

-- an argument of which no row is there adds the row of its default
with_default_is : (a : Rule) (v : Text) (vs : List Text) (rows : List Row) → has_row a.id rows ≡ false
    → default_rows a.id (reading_by a) (v ∷ vs) rows ≡ rows ++ default_row a (v ∷ vs) ∷ []
with_default_is a v vs rows none =
    added a.id (more_values DefaultValue (v ∷ vs)) (default_row a (v ∷ vs) ∷ []) rows none

-- a name of no default finds the same with the defaults
keeps_found : (id : List ℕ) (rules : List Rule) (rows : List Row) → has_no_default id rules ≡ true → at_name id (fold with_default rows rules) ≡ at_name id rows
keeps_found id [] rows free = refl
keeps_found id (a ∷ rules) rows free =
    let t = test_both (has_none a.defaults || not (bytes_eq a.id id)) (has_no_default id rules) free in
    keeps_found id rules (with_default rows a) t.1 ∙ step (has_row a.id rows) refl a.defaults t.0
  where
    step : (b : Bool) → has_row a.id rows ≡ b → (values : List Text) → (has_none values || not (bytes_eq a.id id)) ≡ true
        → at_name id (if b then rows else default_rows a.id (reading_by a) values rows) ≡ at_name id rows
    step true there values free = refl
    step false none [] free = refl
    step false none (v ∷ vs) free =
        ap (at_name id) (with_default_is a v vs rows none)
        ∙ find-append (λ r. bytes_eq r.id id) rows (default_row a (v ∷ vs) ∷ [])
        ∙ ap (λ b. option_or (at_name id rows) (if b then Some (default_row a (v ∷ vs)) else None)) (test_not (bytes_eq a.id id) free)
        ∙ or_nothing (at_name id rows)

-- whether a row of this name is from the words
abbrev told : List ℕ → Option Row → Bool
told id found = is_from_words (option_and_then (λ (r : Row). r.source) found)

-- no default is from the words
default_untold : (a : Rule) (values : List Text) (id : List ℕ) (found : Option Row) (b : Bool)
    → told id (option_or found (if b then Some (default_row a values) else None)) ≡ told id found
default_untold a values id (Some r) b = refl
default_untold a values id None true = refl
default_untold a values id None false = refl

keeps_told : (id : List ℕ) (rules : List Rule) (rows : List Row)
    → told id (at_name id (fold with_default rows rules)) ≡ told id (at_name id rows)
keeps_told id [] rows = refl
keeps_told id (a ∷ rules) rows = keeps_told id rules (with_default rows a) ∙ step (has_row a.id rows) refl a.defaults
  where
    step : (b : Bool) → has_row a.id rows ≡ b → (values : List Text)
        → told id (at_name id (if b then rows else default_rows a.id (reading_by a) values rows)) ≡ told id (at_name id rows)
    step true there values = refl
    step false none [] = refl
    step false none (v ∷ vs) =
        ap (λ l. told id (at_name id l)) (with_default_is a v vs rows none)
        ∙ ap (told id) (find-append (λ r. bytes_eq r.id id) rows (default_row a (v ∷ vs) ∷ []))
        ∙ default_untold a (v ∷ vs) id (at_name id rows) (bytes_eq a.id id)

-- ---- the values that are found

-- both have the same of this argument
abbrev pub Same : Values → Values → Argument → Type 0
Same one other (Required option) = one.words option ≡ other.words option
Same one other (Optional option) = one.words option ≡ other.words option
Same one other (Flag flag) = one.flags flag ≡ other.flags flag
Same one other Pairs = one.pairs ≡ other.pairs

own_name : (name : List ℕ) → bytes_eq name name ≡ true
own_name name = (bytes_eq-Decides name name).1 refl

option_value : (name : List ℕ) (required : Bool) (word : Option (List ℕ)) → first_of name (option_rows name required word) ≡ word
option_value name required None = refl
option_value name required (Some word) = rw (own_name name) refl

flag_value : (name : List ℕ) (given : Bool) → told name (at_name name (flag_rows name given)) ≡ given
flag_value name true = rw (own_name name) refl
flag_value name false = refl

pairs_value : (words : List (List ℕ)) → unwrap_or (all_of (codes "pairs") (pair_rows words)) [] ≡ words
pairs_value [] = refl
pairs_value (word ∷ words) = refl

same_values : (values : Values) (rules : List Rule) (rows : List Row) (argument : Argument) → lookup rules argument ≡ itself argument
    → IsFound values rows argument → Same (values_in (fold with_default rows rules)) values argument
same_values values rules rows (Required option) e found =
    let id = value_name option in
    ap (option_and_then (λ (r : Row). slice_get r.values 0)) (keeps_found id rules rows (ap (λ (l : Lookup). l.4) e) ∙ found)
    ∙ option_value id true (values.words option)
same_values values rules rows (Optional option) e found =
    let id = value_name option in
    ap (option_and_then (λ (r : Row). slice_get r.values 0)) (keeps_found id rules rows (ap (λ (l : Lookup). l.4) e) ∙ found)
    ∙ option_value id false (values.words option)
same_values values rules rows (Flag flag) e found =
    let id = flag_name flag in
    keeps_told id rules rows ∙ ap (told id) found ∙ flag_value id (values.flags flag)
same_values values rules rows Pairs e found =
    let id = codes "pairs" in
    ap (λ f. unwrap_or (option_map (λ (r : Row). r.values) f) []) (keeps_found id rules rows (ap (λ (l : Lookup). l.4) e) ∙ found)
    ∙ pairs_value values.pairs

-- a required option that is there is given
abbrev IsAsked : List Row → Argument → Type 0
IsAsked rows (Required option) = is_given (value_name option) rows ≡ true
IsAsked rows argument = Unit {0}

option_given : (name : List ℕ) (word : Option (List ℕ)) → IsSome word → is_given name (option_rows name true word) ≡ true
option_given name None there = absurd cc
option_given name (Some word) there = rw (own_name name) refl

asked : (values : Values) (rules : List Rule) (rows : List Row) (argument : Argument) → lookup rules argument ≡ itself argument
    → IsFound values rows argument → IsThere values argument → IsAsked (fold with_default rows rules) argument
asked values rules rows (Required option) e found there =
    let id = value_name option in
    ap (λ f. option_map_or (λ (r : Row). explicit_source r.source) f false) (keeps_found id rules rows (ap (λ (l : Lookup). l.4) e) ∙ found)
    ∙ option_given id (values.words option) there
asked values rules rows (Optional option) e found there = tt
asked values rules rows (Flag flag) e found there = tt
asked values rules rows Pairs e found there = tt

-- ---- no check is left that fails

all_asked : (rows : List Row) (row : List Argument) → Each (IsAsked rows) row
    → list_any (λ a. a.required && not (is_given a.id rows)) (map argument_filled row) ≡ false
all_asked rows [] each = refl
all_asked rows (Required option ∷ row) each = rw each.0 (all_asked rows row each.1)
all_asked rows (Optional option ∷ row) each = all_asked rows row each.1
all_asked rows (Flag flag ∷ row) each = all_asked rows row each.1
all_asked rows (Pairs ∷ row) each = all_asked rows row each.1

no_check : (name : CommandName) (rows : List Row) → Each (IsAsked rows) (arguments name) → check_fault (shape name) rows false ≡ []
no_check name rows each = ap (check_kinds false false) (all_asked rows (arguments name) each)

-- a default is good
flag_default : (name : List ℕ) → given_default_fault (flag_filled name) (codes "false" ∷ []) ≡ []
unfolding clap_on_literals
flag_default name = refl

either_way : (b : Bool) (kinds : Kinds) → (if b || true then [] else kinds) ≡ []
either_way true kinds = refl
either_way false kinds = refl

both_ways : (b : Bool) (kinds : Kinds) → kinds ≡ [] → (if b || false then [] else kinds) ≡ []
both_ways true kinds none = refl
both_ways false kinds none = none

default_good : (rows : List Row) (argument : Argument) → default_fault rows (argument_filled argument) ≡ []
default_good rows (Required option) = either_way (has_row (value_name option) rows) _
default_good rows (Optional option) = either_way (has_row (value_name option) rows) _
default_good rows (Flag flag) = both_ways (has_row (flag_name flag) rows) _ (flag_default (flag_name flag))
default_good rows Pairs = either_way (has_row (codes "pairs") rows) _

defaults_good : (rows : List Row) (row : List Argument) → defaults_fault rows (map argument_filled row) ≡ []
unfolding defaults_fault
defaults_good rows [] = refl
defaults_good rows (argument ∷ row) =
    ap (λ kinds. or_else kinds (defaults_fault (with_default rows (argument_filled argument)) (map argument_filled row))) (default_good rows argument)
    ∙ defaults_good (with_default rows (argument_filled argument)) row

-- ---- the end of a row's words

-- the rows that a walk over them ends with
abbrev pub end_rows : Values → CommandName → List Row
end_rows values name = flat_map (argument_rows values) (arguments name)

-- No check is left that fails, and the values are found.
pub record IsEnd (name : CommandName) (values : Values) : Type 0 where
  pub fault : or_else (defaults_fault (end_rows values name) (rules name))
      (check_fault (shape name) (fold with_default (end_rows values name) (rules name)) false) ≡ []
  pub same : Each (Same (values_in (fold with_default (end_rows values name) (rules name))) values) (arguments name)

each_equal : {X : Type 0} (f g : Argument → X) (row : List Argument) → map f row ≡ map g row → Each (λ a. f a ≡ g a) row
each_equal f g [] e = tt
each_equal f g (argument ∷ row) e = let head : f argument ≡ g argument = cc in let rest : map f row ≡ map g row = cc in (head, each_equal f g row rest)

-- each argument is found by its name
abbrev pub IsKnown : CommandName → Argument → Type 0
IsKnown name argument = lookup (rules name) argument ≡ itself argument

pub known : (name : CommandName) → Each (IsKnown name) (arguments name)
known name = each_equal (lookup (rules name)) itself (arguments name) (found name)

pub ends : (name : CommandName) (values : Values) → Each (IsThere values) (arguments name) → IsEnd name values
ends name values there =
    let rows = end_rows values name in
    let here = found_there values [] (arguments name) (fresh (arguments name)) (rows_differ name) in
    let both = each_both (IsKnown name) (IsFound values rows) (λ a. IsKnown name a × IsFound values rows a) (arguments name) (λ a k f. (k, f)) (known name) here in
    record {
      fault = ap (λ kinds. or_else kinds (check_fault (shape name) (fold with_default rows (rules name)) false)) (defaults_good rows (arguments name))
          ∙ no_check name (fold with_default rows (rules name))
          (each_both (λ a. IsKnown name a × IsFound values rows a) (IsThere values) (IsAsked (fold with_default rows (rules name))) (arguments name)
          (λ a k t. asked values (rules name) rows a k.0 k.1 t) both there);
      same = each_more (λ a. IsKnown name a × IsFound values rows a) (Same (values_in (fold with_default rows (rules name))) values) (arguments name)
          (λ a k. same_values values (rules name) rows a k.0 k.1) both;
    }
