-- Words in the plain form are taken with the values that they write.
use Rattle.std.proofs.Common.{◌≡◌, ◌∙◌, ◌&&◌, ◌++◌, ℕ, Bool, true, false, List, [], ◌∷◌, refl, sym, subst, append-nil, append_assoc}
use Rattle.std.specs.Prelude.{Option, Some, None, IfSome, IsSome, IsSomeAnd}
use Rattle.std.specs.List.{flat_map, list_all}
use Rattle.clap.specs.Faults.{fault_of}
use Rattle.clap.specs.Simple.{matches_of}
use Rattle.clap.specs.Walk.{Row, Text, has_row, idle, nothing_held, walk_from}
use Rattle.esdk_args.specs.declared.commands.Argument.{Argument}
use Rattle.esdk_args.specs.declared.commands.Argument.TheVariants.{Required, Optional, Flag, Pairs}
use Rattle.esdk_args.specs.declared.commands.CommandName.{CommandName}
use Rattle.esdk_args.specs.Commands.{app_of_command, arguments}
use Rattle.esdk_args.specs.Options.{flag_name, value_name}
use Rattle.esdk_args.specs.Plain.{ArgumentIsPlain, IsValue, argument_words, flag_words, option_words}
use Rattle.esdk_args.specs.Values.{Values, values_in}
use Rattle.esdk_args.proofs.Arguments.{Each, IsThere, each_more}
use Rattle.esdk_args.proofs.Ends.{IsFresh, IsKnown, Same, argument_rows, end_rows, ends, flag_rows, fresh, fresh_more, known, option_rows, test_both}
use Rattle.esdk_args.proofs.Table.{comes_last, differ, fault_is, has, is_row, matches_are, rows_differ, shape}
use Rattle.esdk_args.proofs.Walks.{HasFlag, HasOption, IsReady, Reaches, ends_fault, ends_rows, option_ready, over_flag, over_option, over_pairs, rows_ready, standing, stays}

-- ---- one argument

-- what the words behind an argument reach
abbrev Onward : CommandName → List (List ℕ) → List Row → List Row → Type 0
Onward name words settled final = (rows : List Row) (pending : Option (Text × List Text))
    → IsReady (shape name) rows pending settled → Reaches (shape name) (standing rows pending idle) words final

-- nothing is added
same_ready : (name : CommandName) (rows settled : List Row) (pending : Option (Text × List Text)) → IsReady (shape name) rows pending settled
    → IsReady (shape name) rows pending (settled ++ [])
same_ready name rows settled pending ready = record { rows_are = ready.rows_are ∙ sym (append-nil settled); fault = ready.fault }

-- an option, where it is given
over_value : (name : CommandName) (id : List ℕ) (required : Bool) (word : Option (List ℕ)) (settled final : List Row) (words : List (List ℕ))
    → HasOption (shape name) id required → IfSome word IsValue → has_row id settled ≡ false
    → Onward name words (settled ++ option_rows id required word) final → Onward name (option_words id word ++ words) settled final
over_value name id required None settled final words has is none rest rows pending ready =
    rest rows pending (same_ready name rows settled pending ready)
over_value name id required (Some value) settled final words has is none rest rows pending ready =
    let r = rest settled (Some (id, value ∷ [])) (option_ready (shape name) id required value settled has none) in
    record {
      rows = r.rows;
      pending = r.pending;
      waiting = r.waiting;
      goes = over_option (shape name) id required value rows settled pending words (standing r.rows r.pending r.waiting) has is ready r.goes;
      ready = r.ready;
    }

-- a flag, where it is given
over_given : (name : CommandName) (id : List ℕ) (given : Bool) (settled final : List Row) (words : List (List ℕ))
    → HasFlag (shape name) id → has_row id settled ≡ false
    → Onward name words (settled ++ flag_rows id given) final → Onward name (flag_words id given ++ words) settled final
over_given name id false settled final words has none rest rows pending ready =
    rest rows pending (same_ready name rows settled pending ready)
over_given name id true settled final words has none rest rows pending ready =
    let flagged = settled ++ flag_rows id true in
    let r = rest flagged None (rows_ready (shape name) flagged) in
    record {
      rows = r.rows;
      pending = r.pending;
      waiting = r.waiting;
      goes = over_flag (shape name) id rows settled pending words (standing r.rows r.pending r.waiting) has ready none r.goes;
      ready = r.ready;
    }

-- ---- a row

if_some : (word : Option (List ℕ)) → IsSomeAnd word IsValue → IfSome word IsValue
if_some None is = absurd is
if_some (Some word) is = is

-- the walk goes over the words of a row's arguments
over_row : (name : CommandName) (values : Values) (row : List Argument) (settled : List Row) → Each (IsKnown name) row → is_row row ≡ true
    → Each (IsFresh settled) row → Each (ArgumentIsPlain values) row
    → Onward name (flat_map (argument_words values) row) settled (settled ++ flat_map (argument_rows values) row)
over_row name values [] settled known are fresh plain = λ rows pending ready. record {
  rows = rows;
  pending = pending;
  waiting = idle;
  goes = stays (shape name) (standing rows pending idle);
  ready = same_ready name rows settled pending ready;
}
over_row name values (Required option ∷ row) settled known are fresh plain =
    let id = value_name option in
    let t = test_both (comes_last (Required option) row) (list_all (differ (Required option)) row && is_row row) are in
    let apart = test_both (list_all (differ (Required option)) row) (is_row row) t.1 in
    let own = argument_rows values (Required option) in
    let words = flat_map (argument_words values) row in
    let rest = over_row name values row (settled ++ own) known.1 apart.1 (fresh_more values settled (Required option) row apart.0 fresh.1) plain.1 in
    over_value name id true (values.words option) settled (settled ++ (own ++ flat_map (argument_rows values) row)) words
    (has name (Required option) known.0) (if_some (values.words option) plain.0) fresh.0
    (subst (Onward name words (settled ++ own)) (append_assoc settled own (flat_map (argument_rows values) row)) rest)
over_row name values (Optional option ∷ row) settled known are fresh plain =
    let id = value_name option in
    let t = test_both (comes_last (Optional option) row) (list_all (differ (Optional option)) row && is_row row) are in
    let apart = test_both (list_all (differ (Optional option)) row) (is_row row) t.1 in
    let own = argument_rows values (Optional option) in
    let words = flat_map (argument_words values) row in
    let rest = over_row name values row (settled ++ own) known.1 apart.1 (fresh_more values settled (Optional option) row apart.0 fresh.1) plain.1 in
    over_value name id false (values.words option) settled (settled ++ (own ++ flat_map (argument_rows values) row)) words
    (has name (Optional option) known.0) plain.0 fresh.0
    (subst (Onward name words (settled ++ own)) (append_assoc settled own (flat_map (argument_rows values) row)) rest)
over_row name values (Flag flag ∷ row) settled known are fresh plain =
    let id = flag_name flag in
    let t = test_both (comes_last (Flag flag) row) (list_all (differ (Flag flag)) row && is_row row) are in
    let apart = test_both (list_all (differ (Flag flag)) row) (is_row row) t.1 in
    let own = argument_rows values (Flag flag) in
    let words = flat_map (argument_words values) row in
    let rest = over_row name values row (settled ++ own) known.1 apart.1 (fresh_more values settled (Flag flag) row apart.0 fresh.1) plain.1 in
    over_given name id (values.flags flag) settled (settled ++ (own ++ flat_map (argument_rows values) row)) words
    (has name (Flag flag) known.0) fresh.0
    (subst (Onward name words (settled ++ own)) (append_assoc settled own (flat_map (argument_rows values) row)) rest)
over_row name values (Pairs ∷ []) settled known are fresh plain = λ rows pending ready.
    subst (λ words. Reaches (shape name) (standing rows pending idle) words (settled ++ (argument_rows values Pairs ++ []))) (sym (append-nil values.pairs))
    (subst (λ own. Reaches (shape name) (standing rows pending idle) values.pairs (settled ++ own)) (sym (append-nil (argument_rows values Pairs)))
    (over_pairs (shape name) settled rows pending values.pairs (has name Pairs known.0) fresh.0 ready plain.0))
over_row name values (Pairs ∷ argument ∷ row) settled known are fresh plain = absurd cc

-- ---- the words of a command

there : (values : Values) (argument : Argument) → ArgumentIsPlain values argument → IsThere values argument
there values (Required option) plain = by_word (values.words option) plain
  where
    by_word : (word : Option (List ℕ)) → IsSomeAnd word IsValue → IsSome word
    by_word None is = absurd is
    by_word (Some word) is = refl
there values (Optional option) plain = tt
there values (Flag flag) plain = tt
there values Pairs plain = tt

-- Words in the plain form are taken, with these values of the arguments of the row.
pub record IsTaken (name : CommandName) (behind : List (List ℕ)) (values : Values) : Type 0 where
  pub taken : fault_of (app_of_command name) behind ≡ []
  pub same : Each (Same (values_in (matches_of (app_of_command name) behind)) values) (arguments name)

pub taken_plain : (name : CommandName) (values : Values) → Each (ArgumentIsPlain values) (arguments name)
    → IsTaken name (flat_map (argument_words values) (arguments name)) values
taken_plain name values plain =
    let behind = flat_map (argument_words values) (arguments name) in
    let reaches : Reaches (shape name) (walk_from nothing_held) behind (end_rows values name) =
    over_row name values (arguments name) [] (known name) (rows_differ name) (fresh (arguments name)) plain [] None (rows_ready (shape name) []) in
    let end = ends name values (each_more (ArgumentIsPlain values) (IsThere values) (arguments name) (there values) plain) in
    record {
      taken = fault_is name behind ∙ ends_fault (shape name) behind (end_rows values name) reaches ∙ end.fault;
      same = subst (λ rows. Each (Same (values_in rows) values) (arguments name))
          (sym (matches_are name behind ∙ ends_rows (shape name) behind (end_rows values name) reaches)) end.same;
    }
