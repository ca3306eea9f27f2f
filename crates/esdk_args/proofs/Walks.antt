-- How `clap` goes over words in the plain form.
use Rattle.std.proofs.Common.{◌≡◌, ◌∙◌, ◌&&◌, ◌||◌, ℕ, Bool, true, false, List, [], ◌∷◌, ◌++◌, refl, sym, ap, subst, append-nil, append_assoc}
use Rattle.std.specs.Prelude.{Option, Some, None, All, fold, codes, if◌then◌else◌}
use Rattle.std.specs.Str.{bytes_eq}
use Rattle.std.proofs.lemmas.Bool.{ne_eqb}
use Rattle.std.proofs.lemmas.List.Elements.{All-head, All-tail}
use Rattle.std.proofs.lemmas.Slice.Eq.{bytes_eq-Decides}
use Rattle.clap.specs.Faults.{defaults_fault, check_fault, level_fault, settle_fault, turn_fault, use_fault, walk_fault}
use Rattle.clap.specs.Kinds.{Kinds, or_else}
use Rattle.clap.specs.Lexer.{long_of, short_of}
use Rattle.clap.specs.Simple.{Shape, filled, with_index}
use Rattle.std.specs.Option.{option_map_or}
use Rattle.clap.specs.declared.builder.action.ArgAction.TheVariants.{SetTrue}
use Rattle.clap.specs.declared.error.kind.ErrorKind.TheVariants as kind
use Rattle.clap.specs.Walk.{Held, Step, after_step, is_pending, more_values, settled as settled_held, used_by_id, Row, Rule, Text, Waiting, Walk, arg_by_id, arg_by_index, arg_by_long, at_row, finished, has_row, idle, nothing_held, option, positional, plain_word, reading_by, rows_after, settled_rows, used, walk_from, walked, with_default, without, word_met}
use Rattle.clap.specs.declared.parser.matches.ValueSource.TheVariants.{CommandLine}
use Rattle.esdk_args.specs.declared.commands.Argument.TheVariants.{Pairs}
use Rattle.esdk_args.specs.Commands.{argument_rule, option_rule}
use Rattle.esdk_args.specs.Plain.{IsValue}

-- ---- words that don't begin with `-`

not_dashes : (word : List ℕ) → IsValue word → bytes_eq word (45 ∷ 45 ∷ []) ≡ false
not_dashes [] v = refl
not_dashes (b ∷ word) v = rw (ne_eqb b 45 (λ e. v word (ap (λ c. c ∷ word) e))) refl

no_long : (word : List ℕ) → IsValue word → long_of word ≡ None
no_long [] v = refl
no_long (b ∷ word) v = rw (ne_eqb b 45 (λ e. v word (ap (λ c. c ∷ word) e))) refl

no_short : (word : List ℕ) → IsValue word → short_of word ≡ None
no_short [] v = refl
no_short (b ∷ word) v = rw (ne_eqb b 45 (λ e. v word (ap (λ c. c ∷ word) e))) refl

-- ---- going over words

-- the walk goes over the words to there, and none of them has a fault
pub record Goes (s : Shape) (w : Walk) (words : List Text) (after : Walk) : Type 0 where
  pub walk : fold (walked s.rules []) w words ≡ after
  pub fault : walk_fault s [] w words ≡ []

pub stays : (s : Shape) (w : Walk) → Goes s w [] w
unfolding walk_fault
stays s w = record { walk = refl; fault = refl }

pub first : (s : Shape) (w mid after : Walk) (word : Text) (words : List Text) → walked s.rules [] w word ≡ mid → turn_fault s [] w word ≡ [] → Goes s mid words after
    → Goes s w (word ∷ words) after
unfolding walk_fault
first s w mid after word words is none rest = record {
  walk = ap (λ v. fold (walked s.rules []) v words) is ∙ rest.walk;
  fault = ap (λ kinds. or_else kinds (walk_fault s [] (walked s.rules [] w word) words)) none ∙ ap (λ v. walk_fault s [] v words) is ∙ rest.fault;
}

-- what is held between two words
abbrev pub holding : List Row → Option (Text × List Text) → Held
holding rows pending = record { rows = rows; pending = pending; skip = 0 }

-- where a walk stands between two words
abbrev pub standing : List Row → Option (Text × List Text) → Waiting → Walk
standing rows pending waiting = record { held = holding rows pending; waiting = waiting; position = 1; is_trailing = false; stopped = None }

-- what is pending makes these rows, with no fault
pub record IsReady (s : Shape) (rows : List Row) (pending : Option (Text × List Text)) (settled : List Row) : Type 0 where
  pub rows_are : settled_rows s.rules pending rows ≡ settled
  pub fault : settle_fault s.rules s.args_override_self (holding rows pending) ≡ []

-- nothing more
or_none : (kinds : Kinds) → or_else kinds [] ≡ kinds
or_none [] = refl
or_none (k ∷ ks) = refl

-- ---- rows

or_false : (a b : Bool) → (a || b) ≡ false → (a ≡ false) × (b ≡ false)
or_false true b e = absurd cc
or_false false b e = (refl, e)

not_first : (id : Text) (r : Row) (rows : List Row) → has_row id (r ∷ rows) ≡ false → (bytes_eq r.id id ≡ false) × (has_row id rows ≡ false)
not_first id r rows none = or_false (bytes_eq r.id id) (has_row id rows) none

pub added : (id : Text) (change : Row → List Row) (missing rows : List Row) → has_row id rows ≡ false → at_row id change missing rows ≡ rows ++ missing
added id change missing [] none = refl
added id change missing (r ∷ rows) none =
    let t = not_first id r rows none in
    rw t.0 (ap (λ l. r ∷ l) (added id change missing rows t.1))

pub changed : (id : Text) (change : Row → List Row) (missing rows : List Row) (r : Row) → has_row id rows ≡ false → bytes_eq r.id id ≡ true
    → at_row id change missing (rows ++ r ∷ []) ≡ rows ++ change r
changed id change missing [] r none same = rw same (append-nil (change r))
changed id change missing (x ∷ rows) r none same =
    let t = not_first id x rows none in
    rw t.0 (ap (λ l. x ∷ l) (changed id change missing rows r t.1 same))

-- no row has this name, and the last neither
pub no_more : (id : Text) (rows : List Row) (r : Row) → has_row id rows ≡ false → bytes_eq r.id id ≡ false → has_row id (rows ++ r ∷ []) ≡ false
no_more id [] r none other = rw other refl
no_more id (x ∷ rows) r none other =
    let t = not_first id x rows none in
    rw t.0 (no_more id rows r t.1 other)

-- ---- an option with its value

-- the rule of an option, as the parse has it
abbrev pub option_filled : List ℕ → Bool → Rule
option_filled name required = record (filled (option_rule name)) { required = required }

-- the row of its value
abbrev pub option_row : List ℕ → Bool → List ℕ → Row
option_row name required value = record { id = name; values = value ∷ []; count = None; source = Some CommandLine; reading = reading_by (option_filled name required) }

-- the command has the option
pub record HasOption (s : Shape) (name : List ℕ) (required : Bool) : Type 0 where
  pub once : s.args_override_self ≡ false
  pub long : long_of (45 ∷ 45 ∷ name) ≡ Some (name, None)
  pub not_dashes : bytes_eq (45 ∷ 45 ∷ name) (45 ∷ 45 ∷ []) ≡ false
  pub by_long : arg_by_long s.rules name ≡ Some (option_filled name required)
  pub by_id : arg_by_id s.rules name ≡ Some (option_filled name required)

-- a value of a name that no row has makes a row of its own
with_row : (name : List ℕ) (r : Row) (rows : List Row) (change : Row → List Row) → has_row name rows ≡ false
    → at_row name change (r ∷ []) (without name rows) ≡ rows ++ r ∷ []
with_row name r rows change none =
    ap (at_row name change (r ∷ [])) (added name (λ x. []) [] rows none ∙ append-nil rows) ∙ added name change (r ∷ []) rows none

-- the value that is pending makes a row
pub option_ready : (s : Shape) (name : List ℕ) (required : Bool) (value : List ℕ) (rows : List Row) → HasOption s name required → has_row name rows ≡ false
    → IsReady s rows (Some (name, value ∷ [])) (rows ++ option_row name required value ∷ [])
option_ready s name required value rows has none = record {
  rows_are = ap (λ a. used_by_id a (value ∷ []) rows) has.by_id ∙ with_row name (option_row name required value) rows (more_values CommandLine (value ∷ [])) none;
  fault = ap (λ a. option_map_or (λ (r : Rule). use_fault s.args_override_self r (value ∷ []) rows) a []) has.by_id
      ∙ ap (λ again. use_fault again (option_filled name required) (value ∷ []) rows) has.once
      ∙ ap (λ there. or_else (if there && true then kind.ArgumentConflict ∷ [] else []) []) none;
}

-- the option's word
option_word_walked : (s : Shape) (name : List ℕ) (required : Bool) (rows : List Row) (pending : Option (Text × List Text)) → HasOption s name required
    → walked s.rules [] (standing rows pending idle) (45 ∷ 45 ∷ name) ≡ standing (settled_rows s.rules pending rows) (Some (name, [])) (option name)
unfolding walked
option_word_walked s name required rows pending has = rw (has.not_dashes, has.long, has.by_long) refl

option_word_fault : (s : Shape) (name : List ℕ) (required : Bool) (rows : List Row) (pending : Option (Text × List Text)) → HasOption s name required
    → turn_fault s [] (standing rows pending idle) (45 ∷ 45 ∷ name) ≡ settle_fault s.rules s.args_override_self (holding rows pending)
option_word_fault s name required rows pending has = rw (has.not_dashes, has.long, has.by_long) (or_none _)

-- the value's word
plain_met : (c : List Rule) (waiting : Waiting) (word : Text) (h : Held) → IsValue word → word_met c [] false waiting 1 word h ≡ plain_word c waiting word h
plain_met c idle word h value = rw (not_dashes word value, no_long word value, no_short word value) refl
plain_met c (option id) word h value = rw (not_dashes word value, no_long word value, no_short word value) refl
plain_met c positional word h value = rw (not_dashes word value, no_long word value, no_short word value) refl

value_walked : (s : Shape) (name : List ℕ) (required : Bool) (rows : List Row) (value : Text) → HasOption s name required → IsValue value
    → walked s.rules [] (standing rows (Some (name, [])) (option name)) value ≡ standing rows (Some (name, value ∷ [])) idle
unfolding walked
value_walked s name required rows value has is =
    ap (λ (met : Held × Step). after_step s.rules value (standing rows (Some (name, [])) (option name)) met.0 met.1) (plain_met s.rules (option name) value (holding rows (Some (name, []))) is)
    ∙ rw (has.by_id, (bytes_eq-Decides name name).1 refl) refl

value_fault : (s : Shape) (name : List ℕ) (required : Bool) (rows : List Row) (value : Text) → HasOption s name required → IsValue value
    → turn_fault s [] (standing rows (Some (name, [])) (option name)) value ≡ []
value_fault s name required rows value has is = rw (not_dashes value is, no_long value is, no_short value is) refl

-- the walk goes over an option with its value
pub over_option : (s : Shape) (name : List ℕ) (required : Bool) (value : List ℕ) (rows settled : List Row) (pending : Option (Text × List Text)) (words : List Text) (after : Walk)
    → HasOption s name required → IsValue value → IsReady s rows pending settled → Goes s (standing settled (Some (name, value ∷ [])) idle) words after
    → Goes s (standing rows pending idle) ((45 ∷ 45 ∷ name) ∷ value ∷ words) after
over_option s name required value rows settled pending words after has is ready rest =
    first s (standing rows pending idle) (standing settled (Some (name, [])) (option name)) after (45 ∷ 45 ∷ name) (value ∷ words)
    (option_word_walked s name required rows pending has ∙ ap (λ r. standing r (Some (name, [])) (option name)) ready.rows_are)
    (option_word_fault s name required rows pending has ∙ ready.fault)
    (first s (standing settled (Some (name, [])) (option name)) (standing settled (Some (name, value ∷ [])) idle) after value words
    (value_walked s name required settled value has is) (value_fault s name required settled value has is) rest)

-- ---- the flag

-- the rule of a flag, as the parse has it
abbrev pub flag_filled : List ℕ → Rule
flag_filled name = filled (record (option_rule name) { action = Some SetTrue })

-- its row, where it is given
abbrev pub flag_row : List ℕ → Row
flag_row name = record { id = name; values = codes "true" ∷ []; count = None; source = Some CommandLine; reading = reading_by (flag_filled name) }

-- the command has the flag
pub record HasFlag (s : Shape) (name : List ℕ) : Type 0 where
  pub once : s.args_override_self ≡ false
  pub long : long_of (45 ∷ 45 ∷ name) ≡ Some (name, None)
  pub not_dashes : bytes_eq (45 ∷ 45 ∷ name) (45 ∷ 45 ∷ []) ≡ false
  pub by_long : arg_by_long s.rules name ≡ Some (flag_filled name)

flag_walked : (s : Shape) (name : List ℕ) (rows : List Row) (pending : Option (Text × List Text)) → HasFlag s name
    → walked s.rules [] (standing rows pending idle) (45 ∷ 45 ∷ name) ≡ standing (used (flag_filled name) [] (settled_rows s.rules pending rows)) None idle
unfolding walked
flag_walked s name rows pending has = rw (has.not_dashes, has.long, has.by_long) refl

flag_fault : (s : Shape) (name : List ℕ) (rows : List Row) (pending : Option (Text × List Text)) → HasFlag s name
    → turn_fault s [] (standing rows pending idle) (45 ∷ 45 ∷ name)
    ≡ or_else (settle_fault s.rules s.args_override_self (holding rows pending)) (use_fault s.args_override_self (flag_filled name) [] (settled_rows s.rules pending rows))
flag_fault s name rows pending has = rw (has.not_dashes, has.long, has.by_long) (or_none _)

flag_use : (again : Bool) (name : List ℕ) (rows : List Row) → again ≡ false → has_row name rows ≡ false → use_fault again (flag_filled name) [] rows ≡ []
flag_use again name rows once none =
    ap (λ a. use_fault a (flag_filled name) [] rows) once ∙ ap (λ there. or_else (if there && true then kind.ArgumentConflict ∷ [] else []) []) none

-- the walk goes over the flag
pub over_flag : (s : Shape) (name : List ℕ) (rows settled : List Row) (pending : Option (Text × List Text)) (words : List Text) (after : Walk)
    → HasFlag s name → IsReady s rows pending settled → has_row name settled ≡ false → Goes s (standing (settled ++ flag_row name ∷ []) None idle) words after
    → Goes s (standing rows pending idle) ((45 ∷ 45 ∷ name) ∷ words) after
over_flag s name rows settled pending words after has ready none rest =
    first s (standing rows pending idle) (standing (settled ++ flag_row name ∷ []) None idle) after (45 ∷ 45 ∷ name) words
    (flag_walked s name rows pending has
    ∙ ap (λ r. standing r None idle) (ap (used (flag_filled name) []) ready.rows_are ∙ with_row name (flag_row name) settled (more_values CommandLine (codes "true" ∷ [])) none))
    (flag_fault s name rows pending has ∙ ap (λ kinds. or_else kinds (use_fault s.args_override_self (flag_filled name) [] (settled_rows s.rules pending rows))) ready.fault
    ∙ ap (use_fault s.args_override_self (flag_filled name) []) ready.rows_are ∙ flag_use s.args_override_self name settled has.once none)
    rest

-- rows with nothing pending are ready
pub rows_ready : (s : Shape) (rows : List Row) → IsReady s rows None rows
rows_ready s rows = record { rows_are = refl; fault = refl }

-- ---- pair words

-- the rule of the pair words, as the parse has it
abbrev pub pairs_filled : Rule
pairs_filled = with_index 1 (filled (argument_rule Pairs))

-- the row of pair words
abbrev pub pairs_row : List (List ℕ) → Row
pairs_row values = record { id = codes "pairs"; values = values; count = None; source = Some CommandLine; reading = reading_by pairs_filled }

-- none where there are none
abbrev pub pair_rows : List (List ℕ) → List Row
pair_rows [] = []
pair_rows (word ∷ words) = pairs_row (word ∷ words) ∷ []

-- the command has pair words
pub record HasPairs (s : Shape) : Type 0 where
  pub by_index : arg_by_index s.rules 1 ≡ Some pairs_filled
  pub by_id : arg_by_id s.rules (codes "pairs") ≡ Some pairs_filled

-- a pair word is waited for
abbrev IsPlainWait : Waiting → Type 0
IsPlainWait (option id) = ⊥
IsPlainWait waiting = Unit {0}

and_false : (b : Bool) → (b && false) ≡ false
and_false true = refl
and_false false = refl

pair_walked : (s : Shape) (rows : List Row) (pending : Option (Text × List Text)) (waiting : Waiting) (word : Text) → HasPairs s → IsPlainWait waiting → IsValue word
    → walked s.rules [] (standing rows pending waiting) word ≡ standing (settled_rows s.rules pending rows) (Some (codes "pairs", word ∷ [])) positional
unfolding walked
pair_walked s rows pending idle word has wait is =
    ap (λ (met : Held × Step). after_step s.rules word (standing rows pending idle) met.0 met.1) (plain_met s.rules idle word (holding rows pending) is)
    ∙ rw (has.by_index, and_false (is_pending pairs_filled pending)) refl
pair_walked s rows pending positional word has wait is =
    ap (λ (met : Held × Step). after_step s.rules word (standing rows pending positional) met.0 met.1) (plain_met s.rules positional word (holding rows pending) is)
    ∙ rw (has.by_index, and_false (is_pending pairs_filled pending)) refl
pair_walked s rows pending (option id) word has wait is = absurd wait

pair_fault : (s : Shape) (rows : List Row) (pending : Option (Text × List Text)) (waiting : Waiting) (word : Text) → HasPairs s → IsPlainWait waiting → IsValue word
    → turn_fault s [] (standing rows pending waiting) word ≡ settle_fault s.rules s.args_override_self (holding rows pending)
pair_fault s rows pending idle word has wait is =
    rw (not_dashes word is, no_long word is, no_short word is, has.by_index, and_false (is_pending pairs_filled pending)) refl
pair_fault s rows pending positional word has wait is =
    rw (not_dashes word is, no_long word is, no_short word is, has.by_index, and_false (is_pending pairs_filled pending)) refl
pair_fault s rows pending (option id) word has wait is = absurd wait

-- the walk goes over the words and then stands with these rows
pub record Reaches (s : Shape) (w : Walk) (words : List Text) (settled : List Row) : Type 0 where
  pub rows : List Row
  pub pending : Option (Text × List Text)
  pub waiting : Waiting
  pub goes : Goes s w words (standing rows pending waiting)
  pub ready : IsReady s rows pending settled

-- the first pair word makes a row
first_ready : (s : Shape) (word : List ℕ) (rows : List Row) → HasPairs s → has_row (codes "pairs") rows ≡ false
    → IsReady s rows (Some (codes "pairs", word ∷ [])) (rows ++ pairs_row (word ∷ []) ∷ [])
first_ready s word rows has none = record {
  rows_are = ap (λ a. used_by_id a (word ∷ []) rows) has.by_id ∙ added (codes "pairs") (more_values CommandLine (word ∷ [])) (pairs_row (word ∷ []) ∷ []) rows none;
  fault = ap (λ a. option_map_or (λ (r : Rule). use_fault s.args_override_self r (word ∷ []) rows) a []) has.by_id;
}

-- another joins it
next_ready : (s : Shape) (words : List (List ℕ)) (word : List ℕ) (rows : List Row) → HasPairs s → has_row (codes "pairs") rows ≡ false
    → IsReady s (rows ++ pairs_row words ∷ []) (Some (codes "pairs", word ∷ [])) (rows ++ pairs_row (words ++ word ∷ []) ∷ [])
next_ready s words word rows has none = record {
  rows_are = ap (λ a. used_by_id a (word ∷ []) (rows ++ pairs_row words ∷ [])) has.by_id
      ∙ changed (codes "pairs") (more_values CommandLine (word ∷ [])) (pairs_row (word ∷ []) ∷ []) rows (pairs_row words) none refl;
  fault = ap (λ a. option_map_or (λ (r : Rule). use_fault s.args_override_self r (word ∷ []) (rows ++ pairs_row words ∷ [])) a []) has.by_id;
}

over_more : (s : Shape) (front settled rows : List Row) (pending : Option (Text × List Text)) (done words : List (List ℕ)) → HasPairs s → has_row (codes "pairs") front ≡ false
    → IsReady s rows pending (front ++ pairs_row done ∷ []) → All IsValue words → Reaches s (standing rows pending positional) words (front ++ pairs_row (done ++ words) ∷ [])
over_more s front settled rows pending done [] has none ready values = record {
  rows = rows;
  pending = pending;
  waiting = positional;
  goes = stays s (standing rows pending positional);
  ready = subst (λ l. IsReady s rows pending (front ++ pairs_row l ∷ [])) (sym (append-nil done)) ready;
}
over_more s front settled rows pending done (word ∷ words) has none ready values =
    let value = All-head IsValue word words values in
    let rest = over_more s front settled (front ++ pairs_row done ∷ []) (Some (codes "pairs", word ∷ [])) (done ++ word ∷ []) words has none
    (next_ready s done word front has none) (All-tail IsValue word words values) in
    record {
      rows = rest.rows;
      pending = rest.pending;
      waiting = rest.waiting;
      goes = first s (standing rows pending positional) (standing (front ++ pairs_row done ∷ []) (Some (codes "pairs", word ∷ [])) positional)
          (standing rest.rows rest.pending rest.waiting) word words
          (pair_walked s rows pending positional word has tt value ∙ ap (λ r. standing r (Some (codes "pairs", word ∷ [])) positional) ready.rows_are)
          (pair_fault s rows pending positional word has tt value ∙ ready.fault) rest.goes;
      ready = subst (λ l. IsReady s rest.rows rest.pending (front ++ pairs_row l ∷ [])) (append_assoc done (word ∷ []) words) rest.ready;
    }

-- the walk goes over pair words
pub over_pairs : (s : Shape) (settled rows : List Row) (pending : Option (Text × List Text)) (words : List (List ℕ)) → HasPairs s → has_row (codes "pairs") settled ≡ false
    → IsReady s rows pending settled → All IsValue words → Reaches s (standing rows pending idle) words (settled ++ pair_rows words)
over_pairs s settled rows pending [] has none ready values = record {
  rows = rows;
  pending = pending;
  waiting = idle;
  goes = stays s (standing rows pending idle);
  ready = subst (IsReady s rows pending) (sym (append-nil settled)) ready;
}
over_pairs s settled rows pending (word ∷ words) has none ready values =
    let value = All-head IsValue word words values in
    let rest = over_more s settled settled settled (Some (codes "pairs", word ∷ [])) (word ∷ []) words has none (first_ready s word settled has none) (All-tail IsValue word words values) in
    record {
      rows = rest.rows;
      pending = rest.pending;
      waiting = rest.waiting;
      goes = first s (standing rows pending idle) (standing settled (Some (codes "pairs", word ∷ [])) positional) (standing rest.rows rest.pending rest.waiting) word words
          (pair_walked s rows pending idle word has tt value ∙ ap (λ r. standing r (Some (codes "pairs", word ∷ [])) positional) ready.rows_are)
          (pair_fault s rows pending idle word has tt value ∙ ready.fault) rest.goes;
      ready = rest.ready;
    }

-- ---- the end

-- the rows that a walk ends with, and the checks that are left
pub ends_rows : (s : Shape) (words : List Text) (settled : List Row) → Reaches s (walk_from nothing_held) words settled
    → rows_after s.rules [] words ≡ fold with_default settled s.rules
ends_rows s words settled r = ap (λ (w : Walk). finished s.rules w.held) r.goes.walk ∙ ap (λ rows. fold with_default rows s.rules) r.ready.rows_are

pub ends_fault : (s : Shape) (words : List Text) (settled : List Row) → Reaches s (walk_from nothing_held) words settled
    → level_fault s [] nothing_held words false [] ≡ or_else (defaults_fault settled s.rules) (check_fault s (fold with_default settled s.rules) false)
ends_fault s words settled r =
    ap (λ kinds. or_else kinds (rest (fold (walked s.rules []) (walk_from nothing_held) words))) r.goes.fault
    ∙ ap rest r.goes.walk ∙ ap (λ kinds. or_else kinds (last (settled_rows s.rules r.pending r.rows))) r.ready.fault ∙ ap last r.ready.rows_are
  where
    last : List Row → Kinds
    last rows = or_else (defaults_fault rows s.rules) (check_fault s (fold with_default rows s.rules) false)

    rest : Walk → Kinds
    rest w = or_else (settle_fault s.rules s.args_override_self w.held) (last (settled_held s.rules w.held).rows)
