-- Where `clap` takes words, each row that it finds has a value.
use Rattle.std.proofs.Common.{◌≡◌, ◌∙◌, ◌&&◌, ◌||◌, ℕ, Bool, true, false, zero, suc, List, [], ◌∷◌, ◌++◌, drop, length, refl, ap, subst}
use Rattle.std.specs.Prelude.{All, IsSome, Option, Some, None, encode_utf8, find, fold, is_some, nat_lt, not, option_and_then, slice_get, if◌then◌else◌}
use Rattle.std.specs.List.{list_all}
use Rattle.std.specs.Option.{option_map_or}
use Rattle.std.specs.Str.{bytes_eq, chars}
use Rattle.std.proofs.lemmas.List.Elements.{All-weaker}
use Rattle.clap.specs.Facts.{unwrap_or_range}
use Rattle.clap.specs.declared.error.kind.ErrorKind.TheVariants as kind
use Rattle.clap.specs.Takes.{is_given}
use Rattle.clap.specs.Faults.{check_fault, defaults_fault, level_fault, long_fault, stray_fault, word_fault, flag_word_fault, option_fault, positional_fault, react_fault, settle_fault, step_fault, turn_fault, use_fault, walk_fault}
use Rattle.clap.specs.Kinds.{Kinds, check_kinds, or_else}
use Rattle.clap.specs.Lexer.{long_of, short_of}
use Rattle.clap.specs.Simple.{Shape}
use Rattle.clap.specs.Walk.{Held, Outcome, Row, Rule, Step, Text, Waiting, Walk, action_of, after_flag, after_step, arg_by_id, arg_by_index, arg_by_long, arg_by_short, at_row, bundle, finished, first_of, flag_met, has_long, has_row, nothing_held, rows_after, subcommand_met, to_positional, walk, walk_from, walked_from, bundle_met, bundle_step, default_rows, done, idle, is_pending, long_met, long_or_other, more_values, next, option, option_met, option_word, plain, plain_word, positional, reading_by, refused, settled, settled_rows, short_or_plain, subcommand, takes_several, takes_values, trailing, used, used_as, used_by_id, value, waits, walked, with_default, with_values, without, word_met}
use Rattle.clap.specs.declared.builder.action.ArgAction.{ArgAction}
use Rattle.clap.specs.declared.builder.action.ArgAction.TheVariants as action
use Rattle.clap.specs.declared.builder.value_parser.Reading.{Reading}
use Rattle.clap.specs.declared.parser.matches.ValueSource.{ValueSource}
use Rattle.clap.specs.declared.parser.matches.ValueSource.TheVariants.{CommandLine, DefaultValue}

-- ---- rows with values

abbrev is_filled : Row → Bool
is_filled r = is_some (slice_get r.values 0)

both : (a b : Bool) → (a && b) ≡ true → (a ≡ true) × (b ≡ true)
both true b e = (refl, e)
both false b e = absurd cc

all_append : (p : Row → Bool) (xs ys : List Row) → list_all p xs ≡ true → list_all p ys ≡ true → list_all p (xs ++ ys) ≡ true
all_append p [] ys one two = two
all_append p (x ∷ xs) ys one two = let t = both (p x) (list_all p xs) one in rw t.0 (all_append p xs ys t.1 two)

-- the changed row and those behind it
row_filled : (b : Bool) (change : Row → List Row) (r : Row) (rows behind : List Row) → list_all is_filled (change r) ≡ true → is_filled r ≡ true → list_all is_filled rows ≡ true
    → list_all is_filled behind ≡ true → list_all is_filled (if b then change r ++ rows else r ∷ behind) ≡ true
row_filled true change r rows behind changed here rest more = all_append is_filled (change r) rows changed rest
row_filled false change r rows behind changed here rest more = rw here more

at_row_filled : (id : Text) (change : Row → List Row) (missing rows : List Row) → ((r : Row) → is_filled r ≡ true → list_all is_filled (change r) ≡ true) → list_all is_filled missing ≡ true
    → list_all is_filled rows ≡ true → list_all is_filled (at_row id change missing rows) ≡ true
at_row_filled id change missing [] changed new all = new
at_row_filled id change missing (r ∷ rows) changed new all =
    let t = both (is_filled r) (list_all is_filled rows) all in
    row_filled (bytes_eq r.id id) change r rows (at_row id change missing rows) (changed r t.0) t.0 t.1 (at_row_filled id change missing rows changed new t.1)

front_some : (xs : List Text) (y : Text) (ys : List Text) → is_some (slice_get (xs ++ y ∷ ys) 0) ≡ true
front_some [] y ys = refl
front_some (x ∷ xs) y ys = refl

with_values_filled : (id : Text) (how : Reading) (source : ValueSource) (v : Text) (vs : List Text) (rows : List Row) → list_all is_filled rows ≡ true
    → list_all is_filled (with_values id how source (v ∷ vs) rows) ≡ true
with_values_filled id how source v vs rows all =
    at_row_filled id (more_values source (v ∷ vs)) (record { id = id; values = v ∷ vs; count = None; source = Some source; reading = how } ∷ []) rows
    (λ r here. rw (front_some r.values v vs) refl) refl all

without_filled : (id : Text) (rows : List Row) → list_all is_filled rows ≡ true → list_all is_filled (without id rows) ≡ true
without_filled id rows all = at_row_filled id (λ r. []) [] rows (λ r here. refl) refl all

-- ---- a use

used_filled : (x : ArgAction) (id : Text) (how : Reading) (v : Text) (vs : List Text) (rows : List Row) → list_all is_filled rows ≡ true
    → list_all is_filled (used_as x id how (v ∷ vs) rows) ≡ true
used_filled action.Set id how v vs rows all = with_values_filled id how CommandLine v vs (without id rows) (without_filled id rows all)
used_filled action.SetTrue id how v vs rows all = with_values_filled id how CommandLine v vs (without id rows) (without_filled id rows all)
used_filled action.SetFalse id how v vs rows all = with_values_filled id how CommandLine v vs (without id rows) (without_filled id rows all)
used_filled action.Append id how v vs rows all = with_values_filled id how CommandLine v vs rows all
used_filled action.Count id how v vs rows all = with_values_filled id how CommandLine v vs (without id rows) (without_filled id rows all)
used_filled other id how v vs rows all = all

-- a use has a value, or one stands for it
abbrev pub fills : Rule → Bool
fills a = nat_lt 0 (unwrap_or_range a.range).start_inclusive || is_some (slice_get a.missing 0)

first_empty : (one two : Kinds) → or_else one two ≡ [] → (one ≡ []) × (two ≡ [])
first_empty [] two e = (refl, e)
first_empty (k ∷ ks) two e = absurd cc

missing_filled : (again : Bool) (a : Rule) (missing : List Text) (rows : List Row) → a.missing ≡ missing → fills a ≡ true → use_fault again a [] rows ≡ [] → list_all is_filled rows ≡ true
    → list_all is_filled (used_as (action_of a) a.id (reading_by a) missing rows) ≡ true
missing_filled again a (v ∷ vs) rows is may none all = used_filled (action_of a) a.id (reading_by a) v vs rows all
missing_filled again a [] rows is may none all = absurd (least (nat_lt 0 (unwrap_or_range a.range).start_inclusive) refl)
  where
    least : (b : Bool) → nat_lt 0 (unwrap_or_range a.range).start_inclusive ≡ b → ⊥
    least true at = let e = rw at at none in cc
    least false at = let e = rw (at, is) at may in cc

use_filled : (again : Bool) (a : Rule) (values : List Text) (rows : List Row) → fills a ≡ true → use_fault again a values rows ≡ [] → list_all is_filled rows ≡ true
    → list_all is_filled (used a values rows) ≡ true
use_filled again a (v ∷ vs) rows may none all = used_filled (action_of a) a.id (reading_by a) v vs rows all
use_filled again a [] rows may none all = missing_filled again a a.missing rows refl may none all

found_passes : {X : Type 0} (p q : X → Bool) (xs : List X) (a : X) → list_all q xs ≡ true → find p xs ≡ Some a → q a ≡ true
found_passes p q [] a all found = absurd cc
found_passes p q (x ∷ xs) a all found = let t = both (q x) (list_all q xs) all in pick (p x) t.0 (λ rest. found_passes p q xs a t.1 rest) found
  where
    pick : (b : Bool) → q x ≡ true → (find p xs ≡ Some a → q a ≡ true) → (if b then Some x else find p xs) ≡ Some a → q a ≡ true
    pick true here rest found = let same : x ≡ a = cc in subst (λ y. q y ≡ true) same here
    pick false here rest found = rest found

-- ---- a word

module _ (c : List Rule) (again : Bool) (all_fill : list_all fills c ≡ true) (no_shorts : (x : ℕ) → arg_by_short c x ≡ None) where
  by_id_filled : (found : Option Rule) (p : Text × List Text) (rows : List Row) → arg_by_id c p.0 ≡ found → option_map_or (λ (a : Rule). use_fault again a p.1 rows) found [] ≡ []
      → list_all is_filled rows ≡ true → list_all is_filled (used_by_id found p.1 rows) ≡ true
  by_id_filled None p rows is none all = all
  by_id_filled (Some a) p rows is none all = use_filled again a p.1 rows (found_passes (λ r. bytes_eq r.id p.0) fills c a all_fill is) none all

  settled_filled : (rows : List Row) (pending : Option (Text × List Text)) (skip : ℕ) → settle_fault c again (record { rows = rows; pending = pending; skip = skip }) ≡ []
      → list_all is_filled rows ≡ true → list_all is_filled (settled_rows c pending rows) ≡ true
  settled_filled rows None skip none all = all
  settled_filled rows (Some p) skip none all = by_id_filled (arg_by_id c p.0) p rows refl none all

  -- a use behind what is pending
  reacted_filled : (a : Rule) (values : List Text) (h : Held) → fills a ≡ true → react_fault c again a values h ≡ [] → list_all is_filled h.rows ≡ true
      → list_all is_filled (used a values (settled_rows c h.pending h.rows)) ≡ true
  reacted_filled a values h may none all =
      let t = first_empty (settle_fault c again h) (use_fault again a values (settled_rows c h.pending h.rows)) none in
      use_filled again a values (settled_rows c h.pending h.rows) may t.1 (settled_filled h.rows h.pending h.skip t.0 all)

  option_filled_rows : (a : Rule) (v : Option Text) (h : Held) → fills a ≡ true → option_fault c again a v h ≡ [] → list_all is_filled h.rows ≡ true
      → list_all is_filled (option_met c a v h).0.rows ≡ true
  option_filled_rows a (Some v) h may none all = reacted_filled a (v ∷ []) h may none all
  option_filled_rows a None h may none all = settled_filled h.rows h.pending h.skip none all

  -- `--name` or `--name=value`
  flag_filled_rows : (a : Rule) (v : Option Text) (h : Held) → fills a ≡ true → takes_values a ≡ false
      → (if is_some v then kind.TooManyValues ∷ [] else react_fault c again a [] h) ≡ [] → list_all is_filled h.rows ≡ true
      → list_all is_filled (flag_met c a v h).0.rows ≡ true
  flag_filled_rows a (Some v) h may flag none all = absurd cc
  flag_filled_rows a None h may flag none all = reacted_filled a [] h may none all

  long_filled : (found : Option Rule) (name : Text) (v : Option Text) (h : Held) → arg_by_long c name ≡ found → long_fault c again found v h ≡ [] → list_all is_filled h.rows ≡ true
      → list_all is_filled (long_met c found v h).0.rows ≡ true
  long_filled None name v h is none all = absurd cc
  long_filled (Some a) name v h is none all = by_kind (takes_values a) refl
    where
      may : fills a ≡ true
      may = found_passes (λ r. not (is_some r.index) && has_long r name) fills c a all_fill is

      by_kind : (b : Bool) → takes_values a ≡ b → list_all is_filled (if takes_values a then option_met c a v h else flag_met c a v h).0.rows ≡ true
      by_kind true takes = rw takes (option_filled_rows a v h may (rw takes at none) all)
      by_kind false takes = rw takes (flag_filled_rows a v h may takes (rw takes at none) all)

  -- a bundle of short options has none
  step_same : (o : Option ℕ) (flags : Text) (skip : ℕ) (so_far : Outcome) (h : Held) (more : Text → ℕ → Outcome → Held → Held × Outcome)
      → ((flags : Text) (skip : ℕ) (so_far : Outcome) → (more flags skip so_far h).0 ≡ h) → (bundle_step c o flags skip so_far h more).0 ≡ h
  step_same None flags skip so_far h more same = refl
  step_same (Some x) flags zero so_far h more same = rw (no_shorts x) refl
  step_same (Some x) flags (suc skip) so_far h more same = same (drop (length (encode_utf8 x)) flags) skip so_far

  bundle_same : (k : ℕ) (flags : Text) (skip : ℕ) (so_far : Outcome) (h : Held) → (bundle_met c k flags skip so_far h).0 ≡ h
  unfolding bundle_met
  bundle_same zero flags skip so_far h = refl
  bundle_same (suc k) flags skip so_far h = step_same (slice_get (chars flags) 0) flags skip so_far h (bundle_met c k) (λ f s o. bundle_same k f s o h)

  -- what follows a flag changes no row
  option_word_rows : (found : Option Rule) (id word : Text) (h : Held) → (option_word found id word h).0.rows ≡ h.rows
  option_word_rows None id word h = refl
  option_word_rows (Some a) id word h = refl

  plain_rows : (waiting : Waiting) (word : Text) (h : Held) → (plain_word c waiting word h).0.rows ≡ h.rows
  plain_rows idle word h = refl
  plain_rows (option id) word h = option_word_rows (arg_by_id c id) id word h
  plain_rows positional word h = refl

  after_rows : (waiting : Waiting) (word : Text) (h : Held) (o : Outcome) → (after_flag c waiting word h o).0.rows ≡ h.rows
  after_rows waiting word h done = refl
  after_rows waiting word h (waits id) = refl
  after_rows waiting word h plain = plain_rows waiting word h
  after_rows waiting word h refused = plain_rows waiting word h

  short_filled : (flags : Option Text) (waiting : Waiting) (word : Text) (h : Held) → list_all is_filled h.rows ≡ true
      → list_all is_filled (short_or_plain c waiting word flags h).0.rows ≡ true
  short_filled None waiting word h all = ap (list_all is_filled) (plain_rows waiting word h) ∙ all
  short_filled (Some flags) waiting word h all =
      ap (list_all is_filled) (after_rows waiting word (bundle c flags h).0 (bundle c flags h).1
      ∙ ap (λ (g : Held). g.rows) (bundle_same (length flags) flags h.skip plain (record h { skip = 0 }))) ∙ all

  word_filled : (long : Option (Text × Option Text)) (waiting : Waiting) (word : Text) (h : Held) → flag_word_fault c again long word h ≡ [] → list_all is_filled h.rows ≡ true
      → list_all is_filled (long_or_other c waiting word long h).0.rows ≡ true
  word_filled None waiting word h none all = short_filled (short_of word) waiting word h all
  word_filled (Some p) waiting word h none all =
      let met = long_met c (arg_by_long c p.0) p.1 h in
      ap (list_all is_filled) (after_rows waiting word met.0 met.1) ∙ long_filled (arg_by_long c p.0) p.0 p.1 h refl none all

  other_filled : (b : Bool) (waiting : Waiting) (position : ℕ) (word : Text) (h : Held) → (if b then [] else flag_word_fault c again (long_of word) word h) ≡ [] → list_all is_filled h.rows ≡ true
      → list_all is_filled (if b then (h, trailing position) else long_or_other c waiting word (long_of word) h).0.rows ≡ true
  other_filled true waiting position word h none all = all
  other_filled false waiting position word h none all = word_filled (long_of word) waiting word h none all

  no_command : (waiting : Waiting) (word : Text) → subcommand_met [] waiting word ≡ None
  no_command idle word = refl
  no_command (option id) word = refl
  no_command positional word = refl

  met_filled : (trails : Bool) (s : Shape) (waiting : Waiting) (position : ℕ) (word : Text) (h : Held) → s.rules ≡ c → s.args_override_self ≡ again
      → word_fault s [] trails waiting word h ≡ [] → list_all is_filled h.rows ≡ true → list_all is_filled (word_met c [] trails waiting position word h).0.rows ≡ true
  met_filled true s waiting position word h rules over none all = all
  met_filled false s waiting position word h rules over none all =
      rw (no_command waiting word) (other_filled (bytes_eq word (45 ∷ 45 ∷ [])) waiting position word h (rw (no_command waiting word, rules, over) at none) all)

  -- a word that goes to a positional
  place_filled : (found : Option Rule) (s : Shape) (word : Text) (w : Walk) (h : Held) → s.rules ≡ c → s.args_override_self ≡ again
      → option_map_or (λ (a : Rule). positional_fault c again a h) found (stray_fault s) ≡ [] → list_all is_filled h.rows ≡ true
      → list_all is_filled (to_positional c found word w h).held.rows ≡ true
  place_filled None s word w h rules over none all = all
  place_filled (Some a) s word w h rules over none all = by_pending (is_pending a h.pending && takes_several a) refl
    where
      by_pending : (b : Bool) → (is_pending a h.pending && takes_several a) ≡ b
          → list_all is_filled (if is_pending a h.pending && takes_several a then h else settled c h).rows ≡ true
      by_pending true is = rw is all
      by_pending false is = rw is (settled_filled h.rows h.pending h.skip (rw is at none) all)

  step_filled : (s : Shape) (word : Text) (w : Walk) (h : Held) (step : Step) → s.rules ≡ c → s.args_override_self ≡ again → step_fault s w.position h step ≡ []
      → list_all is_filled h.rows ≡ true → list_all is_filled (after_step c word w h step).held.rows ≡ true
  step_filled s word w h (next waiting) rules over none all = all
  step_filled s word w h (trailing position) rules over none all = all
  step_filled s word w h (subcommand name) rules over none all = all
  step_filled s word w h value rules over none all = place_filled (arg_by_index c w.position) s word w h rules over (rw (rules, over) at none) all

  turn_filled : (s : Shape) (w : Walk) (word : Text) (stopped : Option (Text × List Text)) → s.rules ≡ c → s.args_override_self ≡ again → w.stopped ≡ stopped → turn_fault s [] w word ≡ []
      → list_all is_filled w.held.rows ≡ true → list_all is_filled (walked_from c [] stopped w word).held.rows ≡ true
  turn_filled s w word (Some p) rules over is none all = all
  turn_filled s w word None rules over is none all =
      let open_turn = rw is at none in
      let met = word_met c [] w.is_trailing w.waiting w.position word w.held in
      let t = first_empty (word_fault s [] w.is_trailing w.waiting word w.held)
      (step_fault s w.position (word_met s.rules [] w.is_trailing w.waiting w.position word w.held).0 (word_met s.rules [] w.is_trailing w.waiting w.position word w.held).1) open_turn in
      step_filled s word w met.0 met.1 rules over
      (subst (λ (r : List Rule). step_fault s w.position (word_met r [] w.is_trailing w.waiting w.position word w.held).0 (word_met r [] w.is_trailing w.waiting w.position word w.held).1 ≡ []) rules t.1)
      (met_filled w.is_trailing s w.waiting w.position word w.held rules over t.0 all)

  -- a walk without a fault
  walk_filled : (s : Shape) (w : Walk) (words : List Text) → s.rules ≡ c → s.args_override_self ≡ again → walk_fault s [] w words ≡ [] → list_all is_filled w.held.rows ≡ true
      → list_all is_filled (fold (walked c []) w words).held.rows ≡ true
  unfolding walk_fault walked
  walk_filled s w [] rules over none all = all
  walk_filled s w (word ∷ words) rules over none all =
      let t = first_empty (turn_fault s [] w word) (walk_fault s [] (walked s.rules [] w word) words) none in
      walk_filled s (walked c [] w word) words rules over (subst (λ (r : List Rule). walk_fault s [] (walked r [] w word) words ≡ []) rules t.1)
      (turn_filled s w word w.stopped rules over refl t.0 all)

-- ---- the end

defaults_filled : (how : Reading) (id : Text) (values : List Text) (rows : List Row) → list_all is_filled rows ≡ true → list_all is_filled (default_rows id how values rows) ≡ true
defaults_filled how id [] rows all = all
defaults_filled how id (v ∷ vs) rows all = with_values_filled id how DefaultValue v vs rows all

default_filled : (a : Rule) (b : Bool) (rows : List Row) → list_all is_filled rows ≡ true
    → list_all is_filled (if b then rows else default_rows a.id (reading_by a) a.defaults rows) ≡ true
default_filled a true rows all = all
default_filled a false rows all = defaults_filled (reading_by a) a.id a.defaults rows all

pub finished_filled : (rules : List Rule) (rows : List Row) → list_all is_filled rows ≡ true → list_all is_filled (fold with_default rows rules) ≡ true
finished_filled [] rows all = all
finished_filled (a ∷ rules) rows all = finished_filled rules (with_default rows a) (default_filled a (has_row a.id rows) rows all)

-- a row that is given has a value
pub given_value : (id : Text) (rows : List Row) → list_all is_filled rows ≡ true → is_given id rows ≡ true → is_some (first_of id rows) ≡ true
given_value id rows all given = by_row (find (λ r. bytes_eq r.id id) rows) refl
  where
    by_row : (found : Option Row) → find (λ r. bytes_eq r.id id) rows ≡ found → is_some (option_and_then (λ (r : Row). slice_get r.values 0) (find (λ r. bytes_eq r.id id) rows)) ≡ true
    by_row None is = let never = rw is at given in cc
    by_row (Some r) is = rw is (found_passes (λ x. bytes_eq x.id id) is_filled rows r all is)

pub check_given : (b c d : Bool) → check_kinds b c d ≡ [] → d ≡ false
check_given true c d none = absurd cc
check_given false true d none = absurd cc
check_given false false true none = absurd cc
check_given false false false none = refl

pub asked_given : (given rest : Bool) → (not given || rest) ≡ false → given ≡ true
asked_given true rest e = refl
asked_given false rest e = absurd cc

pub none_asked : (given rest : Bool) → (not given || rest) ≡ false → rest ≡ false
none_asked true rest e = e
none_asked false rest e = absurd cc

-- what the parse of a command asks at its end
pub level_given : (s : Shape) (words : List Text) → list_all fills s.rules ≡ true → ((x : ℕ) → arg_by_short s.rules x ≡ None) → level_fault s [] nothing_held words false [] ≡ []
    → (list_all is_filled (rows_after s.rules [] words) ≡ true) × (check_fault s (rows_after s.rules [] words) false ≡ [])
level_given s words all_fill no_shorts none =
    let end = (walk s.rules [] nothing_held words).held in
    let one = first_empty (walk_fault s [] (walk_from nothing_held) words) _ none in
    let two = first_empty (settle_fault s.rules s.args_override_self end) _ one.1 in
    let three = first_empty (defaults_fault (settled s.rules end).rows s.rules) (check_fault s (finished s.rules end) false) two.1 in
    let walked_rows = walk_filled s.rules s.args_override_self all_fill no_shorts s (walk_from nothing_held) words refl refl one.0 refl in
    let settled_all = settled_filled s.rules s.args_override_self all_fill no_shorts end.rows end.pending end.skip two.0 walked_rows in
    (finished_filled s.rules (settled_rows s.rules end.pending end.rows) settled_all, three.1)

-- ---- required options

-- the values of a command's options, where no check is left that fails
pub values_given : (s : Shape) (words : List Text) (ids : List Text) → list_all fills s.rules ≡ true → ((x : ℕ) → arg_by_short s.rules x ≡ None)
    → level_fault s [] nothing_held words false [] ≡ [] → ((rows : List Row) → check_fault s rows false ≡ [] → All (λ id. is_given id rows ≡ true) ids)
    → All (λ id. IsSome (first_of id (rows_after s.rules [] words))) ids
values_given s words ids all_fill no_shorts none asked =
    let t = level_given s words all_fill no_shorts none in
    let rows = rows_after s.rules [] words in
    All-weaker (λ id. is_given id rows ≡ true) (λ id. IsSome (first_of id rows)) (λ id given. given_value id rows t.0 given) ids (asked rows t.1)
