-- What the words of one argument are: good, with what they say, or at fault.
use Rattle.std.proofs.Common.{◌≡◌, ◌<◌, ◌+◌, ◌∙◌, ◌++◌, ℕ, drop, get_or, length, take, List, [], ◌∷◌, refl, sym, ap, subst}
use Rattle.std.specs.Prelude.{All, IsSome, Option, Some, None, is_some, option_and_then, option_map, if◌then◌else◌}
use Rattle.std.specs.Option.{option_or}
use Rattle.std.proofs.lemmas.List.{drop_more, take-append-drop, take_more}
use Rattle.std.proofs.lemmas.List.Elements.{All-cons, All-head, All-nil, All-tail}
use Rattle.esdk_args.specs.declared.commands.Argument.{Argument}
use Rattle.esdk_args.specs.declared.commands.Argument.TheVariants.{Required, Optional, Flag, Pairs}
use Rattle.esdk_args.specs.declared.options.OptionName.{OptionName}
use Rattle.esdk_args.specs.declared.options.ValueOption.{ValueOption}
use Rattle.esdk_args.specs.declared.options.ValueOption.TheVariants.{Name, Number}
use Rattle.esdk_args.specs.declared.request.WordsFault.{WordsFault}
use Rattle.esdk_args.specs.declared.request.WordsFault.TheVariants.{NotRead, BadNumber, BadPair, Memory}
use Rattle.esdk_args.specs.Numbers.{option_number}
use Rattle.esdk_args.specs.PairWords.{bad_pair, pairs_of}
use Rattle.esdk_args.specs.Spelling.{HasBadValue, ArgumentHasFault, IsFirstFault, IsGood, IsGoodValue, MayGive, Says, SaysValue}
use Rattle.esdk_args.specs.Values.{Given, Values, argument_fault, first_fault, given_of, value_fault}
use Rattle.esdk_args.proofs.Numerals.{number_bad, number_read, number_refused, number_writes}
use Rattle.esdk_args.proofs.Pairs.{first_bad_is, first_bad_named, pairs_named, pairs_read, pairs_taken}

-- the fault of a word by the number that is read of it
abbrev unless_read : OptionName → Option ℕ → Option WordsFault
unless_read name read = if is_some read then None else Some (BadNumber name)

-- ---- good words have no fault

good_value : (option : ValueOption) (word : Option (List ℕ)) → IsGoodValue option word → value_fault option word ≡ None
good_value (Name option) None good = refl
good_value (Name option) (Some word) good = refl
good_value (Number option) None good = refl
good_value (Number option) (Some word) good = ap (unless_read option) (number_read option word good.0 good.1)

pub good_fault : (values : Values) (argument : Argument) → IsGood values argument → argument_fault values argument ≡ None
good_fault values (Required option) good = good_value option (values.words option) good
good_fault values (Optional option) good = good_value option (values.words option) good
good_fault values (Flag flag) good = refl
good_fault values Pairs good = ap (option_map (λ n. BadPair n)) (ap bad_pair good.1.0 ∙ pairs_taken good.0 good.1.1)

-- ---- words without a fault say what is read

-- the number that is read of a word
says_number : (option : OptionName) (word : List ℕ) (read : Option ℕ) → option_number option word ≡ read → unless_read option read ≡ None
    → MayGive option (Some word) read
says_number option word (Some n) is none = number_writes option word n is
says_number option word None is none = absurd cc

says_value : (values : Values) (option : ValueOption) → value_fault option (values.words option) ≡ None
    → SaysValue option (values.words option) (given_of values)
says_value values (Name option) none = refl
says_value values (Number option) none = by_word (values.words (Number option)) none
  where
    by_word : (word : Option (List ℕ)) → value_fault (Number option) word ≡ None
        → MayGive option word (option_and_then (option_number option) word)
    by_word None none = refl
    by_word (Some word) none = says_number option word (option_number option word) refl none

-- a required option has a word
abbrev pub IsThere : Values → Argument → Type 0
IsThere values (Required option) = IsSome (values.words option)
IsThere values argument = Unit {0}

no_bad : (found : Option ℕ) → option_map (λ n. BadPair n) found ≡ None → found ≡ None
no_bad None e = refl
no_bad (Some n) e = absurd cc

pub fault_says : (values : Values) (argument : Argument) → IsThere values argument → argument_fault values argument ≡ None
    → Says values (given_of values) argument
fault_says values (Required option) there none = (there, says_value values option none)
fault_says values (Optional option) there none = says_value values option none
fault_says values (Flag flag) there none = refl
fault_says values Pairs there none = pairs_named values.pairs (no_bad (bad_pair values.pairs) none)

-- ---- words that say something are good

value_says : (option : ValueOption) (word : Option (List ℕ)) (given : Given) → SaysValue option word given → IsGoodValue option word
value_says (Name option) word given says = tt
value_says (Number option) word given says = by_number word (given.numbers option) says
  where
    by_number : (word : Option (List ℕ)) (n : Option ℕ) → MayGive option word n → IsGoodValue (Number option) word
    by_number None n says = tt
    by_number (Some word) None says = absurd (unlike says)
      where
        unlike : Some word ≡ None → ⊥
        unlike e = cc
    by_number (Some word) (Some n) says = (n, says)

pub says_good : (values : Values) (given : Given) (argument : Argument) → Says values given argument → IsGood values argument
says_good values given (Required option) says = value_says option (values.words option) given says.1
says_good values given (Optional option) says = value_says option (values.words option) given says
says_good values given (Flag flag) says = tt
says_good values given Pairs says = (given.pairs, says)

-- ---- what is said is what is read

-- both give the same of this argument
abbrev pub Agree : Given → Given → Argument → Type 0
Agree one other (Required (Name option)) = one.names option ≡ other.names option
Agree one other (Required (Number option)) = one.numbers option ≡ other.numbers option
Agree one other (Optional (Name option)) = one.names option ≡ other.names option
Agree one other (Optional (Number option)) = one.numbers option ≡ other.numbers option
Agree one other (Flag flag) = one.flags flag ≡ other.flags flag
Agree one other Pairs = one.pairs ≡ other.pairs

number_said : (option : OptionName) (word : Option (List ℕ)) (n : Option ℕ) → MayGive option word n
    → option_and_then (option_number option) word ≡ n
number_said option word None says = ap (option_and_then (option_number option)) says
number_said option None (Some n) says = absurd says
number_said option (Some word) (Some n) says = number_read option word n says

pub says_agree : (values : Values) (given : Given) (argument : Argument) → Says values given argument
    → Agree (given_of values) given argument
says_agree values given (Required (Name option)) says = sym says.1
says_agree values given (Required (Number option)) says = number_said option (values.words (Number option)) (given.numbers option) says.1
says_agree values given (Optional (Name option)) says = sym says
says_agree values given (Optional (Number option)) says = number_said option (values.words (Number option)) (given.numbers option) says
says_agree values given (Flag flag) says = sym says
says_agree values given Pairs says = pairs_read values.pairs given.pairs says

-- ---- faults

-- a word with this fault is bad
read_fault : (option : OptionName) (word : List ℕ) (read : Option ℕ) (fault : WordsFault) → option_number option word ≡ read
    → unless_read option read ≡ Some fault → HasBadValue (Number option) (Some word) fault
read_fault option word (Some n) fault is e = absurd cc
read_fault option word None fault is e =
    let same : BadNumber option ≡ fault = cc in
    subst (HasBadValue (Number option) (Some word)) same (refl, number_refused option word is)

value_has : (option : ValueOption) (word : Option (List ℕ)) (fault : WordsFault) → value_fault option word ≡ Some fault
    → HasBadValue option word fault
value_has (Name option) None fault e = absurd cc
value_has (Name option) (Some word) fault e = absurd cc
value_has (Number option) None fault e = absurd cc
value_has (Number option) (Some word) fault e = read_fault option word (option_number option word) fault refl e

pair_fault_is : (found : Option ℕ) (fault : WordsFault) → option_map (λ n. BadPair n) found ≡ Some fault
    → (n : ℕ) × (found ≡ Some n) × (BadPair n ≡ fault)
pair_fault_is None fault e = absurd cc
pair_fault_is (Some n) fault e = (n, refl, cc)

pub fault_has : (values : Values) (argument : Argument) (fault : WordsFault) → argument_fault values argument ≡ Some fault
    → ArgumentHasFault values fault argument
fault_has values (Required option) fault e = value_has option (values.words option) fault e
fault_has values (Optional option) fault e = value_has option (values.words option) fault e
fault_has values (Flag flag) fault e = absurd cc
fault_has values Pairs fault e =
    let t = pair_fault_is (bad_pair values.pairs) fault e in
    subst (λ f. ArgumentHasFault values f Pairs) t.2 (first_bad_is values.pairs t.0 t.1)

-- a bad word has its fault
bad_value : (option : ValueOption) (word : Option (List ℕ)) (fault : WordsFault) → HasBadValue option word fault
    → value_fault option word ≡ Some fault
bad_value (Name option) word NotRead bad = absurd bad
bad_value (Name option) word (BadNumber name) bad = absurd bad
bad_value (Name option) word (BadPair n) bad = absurd bad
bad_value (Name option) word Memory bad = absurd bad
bad_value (Number option) word NotRead bad = absurd bad
bad_value (Number option) word (BadPair n) bad = absurd bad
bad_value (Number option) word Memory bad = absurd bad
bad_value (Number option) None (BadNumber name) bad = absurd bad.1
bad_value (Number option) (Some word) (BadNumber name) bad =
    ap (unless_read option) (number_bad option word bad.1) ∙ ap (λ o. Some (BadNumber o)) bad.0

pub has_fault : (values : Values) (argument : Argument) (fault : WordsFault) → ArgumentHasFault values fault argument
    → argument_fault values argument ≡ Some fault
has_fault values (Required option) fault has = bad_value option (values.words option) fault has
has_fault values (Optional option) fault has = bad_value option (values.words option) fault has
has_fault values (Flag flag) NotRead has = absurd has
has_fault values (Flag flag) (BadNumber name) has = absurd has
has_fault values (Flag flag) (BadPair n) has = absurd has
has_fault values (Flag flag) Memory has = absurd has
has_fault values Pairs NotRead has = absurd has
has_fault values Pairs (BadNumber name) has = absurd has
has_fault values Pairs (BadPair n) has = ap (option_map (λ k. BadPair k)) (first_bad_named values.pairs n has)
has_fault values Pairs Memory has = absurd has

-- ---- a row

-- each argument of a row
abbrev pub Each : (Argument → Type 0) → List Argument → Type 0
Each P [] = Unit {0}
Each P (argument ∷ row) = P argument × Each P row

pub each : (P : Argument → Type 0) (row : List Argument) → All P row → Each P row
each P [] all = tt
each P (argument ∷ row) all = (All-head P argument row all, each P row (All-tail P argument row all))

pub all : (P : Argument → Type 0) (row : List Argument) → Each P row → All P row
all P [] each = All-nil P
all P (argument ∷ row) each = All-cons P argument row each.0 (all P row each.1)

pub each_more : (P Q : Argument → Type 0) (row : List Argument) → ((argument : Argument) → P argument → Q argument)
    → Each P row → Each Q row
each_more P Q [] more each = tt
each_more P Q (argument ∷ row) more each = (more argument each.0, each_more P Q row more each.1)

pub each_both : (P Q R : Argument → Type 0) (row : List Argument)
    → ((argument : Argument) → P argument → Q argument → R argument) → Each P row → Each Q row → Each R row
each_both P Q R [] both one other = tt
each_both P Q R (argument ∷ row) both one other =
    (both argument one.0 other.0, each_both P Q R row both one.1 other.1)

-- no argument has a fault
abbrev pub IsFaultless : Values → Argument → Type 0
IsFaultless values argument = argument_fault values argument ≡ None

pub faultless : (values : Values) (row : List Argument) → Each (IsFaultless values) row → first_fault values row ≡ None
faultless values [] each = refl
faultless values (argument ∷ row) each = rw each.0 (faultless values row each.1)

both_none : (one other : Option WordsFault) → option_or one other ≡ None → (one ≡ None) × (other ≡ None)
both_none None other e = (refl, e)
both_none (Some fault) other e = absurd cc

pub no_fault : (values : Values) (row : List Argument) → first_fault values row ≡ None → Each (IsFaultless values) row
no_fault values [] none = tt
no_fault values (argument ∷ row) none =
    let t = both_none (argument_fault values argument) (first_fault values row) none in
    (t.0, no_fault values row t.1)

-- the first fault of two rows
append_fault : (values : Values) (one other : List Argument)
    → first_fault values (one ++ other) ≡ option_or (first_fault values one) (first_fault values other)
append_fault values [] other = refl
append_fault values (argument ∷ one) other =
    ap (option_or (argument_fault values argument)) (append_fault values one other)
    ∙ either (argument_fault values argument)
  where
    either : (found : Option WordsFault)
        → option_or found (option_or (first_fault values one) (first_fault values other))
        ≡ option_or (option_or found (first_fault values one)) (first_fault values other)
    either None = refl
    either (Some fault) = refl

-- so many arguments have no fault, and the next has this one
pub fault_at : (values : Values) (row : List Argument) (n : ℕ) (last : Argument) (fault : WordsFault)
    → n < length row → first_fault values (take n row) ≡ None
    → argument_fault values (get_or row n last) ≡ Some fault → first_fault values row ≡ Some fault
fault_at values row n last fault lt none is =
    let next = get_or row n last in
    ap (first_fault values) (sym (take-append-drop n row) ∙ ap (λ l. take n row ++ l) (drop_more row n last lt))
    ∙ append_fault values (take n row) (next ∷ drop (n + 1) row)
    ∙ ap (λ f. option_or f (option_or (argument_fault values next) (first_fault values (drop (n + 1) row)))) none
    ∙ ap (λ f. option_or f (first_fault values (drop (n + 1) row))) is

-- and the next has none
pub no_fault_at : (values : Values) (row : List Argument) (n : ℕ) (last : Argument) → n < length row
    → first_fault values (take n row) ≡ None → argument_fault values (get_or row n last) ≡ None
    → first_fault values (take (n + 1) row) ≡ None
no_fault_at values row n last lt none is =
    ap (first_fault values) (take_more row n last lt)
    ∙ append_fault values (take n row) (get_or row n last ∷ [])
    ∙ ap (λ f. option_or f (option_or (argument_fault values (get_or row n last)) None)) none
    ∙ ap (λ f. option_or f None) is

-- an argument that has no fault is good
pub faultless_good : (values : Values) (argument : Argument) → IsFaultless values argument → IsGood values argument
faultless_good values (Required option) none = value_says option (values.words option) (given_of values) (says_value values option none)
faultless_good values (Optional option) none = value_says option (values.words option) (given_of values) (says_value values option none)
faultless_good values (Flag flag) none = tt
faultless_good values Pairs none = (pairs_of values.pairs, pairs_named values.pairs (no_bad (bad_pair values.pairs) none))

-- the first fault of a row is that of its first argument with one
pub first_is : (values : Values) (row : List Argument) (fault : WordsFault) → first_fault values row ≡ Some fault
    → IsFirstFault values row fault
first_is values [] fault e = absurd cc
first_is values (argument ∷ row) fault e =
    by_fault (argument_fault values argument) refl (first_is values row fault) e
  where
    by_fault : (found : Option WordsFault) → argument_fault values argument ≡ found
        → (first_fault values row ≡ Some fault → IsFirstFault values row fault)
        → option_or found (first_fault values row) ≡ Some fault → IsFirstFault values (argument ∷ row) fault
    by_fault (Some other) is more e =
        let same : other ≡ fault = cc in
        record {
          before = [];
          bad = argument;
          behind = row;
          are = refl;
          good = All-nil (IsGood values);
          has = fault_has values argument fault (is ∙ ap (λ f. Some f) same);
        }
    by_fault None is more e =
        let rest = more e in
        record {
          before = argument ∷ rest.before;
          bad = rest.bad;
          behind = rest.behind;
          are = ap (λ l. argument ∷ l) rest.are;
          good = All-cons (IsGood values) argument rest.before (faultless_good values argument is) rest.good;
          has = rest.has;
        }

first_of_all : (values : Values) (before : List Argument) (bad : Argument) (behind : List Argument) (fault : WordsFault)
    → Each (IsGood values) before → ArgumentHasFault values fault bad → first_fault values (before ++ bad ∷ behind) ≡ Some fault
first_of_all values [] bad behind fault good has = ap (λ f. option_or f (first_fault values behind)) (has_fault values bad fault has)
first_of_all values (argument ∷ before) bad behind fault good has =
    ap (λ f. option_or f (first_fault values (before ++ bad ∷ behind))) (good_fault values argument good.0)
    ∙ first_of_all values before bad behind fault good.1 has

pub is_first : (values : Values) (row : List Argument) (fault : WordsFault) → IsFirstFault values row fault
    → first_fault values row ≡ Some fault
is_first values row fault f =
    ap (first_fault values) f.are
    ∙ first_of_all values f.before f.bad f.behind fault (each (IsGood values) f.before f.good) f.has
