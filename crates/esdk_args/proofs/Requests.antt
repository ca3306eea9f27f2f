-- Which words ask for which request.
use Rattle.std.proofs.Common.{◌≡◌, ◌∙◌, ℕ, List, [], ◌∷◌, refl, sym, ap}
use Rattle.std.specs.Prelude.{Option, Some, None, Ok, Err, option_and_then, option_map}
use Rattle.std.specs.List.{flat_map}
use Rattle.std.specs.Option.{option_or}
use Rattle.clap.specs.Words.{matches_of}
use Rattle.esdk_args.specs.declared.commands.Argument.{Argument}
use Rattle.esdk_args.specs.declared.commands.Argument.TheVariants.{Required, Optional, Flag, Pairs}
use Rattle.esdk_args.specs.declared.commands.CommandName.{CommandName}
use Rattle.esdk_args.specs.declared.commands.CommandName.TheVariants as commands
use Rattle.esdk_args.specs.declared.options.ValueOption.TheVariants.{Name, Number}
use Rattle.esdk_args.specs.declared.request.Request.{Request}
use Rattle.esdk_args.specs.declared.request.WordsFault.{WordsFault}
use Rattle.esdk_args.specs.declared.request.WordsFault.TheVariants.{NotRead, BadPair}
use Rattle.esdk_args.specs.Commands.{app_of_command, arguments}
use Rattle.esdk_args.specs.Numbers.{option_number}
use Rattle.esdk_args.specs.PairWords.{bad_pair, pairs_of}
use Rattle.esdk_args.specs.Plain.{AreForm, ArgumentIsPlain, argument_words}
use Rattle.esdk_args.specs.Spelling.{Asks, Says}
use Rattle.esdk_args.specs.Building.{request_from}
use Rattle.esdk_args.specs.Values.{Given, Values, argument_fault, first_fault, given_of, value_fault, values_in}
use Rattle.esdk_args.specs.Words.{request_of_words, unless_faulty, words_of}
use Rattle.esdk_args.proofs.Arguments.{Agree, Each, IsFaultless, IsThere, all, each, each_both, each_more, fault_says, faultless, good_fault, no_fault, says_agree, says_good}
use Rattle.esdk_args.proofs.Ends.{Same}
use Rattle.esdk_args.proofs.Plains.{taken_plain}
use Rattle.esdk_args.proofs.Readings.{Kind, kind, of_none, of_refused, of_taken, reads_taken}
use Rattle.esdk_args.proofs.Required.{taken_there}

-- ---- a request is made of what the row's arguments give

from_same : (name : CommandName) (one other : Given) → Each (Agree one other) (arguments name)
    → request_from name one ≡ request_from name other
from_same commands.List one other same = cc
from_same name one other same = cc

-- ---- requests

made : (found : Option WordsFault) (request asked : Request) → unless_faulty found request ≡ Ok asked
    → (found ≡ None) × (request ≡ asked)
made None request asked e = (refl, cc)
made (Some fault) request asked e = absurd cc

unlike : {request : Request} → Err NotRead ≡ Ok request → ⊥
unlike e = cc

-- words that are read as a request ask for it
pub request_asks : (words : List (List ℕ)) (request : Request) → words_of words ≡ Ok request → Asks words request
request_asks words request e = by_kind (kind words)
  where
    by_kind : Kind words → Asks words request
    by_kind (of_taken name values form is) =
        let row = arguments name in
        let t = made (first_fault values row) (request_from name (given_of values)) request (sym is ∙ e) in
        record {
          name = name;
          values = values;
          given = given_of values;
          taken = form;
          says = all (Says values (given_of values)) row
              (each_both (IsThere values) (IsFaultless values) (Says values (given_of values)) row (fault_says values)
              (taken_there name words values form) (no_fault values row t.0));
          is = t.1;
        }
    by_kind (of_refused refused is) = absurd (unlike (sym is ∙ e))
    by_kind (of_none none is) = absurd (unlike (sym is ∙ e))

-- words that ask for a request are read as it
pub request_is_read : (words : List (List ℕ)) (request : Request) → Asks words request → words_of words ≡ Ok request
request_is_read words request a =
    let row = arguments a.name in
    let says = each (Says a.values a.given) row a.says in
    reads_taken a.name words a.values a.taken
    ∙ ap (λ found. unless_faulty found (request_from a.name (given_of a.values)))
    (faultless a.values row (each_more (Says a.values a.given) (IsFaultless a.values) row
    (λ argument s. good_fault a.values argument (says_good a.values a.given argument s)) says))
    ∙ ap Ok (from_same a.name (given_of a.values) a.given
    (each_more (Says a.values a.given) (Agree (given_of a.values) a.given) row (says_agree a.values a.given) says) ∙ a.is)

-- ---- the plain form

-- the same values have the same faults, and give the same
same_argument : (one other : Values) (argument : Argument) → Same one other argument
    → argument_fault one argument ≡ argument_fault other argument
same_argument one other (Required option) same = ap (value_fault option) same
same_argument one other (Optional option) same = ap (value_fault option) same
same_argument one other (Flag flag) same = refl
same_argument one other Pairs same = ap (λ words. option_map (λ n. BadPair n) (bad_pair words)) same

same_fault : (one other : Values) (row : List Argument) → Each (Same one other) row
    → first_fault one row ≡ first_fault other row
same_fault one other [] same = refl
same_fault one other (argument ∷ row) same =
    ap (λ f. option_or f (first_fault one row)) (same_argument one other argument same.0)
    ∙ ap (option_or (argument_fault other argument)) (same_fault one other row same.1)

same_given : (one other : Values) (argument : Argument) → Same one other argument
    → Agree (given_of one) (given_of other) argument
same_given one other (Required (Name option)) same = same
same_given one other (Required (Number option)) same = ap (option_and_then (option_number option)) same
same_given one other (Optional (Name option)) same = same
same_given one other (Optional (Number option)) same = ap (option_and_then (option_number option)) same
same_given one other (Flag flag) same = same
same_given one other Pairs same = ap pairs_of same

same_request : (name : CommandName) (one other : Values) → Each (Same one other) (arguments name)
    → request_of_words name one ≡ request_of_words name other
same_request name one other same =
    ap (λ f. unless_faulty f (request_from name (given_of one))) (same_fault one other (arguments name) same)
    ∙ ap (unless_faulty (first_fault other (arguments name))) (from_same name (given_of one) (given_of other)
    (each_more (Same one other) (Agree (given_of one) (given_of other)) (arguments name) (same_given one other) same))

-- words in the plain form ask for what their values ask for
pub plain_is_read : (name : CommandName) (words : List (List ℕ)) (values : Values) → AreForm name words values
    → words_of words ≡ request_of_words name values
plain_is_read name words values form =
    let behind = flat_map (argument_words values) (arguments name) in
    let t = taken_plain name values (each (ArgumentIsPlain values) (arguments name) form.plain) in
    let found = values_in (matches_of (app_of_command name) behind) in
    reads_taken name words found (record { behind = behind; are = form.are; taken = t.taken; values_are = refl })
    ∙ same_request name found values t.same
