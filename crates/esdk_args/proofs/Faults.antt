-- Which words have which fault.
use Rattle.std.proofs.Common.{◌≡◌, ◌≢◌, ◌∙◌, ℕ, List, sym, ap, inl, inr}
use Rattle.std.specs.Prelude.{Option, Some, None, Err}
use Rattle.esdk_args.specs.declared.commands.Argument.{Argument}
use Rattle.esdk_args.specs.declared.commands.Argument.TheVariants.{Required, Optional, Flag, Pairs}
use Rattle.esdk_args.specs.declared.options.ValueOption.TheVariants.{Name, Number}
use Rattle.esdk_args.specs.declared.request.Request.{Request}
use Rattle.esdk_args.specs.declared.request.WordsFault.{WordsFault}
use Rattle.esdk_args.specs.declared.request.WordsFault.TheVariants.{NotRead, Memory}
use Rattle.esdk_args.specs.Commands.{arguments}
use Rattle.esdk_args.specs.Spelling.{AreNotRead, ArgumentHasFault, HaveFault}
use Rattle.esdk_args.specs.Building.{request_from}
use Rattle.esdk_args.specs.Values.{Values, first_fault, given_of}
use Rattle.esdk_args.specs.Words.{unless_faulty, words_of}
use Rattle.esdk_args.proofs.Arguments.{first_is, is_first}
use Rattle.esdk_args.proofs.Readings.{Kind, kind, of_none, of_refused, of_taken, reads_none, reads_refused, reads_taken}

faulty : (found : Option WordsFault) (request : Request) (fault : WordsFault) → unless_faulty found request ≡ Err fault → found ≡ Some fault
faulty None request fault e = absurd cc
faulty (Some other) request fault e = ap (λ f. Some f) (cc e)

-- what words with a fault are
data AreFaulty (words : List (List ℕ)) (fault : WordsFault) : Type 0 where
  not_read : AreNotRead words → NotRead ≡ fault → AreFaulty words fault
  taken : HaveFault words fault → AreFaulty words fault

are_faulty : (words : List (List ℕ)) (fault : WordsFault) → words_of words ≡ Err fault → AreFaulty words fault
are_faulty words fault e = by_kind (kind words)
  where
    by_kind : Kind words → AreFaulty words fault
    by_kind (of_taken name values form is) = taken (record {
      name = name;
      values = values;
      taken = form;
      first = first_is values (arguments name) fault
          (faulty (first_fault values (arguments name)) (request_from name (given_of values)) fault (sym is ∙ e));
    })
    by_kind (of_refused refused is) = not_read (inr refused) (cc (sym is ∙ e))
    by_kind (of_none none is) = not_read (inl none) (cc (sym is ∙ e))

-- no argument has another fault
no_refusal : (values : Values) (argument : Argument) → ArgumentHasFault values NotRead argument → ⊥
no_refusal values (Required (Name option)) has = has
no_refusal values (Required (Number option)) has = has
no_refusal values (Optional (Name option)) has = has
no_refusal values (Optional (Number option)) has = has
no_refusal values (Flag flag) has = has
no_refusal values Pairs has = has

no_want : (values : Values) (argument : Argument) → ArgumentHasFault values Memory argument → ⊥
no_want values (Required (Name option)) has = has
no_want values (Required (Number option)) has = has
no_want values (Optional (Name option)) has = has
no_want values (Optional (Number option)) has = has
no_want values (Flag flag) has = has
no_want values Pairs has = has

-- ---- nothing is read

pub not_read_is : (words : List (List ℕ)) → words_of words ≡ Err NotRead → AreNotRead words
not_read_is words e = by_fault (are_faulty words NotRead e)
  where
    by_fault : AreFaulty words NotRead → AreNotRead words
    by_fault (not_read not is) = not
    by_fault (taken have) = absurd (no_refusal have.values have.first.bad have.first.has)

pub not_read_when : (words : List (List ℕ)) → AreNotRead words → words_of words ≡ Err NotRead
not_read_when words (inl none) = reads_none words none
not_read_when words (inr refused) = reads_refused words refused

-- ---- a fault of words that `clap` takes

pub fault_is : (words : List (List ℕ)) (fault : WordsFault) → fault ≢ NotRead → words_of words ≡ Err fault → HaveFault words fault
fault_is words fault other e = by_fault (are_faulty words fault e)
  where
    by_fault : AreFaulty words fault → HaveFault words fault
    by_fault (not_read none is) = absurd (other (sym is))
    by_fault (taken have) = have

pub fault_named : (words : List (List ℕ)) (fault : WordsFault) → HaveFault words fault → words_of words ≡ Err fault
fault_named words fault h =
    reads_taken h.name words h.values h.taken
    ∙ ap (λ found. unless_faulty found (request_from h.name (given_of h.values))) (is_first h.values (arguments h.name) fault h.first)

-- ---- want of memory

pub never_memory : (words : List (List ℕ)) → words_of words ≢ Err Memory
never_memory words e = by_fault (are_faulty words Memory e)
  where
    by_fault : AreFaulty words Memory → ⊥
    by_fault (not_read none is) = cc
    by_fault (taken have) = no_want have.values have.first.bad have.first.has
