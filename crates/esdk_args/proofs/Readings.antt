-- What words are: their command, and what `clap` says of those behind it.
use Rattle.std.proofs.Common.{◌≡◌, ◌≢◌, ℕ, List, [], ◌∷◌, refl, sym, ap, ◌∙◌}
use Rattle.std.specs.Prelude.{Bool, true, false, find, Option, Some, None, Result, Err, if◌then◌else◌}
use Rattle.std.specs.Str.{bytes_eq}
use Rattle.std.proofs.lemmas.Slice.Eq.{bytes_eq-Decides}
use Rattle.clap.specs.Words.{Kinds, fault_of, matches_of}
use Rattle.esdk_args.specs.declared.commands.CommandName.{CommandName}
use Rattle.esdk_args.specs.declared.request.Request.{Request}
use Rattle.esdk_args.specs.declared.request.WordsFault.{WordsFault}
use Rattle.esdk_args.specs.declared.request.WordsFault.TheVariants.{NotRead}
use Rattle.esdk_args.specs.Commands.{app_of_command, command_named, command_text, every_command}
use Rattle.esdk_args.specs.Spelling.{AreRefused, AreTaken, NameNoCommand}
use Rattle.esdk_args.specs.Values.{Values, values_in}
use Rattle.esdk_args.specs.Words.{read_behind, request_of_words, unless_words_refused, words_of}
use Rattle.esdk_args.proofs.Table.{named_back}

-- ---- the command that words name

-- what is found does pass
found_does : {X : Type 0} (test : X → Bool) (xs : List X) (found : X) → find test xs ≡ Some found
    → test found ≡ true
found_does test [] found e = absurd cc
found_does test (x ∷ xs) found e = pick (test x) refl (found_does test xs found) e
  where
    pick : (b : Bool) → test x ≡ b → (find test xs ≡ Some found → test found ≡ true)
        → (if b then Some x else find test xs) ≡ Some found → test found ≡ true
    pick true here rest e = let same : x ≡ found = cc in ap test (sym same) ∙ here
    pick false here rest e = rest e

-- a word that names a command is its word
named_is : (word : List ℕ) (name : CommandName) → command_named word ≡ Some name
    → word ≡ command_text name
named_is word name e = (bytes_eq-Decides word (command_text name)).0
    (found_does (λ other. bytes_eq word (command_text other)) every_command name e)

-- ---- what words are

-- words that begin with a command are read by it
reads : (words behind : List (List ℕ)) (name : CommandName) → words ≡ command_text name ∷ behind
    → words_of words ≡ unless_words_refused (fault_of (app_of_command name) behind)
    (request_of_words name (values_in (matches_of (app_of_command name) behind)))
unfolding words_of
reads words behind name are = ap words_of are ∙ ap (λ found. read_behind found behind) (named_back name)

-- words that `clap` takes ask for what their values ask for
pub reads_taken : (name : CommandName) (words : List (List ℕ)) (values : Values) → AreTaken name words values
    → words_of words ≡ request_of_words name values
reads_taken name words values form =
    reads words form.behind name form.are
    ∙ ap (λ kinds. unless_words_refused kinds (request_of_words name (values_in (matches_of (app_of_command name) form.behind)))) form.taken
    ∙ ap (request_of_words name) form.values_are

pub refused_with : (kinds : Kinds) (request : Result Request WordsFault) → kinds ≢ [] → unless_words_refused kinds request ≡ Err NotRead
refused_with [] request some = absurd (some refl)
refused_with (kind ∷ more) request some = refl

-- words that `clap` refuses ask for nothing
pub reads_refused : (words : List (List ℕ)) → AreRefused words → words_of words ≡ Err NotRead
reads_refused words r =
    reads words r.behind r.name r.are
    ∙ refused_with (fault_of (app_of_command r.name) r.behind)
    (request_of_words r.name (values_in (matches_of (app_of_command r.name) r.behind))) r.refused

-- what words are
pub data Kind (words : List (List ℕ)) : Type 0 where
  of_taken : (name : CommandName) (values : Values) → AreTaken name words values → words_of words ≡ request_of_words name values → Kind words
  of_refused : AreRefused words → words_of words ≡ Err NotRead → Kind words
  of_none : NameNoCommand words → words_of words ≡ Err NotRead → Kind words

command_kind : (words behind : List (List ℕ)) (name : CommandName) (kinds : Kinds) → words ≡ command_text name ∷ behind
    → fault_of (app_of_command name) behind ≡ kinds → Kind words
command_kind words behind name [] are taken =
    let values = values_in (matches_of (app_of_command name) behind) in
    let form : AreTaken name words values = record { behind = behind; are = are; taken = taken; values_are = refl } in
    of_taken name values form (reads_taken name words values form)
command_kind words behind name (kind ∷ more) are is =
    let refused : AreRefused words = record { name = name; behind = behind; are = are; refused = λ none. some (sym is ∙ none) } in
    of_refused refused (reads_refused words refused)
  where
    some : kind ∷ more ≡ [] → ⊥
    some e = cc

word_kind : (word : List ℕ) (behind : List (List ℕ)) (found : Option CommandName) → command_named word ≡ found → Kind (word ∷ behind)
unfolding words_of
word_kind word behind None is =
    of_none (λ name rest are. unlike name (sym is ∙ ap command_named (first are) ∙ named_back name)) (ap (λ found. read_behind found behind) is)
  where
    first : {rest : List (List ℕ)} {text : List ℕ} → word ∷ behind ≡ text ∷ rest → word ≡ text
    first are = cc

    unlike : (name : CommandName) → None ≡ Some name → ⊥
    unlike name e = cc
word_kind word behind (Some name) is =
    command_kind (word ∷ behind) behind name (fault_of (app_of_command name) behind) (ap (λ w. w ∷ behind) (named_is word name is)) refl

-- each list of words is of one kind
pub kind : (words : List (List ℕ)) → Kind words
unfolding words_of
kind [] = of_none (λ name behind are. unlike are) refl
  where
    unlike : {word : List ℕ} {behind : List (List ℕ)} → [] ≡ word ∷ behind → ⊥
    unlike e = cc
kind (word ∷ behind) = word_kind word behind (command_named word) refl

-- words that begin with no command ask for nothing
pub reads_none : (words : List (List ℕ)) → NameNoCommand words → words_of words ≡ Err NotRead
reads_none words none = by_kind (kind words)
  where
    by_kind : Kind words → words_of words ≡ Err NotRead
    by_kind (of_taken name values form is) = absurd (none name form.behind form.are)
    by_kind (of_refused refused is) = is
    by_kind (of_none other is) = is
