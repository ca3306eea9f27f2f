use Rattle.std.proofs.Common.{◌∙◌, ℕ, List, sym, ap, subst, map}
use Rattle.std.proofs.lemmas.Result.{err_from_is_err_and}
use Rattle.std.specs.Prelude.{Some, Result, Ok, Err}
use Rattle.clap.specs.Faults.{fault_of}
use Rattle.clap.specs.Simple.{matches_of}
use Rattle.clap.specs.declared.parser.matches.ArgMatches.{ArgMatches}
use Rattle.esdk_args.specs.declared.commands.CommandName.{CommandName}
use Rattle.esdk_args.specs.declared.request.Request.{Request}
use Rattle.esdk_args.specs.declared.request.WordsFault.{WordsFault}
use Rattle.esdk_args.specs.declared.request.WordsFault.TheVariants.{NotRead, BadNumber, BadPair, Memory}
use Rattle.esdk_args.specs.Commands.{app_of_command}
use Rattle.esdk_args.specs.Faults.{AnswersWords}
use Rattle.esdk_args.specs.Found.{Parses}
use Rattle.esdk_args.specs.Values.{values_in, values_of}
use Rattle.esdk_args.specs.Words.{read_behind, request_of_words, unless_words_refused}
use Rattle.esdk_args.proofs.Readings.{refused_with}
use Rattle.esdk_args.proofs.words.read_behind.Goals as goal

parse_fails : (name : CommandName) (words : List (List ℕ)) (fault : WordsFault) → Parses name words (Err fault) → AnswersWords {A = Request} (Err fault) (read_behind (Some name) words)
parse_fails name words NotRead some = refused_with (fault_of (app_of_command name) words) (request_of_words name (values_in (matches_of (app_of_command name) words))) some
parse_fails name words (BadNumber option) bad = absurd bad
parse_fails name words (BadPair n) bad = absurd bad
parse_fails name words Memory none = tt

parsed : (name : CommandName) (words : List (List ℕ)) (m : ArgMatches) (r : Result Request WordsFault) → Parses name words (Ok m) → AnswersWords r (request_of_words name (values_of m))
    → AnswersWords r (read_behind (Some name) words)
parsed name words m r p answers =
    subst (AnswersWords r) (ap (λ rows. request_of_words name (values_in rows)) p.1 ∙ sym (ap (λ kinds. unless_words_refused kinds (request_of_words name (values_in (matches_of (app_of_command name) words)))) p.0)) answers

pub returns : goal.returns
returns c = parsed c.args.name (map (λ w. w.now) c.args.words.now) c.in_ok-matches.matches c.request.result c.in_ok-matches.ensures c.request.ensures

pub returns-in_err-matches : goal.returns-in_err-matches
returns-in_err-matches c =
    let p = err_from_is_err_and c.from_residual.result c.from_residual.ensures.1 in
    rw (p.1, p.2) (parse_fails c.args.name (map (λ w. w.now) c.args.words.now) c.in_err-matches.field-0.0 c.in_err-matches.ensures)
