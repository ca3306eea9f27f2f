use Rattle.std.proofs.Common.{◌∙◌, ap}
use Rattle.clap.specs.Matches.{found_of, matched_of}
use Rattle.std.specs.Prelude.{option_and_then}
use Rattle.clap.specs.declared.parser.matches.MatchedArg.{MatchedArg}
use Rattle.esdk_args.specs.Options.{flag_name}
use Rattle.esdk_args.specs.Values.{is_from_words}
use Rattle.esdk_args.proofs.Rows.{source_rows}
use Rattle.esdk_args.proofs.values.is_given.Goals as goal

pub returns : goal.returns
returns c =
    let found = found_of c.args.matches.now in
    c.is_from_words.ensures ∙ ap is_from_words (c.value_source.ensures
    ∙ ap (λ id. option_and_then (λ (a : MatchedArg). a.source) (matched_of found id)) c.flag_name.ensures
    ∙ source_rows found (flag_name c.args.flag))
