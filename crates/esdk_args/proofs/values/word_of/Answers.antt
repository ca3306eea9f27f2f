use Rattle.std.proofs.Common.{◌∙◌, ap}
use Rattle.clap.specs.Matches.{first_value, found_of}
use Rattle.clap.proofs.WalkLemmas.{first_value-rows}
use Rattle.esdk_args.specs.Options.{value_name}
use Rattle.esdk_args.proofs.values.word_of.Goals as goal

pub returns : goal.returns
returns c =
    let found = found_of c.args.matches.now in
    c.get_str.ensures ∙ ap (first_value found) c.value_name.ensures
    ∙ first_value-rows found (value_name c.args.option)
