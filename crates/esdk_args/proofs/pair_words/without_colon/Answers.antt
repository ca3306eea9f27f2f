use Rattle.std.proofs.Common.{sym, arith}
use Rattle.std.specs.Prelude.{None}
use Rattle.std.proofs.lemmas.Str.Pattern.{strip_suffix_char}
use Rattle.esdk_args.proofs.Splits.{ends_no, strip_no}
use Rattle.esdk_args.proofs.pair_words.without_colon.Goals as goal

pub returns-in-None-clause-key : goal.returns-in-None-clause-key
returns-in-None-clause-key c =
    let text = c.args.text.now in
    sym (strip_no text (strip_suffix_char 58 text None c.in-None.ensures.cases (omega arith)))

pub returns-in-None-clause-required : goal.returns-in-None-clause-required
returns-in-None-clause-required c =
    let text = c.args.text.now in
    sym (ends_no text (strip_suffix_char 58 text None c.in-None.ensures.cases (omega arith)))
