use Rattle.std.proofs.Common.{◌≢◌, sym, arith}
use Rattle.std.specs.Prelude.{None}
use Rattle.std.proofs.lemmas.List.Elements.{All-from_get_or}
use Rattle.std.proofs.lemmas.Str.Pattern.{split_parts}
use Rattle.esdk_args.proofs.Splits.{no_value}
use Rattle.esdk_args.proofs.pair_words.split_at_equals.Goals as goal

pub returns-in-None-clause-value : goal.returns-in-None-clause-value
returns-in-None-clause-value c =
    let word = c.args.word.now in
    sym (no_value word (All-from_get_or (λ b. b ≢ 61) word 0 (split_parts 61 word None c.in-None.ensures.cases (omega arith))))
