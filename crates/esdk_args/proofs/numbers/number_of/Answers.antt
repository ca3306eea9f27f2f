use Rattle.std.proofs.Common.{sym, arith}
use Rattle.esdk_args.proofs.Parsed.{in_range, out_of_range, parsed_value, too_great, unparsed_value}
use Rattle.esdk_args.proofs.numbers.number_of.Goals as goal

pub returns-in-Ok-clause-read : goal.returns-in-Ok-clause-read
returns-in-Ok-clause-read c =
    let numeral = c.if-not-is_numeral.ensures in
    let value = parsed_value c.args.word.now c.in-Ok.number (sym numeral) c.in-Ok.ensures.value.0 in
    sym (in_range c.args.name c.args.word.now c.in-Ok.number (sym numeral) value (omega (arith, c.if-least-number.true, c.least.ensures)) (omega (arith, c.if-number-greatest.true, c.greatest.ensures)))

pub returns-in_default-clause-read : goal.returns-in_default-clause-read
returns-in_default-clause-read c =
    let value = parsed_value c.args.word.now c.in-Ok.number (sym c.if-not-is_numeral.ensures) c.in-Ok.ensures.value.0 in
    sym (out_of_range c.args.name c.args.word.now c.in-Ok.number value (λ r. omega (arith, r.1, c.if-number-greatest.false, c.greatest.ensures)))

pub returns-in_default-2-clause-read : goal.returns-in_default-2-clause-read
returns-in_default-2-clause-read c =
    let value = parsed_value c.args.word.now c.in-Ok.number (sym c.if-not-is_numeral.ensures) c.in-Ok.ensures.value.0 in
    sym (out_of_range c.args.name c.args.word.now c.in-Ok.number value (λ r. omega (arith, r.0, c.if-least-number.false, c.least.ensures)))

pub returns-in_default-3-clause-read : goal.returns-in_default-3-clause-read
returns-in_default-3-clause-read c =
    sym (too_great c.args.name c.args.word.now (unparsed_value c.args.word.now c.in_default.field-0 (sym c.if-not-is_numeral.ensures) c.in_default.ensures.value.0))
