use Rattle.std.proofs.Common.{sym, ap, subst, ◌∙◌}
use Rattle.keyring_file.specs.Found.{FindsKey}
use Rattle.keyring_file.specs.KeyLine.{parts_in}
use Rattle.keyring_file.proofs.Lines.{found_key, not_text, three_of_text}
use Rattle.keyring_file.proofs.key_line.key_line.Goals as goal

pub returns-in_default-clause-read : goal.returns-in_default-clause-read
returns-in_default-clause-read c = not_text c.args.bytes.now c.in_default.ensures.cases.0

pub returns-clause-read : goal.returns-clause-read
returns-clause-read c =
    subst (FindsKey c.key_of_parts.result)
    (sym (three_of_text c.args.bytes.now _ _ _ c.in-Ok.ensures.cases.1 (ap parts_in (sym c.in-Ok.ensures.cases.0) ∙ c.in-Some.ensures)))
    c.key_of_parts.ensures

pub returns-clause-key : goal.returns-clause-key
returns-clause-key c = found_key c.args.bytes.now c.key_of_parts.result (returns-clause-read c)
