-- A third space makes a fourth part.
use Rattle.std.proofs.Common.{◌∷◌, sym, ap, ◌∙◌}
use Rattle.keyring_file.specs.KeyLine.{parts_in, space_parts}
use Rattle.keyring_file.proofs.Splitting.{fourth_part}
use Rattle.keyring_file.proofs.key_line.parts_of.Goals as goal

pub returns-in-Some : goal.returns-in-Some
returns-in-Some c =
    fourth_part (parts_in c.args.text.now) c.in_ok-namespace.namespace.now c.in_ok-name.name.now c.in-Some._more.0.now c.in-Some._more.1.now
    (ap space_parts (sym c.line_of.ensures) ∙ c.in_ok-namespace.ensures
    ∙ ap (λ parts. c.in_ok-namespace.namespace.now ∷ parts) (c.in_ok-name.ensures ∙ ap (λ parts. c.in_ok-name.name.now ∷ parts) c.in-Some.ensures))
