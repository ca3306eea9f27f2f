use Rattle.std.proofs.Common.{length, ap, ◌∙◌}
use Rattle.std.proofs.lemmas.List.{length-map}
use Rattle.armour_core.specs.Sextets.{symbols_of}
use Rattle.armour_core.proofs.Written.{twelve_put}
use Rattle.armour_core.proofs.lines.put_symbols.Goals as goal

pub returns : goal.returns
returns c =
    twelve_put c.args.bytes.now c.args.text.now c.symbols.result c.args.from c.args.to c.requires.within c.requires.room c.requires.groups c.requires.front
    (c.symbols.ensures ∙ ap symbols_of c.sextets.ensures.numbers) (ap length c.symbols.ensures ∙ length-map c.sextets.result _ ∙ c.sextets.ensures.long)
