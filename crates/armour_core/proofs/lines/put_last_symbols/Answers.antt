use Rattle.std.proofs.Common.{length, ap, ◌∙◌, arith}
use Rattle.std.proofs.lemmas.List.{length-map}
use Rattle.std.proofs.lemmas.Simd.{length-chunk}
use Rattle.armour_core.specs.Sextets.{symbols_of}
use Rattle.armour_core.proofs.Written.{last_put}
use Rattle.armour_core.proofs.lines.put_last_symbols.Goals as goal

pub last_twelve-twelve-requires : goal.last_twelve-twelve-requires
last_twelve-twelve-requires c = length-chunk 41 16 c.args.bytes.now (omega (arith, c.requires.full))

pub returns : goal.returns
returns c =
    last_put c.args.bytes.now c.args.text.now c.last_twelve-twelve.result c.symbols.result c.requires.full c.requires.room c.requires.front c.last_twelve-twelve.ensures.twelve
    (c.symbols.ensures ∙ ap symbols_of c.sextets.ensures.numbers) (ap length c.symbols.ensures ∙ length-map c.sextets.result _ ∙ c.sextets.ensures.long)
