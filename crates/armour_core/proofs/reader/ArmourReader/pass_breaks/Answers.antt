use Rattle.std.proofs.Common.{◌≡◌, length, slice_index, false, refl, sym, ap, subst, ◌<◌, ◌∙◌, arith}
use Rattle.armour_core.specs.Unarmoured.{is_character}
use Rattle.armour_core.proofs.ReadAtOnce.{break_passed}
use Rattle.armour_core.proofs.reader.ArmourReader.pass_breaks.Goals as goal

pub loop-self-preserved : goal.loop-self-preserved
loop-self-preserved c =
    let r = c.loop-self.self in
    let within : r.at < length r.pieces.piece = subst (λ p. r.at < length p) c.piece.ensures c.loop-self-test.true in
    let passed : is_character (slice_index r.pieces.piece r.at) ≡ false =
    ap (λ p. is_character (slice_index p r.at)) (sym c.piece-in-loop-self.ensures) ∙ sym c.is_character.ensures ∙ c.if-is_character.false in record {
      outlook = λ text. break_passed r _ text within passed refl refl refl refl refl ∙ c.loop-self.invariant.outlook text;
      pieces = c.loop-self.invariant.pieces;
      ending = c.loop-self.invariant.ending;
      later = omega (arith, c.loop-self.invariant.later);
    }
