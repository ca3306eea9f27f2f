use Rattle.std.proofs.Common.{◌*◌, take, refl, sym, ap, ◌∙◌, arith}
use Rattle.std.proofs.lemmas.List.{length-take-le}
use Rattle.armour_core.specs.Outlook.{with_front}
use Rattle.armour_core.proofs.Readers.{fits_bytes, slice_is}
use Rattle.armour_core.proofs.Sixes.{below_front}
use Rattle.armour_core.proofs.ReadAtOnce.{groups_read_at}
use Rattle.armour_core.proofs.reader.ArmourReader.read_groups.Goals as goal

pub returns-clause-outlook : goal.returns-clause-outlook
returns-clause-outlook c = λ text.
    let r = c.args.self.now in
    let may = c.if-not-may_read_groups.ensures in
    let k = c.put_groups-groups.result in
    let out = c.put_groups-groups.new.bytes in
    let good = c.put_groups-groups.ensures.groups ∙ ap (take (4 * k)) (slice_is r c.piece.result.now c.piece.ensures) in
    let size = length-take-le (3 * k) out (omega (arith, c.put_groups-groups.ensures.room, c.put_groups-groups.auto.bytes)) in
    groups_read_at r _ k (take (3 * k) out) text (may.read refl).0 (may.read refl).1 (may.between refl).0 (may.between refl).1 good (below_front (3 * k) out (fits_bytes out c.type_inv.out)) size
    refl refl refl refl (record { number = c.pass_groups.ensures.number; group = c.pass_groups.ensures.group; given = c.pass_groups.ensures.given })
    ∙ ap (with_front (take (3 * k) out)) (sym (c.pass_breaks.ensures.outlook text))
