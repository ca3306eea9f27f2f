use Rattle.std.proofs.Common.{refl, ap, arith, length, take}
use Rattle.std.proofs.lemmas.List.{length-drop}
use Rattle.armour_core.proofs.Taking.{failed_keeps, failed_next, failed_spent, failed_takes, long_keeps, long_takes, piece_keeps, piece_takes, seen_keeps, seen_takes}
use Rattle.armour_core.proofs.reader.ArmourReader.take_text.Goals as goal

pub returns-in-Ok-clause-outlook : goal.returns-in-Ok-clause-outlook
returns-in-Ok-clause-outlook g c =
    piece_keeps (g.S.Source.state c.args.input.now) (g.S.Source.state c.next.new.input) c.args.self.now _ c.next.new.self.piece c.requires.spent c.requires.goes (record { unarmour = refl; handed = refl })
    c.requires.goes refl c.in-Ok.ensures.next.1 c.in-Ok.ensures.next.0.came

pub returns-in-Ok-clause-takes : goal.returns-in-Ok-clause-takes
returns-in-Ok-clause-takes g c =
    piece_takes (g.S.Source.state c.args.input.now) (g.S.Source.state c.next.new.input) c.args.self.now _ c.next.new.self.piece c.requires.spent c.requires.goes (record { unarmour = refl; handed = refl })
    c.requires.goes refl c.in-Ok.ensures.next.1 c.in-Ok.ensures.next.0.fits c.in-Ok.ensures.next.0.came

pub returns-in-Err-Failed-clause-outlook : goal.returns-in-Err-Failed-clause-outlook
returns-in-Err-Failed-clause-outlook g c =
    failed_keeps (g.S.Source.state c.args.input.now) (g.S.Source.state c.next.new.input) c.args.self.now _ c.in-Err-Failed.field-0 c.in-Err-Failed.field-0-is c.in-Err-Failed.ensures.next c.in-Err-Failed.ensures.empty
    c.requires.spent c.requires.goes (record { unarmour = refl; handed = refl }) c.requires.goes

pub returns-in-Err-Failed-clause-takes : goal.returns-in-Err-Failed-clause-takes
returns-in-Err-Failed-clause-takes g c =
    failed_takes (g.S.Source.state c.args.input.now) (g.S.Source.state c.next.new.input) c.args.self.now _ c.in-Err-Failed.field-0 c.in-Err-Failed.field-0-is c.in-Err-Failed.ensures.next c.in-Err-Failed.ensures.empty
    c.requires.spent c.requires.goes (record { unarmour = refl; handed = refl }) c.requires.goes

pub returns-in-Err-Failed-clause-spent : goal.returns-in-Err-Failed-clause-spent
returns-in-Err-Failed-clause-spent g c =
    failed_spent (g.S.Source.state c.args.input.now) (g.S.Source.state c.next.new.input) c.args.self.now _ c.in-Err-Failed.field-0 c.in-Err-Failed.ensures.empty c.requires.spent (record { unarmour = refl; handed = refl }) c.requires.goes

pub returns-in-Err-Failed-clause-failed : goal.returns-in-Err-Failed-clause-failed
returns-in-Err-Failed-clause-failed g c =
    (failed_next (g.S.Source.state c.args.input.now) (g.S.Source.state c.next.new.input) c.args.self.now c.args.self.now c.in-Err-Failed.field-0 c.next.new.self c.in-Err-Failed.field-0-is c.in-Err-Failed.ensures.next).1

pub returns-in-Err-TooLong-clause-outlook : goal.returns-in-Err-TooLong-clause-outlook
returns-in-Err-TooLong-clause-outlook g c =
    long_keeps (g.S.Source.state c.args.input.now) (g.S.Source.state c.next.new.input) c.args.self.now _ c.in-Err-TooLong.field-0 c.in-Err-TooLong.field-0-is c.in-Err-TooLong.ensures.next c.requires.spent c.requires.goes
    (record { unarmour = refl; handed = refl }) refl

pub returns-in-Err-TooLong-clause-takes : goal.returns-in-Err-TooLong-clause-takes
returns-in-Err-TooLong-clause-takes g c =
    long_takes (g.S.Source.state c.args.input.now) (g.S.Source.state c.next.new.input) c.args.self.now _ c.in-Err-TooLong.field-0 c.in-Err-TooLong.field-0-is c.in-Err-TooLong.ensures.next c.requires.spent c.requires.goes
    (record { unarmour = refl; handed = refl }) refl

pub returns-in-Err-Seen-clause-outlook : goal.returns-in-Err-Seen-clause-outlook
returns-in-Err-Seen-clause-outlook g c =
    seen_keeps (g.S.Source.state c.args.input.now) (g.S.Source.state c.next.new.input) c.args.self.now c.end_text.new.self c.in-Err-Seen.field-0 c.next.new.self c.in-Err-Seen.field-0-is c.in-Err-Seen.ensures.next c.requires.spent
    c.requires.goes (λ text. c.end_text.ensures.outlook text)

pub returns-in-Err-Seen-clause-takes : goal.returns-in-Err-Seen-clause-takes
returns-in-Err-Seen-clause-takes g c =
    seen_takes (g.S.Source.state c.args.input.now) (g.S.Source.state c.next.new.input) c.args.self.now c.end_text.new.self c.in-Err-Seen.field-0 c.next.new.self c.in-Err-Seen.field-0-is c.in-Err-Seen.ensures.next
    c.end_text.ensures.pieces c.requires.spent c.requires.goes (λ text. c.end_text.ensures.outlook text) c.end_text.ensures.ended

pub invariant_of-self-in-Err-TooLong-clause-none : goal.invariant_of-self-in-Err-TooLong-clause-none
invariant_of-self-in-Err-TooLong-clause-none g c = λ _.
    let r = c.args.self.now in omega (arith, ap length c.requires.spent.handed, length-drop r.handed (take r.unarmour.given r.unarmour.bytes))
