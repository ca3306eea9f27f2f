use Rattle.std.proofs.Common.{length, refl, ap, ◌∙◌, arith}
use Rattle.std.proofs.lemmas.List.{length-drop}
use Rattle.armour_core.proofs.Readers.{bad_there, goes_on, group_bad, group_read, nothing_there, slice_is, slice_of}
use Rattle.armour_core.proofs.reader.ArmourReader.read_group.Goals as goal

pub invariant_of-self : goal.invariant_of-self
invariant_of-self c =
    let slice = slice_is c.args.self.now c.piece.result.now c.piece.ensures in
    record {
      within = omega (arith, c.in-Ok.ensures.within, ap length slice, length-drop c.args.self.now.at c.args.self.now.pieces.piece, c.requires.some);
      few = omega arith;
      goes = λ _. goes_on c.args.self.now.unarmour c.step.new.self (slice_of c.piece.result.now c.args.self.now.at) c.in-Ok.used (c.args.self.now.goes c.requires.goes) (λ v at. c.in-Ok.ensures.answer v at) (λ v at. c.step.ensures.reads v at);
      none = λ over. absurd (over c.requires.goes);
      most = c.args.self.now.most;
      long = c.args.self.now.long;
    }

pub bad_group-requires : goal.bad_group-requires
bad_group-requires c = bad_there c.args.self.now.unarmour (slice_of c.piece.result.now c.args.self.now.at) c.in-Err.error (c.args.self.now.goes c.requires.goes) (λ v at. c.in-Err.ensures.answer v at)

pub returns-in-Ok-clause-outlook : goal.returns-in-Ok-clause-outlook
returns-in-Ok-clause-outlook c = λ text. c.pass_breaks.ensures.outlook text ∙
    group_read c.args.self.now _ c.in-Ok.used (slice_of c.piece.result.now c.args.self.now.at) c.requires.handed c.requires.goes (slice_is c.args.self.now c.piece.result.now c.piece.ensures)
    (λ v at. c.in-Ok.ensures.answer v at) (λ v at. c.step.ensures.reads v at) refl refl refl refl text

pub returns-in-Err-clause-outlook : goal.returns-in-Err-clause-outlook
returns-in-Err-clause-outlook c =
    group_bad c.args.self.now _ (slice_of c.piece.result.now c.args.self.now.at) c.in-Err.error c.bad_group.result c.requires.handed c.requires.goes (slice_is c.args.self.now c.piece.result.now c.piece.ensures)
    (λ v at. c.in-Err.ensures.answer v at) c.bad_group.ensures
    (nothing_there c.args.self.now.unarmour c.step.new.self (slice_of c.piece.result.now c.args.self.now.at) c.in-Err.error (c.args.self.now.goes c.requires.goes) (λ v at. c.in-Err.ensures.answer v at) (λ v at. c.step.ensures.reads v at))
    refl refl

pub invariant_of-self-in-Err-clause-none : goal.invariant_of-self-in-Err-clause-none
invariant_of-self-in-Err-clause-none c = λ _.
    omega (arith, ap length (nothing_there c.args.self.now.unarmour c.step.new.self (slice_of c.piece.result.now c.args.self.now.at) c.in-Err.error (c.args.self.now.goes c.requires.goes) (λ v at. c.in-Err.ensures.answer v at) (λ v at. c.step.ensures.reads v at)))
