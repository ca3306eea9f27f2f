use Rattle.std.proofs.Common.{[], refl, sym, ap, ◌∙◌, arith, length}
use Rattle.armour_core.specs.declared.text_end.TextEnd.TheVariants.{Bad}
use Rattle.armour_core.specs.Outlook.{Outlook}
use Rattle.armour_core.proofs.Readers.{end_empties, ended_outlook, ends_short, ends_whole, same_number}
use Rattle.armour_core.proofs.reader.ArmourReader.end_text.Goals as goal

pub bad_group-requires : goal.bad_group-requires
bad_group-requires c = let short = ends_short c.args.self.now.unarmour c.in-Err.error (c.args.self.now.goes c.requires.goes) (λ v at. c.in-Err.ensures.answer v at) in (c.args.self.now.unarmour.number, short.is)

pub returns-in-Ok-clause-outlook : goal.returns-in-Ok-clause-outlook
returns-in-Ok-clause-outlook c = λ text.
    ended_outlook _ _ (end_empties c.args.self.now.unarmour c.finish.new.self (λ v at. c.finish.ensures.reads v at)) refl refl text
    ∙ sym (ends_whole c.args.self.now.unarmour (c.args.self.now.goes c.requires.goes) (λ v at. c.in-Ok.ensures.answer v at))

pub returns-in-Err-clause-outlook : goal.returns-in-Err-clause-outlook
returns-in-Err-clause-outlook c = λ text.
    let short = ends_short c.args.self.now.unarmour c.in-Err.error (c.args.self.now.goes c.requires.goes) (λ v at. c.in-Err.ensures.answer v at) in
    ended_outlook _ _ (end_empties c.args.self.now.unarmour c.finish.new.self (λ v at. c.finish.ensures.reads v at)) refl refl text
    ∙ ap (λ n. let l : Outlook = record { bytes = []; end = Bad n } in l) (same_number c.in-Err.error c.bad_group.result c.args.self.now.unarmour.number c.bad_group.ensures short.is) ∙ sym short.ends

pub invariant_of-self-clause-none : goal.invariant_of-self-clause-none
invariant_of-self-clause-none c = λ _. omega (arith, ap length (end_empties c.args.self.now.unarmour c.finish.new.self (λ v at. c.finish.ensures.reads v at)))

pub invariant_of-self-in-Err-clause-none : goal.invariant_of-self-in-Err-clause-none
invariant_of-self-in-Err-clause-none c = λ _. omega (arith, ap length (end_empties c.args.self.now.unarmour c.finish.new.self (λ v at. c.finish.ensures.reads v at)))
