-- Nothing is read, or the text is whole, or more of its bytes are to come.
use Rattle.std.proofs.Common.{◌∙◌, Some, ap, arith, sym}
use Rattle.armour_core.specs.declared.text_end.TextEnd.{TextEnd}
use Rattle.armour_core.specs.declared.text_end.TextEnd.TheVariants.{Bad, TooLong, Whole}
use Rattle.esdk_run.proofs.Unarmouring.{end_seen, looks_none, none_behind, of_end}
use Rattle.esdk_run.proofs.unarmoured.judge_end.Goals as goal

pub returns-then-not-sound-clause-looks : goal.returns-then-not-sound-clause-looks
returns-then-not-sound-clause-looks g c =
    looks_none (g.S.Source.state c.args.text.now.text.now) c.args.text.now.reader c.args.text.now.faults c.args.sound

pub returns-in-Some-Bad-clause-sees : goal.returns-in-Some-Bad-clause-sees
returns-in-Some-Bad-clause-sees g c = λ _ zero.
    let before = g.S.Source.state c.args.text.now.text.now in
    let now = g.S.Source.state c.await_some.new.self.text.now in
    let e = c.in_default.ensures in
    let is = c.in-Some-Bad.is ∙ ap (λ (end : TextEnd). Some end) c.in-Some-Bad.field-0-is in (
      end_seen before now c.args.text.now.reader c.await_some.new.self.reader c.ending.result (Bad c.in-Some-Bad.number) e.awaits.reads c.ending.ensures.ending (λ told is. c.ending.ensures.told told is) is
          (e.fails.same e.cause.same (omega (arith, zero, e.cause.same))),
      of_end c.ending.result _ _ is c.ending.ensures.over,
    )

pub returns-in-Some-TooLong-clause-sees : goal.returns-in-Some-TooLong-clause-sees
returns-in-Some-TooLong-clause-sees g c = λ _ zero.
    let before = g.S.Source.state c.args.text.now.text.now in
    let now = g.S.Source.state c.await_some.new.self.text.now in
    let e = c.in_default.ensures in
    let is = c.in-Some-TooLong.is ∙ ap (λ (end : TextEnd). Some end) c.in-Some-TooLong.field-0-is in (
      end_seen before now c.args.text.now.reader c.await_some.new.self.reader c.ending.result TooLong e.awaits.reads c.ending.ensures.ending (λ told is. c.ending.ensures.told told is) is
          (e.fails.same e.cause.same (omega (arith, zero, e.cause.same))),
      c.ending.ensures.long is,
      of_end c.ending.result _ _ is c.ending.ensures.over,
    )

pub returns-in-Some-Whole-clause-sees : goal.returns-in-Some-Whole-clause-sees
returns-in-Some-Whole-clause-sees g c = λ _ zero.
    let before = g.S.Source.state c.args.text.now.text.now in
    let now = g.S.Source.state c.await_some.new.self.text.now in
    let e = c.in_default.ensures in
    let same = e.fails.same e.cause.same (omega (arith, zero, e.cause.same)) in
    let is = c.in-Some-Whole.is ∙ ap (λ (end : TextEnd). Some end) c.in-Some-Whole.field-0-is in (
      same,
      λ none. (
        end_seen before now c.args.text.now.reader c.await_some.new.self.reader c.ending.result Whole e.awaits.reads c.ending.ensures.ending (λ told is. c.ending.ensures.told told is) is same,
        of_end c.ending.result _ _ is c.ending.ensures.over,
      ),
    )

pub returns-in-None-clause-sees : goal.returns-in-None-clause-sees
returns-in-None-clause-sees g c = λ _ zero.
    let before = g.S.Source.state c.args.text.now.text.now in
    let now = g.S.Source.state c.await_some.new.self.text.now in
    let e = c.in_default.ensures in
    let same = e.fails.same e.cause.same (omega (arith, zero, e.cause.same)) in
    (same, λ none. absurd (none_behind before now c.args.text.now.reader c.await_some.new.self.reader e.awaits.reads e.outlook e.some none (sym c.ending.ensures.ending ∙ c.in-None.is)))
