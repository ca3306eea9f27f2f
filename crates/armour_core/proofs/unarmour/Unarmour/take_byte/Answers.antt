use Rattle.std.proofs.Common.{◌≡◌, length, refl, sym, ap, ◌∙◌, arith}
use Rattle.armour_core.proofs.Reading.{break_taken, character_held, full_refused, group_taken, padded_refused}
use Rattle.armour_core.proofs.unarmour.Unarmour.take_byte.Goals as goal

pub returns-then-not-is_character-clause-takes : goal.returns-then-not-is_character-clause-takes
returns-then-not-is_character-clause-takes c = λ text holds.
    break_taken c.args.self.now text c.args.byte c.requires.goes c.requires.none (sym c.is_character.ensures ∙ c.if-not-is_character.true) holds

pub returns-then-self-clause-takes : goal.returns-then-self-clause-takes
returns-then-self-clause-takes c = λ text holds.
    padded_refused c.args.self.now c.stop.new.self text c.args.byte c.stop.result holds c.stop.ensures.error (ap (λ x. x.stopped) c.stop.ensures.stops)
    (ap (λ x. x.given) c.stop.ensures.stops ∙ c.requires.none) (sym c.is_character.ensures ∙ c.if-not-is_character.false) c.if-self.true

pub returns-then-self-lt3-clause-takes : goal.returns-then-self-lt3-clause-takes
returns-then-self-lt3-clause-takes c = λ text holds.
    let size : length c.args.self.now.group ≡ 4 = search c in
    character_held c.args.self.now _ text c.args.byte size c.if-self-lt3.true c.requires.none c.requires.goes holds (sym c.is_character.ensures ∙ c.if-not-is_character.false) c.if-self.false
    refl refl refl refl refl refl

pub returns-in_default-clause-takes : goal.returns-in_default-clause-takes
returns-in_default-clause-takes c = λ text holds.
    let size : length c.args.self.now.group ≡ 4 = search c in
    full_refused c.args.self.now c.stop-in_default.new.self text c.args.byte c.stop-in_default.result size (omega (arith, c.args.self.now.open, c.if-self-lt3.false)) holds
    (sym c.is_character.ensures ∙ c.if-not-is_character.false) c.if-self.false c.in_default.ensures.bytes c.stop-in_default.ensures.error (ap (λ x. x.stopped) c.stop-in_default.ensures.stops)
    (ap (λ x. x.given) c.stop-in_default.ensures.stops ∙ c.requires.none)

pub returns-clause-takes : goal.returns-clause-takes
returns-clause-takes c = λ text holds.
    let size : length c.args.self.now.group ≡ 4 = search c in
    group_taken c.args.self.now _ text c.args.byte c.in-Some.count size (omega (arith, c.args.self.now.open, c.if-self-lt3.false)) c.requires.goes holds
    (sym c.is_character.ensures ∙ c.if-not-is_character.false) c.if-self.false c.in-Some.ensures.bytes refl refl c.saturating_add-self.ensures refl refl
