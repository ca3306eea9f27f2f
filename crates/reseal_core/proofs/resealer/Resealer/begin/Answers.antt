use Rattle.std.proofs.Common.{◌≡◌, ◌∙◌, refl, sym}
use Rattle.reseal_core.proofs.Beginning.{begun_as, no_context, no_only, not_begun_as, not_due, open_held}
use Rattle.reseal_core.proofs.Unlocked.{told_open}
use Rattle.reseal_core.proofs.resealer.Resealer.begin.Goals as goal

pub returns-in_default-clause-begun : goal.returns-in_default-clause-begun
returns-in_default-clause-begun g c = λ opening size random text m opens written.
    not_due _ c.args.now size random text opening _ c.args.self.now.message m _ (sym c.is_begun.ensures ∙ c.if-is_begun.false) written
    (no_context opening (sym (c.context.ensures opening opens) ∙ rw c.in_default.is refl)) refl

pub returns-in_default-only-clause-begun : goal.returns-in_default-only-clause-begun
returns-in_default-only-clause-begun g c = λ opening size random text m opens written.
    not_due _ c.args.now size random text opening _ c.args.self.now.message m _ (sym c.is_begun.ensures ∙ c.if-is_begun.false) written
    (no_only opening (sym (c.only.ensures opening opens) ∙ rw c.in_default-only.is refl)) refl

pub begin-requires-clause-held : goal.begin-requires-clause-held
begin-requires-clause-held g c =
    let (opening, opens, held) = c.requires.opener in
    open_held opening c.in-Some.whole.now c.in-Some-only.only.now
    (told_open opening c.in-Some.whole.now c.in-Some-only.only.now (sym (c.in-Some.ensures opening opens)) (sym (c.in-Some-only.ensures opening opens))) held

pub returns-clause-begun : goal.returns-clause-begun
returns-clause-begun g c = λ opening size random text m opens written.
    begun_as _ c.args.now size random text opening _ c.args.self.now.message m c.in-Some.whole.now c.in-Some-only.only.now _ _ _ c.begin.new.self (sym c.is_begun.ensures ∙ c.if-is_begun.false) written
    (told_open opening c.in-Some.whole.now c.in-Some-only.only.now (sym (c.in-Some.ensures opening opens)) (sym (c.in-Some-only.ensures opening opens)))
    c.begin.result (c.begin.ensures.begins size random text)

pub returns-clause-cause : goal.returns-clause-cause
returns-clause-cause g c = λ opening size random text m opens written.
    not_begun_as _ c.args.now size random text opening (c.begin.new.sealing ≡ c.args.sealing.now) c.args.self.now.message m c.in-Some.whole.now c.in-Some-only.only.now _ _ _ c.begin.new.self (sym c.is_begun.ensures ∙ c.if-is_begun.false) written
    (told_open opening c.in-Some.whole.now c.in-Some-only.only.now (sym (c.in-Some.ensures opening opens)) (sym (c.in-Some-only.ensures opening opens)))
    c.begin.result (c.begin.ensures.begins size random text)

pub returns-clause-bears : goal.returns-clause-bears
returns-clause-bears g c = rw (sym c.is_begun.ensures ∙ c.if-is_begun.false) c.begin.ensures.bears
