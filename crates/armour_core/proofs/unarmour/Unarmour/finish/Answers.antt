use Rattle.std.proofs.Common.{◌≡◌, length, Err, refl, sym, subst, ap, ◌∙◌}
use Rattle.armour_core.specs.Stands.{StandsReading}
use Rattle.armour_core.proofs.Reading.{end_even, end_short, end_stopped, even_where, same_group, short_fault, short_where, stays_stopped}
use Rattle.armour_core.proofs.unarmour.Unarmour.finish.Goals as goal

pub returns-then-self-clause-answer : goal.returns-then-self-clause-answer
returns-then-self-clause-answer c = λ v reads. sym (end_stopped v (sym reads.stopped ∙ c.if-self.true)).0

pub returns-then-self-clause-reads : goal.returns-then-self-clause-reads
returns-then-self-clause-reads c = λ v reads. subst (StandsReading _) (sym (end_stopped v (sym reads.stopped ∙ c.if-self.true)).1) (stays_stopped _ v c.if-self.true refl)

pub returns-then-self-gt0-clause-answer : goal.returns-then-self-gt0-clause-answer
returns-then-self-gt0-clause-answer c = λ v reads.
    let goes = sym reads.stopped ∙ c.if-self.false in
    let holds = reads.group goes in
    let size : length c.args.self.now.group ≡ 4 = search c in
    let few = c.args.self.now.open in
    ap (λ e. Err e) (c.stop.ensures.error ∙ short_fault c.args.self.now v.taken size few holds c.if-self-gt0.true)
    ∙ sym (end_short v goes (short_where c.args.self.now v.taken size few holds c.if-self-gt0.true)).0

pub returns-then-self-gt0-clause-reads : goal.returns-then-self-gt0-clause-reads
returns-then-self-gt0-clause-reads c = λ v reads.
    let goes = sym reads.stopped ∙ c.if-self.false in
    let size : length c.args.self.now.group ≡ 4 = search c in
    subst (StandsReading c.stop.new.self) (sym (end_short v goes (short_where c.args.self.now v.taken size c.args.self.now.open (reads.group goes) c.if-self-gt0.true)).1)
    (stays_stopped c.stop.new.self v (ap (λ x. x.stopped) c.stop.ensures.stops) (ap (λ x. x.given) c.stop.ensures.stops))

pub returns-clause-answer : goal.returns-clause-answer
returns-clause-answer c = λ v reads.
    let goes = sym reads.stopped ∙ c.if-self.false in
    let size : length c.args.self.now.group ≡ 4 = search c in
    sym (end_even v goes (even_where c.args.self.now v.taken size c.args.self.now.open (reads.group goes) c.if-self-gt0.false)).0

pub returns-clause-reads : goal.returns-clause-reads
returns-clause-reads c = λ v reads.
    let goes = sym reads.stopped ∙ c.if-self.false in
    let holds = reads.group goes in
    let size : length c.args.self.now.group ≡ 4 = search c in
    subst (StandsReading _) (sym (end_even v goes (even_where c.args.self.now v.taken size c.args.self.now.open holds c.if-self-gt0.false)).1)
    (record { stopped = reads.stopped; group = λ _. same_group c.args.self.now _ v.taken refl refl refl refl holds; out = refl })
