use Rattle.std.proofs.Common.{◌≡◌, true, false, [], refl, sym, subst, ◌∙◌}
use Rattle.stream_open.specs.Session.{OpeningValue, judged_now, is_end}
use Rattle.stream_open.specs.Stands.{Stands}
use Rattle.stream_open.proofs.Standing.{stands_quiet, finish_stopped, finish_whole, finish_going, finished_as}
use Rattle.stream_open.proofs.session.Opener.finish.Goals as goal

pub returns-then-self-clause-answer : goal.returns-then-self-clause-answer
returns-then-self-clause-answer c = λ v stands. sym (finish_stopped v (sym (c.give_nothing.ensures.stopped ∙ stands.stopped) ∙ c.if-self.true))

pub returns-then-self-clause-stands : goal.returns-then-self-clause-stands
returns-then-self-clause-stands c = λ v stands.
    let off : v.stopped ≡ true = sym (c.give_nothing.ensures.stopped ∙ stands.stopped) ∙ c.if-self.true in
    let quiet = c.give_nothing.ensures in
    subst (λ (w : OpeningValue). Stands c.give_nothing.new.self w) (sym (finished_as v true (is_end (judged_now v).verdict) off refl))
    (stands_quiet c.args.self.now c.give_nothing.new.self v true stands (λ e. absurd cc) quiet.settings quiet.given quiet.reader quiet.served c.if-self.true quiet.unlocked)

pub returns-then-not-is_whole-clause-answer : goal.returns-then-not-is_whole-clause-answer
returns-then-not-is_whole-clause-answer c = λ v stands.
    let on : v.stopped ≡ false = sym (c.give_nothing.ensures.stopped ∙ stands.stopped) ∙ c.if-self.false in
    let quiet = c.give_nothing.ensures in
    let now = stands_quiet c.args.self.now c.give_nothing.new.self v v.stopped stands (λ e. e) quiet.settings quiet.given quiet.reader quiet.served (quiet.stopped ∙ stands.stopped) quiet.unlocked in
    sym (finish_going c.args.self.now v stands on (sym (c.if-not-is_whole.ensures (record v { stopped = v.stopped; out = [] }) now)))

pub returns-then-not-is_whole-clause-stands : goal.returns-then-not-is_whole-clause-stands
returns-then-not-is_whole-clause-stands c = λ v stands.
    let on : v.stopped ≡ false = sym (c.give_nothing.ensures.stopped ∙ stands.stopped) ∙ c.if-self.false in
    let quiet = c.give_nothing.ensures in
    let now = stands_quiet c.args.self.now c.give_nothing.new.self v v.stopped stands (λ e. e) quiet.settings quiet.given quiet.reader quiet.served (quiet.stopped ∙ stands.stopped) quiet.unlocked in
    let going : is_end (judged_now v).verdict ≡ false = sym (c.if-not-is_whole.ensures (record v { stopped = v.stopped; out = [] }) now) in
    subst (λ (w : OpeningValue). Stands (record c.give_nothing.new.self { stopped = true }) w) (sym (finished_as v false false on going))
    (stands_quiet c.args.self.now (record c.give_nothing.new.self { stopped = true }) v true stands (λ e. absurd cc) quiet.settings quiet.given quiet.reader quiet.served refl quiet.unlocked)

pub returns-clause-answer : goal.returns-clause-answer
returns-clause-answer c = λ v stands.
    let on : v.stopped ≡ false = sym (c.give_nothing.ensures.stopped ∙ stands.stopped) ∙ c.if-self.false in
    let quiet = c.give_nothing.ensures in
    let now = stands_quiet c.args.self.now c.give_nothing.new.self v v.stopped stands (λ e. e) quiet.settings quiet.given quiet.reader quiet.served (quiet.stopped ∙ stands.stopped) quiet.unlocked in
    sym (finish_whole v on (sym (c.if-not-is_whole.ensures (record v { stopped = v.stopped; out = [] }) now)))

pub returns-clause-stands : goal.returns-clause-stands
returns-clause-stands c = λ v stands.
    let on : v.stopped ≡ false = sym (c.give_nothing.ensures.stopped ∙ stands.stopped) ∙ c.if-self.false in
    let quiet = c.give_nothing.ensures in
    let now = stands_quiet c.args.self.now c.give_nothing.new.self v v.stopped stands (λ e. e) quiet.settings quiet.given quiet.reader quiet.served (quiet.stopped ∙ stands.stopped) quiet.unlocked in
    let whole : is_end (judged_now v).verdict ≡ true = sym (c.if-not-is_whole.ensures (record v { stopped = v.stopped; out = [] }) now) in
    subst (λ (w : OpeningValue). Stands c.give_nothing.new.self w) (sym (finished_as v false true on whole))
    (stands_quiet c.args.self.now c.give_nothing.new.self v false stands (λ e. on) quiet.settings quiet.given quiet.reader quiet.served c.if-self.false quiet.unlocked)
