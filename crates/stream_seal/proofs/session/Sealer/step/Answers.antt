use Rattle.std.proofs.Common.{◌≡◌, ℕ, ◌≤◌, min, length, Ok, refl, sym, ap, subst, ◌∙◌, arith}
use Rattle.std.proofs.lemmas.Bool.{eqb-true, eqb-false}
use Rattle.stream_seal.proofs.Doing.{doing_stopped, doing_empty, doing_spent, doing_takes, doing_last, doing_gives}
use Rattle.stream_seal.proofs.FedSealers.{gives_less, some_within, takes_less}
use Rattle.stream_seal.proofs.Standing.{answers, spent_now, stands_after, stands_stopped, stands_empty, stands_takes, stands_gives, goes_on, room_is, used_is, next_some, next_none}
use Rattle.stream_seal.specs.FrameBuffer.{FrameValue}
use Rattle.stream_seal.specs.Session.{Takes, held, within_of}
use Rattle.stream_seal.proofs.session.Sealer.step.Goals as goal

pub returns-then-self-clause-answer : goal.returns-then-self-clause-answer
returns-then-self-clause-answer c = λ v stands. answers v c.args.piece.now _ _ (doing_stopped v c.args.piece.now (sym stands.stopped ∙ c.if-self.true)) refl

pub returns-then-self-clause-stands : goal.returns-then-self-clause-stands
returns-then-self-clause-stands c = λ v stands.
    stands_after _ v c.args.piece.now _ (doing_stopped v c.args.piece.now (sym stands.stopped ∙ c.if-self.true))
    (stands_stopped c.args.self.now v c.go_on.new.self c.args.self.now.stopped stands c.go_on.ensures c.if-self.true)

pub returns-then-is_empty-clause-answer : goal.returns-then-is_empty-clause-answer
returns-then-is_empty-clause-answer c = λ v stands.
    answers v c.args.piece.now _ _
    (doing_empty v c.args.piece.now (sym stands.stopped ∙ c.if-self.false) (eqb-true (length c.args.piece.now) 0 (sym c.is_empty.ensures ∙ c.if-is_empty.true))) refl

pub returns-then-is_empty-clause-stands : goal.returns-then-is_empty-clause-stands
returns-then-is_empty-clause-stands c = λ v stands.
    stands_after _ v c.args.piece.now _
    (doing_empty v c.args.piece.now (sym stands.stopped ∙ c.if-self.false) (eqb-true (length c.args.piece.now) 0 (sym c.is_empty.ensures ∙ c.if-is_empty.true)))
    (stands_empty c.args.self.now v c.go_on.new.self c.args.piece.now stands c.go_on.ensures)

pub returns-then-is_empty-clause-falls : goal.returns-then-is_empty-clause-falls
returns-then-is_empty-clause-falls c = λ some. absurd (omega (arith, some, eqb-true (length c.args.piece.now) 0 (sym c.is_empty.ensures ∙ c.if-is_empty.true)))

pub returns-in-Some-clause-answer : goal.returns-in-Some-clause-answer
returns-in-Some-clause-answer c = λ v stands.
    answers v c.args.piece.now _ _
    (doing_spent v c.args.piece.now _ (sym stands.stopped ∙ c.if-self.false) (eqb-false (length c.args.piece.now) 0 (sym c.is_empty.ensures ∙ c.if-is_empty.false))
    (spent_now c.args.self.now v _ stands c.spent.ensures ∙ c.in-Some.is)) refl

pub returns-in-Some-clause-stands : goal.returns-in-Some-clause-stands
returns-in-Some-clause-stands c = λ v stands.
    stands_after _ v c.args.piece.now _
    (doing_spent v c.args.piece.now _ (sym stands.stopped ∙ c.if-self.false) (eqb-false (length c.args.piece.now) 0 (sym c.is_empty.ensures ∙ c.if-is_empty.false))
    (spent_now c.args.self.now v _ stands c.spent.ensures ∙ c.in-Some.is))
    (stands_stopped c.args.self.now v c.go_on.new.self _ stands c.go_on.ensures refl)

pub returns-then-room-gt0-clause-answer : goal.returns-then-room-gt0-clause-answer
returns-then-room-gt0-clause-answer c = λ v stands.
    let goes = goes_on c.args.self.now v c.args.piece.now _ _ stands c.if-self.false c.is_empty.ensures c.if-is_empty.false c.spent.ensures c.in_default.is in
    let room = room_is c.args.self.now v c.go_on.new.self c.room-room.result stands goes.on c.go_on.ensures c.room-room.ensures.room c.room-room.ensures.short in
    let used = used_is c.args.self.now v c.within-used.result _ stands c.within-used.ensures.count ∙ ap (within_of v.declared (length v.taken)) (c.min.ensures ∙ ap (λ (n : ℕ). min n (length c.args.piece.now)) room.is) in
    answers v c.args.piece.now _ _ (doing_takes v c.args.piece.now goes (λ full. omega (arith, room.is, room.within, full, c.if-room-gt0.true)))
    (ap (λ (n : ℕ). Ok n) used)

pub returns-then-room-gt0-clause-stands : goal.returns-then-room-gt0-clause-stands
returns-then-room-gt0-clause-stands c = λ v stands.
    let goes = goes_on c.args.self.now v c.args.piece.now _ _ stands c.if-self.false c.is_empty.ensures c.if-is_empty.false c.spent.ensures c.in_default.is in
    let room = room_is c.args.self.now v c.go_on.new.self c.room-room.result stands goes.on c.go_on.ensures c.room-room.ensures.room c.room-room.ensures.short in
    let used = used_is c.args.self.now v c.within-used.result _ stands c.within-used.ensures.count ∙ ap (within_of v.declared (length v.taken)) (c.min.ensures ∙ ap (λ (n : ℕ). min n (length c.args.piece.now)) room.is) in
    let does = doing_takes v c.args.piece.now goes (λ full. omega (arith, room.is, room.within, full, c.if-room-gt0.true)) in
    stands_after _ v c.args.piece.now (Takes c.within-used.result) (does ∙ ap (λ (n : ℕ). Takes n) (sym used))
    (stands_takes c.args.self.now v c.go_on.new.self c.push.new.self c.after-self.result c.args.piece.now c.within-used.result stands goes.on
    (omega (arith, c.within-used.ensures.most, c.min.ensures)) c.go_on.ensures c.push.ensures c.after-self.ensures)

pub returns-then-room-gt0-clause-falls : goal.returns-then-room-gt0-clause-falls
returns-then-room-gt0-clause-falls c = λ some.
    takes_less c.args.self.now.frame c.push.new.self (length c.args.piece.now) c.within-used.result
    (subst (λ (n : ℕ). 1 ≤ n) (sym c.within-used.ensures.count)
    (some_within c.args.self.now.declared c.min.result (sym c.spent.ensures ∙ c.in_default.is) (omega (arith, c.min.ensures, c.if-room-gt0.true, some))))
    (omega (arith, c.within-used.ensures.most, c.min.ensures))

pub returns-in-Some-number_after-clause-falls : goal.returns-in-Some-number_after-clause-falls
returns-in-Some-number_after-clause-falls c = λ some.
    let quiet = ap (λ (f : FrameValue). f.size) c.go_on.ensures in
    let text = ap (λ (f : FrameValue). length f.text) c.go_on.ensures in
    gives_less c.args.self.now.frame c.seal_regular.new.self (length c.args.piece.now)
    (omega (arith, ap (λ (f : FrameValue). f.size) c.seal_regular.ensures.sealed, c.room-room.ensures.some))
    (omega (arith, quiet, text, c.room-room.ensures.room, c.room-room.ensures.short, c.if-room-gt0.false))
    (ap (λ (f : FrameValue). f.text) c.seal_regular.ensures.sealed)

pub returns-in-Some-number_after-clause-answer : goal.returns-in-Some-number_after-clause-answer
returns-in-Some-number_after-clause-answer c = λ v stands.
    let goes = goes_on c.args.self.now v c.args.piece.now _ _ stands c.if-self.false c.is_empty.ensures c.if-is_empty.false c.spent.ensures c.in_default.is in
    let room = room_is c.args.self.now v c.go_on.new.self c.room-room.result stands goes.on c.go_on.ensures c.room-room.ensures.room c.room-room.ensures.short in
    let next = next_some c.args.self.now.number c.in-Some-number_after.next (sym c.number_after.ensures ∙ c.in-Some-number_after.is) in
    answers v c.args.piece.now _ _
    (doing_gives v c.args.piece.now goes (omega (arith, room.is, room.within, c.if-room-gt0.false)) (λ last. next.more (stands.number ∙ last))) refl

pub returns-in-Some-number_after-clause-stands : goal.returns-in-Some-number_after-clause-stands
returns-in-Some-number_after-clause-stands c = λ v stands.
    let goes = goes_on c.args.self.now v c.args.piece.now _ _ stands c.if-self.false c.is_empty.ensures c.if-is_empty.false c.spent.ensures c.in_default.is in
    let room = room_is c.args.self.now v c.go_on.new.self c.room-room.result stands goes.on c.go_on.ensures c.room-room.ensures.room c.room-room.ensures.short in
    let full : length (held v) ≡ v.size = omega (arith, room.is, room.within, c.if-room-gt0.false) in
    let next = next_some c.args.self.now.number c.in-Some-number_after.next (sym c.number_after.ensures ∙ c.in-Some-number_after.is) in
    rw c.seal_regular.ensures.same
    (stands_after _ v c.args.piece.now _ (doing_gives v c.args.piece.now goes full (λ last. next.more (stands.number ∙ last)))
    (stands_gives c.args.self.now v c.go_on.new.self c.seal_regular.new.self c.in-Some-number_after.next c.args.piece.now stands goes.on full c.go_on.ensures
    c.seal_regular.ensures.sealed next.is))

pub returns-in-None-clause-answer : goal.returns-in-None-clause-answer
returns-in-None-clause-answer c = λ v stands.
    let goes = goes_on c.args.self.now v c.args.piece.now _ _ stands c.if-self.false c.is_empty.ensures c.if-is_empty.false c.spent.ensures c.in_default.is in
    let room = room_is c.args.self.now v c.go_on.new.self c.room-room.result stands goes.on c.go_on.ensures c.room-room.ensures.room c.room-room.ensures.short in
    answers v c.args.piece.now _ _
    (doing_last v c.args.piece.now goes (omega (arith, room.is, room.within, c.if-room-gt0.false))
    (sym stands.number ∙ next_none c.args.self.now.number (sym c.number_after.ensures ∙ c.in-None.is))) refl

pub returns-in-None-clause-stands : goal.returns-in-None-clause-stands
returns-in-None-clause-stands c = λ v stands.
    let goes = goes_on c.args.self.now v c.args.piece.now _ _ stands c.if-self.false c.is_empty.ensures c.if-is_empty.false c.spent.ensures c.in_default.is in
    let room = room_is c.args.self.now v c.go_on.new.self c.room-room.result stands goes.on c.go_on.ensures c.room-room.ensures.room c.room-room.ensures.short in
    stands_after _ v c.args.piece.now _
    (doing_last v c.args.piece.now goes (omega (arith, room.is, room.within, c.if-room-gt0.false))
    (sym stands.number ∙ next_none c.args.self.now.number (sym c.number_after.ensures ∙ c.in-None.is)))
    (stands_stopped c.args.self.now v c.go_on.new.self _ stands c.go_on.ensures refl)
