-- The session that was opened is live, and no error says that it isn't.
use Rattle.std.proofs.Common.{◌+◌, ℕ, [], None, Ok, refl, arith}
use Rattle.std.proofs.lemmas.Result.{IfOk-from_err}
use Rattle.keyring_trait.specs.declared.journal.Kind.TheVariants.{Unseal}
use Rattle.desk_core.specs.Session.{Opening, Turn, open_opened}
use Rattle.desk_core.specs.Desk.{DeskValue, after_turn, drawn}
use Rattle.esdk_batch.specs.FileEndLaws.{calls_none}
use Rattle.esdk_batch.specs.ShelfCalls.{IsWrite}
use Rattle.esdk_batch.specs.Watching.{as_told}
use Rattle.esdk_batch.proofs.Counting.{rose_zero}
use Rattle.esdk_batch.proofs.Faulting.{open_soundly, sound_end}
use Rattle.esdk_batch.proofs.FirstLines.{number_drawn, open_begun_adds}
use Rattle.esdk_batch.proofs.FirstTurns.{draws_next, draws_on, keeps_all}
use Rattle.esdk_batch.proofs.Keeping.{keeps_drawn, keeps_on, keeps_same}
use Rattle.esdk_batch.proofs.OpenBegins.{has_begun, open_begins_at, opening_live, opening_of}
use Rattle.esdk_batch.proofs.Openings.{live_after, open_error_lives, open_lives}
use Rattle.esdk_batch.proofs.TurnCounting.{ended_counts}
use Rattle.esdk_batch.proofs.opening.open_opening.Goals as goal

pub end_of-requires : goal.end_of-requires
end_of-requires g c = let opens = c.in-Err.ensures.opens c.requires.worth.0 c.requires.worth.1 in open_error_lives _ _ opens.short _ c.in-Err.error opens.answer

pub begin-requires : goal.begin-requires
begin-requires g c =
    let opens = c.in-Ok.ensures.opens c.requires.worth.0 c.requires.worth.1 in
    let lives = open_lives _ _ opens.short _ c.in-Ok.session opens.answer in (
      _,
      opens.stands,
      (lives.left, live_after c.requires.worth.0.live _ _ c.in-Ok.session lives),
    )

pub returns-in-Ok-clause-turn : goal.returns-in-Ok-clause-turn
returns-in-Ok-clause-turn g c = λ by first last job required v entropy from work to stands.
    let opens = c.in-Ok.ensures.opens v stands in
    let begun = has_begun c.none.result c.in_ok-copy.field-0 c.args.given.now opens.short (v.last + 1) c.in-Ok.session c.none.ensures c.in_ok-copy.ensures opens.answer in
    let turn : Turn ℕ = open_opened c.none.result c.in_ok-copy.field-0 opens.short (v.last + 1) in
    let u : DeskValue = after_turn (drawn v) (v.last + 1) [] turn in
    let file = c.begin.ensures.begins by u (Opening (opening_of c.args.given.now)) from opens.stands (opening_live v c.args.given.now turn c.in-Ok.session begun) in (
      file.0,
      file.1,
      open_begins_at _ job c.args.given.now required v u file.0 [] _ _ entropy c.in-Ok.session c.args.to.now c.begin.result work to (draws_next v [] turn) begun.same
          (stands.undrawn (v.last + 1) (omega arith)) file.2,
    )

pub returns-in-Ok-clause-numbers : goal.returns-in-Ok-clause-numbers
returns-in-Ok-clause-numbers g c =
    let v : DeskValue = c.requires.worth.0 in
    let stands = c.requires.worth.1 in
    let opens = c.in-Ok.ensures.opens v stands in
    let begun = has_begun c.none.result c.in_ok-copy.field-0 c.args.given.now opens.short (v.last + 1) c.in-Ok.session c.none.ensures c.in_ok-copy.ensures opens.answer in
    let turn : Turn ℕ = open_opened c.none.result c.in_ok-copy.field-0 opens.short (v.last + 1) in
    let u : DeskValue = after_turn (drawn v) (v.last + 1) [] turn in
    let file = c.begin.ensures.begins as_told u (Opening (opening_of c.args.given.now)) tt opens.stands (opening_live v c.args.given.now turn c.in-Ok.session begun) in
    number_drawn c.args.desk.now c.open_open.new.self c.begin.new.desk c.in-Ok.session Unseal None (Opening (opening_of c.args.given.now)) v u file.0 _ _ c.args.to.now c.begin.result stands file.2
    begun.same c.in-Ok.ensures.last c.begin.ensures.last

pub returns-in-Ok-clause-lines : goal.returns-in-Ok-clause-lines
returns-in-Ok-clause-lines g c = λ job required v work stands.
    let opens = c.in-Ok.ensures.opens v stands in
    let begun = has_begun c.none.result c.in_ok-copy.field-0 c.args.given.now opens.short (v.last + 1) c.in-Ok.session c.none.ensures c.in_ok-copy.ensures opens.answer in
    let turn : Turn ℕ = open_opened c.none.result c.in_ok-copy.field-0 opens.short (v.last + 1) in
    let u : DeskValue = after_turn (drawn v) (v.last + 1) [] turn in
    let file = c.begin.ensures.begins as_told u (Opening (opening_of c.args.given.now)) tt opens.stands (opening_live v c.args.given.now turn c.in-Ok.session begun) in
    let draws = draws_on v u file.0 c.in-Ok.session [] (draws_next v [] turn) begun.same file.2.desk in
    (file.0, file.1, open_begun_adds job c.args.given.now required c.in-Ok.session (opening_of c.args.given.now) v u file.0 _ _ c.args.to.now c.begin.result work refl draws.journal file.2)

pub returns-in-Ok-clause-counts : goal.returns-in-Ok-clause-counts
returns-in-Ok-clause-counts g c = λ job entropy keyring to. c.begin.ensures.counts job entropy keyring to

pub returns-in_ok-end_of-in-Err-clause-counts : goal.returns-in_ok-end_of-in-Err-clause-counts
returns-in_ok-end_of-in-Err-clause-counts g c = λ job entropy keyring to.
    let opens = c.in-Err.ensures.opens c.requires.worth.0 c.requires.worth.1 in
    let end = c.in_ok-end_of-in-Err.field-0 in
    let sound = sound_end c.in-Err.error (Ok end) c.in_ok-end_of-in-Err.ensures (open_soundly _ _ opens.short _ c.in-Err.error opens.answer) in
    ended_counts job c.ended_job.result _ _ (record { kind = Unseal; end = end; served = None }) c.ended_job.ensures
    (rose_zero _ entropy entropy sound.entropy (omega arith)) (rose_zero _ keyring keyring sound.keyring (omega arith)) (rose_zero _ _ _ sound.shelf (omega arith))

-- ---- the other sessions

pub returns-in_err-copy-clause-sessions : goal.returns-in_err-copy-clause-sessions
returns-in_err-copy-clause-sessions g c = λ last under. keeps_same last 1 c.args.desk.now

pub returns-in-Ok-clause-sessions : goal.returns-in-Ok-clause-sessions
returns-in-Ok-clause-sessions g c = λ last under.
    let v : DeskValue = c.requires.worth.0 in
    let opens = c.in-Ok.ensures.opens v c.requires.worth.1 in
    let lives = open_lives c.none.result c.in_ok-copy.field-0 opens.short (v.last + 1) c.in-Ok.session opens.answer in
    keeps_on last 1 0 1 c.args.desk.now c.open_open.new.self c.begin.new.desk
    (keeps_drawn last c.args.desk.now c.open_open.new.self c.requires.worth under (λ v stands.
    let o = c.in-Ok.ensures.opens v stands in
    let turn : Turn ℕ = open_opened c.none.result c.in_ok-copy.field-0 o.short (v.last + 1) in
    (after_turn (drawn v) (v.last + 1) [] turn, o.stands, ([], draws_next v [] turn))))
    (c.begin.ensures.sessions last (omega (arith, lives.same, under, c.requires.worth.1.last))) (omega (arith, c.in-Ok.ensures.last))

pub returns-in_ok-end_of-in-Err-clause-sessions : goal.returns-in_ok-end_of-in-Err-clause-sessions
returns-in_ok-end_of-in-Err-clause-sessions g c = λ last under.
    keeps_drawn last c.args.desk.now c.open_open.new.self c.requires.worth under (λ v stands.
    let o = c.in-Err.ensures.opens v stands in
    let turn : Turn ℕ = open_opened c.none.result c.in_ok-copy.field-0 o.short (v.last + 1) in
    (after_turn (drawn v) (v.last + 1) [] turn, o.stands, ([], draws_next v [] turn)))

pub returns-in_err-end_of-in-Err-clause-sessions : goal.returns-in_err-end_of-in-Err-clause-sessions
returns-in_err-end_of-in-Err-clause-sessions g c = λ last under.
    keeps_drawn last c.args.desk.now c.open_open.new.self c.requires.worth under (λ v stands.
    let o = c.in-Err.ensures.opens v stands in
    let turn : Turn ℕ = open_opened c.none.result c.in_ok-copy.field-0 o.short (v.last + 1) in
    (after_turn (drawn v) (v.last + 1) [] turn, o.stands, ([], draws_next v [] turn)))

-- ---- the calls of the shelf

pub returns-in_err-copy-clause-calls : goal.returns-in_err-copy-clause-calls
returns-in_err-copy-clause-calls g c = calls_none (IsWrite c.args.to.now) _

pub returns-in_ok-end_of-in-Err-clause-calls : goal.returns-in_ok-end_of-in-Err-clause-calls
returns-in_ok-end_of-in-Err-clause-calls g c = calls_none (IsWrite c.args.to.now) _

pub returns-in_err-end_of-in-Err-clause-calls : goal.returns-in_err-end_of-in-Err-clause-calls
returns-in_err-end_of-in-Err-clause-calls g c = calls_none (IsWrite c.args.to.now) _

-- ---- what making the file keeps

pub returns-in-Ok-clause-kind : goal.returns-in-Ok-clause-kind
returns-in-Ok-clause-kind g c = c.begin.ensures.kind

pub returns-in-Ok-clause-kept : goal.returns-in-Ok-clause-kept
returns-in-Ok-clause-kept g c = c.begin.ensures.kept

pub returns-in-Ok-clause-calls : goal.returns-in-Ok-clause-calls
returns-in-Ok-clause-calls g c = c.begin.ensures.calls

pub returns-in-Ok-clause-front : goal.returns-in-Ok-clause-front
returns-in-Ok-clause-front g c = c.begin.ensures.front

pub returns-in-Ok-clause-worth : goal.returns-in-Ok-clause-worth
returns-in-Ok-clause-worth g c = c.begin.ensures.worth

-- ---- the file stays

pub returns-in_ok-end_of-in-Err-clause-kept : goal.returns-in_ok-end_of-in-Err-clause-kept
returns-in_ok-end_of-in-Err-clause-kept g c = keeps_all _ _

-- ---- memory ran out

pub returns-in_err-copy-clause-turn : goal.returns-in_err-copy-clause-turn
returns-in_err-copy-clause-turn g c = λ by first last job required v entropy from work to stands. IfOk-from_err c.from_residual.result _ c.from_residual.ensures.0

pub returns-in_err-copy-clause-numbers : goal.returns-in_err-copy-clause-numbers
returns-in_err-copy-clause-numbers g c = IfOk-from_err c.from_residual.result _ c.from_residual.ensures.0

pub returns-in_err-copy-clause-last : goal.returns-in_err-copy-clause-last
returns-in_err-copy-clause-last g c = IfOk-from_err c.from_residual.result _ c.from_residual.ensures.0

pub returns-in_err-copy-clause-lines : goal.returns-in_err-copy-clause-lines
returns-in_err-copy-clause-lines g c = λ job required v work stands. IfOk-from_err c.from_residual.result _ c.from_residual.ensures.0

pub returns-in_err-copy-clause-kind : goal.returns-in_err-copy-clause-kind
returns-in_err-copy-clause-kind g c = λ work is. IfOk-from_err c.from_residual.result _ c.from_residual.ensures.0

pub returns-in_err-copy-clause-front : goal.returns-in_err-copy-clause-front
returns-in_err-copy-clause-front g c = IfOk-from_err c.from_residual.result _ c.from_residual.ensures.0

pub returns-in_err-copy-clause-counts : goal.returns-in_err-copy-clause-counts
returns-in_err-copy-clause-counts g c = λ job entropy keyring to. IfOk-from_err c.from_residual.result _ c.from_residual.ensures.0

pub returns-in_err-copy-clause-kept : goal.returns-in_err-copy-clause-kept
returns-in_err-copy-clause-kept g c = keeps_all _ _

-- ---- it ran out behind that

pub returns-in_err-end_of-in-Err-clause-turn : goal.returns-in_err-end_of-in-Err-clause-turn
returns-in_err-end_of-in-Err-clause-turn g c = λ by first last job required v entropy from work to stands. IfOk-from_err c.from_residual-in_err-end_of-in-Err.result _ c.from_residual-in_err-end_of-in-Err.ensures.0

pub returns-in_err-end_of-in-Err-clause-numbers : goal.returns-in_err-end_of-in-Err-clause-numbers
returns-in_err-end_of-in-Err-clause-numbers g c = IfOk-from_err c.from_residual-in_err-end_of-in-Err.result _ c.from_residual-in_err-end_of-in-Err.ensures.0

pub returns-in_err-end_of-in-Err-clause-last : goal.returns-in_err-end_of-in-Err-clause-last
returns-in_err-end_of-in-Err-clause-last g c = IfOk-from_err c.from_residual-in_err-end_of-in-Err.result _ c.from_residual-in_err-end_of-in-Err.ensures.0

pub returns-in_err-end_of-in-Err-clause-lines : goal.returns-in_err-end_of-in-Err-clause-lines
returns-in_err-end_of-in-Err-clause-lines g c = λ job required v work stands. IfOk-from_err c.from_residual-in_err-end_of-in-Err.result _ c.from_residual-in_err-end_of-in-Err.ensures.0

pub returns-in_err-end_of-in-Err-clause-kind : goal.returns-in_err-end_of-in-Err-clause-kind
returns-in_err-end_of-in-Err-clause-kind g c = λ work is. IfOk-from_err c.from_residual-in_err-end_of-in-Err.result _ c.from_residual-in_err-end_of-in-Err.ensures.0

pub returns-in_err-end_of-in-Err-clause-front : goal.returns-in_err-end_of-in-Err-clause-front
returns-in_err-end_of-in-Err-clause-front g c = IfOk-from_err c.from_residual-in_err-end_of-in-Err.result _ c.from_residual-in_err-end_of-in-Err.ensures.0

pub returns-in_err-end_of-in-Err-clause-counts : goal.returns-in_err-end_of-in-Err-clause-counts
returns-in_err-end_of-in-Err-clause-counts g c = λ job entropy keyring to. IfOk-from_err c.from_residual-in_err-end_of-in-Err.result _ c.from_residual-in_err-end_of-in-Err.ensures.0

pub returns-in_err-end_of-in-Err-clause-kept : goal.returns-in_err-end_of-in-Err-clause-kept
returns-in_err-end_of-in-Err-clause-kept g c = keeps_all _ _

-- ---- nothing was begun

pub returns-in_err-copy-clause-worth : goal.returns-in_err-copy-clause-worth
returns-in_err-copy-clause-worth g c = c.requires.worth

pub returns-in_err-copy-clause-manager : goal.returns-in_err-copy-clause-manager
returns-in_err-copy-clause-manager g c = refl

pub returns-in_err-copy-clause-journal : goal.returns-in_err-copy-clause-journal
returns-in_err-copy-clause-journal g c = refl
