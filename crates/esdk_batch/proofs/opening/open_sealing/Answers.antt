-- What the first turn of an encrypt job comes to, by what the entropy, the desk and the shelf answered.
use Rattle.std.proofs.Common.{rules, ◌≡◌, ◌∙◌, ◌+◌, ◌*◌, ℕ, List, None, length, refl, ap, arith}
use Rattle.std.proofs.lemmas.Map.{update_here}
use Rattle.std.proofs.lemmas.Result.{IfOk-from_err}
use Rattle.esdk_fields.specs.declared.refusals.Outside.TheVariants as outsides
use Rattle.keyring_trait.specs.declared.journal.JournalLine.{JournalLine}
use Rattle.keyring_trait.specs.declared.journal.Kind.TheVariants.{Seal}
use Rattle.desk_core.specs.Session.{Sealing, Turn, seal_opened}
use Rattle.desk_core.specs.Desk.{DeskValue, after_turn, drawn, lines_of, seal_lines, served_by}
use Rattle.desk_core.specs.Stands.{manager_of}
use Rattle.batch_report.specs.declared.job_lines.JobEnd.TheVariants as ends
use Rattle.keyring_trait.specs.Saying.{Saying}
use Rattle.esdk_batch.specs.Failures.{tally_of}
use Rattle.esdk_batch.specs.FileEndLaws.{calls_none}
use Rattle.esdk_batch.specs.Opening.{job_request}
use Rattle.esdk_batch.specs.ShelfCalls.{IsWrite}
use Rattle.esdk_batch.specs.Watching.{as_told}
use Rattle.esdk_batch.proofs.Counting.{rose_none, rose_zero}
use Rattle.esdk_batch.proofs.Faulting.{entropy_sound, keyring_counted, seal_rose, shelf_sound}
use Rattle.esdk_batch.proofs.FirstLines.{number_drawn, seal_begun_adds, seal_ended_adds}
use Rattle.esdk_batch.proofs.FirstTurns.{draws_next, draws_on, keeps_all}
use Rattle.esdk_batch.proofs.Keeping.{keeps_drawn, keeps_on, keeps_same}
use Rattle.esdk_batch.proofs.Managers.{said, says_same}
use Rattle.esdk_batch.proofs.Moments.{gains_none, gains_same, sealed_gains}
use Rattle.esdk_batch.proofs.SealBegins.{draws_nothing, is_begun, opens_none, seal_begins_at, sealing_of}
use Rattle.esdk_batch.proofs.SealTurns.{has_begun, opened_so, says, sealing_live}
use Rattle.esdk_batch.proofs.Openings.{live_after, seal_error_lives, seal_error_none, seal_lives}
use Rattle.esdk_batch.proofs.TurnCounting.{counts_from, ended_counts}
use Rattle.esdk_batch.proofs.opening.open_sealing.Goals as goal

-- ---- what the calls require

pub end_of-requires : goal.end_of-requires
end_of-requires g c =
    let opens = c.in-Err.ensures.opens c.requires.worth.0 c.requires.worth.1 in seal_error_lives c.args.request.now _ opens.reply opens.short _ c.in-Err.error opens.answer

pub begin-requires : goal.begin-requires
begin-requires g c =
    let opens = c.in-Ok-opened.ensures.opens c.requires.worth.0 c.requires.worth.1 in
    let lives = seal_lives c.args.request.now _ opens.reply opens.short _ c.in-Ok-opened.session opens.answer in (
      _,
      opens.stands,
      (lives.left, live_after c.requires.worth.0.live _ _ c.in-Ok-opened.session lives),
    )

-- ---- the entropy failed

pub returns-in_default-clause-turn : goal.returns-in_default-clause-turn
returns-in_default-clause-turn g c = λ by first last job asked v from admits work to request stands.
    (v, stands, draws_nothing _ job asked v _ _ _ c.ended_job.result work c.in_default.ensures.bytes c.in_default.ensures.drawn c.ended_job.ensures)

-- ---- a session began

pub returns-in-Ok-opened-clause-turn : goal.returns-in-Ok-opened-clause-turn
returns-in-Ok-opened-clause-turn g c = λ by first last job asked v from admits work to request stands.
    let manager : Saying = said g.M.Manager.state first last in
    let random : List ℕ = c.fill.new.out in
    let o = opened_so _ c.open_seal-opened.new.self asked c.args.request.now c.args.now random v _ c.served_since-served.result c.journal-lines.result.now request
    (c.in-Ok-opened.ensures.opens v stands) (c.journal-lines.ensures.lines v stands) c.served_since-served.ensures in
    let wraps : ℕ = (g.M.Manager.state c.args.desk.now.manager).meaning.wraps in
    let count : length random ≡ 64 + 12 * wraps = search rules in
    let within = says_same g.M.Manager.state first last c.args.desk.now c.open_seal-opened.new.self
    c.begin.new.desk c.begin.ensures.manager admits in
    let told = says manager (g.M.Manager.state (manager_of c.args.desk.now)) (g.M.Manager.state (manager_of c.open_seal-opened.new.self)) asked c.args.now random o.short o.reply within o.replies in
    let b = has_begun asked random o.reply o.short (v.last + 1) c.in-Ok-opened.session o.answer in
    let lines : List JournalLine = lines_of (v.last + 1) Seal c.args.now asked.declared (served_by o.reply) in
    let turn : Turn ℕ = seal_opened (job_request asked) random o.reply o.short (v.last + 1) in
    let u : DeskValue = after_turn (drawn v) (v.last + 1) lines turn in
    let file = c.begin.ensures.begins by u (Sealing (sealing_of asked random b.materials)) from o.stands (sealing_live v asked random o.reply o.short c.in-Ok-opened.session b) in
    let begun = is_begun manager asked c.args.request.now random o.reply o.short (v.last + 1) c.in-Ok-opened.session wraps c.served_since-served.result b request c.requires.some count within.wraps told
    o.serves in (
      file.0,
      file.1,
      seal_begins_at manager job asked v u file.0 lines _ _ _ _ random b.materials c.in-Ok-opened.session c.served_since-served.result c.args.to.now c.begin.result work to (draws_next v lines turn) b.same
          (stands.undrawn (v.last + 1) (omega arith)) (record { told = c.in-Ok.ensures.bytes; came = c.in-Ok.ensures.drawn }) begun file.2,
    )

pub returns-in-Ok-opened-clause-numbers : goal.returns-in-Ok-opened-clause-numbers
returns-in-Ok-opened-clause-numbers g c =
    let v : DeskValue = c.requires.worth.0 in
    let opens = c.in-Ok-opened.ensures.opens v c.requires.worth.1 in
    let lives = seal_lives c.args.request.now c.fill.new.out opens.reply opens.short (v.last + 1) c.in-Ok-opened.session opens.answer in
    let turn : Turn ℕ = seal_opened c.args.request.now c.fill.new.out opens.reply opens.short (v.last + 1) in
    let u : DeskValue = after_turn (drawn v) (v.last + 1) (lines_of (v.last + 1) Seal c.args.now c.args.request.now.wish.declared (served_by opens.reply)) turn in
    let file = c.begin.ensures.begins as_told u lives.left tt opens.stands (live_after v.live turn (v.last + 1) c.in-Ok-opened.session lives) in
    number_drawn c.args.desk.now c.open_seal-opened.new.self c.begin.new.desk c.in-Ok-opened.session Seal c.served_since-served.result lives.left v u file.0 _ _ c.args.to.now c.begin.result
    c.requires.worth.1 file.2 lives.same c.in-Ok-opened.ensures.last c.begin.ensures.last

pub returns-in-Ok-opened-clause-lines : goal.returns-in-Ok-opened-clause-lines
returns-in-Ok-opened-clause-lines g c = λ job asked v work request stands.
    let random : List ℕ = c.fill.new.out in
    let o = opened_so _ c.open_seal-opened.new.self asked c.args.request.now c.args.now random v _ c.served_since-served.result c.journal-lines.result.now request
    (c.in-Ok-opened.ensures.opens v stands) (c.journal-lines.ensures.lines v stands) c.served_since-served.ensures in
    let b = has_begun asked random o.reply o.short (v.last + 1) c.in-Ok-opened.session o.answer in
    let lines : List JournalLine = lines_of (v.last + 1) Seal c.args.now asked.declared (served_by o.reply) in
    let turn : Turn ℕ = seal_opened (job_request asked) random o.reply o.short (v.last + 1) in
    let u : DeskValue = after_turn (drawn v) (v.last + 1) lines turn in
    let file = c.begin.ensures.begins as_told u (Sealing (sealing_of asked random b.materials)) tt o.stands (sealing_live v asked random o.reply o.short c.in-Ok-opened.session b) in
    let grown = draws_on v u file.0 c.in-Ok-opened.session lines (draws_next v lines turn) b.same file.2.desk in (
      file.0,
      file.1,
      seal_begun_adds job asked c.in-Ok-opened.session c.args.now c.served_since-served.result (served_by o.reply) (sealing_of asked random b.materials) v u file.0 _ _ c.args.to.now c.begin.result work
          grown.journal o.serves file.2,
    )

-- ---- none began

pub returns-in_ok-end_of-in-Err-clause-turn : goal.returns-in_ok-end_of-in-Err-clause-turn
returns-in_ok-end_of-in-Err-clause-turn g c = λ by first last job asked v from admits work to request stands.
    let manager : Saying = said g.M.Manager.state first last in
    let random : List ℕ = c.fill.new.out in
    let o = opened_so _ c.open_seal-opened.new.self asked c.args.request.now c.args.now random v _ c.served_since-served.result c.journal-lines.result.now request
    (c.in-Err.ensures.opens v stands) (c.journal-lines.ensures.lines v stands) c.served_since-served.ensures in
    let wraps : ℕ = (g.M.Manager.state c.args.desk.now.manager).meaning.wraps in
    let count : length random ≡ 64 + 12 * wraps = search rules in
    let told = says manager (g.M.Manager.state (manager_of c.args.desk.now)) (g.M.Manager.state (manager_of c.open_seal-opened.new.self)) asked c.args.now random o.short o.reply admits o.replies in
    let lines : List JournalLine = lines_of (v.last + 1) Seal c.args.now asked.declared (served_by o.reply) in
    let turn : Turn ℕ = seal_opened (job_request asked) random o.reply o.short (v.last + 1) in (
      _,
      o.stands,
      opens_none manager job asked v _ lines _ _ _ random o.reply o.short (v.last + 1) wraps c.in-Err.error c.in_ok-end_of-in-Err.field-0 c.served_since-served.result c.ended_job-in-Err.result work
          (draws_next v lines turn) (stands.undrawn (v.last + 1) (omega arith))
          (update_here v.live (v.last + 1) turn.left ∙ seal_error_none (job_request asked) random o.reply o.short (v.last + 1) c.in-Err.error o.answer)
          (record { told = c.in-Ok.ensures.bytes; came = c.in-Ok.ensures.drawn }) count admits.wraps told o.serves o.answer c.in_ok-end_of-in-Err.ensures c.ended_job-in-Err.ensures,
    )

pub returns-in_ok-end_of-in-Err-clause-lines : goal.returns-in_ok-end_of-in-Err-clause-lines
returns-in_ok-end_of-in-Err-clause-lines g c = λ job asked v work request stands.
    let random : List ℕ = c.fill.new.out in
    let o = opened_so _ c.open_seal-opened.new.self asked c.args.request.now c.args.now random v _ c.served_since-served.result c.journal-lines.result.now request
    (c.in-Err.ensures.opens v stands) (c.journal-lines.ensures.lines v stands) c.served_since-served.ensures in
    let turn : Turn ℕ = seal_opened (job_request asked) random o.reply o.short (v.last + 1) in
    let u : DeskValue = after_turn (drawn v) (v.last + 1) (lines_of (v.last + 1) Seal c.args.now asked.declared (served_by o.reply)) turn in (
      u,
      o.stands,
      seal_ended_adds job asked c.ended_job-in-Err.result v u c.args.now c.in_ok-end_of-in-Err.field-0 c.served_since-served.result (served_by o.reply) work c.ended_job-in-Err.ensures refl o.serves,
    )

-- ---- the moment

pub returns-in_default-clause-moment : goal.returns-in_default-clause-moment
returns-in_default-clause-moment g c = gains_none c.args.now _ _ refl

pub returns-in-Ok-opened-clause-moment : goal.returns-in-Ok-opened-clause-moment
returns-in-Ok-opened-clause-moment g c =
    let (v, stands) = c.requires.worth in
    gains_same c.args.now _ _ _ (sealed_gains _ c.args.desk.now c.open_seal-opened.new.self v c.args.request.now c.args.now c.fill.new.out _ stands (c.in-Ok-opened.ensures.opens v stands))
    c.begin.ensures.journal

pub returns-in_ok-end_of-in-Err-clause-moment : goal.returns-in_ok-end_of-in-Err-clause-moment
returns-in_ok-end_of-in-Err-clause-moment g c =
    let (v, stands) = c.requires.worth in
    sealed_gains _ c.args.desk.now c.open_seal-opened.new.self v c.args.request.now c.args.now c.fill.new.out _ stands (c.in-Err.ensures.opens v stands)

pub returns-in_err-end_of-in-Err-clause-moment : goal.returns-in_err-end_of-in-Err-clause-moment
returns-in_err-end_of-in-Err-clause-moment g c =
    let (v, stands) = c.requires.worth in
    sealed_gains _ c.args.desk.now c.open_seal-opened.new.self v c.args.request.now c.args.now c.fill.new.out _ stands (c.in-Err.ensures.opens v stands)

-- ---- what was counted

pub returns-in_default-clause-counts : goal.returns-in_default-clause-counts
returns-in_default-clause-counts g c = λ job to.
    ended_counts job c.ended_job.result _ _ (record { kind = Seal; end = ends.Outside outsides.EntropyFault; served = None }) c.ended_job.ensures c.in_default.ensures.cause.failed
    (rose_none _ _ (omega arith)) (rose_none _ _ (omega arith))

pub returns-in-Ok-opened-clause-counts : goal.returns-in-Ok-opened-clause-counts
returns-in-Ok-opened-clause-counts g c = λ job to.
    counts_from job c.begin.result _ _ _ refl c.fill.ensures.cause.later
    (omega (arith, c.in-Ok-opened.ensures.went.goes.later, ap (λ m. (g.M.Manager.state m).meaning.faults) c.begin.ensures.manager)) refl
    (c.begin.ensures.counts job (g.W.Entropy.state c.fill.new.self).faults (g.M.Manager.state (manager_of c.begin.new.desk)).meaning.faults to)

pub returns-in_ok-end_of-in-Err-clause-counts : goal.returns-in_ok-end_of-in-Err-clause-counts
returns-in_ok-end_of-in-Err-clause-counts g c = λ job to.
    let opened = c.in-Err.ensures in
    let end = c.in_ok-end_of-in-Err.field-0 in
    let named = c.in_ok-end_of-in-Err.ensures in
    let old = manager_of c.args.desk.now in
    let new = manager_of c.open_seal-opened.new.self in
    let rose = seal_rose (g.M.Manager.state old) (g.M.Manager.state new) c.args.now c.requires.worth.0 c.args.request.now c.fill.new.out c.in-Err.error c.open_seal-opened.new.self (opened.opens c.requires.worth.0 c.requires.worth.1) in
    ended_counts job c.ended_job-in-Err.result
    (tally_of (g.F.Shelf.state c.args.shelf.now) (g.W.Entropy.state c.args.entropy.now).faults (g.M.Manager.state (manager_of c.args.desk.now)).meaning.faults)
    (tally_of (g.F.Shelf.state c.args.shelf.now) (g.W.Entropy.state c.fill.new.self).faults (g.M.Manager.state (manager_of c.open_seal-opened.new.self)).meaning.faults) (record { kind = Seal; end = end; served = c.served_since-served.result }) c.ended_job-in-Err.ensures
    (rose_zero _ _ _ (entropy_sound c.in-Err.error end named) c.fill.ensures.cause.later)
    (keyring_counted c.in-Err.error end _ _ named opened.went.goes.later rose) (rose_zero _ _ _ (shelf_sound c.in-Err.error end named) (omega arith))

-- ---- the other sessions

pub returns-in_default-clause-sessions : goal.returns-in_default-clause-sessions
returns-in_default-clause-sessions g c = λ last under. keeps_same last 1 c.args.desk.now

pub returns-in-Ok-opened-clause-sessions : goal.returns-in-Ok-opened-clause-sessions
returns-in-Ok-opened-clause-sessions g c = λ last under.
    let v : DeskValue = c.requires.worth.0 in
    let opens = c.in-Ok-opened.ensures.opens v c.requires.worth.1 in
    let lives = seal_lives c.args.request.now c.fill.new.out opens.reply opens.short (v.last + 1) c.in-Ok-opened.session opens.answer in
    keeps_on last 1 0 1 c.args.desk.now c.open_seal-opened.new.self c.begin.new.desk
    (keeps_drawn last c.args.desk.now c.open_seal-opened.new.self c.requires.worth under (λ v stands.
    let o = c.in-Ok-opened.ensures.opens v stands in
    let lines : List JournalLine = seal_lines (v.last + 1) c.args.now c.args.request.now o.reply in
    let turn : Turn ℕ = seal_opened c.args.request.now c.fill.new.out o.reply o.short (v.last + 1) in
    (after_turn (drawn v) (v.last + 1) lines turn, o.stands, (lines, draws_next v lines turn))))
    (c.begin.ensures.sessions last (omega (arith, lives.same, under, c.requires.worth.1.last))) (omega (arith, c.in-Ok-opened.ensures.last))

pub returns-in_ok-end_of-in-Err-clause-sessions : goal.returns-in_ok-end_of-in-Err-clause-sessions
returns-in_ok-end_of-in-Err-clause-sessions g c = λ last under.
    keeps_drawn last c.args.desk.now c.open_seal-opened.new.self c.requires.worth under (λ v stands.
    let o = c.in-Err.ensures.opens v stands in
    let lines : List JournalLine = seal_lines (v.last + 1) c.args.now c.args.request.now o.reply in
    let turn : Turn ℕ = seal_opened c.args.request.now c.fill.new.out o.reply o.short (v.last + 1) in
    (after_turn (drawn v) (v.last + 1) lines turn, o.stands, (lines, draws_next v lines turn)))

pub returns-in_err-end_of-in-Err-clause-sessions : goal.returns-in_err-end_of-in-Err-clause-sessions
returns-in_err-end_of-in-Err-clause-sessions g c = λ last under.
    keeps_drawn last c.args.desk.now c.open_seal-opened.new.self c.requires.worth under (λ v stands.
    let o = c.in-Err.ensures.opens v stands in
    let lines : List JournalLine = seal_lines (v.last + 1) c.args.now c.args.request.now o.reply in
    let turn : Turn ℕ = seal_opened c.args.request.now c.fill.new.out o.reply o.short (v.last + 1) in
    (after_turn (drawn v) (v.last + 1) lines turn, o.stands, (lines, draws_next v lines turn)))

-- ---- the calls of the shelf

pub returns-in_default-clause-calls : goal.returns-in_default-clause-calls
returns-in_default-clause-calls g c = calls_none (IsWrite c.args.to.now) _

pub returns-in_ok-end_of-in-Err-clause-calls : goal.returns-in_ok-end_of-in-Err-clause-calls
returns-in_ok-end_of-in-Err-clause-calls g c = calls_none (IsWrite c.args.to.now) _

pub returns-in_err-end_of-in-Err-clause-calls : goal.returns-in_err-end_of-in-Err-clause-calls
returns-in_err-end_of-in-Err-clause-calls g c = calls_none (IsWrite c.args.to.now) _

-- ---- what making the file keeps

pub returns-in-Ok-opened-clause-kind : goal.returns-in-Ok-opened-clause-kind
returns-in-Ok-opened-clause-kind g c = c.begin.ensures.kind

pub returns-in-Ok-opened-clause-kept : goal.returns-in-Ok-opened-clause-kept
returns-in-Ok-opened-clause-kept g c = c.begin.ensures.kept

pub returns-in-Ok-opened-clause-calls : goal.returns-in-Ok-opened-clause-calls
returns-in-Ok-opened-clause-calls g c = c.begin.ensures.calls

pub returns-in-Ok-opened-clause-front : goal.returns-in-Ok-opened-clause-front
returns-in-Ok-opened-clause-front g c = c.begin.ensures.front

pub returns-in-Ok-opened-clause-worth : goal.returns-in-Ok-opened-clause-worth
returns-in-Ok-opened-clause-worth g c = c.begin.ensures.worth

-- ---- the file stays

pub returns-in_default-clause-kept : goal.returns-in_default-clause-kept
returns-in_default-clause-kept g c = keeps_all _ _

pub returns-in_ok-end_of-in-Err-clause-kept : goal.returns-in_ok-end_of-in-Err-clause-kept
returns-in_ok-end_of-in-Err-clause-kept g c = keeps_all _ _

pub returns-in_err-end_of-in-Err-clause-kept : goal.returns-in_err-end_of-in-Err-clause-kept
returns-in_err-end_of-in-Err-clause-kept g c = keeps_all _ _

-- ---- memory ran out

pub returns-in_err-end_of-in-Err-clause-turn : goal.returns-in_err-end_of-in-Err-clause-turn
returns-in_err-end_of-in-Err-clause-turn g c = λ by first last job asked v from admits work to request stands. IfOk-from_err c.from_residual.result _ c.from_residual.ensures.0

pub returns-in_err-end_of-in-Err-clause-numbers : goal.returns-in_err-end_of-in-Err-clause-numbers
returns-in_err-end_of-in-Err-clause-numbers g c = IfOk-from_err c.from_residual.result _ c.from_residual.ensures.0

pub returns-in_err-end_of-in-Err-clause-draws : goal.returns-in_err-end_of-in-Err-clause-draws
returns-in_err-end_of-in-Err-clause-draws g c = IfOk-from_err c.from_residual.result _ c.from_residual.ensures.0

pub returns-in_err-end_of-in-Err-clause-lines : goal.returns-in_err-end_of-in-Err-clause-lines
returns-in_err-end_of-in-Err-clause-lines g c = λ job asked v work request stands. IfOk-from_err c.from_residual.result _ c.from_residual.ensures.0

pub returns-in_err-end_of-in-Err-clause-kind : goal.returns-in_err-end_of-in-Err-clause-kind
returns-in_err-end_of-in-Err-clause-kind g c = λ work is. IfOk-from_err c.from_residual.result _ c.from_residual.ensures.0

pub returns-in_err-end_of-in-Err-clause-front : goal.returns-in_err-end_of-in-Err-clause-front
returns-in_err-end_of-in-Err-clause-front g c = IfOk-from_err c.from_residual.result _ c.from_residual.ensures.0

pub returns-in_err-end_of-in-Err-clause-counts : goal.returns-in_err-end_of-in-Err-clause-counts
returns-in_err-end_of-in-Err-clause-counts g c = λ job to. IfOk-from_err c.from_residual.result _ c.from_residual.ensures.0
