-- A job's first turn is that of its work.
use Rattle.std.proofs.Common.{ℕ, List, ap, arith, refl, sym, subst}
use Rattle.std.proofs.lemmas.Result.{IfOk-from_err, IfOk-weaker, on_ok_weaker}
use Rattle.desk_core.specs.Stands.{manager_of}
use Rattle.job_file.specs.JobFile.{IsWork}
use Rattle.job_file.specs.declared.job.Work.{Work}
use Rattle.esdk_batch.specs.Batch.{kind_of}
use Rattle.esdk_batch.specs.FileEndLaws.{calls_none}
use Rattle.esdk_batch.specs.SealStory.{SealAsked}
use Rattle.esdk_batch.specs.ShelfCalls.{HasCalls, IsWrite}
use Rattle.esdk_batch.proofs.Keeping.{keeps_same}
use Rattle.esdk_batch.proofs.Moments.{gains_none}
use Rattle.esdk_batch.proofs.TurnCounting.{counts_from}
use Rattle.esdk_batch.proofs.Wishes.{asks_as, none_absent}
use Rattle.esdk_batch.proofs.opening.open_job.Goals as goal

pub wish_of-requires : goal.wish_of-requires
wish_of-requires g c =
    let work = subst (λ (w : Work). IsWork w) c.in-Encrypt.is c.requires.work in
    none_absent c.in-Encrypt.context c.in-Encrypt.required work.2

pub returns-in_ok-wish-in-Encrypt-clause-turn : goal.returns-in_ok-wish-in-Encrypt-clause-turn
returns-in_ok-wish-in-Encrypt-clause-turn g c = λ by first last v from admits stands.
    let asked : SealAsked = record { declared = c.in-Encrypt.length; frame = c.in-Encrypt.frame; context = c.in-Encrypt.context; required = c.in-Encrypt.required } in
    let request = asks_as asked c.in_ok-wish-in-Encrypt.wish c.new-request.result c.new-request.ensures c.in_ok-wish-in-Encrypt.ensures in
    c.open_sealing.ensures.turn by first last c.args.job.now asked v from admits c.in-Encrypt.is (sym c.as_str-to.ensures.text) request stands

pub returns-in_ok-wish-in-Encrypt-clause-lines : goal.returns-in_ok-wish-in-Encrypt-clause-lines
returns-in_ok-wish-in-Encrypt-clause-lines g c = λ v stands.
    let asked : SealAsked = record { declared = c.in-Encrypt.length; frame = c.in-Encrypt.frame; context = c.in-Encrypt.context; required = c.in-Encrypt.required } in
    let request = asks_as asked c.in_ok-wish-in-Encrypt.wish c.new-request.result c.new-request.ensures c.in_ok-wish-in-Encrypt.ensures in
    c.open_sealing.ensures.lines c.args.job.now asked v c.in-Encrypt.is request stands

pub returns-in-Decrypt-clause-turn : goal.returns-in-Decrypt-clause-turn
returns-in-Decrypt-clause-turn g c = λ by first last v from admits stands.
    c.open_opening.ensures.turn by first last c.args.job.now c.in-Decrypt.required v (g.W.Entropy.state c.args.entropy.now) from c.in-Decrypt.is (sym c.as_str-to.ensures.text) stands

pub returns-in-Decrypt-clause-lines : goal.returns-in-Decrypt-clause-lines
returns-in-Decrypt-clause-lines g c = λ v stands. c.open_opening.ensures.lines c.args.job.now c.in-Decrypt.required v c.in-Decrypt.is stands

pub returns-in_ok-wish-in-Encrypt-clause-counts : goal.returns-in_ok-wish-in-Encrypt-clause-counts
returns-in_ok-wish-in-Encrypt-clause-counts g c = c.open_sealing.ensures.counts c.args.job.now (sym c.as_str-to.ensures.text)

pub returns-in-Decrypt-clause-counts : goal.returns-in-Decrypt-clause-counts
returns-in-Decrypt-clause-counts g c =
    let keyring = (g.M.Manager.state (manager_of c.open_opening.new.desk)).meaning.faults in
    IfOk-weaker c.open_opening.result _ _
    (λ next counts. counts_from c.args.job.now next _ _ _ refl (omega arith) (omega (arith, ap (λ m. (g.M.Manager.state m).meaning.faults) c.open_opening.ensures.manager)) refl counts)
    (c.open_opening.ensures.counts c.args.job.now (g.W.Entropy.state c.args.entropy.now).faults keyring (sym c.as_str-to.ensures.text))

-- ---- the calls of the shelf

pub returns-in_err-wish-in-Encrypt-clause-calls : goal.returns-in_err-wish-in-Encrypt-clause-calls
returns-in_err-wish-in-Encrypt-clause-calls g c = calls_none (IsWrite c.args.job.now.to) _

pub returns-in_ok-wish-in-Encrypt-clause-calls : goal.returns-in_ok-wish-in-Encrypt-clause-calls
returns-in_ok-wish-in-Encrypt-clause-calls g c = subst (λ (n : List ℕ). HasCalls (IsWrite n) (g.F.Shelf.state c.args.shelf.now) (g.F.Shelf.state c.open_sealing.new.shelf)) c.as_str-to.ensures.text c.open_sealing.ensures.calls

pub returns-in-Decrypt-clause-calls : goal.returns-in-Decrypt-clause-calls
returns-in-Decrypt-clause-calls g c = subst (λ (n : List ℕ). HasCalls (IsWrite n) (g.F.Shelf.state c.args.shelf.now) (g.F.Shelf.state c.open_opening.new.shelf)) c.as_str-to.ensures.text c.open_opening.ensures.calls

-- ---- the file, and the moment

pub returns-in_ok-wish-in-Encrypt-clause-kept : goal.returns-in_ok-wish-in-Encrypt-clause-kept
returns-in_ok-wish-in-Encrypt-clause-kept g c = rw c.as_str-to.ensures.text at c.open_sealing.ensures.kept

pub returns-in_ok-wish-in-Encrypt-clause-moment : goal.returns-in_ok-wish-in-Encrypt-clause-moment
returns-in_ok-wish-in-Encrypt-clause-moment g c = c.open_sealing.ensures.moment

pub returns-in-Decrypt-clause-kept : goal.returns-in-Decrypt-clause-kept
returns-in-Decrypt-clause-kept g c = rw c.as_str-to.ensures.text at c.open_opening.ensures.kept

pub returns-in-Decrypt-clause-moment : goal.returns-in-Decrypt-clause-moment
returns-in-Decrypt-clause-moment g c = gains_none c.args.now _ _ c.open_opening.ensures.journal

-- ---- the session, and what is drawn

pub returns-in_ok-wish-in-Encrypt-clause-numbers : goal.returns-in_ok-wish-in-Encrypt-clause-numbers
returns-in_ok-wish-in-Encrypt-clause-numbers g c = c.open_sealing.ensures.numbers

pub returns-in_ok-wish-in-Encrypt-clause-sessions : goal.returns-in_ok-wish-in-Encrypt-clause-sessions
returns-in_ok-wish-in-Encrypt-clause-sessions g c = c.open_sealing.ensures.sessions

pub returns-in_ok-wish-in-Encrypt-clause-draws : goal.returns-in_ok-wish-in-Encrypt-clause-draws
returns-in_ok-wish-in-Encrypt-clause-draws g c = c.open_sealing.ensures.draws

pub returns-in_ok-wish-in-Encrypt-clause-kind : goal.returns-in_ok-wish-in-Encrypt-clause-kind
returns-in_ok-wish-in-Encrypt-clause-kind g c = c.open_sealing.ensures.kind c.args.job.now.work (sym (ap kind_of c.in-Encrypt.is))

pub returns-in_ok-wish-in-Encrypt-clause-front : goal.returns-in_ok-wish-in-Encrypt-clause-front
returns-in_ok-wish-in-Encrypt-clause-front g c = c.open_sealing.ensures.front

pub returns-in_ok-wish-in-Encrypt-clause-went : goal.returns-in_ok-wish-in-Encrypt-clause-went
returns-in_ok-wish-in-Encrypt-clause-went g c = c.open_sealing.ensures.went

pub returns-in-Decrypt-clause-numbers : goal.returns-in-Decrypt-clause-numbers
returns-in-Decrypt-clause-numbers g c = c.open_opening.ensures.numbers

pub returns-in-Decrypt-clause-sessions : goal.returns-in-Decrypt-clause-sessions
returns-in-Decrypt-clause-sessions g c = c.open_opening.ensures.sessions

pub returns-in-Decrypt-clause-draws : goal.returns-in-Decrypt-clause-draws
returns-in-Decrypt-clause-draws g c = on_ok_weaker c.open_opening.result (λ last. (omega arith, λ stayed. last)) c.open_opening.ensures.last

pub returns-in-Decrypt-clause-kind : goal.returns-in-Decrypt-clause-kind
returns-in-Decrypt-clause-kind g c = c.open_opening.ensures.kind c.args.job.now.work (sym (ap kind_of c.in-Decrypt.is))

pub returns-in-Decrypt-clause-front : goal.returns-in-Decrypt-clause-front
returns-in-Decrypt-clause-front g c = c.open_opening.ensures.front

-- ---- where memory ran out

pub returns-in_err-wish-in-Encrypt-clause-turn : goal.returns-in_err-wish-in-Encrypt-clause-turn
returns-in_err-wish-in-Encrypt-clause-turn g c = λ by first last v from admits stands. IfOk-from_err c.from_residual.result _ c.from_residual.ensures.0

pub returns-in_err-wish-in-Encrypt-clause-numbers : goal.returns-in_err-wish-in-Encrypt-clause-numbers
returns-in_err-wish-in-Encrypt-clause-numbers g c = IfOk-from_err c.from_residual.result _ c.from_residual.ensures.0

pub returns-in_err-wish-in-Encrypt-clause-draws : goal.returns-in_err-wish-in-Encrypt-clause-draws
returns-in_err-wish-in-Encrypt-clause-draws g c = IfOk-from_err c.from_residual.result _ c.from_residual.ensures.0

pub returns-in_err-wish-in-Encrypt-clause-lines : goal.returns-in_err-wish-in-Encrypt-clause-lines
returns-in_err-wish-in-Encrypt-clause-lines g c = λ v stands. IfOk-from_err c.from_residual.result _ c.from_residual.ensures.0

pub returns-in_err-wish-in-Encrypt-clause-kind : goal.returns-in_err-wish-in-Encrypt-clause-kind
returns-in_err-wish-in-Encrypt-clause-kind g c = IfOk-from_err c.from_residual.result _ c.from_residual.ensures.0

pub returns-in_err-wish-in-Encrypt-clause-front : goal.returns-in_err-wish-in-Encrypt-clause-front
returns-in_err-wish-in-Encrypt-clause-front g c = IfOk-from_err c.from_residual.result _ c.from_residual.ensures.0

pub returns-in_err-wish-in-Encrypt-clause-counts : goal.returns-in_err-wish-in-Encrypt-clause-counts
returns-in_err-wish-in-Encrypt-clause-counts g c = IfOk-from_err c.from_residual.result _ c.from_residual.ensures.0

pub returns-in_err-wish-in-Encrypt-clause-sessions : goal.returns-in_err-wish-in-Encrypt-clause-sessions
returns-in_err-wish-in-Encrypt-clause-sessions g c = λ last under. keeps_same last 1 c.args.desk.now

pub returns-in_err-wish-in-Encrypt-clause-moment : goal.returns-in_err-wish-in-Encrypt-clause-moment
returns-in_err-wish-in-Encrypt-clause-moment g c = gains_none c.args.now _ _ refl
