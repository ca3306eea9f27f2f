use Rattle.std.proofs.Common.{◌≡◌, ℕ, false, true, Some, Err, List, ◌++◌, take, refl, sym, ap, subst, ◌∙◌}
use Rattle.context_codec.specs.Context.{KeyValue}
use Rattle.header_codec.specs.declared.session.HeaderReader.{HeaderReader}
use Rattle.header_codec.specs.Header.{HeaderValue}
use Rattle.header_codec.specs.Session.{Session}
use Rattle.header_codec.specs.Stands.{Stands as Reads}
use Rattle.keyring_trait.specs.declared.served.Served.{Served}
use Rattle.keyring_trait.specs.Manager.{ManagerNow}
use Rattle.keyring_trait.specs.Materials.{DecMaterialsValue}
use Rattle.stream_open.specs.declared.errors.OpenError.{OpenError}
use Rattle.stream_open.specs.declared.session.Opener.{Opener}
use Rattle.message_format.specs.declared.unlock_errors.UnlockError.{UnlockError}
use Rattle.message_format.specs.Unlocking.{request_of, Answered, Unanswered}
use Rattle.stream_open.specs.Errors.{locked_as}
use Rattle.stream_open.specs.Stands.{OpenerSteps}
use Rattle.stream_open.proofs.Headers.{Shown, shown, was_asked, not_shown, used_within}
use Rattle.stream_open.proofs.HeaderSteps.{locked_at, steps_unread, steps_waiting, steps_unanswered, steps_not_unlocked, steps_opened, steps_failed}
use Rattle.stream_open.proofs.Locks.{begun_lock, kept_lock}
use Rattle.stream_open.proofs.session.Opener.step_header.Goals as goal

pub returns-in-Err-clause-steps : goal.returns-in-Err-clause-steps
returns-in-Err-clause-steps g c = λ v stands.
    let old : ManagerNow = g.M.Manager.state c.args.manager.now in
    let new : ManagerNow = g.M.Manager.state c.args.manager.now in
    let moment : ℕ = c.args.now in
    let going : v.stopped ≡ false = sym stands.stopped ∙ c.requires.going in
    let lock = locked_at c.args.self.now v c.requires.locked stands in
    let piece : List ℕ = c.args.piece.now in
    let before : Session = record { settings = v.settings; taken = v.taken; stopped = false } in
    let next : Opener = record c.args.self.now { reader = c.step.new.self; stopped = true } in
    subst (λ (error : OpenError). OpenerSteps old new moment v piece (Err error) next) (sym c.unread.ensures)
    (steps_unread old new moment c.args.self.now next v piece c.in-Err.error (c.in-Err.ensures.answer before (lock.reads going)) stands going lock (λ lines h. h) refl refl refl refl c.requires.locked)

pub returns-in_default-clause-steps : goal.returns-in_default-clause-steps
returns-in_default-clause-steps g c = λ v stands.
    let old : ManagerNow = g.M.Manager.state c.args.manager.now in
    let new : ManagerNow = g.M.Manager.state c.args.manager.now in
    let moment : ℕ = c.args.now in
    let going : v.stopped ≡ false = sym stands.stopped ∙ c.requires.going in
    let lock = locked_at c.args.self.now v c.requires.locked stands in
    let piece : List ℕ = c.args.piece.now in
    let before : Session = record { settings = v.settings; taken = v.taken; stopped = false } in
    let used : ℕ = c.in-Ok.step.used in
    let answer = c.in-Ok.ensures.answer before (lock.reads going) in
    let after : Session = record { settings = v.settings; taken = v.taken ++ take used piece; stopped = false } in
    let reads : Reads c.step.new.self after = c.in-Ok.ensures.stands before (lock.reads going) in
    let front = c.in_default.ensures.shows after reads in
    let none = not_shown v.taken piece v.settings c.in-Ok.step answer front in
    steps_waiting old new moment c.args.self.now (record c.args.self.now { reader = c.take_header.new.self; stopped = false }) v piece used stands going lock (λ lines h. h) none.all none.whole front
    (subst (λ (r : HeaderReader). Reads r after) (sym (c.in_default.ensures.same refl)) reads)
    refl refl refl refl c.requires.locked

pub returns-in_default-clause-within : goal.returns-in_default-clause-within
returns-in_default-clause-within g c = λ v stands.
    let going : v.stopped ≡ false = sym stands.stopped ∙ c.requires.going in
    let lock = locked_at c.args.self.now v c.requires.locked stands in
    used_within v.taken c.args.piece.now v.settings c.in-Ok.step (c.in-Ok.ensures.answer (record { settings = v.settings; taken = v.taken; stopped = false }) (lock.reads going))

pub returns-in_err-asked-clause-steps : goal.returns-in_err-asked-clause-steps
returns-in_err-asked-clause-steps g c = λ v stands.
    let old : ManagerNow = g.M.Manager.state c.args.manager.now in
    let new : ManagerNow = g.M.Manager.state c.materials_for.new.manager in
    let moment : ℕ = c.args.now in
    let going : v.stopped ≡ false = sym stands.stopped ∙ c.requires.going in
    let lock = locked_at c.args.self.now v c.requires.locked stands in
    let piece : List ℕ = c.args.piece.now in
    let before : Session = record { settings = v.settings; taken = v.taken; stopped = false } in
    let used : ℕ = c.in-Ok.step.used in
    let answer = c.in-Ok.ensures.answer before (lock.reads going) in
    let after : Session = record { settings = v.settings; taken = v.taken ++ take used piece; stopped = false } in
    let reads : Reads c.step.new.self after = c.in-Ok.ensures.stands before (lock.reads going) in
    let h : HeaderValue = c.in-Some.header in
    let header_is : Shown v piece used h = shown v piece used h (c.in-Some.ensures.shows after reads) in
    let error : UnlockError = c.in_err-asked.field-0.0 in
    let next : Opener = record c.args.self.now { reader = c.take_header.new.self; stopped = true } in
    let cause : Unanswered old new moment (request_of v.given h) error = subst (λ (given : List KeyValue). Unanswered old new moment (request_of given h) error) stands.given c.in_err-asked.ensures.cause in
    steps_failed old new moment next v piece c.from_residual.result (locked_as error) c.from_residual.ensures.1
    (steps_unanswered old new moment c.args.self.now next v piece used h error stands going lock header_is cause refl refl refl refl c.requires.locked)

pub returns-in_err-begun-clause-steps : goal.returns-in_err-begun-clause-steps
returns-in_err-begun-clause-steps g c = λ v stands.
    let old : ManagerNow = g.M.Manager.state c.args.manager.now in
    let new : ManagerNow = g.M.Manager.state c.materials_for.new.manager in
    let moment : ℕ = c.args.now in
    let going : v.stopped ≡ false = sym stands.stopped ∙ c.requires.going in
    let lock = locked_at c.args.self.now v c.requires.locked stands in
    let piece : List ℕ = c.args.piece.now in
    let before : Session = record { settings = v.settings; taken = v.taken; stopped = false } in
    let used : ℕ = c.in-Ok.step.used in
    let answer = c.in-Ok.ensures.answer before (lock.reads going) in
    let after : Session = record { settings = v.settings; taken = v.taken ++ take used piece; stopped = false } in
    let reads : Reads c.step.new.self after = c.in-Ok.ensures.stands before (lock.reads going) in
    let h : HeaderValue = c.in-Some.header in
    let header_is : Shown v piece used h = shown v piece used h (c.in-Some.ensures.shows after reads) in
    let m : DecMaterialsValue = c.in_ok-asked.asked.materials in
    let answered : Answered old new moment (request_of v.given h) m = subst (λ (given : List KeyValue). Answered old new moment (request_of given h) m) stands.given c.in_ok-asked.ensures.found in
    let error : UnlockError = c.in_err-begun.field-0.0 in
    let next : Opener = record c.args.self.now { reader = c.take_header.new.self; served = Some c.served.result; stopped = true } in
    steps_failed old new moment next v piece c.from_residual-in_err-begun.result (locked_as error) c.from_residual-in_err-begun.ensures.1
    (steps_not_unlocked old new moment c.args.self.now next v piece used h m error stands going lock header_is answered (kept_lock h _ m error c.in_ok-asked.ensures.lock c.in_err-begun.ensures.cause) refl refl (ap (λ (s : Served). Some s) c.served.ensures) refl
    c.requires.locked)

pub returns-clause-steps : goal.returns-clause-steps
returns-clause-steps g c = λ v stands.
    let old : ManagerNow = g.M.Manager.state c.args.manager.now in
    let new : ManagerNow = g.M.Manager.state c.materials_for.new.manager in
    let moment : ℕ = c.args.now in
    let going : v.stopped ≡ false = sym stands.stopped ∙ c.requires.going in
    let lock = locked_at c.args.self.now v c.requires.locked stands in
    let piece : List ℕ = c.args.piece.now in
    let before : Session = record { settings = v.settings; taken = v.taken; stopped = false } in
    let used : ℕ = c.in-Ok.step.used in
    let answer = c.in-Ok.ensures.answer before (lock.reads going) in
    let after : Session = record { settings = v.settings; taken = v.taken ++ take used piece; stopped = false } in
    let reads : Reads c.step.new.self after = c.in-Ok.ensures.stands before (lock.reads going) in
    let h : HeaderValue = c.in-Some.header in
    let header_is : Shown v piece used h = shown v piece used h (c.in-Some.ensures.shows after reads) in
    let m : DecMaterialsValue = c.in_ok-asked.asked.materials in
    let answered : Answered old new moment (request_of v.given h) m = subst (λ (given : List KeyValue). Answered old new moment (request_of given h) m) stands.given c.in_ok-asked.ensures.found in
    let next : Opener = record c.args.self.now { reader = c.take_header.new.self; served = Some c.served.result; unlocked = Some c.in_ok-begun.field-0; stopped = false } in
    steps_opened old new moment c.args.self.now next v piece used h m c.in_ok-begun.field-0 stands going lock header_is (used_within v.taken piece v.settings c.in-Ok.step answer) answered
    (begun_lock c.in_ok-begun.field-0 h _ c.args.self.now.settings.max_unit m c.in_ok-asked.ensures.lock c.in_ok-begun.ensures.unlocked) refl refl (ap (λ (s : Served). Some s) c.served.ensures) refl refl

pub returns-clause-within : goal.returns-clause-within
returns-clause-within g c = λ v stands.
    let going : v.stopped ≡ false = sym stands.stopped ∙ c.requires.going in
    let lock = locked_at c.args.self.now v c.requires.locked stands in
    used_within v.taken c.args.piece.now v.settings c.in-Ok.step (c.in-Ok.ensures.answer (record { settings = v.settings; taken = v.taken; stopped = false }) (lock.reads going))

pub returns-in_err-asked-clause-unasked : goal.returns-in_err-asked-clause-unasked
returns-in_err-asked-clause-unasked g c = λ v stands none.
    let going : v.stopped ≡ false = sym stands.stopped ∙ c.requires.going in
    let lock = locked_at c.args.self.now v c.requires.locked stands in
    let piece : List ℕ = c.args.piece.now in
    let before : Session = record { settings = v.settings; taken = v.taken; stopped = false } in
    let used : ℕ = c.in-Ok.step.used in
    let after : Session = record { settings = v.settings; taken = v.taken ++ take used piece; stopped = false } in
    let reads : Reads c.step.new.self after = c.in-Ok.ensures.stands before (lock.reads going) in
    let h : HeaderValue = c.in-Some.header in
    absurd (was_asked v piece used h going (lock.unheard going) (shown v piece used h (c.in-Some.ensures.shows after reads)) none)

pub returns-in_err-begun-clause-unasked : goal.returns-in_err-begun-clause-unasked
returns-in_err-begun-clause-unasked g c = λ v stands none.
    let going : v.stopped ≡ false = sym stands.stopped ∙ c.requires.going in
    let lock = locked_at c.args.self.now v c.requires.locked stands in
    let piece : List ℕ = c.args.piece.now in
    let before : Session = record { settings = v.settings; taken = v.taken; stopped = false } in
    let used : ℕ = c.in-Ok.step.used in
    let after : Session = record { settings = v.settings; taken = v.taken ++ take used piece; stopped = false } in
    let reads : Reads c.step.new.self after = c.in-Ok.ensures.stands before (lock.reads going) in
    let h : HeaderValue = c.in-Some.header in
    absurd (was_asked v piece used h going (lock.unheard going) (shown v piece used h (c.in-Some.ensures.shows after reads)) none)

pub returns-clause-unasked : goal.returns-clause-unasked
returns-clause-unasked g c = λ v stands none.
    let going : v.stopped ≡ false = sym stands.stopped ∙ c.requires.going in
    let lock = locked_at c.args.self.now v c.requires.locked stands in
    let piece : List ℕ = c.args.piece.now in
    let before : Session = record { settings = v.settings; taken = v.taken; stopped = false } in
    let used : ℕ = c.in-Ok.step.used in
    let after : Session = record { settings = v.settings; taken = v.taken ++ take used piece; stopped = false } in
    let reads : Reads c.step.new.self after = c.in-Ok.ensures.stands before (lock.reads going) in
    let h : HeaderValue = c.in-Some.header in
    absurd (was_asked v piece used h going (lock.unheard going) (shown v piece used h (c.in-Some.ensures.shows after reads)) none)
