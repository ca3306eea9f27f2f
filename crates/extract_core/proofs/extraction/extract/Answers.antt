use Rattle.std.proofs.Common.{◌≡◌, ◌∙◌, ℕ, IfOk, None, Some, inl, inr, refl, subst, sym}
use Rattle.extract_core.specs.declared.errors.ExtractError.TheVariants as errors
use Rattle.extract_core.specs.Extract.{ExtractEnds, range_of, unheaded_as}
use Rattle.esdk_decrypt.specs.Decrypt.{asked_from}
use Rattle.extract_core.proofs.Extracting.{bears_locked, extract_ends, extract_given, extracts_all, given_less, header_given, stays_locked, without_header, writes_none}
use Rattle.extract_core.proofs.Front.{gave_later}
use Rattle.whole_input.proofs.Agreeing.{grows_more}
use Rattle.extract_core.proofs.Writing.{none_done, passed_on}
use Rattle.extract_core.proofs.extraction.extract.Goals as goal

-- no header came

pub returns-in-Err-clause-unasked : goal.returns-in-Err-clause-unasked
returns-in-Err-clause-unasked g c = inr refl

pub returns-in-Err-clause-done : goal.returns-in-Err-clause-done
returns-in-Err-clause-done g c = tt

pub returns-in-Err-clause-files : goal.returns-in-Err-clause-files
returns-in-Err-clause-files g c = c.header_in.ensures.files

pub returns-in-Err-clause-faults : goal.returns-in-Err-clause-faults
returns-in-Err-clause-faults g c = tt

pub returns-in-Err-clause-calls : goal.returns-in-Err-clause-calls
returns-in-Err-clause-calls g c = c.header_in.ensures.calls

pub returns-in-Err-clause-went : goal.returns-in-Err-clause-went
returns-in-Err-clause-went g c = c.wraps-wraps.ensures.stays

pub returns-in-Err-clause-ends : goal.returns-in-Err-clause-ends
returns-in-Err-clause-ends g c =
    let m = g.M.Manager.state c.args.manager.now in
    let asked = asked_from m m c.args.now c.args.settings c.args.given.now in
    subst (λ e. ExtractEnds asked (range_of c.args.at c.args.count) (g.F.Shelf.state c.args.shelf.now) (g.F.Shelf.state c.header_in.new.shelf) c.args.name.now (g.O.Sink.state c.args.output.now)
    (g.O.Sink.state c.args.output.now) (c.args.output.now ≡ c.args.output.now) e) (sym c.unheaded_as.ensures)
    (without_header asked (range_of c.args.at c.args.count) (g.F.Shelf.state c.args.shelf.now) (g.F.Shelf.state c.header_in.new.shelf) c.args.name.now (g.O.Sink.state c.args.output.now) _
    (unheaded_as c.in-Err.error) refl c.in-Err.ensures.none c.header_in.ensures.given)

pub returns-in-Err-clause-given : goal.returns-in-Err-clause-given
returns-in-Err-clause-given g c =
    given_less c.args.settings (range_of c.args.at c.args.count) (g.F.Shelf.state c.args.shelf.now) (g.F.Shelf.state c.header_in.new.shelf) c.args.name.now c.header_in.ensures.given

pub returns-in-Err-clause-bears : goal.returns-in-Err-clause-bears
returns-in-Err-clause-bears g c = (None, λ lines bore. bore)

-- the header stays locked

pub returns-in-Err-unlock-clause-done : goal.returns-in-Err-unlock-clause-done
returns-in-Err-unlock-clause-done g c = tt

pub returns-in-Err-unlock-clause-files : goal.returns-in-Err-unlock-clause-files
returns-in-Err-unlock-clause-files g c = c.header_in.ensures.files

pub returns-in-Err-unlock-clause-faults : goal.returns-in-Err-unlock-clause-faults
returns-in-Err-unlock-clause-faults g c = tt

pub returns-in-Err-unlock-clause-calls : goal.returns-in-Err-unlock-clause-calls
returns-in-Err-unlock-clause-calls g c = c.header_in.ensures.calls

pub returns-in-Err-unlock-clause-went : goal.returns-in-Err-unlock-clause-went
returns-in-Err-unlock-clause-went g c = c.unlock.ensures.went

pub returns-in-Err-unlock-clause-ends : goal.returns-in-Err-unlock-clause-ends
returns-in-Err-unlock-clause-ends g c =
    let old = g.M.Manager.state c.args.manager.now in
    let new = g.M.Manager.state c.unlock.new.manager in
    subst (λ e. ExtractEnds (asked_from old new c.args.now c.args.settings c.args.given.now) (range_of c.args.at c.args.count) (g.F.Shelf.state c.args.shelf.now) (g.F.Shelf.state c.header_in.new.shelf) c.args.name.now
    (g.O.Sink.state c.args.output.now) (g.O.Sink.state c.args.output.now) (c.args.output.now ≡ c.args.output.now) e) (sym c.locked_as.ensures)
    (stays_locked old new c.args.now c.args.settings c.args.given.now (range_of c.args.at c.args.count) (g.F.Shelf.state c.args.shelf.now) (g.F.Shelf.state c.header_in.new.shelf) c.args.name.now
    (g.O.Sink.state c.args.output.now) _ c.in-Ok.header c.in-Err-unlock.error refl c.in-Ok.ensures.header c.in-Err-unlock.ensures.cause)

pub returns-in-Err-unlock-clause-bears : goal.returns-in-Err-unlock-clause-bears
returns-in-Err-unlock-clause-bears g c =
    bears_locked (g.M.Manager.state c.args.manager.now) (g.M.Manager.state c.unlock.new.manager) c.args.now c.args.given.now c.in-Ok.header c.in-Err-unlock.error c.in-Err-unlock.ensures.cause

pub returns-in-Err-unlock-clause-unasked : goal.returns-in-Err-unlock-clause-unasked
returns-in-Err-unlock-clause-unasked g c = inl c.in-Ok.ensures.gave

pub returns-in-Err-unlock-clause-given : goal.returns-in-Err-unlock-clause-given
returns-in-Err-unlock-clause-given g c =
    header_given c.args.settings (range_of c.args.at c.args.count) (g.F.Shelf.state c.args.shelf.now) (g.F.Shelf.state c.header_in.new.shelf) c.args.name.now c.in-Ok.header c.in-Ok.ensures.header

-- there is no memory for the slots

pub returns-in_err-slots-clause-done : goal.returns-in_err-slots-clause-done
returns-in_err-slots-clause-done g c = none_done _ c.from_residual.result errors.Memory c.from_residual.ensures.1

pub returns-in_err-slots-clause-ends : goal.returns-in_err-slots-clause-ends
returns-in_err-slots-clause-ends g c =
    let old = g.M.Manager.state c.args.manager.now in
    let new = g.M.Manager.state c.unlock.new.manager in
    passed_on _ c.from_residual.result errors.Memory c.from_residual.ensures.1 (
      c.in-Ok.ensures.header.faults,
      writes_none (asked_from old new c.args.now c.args.settings c.args.given.now) (range_of c.args.at c.args.count) (g.F.Shelf.state c.args.shelf.now) (g.F.Shelf.state c.header_in.new.shelf) c.args.name.now
          (g.O.Sink.state c.args.output.now) (g.O.Sink.state c.args.output.now) _ refl,
    )

pub returns-in_err-slots-clause-files : goal.returns-in_err-slots-clause-files
returns-in_err-slots-clause-files g c = c.header_in.ensures.files

pub returns-in_err-slots-clause-faults : goal.returns-in_err-slots-clause-faults
returns-in_err-slots-clause-faults g c = none_done _ c.from_residual.result errors.Memory c.from_residual.ensures.1

pub returns-in_err-slots-clause-given : goal.returns-in_err-slots-clause-given
returns-in_err-slots-clause-given g c =
    header_given c.args.settings (range_of c.args.at c.args.count) (g.F.Shelf.state c.args.shelf.now) (g.F.Shelf.state c.header_in.new.shelf) c.args.name.now c.in-Ok.header c.in-Ok.ensures.header

pub returns-in_err-slots-clause-calls : goal.returns-in_err-slots-clause-calls
returns-in_err-slots-clause-calls g c = c.header_in.ensures.calls

pub returns-in_err-slots-clause-went : goal.returns-in_err-slots-clause-went
returns-in_err-slots-clause-went g c = c.unlock.ensures.went

pub returns-in_err-slots-clause-bears : goal.returns-in_err-slots-clause-bears
returns-in_err-slots-clause-bears g c = (Some c.in-Ok-unlock.ensures.unlocked.materials.served, c.in-Ok-unlock.ensures.unlocked.answered.bears)

pub returns-in_err-slots-clause-unasked : goal.returns-in_err-slots-clause-unasked
returns-in_err-slots-clause-unasked g c = inl c.in-Ok.ensures.gave

-- the slots are read

pub returns-clause-done : goal.returns-clause-done
returns-clause-done g c =
    extracts_all (g.M.Manager.state c.args.manager.now) (g.M.Manager.state c.unlock.new.manager) c.args.now c.args.settings c.args.given.now (g.F.Shelf.state c.args.shelf.now) (g.F.Shelf.state c.header_in.new.shelf) (g.F.Shelf.state c.write_range.new.shelf)
    c.args.name.now c.in_ok-slots.slots (range_of c.args.at c.args.count) (g.O.Sink.state c.args.output.now) (g.O.Sink.state c.write_range.new.output) c.write_range.result
    (record {
      h = c.in-Ok.header;
      opened = c.in-Ok-unlock.opened;
      begin = c.body_begin-begin.result;
      has = c.in-Ok.ensures.header;
      files = c.in-Ok.ensures.files;
      grown = c.in-Ok.ensures.calls;
      later = c.write_range.ensures.calls;
      unlocked = c.in-Ok-unlock.ensures.unlocked;
      slots = c.in_ok-slots.ensures;
      at = c.body_begin-begin.ensures.value;
    })
    c.write_range.ensures.done c.write_range.ensures.given

pub returns-clause-ends : goal.returns-clause-ends
returns-clause-ends g c =
    extract_ends (g.M.Manager.state c.args.manager.now) (g.M.Manager.state c.unlock.new.manager) c.args.now c.args.settings c.args.given.now (g.F.Shelf.state c.args.shelf.now) (g.F.Shelf.state c.header_in.new.shelf) (g.F.Shelf.state c.write_range.new.shelf)
    c.args.name.now c.in_ok-slots.slots (range_of c.args.at c.args.count) (g.O.Sink.state c.args.output.now) (g.O.Sink.state c.write_range.new.output) _ c.write_range.result
    (record {
      h = c.in-Ok.header;
      opened = c.in-Ok-unlock.opened;
      begin = c.body_begin-begin.result;
      has = c.in-Ok.ensures.header;
      files = c.in-Ok.ensures.files;
      grown = c.in-Ok.ensures.calls;
      later = c.write_range.ensures.calls;
      unlocked = c.in-Ok-unlock.ensures.unlocked;
      slots = c.in_ok-slots.ensures;
      at = c.body_begin-begin.ensures.value;
    })
    c.write_range.ensures.fails c.write_range.ensures.given

pub returns-clause-given : goal.returns-clause-given
returns-clause-given g c =
    extract_given (g.M.Manager.state c.args.manager.now) (g.M.Manager.state c.unlock.new.manager) c.args.now c.args.settings c.args.given.now (g.F.Shelf.state c.args.shelf.now) (g.F.Shelf.state c.header_in.new.shelf) (g.F.Shelf.state c.write_range.new.shelf)
    c.args.name.now c.in_ok-slots.slots (range_of c.args.at c.args.count)
    (record {
      h = c.in-Ok.header;
      opened = c.in-Ok-unlock.opened;
      begin = c.body_begin-begin.result;
      has = c.in-Ok.ensures.header;
      files = c.in-Ok.ensures.files;
      grown = c.in-Ok.ensures.calls;
      later = c.write_range.ensures.calls;
      unlocked = c.in-Ok-unlock.ensures.unlocked;
      slots = c.in_ok-slots.ensures;
      at = c.body_begin-begin.ensures.value;
    })
    c.write_range.ensures.given

pub returns-clause-bears : goal.returns-clause-bears
returns-clause-bears g c = (Some c.in-Ok-unlock.ensures.unlocked.materials.served, c.in-Ok-unlock.ensures.unlocked.answered.bears)

pub returns-clause-unasked : goal.returns-clause-unasked
returns-clause-unasked g c =
    inl (gave_later c.args.settings (g.F.Shelf.state c.args.shelf.now) (g.F.Shelf.state c.header_in.new.shelf) (g.F.Shelf.state c.write_range.new.shelf) c.args.name.now c.in-Ok.ensures.gave c.write_range.ensures.calls)

pub returns-clause-files : goal.returns-clause-files
returns-clause-files g c = c.write_range.ensures.files ∙ c.header_in.ensures.files

pub returns-clause-faults : goal.returns-clause-faults
returns-clause-faults g c =
    subst (λ (n : ℕ). IfOk c.write_range.result (λ written. (g.F.Shelf.state c.write_range.new.shelf).faults ≡ n)) c.in-Ok.ensures.header.faults c.write_range.ensures.faults

pub returns-clause-calls : goal.returns-clause-calls
returns-clause-calls g c = grows_more _ _ _ c.header_in.ensures.calls c.write_range.ensures.calls

pub returns-clause-went : goal.returns-clause-went
returns-clause-went g c = c.unlock.ensures.went
