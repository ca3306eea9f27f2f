use Rattle.std.proofs.Common.{◌∙◌, ◌+◌, ◌≤◌, ap, subst, sym}
use Rattle.esdk_base.specs.Streams.{ShelfState}
use Rattle.whole_input.specs.FileReads.{Grows}
use Rattle.extract_core.specs.Extract.{GaveHeader, HasHeader, HasNoHeader, OnFile, most_header, unheaded_as}
use Rattle.extract_core.proofs.Front.{front_grows, front_made, given_came, header_came, header_gave, none_came, none_given, shows_none}
use Rattle.extract_core.proofs.Writing.{none_done, passed_on}
use Rattle.extract_core.proofs.extraction.header_in.Goals as goal

pub unreachable-requires : goal.unreachable-requires
unreachable-requires g c =
    shows_none c.args.settings c.in_ok-reader.reader c.in_ok-reader.ensures.whole.bytes c.in_ok-reader.ensures.whole.holds (c.in-None.ensures _ c.in_ok-reader.ensures.whole.holds.stands)

pub returns-clause-header : goal.returns-clause-header
returns-clause-header g c =
    let old : ShelfState = g.F.Shelf.state c.args.shelf.now in
    let read : ShelfState = g.F.Shelf.state c.take_header.new.input.shelf.now in
    let made = c.new-file.result in
    let now = c.take_header.new.input in
    let lasts = c.take_header.ensures.lasts in
    let front = front_made (g.F.Shelf.state made.shelf.now) old read made.name.now c.args.name.now now.name.now made.at made.faults now.at now.faults made.came.bytes now.came.bytes made.ended now.ended (ap (λ r. g.F.Shelf.state r.now) c.new-file.ensures.shelf)
    (ap (λ r. r.now) c.new-file.ensures.name) c.new-file.ensures.at c.new-file.ensures.faults c.new-file.ensures.came c.new-file.ensures.ended (ap (λ r. r.now) lasts.1) lasts.2 lasts.3
    c.take_header.ensures.taken in
    subst (λ s. HasHeader c.args.settings old (g.F.Shelf.state s) c.args.name.now c.in-Some.header)
    (sym (c.shelf-1.given.1 (sym (lasts.0 ∙ ap (λ r. r.ghost_name) c.new-file.ensures.shelf))))
    (header_came c.args.settings c.in_ok-reader.reader old read c.args.name.now _ _ now.at c.in-Some.header front c.in_ok-reader.ensures.whole (c.in-Some.ensures _ c.in_ok-reader.ensures.whole.holds.stands))

pub returns-clause-gave : goal.returns-clause-gave
returns-clause-gave g c =
    let old : ShelfState = g.F.Shelf.state c.args.shelf.now in
    let read : ShelfState = g.F.Shelf.state c.take_header.new.input.shelf.now in
    let made = c.new-file.result in
    let now = c.take_header.new.input in
    let lasts = c.take_header.ensures.lasts in
    let front = front_made (g.F.Shelf.state made.shelf.now) old read made.name.now c.args.name.now now.name.now made.at made.faults now.at now.faults made.came.bytes now.came.bytes made.ended now.ended (ap (λ r. g.F.Shelf.state r.now) c.new-file.ensures.shelf)
    (ap (λ r. r.now) c.new-file.ensures.name) c.new-file.ensures.at c.new-file.ensures.faults c.new-file.ensures.came c.new-file.ensures.ended (ap (λ r. r.now) lasts.1) lasts.2 lasts.3
    c.take_header.ensures.taken in
    subst (λ s. GaveHeader c.args.settings old (g.F.Shelf.state s) c.args.name.now)
    (sym (c.shelf-1.given.1 (sym (lasts.0 ∙ ap (λ r. r.ghost_name) c.new-file.ensures.shelf))))
    (header_gave c.args.settings c.in_ok-reader.reader old read c.args.name.now _ _ now.at front c.in_ok-reader.ensures.whole)

pub returns-clause-given : goal.returns-clause-given
returns-clause-given g c =
    given_came c.args.settings c.in_ok-reader.reader (g.F.Shelf.state c.args.shelf.now) _ c.args.name.now c.in-Some.header (returns-clause-header g c)

pub returns-in_err-reader-clause-header : goal.returns-in_err-reader-clause-header
returns-in_err-reader-clause-header g c = none_done _ c.from_residual.result _ c.from_residual.ensures.1

pub returns-in_err-reader-clause-gave : goal.returns-in_err-reader-clause-gave
returns-in_err-reader-clause-gave g c = none_done _ c.from_residual.result _ c.from_residual.ensures.1

pub returns-in_err-reader-clause-none : goal.returns-in_err-reader-clause-none
returns-in_err-reader-clause-none g c =
    let old : ShelfState = g.F.Shelf.state c.args.shelf.now in
    let read : ShelfState = g.F.Shelf.state c.take_header.new.input.shelf.now in
    let made = c.new-file.result in
    let now = c.take_header.new.input in
    let lasts = c.take_header.ensures.lasts in
    let front = front_made (g.F.Shelf.state made.shelf.now) old read made.name.now c.args.name.now now.name.now made.at made.faults now.at now.faults made.came.bytes now.came.bytes made.ended now.ended (ap (λ r. g.F.Shelf.state r.now) c.new-file.ensures.shelf)
    (ap (λ r. r.now) c.new-file.ensures.name) c.new-file.ensures.at c.new-file.ensures.faults c.new-file.ensures.came c.new-file.ensures.ended (ap (λ r. r.now) lasts.1) lasts.2 lasts.3
    c.take_header.ensures.taken in
    passed_on _ c.from_residual.result c.in_err-reader.field-0.0 c.from_residual.ensures.1
    (subst (λ s. HasNoHeader c.args.settings old (g.F.Shelf.state s) c.args.name.now (unheaded_as c.in_err-reader.field-0.0))
    (sym (c.shelf-1.given.1 (sym (lasts.0 ∙ ap (λ r. r.ghost_name) c.new-file.ensures.shelf))))
    (none_came c.args.settings old read c.args.name.now _ _ now.at c.in_err-reader.field-0.0 front c.in_err-reader.ensures.cause))

pub returns-in_err-reader-clause-given : goal.returns-in_err-reader-clause-given
returns-in_err-reader-clause-given g c =
    let old : ShelfState = g.F.Shelf.state c.args.shelf.now in
    let read : ShelfState = g.F.Shelf.state c.take_header.new.input.shelf.now in
    let made = c.new-file.result in
    let now = c.take_header.new.input in
    let lasts = c.take_header.ensures.lasts in
    let front = front_made (g.F.Shelf.state made.shelf.now) old read made.name.now c.args.name.now now.name.now made.at made.faults now.at now.faults made.came.bytes now.came.bytes made.ended now.ended (ap (λ r. g.F.Shelf.state r.now) c.new-file.ensures.shelf)
    (ap (λ r. r.now) c.new-file.ensures.name) c.new-file.ensures.at c.new-file.ensures.faults c.new-file.ensures.came c.new-file.ensures.ended (ap (λ r. r.now) lasts.1) lasts.2 lasts.3
    c.take_header.ensures.taken in
    subst (λ s. OnFile old (g.F.Shelf.state s) c.args.name.now (λ bytes. (g.F.Shelf.state s).given ≤ old.given + most_header c.args.settings bytes))
    (sym (c.shelf-1.given.1 (sym (lasts.0 ∙ ap (λ r. r.ghost_name) c.new-file.ensures.shelf))))
    (none_given c.args.settings old read c.args.name.now _ _ now.at c.in_err-reader.field-0.0 front c.in_err-reader.ensures.cause)

pub returns-clause-calls : goal.returns-clause-calls
returns-clause-calls g c =
    let old : ShelfState = g.F.Shelf.state c.args.shelf.now in
    let read : ShelfState = g.F.Shelf.state c.take_header.new.input.shelf.now in
    let made = c.new-file.result in
    let now = c.take_header.new.input in
    let lasts = c.take_header.ensures.lasts in
    let front = front_made (g.F.Shelf.state made.shelf.now) old read made.name.now c.args.name.now now.name.now made.at made.faults now.at now.faults made.came.bytes now.came.bytes made.ended now.ended (ap (λ r. g.F.Shelf.state r.now) c.new-file.ensures.shelf)
    (ap (λ r. r.now) c.new-file.ensures.name) c.new-file.ensures.at c.new-file.ensures.faults c.new-file.ensures.came c.new-file.ensures.ended (ap (λ r. r.now) lasts.1) lasts.2 lasts.3
    c.take_header.ensures.taken in
    subst (λ s. Grows old.calls (g.F.Shelf.state s).calls) (sym (c.shelf-1.given.1 (sym (lasts.0 ∙ ap (λ r. r.ghost_name) c.new-file.ensures.shelf))))
    (front_grows old read c.args.name.now _ _ now.at front)

pub returns-in_err-reader-clause-calls : goal.returns-in_err-reader-clause-calls
returns-in_err-reader-clause-calls g c =
    let old : ShelfState = g.F.Shelf.state c.args.shelf.now in
    let read : ShelfState = g.F.Shelf.state c.take_header.new.input.shelf.now in
    let made = c.new-file.result in
    let now = c.take_header.new.input in
    let lasts = c.take_header.ensures.lasts in
    let front = front_made (g.F.Shelf.state made.shelf.now) old read made.name.now c.args.name.now now.name.now made.at made.faults now.at now.faults made.came.bytes now.came.bytes made.ended now.ended (ap (λ r. g.F.Shelf.state r.now) c.new-file.ensures.shelf)
    (ap (λ r. r.now) c.new-file.ensures.name) c.new-file.ensures.at c.new-file.ensures.faults c.new-file.ensures.came c.new-file.ensures.ended (ap (λ r. r.now) lasts.1) lasts.2 lasts.3
    c.take_header.ensures.taken in
    subst (λ s. Grows old.calls (g.F.Shelf.state s).calls) (sym (c.shelf-1.given.1 (sym (lasts.0 ∙ ap (λ r. r.ghost_name) c.new-file.ensures.shelf))))
    (front_grows old read c.args.name.now _ _ now.at front)
