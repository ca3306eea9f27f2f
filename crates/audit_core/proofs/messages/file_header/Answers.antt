-- The source began at the front of the file.
use Rattle.std.proofs.Common.{rules, ap}
use Rattle.audit_core.proofs.MessageFiles.{header_found, header_not_found}
use Rattle.audit_core.proofs.messages.file_header.Goals as goal

pub returns-clause-header : goal.returns-clause-header
returns-clause-header g c =
    let source = c.new.result in
    let now = c.source_header.new.input in
    header_found (g.F.Shelf.state c.args.shelf.now) (g.F.Shelf.state now.shelf.now) _ c.args.name.now source.name.now now.name.now (g.F.Shelf.state source.shelf.now) source.at now.at source.faults now.faults source.came.bytes now.came.bytes
    source.ended now.ended
    c.source_header.result (search rules) (record {
      same = ap (λ s. g.F.Shelf.state s.now) c.new.ensures.shelf;
      named = ap (λ n. n.now) c.new.ensures.name;
      still = ap (λ n. n.now) c.source_header.ensures.lasts.1;
      zero_at = c.new.ensures.at;
      zero_faults = c.new.ensures.faults;
      nothing = c.new.ensures.came;
      unseen = c.new.ensures.ended;
      on = c.source_header.ensures.lasts.2;
      comes = c.source_header.ensures.lasts.3;
      few = c.source_header.ensures.taken;
    }) c.source_header.ensures.header

pub returns-clause-cause : goal.returns-clause-cause
returns-clause-cause g c =
    let source = c.new.result in
    let now = c.source_header.new.input in
    header_not_found (g.F.Shelf.state c.args.shelf.now) (g.F.Shelf.state now.shelf.now) _ c.args.name.now source.name.now now.name.now (g.F.Shelf.state source.shelf.now) source.at now.at source.faults now.faults source.came.bytes now.came.bytes
    source.ended now.ended
    c.source_header.result (search rules) (record {
      same = ap (λ s. g.F.Shelf.state s.now) c.new.ensures.shelf;
      named = ap (λ n. n.now) c.new.ensures.name;
      still = ap (λ n. n.now) c.source_header.ensures.lasts.1;
      zero_at = c.new.ensures.at;
      zero_faults = c.new.ensures.faults;
      nothing = c.new.ensures.came;
      unseen = c.new.ensures.ended;
      on = c.source_header.ensures.lasts.2;
      comes = c.source_header.ensures.lasts.3;
      few = c.source_header.ensures.taken;
    }) c.source_header.ensures.cause
