use Rattle.std.proofs.Common.{◌≡◌, ◌∙◌, length, subst}
use Rattle.std.specs.Prelude.{MatchOption}
use Rattle.esdk_memory.specs.MemFiles.{IsRowOf, place_of}
use Rattle.esdk_memory.proofs.Rows.{has_room}
use Rattle.esdk_memory.proofs.mem_files.MemFiles.has_room.Goals as goal

pub returns : goal.returns
returns c =
    c.is_some.ensures ∙ has_room c.self.inside.rows.items c.args.self.now c.args.name.now c.row_of.result c.self.view_is (subst (λ r. MatchOption c.row_of.result (place_of c.args.name.now r ≡ length r) (IsRowOf c.args.name.now r)) c.deref.ensures.value c.row_of.ensures)
