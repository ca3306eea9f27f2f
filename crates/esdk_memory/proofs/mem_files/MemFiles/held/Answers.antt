use Rattle.std.proofs.Common.{◌≡◌, ◌∙◌, length, subst, sym, ap}
use Rattle.std.specs.Option.{option_map}
use Rattle.esdk_memory.specs.MemFiles.{IsRowOf, place_of}
use Rattle.esdk_memory.proofs.Rows.{held_nowhere, held_there}
use Rattle.esdk_memory.proofs.mem_files.MemFiles.held.Goals as goal

pub returns-in_err-i : goal.returns-in_err-i
returns-in_err-i c =
    let absent : place_of c.args.name.now c.self.inside.rows.items ≡ length c.self.inside.rows.items = subst (λ r. place_of c.args.name.now r ≡ length r) c.deref.ensures.value c.in_err-i.ensures in
    ap (option_map (λ bytes. bytes.now)) c.from_residual.ensures ∙ sym (held_nowhere c.self.inside.rows.items c.args.self.now c.args.name.now c.self.view_is absent)

pub returns : goal.returns
returns c =
    let stands : IsRowOf c.args.name.now c.self.inside.rows.items c.in_ok-i.i = subst (λ r. IsRowOf c.args.name.now r c.in_ok-i.i) c.deref.ensures.value c.in_ok-i.ensures in
    c.held.ensures ∙ sym (held_there c.self.inside.rows.items c.args.self.now c.args.name.now c.in_ok-i.i c.index.result.now c.self.view_is stands c.index.ensures)
