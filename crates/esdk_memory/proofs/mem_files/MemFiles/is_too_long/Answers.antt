use Rattle.std.proofs.Common.{◌≡◌, ◌∙◌, ◌+◌, [], length, subst, sym, ap, arith}
use Rattle.std.specs.Prelude.{nat_lt, unwrap_or}
use Rattle.esdk_memory.specs.MemFiles.{IsRowOf, place_of}
use Rattle.esdk_memory.proofs.Rows.{held_nowhere, held_there, room_nowhere, room_there}
use Rattle.esdk_memory.proofs.mem_files.MemFiles.is_too_long.Goals as goal

pub returns-in-Some : goal.returns-in-Some
returns-in-Some c =
    let stands : IsRowOf c.args.name.now c.self.inside.rows.items c.in-Some.i = subst (λ r. IsRowOf c.args.name.now r c.in-Some.i) c.deref.ensures.value c.in-Some.ensures in
    let held = held_there c.self.inside.rows.items c.args.self.now c.args.name.now c.in-Some.i c.index.result.now c.self.view_is stands c.index.ensures in
    let room = room_there c.self.inside.rows.items c.args.self.now c.args.name.now c.in-Some.i c.index.result.now c.self.view_is stands c.index.ensures in
    c.is_too_long.ensures ∙ sym (λ k. nat_lt (unwrap_or (room k) 0) (length (unwrap_or (held k) []) + c.args.more))

pub returns-in-None : goal.returns-in-None
returns-in-None c =
    let absent : place_of c.args.name.now c.self.inside.rows.items ≡ length c.self.inside.rows.items = subst (λ r. place_of c.args.name.now r ≡ length r) c.deref.ensures.value c.in-None.ensures in
    let held = held_nowhere c.self.inside.rows.items c.args.self.now c.args.name.now c.self.view_is absent in
    let room = room_nowhere c.self.inside.rows.items c.args.self.now c.args.name.now c.self.view_is absent in
    let more : c.args.more ≡ 0 + c.args.more = omega arith in
    ap (nat_lt 0) more ∙ sym (λ k. nat_lt (unwrap_or (room k) 0) (length (unwrap_or (held k) []) + c.args.more))
