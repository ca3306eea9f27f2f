use Rattle.std.proofs.Common.{◌≡◌, ◌∙◌, [], length, subst, sym, ap, arith}
use Rattle.std.specs.Prelude.{unwrap_or}
use Rattle.esdk_memory.specs.MemFiles.{IsRowOf, place_of}
use Rattle.esdk_memory.proofs.Rows.{held_nowhere, held_there, room_there, row_set}
use Rattle.esdk_memory.proofs.ShelfLemmas.{appended_is, appended_missing}
use Rattle.esdk_memory.proofs.mem_files.MemFiles.append.Goals as goal

pub append-requires : goal.append-requires
append-requires c =
    let stands : IsRowOf c.args.name.now c.self.inside.rows.items c.in-Some.i = subst (λ r. IsRowOf c.args.name.now r c.in-Some.i) c.deref.ensures.value c.in-Some.ensures in
    let held = held_there c.self.inside.rows.items c.args.self.now c.args.name.now c.in-Some.i c.index_mut.result.now c.self.view_is stands c.index_mut.ensures.value in
    let room = room_there c.self.inside.rows.items c.args.self.now c.args.name.now c.in-Some.i c.index_mut.result.now c.self.view_is stands c.index_mut.ensures.value in
    omega (arith, c.requires, ap (λ o. length (unwrap_or o [])) held, ap (λ o. unwrap_or o 0) room)

pub returns-in-Some : goal.returns-in-Some
returns-in-Some c =
    let stands : IsRowOf c.args.name.now c.self.inside.rows.items c.in-Some.i = subst (λ r. IsRowOf c.args.name.now r c.in-Some.i) c.deref.ensures.value c.in-Some.ensures in
    let held = held_there c.self.inside.rows.items c.args.self.now c.args.name.now c.in-Some.i c.index_mut.result.now c.self.view_is stands c.index_mut.ensures.value in
    row_set c.self.inside.rows.items c.args.self.now c.args.name.now c.in-Some.i c.index_mut.result.now _ c.self.view_is stands c.index_mut.ensures.value c.append.new.self c.append.ensures
    ∙ ap (λ f. record { files = f; rooms = c.args.self.now.rooms }) (appended_is c.args.self.now.files c.args.name.now c.args.bytes.now c.index_mut.result.now.held held)

pub returns-in_default : goal.returns-in_default
returns-in_default c =
    let absent : place_of c.args.name.now c.self.inside.rows.items ≡ length c.self.inside.rows.items = subst (λ r. place_of c.args.name.now r ≡ length r) c.deref.ensures.value c.in_default.ensures in
    ap (λ f. record { files = f; rooms = c.args.self.now.rooms }) (sym (appended_missing c.args.self.now.files c.args.name.now c.args.bytes.now (held_nowhere c.self.inside.rows.items c.args.self.now c.args.name.now c.self.view_is absent)))
