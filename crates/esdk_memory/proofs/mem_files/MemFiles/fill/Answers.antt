use Rattle.std.proofs.Common.{◌≡◌, ◌≤◌, length, subst}
use Rattle.std.specs.Prelude.{IsSomeAnd, Some}
use Rattle.esdk_memory.specs.MemFiles.{IsRowOf, place_of}
use Rattle.esdk_memory.proofs.Rows.{room_nowhere, room_there, row_set}
use Rattle.esdk_memory.proofs.mem_files.MemFiles.fill.Goals as goal

pub fill-requires : goal.fill-requires
fill-requires c =
    let stands : IsRowOf c.args.name.now c.self.inside.rows.items c.in-Some.i = subst (λ r. IsRowOf c.args.name.now r c.in-Some.i) c.deref.ensures.value c.in-Some.ensures in
    let room = room_there c.self.inside.rows.items c.args.self.now c.args.name.now c.in-Some.i c.index_mut.result.now c.self.view_is stands c.index_mut.ensures.value in
    subst (λ o. IsSomeAnd o (λ n. length c.args.bytes.now ≤ n)) room c.requires

pub returns-in-Some : goal.returns-in-Some
returns-in-Some c =
    let stands : IsRowOf c.args.name.now c.self.inside.rows.items c.in-Some.i = subst (λ r. IsRowOf c.args.name.now r c.in-Some.i) c.deref.ensures.value c.in-Some.ensures in
    row_set c.self.inside.rows.items c.args.self.now c.args.name.now c.in-Some.i c.index_mut.result.now (Some c.args.bytes.now) c.self.view_is stands c.index_mut.ensures.value c.fill.new.self c.fill.ensures

pub returns-in_default : goal.returns-in_default
returns-in_default c =
    let absent : place_of c.args.name.now c.self.inside.rows.items ≡ length c.self.inside.rows.items = subst (λ r. place_of c.args.name.now r ≡ length r) c.deref.ensures.value c.in_default.ensures in
    absurd (subst (λ o. IsSomeAnd o (λ n. length c.args.bytes.now ≤ n)) (room_nowhere c.self.inside.rows.items c.args.self.now c.args.name.now c.self.view_is absent) c.requires)
