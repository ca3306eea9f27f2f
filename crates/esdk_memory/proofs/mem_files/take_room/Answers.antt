use Rattle.std.proofs.Common.{◌≡◌, length, subst, rules}
use Rattle.esdk_memory.specs.MemFiles.{IsRowOf, RoomTaken, place_of}
use Rattle.esdk_memory.proofs.Rows.{room_grown, room_pushed}
use Rattle.esdk_memory.proofs.mem_files.take_room.Goals as goal

pub returns-in-Some-clause-ok : goal.returns-in-Some-clause-ok
returns-in-Some-clause-ok c =
    let rows = c.args.rows.now.items in
    let stands : IsRowOf c.args.name.now rows c.in-Some.i = subst (λ r. IsRowOf c.args.name.now r c.in-Some.i) c.deref.ensures.value c.in-Some.ensures in
    room_grown rows c.args.name.now c.in-Some.i c.args.size c.index_mut.result.now c.grow.new.self stands c.index_mut.ensures.value c.in_ok-grow.ensures.ok

pub returns-clause-ok : goal.returns-clause-ok
returns-clause-ok c =
    let rows = c.args.rows.now.items in
    let new : place_of c.args.name.now rows ≡ length rows = subst (λ r. place_of c.args.name.now r ≡ length r) c.deref.ensures.value c.in_default.ensures in
    subst (λ i. RoomTaken rows c.push.new.self.items c.args.name.now c.args.size i) (search rules)
    (room_pushed rows c.push.new.self.items c.args.name.now c.args.size c.in_ok-new.field-0 new c.in_ok-new.ensures c.in_ok-push.ensures.items)
