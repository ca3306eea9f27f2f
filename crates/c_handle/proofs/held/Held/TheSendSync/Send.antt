-- What is held is nothing, or a box of a session. So it may go to another thread: no part of it
-- belongs to one, and each thread may free a block of the heap.
use mir.Raw.{raw}
use base.Fraction.{full_share}
use base.Shift.{Keyless}
use denote.Exit.{Exit, hidden, leaves, unchanged, under}
use denote.Memory.{lone}
use denote.Param.Send.{AllSend, IsSend, Quiet, owning_send, part_keyless, sendable, struct_send}
use denote.RattleType.{RattleType}
use denote.RawPtr.{Ptr, block_ptr, lies_at, null_ptr}
use denote.Struct.Owning.{fields, shape, to}
use denote.Struct.Struct.{exits_of}
use Rattle.std.proofs.Crossing as heap
use Rattle.std.proofs.alloc.Global.TheSendSync as handle
use Rattle.std.specs.Prelude.{Option, None, Some}
use Rattle.std.specs.contracts.alloc.Global as Heap
use Rattle.c_session.specs.contracts.file_session.FileSession as Home
use Rattle.c_session.proofs.Crosses.{session_send}
use Rattle.c_handle.specs.Held.{held_owns}
use Rattle.c_handle.specs.contracts.held.Held.{the_row, the_type}

lies : (R : RattleType) → IsSend R → (ptr : Ptr) (x : R.Denot) → Keyless (lies_at R full_share ptr x)
lies R s (block_ptr b o) x = part_keyless R s full_share x b o
lies R s null_ptr x = tt

owned : (alloc : Heap.the_row.Denot) (ptr : Ptr) (home : Option Home.the_row.Denot) → Keyless (held_owns alloc ptr home)
owned alloc ptr None = tt
owned alloc ptr (Some session) =
    (lies Home.the_row session_send ptr session, heap.frees.frees alloc (raw (lone Home.the_row.mir)) ptr)

quiet : {D X : Type 0} (to : D → X) (e : Exit X) → Quiet e → Quiet (hidden (under to e))
quiet to unchanged q = λ x w. tt
quiet to (leaves L l S s r₀) q = λ d. q (to d)

pub send : IsSend the_row
send =
    let all : AllSend (fields the_type) = (search sendable, (handle.the_field_send, tt)) in
    owning_send the_type all (λ d. owned d.alloc d.ptr d.home)
    (λ k. quiet (to the_type) (exits_of k (fields the_type)) ((struct_send (shape the_type) all).leaving k))
