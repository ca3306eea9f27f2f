use Rattle.esdk_memory.proofs.Rows.{room_fits}
use Rattle.esdk_memory.proofs.mem_files.MemFiles.take_room.Goals as goal

pub returns-clause-room : goal.returns-clause-room
returns-clause-room c = room_fits _ _ _ _ _ c.in_ok-take_room.ensures.ok
