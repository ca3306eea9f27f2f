-- What a handle holds: nothing, or a session in a box.
use base.Fml.{Fml, ftrue}
use base.Stored.{Coded}
use denote.RawPtr.{Ptr}
use Rattle.std.specs.Prelude.{Option, None, Some}
use Rattle.std.specs.Box.Ownership.{box_owns}
use Rattle.std.specs.Coded.{coded_option}
use Rattle.std.specs.Global.{Global}
use Rattle.std.specs.contracts.impls.GlobalAllocator.TheImpl.{ghosts}
use Rattle.c_session.specs.contracts.file_session.FileSession.{the_row}

-- it owns what a box of the session does, or nothing
abbrev pub held_owns : Global → Ptr → Option the_row.Denot → Fml
held_owns alloc ptr None = ftrue
held_owns alloc ptr (Some session) = box_owns (ghosts.dealloc_token alloc) the_row ptr session

abbrev pub held_coded : Coded (Option the_row.Denot)
held_coded = coded_option the_row.coded
