use Rattle.std.proofs.Common.{ap}
use Rattle.esdk_list.specs.List.{reading_fault_at_end}
use Rattle.c_session.proofs.front.front_of.Goals as goal

pub returns-in-Ok : goal.returns-in-Ok
returns-in-Ok c =
    (record { at = c.in-Ok.found.end; left = c.in-Ok.ensures.0 }, c.in-Ok.ensures.1)

pub returns-in-Err-Fault : goal.returns-in-Err-Fault
returns-in-Err-Fault c =
    ap reading_fault_at_end (rw c.in-Err-Fault.field-0-is at c.in-Err-Fault.ensures)

pub returns-in-Err-Wanting : goal.returns-in-Err-Wanting
returns-in-Err-Wanting c =
    ap reading_fault_at_end (rw c.in-Err-Wanting.field-0-is at c.in-Err-Wanting.ensures)
