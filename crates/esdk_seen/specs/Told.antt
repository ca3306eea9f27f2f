-- Which call a note is of.
use Rattle.std.specs.Prelude.{cond}
use Rattle.esdk_seen.specs.Calls.{ShelfCall, reads, creates, appends, announces, finishes}
use Rattle.esdk_seen.specs.Calls.{its_owner, anyone}
use Rattle.esdk_seen.specs.declared.calls.Call.{Call}
use Rattle.esdk_seen.specs.declared.calls.Call.TheVariants as call

abbrev pub call_of : Call → ShelfCall
call_of (call.Read name at bytes) = reads name.now at bytes.now
call_of (call.Create name) = creates name.now
call_of (call.Append name bytes) = appends name.now bytes.now
call_of (call.Announce name) = announces name.now
call_of (call.Finish name for_owner) = finishes name.now (cond for_owner its_owner anyone)
