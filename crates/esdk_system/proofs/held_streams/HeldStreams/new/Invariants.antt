-- All that is held so far has the number of a standard stream.
use Rattle.std.proofs.Common.{All, pos, ◌≤ℤ◌}
use Rattle.std.specs.Fd.{file_raw_fd}
use Rattle.esdk_system.proofs.held_streams.HeldStreams.new.Given as goal

abbrev pub invariant-loop : goal.invariant-loop
invariant-loop l = All (λ file. file_raw_fd file ≤ℤ pos 2) l.held.items
