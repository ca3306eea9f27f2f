-- What the command `gen` comes to.
use Rattle.std.specs.Prelude.{ℕ}
use Rattle.std.specs.Io.KnownBytes.{Appends}
use Rattle.esdk_base.specs.Streams.{SinkState}
use Rattle.esdk_gen.specs.Generator.{gen_line}
use Rattle.esdk_report.specs.declared.failure.Failure.{Failure}
use Rattle.esdk_run.specs.TextPut.{TextFails}

-- the output gained the line of this seed and this size
abbrev pub WritesLine : (seed size : ℕ) → SinkState → SinkState → Type 0
WritesLine seed size before after = Appends before.written after.written (gen_line seed size)

-- Why the line wasn't written. `unwritten` says that the output is as before, as it is but where it
-- failed.
abbrev pub GenFails : (seed size : ℕ) → SinkState → SinkState → Type 0 → Failure → Type 0
GenFails seed size = TextFails (gen_line seed size)
