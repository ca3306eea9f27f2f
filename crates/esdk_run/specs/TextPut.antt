-- What comes of a text that is put on the output whole.
use Rattle.std.specs.Prelude.{◌≡◌, ℕ, List}
use Rattle.esdk_base.specs.Receiver.{SinkFails}
use Rattle.esdk_base.specs.Streams.{SinkState}
use Rattle.esdk_fields.specs.declared.refusals.Outside.TheVariants as outsides
use Rattle.esdk_report.specs.declared.failure.Failure.{Failure}
use Rattle.esdk_report.specs.declared.failure.Failure.TheVariants as failures

-- Why a text wasn't written: the output failed, and gained a front of it; or memory ran out before
-- it was put, where `unwritten` says that the output is as before. Want of memory is free.
abbrev pub TextFails : (text : List ℕ) → SinkState → SinkState → (unwritten : Type 0) → Failure
    → Type 0
TextFails text before after unwritten (failures.Outside outsides.SinkFault) =
    SinkFails before after text
TextFails text before after unwritten failures.Memory = unwritten
TextFails text before after unwritten failure = ⊥

-- The text was put and not written: the output failed, and gained a front of it.
pub record PutFails (text : List ℕ) (before after : SinkState) (failure : Failure) : Type 0 where
  pub is : failure ≡ failures.Outside outsides.SinkFault
  pub failed : SinkFails before after text
