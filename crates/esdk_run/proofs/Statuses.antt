-- Which failure a status stands for.
use Rattle.std.proofs.Common.{◌≡◌, ℕ, Bool, true, false, inl, inr, refl, ap, subst, arith}
use Rattle.std.specs.Prelude.{if◌then◌else◌}
use Rattle.esdk_base.specs.Streams.{SinkState}
use Rattle.esdk_fields.specs.declared.faults.Fault.{Fault}
use Rattle.esdk_report.specs.Lines.{fault_line, printed_line}
use Rattle.esdk_report.specs.declared.failure.Failure.{Failure}
use Rattle.esdk_report.specs.declared.failure.Failure.TheVariants as failures
use Rattle.esdk_report.specs.Report.{ReportGains, Reports}
use Rattle.esdk_run.specs.Run.{is_status}

-- that of jobs or of messages
pub jobs_status : (all : Bool) (code : ℕ) → code ≡ (if all then 0 else 7) → is_status code ≡ true
jobs_status true code is = ap is_status is
jobs_status false code is = ap is_status is

-- want of memory
pub memory_status : (failure : Failure) (code : ℕ) (old new : SinkState) → failure ≡ failures.Memory → Reports failure code old new → code ≡ 5
memory_status failure code old new is said = (subst (λ (f : Failure). Reports f code old new) is said).status

-- no failure is done
pub not_done : (failure : Failure) (code : ℕ) (old new : SinkState) → Reports failure code old new → code ≡ 0 → ⊥
not_done failures.NotRead code old new said done = omega (arith, said.status, done)
not_done (failures.BadNumber name) code old new said done = omega (arith, said.status, done)
not_done (failures.BadPair number) code old new (inl said) done = omega (arith, said.status, done)
not_done (failures.BadPair number) code old new (inr said) done = omega (arith, said.status, done)
not_done (failures.Fault fault) code old new (inl said) done = omega (arith, said.status, done)
not_done (failures.Fault fault) code old new (inr said) done = omega (arith, said.status, done)
not_done (failures.File refusal) code old new (inl said) done = omega (arith, said.status, done)
not_done (failures.File refusal) code old new (inr said) done = omega (arith, said.status, done)
not_done (failures.Outside outside) code old new said done = omega (arith, said.status, done)
not_done (failures.Refusal refusal) code old new (inl said) done = omega (arith, said.status, done)
not_done (failures.Refusal refusal) code old new (inr said) done = omega (arith, said.status, done)
not_done failures.Memory code old new said done = omega (arith, said.status, done)

-- nor is its status that of a batch some job of which isn't done
pub not_seven : (failure : Failure) (code : ℕ) (old new : SinkState) → Reports failure code old new → code ≡ 7 → ⊥
not_seven failures.NotRead code old new said seven = omega (arith, said.status, seven)
not_seven (failures.BadNumber name) code old new said seven = omega (arith, said.status, seven)
not_seven (failures.BadPair number) code old new (inl said) seven = omega (arith, said.status, seven)
not_seven (failures.BadPair number) code old new (inr said) seven = omega (arith, said.status, seven)
not_seven (failures.Fault fault) code old new (inl said) seven = omega (arith, said.status, seven)
not_seven (failures.Fault fault) code old new (inr said) seven = omega (arith, said.status, seven)
not_seven (failures.File refusal) code old new (inl said) seven = omega (arith, said.status, seven)
not_seven (failures.File refusal) code old new (inr said) seven = omega (arith, said.status, seven)
not_seven (failures.Outside outside) code old new said seven = omega (arith, said.status, seven)
not_seven (failures.Refusal refusal) code old new (inl said) seven = omega (arith, said.status, seven)
not_seven (failures.Refusal refusal) code old new (inr said) seven = omega (arith, said.status, seven)
not_seven failures.Memory code old new said seven = omega (arith, said.status, seven)

-- the failure is this fault, and the report gained its line
pub record IsFault (failure : Failure) (old new : SinkState) : Type 0 where
  pub fault : Fault
  pub is : failure ≡ failures.Fault fault
  pub line : ReportGains (printed_line (fault_line fault)) old new

-- status 1 is a fault's
pub fault_status : (failure : Failure) (code : ℕ) (old new : SinkState) → Reports failure code old new → code ≡ 1 → IsFault failure old new
fault_status failures.NotRead code old new said one = absurd (omega (arith, said.status, one))
fault_status (failures.BadNumber name) code old new said one = absurd (omega (arith, said.status, one))
fault_status (failures.BadPair number) code old new (inl said) one = absurd (omega (arith, said.status, one))
fault_status (failures.BadPair number) code old new (inr said) one = absurd (omega (arith, said.status, one))
fault_status (failures.Fault fault) code old new (inl said) one = record { fault = fault; is = refl; line = said.line }
fault_status (failures.Fault fault) code old new (inr said) one = absurd (omega (arith, said.status, one))
fault_status (failures.File refusal) code old new (inl said) one = absurd (omega (arith, said.status, one))
fault_status (failures.File refusal) code old new (inr said) one = absurd (omega (arith, said.status, one))
fault_status (failures.Outside outside) code old new said one = absurd (omega (arith, said.status, one))
fault_status (failures.Refusal refusal) code old new (inl said) one = absurd (omega (arith, said.status, one))
fault_status (failures.Refusal refusal) code old new (inr said) one = absurd (omega (arith, said.status, one))
fault_status failures.Memory code old new said one = absurd (omega (arith, said.status, one))
