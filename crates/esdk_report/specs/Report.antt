-- What a failure leaves on the report: one line, and the exit status.
use Rattle.std.specs.Prelude.{◌≡◌, ◌≤◌, ◌⊎◌, ℕ, List, [], ◌∷◌, ◌++◌, codes, decimal}
use Rattle.std.specs.Io.KnownBytes.{Appends}
use Rattle.esdk_args.specs.Options.{option_text}
use Rattle.esdk_fields.specs.Counts.{Rose, Stayed}
use Rattle.esdk_fields.specs.Names.{fault_name, refusal_name, file_name, outside_name}
use Rattle.esdk_base.specs.Sink.{AppendsFront}
use Rattle.context_codec.specs.Context.{KeyValue}
use Rattle.esdk_base.specs.Streams.{SinkState}
use Rattle.esdk_report.specs.Lines.{fault_line, file_line, outside_line, printed_line, refusal_line}
use Rattle.esdk_report.specs.declared.failure.Failure.{Failure}
use Rattle.esdk_report.specs.declared.failure.Failure.TheVariants as failures
use Rattle.esdk_report.specs.ContextLine.{context_json}

-- the line of a failure, without `esdk: ` and without its line feed
abbrev pub failure_line : Failure → List ℕ
failure_line failures.NotRead = codes "words NotRead"
failure_line (failures.BadNumber name) = codes "words BadNumber " ++ option_text name
failure_line (failures.BadPair number) = codes "words BadPair " ++ decimal number
failure_line (failures.Fault fault) = fault_line fault
failure_line (failures.File refusal) = file_line refusal
failure_line (failures.Outside outside) = outside_line outside
failure_line (failures.Refusal refusal) = refusal_line refusal
failure_line failures.Memory = codes "Memory"

-- what is shown of a failure as an error: as its line begins
unfoldable pub failure_text : Failure → List ℕ
failure_text failures.NotRead = codes "words NotRead"
failure_text (failures.BadNumber name) = codes "words BadNumber " ++ option_text name
failure_text (failures.BadPair number) = codes "words BadPair " ++ decimal number
failure_text (failures.Fault fault) = fault_name fault
failure_text (failures.File refusal) = file_name refusal
failure_text (failures.Outside outside) = outside_name outside
failure_text (failures.Refusal refusal) = refusal_name refusal
failure_text failures.Memory = codes "memory ran out"

-- the exit status of a failure
abbrev pub failure_status : Failure → ℕ
failure_status failures.NotRead = 2
failure_status (failures.BadNumber name) = 2
failure_status (failures.BadPair number) = 2
failure_status (failures.Fault fault) = 1
failure_status (failures.File refusal) = 3
failure_status (failures.Outside outside) = 4
failure_status (failures.Refusal refusal) = 6
failure_status failures.Memory = 5

-- The report gained these bytes, or a front of them where its count of faults rose.
pub record ReportGains (bytes : List ℕ) (old new : SinkState) : Type 0 where
  pub later : old.faults ≤ new.faults
  pub front : AppendsFront old.written new.written bytes
  pub whole : Stayed old.faults new.faults → Appends old.written new.written bytes

-- The status is this failure's, and the report gained the failure's line.
pub record IsReported (failure : Failure) (code : ℕ) (old new : SinkState) : Type 0 where
  pub status : code ≡ failure_status failure
  pub line : ReportGains (printed_line (failure_line failure)) old new

-- So it is, but that memory may be missing for the line of a bad pair, of a fault or of a refusal.
abbrev pub Reports : Failure → ℕ → SinkState → SinkState → Type 0
Reports (failures.BadPair number) code old new =
    IsReported (failures.BadPair number) code old new ⊎ IsReported failures.Memory code old new
Reports (failures.Fault fault) code old new =
    IsReported (failures.Fault fault) code old new ⊎ IsReported failures.Memory code old new
Reports (failures.File refusal) code old new =
    IsReported (failures.File refusal) code old new ⊎ IsReported failures.Memory code old new
Reports (failures.Refusal refusal) code old new =
    IsReported (failures.Refusal refusal) code old new ⊎ IsReported failures.Memory code old new
Reports failure code old new = IsReported failure code old new

-- the line of a whole context, as it is printed once a message was decrypted
unfoldable pub context_line : List KeyValue → List ℕ
context_line pairs = context_json pairs ++ 10 ∷ []

-- The report gained the context's line, and the status is 0.
pub record ShowsContext (pairs : List KeyValue) (code : ℕ) (old new : SinkState) : Type 0 where
  pub status : code ≡ 0
  pub line : Appends old.written new.written (context_line pairs)
  pub faults : new.faults ≡ old.faults

-- The report failed: it gained a front of the context's line, and the status is 4.
pub record LosesContext (pairs : List KeyValue) (code : ℕ) (old new : SinkState) : Type 0 where
  pub status : code ≡ 4
  pub front : AppendsFront old.written new.written (context_line pairs)
  pub rose : Rose old.faults new.faults

-- what telling the context comes to
abbrev pub TellsContext : List KeyValue → ℕ → SinkState → SinkState → Type 0
TellsContext pairs code old new = ShowsContext pairs code old new ⊎ LosesContext pairs code old new
