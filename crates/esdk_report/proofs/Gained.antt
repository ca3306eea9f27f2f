-- What one put leaves on a sink.
use Rattle.std.proofs.Common.{ℕ, List, length, sym, subst, arith, Ok, Err, Result}
use Rattle.std.proofs.Math.Seq.{take-length}
use Rattle.std.specs.Io.KnownBytes.{Appends}
use Rattle.esdk_fields.specs.Counts.{HasCause}
use Rattle.esdk_base.specs.Sink.{PutAppends}
use Rattle.esdk_report.specs.Report.{ReportGains}
use Rattle.esdk_base.specs.Streams.{SinkState}

pub gains_by_put : {E : Type 0} (result : Result (Unit {0}) E) (bytes : List ℕ) (old new : SinkState)
    → PutAppends old.written new.written result bytes → HasCause old.faults new.faults result → ReportGains bytes old new
gains_by_put (Ok x) bytes old new appends cause = record {
  later = cause.later;
  front = (length bytes, let P : List ℕ → Type 0 = λ front. Appends old.written new.written front in subst P (sym (take-length bytes)) appends);
  whole = λ stayed. appends;
}
gains_by_put (Err e) bytes old new appends cause = record {
  later = cause.later;
  front = appends;
  whole = λ stayed. absurd (omega (arith, stayed, cause.failed));
}
