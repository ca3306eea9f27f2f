-- Why an input is refused, by why no header came from it.
use Rattle.std.proofs.Common.{◌≡◌, ◌∙◌, ℕ, Bool, List, ◌++◌, None, Some, refl, ap, inl, inr, append-nil}
use Rattle.std.specs.declared.option.Option.{Option}
use Rattle.std.specs.Io.KnownBytes.{Consumes, IsAtEnd}
use Rattle.esdk_fields.specs.declared.faults.Fault.{Fault}
use Rattle.esdk_fields.specs.declared.faults.Fault.TheVariants.{Truncated}
use Rattle.esdk_fields.specs.Place.{start}
use Rattle.esdk_fields.specs.Reading.{Refused, Wanting}
use Rattle.esdk_fields.proofs.Fronts.{fault_stays}
use Rattle.esdk_base.specs.Streams.{OnTold, SinkState, SourceState}
use Rattle.header_codec.specs.Table.{header}
use Rattle.header_codec.proofs.Order.{IsSequential-header}
use Rattle.header_input.specs.declared.errors.NoHeader.{NoHeader}
use Rattle.header_input.specs.declared.errors.NoHeader.TheVariants as errors
use Rattle.header_input.specs.Taking.{NoneCame}
use Rattle.whole_input.specs.declared.pieces.End.TheVariants as ends
use Rattle.esdk_list.specs.List.{IsInputCause, IsListCause, failure_as, reading_fault_at_end, listing_fault, list_settings}

-- a fault of the bytes taken is the input's
fault_told : (uncommitted : Bool) (old new : Option (List ℕ)) (bytes : List ℕ) (fault : Fault) (at : ℕ) → Consumes old new bytes
    → header (list_settings uncommitted) (start bytes) ≡ Refused fault at → OnTold old (λ told. listing_fault uncommitted told ≡ Some fault)
fault_told uncommitted None new bytes fault at consumed refused = tt
fault_told uncommitted (Some told) None bytes fault at consumed refused = absurd consumed
fault_told uncommitted (Some told) (Some rest) bytes fault at consumed refused =
    let limits = list_settings uncommitted in
    ap (λ (b : List ℕ). listing_fault uncommitted b) consumed ∙ ap reading_fault_at_end (fault_stays (header limits) bytes rest fault at (IsSequential-header limits) refused)

-- an input that ended while bytes were wanted is cut short
truncated_told : (uncommitted : Bool) (old new : Option (List ℕ)) (bytes : List ℕ) → Consumes old new bytes → IsAtEnd new
    → header (list_settings uncommitted) (start bytes) ≡ Wanting → OnTold old (λ told. listing_fault uncommitted told ≡ Some Truncated)
truncated_told uncommitted None new bytes consumed end wanting = tt
truncated_told uncommitted (Some told) None bytes consumed end wanting = absurd consumed
truncated_told uncommitted (Some told) (Some rest) bytes consumed end wanting =
    ap (λ (b : List ℕ). listing_fault uncommitted b) (consumed ∙ ap (λ (r : List ℕ). bytes ++ r) end ∙ append-nil bytes) ∙ ap reading_fault_at_end wanting

-- why the input is refused
input_cause : (uncommitted : Bool) (old new : SourceState) (error : NoHeader) → NoneCame (list_settings uncommitted) old new error
    → IsInputCause uncommitted (failure_as error) old new
input_cause uncommitted old new (errors.Fault fault) came = record {
  came = inl came;
  told = fault_told uncommitted old.left new.left came.bytes fault came.at came.came.consumed came.refused;
}
input_cause uncommitted old new (errors.End ends.Seen) came = record {
  came = inr (refl, came);
  told = truncated_told uncommitted old.left new.left came.bytes came.came.consumed came.end.end came.wanting;
}
input_cause uncommitted old new (errors.End ends.Failed) came = came
input_cause uncommitted old new (errors.End ends.TooLong) came = came
input_cause uncommitted old new errors.Memory came = inl came

-- and why `list` ends
pub list_cause : (uncommitted : Bool) (old new : SourceState) (before now : SinkState) (error : NoHeader) → NoneCame (list_settings uncommitted) old new error
    → IsListCause uncommitted (failure_as error) old new before now
list_cause uncommitted old new before now (errors.Fault fault) came = input_cause uncommitted old new (errors.Fault fault) came
list_cause uncommitted old new before now (errors.End ends.Seen) came = input_cause uncommitted old new (errors.End ends.Seen) came
list_cause uncommitted old new before now (errors.End ends.Failed) came = came
list_cause uncommitted old new before now (errors.End ends.TooLong) came = came
list_cause uncommitted old new before now errors.Memory came = inl came
