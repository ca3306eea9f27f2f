-- What a function that reads from a cursor owes to the reader that defines it.
use Rattle.std.specs.Prelude.{◌≡◌, Result, Ok, Err}
use Rattle.esdk_fields.specs.declared.stops.Stop.{Stop}
use Rattle.esdk_fields.specs.declared.stops.Stop.TheVariants as stops
use Rattle.esdk_fields.specs.Place.{Place}
use Rattle.esdk_fields.specs.Reading.{Reading, Read, Refused, Wanting}

-- it stopped as the reading says, or for want of memory
abbrev pub StopsAt : {Y : Type 0} → Stop → Reading Y → Type 0
StopsAt stops.Memory reading = Unit {0}
StopsAt stops.Wanting reading = reading ≡ Wanting
StopsAt (stops.Fault fault at) reading = reading ≡ Refused fault at

-- The result, seen by view, is what is read, and the cursor stands behind it; or it stopped as the
-- reading says.
abbrev pub Gives : {X Y : Type 0} → (X → Y) → Result X Stop → Place → Reading Y → Type 0
Gives view (Ok x) next reading = reading ≡ Read (view x) next
Gives view (Err stop) next reading = StopsAt stop reading

-- it didn't stop for want of memory
abbrev pub TakesNoMemory : {X : Type 0} → Result X Stop → Type 0
TakesNoMemory (Ok x) = Unit {0}
TakesNoMemory (Err stops.Wanting) = Unit {0}
TakesNoMemory (Err (stops.Fault fault at)) = Unit {0}
TakesNoMemory (Err stops.Memory) = ⊥
