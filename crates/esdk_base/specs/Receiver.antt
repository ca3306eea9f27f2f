-- What a sink is as a receiver of bytes.
use Rattle.std.specs.Prelude.{◌≡◌, ℕ, List, ◌++◌}
use Rattle.std.specs.Io.KnownBytes.{Appends}
use Rattle.esdk_fields.specs.Counts.{Rose}
use Rattle.esdk_base.specs.Sink.{AppendsFront}
use Rattle.esdk_base.specs.Streams.{SinkState}

-- The sink gained all of these bytes, and no put failed.
pub record SinkTakes (old new : SinkState) (bytes : List ℕ) : Type 0 where
  pub gained : Appends old.written new.written bytes
  pub faults : new.faults ≡ old.faults

-- A put failed, and the sink gained a front of these bytes.
pub record SinkFails (old new : SinkState) (bytes : List ℕ) : Type 0 where
  pub front : AppendsFront old.written new.written bytes
  pub rose : Rose old.faults new.faults

-- these are put behind those that were gathered
abbrev pub Gathers : List ℕ → List ℕ → List ℕ → Type 0
Gathers old new bytes = new ≡ old ++ bytes

-- a sink of which this is the state took all of these bytes
abbrev pub PutsAll : {R : Type 0} → (R → SinkState) → R → R → List ℕ → Type 0
PutsAll state old new bytes = SinkTakes (state old) (state new) bytes
