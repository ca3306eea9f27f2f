-- What the objects of a run tell and count at one moment, and what says that they are as before.
use Rattle.std.specs.Prelude.{⊤}
use Rattle.esdk_base.specs.Streams.{EntropyState, ShelfState, SinkState, SourceState}

-- What a definition says of a shelf's files, as they lie there, it says where the shelf tells them.
pub record Objects : Type 0 where
  pub input : SourceState
  pub output : SinkState
  pub shelf : ShelfState
  pub entropy : EntropyState
  pub report : SinkState

-- the objects of these states
abbrev pub objects : SourceState → SinkState → ShelfState → EntropyState → SinkState → Objects
objects input output shelf entropy report = record {
  input = input;
  output = output;
  shelf = shelf;
  entropy = entropy;
  report = report;
}

-- these objects, but for the input
abbrev pub with_input : Objects → SourceState → Objects
with_input objects input = record objects { input = input }

-- What says of an object that it is as before, itself and not only what it tells.
pub record Unchanged : Type 1 where
  pub input : Type 0
  pub output : Type 0
  pub shelf : Type 0
  pub entropy : Type 0

-- input and output are as before
abbrev pub same_streams : Unchanged → Type 0
same_streams unchanged = unchanged.input × unchanged.output

-- the same, as a command says it that has no entropy
abbrev pub without_entropy : Unchanged → Unchanged
without_entropy unchanged = record unchanged { entropy = ⊤ }

-- where these say it
abbrev pub as_before : Type 0 → Type 0 → Type 0 → Type 0 → Unchanged
as_before input output shelf entropy =
    record { input = input; output = output; shelf = shelf; entropy = entropy }
