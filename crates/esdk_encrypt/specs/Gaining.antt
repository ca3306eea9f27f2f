-- What an output gained of a message between two moments: a receiver, or a sink that tells and
-- counts. On a sink the message can have another form, where a receiver over it makes that.
use Rattle.std.specs.Prelude.{◌≡◌, ℕ, ◌≤◌, List, ◌++◌, length}
use Rattle.std.specs.Io.KnownBytes.{Appends}
use Rattle.esdk_base.specs.declared.source.Failed.{Failed}
use Rattle.esdk_base.specs.Receiver.{SinkFails}
use Rattle.esdk_base.specs.Streams.{SinkState}
use Rattle.esdk_fields.specs.Counts.{Rose}
use Rattle.whole_input.specs.Written.{WritesBeyond}

-- Bytes are the front of a message, which goes on behind them, or a whole one, which ends there.
pub data Extent : Type 0 where
  Front : Extent
  Whole : Extent

-- What the output gained: it took just these bytes; or it took the first of these, which come first
-- of the second, and failed at some that come behind them.
pub record Gaining : Type 1 where
  pub took : Extent → List ℕ → Type 0
  pub stopped : Extent → List ℕ → List ℕ → Type 0

-- ---- a receiver

-- It took these bytes that come first of all, and failed while it was given some of the others.
pub record FailsBeyond {R E : Type 0} (takes : R → R → List ℕ → Type 0)
    (fails : R → R → List ℕ → E → Type 0) (old new : R) (first all : List ℕ) : Type 0 where
  pub between : R
  pub given : List ℕ
  pub rest : List ℕ
  pub error : E
  pub some : 1 ≤ length given
  pub is : all ≡ first ++ (given ++ rest)
  pub taken : takes old between first
  pub failed : fails between new given error

abbrev pub gaining : {R E : Type 0} → (R → R → List ℕ → Type 0) → (R → R → List ℕ → E → Type 0) → R
    → R → Gaining
gaining takes fails old new =
    record { took = λ extent. takes old new; stopped = λ extent. FailsBeyond takes fails old new }

-- ---- a sink

-- in which form bytes of a message are written
abbrev pub OutputForm : Type 0
OutputForm = Extent → List ℕ → List ℕ

-- as they are
abbrev pub as_bytes : OutputForm
as_bytes extent bytes = bytes

-- In this form the sink gained all of the bytes; or a put failed, and the sink gained all of the
-- first and a front of what comes behind it, which is something.
abbrev pub gained_as : OutputForm → SinkState → SinkState → Gaining
gained_as form output put = record {
  took = λ extent bytes. Appends output.written put.written (form extent bytes);
  stopped = λ extent first all. WritesBeyond output put (form Front first) (form extent all)
      × Rose output.faults put.faults;
}

abbrev pub sink_fails : {R : Type 0} → (R → SinkState) → R → R → List ℕ → Failed → Type 0
sink_fails state old new bytes failed = SinkFails (state old) (state new) bytes

-- What is written of a front is a front of what is written of all that it begins.
pub record KeepsFronts (form : OutputForm) : Type 0 where
  pub goes_on : (front more : List ℕ)
      → (rest : List ℕ) × (form Front (front ++ more) ≡ form Front front ++ rest)
  pub ends : (front more : List ℕ)
      → (rest : List ℕ) × (form Whole (front ++ more) ≡ form Front front ++ rest)

-- ---- one that says more

-- What the first says that the output gained, the second says.
pub record GainsAs (from to : Gaining) : Type 0 where
  pub took : (extent : Extent) (bytes : List ℕ) → from.took extent bytes → to.took extent bytes
  pub stopped : (extent : Extent) (first all : List ℕ) → from.stopped extent first all
      → to.stopped extent first all
