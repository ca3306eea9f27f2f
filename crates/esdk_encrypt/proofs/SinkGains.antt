-- What a sink gains that is a receiver of a message.
use Rattle.std.proofs.Common.{ℕ, List, ◌++◌, arith, length-append, refl, sym, subst}
use Rattle.esdk_base.specs.Streams.{SinkState}
use Rattle.esdk_base.specs.Receiver.{PutsAll}
use Rattle.whole_input.specs.Written.{WritesBeyond}
use Rattle.whole_input.proofs.Fronts.{beyond_after, front_longer}
use Rattle.esdk_encrypt.specs.Gaining.{FailsBeyond, GainsAs, KeepsFronts, as_bytes, gained_as, gaining, sink_fails}

-- bytes as they are
pub bytes_keep_fronts : KeepsFronts as_bytes
bytes_keep_fronts = record { goes_on = λ front more. (more, refl); ends = λ front more. (more, refl) }

-- a put failed behind what the sink took
pub writes_beyond : {R : Type 0} (state : R → SinkState) (old new : R) (first all : List ℕ) → FailsBeyond (PutsAll state) (sink_fails state) old new first all
    → WritesBeyond (state old) (state new) first all
writes_beyond state old new first all fails =
    subst (λ (bytes : List ℕ). WritesBeyond (state old) (state new) first bytes) (sym fails.is)
    (beyond_after (state old) (state fails.between) (state new) first (fails.given ++ fails.rest) (omega (arith, fails.some, length-append fails.given fails.rest)) fails.taken.gained
    (front_longer (state fails.between).written (state new).written fails.given fails.rest fails.failed.front))

pub sink_gains : {R : Type 0} (state : R → SinkState) (old new : R) → GainsAs (gaining (PutsAll state) (sink_fails state) old new) (gained_as as_bytes (state old) (state new))
sink_gains state old new = record {
  took = λ extent bytes takes. takes.gained;
  stopped = λ extent first all fails. (writes_beyond state old new first all fails, omega (arith, fails.failed.rose, fails.taken.faults));
}
