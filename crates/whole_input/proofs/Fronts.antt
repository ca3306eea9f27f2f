-- A front of some bytes that a sink gained.
use Rattle.std.proofs.Common.{◌∙◌, ℕ, ◌+◌, ◌≤◌, List, ◌++◌, length, take, refl, sym, ap, subst}
use Rattle.std.proofs.Math.Seq.{take-append-add}
use Rattle.std.proofs.KnownBytes.{Appends-nil, Appends-trans}
use Rattle.std.specs.declared.option.Option.{Option}
use Rattle.std.specs.Io.KnownBytes.{Appends}
use Rattle.esdk_base.specs.Sink.{AppendsFront}
pub use Rattle.esdk_base.specs.ReceiverLaws.{front_after, front_longer}
use Rattle.esdk_base.specs.Streams.{SinkState}
use Rattle.whole_input.specs.Written.{WritesBeyond}

-- nothing is a front
pub front_none : (a : Option (List ℕ)) (xs : List ℕ) → AppendsFront a a xs
front_none a xs = (0, Appends-nil a)

-- of what was written beyond some bytes
pub front_beyond : (output put : SinkState) (first all : List ℕ) → WritesBeyond output put first all → AppendsFront output.written put.written all
front_beyond output put first all writes =
    (length first + writes.count, subst (λ (b : List ℕ). Appends output.written put.written b) (sym (ap (take (length first + writes.count)) writes.is ∙ take-append-add first writes.more writes.count)) writes.gained)

-- and behind all that was written before
pub beyond_after : (output mid put : SinkState) (first more : List ℕ) → 1 ≤ length more → Appends output.written mid.written first → AppendsFront mid.written put.written more → WritesBeyond output put first (first ++ more)
beyond_after output mid put first more some gained front = record {
  more = more;
  some = some;
  is = refl;
  count = front.0;
  gained = Appends-trans output.written mid.written put.written first (take front.0 more) gained front.1;
}
