-- Sinks keep the laws of receivers, which an `impl` can cite from specs/ alone.
use Rattle.std.proofs.Common.{◌∙◌, ℕ, ◌+◌, List, [], ◌++◌, length, take, min, refl, sym, subst}
use Rattle.std.proofs.Common.{arith, append-nil, ap, append_assoc}
use Rattle.std.proofs.lemmas.List.{take_min, take-append-le}
use Rattle.std.proofs.Math.Seq.{take-append-add}
use Rattle.std.proofs.KnownBytes.{Appends-nil, Appends-trans}
use Rattle.std.specs.declared.option.Option.{Option}
use Rattle.std.specs.Io.KnownBytes.{Appends}
use Rattle.esdk_base.specs.Receiver.{SinkFails, SinkTakes, Gathers}
use Rattle.esdk_base.specs.Sink.{AppendsFront}
use Rattle.esdk_base.specs.Streams.{SinkState}

-- a front behind what was gained before
pub front_after : (a b c : Option (List ℕ)) (xs ys : List ℕ) → Appends a b xs → AppendsFront b c ys
    → AppendsFront a c (xs ++ ys)
front_after a b c xs ys gained front = (
  length xs + front.0,
  subst (λ zs. Appends a c zs) (sym (take-append-add xs ys front.0))
      (Appends-trans a b c xs (take front.0 ys) gained front.1),
)

-- a front of the front
pub front_longer : (a b : Option (List ℕ)) (xs more : List ℕ) → AppendsFront a b xs
    → AppendsFront a b (xs ++ more)
front_longer a b xs more front =
    let count : ℕ = min front.0 (length xs) in (
      count,
      subst (λ zs. Appends a b zs)
          (sym (take_min front.0 xs) ∙ sym (take-append-le count xs more (omega arith))) front.1,
    )

-- ---- the laws

pub takes_none : (a : SinkState) → SinkTakes a a []
takes_none a = record { gained = Appends-nil a.written; faults = refl }

pub takes_more : (a b c : SinkState) (xs ys : List ℕ) → SinkTakes a b xs → SinkTakes b c ys
    → SinkTakes a c (xs ++ ys)
takes_more a b c xs ys first second = record {
  gained = Appends-trans a.written b.written c.written xs ys first.gained second.gained;
  faults = second.faults ∙ first.faults;
}

pub fails_behind : (a b c : SinkState) (xs ys : List ℕ) → SinkTakes a b xs → SinkFails b c ys
    → SinkFails a c (xs ++ ys)
fails_behind a b c xs ys first second = record {
  front = front_after a.written b.written c.written xs ys first.gained second.front;
  rose = omega (arith, second.rose, first.faults);
}

pub gathers_none : (r : List ℕ) → Gathers r r []
gathers_none r = sym (append-nil r)

pub gathers_more : (r s t first second : List ℕ) → Gathers r s first → Gathers s t second
    → Gathers r t (first ++ second)
gathers_more r s t first second one two =
    two ∙ ap (λ (b : List ℕ). b ++ second) one ∙ append_assoc r first second
