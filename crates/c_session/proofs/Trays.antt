-- What a tray holds stands behind what was given before: what a resealer puts to it, it puts behind both.
use Rattle.std.proofs.Common.{◌≡◌, ◌∙◌, ◌⊎◌, ℕ, List, ◌++◌, Result, Ok, Err, inl, inr, sym, ap, append_assoc}
use Rattle.esdk_base.specs.Streams.{SinkState}
use Rattle.keyring_trait.specs.Manager.{ManagerNow}
use Rattle.keyring_trait.specs.Materials.{EncMaterialsValue}
use Rattle.keyring_trait.specs.Saying.{Saying}
use Rattle.stream_open.specs.declared.errors.OpenError.{OpenError}
use Rattle.stream_open.specs.Session.{OpeningValue, opening_stepped}
use Rattle.reseal_core.specs.declared.errors.ResealError.{ResealError}
use Rattle.reseal_core.specs.declared.errors.ResealError.TheVariants as errors
use Rattle.reseal_core.specs.declared.resealer.Resealer.{Resealer}
use Rattle.reseal_core.specs.Front.{GainsBeyond, GainsNotAll}
use Rattle.reseal_core.specs.NewMessage.{GoesNotOn, IsNotBegun, NewHeaderFails}
use Rattle.reseal_core.specs.Session.{ResealingValue}
use Rattle.reseal_core.specs.Stands.{ResealerSteps, SealsAfter, SealsAt}
use Rattle.c_session.specs.Resealing.{put_so_far}

module _ (given before after : List ℕ) (f g : ℕ) where
  abbrev old : SinkState
  old = put_so_far f before

  abbrev new : SinkState
  new = put_so_far g after

  abbrev all : SinkState
  all = put_so_far f (given ++ before)

  abbrev more : SinkState
  more = put_so_far g (given ++ after)

  -- behind what was given
  behind : (bytes : List ℕ) → after ≡ before ++ bytes → given ++ after ≡ (given ++ before) ++ bytes
  behind bytes is = ap (λ (b : List ℕ). given ++ b) is ∙ sym (append_assoc given before bytes)

  pub beyond : (a b : List ℕ) → GainsBeyond old new a b → GainsBeyond all more a b
  beyond a b gains = record {
    given = gains.given;
    between = gains.between;
    taken = record { gained = behind gains.given gains.taken.gained; faults = gains.taken.faults };
  }

  pub not_all : (a b : List ℕ) → GainsNotAll old new a b → GainsNotAll all more a b
  not_all a b gains = record {
    given = gains.given;
    some = gains.some;
    between = gains.between;
    failed = record {
      front = (gains.failed.front.0, behind _ gains.failed.front.1);
      rose = gains.failed.rose;
    };
  }

  goes_not_on : (m : EncMaterialsValue) (size : ℕ) (random written text : List ℕ) (error : ResealError)
      → GoesNotOn m size random written text old new error → GoesNotOn m size random written text all more error
  goes_not_on m size random written text (errors.Refusal refusal) (is, many) = (is, record { many = many.many; gained = beyond _ _ many.gained })
  goes_not_on m size random written text errors.SinkFault failed = not_all _ _ failed
  goes_not_on m size random written text (errors.Fault fault) none = none
  goes_not_on m size random written text errors.KeyringFault none = none
  goes_not_on m size random written text errors.Stopped none = none
  goes_not_on m size random written text errors.Memory none = none

  module _ (saying : Saying) (now : ℕ) (v : ResealingValue) (opening : OpeningValue) (unasked unwritten : Type 0) (resealer : Resealer) where
    seals_at : (used : ℕ) (result : Result ℕ ResealError) → SealsAt saying now v opening used old new unasked unwritten resealer result
        → SealsAt saying now v opening used all more unasked unwritten resealer result
    seals_at used (Ok n) (same, on) =
        (same, record { materials = on.materials; asks = on.asks; stands = on.stands; gained = beyond _ _ on.gained })
    seals_at used (Err error) (stopped, inl b) =
        (stopped, inl (record { none = b.none; whole = b.whole; only = b.only; opened = b.opened; why = why_not b.why }))
      where
        why_not : ((error ≡ errors.SinkFault) × NewHeaderFails saying now b.whole b.only v.size v.random old new)
            ⊎ (IsNotBegun saying now v.random b.whole b.only error × unwritten)
            → ((error ≡ errors.SinkFault) × NewHeaderFails saying now b.whole b.only v.size v.random all more)
            ⊎ (IsNotBegun saying now v.random b.whole b.only error × unwritten)
        why_not (inl (is, header)) =
            inl (is, record { materials = header.materials; given = header.given; failed = not_all _ _ header.failed })
        why_not (inr other) = inr other
    seals_at used (Err error) (stopped, inr p) =
        (stopped, inr (record { materials = p.materials; asks = p.asks; why = goes_not_on p.materials _ _ _ _ error p.why }))

    seals_after : (answer : Result ℕ OpenError) (result : Result ℕ ResealError)
        → SealsAfter saying now v opening answer old new unasked unwritten result resealer
        → SealsAfter saying now v opening answer all more unasked unwritten result resealer
    seals_after (Ok used) result seals = seals_at used result seals
    seals_after (Err why) result seals = seals

  -- a step that puts to the tray is one that puts to an output which was given the rest before
  pub steps_behind : (opened opening : ManagerNow) (saying : Saying) (now : ℕ) (v : ResealingValue) (piece : List ℕ)
      (unasked unwritten : Type 0) (result : Result ℕ ResealError) (resealer : Resealer)
      → ResealerSteps opened opening saying now v piece old new unasked unwritten result resealer
      → ResealerSteps opened opening saying now v piece all more unasked unwritten result resealer
  steps_behind opened opening saying now v piece unasked unwritten result resealer s = record {
    answer = s.answer;
    opens = s.opens;
    seals = seals_after saying now v (opening_stepped v.opening piece s.opens.heard s.answer) unasked unwritten resealer s.answer result s.seals;
  }

  -- where it went on, no put failed
  no_fault : (saying : Saying) (now : ℕ) (v : ResealingValue) (opening : OpeningValue) (unasked unwritten : Type 0) (resealer : Resealer) (n : ℕ) (answer : Result ℕ OpenError)
      → SealsAfter saying now v opening answer old new unasked unwritten (Ok n) resealer → g ≡ f
  no_fault saying now v opening unasked unwritten resealer n (Ok used) (same, on) = on.gained.taken.faults
  no_fault saying now v opening unasked unwritten resealer n (Err why) not = absurd (let no = not.named in cc)

  pub steps_well : (opened opening : ManagerNow) (saying : Saying) (now : ℕ) (v : ResealingValue) (piece : List ℕ) (unasked unwritten : Type 0) (n : ℕ) (resealer : Resealer)
      → ResealerSteps opened opening saying now v piece old new unasked unwritten (Ok n) resealer → g ≡ f
  steps_well opened opening saying now v piece unasked unwritten n resealer s =
      no_fault saying now v (opening_stepped v.opening piece s.opens.heard s.answer) unasked unwritten resealer n s.answer s.seals
