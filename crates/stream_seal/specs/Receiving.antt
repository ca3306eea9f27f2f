-- A sealer whose frames a receiver takes: a piece that is fed to its end, and the message's end.
-- `takes old new bytes`: the receiver took all of these bytes; `fails old new bytes error`: it
-- failed with this error while it was given them.
use Rattle.std.specs.Prelude.{◌≡◌, ℕ, ◌≤◌, List, [], length, true, false, None, Some, Result, Ok}
use Rattle.std.specs.Prelude.{Err}
use Rattle.esdk_fields.specs.declared.refusals.Refusal.{Refusal}
use Rattle.esdk_base.specs.declared.receiver.FeedError.{FeedError}
use Rattle.esdk_base.specs.declared.receiver.FeedError.TheVariants as feeds
use Rattle.stream_seal.specs.declared.errors.SealError.{SealError}
use Rattle.stream_seal.specs.declared.errors.SealError.TheVariants as errors
use Rattle.stream_seal.specs.declared.session.Sealer.{Sealer}
use Rattle.stream_seal.specs.Feeding.{fed, fed_out, feed_refusal}
use Rattle.stream_seal.specs.Session.{SealingValue, sealing_finished}
use Rattle.stream_seal.specs.Stands.{FeedsStill, Stands, StillSeals}

-- What handing out these bytes comes to: all were taken, or the receiver failed at them. Where they
-- are none, it isn't asked.
abbrev pub SealerGivesOut : {R E T : Type 0} → (R → R → List ℕ → Type 0)
    → (R → R → List ℕ → E → Type 0)
    → List ℕ → R → R → Result T (FeedError SealError E) → Type 0
SealerGivesOut takes fails bytes old new (Ok done) = takes old new bytes × (bytes ≡ [] → new ≡ old)
SealerGivesOut takes fails bytes old new (Err (feeds.Receiver error)) =
    (1 ≤ length bytes) × fails old new bytes error
SealerGivesOut takes fails bytes old new (Err (feeds.Machine error)) = ⊥

-- ---- a piece

-- The piece was fed to its end, and the receiver took what that gave.
pub record SealerFedWhole {R : Type 0} (takes : R → R → List ℕ → Type 0) (v : SealingValue)
    (piece : List ℕ) (old new : R) (sealer : Sealer) : Type 0 where
  pub stands : Stands sealer (fed v piece)
  pub none : feed_refusal v piece ≡ None
  pub taken : takes old new (fed_out v piece)

-- The piece has a byte that can't be taken, for this reason: those before it were, and the receiver
-- took what that gave.
pub record SealerFedShort {R : Type 0} (takes : R → R → List ℕ → Type 0) (v : SealingValue)
    (piece : List ℕ) (refusal : Refusal) (old new : R) (sealer : Sealer) : Type 0 where
  pub stands : Stands sealer (fed v piece)
  pub why : feed_refusal v piece ≡ Some refusal
  pub taken : takes old new (fed_out v piece)

-- The sealer is on the way of feeding the piece, and the receiver failed with this error at what
-- was given since.
pub record SealerFedUntil {R E : Type 0} (fails : R → R → List ℕ → E → Type 0) (v : SealingValue)
    (piece : List ℕ) (error : E) (old new : R) (sealer : Sealer) : Type 0 where
  pub rest : List ℕ
  pub given : List ℕ
  pub some : 1 ≤ length given
  pub still : FeedsStill v piece sealer rest given
  pub failed : fails old new given error

-- what feeding a piece to this session comes to
abbrev pub FeedsSealerPiece : {R E T : Type 0} → (R → R → List ℕ → Type 0)
    → (R → R → List ℕ → E → Type 0) → SealingValue → List ℕ → R → R → Sealer
    → Result T (FeedError SealError E) → Type 0
FeedsSealerPiece takes fails v piece old new sealer (Ok done) =
    SealerFedWhole takes v piece old new sealer
FeedsSealerPiece takes fails v piece old new sealer (Err (feeds.Receiver error)) =
    SealerFedUntil fails v piece error old new sealer
FeedsSealerPiece takes fails v piece old new sealer (Err (feeds.Machine (errors.Refusal refusal))) =
    SealerFedShort takes v piece refusal old new sealer
FeedsSealerPiece takes fails v piece old new sealer (Err (feeds.Machine error)) = ⊥

-- Whatever was fed before: the session goes on, and the receiver took something; or it failed at
-- something; or a byte was refused behind what it took.
abbrev pub FeedsOn : {R E T : Type 0} → (R → R → List ℕ → Type 0) → (R → R → List ℕ → E → Type 0)
    → SealingValue → List ℕ → R → R → Sealer → Result T (FeedError SealError E) → Type 0
FeedsOn takes fails v piece old new sealer (Ok done) =
    (given : List ℕ) × takes old new given × StillSeals v piece sealer
FeedsOn takes fails v piece old new sealer (Err (feeds.Receiver error)) =
    (given : List ℕ) × fails old new given error
FeedsOn takes fails v piece old new sealer (Err (feeds.Machine (errors.Refusal refusal))) =
    (given : List ℕ) × takes old new given
FeedsOn takes fails v piece old new sealer (Err (feeds.Machine error)) = ⊥

-- ---- the end

-- What finishing this session comes to: once, and not after an error, the final frame is given.
abbrev pub SealerFinishes : {R E T : Type 0} → (R → R → List ℕ → Type 0)
    → (R → R → List ℕ → E → Type 0) → SealingValue → R → R → Result T (FeedError SealError E)
    → Type 0
SealerFinishes takes fails v old new (Ok done) =
    (v.stopped ≡ false) × takes old new (sealing_finished v).out
SealerFinishes takes fails v old new (Err (feeds.Receiver error)) =
    (v.stopped ≡ false) × (1 ≤ length (sealing_finished v).out)
    × fails old new (sealing_finished v).out error
SealerFinishes takes fails v old new (Err (feeds.Machine errors.Stopped)) =
    (v.stopped ≡ true) × (new ≡ old)
SealerFinishes takes fails v old new (Err (feeds.Machine error)) = ⊥
