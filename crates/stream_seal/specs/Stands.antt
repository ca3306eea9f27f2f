-- When a sealer stands for a session, and when for one that is fed a piece.
use Rattle.std.specs.Prelude.{◌≡◌, ℕ, ◌+◌, ◌*◌, ◌≤◌, List, length, false, ◌==◌, if◌then◌else◌}
use Rattle.std.specs.Prelude.{Option, Some}
use Rattle.esdk_fields.specs.declared.refusals.Refusal.{Refusal}
use Rattle.suite_table.specs.declared.suite.Suite.TheVariants.{Committing}
use Rattle.suite_table.specs.Keys.{derived}
use Rattle.stream_seal.specs.declared.errors.SealError.{SealError}
use Rattle.stream_seal.specs.declared.errors.SealError.TheVariants as errors
use Rattle.stream_seal.specs.declared.session.Sealer.{Sealer}
use Rattle.stream_seal.specs.DeclaredLength.{declared_after}
use Rattle.stream_seal.specs.Feeding.{IsFeeding, IsOnTheWay, fed, fed_out, feed_refusal}
use Rattle.stream_seal.specs.Session.{SealingValue, beginning, held}

-- It has the session's header, derived key, id and frame length, the number of the open frame, what
-- is still to come of the bytes declared, what the last call gave, and until the session stops the
-- bytes held.
pub record Stands (sealer : Sealer) (v : SealingValue) : Type 0 where
  pub header : sealer.header ≡ beginning v
  pub key : sealer.key ≡ derived Committing v.materials.key v.id
  pub id : sealer.message_id ≡ v.id
  pub size : sealer.frame.size ≡ v.size
  pub stopped : sealer.stopped ≡ v.stopped
  pub out : sealer.frame.out ≡ v.out
  pub number : sealer.number ≡ v.handed + 1
  pub declared : sealer.declared ≡ declared_after v.declared (length v.taken)
  pub full : v.handed * v.size ≤ length v.taken
  pub text : v.stopped ≡ false → sealer.frame.text ≡ held v

-- ---- a piece that is fed

-- what a loop of steps still has to do, where so many bytes are left: twice as much, and one more
-- where the frame is full
abbrev pub work_of : Sealer → ℕ → ℕ
work_of sealer count = 2 * count + (if length sealer.frame.text == sealer.frame.size then 1 else 0)

-- The sealer is on the way of feeding this piece, which v began: this is left of it, and this was
-- given since.
pub record FeedsStill (v : SealingValue) (piece : List ℕ) (sealer : Sealer) (rest given : List ℕ)
    : Type 0 where
  pub now : SealingValue
  pub stands : Stands sealer now
  pub way : IsOnTheWay v piece now rest given

-- The feeding ended, for this reason or since nothing is left.
pub record FeedsNoMore (v : SealingValue) (piece : List ℕ) (sealer : Sealer) (given : List ℕ)
    (refusal : Option Refusal) : Type 0 where
  pub stands : Stands sealer (fed v piece)
  pub why : feed_refusal v piece ≡ refusal
  pub out : given ≡ fed_out v piece

-- it ended with this error, which is a refusal
abbrev pub FeedFails : SealingValue → List ℕ → Sealer → List ℕ → SealError → Type 0
FeedFails v piece sealer given (errors.Refusal refusal) =
    FeedsNoMore v piece sealer given (Some refusal)
FeedFails v piece sealer given errors.Stopped = ⊥
FeedFails v piece sealer given errors.Memory = ⊥

-- After the piece it stands for a session that hasn't stopped, which is what feeding comes to.
pub record StillSeals (v : SealingValue) (piece : List ℕ) (sealer : Sealer) : Type 0 where
  pub session : SealingValue
  pub stands : Stands sealer session
  pub on : session.stopped ≡ false
  pub feeds : IsFeeding v piece → session ≡ fed v piece
