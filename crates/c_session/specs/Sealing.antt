-- A text that is sealed piece by piece: what was given to the caller, and what waits.
use Rattle.std.specs.Prelude.{◌≡◌, ℕ, List, ◌++◌, ⊤, Option, Some, Result, Ok, Err}
use Rattle.esdk_fields.specs.declared.refusals.Refusal.{Refusal}
use Rattle.esdk_base.specs.declared.receiver.FeedError.{FeedError}
use Rattle.esdk_base.specs.declared.receiver.FeedError.TheVariants as feeds
use Rattle.stream_seal.specs.declared.errors.SealError.{SealError}
use Rattle.stream_seal.specs.declared.errors.SealError.TheVariants as errors
use Rattle.stream_seal.specs.declared.session.Sealer.{Sealer}
use Rattle.stream_seal.specs.Feeding.{SealerIsFed, fed, feed_refusal, given_so_far}
use Rattle.stream_seal.specs.Laws.{IsSameMessage}
use Rattle.stream_seal.specs.Session.{SealingValue}
use Rattle.stream_seal.specs.Stands.{Stands}
use Rattle.stream_seal.specs.Start.{message_of}
use Rattle.c_session.specs.declared.reason.Reason.{Reason}
use Rattle.c_session.specs.declared.reason.Reason.TheVariants as reasons

-- The sealer goes on with this message, and what was given to the caller and what waits is, put
-- together, what the message gives so far: its header, and all frames of the text taken but the
-- last.
pub record Seals (sealer : Sealer) (waiting : List ℕ) (v : SealingValue) (given : List ℕ) : Type 0
  where
    pub stands : Stands sealer v
    pub fed : SealerIsFed v
    pub all : given ++ waiting ≡ given_so_far v

-- All of the piece was taken into the same message, which goes on.
pub record TakesText (v : SealingValue) (piece given : List ℕ) (sealer : Sealer)
    (waiting : List ℕ) : Type 0 where
  pub same : IsSameMessage v (fed v piece)
  pub taken : (fed v piece).taken ≡ v.taken ++ piece
  pub seals : Seals sealer waiting (fed v piece) given

-- A byte of the piece is refused: what was given and what waits is the header, and all frames of
-- the text before it but the last.
pub record RefusesText (v : SealingValue) (piece given : List ℕ) (refusal : Refusal)
    (waiting : List ℕ) : Type 0 where
  pub why : feed_refusal v piece ≡ Some refusal
  pub all : given ++ waiting ≡ given_so_far (fed v piece)

-- what was given and what waits is a front of these bytes
pub record IsFrontOf (bytes given waiting : List ℕ) : Type 0 where
  pub rest : List ℕ
  pub front : (given ++ waiting) ++ rest ≡ bytes

-- what taking a piece comes to
abbrev pub SessionSealsPiece : {T : Type 0} → SealingValue → List ℕ → List ℕ → Sealer → List ℕ
    → Result T Reason → Type 0
SessionSealsPiece v piece given sealer waiting (Ok done) = TakesText v piece given sealer waiting
SessionSealsPiece v piece given sealer waiting (Err (reasons.Refusal refusal)) =
    RefusesText v piece given refusal waiting
SessionSealsPiece v piece given sealer waiting (Err reasons.Memory) =
    IsFrontOf (given_so_far (fed v piece)) given waiting
SessionSealsPiece v piece given sealer waiting (Err reason) = ⊥

-- the message of the text that was taken
abbrev pub whole_message : SealingValue → List ℕ
whole_message v = message_of v.materials v.size v.id v.taken

-- what the end comes to: what was given and what waits is the message
abbrev pub SealsEnd : {T : Type 0} → SealingValue → List ℕ → List ℕ → Result T Reason → Type 0
SealsEnd v given waiting (Ok done) = given ++ waiting ≡ whole_message v
SealsEnd v given waiting (Err reasons.Memory) = IsFrontOf (whole_message v) given waiting
SealsEnd v given waiting (Err reason) = ⊥

-- why a sealer isn't fed; of one that goes on, it isn't that it stopped
abbrev pub unsealed_as : {E : Type 0} → FeedError SealError E → Reason
unsealed_as (feeds.Machine (errors.Refusal refusal)) = reasons.Refusal refusal
unsealed_as (feeds.Machine errors.Stopped) = reasons.Memory
unsealed_as (feeds.Machine errors.Memory) = reasons.Memory
unsealed_as (feeds.Receiver error) = reasons.Memory

-- no message begins for that reason; want of memory is free
abbrev pub SealsNot : Option Refusal → Reason → Type 0
SealsNot refusal (reasons.Refusal r) = refusal ≡ Some r
SealsNot refusal reasons.Memory = ⊤
SealsNot refusal reason = ⊥
