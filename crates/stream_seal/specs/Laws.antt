-- What the law of this crate says: whatever the pieces, what is given is the message of the text.
use Rattle.std.specs.Prelude.{◌↔◌, is_err, Ok, Err, Some, ◌≡◌, ◌⊎◌, ℕ, ◌+◌, ◌*◌, ◌<◌, ◌≤◌, List, []}
use Rattle.std.specs.Prelude.{◌∷◌, ◌++◌, length, Bool, true, false, not, ◌||◌, IfSome, Option}
use Rattle.esdk_fields.specs.declared.refusals.Refusal.TheVariants as refusals
use Rattle.frame_codec.specs.Written.{final_frame}
use Rattle.body_format.specs.Written.{frame_count, regular_frames}
use Rattle.keyring_trait.specs.Materials.{EncMaterialsValue}
use Rattle.stream_seal.specs.declared.errors.SealError.TheVariants as errors
use Rattle.stream_seal.specs.Session.{SealingValue, beginning, new_sealing_session}
use Rattle.stream_seal.specs.Session.{sealing_step_answer, sealing_stepped, sealing_finished}
use Rattle.stream_seal.specs.Session.{under_of}
use Rattle.stream_seal.specs.Start.{message_of, most_frames, most_text}

-- ---- calls in a row

-- A call: a step with this piece, or `finish`.
pub data SealingEvent : Type 0 where
  Step : (piece : List ℕ) → SealingEvent
  Finish : SealingEvent

abbrev pub after_sealing_event : SealingValue → SealingEvent → SealingValue
after_sealing_event v (Step piece) = sealing_stepped v piece
after_sealing_event v Finish = sealing_finished v

-- the session after these calls
unfoldable pub after_sealing_events : List SealingEvent → SealingValue → SealingValue
after_sealing_events [] v = v
after_sealing_events (e ∷ es) v = after_sealing_events es (after_sealing_event v e)

-- what these calls give, one after another
unfoldable pub given_by_sealing : List SealingEvent → SealingValue → List ℕ
given_by_sealing [] v = []
given_by_sealing (e ∷ es) v =
    (after_sealing_event v e).out ++ given_by_sealing es (after_sealing_event v e)

-- this call finishes the session
abbrev pub finishes : SealingValue → SealingEvent → Bool
finishes v (Step piece) = false
finishes v Finish = not v.stopped

-- one of these calls finishes it
unfoldable pub is_finished_by : List SealingEvent → SealingValue → Bool
is_finished_by [] v = false
is_finished_by (e ∷ es) v = finishes v e || is_finished_by es (after_sealing_event v e)

-- this call stops the session: it is `finish`, or it answers an error
abbrev pub stops : SealingValue → SealingEvent → Bool
stops v (Step piece) = is_err (sealing_step_answer v piece)
stops v Finish = true

-- one of these calls stops it
unfoldable pub sealing_is_stopped_by : List SealingEvent → SealingValue → Bool
sealing_is_stopped_by [] v = false
sealing_is_stopped_by (e ∷ es) v = stops v e || sealing_is_stopped_by es (after_sealing_event v e)

-- ---- what was given

-- Bytes were taken since a step gave a frame, or none gave one yet.
abbrev pub HoldsSome : SealingValue → Type 0
HoldsSome v = (v.handed ≡ 0) ⊎ (v.handed * v.size < length v.taken)

-- A step gave a frame, and no byte was taken since.
pub record HoldsNone (v : SealingValue) : Type 0 where
  pub some : 1 ≤ v.handed
  pub all : length v.taken ≡ v.handed * v.size

-- The bytes are the header with its tag and the frames handed out, which are regular, of the
-- message of this text; more of it follows.
pub record BeginsMessage (v : SealingValue) (text bytes : List ℕ) : Type 0 where
  pub few : v.handed < frame_count (length text) v.size
  pub are : bytes ≡ beginning v ++ regular_frames v.size (under_of v) text v.handed
  pub more : List ℕ
  pub front : message_of v.materials v.size v.id text ≡ bytes ++ more

-- Both sessions make a message of the same materials, declared length, frame length and message id.
pub record IsSameMessage (v w : SealingValue) : Type 0 where
  pub materials : w.materials ≡ v.materials
  pub declared : w.declared ≡ v.declared
  pub size : w.size ≡ v.size
  pub id : w.id ≡ v.id

-- What is `given` is the header with its tag and the frames handed out, of the message of the text
-- that was taken; once the session is finished, it is that message. But where no byte was taken
-- since a step gave a frame, these frames begin the message of one byte more, whichever, and the
-- end is an empty final frame behind them.
pub record IsSealed (v : SealingValue) (ended : Bool) (given : List ℕ) : Type 0 where
  pub low : v.handed * v.size ≤ length v.taken
  pub high : length v.taken ≤ (v.handed + 1) * v.size
  pub numbered : v.handed < most_frames
  pub within : IfSome v.declared (λ whole. length v.taken ≤ whole)
  pub going : ended ≡ false → HoldsSome v → BeginsMessage v v.taken given
  pub going_even : ended ≡ false → HoldsNone v → (x : ℕ) → BeginsMessage v (v.taken ++ x ∷ []) given
  pub whole : ended ≡ true → HoldsSome v → given ≡ message_of v.materials v.size v.id v.taken
  pub whole_even : ended ≡ true → HoldsNone v
      → given ≡ beginning v ++ regular_frames v.size (under_of v) v.taken v.handed
      ++ final_frame (under_of v) (v.handed + 1) []

-- After any calls of a session that began with these materials, this declared length, frame length
-- and message id.
pub record SealsAnyCutOf (begun : SealingValue) (events : List SealingEvent) : Type 0 where
  pub same : IsSameMessage begun (after_sealing_events events begun)
  pub sealed : IsSealed (after_sealing_events events begun) (is_finished_by events begun)
      (beginning begun ++ given_by_sealing events begun)

abbrev pub SealsAnyCut : Type 0
SealsAnyCut = (m : EncMaterialsValue) (declared : Option ℕ) (size : ℕ) (id : List ℕ)
    (events : List SealingEvent) → 1 ≤ size
    → SealsAnyCutOf (new_sealing_session m declared size id) events

-- ---- errors

-- A byte is offered to a session that goes on.
pub record IsOffered (v : SealingValue) (piece : List ℕ) : Type 0 where
  pub on : v.stopped ≡ false
  pub some : 1 ≤ length piece

-- All bytes were taken that were declared, so many.
pub record LengthIsSpent (v : SealingValue) (whole : ℕ) : Type 0 where
  pub declared : v.declared ≡ Some whole
  pub all : length v.taken ≡ whole

-- All bytes were taken that a message has room for, and more were declared, or none.
pub record IsFull (v : SealingValue) : Type 0 where
  pub all : length v.taken ≡ most_text v.size
  pub unspent : (whole : ℕ) → LengthIsSpent v whole → ⊥

-- A step takes some bytes, of those offered, or it gives a frame.
abbrev pub Progresses : SealingValue → List ℕ → ℕ → Type 0
Progresses v piece count = ((1 ≤ count) × (count ≤ length piece))
    ⊎ ((count ≡ 0) × ((sealing_stepped v piece).handed ≡ v.handed + 1))

-- A step answers Q10 exactly where a byte is offered beyond those declared, else Q9 exactly where
-- one is offered beyond those that a message has room for, and `Stopped` exactly where the session
-- is stopped. Else it goes on.
pub record AnswersExactly (v : SealingValue) (piece : List ℕ) : Type 0 where
  pub over : (whole : ℕ) → (sealing_step_answer v piece
      ≡ Err (errors.Refusal (refusals.OverDeclared whole)))
      ↔ (IsOffered v piece × LengthIsSpent v whole)
  pub many : (sealing_step_answer v piece ≡ Err (errors.Refusal refusals.TooManyFrames))
      ↔ (IsOffered v piece × IsFull v)
  pub stopped : (sealing_step_answer v piece ≡ Err errors.Stopped) ↔ (v.stopped ≡ true)
  pub goes : (count : ℕ) → IsOffered v piece → sealing_step_answer v piece ≡ Ok count
      → Progresses v piece count

-- The session is stopped exactly where a call before answered an error or was `finish`; and what a
-- step answers now.
pub record SealingStopsExactlyOf (begun : SealingValue) (events : List SealingEvent) : Type 0 where
  pub stopped : (after_sealing_events events begun).stopped ≡ sealing_is_stopped_by events begun
  pub answers : (piece : List ℕ) → AnswersExactly (after_sealing_events events begun) piece

abbrev pub SealingStopsExactly : Type 0
SealingStopsExactly = (m : EncMaterialsValue) (declared : Option ℕ) (size : ℕ) (id : List ℕ)
    (events : List SealingEvent) → 1 ≤ size
    → SealingStopsExactlyOf (new_sealing_session m declared size id) events
