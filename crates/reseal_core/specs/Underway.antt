-- What is so while an input is resealed: the resealer was fed the bytes that came, and the output
-- gained the front of what they release.
use Rattle.std.specs.Prelude.{◌≡◌, ◌⊎◌, ◌<◌, ℕ, ◌+◌, ◌*◌, List, [], length, false}
use Rattle.std.specs.Prelude.{Option, Some, None, Result, Ok, Err}
use Rattle.esdk_fields.specs.declared.refusals.Outside.TheVariants as outsides
use Rattle.esdk_base.specs.Streams.{SinkState, SourceState}
use Rattle.context_codec.specs.Context.{KeyValue}
use Rattle.header_codec.specs.declared.settings.Settings.{Settings}
use Rattle.keyring_trait.specs.Manager.{ManagerNow}
use Rattle.keyring_trait.specs.Materials.{EncMaterialsValue}
use Rattle.keyring_trait.specs.Saying.{Saying, said_last}
use Rattle.keyring_trait.specs.Unlocking.{Unlocking, Unlocks}
use Rattle.body_format.specs.declared.verdicts.Verdict.TheVariants.{Whole}
use Rattle.message_format.specs.Judgement.{content}
use Rattle.stream_open.specs.Receiving.{FedTo}
use Rattle.stream_open.specs.Session.{answer_kept, judged_now}
use Rattle.whole_input.specs.declared.pieces.End.{End}
use Rattle.whole_input.specs.declared.pieces.End.TheVariants as ends
use Rattle.whole_input.specs.Pieces.{NextPiece, PiecesValue}
use Rattle.whole_input.specs.Taken.{Came}
use Rattle.esdk_decrypt.specs.Decrypt.{HasContext, fault_at_end}
use Rattle.esdk_decrypt.specs.Underway.{NoMoreCame}
use Rattle.reseal_core.specs.declared.errors.InputError.{InputError}
use Rattle.reseal_core.specs.declared.errors.InputError.TheVariants as errors
use Rattle.reseal_core.specs.declared.errors.ResealError.{ResealError}
use Rattle.reseal_core.specs.declared.errors.ResealError.TheVariants as reseals
use Rattle.reseal_core.specs.declared.resealer.Resealer.{Resealer}
use Rattle.reseal_core.specs.Front.{GainsBeyond, front_of}
use Rattle.reseal_core.specs.NewMessage.{MaterialsAreGiven, FinishesAs}
use Rattle.reseal_core.specs.Session.{ResealingValue, gone_on, new_resealing_session, text_so_far}
use Rattle.reseal_core.specs.Stands.{Stands}

-- what a resealer's error is called; one that goes on isn't stopped
abbrev pub ResealErrorIsCalled : ResealError → InputError → Type 0
ResealErrorIsCalled (reseals.Fault fault) error = error ≡ errors.Fault fault
ResealErrorIsCalled (reseals.Refusal refusal) error = error ≡ errors.Refusal refusal
ResealErrorIsCalled reseals.KeyringFault error = error ≡ errors.Outside outsides.KeyringFault
ResealErrorIsCalled reseals.SinkFault error = error ≡ errors.Outside outsides.SinkFault
ResealErrorIsCalled reseals.Stopped error = ⊥
ResealErrorIsCalled reseals.Memory error = error ≡ errors.Memory

-- ---- the resealer

-- It stands for a session that goes on.
pub record IsUnstopped (resealer : Resealer) : Type 0 where
  pub session : ResealingValue
  pub stands : Stands resealer session
  pub going : session.stopped ≡ false

-- It has taken nothing, and its random bytes are enough for so many wraps.
pub record ResealerIsNew (wraps : ℕ) (resealer : Resealer) : Type 0 where
  pub settings : Settings
  pub given : List KeyValue
  pub size : ℕ
  pub random : List ℕ
  pub stands : Stands resealer (new_resealing_session settings given size random)
  pub count : length random ≡ 64 + 12 * wraps

-- The answer that is kept unlocks the old message, and the manager gave these materials for it.
pub record AreMade (saying : Saying) (now : ℕ) (random : List ℕ) (answer : Option Unlocking)
    (m : EncMaterialsValue) : Type 0 where
  pub whole : List KeyValue
  pub only : List KeyValue
  pub key : List ℕ
  pub answer_is : answer ≡ Some (Unlocks whole only key)
  pub given : MaterialsAreGiven saying now random whole only m

-- these materials were given for the answer that is kept; or there are none yet, and the manager
-- wasn't asked
abbrev pub IsMade : Saying → ℕ → List ℕ → Option Unlocking → Type 0 → Option EncMaterialsValue
    → Type 0
IsMade saying now random answer unasked None = unasked
IsMade saying now random answer unasked (Some m) = AreMade saying now random answer m

-- These bytes were fed since the session v began. `opened` and `sealed` say what a manager is at a
-- moment.
pub record Reached {A B : Type 0} (opened : A → ManagerNow) (sealed : B → ManagerNow) (now : ℕ)
    (v : ResealingValue) (bytes : List ℕ) (old new : A) (before after : B)
    (output put : SinkState) (resealer : Resealer) : Type 0 where
  pub text : List ℕ
  pub fed : FedTo opened now v.opening bytes text old new resealer.opener
  pub materials : Option EncMaterialsValue
  pub stands : Stands resealer (gone_on v fed.session materials)
  pub made : IsMade (said_last (sealed before) (sealed after)) now v.random fed.session.answer
      (after ≡ before) materials
  pub gained : GainsBeyond output put []
      (front_of materials v.size v.random (content (judged_now fed.session)))

-- ---- the input

-- Of a piece of which so many bytes were fed there are some left; or there are none, and the next
-- came, or none did for this reason.
abbrev pub UnfedAs : PiecesValue → ℕ → SourceState → SourceState → PiecesValue → Result ℕ End
    → Type 0
UnfedAs old fed input taken new (Ok from) =
    ((fed < length old.piece) × (from ≡ fed) × (new ≡ old) × (taken ≡ input))
    ⊎ ((fed ≡ length old.piece) × (from ≡ 0)
    × NextPiece {T = Unit {0}} old.taken input taken new (Ok tt))
UnfedAs old fed input taken new (Err end) = (fed ≡ length old.piece)
    × NextPiece {T = Unit {0}} old.taken input taken new (Err end)

-- ---- the end

-- All bytes that came were fed, and no more came because of that.
pub record IsFedInput {A B : Type 0} (opened : A → ManagerNow) (sealed : B → ManagerNow) (now : ℕ)
    (v : ResealingValue) (input taken : SourceState) (old new : A) (before after : B)
    (output put : SinkState) (end : End) (resealer : Resealer) : Type 0 where
  pub bytes : List ℕ
  pub came : Came input taken bytes
  pub ends : NoMoreCame input taken bytes end
  pub reached : Reached opened sealed now v bytes old new before after output put resealer

-- the new message was finished, or its final frame wasn't put, or not all of it
abbrev pub ConcludesSo : ResealingValue → SinkState → SinkState → Result (Unit {0}) ResealError
    → Type 0
ConcludesSo v old new result =
    ((judged_now v.opening).verdict ≡ Whole)
    × ((m : EncMaterialsValue) × (v.materials ≡ Some m)
    × FinishesAs m v.size v.random (text_so_far v) old new result)

-- the session's bytes are a whole message, which was unlocked with this whole context, and the new
-- one was finished; or they have this fault; or the output failed
abbrev pub ConcludesNewMessage : ResealingValue → SinkState → SinkState
    → Result (List KeyValue) InputError → Type 0
ConcludesNewMessage v old new (Ok context) = ConcludesSo v old new (Ok tt)
    × HasContext (answer_kept v.opening.answer) context
ConcludesNewMessage v old new (Err (errors.Fault fault)) =
    (fault_at_end (judged_now v.opening).verdict ≡ Some fault) × (new ≡ old)
ConcludesNewMessage v old new (Err (errors.Outside outsides.SinkFault)) = ConcludesSo v old new
    (Err reseals.SinkFault)
ConcludesNewMessage v old new (Err error) = ⊥

-- the same of what comes before its whole context is handed out
abbrev pub EndsNewMessage : ResealingValue → SinkState → SinkState → Result (Unit {0}) InputError
    → Type 0
EndsNewMessage v old new (Ok done) = ConcludesSo v old new (Ok tt)
EndsNewMessage v old new (Err error) = ConcludesNewMessage v old new (Err error)

-- how a run ends whose session took all bytes that came
abbrev pub ConcludesResealing : ResealingValue → SinkState → SinkState → End
    → Result (List KeyValue) InputError → Type 0
ConcludesResealing v old new ends.Seen result = ConcludesNewMessage v old new result
ConcludesResealing v old new ends.Failed (Err (errors.Outside outsides.SourceFault)) = new ≡ old
ConcludesResealing v old new ends.Failed result = ⊥
ConcludesResealing v old new ends.TooLong (Err (errors.Outside outsides.InputTooLong)) = new ≡ old
ConcludesResealing v old new ends.TooLong result = ⊥

-- the same of what comes before the whole context is handed out
abbrev pub EndsResealing : ResealingValue → SinkState → SinkState → End
    → Result (Unit {0}) InputError → Type 0
EndsResealing v old new end (Ok done) = (end ≡ ends.Seen) × ConcludesSo v old new (Ok tt)
EndsResealing v old new end (Err error) = ConcludesResealing v old new end (Err error)
