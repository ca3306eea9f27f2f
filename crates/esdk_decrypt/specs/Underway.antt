-- What is so while an input is decrypted: the opener was fed the bytes that came, and the output
-- gained what they release.
use Rattle.std.specs.Prelude.{◌≡◌, ◌⊎◌, ℕ, ◌≤◌, List, length, Some, None, Option, ⊤, Result, Ok}
use Rattle.std.specs.Prelude.{Err}
use Rattle.esdk_fields.specs.Counts.{Rose}
use Rattle.esdk_fields.specs.declared.refusals.Outside.TheVariants as outsides
use Rattle.esdk_base.specs.declared.receiver.FeedError.{FeedError}
use Rattle.esdk_base.specs.declared.receiver.FeedError.TheVariants as feeds
use Rattle.esdk_base.specs.declared.source.Failed.{Failed}
use Rattle.esdk_base.specs.Receiver.{SinkFails, PutsAll}
use Rattle.esdk_base.specs.Streams.{SinkState, SourceState}
use Rattle.context_codec.specs.Context.{KeyValue}
use Rattle.header_codec.specs.declared.settings.Settings.{Settings}
use Rattle.header_codec.specs.Table.{head}
use Rattle.keyring_trait.specs.declared.served.Served.{Served}
use Rattle.keyring_trait.specs.Manager.{ManagerNow}
use Rattle.body_format.specs.declared.verdicts.Verdict.TheVariants as verdicts
use Rattle.stream_open.specs.declared.errors.OpenError.{OpenError}
use Rattle.stream_open.specs.declared.errors.OpenError.TheVariants as opens
use Rattle.stream_open.specs.declared.session.Opener.{Opener}
use Rattle.stream_open.specs.Asking.{BearsHeard}
use Rattle.stream_open.specs.Feeding.{GoesOn}
use Rattle.stream_open.specs.Receiving.{FedShort, FedUntil, FedWhole, FeedsOpenerPiece}
use Rattle.stream_open.specs.Session.{OpeningValue, answer_kept, judged_now, new_opening_session}
use Rattle.stream_open.specs.Stands.{Stands}
use Rattle.whole_input.specs.declared.pieces.End.{End}
use Rattle.whole_input.specs.declared.pieces.End.TheVariants as ends
use Rattle.whole_input.specs.Taken.{Came, EndSeen, MostTaken}
use Rattle.esdk_decrypt.specs.declared.errors.DecryptError.{DecryptError}
use Rattle.esdk_decrypt.specs.declared.errors.DecryptError.TheVariants as errors
use Rattle.esdk_decrypt.specs.Decrypt.{HasContext, fault_at_end}

-- ---- the manager

-- It served once at the most: it bears the lines that it bore, and one more where it served.
abbrev pub BearsOnce : ManagerNow → ManagerNow → ℕ → Type 0
BearsOnce old new now = (served : Option Served) × BearsHeard old new now served

-- Where the bytes that came have no whole header, this is so: `unasked` says that the manager is as
-- before.
abbrev pub IsUnasked : Settings → SourceState → SourceState → Type 0 → Type 0
IsUnasked settings input taken unasked =
    (bytes : List ℕ) → Came input taken bytes → head settings bytes ≡ None → unasked

-- ---- the opener

-- The opener has taken nothing. It keeps these limits, and is given these pairs.
pub record OpenerIsNew (opener : Opener) : Type 0 where
  pub settings : Settings
  pub given : List KeyValue
  pub stands : Stands opener (new_opening_session settings given)

-- The opener stands for a session that goes on.
pub record OpenerIsGoing (opener : Opener) : Type 0 where
  pub session : OpeningValue
  pub stands : Stands opener session
  pub goes : GoesOn session

-- what an opener's error is called; a session that goes on isn't stopped
abbrev pub OpenErrorIsCalled : OpenError → DecryptError → Type 0
OpenErrorIsCalled (opens.Fault fault) error = error ≡ errors.Fault fault
OpenErrorIsCalled opens.KeyringFault error = error ≡ errors.Outside outsides.KeyringFault
OpenErrorIsCalled opens.Stopped error = ⊥
OpenErrorIsCalled opens.Memory error = error ≡ errors.Memory

-- ---- the output

abbrev pub PutsFront : {O E : Type 0} → (O → SinkState) → O → O → List ℕ → E → Type 0
PutsFront state old new bytes error = SinkFails (state old) (state new) bytes

-- a put failed at these bytes, which are something
abbrev pub FailsAtSome : {O : Type 0} → (O → SinkState) → O → O → List ℕ → Type 0
FailsAtSome state old new bytes = (1 ≤ length bytes) × SinkFails (state old) (state new) bytes

-- what feeding a piece to an opener answers, whose contents go to a sink
abbrev pub FedInto : Type 0
FedInto = Result (Unit {0}) (FeedError OpenError Failed)

-- What feeding a piece to a session comes to, whose contents are gathered and handed on before more
-- is read. It is what it comes to where the sink takes each of them; but where a put fails, the
-- opener may have stopped before, with an error that isn't answered then.
abbrev pub FeedsPiece : {M O : Type 0} → (M → ManagerNow) → (O → SinkState) → ℕ → OpeningValue
    → List ℕ → M → M → O → O → Opener → FedInto → Type 0
FeedsPiece state sink now v piece old new output put opener (Err (feeds.Receiver error)) =
    FedUntil state (PutsFront sink) now v piece error old new output put opener
    ⊎ ((stop : OpenError)
    × FedShort state (FailsAtSome sink) now v piece stop old new output put opener)
FeedsPiece state sink now v piece old new output put opener (Err (feeds.Machine error)) =
    FeedsOpenerPiece {T = Unit {0}} state (PutsAll sink) (PutsFront {E = Failed} sink) now v piece
    old new
    output put
    opener (Err (feeds.Machine error))
FeedsPiece state sink now v piece old new output put opener (Ok done) =
    FedWhole state (PutsAll sink) now v piece old new output put opener

-- what an error of feeding is called
abbrev pub IsFeedCalled : {E : Type 0} → FeedError OpenError E → DecryptError → Type 0
IsFeedCalled (feeds.Machine error) named = OpenErrorIsCalled error named
IsFeedCalled (feeds.Receiver error) named = named ≡ errors.Outside outsides.SinkFault

-- what feeding a piece to a session comes to, whose error is called so
abbrev pub FeedsAs : {M O : Type 0} → (M → ManagerNow) → (O → SinkState) → ℕ → OpeningValue
    → List ℕ → M → M → O → O → Opener → Result (Unit {0}) DecryptError → Type 0
FeedsAs state sink now v piece old new output put opener (Ok done) =
    FedWhole state (PutsAll sink) now v piece old new output put opener
FeedsAs state sink now v piece old new output put opener (Err named) =
    (error : FeedError OpenError Failed)
    × FeedsPiece state sink now v piece old new output put opener (Err error)
    × IsFeedCalled error named

-- ---- the end

-- why no more bytes came behind these
abbrev pub NoMoreCame : SourceState → SourceState → List ℕ → End → Type 0
NoMoreCame input taken bytes ends.Seen = EndSeen input taken bytes
NoMoreCame input taken bytes ends.Failed = Rose input.faults taken.faults
NoMoreCame input taken bytes ends.TooLong = MostTaken input taken bytes

-- All bytes that came were fed, and no more came because of that.
pub record IsFedWhole {M O : Type 0} (state : M → ManagerNow) (sink : O → SinkState) (now : ℕ)
    (v : OpeningValue) (input taken : SourceState) (old new : M) (output put : O) (end : End)
    (opener : Opener) : Type 0 where
  pub bytes : List ℕ
  pub came : Came input taken bytes
  pub ends : NoMoreCame input taken bytes end
  pub fed : FedWhole state (PutsAll sink) now v bytes old new output put opener

-- the session's bytes are a whole message, which was unlocked with this whole context; or they have
-- this fault
abbrev pub ConcludesWhole : OpeningValue → Result (List KeyValue) DecryptError → Type 0
ConcludesWhole v (Ok context) =
    ((judged_now v).verdict ≡ verdicts.Whole) × HasContext (answer_kept v.answer) context
ConcludesWhole v (Err (errors.Fault fault)) = fault_at_end (judged_now v).verdict ≡ Some fault
ConcludesWhole v (Err error) = ⊥

-- how a decryption ends whose session took all bytes that came
abbrev pub ConcludesDecryption : OpeningValue → End → Result (List KeyValue) DecryptError → Type 0
ConcludesDecryption v ends.Seen result = ConcludesWhole v result
ConcludesDecryption v ends.Failed (Err (errors.Outside outsides.SourceFault)) = ⊤
ConcludesDecryption v ends.Failed result = ⊥
ConcludesDecryption v ends.TooLong (Err (errors.Outside outsides.InputTooLong)) = ⊤
ConcludesDecryption v ends.TooLong result = ⊥
