-- Feeding a piece to its end: one step after another, each with what the last one left. What the
-- session then is, what these steps give, and why one of them fails. Standard: AWS Encryption SDK
-- Specification, "Encrypt"; the refusals Q9 and Q10 are this library's.
use Rattle.std.specs.Prelude.{◌≡◌, ◌↔◌, ◌⊎◌, ℕ, ◌+◌, ◌-◌, ◌*◌, ◌<◌, ◌≤◌, List, [], ◌∷◌, ◌++◌}
use Rattle.std.specs.Prelude.{length, take, drop, min, false, ◌==◌, nat_le, is_some, if◌then◌else◌}
use Rattle.std.specs.Prelude.{IfSome, Option, Some, None, Result, Ok, Err}
use Rattle.std.specs.List.{concat, flat_map, range_with_len}
use Rattle.esdk_fields.specs.declared.refusals.Refusal.{Refusal}
use Rattle.esdk_fields.specs.declared.refusals.Refusal.TheVariants as refusals
use Rattle.frame_codec.specs.Unit.{Under}
use Rattle.frame_codec.specs.Written.{final_frame, regular_frame}
use Rattle.body_format.specs.Written.{frame_count, piece, regular_frames}
use Rattle.keyring_trait.specs.Materials.{EncMaterialsValue}
use Rattle.stream_seal.specs.declared.errors.SealError.{SealError}
use Rattle.stream_seal.specs.declared.errors.SealError.TheVariants as errors
use Rattle.stream_seal.specs.Laws.{HoldsNone, HoldsSome, IsSameMessage}
use Rattle.stream_seal.specs.Session.{SealingValue, beginning, sealing_finished, held}
use Rattle.stream_seal.specs.Session.{new_sealing_session, sealing_step_answer, sealing_stepped}
use Rattle.stream_seal.specs.Session.{under_of}
use Rattle.stream_seal.specs.Start.{message_of, most_frames, most_text}

-- ---- what feeding comes to

-- how many frames of a text of so many bytes are handed out while it goes on: all but the last,
-- which is held
abbrev pub frames_given : ℕ → ℕ → ℕ
frames_given count size = frame_count count size - 1

-- how many bytes are taken at the most: those that a message has room for, and no more than are
-- declared
abbrev pub most_of : Option ℕ → ℕ → ℕ
most_of None room = room
most_of (Some whole) room = min whole room

abbrev pub most_taken : SealingValue → ℕ
most_taken v = most_of v.declared (most_text v.size)

-- why no byte more is: Q10 where it is beyond those declared, else Q9
abbrev pub over_of : Option ℕ → ℕ → Refusal
over_of None room = refusals.TooManyFrames
over_of (Some whole) room =
    if nat_le whole room then refusals.OverDeclared whole else refusals.TooManyFrames

-- why a step fails while the piece is fed, if one does
unfoldable pub feed_refusal : SealingValue → List ℕ → Option Refusal
feed_refusal v piece = if nat_le (length (v.taken ++ piece)) (most_taken v) then None
    else Some (over_of v.declared (most_text v.size))

-- the session then: the piece was taken, up to the first byte that can't be, and all frames were
-- handed out but the last
unfoldable pub fed : SealingValue → List ℕ → SealingValue
fed v piece =
    let text = take (most_taken v) (v.taken ++ piece) in
    record v {
      taken = text;
      handed = frames_given (length text) v.size;
      stopped = is_some
          (feed_refusal v piece);
      out = [];
    }

-- so many regular frames of a text, behind the first m
unfoldable pub frames_behind : ℕ → Under → List ℕ → ℕ → ℕ → List ℕ
frames_behind size u text m count =
    flat_map (λ i. regular_frame u (i + 1) (piece size text i)) (range_with_len m count)

-- what these steps give, one after another: the frames handed out since
unfoldable pub fed_out : SealingValue → List ℕ → List ℕ
fed_out v piece =
    frames_behind v.size (under_of v) (fed v piece).taken v.handed ((fed v piece).handed - v.handed)

-- what was given from the start: the header with its tag, and the frames handed out
unfoldable pub given_so_far : SealingValue → List ℕ
given_so_far v = beginning v ++ regular_frames v.size (under_of v) v.taken v.handed

-- ---- sessions that are fed

-- Each piece so far was fed to its end, and no step failed: all frames of the text taken were
-- handed out but the last, which is held.
pub record SealerIsFed (v : SealingValue) : Type 0 where
  pub wide : 1 ≤ v.size
  pub on : v.stopped ≡ false
  pub short : length v.taken ≤ most_taken v
  pub handed : v.handed ≡ frames_given (length v.taken) v.size
  pub quiet : v.out ≡ []

-- The frame held was handed out too, since more bytes are there, and can be taken.
pub record AwaitsMore (v : SealingValue) (rest : List ℕ) : Type 0 where
  pub none : HoldsNone v
  pub more : 1 ≤ length rest
  pub room : length v.taken < most_taken v

-- A piece is being fed, and this is left of it.
pub record IsFeeding (v : SealingValue) (rest : List ℕ) : Type 0 where
  pub wide : 1 ≤ v.size
  pub on : v.stopped ≡ false
  pub short : length v.taken ≤ most_taken v
  pub stage : ((v.handed ≡ frames_given (length v.taken) v.size) × (v.out ≡ [])) ⊎ AwaitsMore v rest

-- ---- a step

-- what falls with each step: twice the number of bytes left, and one more where the frame is full
abbrev pub work_left : SealingValue → ℕ → ℕ
work_left v count = 2 * count + (if length (held v) == v.size then 1 else 0)

-- A step used so many of the bytes left: the session goes on, and feeding what is left now comes to
-- the same.
pub record SealerStepsOn (v : SealingValue) (rest : List ℕ) (now : SealingValue) (used : ℕ)
    : Type 0 where
  pub within : used ≤ length rest
  pub feeding : IsFeeding now (drop used rest)
  pub same : fed now (drop used rest) ≡ fed v rest
  pub same_refusal : feed_refusal now (drop used rest) ≡ feed_refusal v rest
  pub out : fed_out v rest ≡ now.out ++ fed_out now (drop used rest)
  pub given : given_so_far now ≡ given_so_far v ++ now.out
  pub less : work_left now (length rest - used) < work_left v (length rest)

-- A step failed for this reason: the session is what feeding comes to, and nothing more is given.
pub record StepsNot (v : SealingValue) (rest : List ℕ) (now : SealingValue) (refusal : Refusal)
    : Type 0 where
  pub why : feed_refusal v rest ≡ Some refusal
  pub end : now ≡ fed v rest
  pub none : fed_out v rest ≡ []

abbrev pub StepFeeds : SealingValue → List ℕ → SealingValue → Result ℕ SealError → Type 0
StepFeeds v rest now (Ok used) = SealerStepsOn v rest now used
StepFeeds v rest now (Err (errors.Refusal refusal)) = StepsNot v rest now refusal
StepFeeds v rest now (Err errors.Stopped) = ⊥
StepFeeds v rest now (Err errors.Memory) = ⊥

-- Nothing is left: the session is what feeding comes to, and no step failed.
pub record HasFed (v : SealingValue) : Type 0 where
  pub is_fed : SealerIsFed v
  pub why : feed_refusal v [] ≡ None
  pub end : v ≡ fed v []
  pub none : fed_out v [] ≡ []

-- ---- a whole piece

-- Of the feeding of this piece that v began: the session now, what is left, and what was given
-- since.
pub record IsOnTheWay (v : SealingValue) (piece : List ℕ) (now : SealingValue) (rest given : List ℕ)
    : Type 0 where
  pub feeding : IsFeeding now rest
  pub same : fed now rest ≡ fed v piece
  pub same_refusal : feed_refusal now rest ≡ feed_refusal v piece
  pub out : fed_out v piece ≡ given ++ fed_out now rest

-- Its end, for this reason or since nothing is left: the session now, and what was given since.
pub record HasEnded (v : SealingValue) (piece : List ℕ) (now : SealingValue) (given : List ℕ)
    (refusal : Option Refusal) : Type 0 where
  pub why : feed_refusal v piece ≡ refusal
  pub end : now ≡ fed v piece
  pub out : given ≡ fed_out v piece

-- m frames of so many bytes and one more have room for the text, and no fewer have
pub record IsLeastCount (count size m : ℕ) : Type 0 where
  pub room : count ≤ (m + 1) * size
  pub least : (k : ℕ) → count ≤ (k + 1) * size → m ≤ k

-- Behind what was given from the start, the final frame with the bytes held makes the message of
-- the text taken.
abbrev pub HoldsTheLast : SealingValue → Type 0
HoldsTheLast v = message_of v.materials v.size v.id v.taken
    ≡ given_so_far v ++ final_frame (under_of v) (v.handed + 1) (held v)

-- As many bytes were taken as a message has room for, and all frames were handed out but the one
-- that has the last number.
pub record FillsMessage (v : SealingValue) : Type 0 where
  pub taken : length v.taken ≡ most_text v.size
  pub handed : v.handed ≡ most_frames - 1

-- What a session comes to that is fed a piece: what it took and gave from the start. Where no step
-- failed it can be fed the next piece.
pub record FeedsToSealer (v : SealingValue) (piece : List ℕ) : Type 0 where
  pub begins : IsOnTheWay v piece v piece []
  pub same : IsSameMessage v (fed v piece)
  pub taken : (fed v piece).taken ≡ take (most_taken v) (v.taken ++ piece)
  pub given : given_so_far (fed v piece) ≡ given_so_far v ++ fed_out v piece
  pub least : IsLeastCount (length (fed v piece).taken) v.size (fed v piece).handed
  pub last : HoldsTheLast (fed v piece)
  pub some : HoldsSome (fed v piece)
  pub full : feed_refusal v piece ≡ Some refusals.TooManyFrames → FillsMessage (fed v piece)
  pub whole : feed_refusal v piece ≡ None
      → ((fed v piece).taken ≡ v.taken ++ piece) × SealerIsFed (fed v piece)

-- A step fails with Q10 exactly where more bytes come than are declared, and a message has room for
-- those declared; with Q9 exactly where more come than a message has room for, and no length is
-- declared, or a greater one.
pub record RefusesPiece (v : SealingValue) (piece : List ℕ) : Type 0 where
  pub none : (feed_refusal v piece ≡ None) ↔ (length (v.taken ++ piece) ≤ most_taken v)
  pub over : (whole : ℕ) → (feed_refusal v piece ≡ Some (refusals.OverDeclared whole))
      ↔ ((v.declared ≡ Some whole) × (whole ≤ most_text v.size)
      × (whole < length (v.taken ++ piece)))
  pub many : (feed_refusal v piece ≡ Some refusals.TooManyFrames)
      ↔ (IfSome v.declared (λ whole. most_text v.size < whole)
      × (most_text v.size < length (v.taken ++ piece)))

-- ---- pieces one after another

-- the session after each of these pieces was fed to its end
unfoldable pub fed_all : List (List ℕ) → SealingValue → SealingValue
fed_all [] v = v
fed_all (p ∷ ps) v = fed_all ps (fed v p)

-- what that gave
unfoldable pub all_fed_out : List (List ℕ) → SealingValue → List ℕ
all_fed_out [] v = []
all_fed_out (p ∷ ps) v = fed_out v p ++ all_fed_out ps (fed v p)

-- Where there is room for these pieces, no step fails; the text taken is that of all pieces, and
-- what was given from the start is as much longer as the pieces gave.
pub record FeedsAll (v : SealingValue) (pieces : List (List ℕ)) : Type 0 where
  pub is_fed : SealerIsFed (fed_all pieces v)
  pub same : IsSameMessage v (fed_all pieces v)
  pub taken : (fed_all pieces v).taken ≡ v.taken ++ concat pieces
  pub given : given_so_far (fed_all pieces v) ≡ given_so_far v ++ all_fed_out pieces v

-- ---- the laws

-- A session begins fed: it gave the header with its tag.
pub record BeginsFed (v : SealingValue) : Type 0 where
  pub is_fed : SealerIsFed v
  pub given : given_so_far v ≡ beginning v

abbrev pub BeginFed : Type 0
BeginFed = (m : EncMaterialsValue) (declared : Option ℕ) (size : ℕ) (id : List ℕ) → 1 ≤ size
    → BeginsFed (new_sealing_session m declared size id)

-- each step on the way
abbrev pub StepsFeed : Type 0
StepsFeed = (v : SealingValue) (rest : List ℕ) → IsFeeding v rest → 1 ≤ length rest
    → StepFeeds v rest (sealing_stepped v rest) (sealing_step_answer v rest)

abbrev pub FeedingEnds : Type 0
FeedingEnds = (v : SealingValue) → IsFeeding v [] → HasFed v

abbrev pub FeedsPieces : Type 0
FeedsPieces = (v : SealingValue) (piece : List ℕ) → SealerIsFed v → FeedsToSealer v piece

abbrev pub RefusesPieces : Type 0
RefusesPieces = (v : SealingValue) (piece : List ℕ) → RefusesPiece v piece

-- a session that is fed, and finished
abbrev pub FinishesTheMessage : Type 0
FinishesTheMessage = (v : SealingValue) → SealerIsFed v
    → given_so_far v ++ (sealing_finished v).out ≡ message_of v.materials v.size v.id v.taken

abbrev pub FeedsAllPieces : Type 0
FeedsAllPieces = (pieces : List (List ℕ)) (v : SealingValue) → SealerIsFed v
    → length (v.taken ++ concat pieces) ≤ most_taken v → FeedsAll v pieces

-- However a text is cut: its pieces fed, each to its end, and `finish` behind them give the message
-- of the text.
abbrev pub FedAnyCut : Type 0
FedAnyCut = (m : EncMaterialsValue) (declared : Option ℕ) (size : ℕ) (id : List ℕ)
    (pieces : List (List ℕ)) → 1 ≤ size → length (concat pieces) ≤ most_of declared (most_text size)
    → let begun = new_sealing_session m declared size id in
    beginning begun ++ all_fed_out pieces begun ++ (sealing_finished (fed_all pieces begun)).out
    ≡ message_of m size id (concat pieces)
