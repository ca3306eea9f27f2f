-- A session: one message after another, over one materials manager.
use Rattle.std.specs.Prelude.{◌≡◌, ◌≢◌, ◌⊎◌, ℕ, ◌+◌, ◌*◌, List, [], ◌++◌, length, take, drop, Bool}
use Rattle.std.specs.Prelude.{true, false, Option, Some, None, Result, Ok, Err}
use Rattle.context_codec.specs.Context.{KeyValue}
use Rattle.std.specs.BTreeMap.{insert_entry}
use Rattle.std.specs.Cmp.Lexicographic.{slice_cmp}
use Rattle.std.specs.Ordering.{nat_cmp}
use Rattle.context_codec.specs.KeySet.{with_key}
use Rattle.cmm_required.specs.RequiredCmm.{required_now}
use Rattle.header_codec.specs.declared.settings.Settings.{Settings}
use Rattle.keyring_trait.specs.Manager.{ManagerNow}
use Rattle.keyring_trait.specs.Requests.{EncRequestValue}
use Rattle.keyring_trait.specs.Saying.{said_last}
use Rattle.stream_open.specs.declared.session.Opener.{Opener}
use Rattle.stream_open.specs.Session.{OpeningValue, whole_context}
use Rattle.stream_open.specs.Stands.{Stands}
use Rattle.stream_seal.specs.declared.session.Sealer.{Sealer}
use Rattle.body_format.specs.declared.verdicts.Verdict.TheVariants.{Whole}
use Rattle.stream_seal.specs.Feeding.{fed}
use Rattle.stream_seal.specs.Laws.{IsSameMessage}
use Rattle.stream_seal.specs.Session.{SealingValue}
use Rattle.stream_seal.specs.Start.{message_of}
use Rattle.reseal_core.specs.declared.resealer.Resealer.{Resealer}
use Rattle.reseal_core.specs.Reseal.{Resealing}
use Rattle.reseal_core.specs.Session.{ResealingValue}
use Rattle.reseal_core.specs.Stands.{Stands as StandsResealing}
use Rattle.c_session.specs.declared.answer.Answer.{Answer}
use Rattle.c_session.specs.declared.answer.Answer.TheVariants as answers
use Rattle.c_session.specs.declared.machine.Machine.{Machine}
use Rattle.c_session.specs.declared.machine.Machine.TheVariants as machines
use Rattle.c_session.specs.declared.reason.Reason.{Reason}
use Rattle.c_session.specs.declared.reason.Reason.TheVariants as reasons
use Rattle.c_session.specs.declared.session.Session.{Session}
use Rattle.c_session.specs.Beginning.{SessionBeginsNot, SessionBeginsWith}
use Rattle.c_session.specs.Opening.{SessionOpens, OpensEnd, SessionOpensPiece, SessionReleases}
use Rattle.c_session.specs.Resealing.{HowResealed, ResealsEnd, ResealsNoMore, ResealsWhole}
use Rattle.c_session.specs.Resealing.{SessionReseals, how_asked}
use Rattle.c_session.specs.Sealing.{Seals, SealsEnd, SessionSealsPiece, whole_message}
use Rattle.session_parts.specs.Waiting.{HandsOut}

-- what the manager with its required keys is at a moment
abbrev pub asked : {M : Type 0} → (M → ManagerNow) → M × List (List ℕ) → ManagerNow
asked state manager = required_now manager.1 (state manager.0)

-- ---- where a session stands

-- it is set up
abbrev pub IsSetUp : {M : Type 0} → Session M → Type 0
IsSetUp s = (s.ended ≡ false) × (s.machine ≡ machines.SetUp)

-- It is set up anew: no pair, no required key, and nothing waits.
pub record IsFresh {M : Type 0} (s : Session M) : Type 0 where
  pub set_up : IsSetUp s
  pub pairs : s.pairs ≡ []
  pub required : s.required ≡ []
  pub demands : s.manager.1 ≡ []
  pub waiting : s.waiting ≡ []
  pub reason : s.reason ≡ None

-- It seals this message, and this was given to the caller since the message began.
pub record SealsNow {M : Type 0} (s : Session M) (v : SealingValue) (given : List ℕ) : Type 0 where
  pub on : s.ended ≡ false
  pub sealer : Sealer
  pub machine : s.machine ≡ machines.Sealing sealer
  pub seals : Seals sealer s.waiting v given

-- It opens a message of which these bytes were taken, under these limits and with these given
-- pairs. The manager was `begun` when the message began, and this was given to the caller since.
pub record OpensNow {M : Type 0} (state : M → ManagerNow) (s : Session M)
    (begun : M × List (List ℕ)) (settings : Settings) (pairs : List KeyValue)
    (taken given : List ℕ) : Type 0 where
  pub on : s.ended ≡ false
  pub opener : Opener
  pub machine : s.machine ≡ machines.Opening opener
  pub opens : SessionOpens (asked state) begun s.manager opener s.waiting settings pairs taken given

-- It reseals a message of which these bytes were taken, so. Its manager was `begun` when the
-- message began, that of the new message `first`, and this was given to the caller since.
pub record ResealsNow {M : Type 0} (state : M → ManagerNow) (s : Session M) (how : HowResealed)
    (begun : M × List (List ℕ)) (first : M) (taken given : List ℕ) : Type 0 where
  pub on : s.ended ≡ false
  pub resealer : Resealer × ℕ
  pub machine : s.machine ≡ machines.Resealing resealer
  pub sealing : M
  pub is_there : s.sealing ≡ Some sealing
  pub reseals : SessionReseals (asked state) state how begun s.manager first sealing resealer taken
      (given ++ s.waiting)

-- The manager of the new message is there, and this is so of what `reseal` is asked for with it,
-- and of what was put: what was given and what waits.
abbrev pub OfResealing : {M : Type 0} → (M → ManagerNow) → Session M → HowResealed
    → M × List (List ℕ) → M → List ℕ → (Resealing → List ℕ → Type 0) → Type 0
OfResealing {M} state s how begun first given so = (sealing : M) × (s.sealing ≡ Some sealing)
    × so (how_asked how (asked state begun) (asked state s.manager) (state first) (state sealing))
    (given ++ s.waiting)

-- ---- calls that don't fit

abbrev pub setting_by : Bool → Machine → Option Answer
setting_by true machine = Some answers.Ended
setting_by false machines.SetUp = None
setting_by false (machines.Sealing sealer) = Some answers.NotNow
setting_by false (machines.Opening opener) = Some answers.NotNow
setting_by false (machines.Resealing resealer) = Some answers.NotNow

-- why a call that sets it up doesn't fit
abbrev pub setting_answer : {M : Type 0} → Session M → Option Answer
setting_answer s = setting_by s.ended s.machine

abbrev pub going_by : Bool → Machine → Option Answer
going_by true machine = Some answers.Ended
going_by false machines.SetUp = Some answers.NotNow
going_by false (machines.Sealing sealer) = None
going_by false (machines.Opening opener) = None
going_by false (machines.Resealing resealer) = None

-- why a call that goes on with a message doesn't fit
abbrev pub going_answer : {M : Type 0} → Session M → Option Answer
going_answer s = going_by s.ended s.machine

-- ---- how a call ends

-- the session that ended for this reason
abbrev pub ended_for : {M : Type 0} → Session M → Reason → Session M
ended_for s reason = record s { ended = true; reason = Some reason }

-- the session behind what came so
abbrev pub settled_session : {M T : Type 0} → Session M → Result T Reason → Session M
settled_session s (Ok done) = s
settled_session s (Err reason) = ended_for s reason

abbrev pub settled_answer : {T : Type 0} → Result T Reason → Answer
settled_answer (Ok done) = answers.Done
settled_answer (Err reason) = answers.Failed

-- It ended for a reason, of which this holds.
abbrev pub Stopped : {M : Type 0} → Session M → (Reason → Type 0) → Type 0
Stopped s why = (s.ended ≡ true) × ((reason : Reason) × (s.reason ≡ Some reason) × why reason)

-- ---- calls that set it up

-- a pair was put
abbrev pub PairsAs : {M : Type 0} → Session M → Session M → List ℕ → List ℕ → Answer → Type 0
PairsAs old new key value answers.Done = (setting_answer old ≡ None)
    × (new ≡ record old { pairs = insert_entry (slice_cmp nat_cmp) old.pairs key value })
PairsAs old new key value answers.Failed = (setting_answer old ≡ None)
    × ((reason : Reason) × (new ≡ ended_for old reason))
PairsAs old new key value answers.NotText = (setting_answer old ≡ None) × (new ≡ old)
PairsAs old new key value answer = (setting_answer old ≡ Some answer) × (new ≡ old)

-- a key was required
abbrev pub RequiresAs : {M : Type 0} → Session M → Session M → List ℕ → Answer → Type 0
RequiresAs old new key answers.Done = (setting_answer old ≡ None)
    × (new ≡ record old { required = with_key old.required key })
RequiresAs old new key answers.Failed = (setting_answer old ≡ None)
    × ((reason : Reason) × (new ≡ ended_for old reason))
RequiresAs old new key answers.NotText = (setting_answer old ≡ None) × (new ≡ old)
RequiresAs old new key answer = (setting_answer old ≡ Some answer) × (new ≡ old)

-- ---- calls that begin a message

-- its manager, which requires its keys
abbrev pub with_its_keys : {M : Type 0} → Session M → M × List (List ℕ)
with_its_keys s = (s.manager.0, s.required)

-- what it asks of its manager: materials for all its pairs
abbrev pub session_request : {M : Type 0} → Session M → Option ℕ → EncRequestValue
session_request s declared = record { context = s.pairs; required = []; declared = declared }

-- A message is sealed from now on, with materials that the manager gave for these pairs; it
-- required these keys of them.
pub record SealsAnew {M : Type 0} (state : M → ManagerNow) (begun : M × List (List ℕ))
    (request : EncRequestValue) (new : Session M) (size : ℕ) (max_keys : Option ℕ)
    (random : List ℕ) : Type 0 where
  pub on : new.ended ≡ false
  pub sealer : Sealer
  pub machine : new.machine ≡ machines.Sealing sealer
  pub begins : SessionBeginsWith (said_last (asked state begun) (asked state new.manager)) request
      size
      max_keys random sealer new.waiting

-- so it is, or none begins, for a reason
abbrev pub SealsBy : {M : Type 0} → (M → ManagerNow) → M × List (List ℕ) → EncRequestValue
    → Session M → ℕ → Option ℕ → List ℕ → Answer → Type 0
SealsBy state begun request new size max_keys random answers.Done =
    SealsAnew state begun request new size max_keys random
SealsBy state begun request new size max_keys random answers.Failed =
    Stopped new (SessionBeginsNot (said_last (asked state begun) (asked state new.manager)) request
    max_keys random)
SealsBy state begun request new size max_keys random answer = ⊥

-- so it is of this session, whose manager has its keys
abbrev pub SealsFrom : {M : Type 0} → (M → ManagerNow) → Session M → Session M → ℕ → Option ℕ
    → Option ℕ → List ℕ → Answer → Type 0
SealsFrom state old new size declared max_keys random answer =
    SealsBy state old.manager (session_request old declared) new size max_keys random answer

abbrev pub BeginsSealing : {M : Type 0} → (M → ManagerNow) → Session M → Session M → ℕ → Option ℕ
    → Option ℕ → List ℕ → Answer → Type 0
BeginsSealing state old new size declared max_keys random answers.Done =
    (setting_answer old ≡ None)
    × SealsBy state (with_its_keys old) (session_request old declared) new size max_keys random
    answers.Done
BeginsSealing state old new size declared max_keys random answers.Failed =
    (setting_answer old ≡ None)
    × SealsBy state (with_its_keys old) (session_request old declared) new size max_keys random
    answers.Failed
BeginsSealing state old new size declared max_keys random answers.BadFrame =
    (setting_answer old ≡ None) × (size ≡ 0) × (new ≡ old)
BeginsSealing state old new size declared max_keys random answers.BadRandom =
    (setting_answer old ≡ None) × (length random ≢ 64 + 12 * (state old.manager.0).meaning.wraps)
    × (new ≡ old)
BeginsSealing state old new size declared max_keys random answer =
    (setting_answer old ≡ Some answer) × (new ≡ old)

-- A message is opened from now on, with the session's pairs, of which its required keys are
-- required.
abbrev pub BeginsOpening : {M : Type 0} → (M → ManagerNow) → Session M → Session M → Settings
    → Answer → Type 0
BeginsOpening state old new settings answers.Done = (setting_answer old ≡ None)
    × OpensNow state new (with_its_keys old) settings old.pairs [] []
BeginsOpening state old new settings answer = (setting_answer old ≡ Some answer) × (new ≡ old)

-- A message is resealed from now on, by a manager with its keys and with these pairs; or none is,
-- as memory ran out.
abbrev pub ResealsFrom : {M : Type 0} → (M → ManagerNow) → M × List (List ℕ) → List KeyValue
    → Session M → M → ℕ → Settings → List ℕ → Answer → Type 0
ResealsFrom state begun pairs new sealing size settings random answers.Done =
    ResealsNow state new (record {
      settings = settings;
      pairs = pairs;
      size = size;
      random = random;
    }) begun sealing [] []
ResealsFrom state begun pairs new sealing size settings random answers.Failed =
    Stopped new (λ reason. reason ≡ reasons.Memory)
ResealsFrom state begun pairs new sealing size settings random answer = ⊥

-- ---- a piece

-- All of the piece was taken into the same message, which goes on.
pub record SessionSealsOn {M : Type 0} (new : Session M) (v : SealingValue)
    (piece given : List ℕ) : Type 0
  where
    pub same : IsSameMessage v (fed v piece)
    pub taken : (fed v piece).taken ≡ v.taken ++ piece
    pub seals : SealsNow new (fed v piece) given

abbrev pub SealsMore : {M : Type 0} → Session M → SealingValue → List ℕ → List ℕ → Answer → Type 0
SealsMore new v piece given answers.Done = SessionSealsOn new v piece given
SealsMore new v piece given answers.Failed = Stopped new (λ reason.
    (sealer : Sealer) × SessionSealsPiece {T = Unit {0}} v piece given sealer new.waiting
    (Err reason))
SealsMore new v piece given answer = ⊥

abbrev pub OpensMore : {M : Type 0} → (M → ManagerNow) → Session M → M × List (List ℕ) → Settings
    → List KeyValue → List ℕ → List ℕ → List ℕ → Answer → Type 0
OpensMore state new begun settings pairs taken piece given answers.Done =
    OpensNow state new begun settings pairs (taken ++ piece) given
OpensMore state new begun settings pairs taken piece given answers.Failed = Stopped new (λ reason.
    (opener : Opener) × SessionOpensPiece {T = Unit {0}} (asked state) begun new.manager opener
    new.waiting
    settings pairs taken piece given (Err reason))
OpensMore state new begun settings pairs taken piece given answer = ⊥

abbrev pub ResealsMore : {M : Type 0} → (M → ManagerNow) → Session M → HowResealed
    → M × List (List ℕ) → M → List ℕ → List ℕ → List ℕ → Answer → Type 0
ResealsMore state new how begun first taken piece given answers.Done =
    ResealsNow state new how begun first (taken ++ piece) given
ResealsMore state new how begun first taken piece given answers.Failed = Stopped new (λ reason.
    OfResealing state new how begun first given (λ question put.
    ResealsNoMore question how.random taken piece put reason))
ResealsMore state new how begun first taken piece given answer = ⊥

-- A piece was fed: to a session that seals, to one that opens, to one that reseals, or to one that
-- does none of these, which stays as it is.
pub record SessionFeeds {M : Type 0} (state : M → ManagerNow) (old new : Session M) (piece : List ℕ)
    (answer : Answer) : Type 0 where
  pub seals : (v : SealingValue) (given : List ℕ) → SealsNow old v given
      → SealsMore new v piece given answer
  pub opens : (begun : M × List (List ℕ)) (settings : Settings) (pairs : List KeyValue)
      (taken given : List ℕ) → OpensNow state old begun settings pairs taken given
      → OpensMore state new begun settings pairs taken piece given answer
  pub reseals : (how : HowResealed) (begun : M × List (List ℕ)) (first : M) (taken given : List ℕ)
      → ResealsNow state old how begun first taken given
      → ResealsMore state new how begun first taken piece given answer
  pub refused : (a : Answer) → going_answer old ≡ Some a → (answer ≡ a) × (new ≡ old)

-- ---- the end

-- what was given and what waits is the message
abbrev pub SealsLast : {M : Type 0} → Session M → SealingValue → List ℕ → Answer → Type 0
SealsLast new v given answers.Done =
    (new.ended ≡ true) × (given ++ new.waiting ≡ whole_message v)
SealsLast new v given answers.Failed = Stopped new (λ reason.
    SealsEnd {T = Unit {0}} v given new.waiting (Err reason))
SealsLast new v given answer = ⊥

-- the bytes taken are a whole message, and what was given and what waits is its text
abbrev pub OpensLast : {M : Type 0} → (M → ManagerNow) → Session M → M × List (List ℕ) → Settings
    → List KeyValue → List ℕ → List ℕ → Answer → Type 0
OpensLast state new begun settings pairs taken given answers.Done =
    (new.ended ≡ true)
    × SessionReleases (asked state) begun new.manager new.waiting settings pairs taken given Whole
OpensLast state new begun settings pairs taken given answers.Failed = Stopped new (λ reason.
    OpensEnd {T = Unit {0}} (asked state) begun new.manager new.waiting settings pairs taken given
    (Err reason))
OpensLast state new begun settings pairs taken given answer = ⊥

-- the bytes taken are a whole message, and what was given and what waits is the new one
abbrev pub ResealsLast : {M : Type 0} → (M → ManagerNow) → Session M → HowResealed
    → M × List (List ℕ) → M → List ℕ → List ℕ → Answer → Type 0
ResealsLast state new how begun first taken given answers.Done = (new.ended ≡ true)
    × OfResealing state new how begun first given (λ question put.
    ResealsWhole question how.random taken put)
ResealsLast state new how begun first taken given answers.Failed = Stopped new (λ reason.
    OfResealing state new how begun first given (λ question put.
    ResealsEnd {T = Unit {0}} question how.random taken put (Err reason)))
ResealsLast state new how begun first taken given answer = ⊥

pub record SessionEnds {M : Type 0} (state : M → ManagerNow) (old new : Session M)
    (answer : Answer) : Type 0
  where
    pub seals : (v : SealingValue) (given : List ℕ) → SealsNow old v given
        → SealsLast new v given answer
    pub opens : (begun : M × List (List ℕ)) (settings : Settings) (pairs : List KeyValue)
        (taken given : List ℕ) → OpensNow state old begun settings pairs taken given
        → OpensLast state new begun settings pairs taken given answer
    pub reseals : (how : HowResealed) (begun : M × List (List ℕ)) (first : M) (taken given : List ℕ)
        → ResealsNow state old how begun first taken given
        → ResealsLast state new how begun first taken given answer
    pub refused : (a : Answer) → going_answer old ≡ Some a → (answer ≡ a) × (new ≡ old)

-- ---- the rest of a message at once

-- What was given and what waits is the message of all of the text; or no more text was taken, or
-- the message wasn't ended, for a reason.
abbrev pub SealsRest : {M : Type 0} → Session M → SealingValue → List ℕ → List ℕ → Answer → Type 0
SealsRest new v rest given answers.Done = (new.ended ≡ true)
    × (given ++ new.waiting ≡ message_of v.materials v.size v.id (v.taken ++ rest))
SealsRest new v rest given answers.Failed = Stopped new (λ reason.
    ((sealer : Sealer) × SessionSealsPiece {T = Unit {0}} v rest given sealer new.waiting
    (Err reason))
    ⊎ SealsEnd {T = Unit {0}} (fed v rest) given new.waiting (Err reason))
SealsRest new v rest given answer = ⊥

-- The bytes taken and these are a whole message, and what was given and what waits is its text; or
-- they aren't, or can't be judged, for a reason.
abbrev pub OpensRest : {M : Type 0} → (M → ManagerNow) → Session M → M × List (List ℕ) → Settings
    → List KeyValue → List ℕ → List ℕ → List ℕ → Answer → Type 0
OpensRest state new begun settings pairs taken rest given answers.Done = (new.ended ≡ true)
    × SessionReleases (asked state) begun new.manager new.waiting settings pairs (taken ++ rest)
    given
    Whole
OpensRest state new begun settings pairs taken rest given answers.Failed = Stopped new (λ reason.
    ((opener : Opener) × SessionOpensPiece {T = Unit {0}} (asked state) begun new.manager opener
    new.waiting settings pairs taken rest given (Err reason))
    ⊎ OpensEnd {T = Unit {0}} (asked state) begun new.manager new.waiting settings pairs
    (taken ++ rest) given (Err reason))
OpensRest state new begun settings pairs taken rest given answer = ⊥

-- The bytes taken and these are a whole message, and what was given and what waits is the new one;
-- or no more is resealed, for a reason.
abbrev pub ResealsRest : {M : Type 0} → (M → ManagerNow) → Session M → HowResealed
    → M × List (List ℕ) → M → List ℕ → List ℕ → List ℕ → Answer → Type 0
ResealsRest state new how begun first taken rest given answers.Done = (new.ended ≡ true)
    × OfResealing state new how begun first given (λ question put.
    ResealsWhole question how.random (taken ++ rest) put)
ResealsRest state new how begun first taken rest given answers.Failed = Stopped new (λ reason.
    OfResealing state new how begun first given (λ question put.
    ResealsNoMore question how.random taken rest put reason
    ⊎ ResealsEnd {T = Unit {0}} question how.random (taken ++ rest) put (Err reason)))
ResealsRest state new how begun first taken rest given answer = ⊥

-- The rest was fed, and then the message was ended.
pub record EndsWith {M : Type 0} (state : M → ManagerNow) (old new : Session M) (rest : List ℕ)
    (answer : Answer) : Type 0 where
  pub seals : (v : SealingValue) (given : List ℕ) → SealsNow old v given
      → SealsRest new v rest given answer
  pub opens : (begun : M × List (List ℕ)) (settings : Settings) (pairs : List KeyValue)
      (taken given : List ℕ) → OpensNow state old begun settings pairs taken given
      → OpensRest state new begun settings pairs taken rest given answer
  pub reseals : (how : HowResealed) (begun : M × List (List ℕ)) (first : M) (taken given : List ℕ)
      → ResealsNow state old how begun first taken given
      → ResealsRest state new how begun first taken rest given answer
  pub refused : (a : Answer) → going_answer old ≡ Some a → (answer ≡ a) × (new ≡ old)

-- ---- what waits

-- So many of the bytes that wait were handed out, to the front of the room; nothing else changed.
pub record HandsOutOf {M : Type 0} (state : M → ManagerNow) (old : Session M) (room : List ℕ)
    (count : ℕ) (new : Session M) (after : List ℕ) : Type 0 where
  pub out : HandsOut old.waiting room count new.waiting after
  pub same : new ≡ record old { waiting = drop count old.waiting }
  pub kept : (given total : List ℕ) → given ++ old.waiting ≡ total
      → (given ++ take count old.waiting) ++ new.waiting ≡ total
  pub seals : (v : SealingValue) (given : List ℕ) → SealsNow old v given
      → SealsNow new v (given ++ take count old.waiting)
  pub opens : (begun : M × List (List ℕ)) (settings : Settings) (pairs : List KeyValue)
      (taken given : List ℕ) → OpensNow state old begun settings pairs taken given
      → OpensNow state new begun settings pairs taken (given ++ take count old.waiting)
  pub reseals : (how : HowResealed) (begun : M × List (List ℕ)) (first : M) (taken given : List ℕ)
      → ResealsNow state old how begun first taken given
      → ResealsNow state new how begun first taken (given ++ take count old.waiting)

-- ---- the whole context

-- This is the whole context of the message that is opened or resealed, once its header was
-- unlocked. A machine that opens none has none.
abbrev pub MachineTellsContext : Machine → Option (List KeyValue) → Type 0
MachineTellsContext machines.SetUp context = context ≡ None
MachineTellsContext (machines.Sealing sealer) context = context ≡ None
MachineTellsContext (machines.Opening opener) context =
    (v : OpeningValue) → Stands opener v → context ≡ whole_context v
MachineTellsContext (machines.Resealing resealer) context =
    (v : ResealingValue) → StandsResealing resealer.0 v → context ≡ whole_context v.opening
