-- Feeding a session: a caller hands it what came of a message, and puts what each step gives, until
-- nothing is left: while !left.is_empty() { let used = opener.step(alloc, manager, now, left)?;
-- put(opener.out()); left = &left[used..]; } What one step of this loop comes to, what all of them
-- do, and what an error leaves.
use Rattle.std.specs.Prelude.{◌≡◌, ◌≢◌, ℕ, ◌≤◌, List, [], ◌++◌, length, take, Option, Some, None}
use Rattle.std.specs.Prelude.{Ok, Err, option_map, false}
use Rattle.esdk_fields.specs.declared.faults.Fault.{Fault}
use Rattle.context_codec.specs.Context.{KeyValue}
use Rattle.header_codec.specs.declared.settings.Settings.{Settings}
use Rattle.header_codec.specs.Header.{HeaderValue}
use Rattle.header_codec.specs.Table.{HeaderFields, head, header_fault}
use Rattle.keyring_trait.specs.declared.manager_errors.ManagerError.TheVariants as managers
use Rattle.keyring_trait.specs.declared.served.Served.{Served}
use Rattle.keyring_trait.specs.Saying.{Saying}
use Rattle.keyring_trait.specs.Unlocking.{Unlocking, Refuses, Unlocks}
use Rattle.body_format.specs.declared.verdicts.Verdict.TheVariants.{Faulty}
use Rattle.message_format.specs.Judgement.{Judged, judged, header_of, content}
use Rattle.stream_open.specs.declared.errors.OpenError.TheVariants as errors
use Rattle.stream_open.specs.Asking.{Heard, Failed, IsHeard, request_of}
use Rattle.stream_open.specs.Laws.{MayBeHeard}
use Rattle.stream_open.specs.Session.{OpeningValue, new_opening_session, answer_kept, judged_now}
use Rattle.stream_open.specs.Session.{asked_header, keeping, is_faulty, opening_step_answer}
use Rattle.stream_open.specs.Session.{opening_stepped, MayRunOut}

-- ---- sessions that go on

-- No call answered an error, no fault stands in the bytes taken, and while no answer is kept no
-- header is whole in them.
pub record GoesOn (v : OpeningValue) : Type 0 where
  pub going : v.stopped ≡ false
  pub sound : is_faulty (judged_now v).verdict ≡ false
  pub unheard : v.answer ≡ None → head v.settings v.taken ≡ None

-- The session went on as this other one, which took these bytes beside and gave these.
pub record FeedsToOpener (v : OpeningValue) (bytes : List ℕ) (w : OpeningValue) (given : List ℕ)
    : Type 0 where
  pub settings : w.settings ≡ v.settings
  pub pairs : w.given ≡ v.given
  pub taken : w.taken ≡ v.taken ++ bytes
  pub content : content (judged_now w) ≡ content (judged_now v) ++ given
  pub kept : (answer : Unlocking) → v.answer ≡ Some answer → w.answer ≡ Some answer
  pub goes : GoesOn w

-- ---- one step

-- So many bytes of the piece were used, at least one, so that the loop ends; and the session went
-- on.
pub record OpenerIsFed (v : OpeningValue) (piece : List ℕ) (heard : Heard) (n : ℕ) : Type 0 where
  pub some : 1 ≤ n
  pub within : n ≤ length piece
  pub feeds : FeedsToOpener v (take n piece) (opening_stepped v piece heard (Ok n))
      (opening_stepped v piece heard (Ok n)).out

-- the judgement of the bytes taken and of all of the piece, once this was heard
abbrev pub judged_all : OpeningValue → List ℕ → Heard → Judged
judged_all v piece heard =
    judged (v.taken ++ piece) v.settings (answer_kept (keeping v heard).answer)

-- The bytes taken and all of the piece have this fault, whatever follows, and no more is released
-- of them than was before. It is the header's where no answer is kept.
pub record FindsFault (v : OpeningValue) (piece : List ℕ) (heard : Heard) (fault : Fault)
    : Type 0 where
  pub verdict : (judged_all v piece heard).verdict ≡ Faulty fault
  pub stays : (more : List ℕ) → judged_all v (piece ++ more) heard ≡ judged_all v piece heard
  pub released : content (judged_all v piece heard) ≡ content (judged_now v)
  pub unheard : (keeping v heard).answer ≡ None
      → header_fault v.settings (v.taken ++ piece) ≡ Some fault

-- The manager is asked about the header that is whole in the bytes taken and the piece. No answer
-- is kept yet, and nothing was released.
pub record AsksAbout (v : OpeningValue) (piece : List ℕ) (h : HeaderValue) : Type 0 where
  pub parts : HeaderFields
  pub whole : head v.settings (v.taken ++ piece) ≡ Some parts
  pub is : h ≡ header_of (v.taken ++ piece) parts
  pub unheard : v.answer ≡ None
  pub nothing : content (judged_now v) ≡ []

-- what each answer comes to
pub record IsFedExactly (v : OpeningValue) (piece : List ℕ) (heard : Heard) : Type 0 where
  pub used : (n : ℕ) → 1 ≤ length piece → opening_step_answer v piece heard ≡ Ok n
      → OpenerIsFed v piece heard n
  pub fault : (fault : Fault) → opening_step_answer v piece heard ≡ Err (errors.Fault fault)
      → FindsFault v piece heard fault
  pub failed : opening_step_answer v piece heard ≡ Err errors.KeyringFault
      → (heard ≡ Failed) × ((h : HeaderValue) × (asked_header v piece ≡ Some h))
  pub asked : (h : HeaderValue) → asked_header v piece ≡ Some h → AsksAbout v piece h
  pub unstopped : opening_step_answer v piece heard ≢ Err errors.Stopped

-- A step of a session that goes on, which hears something exactly where a header is asked about.
abbrev pub FeedsExactly : Type 0
FeedsExactly = (v : OpeningValue) (piece : List ℕ) (heard : Heard) → GoesOn v
    → MayBeHeard (asked_header v piece) ⊥ heard → IsFedExactly v piece heard

-- Where memory may run out nothing was released: the header isn't unlocked, or a single block isn't
-- whole.
abbrev pub RunsOutBeforeContent : Type 0
RunsOutBeforeContent = (v : OpeningValue) → MayRunOut v → content (judged_now v) ≡ []

-- ---- all steps

-- Step after step: the bytes taken are joined, and the bytes given.
abbrev pub FeedsCompose : Type 0
FeedsCompose = (v w z : OpeningValue) (first second given more : List ℕ)
    → FeedsToOpener v first w given → FeedsToOpener w second z more
    → FeedsToOpener v (first ++ second) z (given ++ more)

-- a session begins so
abbrev pub FeedsBegin : Type 0
FeedsBegin =
    (settings : Settings) (given : List KeyValue) → GoesOn (new_opening_session settings given)

-- no step yet
abbrev pub FeedsNothing : Type 0
FeedsNothing = (v : OpeningValue) → GoesOn v → FeedsToOpener v [] v []

-- ---- the answer that is kept

-- the header that is whole at the front of these bytes
abbrev pub header_in : Settings → List ℕ → Option HeaderValue
header_in settings bytes = option_map (header_of bytes) (head settings bytes)

-- An answer is kept about this header, and it is the manager's at this moment; none is kept where
-- there is no header.
abbrev pub KeepsAnswer : Saying → ℕ → List KeyValue → Option HeaderValue → Option Unlocking → Type 0
KeepsAnswer manager now given None answer = answer ≡ None
KeepsAnswer manager now given (Some h) None = ⊥
KeepsAnswer manager now given (Some h) (Some (Unlocks whole only key)) =
    (served : Served) × manager.finds (request_of given h) now
    (record { context = whole; only = only; key = key; served = served })
KeepsAnswer manager now given (Some h) (Some (Refuses fault)) =
    manager.finds_none (request_of given h) (managers.Fault fault)

-- this session keeps the manager's answer to the header that is whole in these bytes
abbrev pub KeepsItsAnswer : Saying → ℕ → OpeningValue → List ℕ → Type 0
KeepsItsAnswer manager now v bytes =
    KeepsAnswer manager now v.given (header_in v.settings bytes) v.answer

-- What is kept after a step, with the bytes that it used, or with all of the piece where it found a
-- fault. Where no header is asked about, it is what was kept, whoever answered it; where one is, it
-- is what was heard.
pub record KeepsOn (manager : Saying) (now : ℕ) (v : OpeningValue) (piece : List ℕ) (heard : Heard)
    : Type 0 where
  pub before : asked_header v piece ≡ None → KeepsItsAnswer manager now v v.taken
      → (n : ℕ) → KeepsItsAnswer manager now (keeping v heard) (v.taken ++ take n piece)
  pub before_all : asked_header v piece ≡ None → KeepsItsAnswer manager now v v.taken
      → KeepsItsAnswer manager now (keeping v heard) (v.taken ++ piece)
  pub used : (h : HeaderValue) → asked_header v piece ≡ Some h
      → (n : ℕ) → opening_step_answer v piece heard ≡ Ok n
      → KeepsItsAnswer manager now (keeping v heard) (v.taken ++ take n piece)
  pub fault : (h : HeaderValue) (fault : Fault) → asked_header v piece ≡ Some h
      → opening_step_answer v piece heard ≡ Err (errors.Fault fault)
      → KeepsItsAnswer manager now (keeping v heard) (v.taken ++ piece)

-- A step of a session that goes on keeps the answer that it hears.
abbrev pub KeepsAnswers : Saying → ℕ → Type 0
KeepsAnswers manager now = (v : OpeningValue) (piece : List ℕ) (heard : Heard)
    → GoesOn v → IsHeard manager now v.given (asked_header v piece) ⊥ heard
    → KeepsOn manager now v piece heard
