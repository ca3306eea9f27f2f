-- What the laws of this crate say: whatever the pieces, what is given at any moment is the content
-- of the units that are whole by then.
use Rattle.std.specs.Prelude.{◌↔◌, is_err, Ok, Err, Some, None, ◌≡◌, ◌⊎◌, ℕ, ◌<◌, ◌≤◌, List, []}
use Rattle.std.specs.Prelude.{◌∷◌, ◌++◌, length, Bool, true, false, ◌||◌, ⊤, Option, Result}
use Rattle.esdk_fields.specs.declared.faults.Fault.{Fault}
use Rattle.context_codec.specs.Context.{KeyValue}
use Rattle.header_codec.specs.declared.settings.Settings.{Settings}
use Rattle.header_codec.specs.Header.{HeaderValue}
use Rattle.message_format.specs.Judgement.{content}
use Rattle.stream_open.specs.declared.errors.OpenError.{OpenError}
use Rattle.stream_open.specs.declared.errors.OpenError.TheVariants as errors
use Rattle.stream_open.specs.Asking.{Heard, Nothing, Found, Named, Failed}
use Rattle.stream_open.specs.Session.{OpeningValue, new_opening_session, judged_now, asked_header}
use Rattle.stream_open.specs.Session.{keeping, reach, is_faulty, is_stop, opening_step_answer}
use Rattle.stream_open.specs.Session.{Answers, opening_stepped, opening_finish_answer}
use Rattle.stream_open.specs.Session.{opening_finished}

-- ---- calls in a row

-- A call: a step with this piece, in which this was heard from the manager and which answered so,
-- or `finish`.
pub data OpeningEvent : Type 0 where
  Step : (piece : List ℕ) (heard : Heard) (answer : Result ℕ OpenError) → OpeningEvent
  Finish : OpeningEvent

-- something is heard exactly where a header is asked about, but where memory ran out
abbrev pub MayBeHeard : Option HeaderValue → Type 0 → Heard → Type 0
MayBeHeard asked short Nothing = (asked ≡ None) ⊎ short
MayBeHeard asked short (Found materials) = (h : HeaderValue) × (asked ≡ Some h)
MayBeHeard asked short (Named fault) = (h : HeaderValue) × (asked ≡ Some h)
MayBeHeard asked short Failed = (h : HeaderValue) × (asked ≡ Some h)

-- the session may meet this call
abbrev pub Meets : OpeningValue → OpeningEvent → Type 0
Meets v (Step piece heard answer) = MayBeHeard (asked_header v piece) (answer ≡ Err errors.Memory)
    heard × Answers v piece heard answer
Meets v Finish = ⊤

abbrev pub after_opening_event : OpeningValue → OpeningEvent → OpeningValue
after_opening_event v (Step piece heard answer) = opening_stepped v piece heard answer
after_opening_event v Finish = opening_finished v

-- the session after these calls
unfoldable pub after_opening_events : List OpeningEvent → OpeningValue → OpeningValue
after_opening_events [] v = v
after_opening_events (e ∷ es) v = after_opening_events es (after_opening_event v e)

-- it may meet each of them
unfoldable pub MeetsAll : List OpeningEvent → OpeningValue → Type 0
MeetsAll [] v = ⊤
MeetsAll (e ∷ es) v = Meets v e × MeetsAll es (after_opening_event v e)

-- what these calls give, one after another
unfoldable pub given_by_opening : List OpeningEvent → OpeningValue → List ℕ
given_by_opening [] v = []
given_by_opening (e ∷ es) v =
    (after_opening_event v e).out ++ given_by_opening es (after_opening_event v e)

-- this call answers an error
abbrev pub fails : OpeningValue → OpeningEvent → Bool
fails v (Step piece heard answer) = is_err answer
fails v Finish = is_err (opening_finish_answer v)

-- one of these calls answers an error
unfoldable pub opening_is_stopped_by : List OpeningEvent → OpeningValue → Bool
opening_is_stopped_by [] v = false
opening_is_stopped_by (e ∷ es) v = fails v e || opening_is_stopped_by es (after_opening_event v e)

-- ---- any cut

-- What was given is the content that the judgement of the bytes taken releases; and it finds no
-- fault in them.
pub record IsOpenedSoFar (v : OpeningValue) (given : List ℕ) : Type 0 where
  pub released : given ≡ content (judged_now v)
  pub sound : is_faulty (judged_now v).verdict ≡ false

abbrev pub OpensAnyCut : Type 0
OpensAnyCut = (settings : Settings) (given : List KeyValue) (events : List OpeningEvent)
    → MeetsAll events (new_opening_session settings given)
    → IsOpenedSoFar (after_opening_events events (new_opening_session settings given))
    (given_by_opening events (new_opening_session settings given))

-- ---- where steps end

-- n bytes of the piece are the first stop, or all of the piece and there is none
pub record FirstStopIsAt (v : OpeningValue) (piece : List ℕ) (n : ℕ) : Type 0 where
  pub within : n ≤ length piece
  pub some : 1 ≤ length piece → 1 ≤ n
  pub before : (k : ℕ) → 1 ≤ k → k < n → is_stop v piece k ≡ false
  pub here : (n ≡ length piece) ⊎ (is_stop v piece n ≡ true)

-- A step that hears what it may ends at the first stop, or uses all of the piece. It answers a
-- fault exactly where the judgement of the bytes up to there has it.
pub record EndsExactly (v : OpeningValue) (piece : List ℕ) (heard : Heard) : Type 0 where
  pub used : (n : ℕ) → opening_step_answer v piece heard ≡ Ok n
      → FirstStopIsAt (keeping v heard) piece n
  pub fault : (fault : Fault) → opening_step_answer v piece heard ≡ Err (errors.Fault fault)
      → FirstStopIsAt (keeping v heard) piece (reach (keeping v heard) piece)

abbrev pub StepsEndExactly : Type 0
StepsEndExactly = (v : OpeningValue) (piece : List ℕ) (heard : Heard) → EndsExactly v piece heard

-- ---- errors

-- The session is stopped exactly where a call before answered an error, and then, and only then, a
-- step and `finish` answer `Stopped`.
pub record OpeningStopsExactlyOf (begun : OpeningValue) (events : List OpeningEvent) : Type 0 where
  pub stopped : (after_opening_events events begun).stopped ≡ opening_is_stopped_by events begun
  pub step : (piece : List ℕ) (heard : Heard)
      → (opening_step_answer (after_opening_events events begun) piece heard ≡ Err errors.Stopped)
      ↔ ((after_opening_events events begun).stopped ≡ true)
  pub finish : (opening_finish_answer (after_opening_events events begun) ≡ Err errors.Stopped)
      ↔ ((after_opening_events events begun).stopped ≡ true)

abbrev pub OpeningStopsExactly : Type 0
OpeningStopsExactly = (settings : Settings) (given : List KeyValue) (events : List OpeningEvent)
    → OpeningStopsExactlyOf (new_opening_session settings given) events
