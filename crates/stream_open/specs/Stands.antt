-- When an opener stands for a session, and what a step of it keeps.
use Rattle.std.specs.Prelude.{◌≡◌, ℕ, List, [], Option, Some, None, true, false, Result, Err}
use Rattle.esdk_fields.specs.Place.{Place, start}
use Rattle.esdk_fields.specs.declared.refusals.FieldError.{FieldError}
use Rattle.esdk_fields.specs.declared.refusals.FieldError.TheVariants as fields
use Rattle.esdk_fields.specs.Reading.{Read, Wanting}
use Rattle.header_codec.specs.Header.{HeaderValue}
use Rattle.header_codec.specs.Stands.{Stands as Reads}
use Rattle.header_codec.specs.Table.{HeaderFields, header}
use Rattle.keyring_trait.specs.Manager.{ManagerNow}
use Rattle.keyring_trait.specs.Saying.{said_last}
use Rattle.keyring_trait.specs.Unlocking.{Unlocks}
use Rattle.suite_table.specs.Keys.{derived}
use Rattle.message_format.specs.Judgement.{header_of, lock_fault}
use Rattle.stream_open.specs.declared.body.Body.{Body}
use Rattle.stream_open.specs.declared.unlocked.Unlocked.{Unlocked}
use Rattle.stream_open.specs.declared.session.Opener.{Opener}
use Rattle.stream_open.specs.declared.errors.OpenError.{OpenError}
use Rattle.stream_open.specs.declared.errors.OpenError.TheVariants as errors
use Rattle.stream_open.specs.Asking.{Heard, Nothing, served_in, IsHeard, BearsHeard}
use Rattle.stream_open.specs.Body.{HoldsFrames, StandsBehind}
use Rattle.stream_open.specs.Session.{OpeningValue, asked_header, Answers, opening_stepped, framed}

-- what an opener gave last
abbrev pub opener_out : Option Unlocked → List ℕ
opener_out None = []
opener_out (Some u) = u.body.unit.out

-- the same, when nothing is given any more
abbrev pub quiet : Option Unlocked → Option Unlocked
quiet None = None
quiet (Some u) = Some (record u { body = record u.body { unit = record u.body.unit { out = [] } } })

-- a body has the fields of the header that was unlocked with this data key
pub record IsBodyOf (body : Body) (v : OpeningValue) (h : HeaderValue) (key : List ℕ) : Type 0 where
  pub derives : body.key ≡ derived h.suite key h.message_id
  pub id : body.message_id ≡ h.message_id
  pub content : body.content ≡ h.content
  pub max_unit : body.max_unit ≡ v.settings.max_unit
  pub reserved : framed h.content ≡ true → HoldsFrames body.content body.unit.reserved

-- The bytes taken begin with a header and its tag, which are unlocked with the answer, and behind
-- them stands what the body took.
pub record OpenerIsUnlocked (u : Unlocked) (v : OpeningValue) : Type 0 where
  pub parts : HeaderFields
  pub place : Place
  pub key : List ℕ
  pub reads : header v.settings (start v.taken) ≡ Read parts place
  pub answer : v.answer ≡ Some (Unlocks u.whole u.only key)
  pub opens : lock_fault (header_of v.taken parts) u.only key ≡ None
  pub body : IsBodyOf u.body v (header_of v.taken parts) key
  pub behind : StandsBehind v.stopped u.body place

-- the reader of the header took all bytes, and the header isn't whole yet
pub record OpenerIsLocked (opener : Opener) (v : OpeningValue) : Type 0 where
  pub reads : v.stopped ≡ false
      → Reads opener.reader (record { settings = v.settings; taken = v.taken; stopped = false })
  pub unheard : v.stopped ≡ false → v.answer ≡ None
  pub wanting : header v.settings (start v.taken) ≡ Wanting

abbrev pub StandsAt : Opener → OpeningValue → Option Unlocked → Type 0
StandsAt opener v None = OpenerIsLocked opener v
StandsAt opener v (Some u) = OpenerIsUnlocked u v

-- It has the session's limits and given pairs, says as it whether it is stopped, how the materials
-- were served, and what was given last, and stands behind the bytes taken.
pub record Stands (opener : Opener) (v : OpeningValue) : Type 0 where
  pub settings : opener.settings ≡ v.settings
  pub given : opener.given ≡ v.given
  pub served : opener.served ≡ v.served
  pub stopped : opener.stopped ≡ v.stopped
  pub out : opener_out opener.unlocked ≡ v.out
  pub at : StandsAt opener v opener.unlocked

-- What a step comes to at a moment, over a manager that was so and is so now: this was heard from
-- the manager, which bears its lines so; the answer is the session's, and the opener stands for the
-- session after it.
pub record OpenerSteps (old new : ManagerNow) (now : ℕ) (v : OpeningValue) (piece : List ℕ)
    (answer : Result ℕ OpenError) (opener : Opener) : Type 0 where
  pub heard : Heard
  pub hears : IsHeard (said_last old new) now v.given (asked_header v piece)
      (answer ≡ Err errors.Memory) heard
  pub bears : BearsHeard old new now (served_in heard)
  pub answers : Answers v piece heard answer
  pub stands : Stands opener (opening_stepped v piece heard answer)

-- A step once the header is unlocked: no header is asked about, and the answer and what is given
-- are the session's.
pub record StepsUnlocked (v : OpeningValue) (piece : List ℕ) (answer : Result ℕ OpenError)
    (u : Unlocked) : Type 0 where
  pub unasked : asked_header v piece ≡ None
  pub answers : Answers v piece Nothing answer
  pub stands : OpenerIsUnlocked u (opening_stepped v piece Nothing answer)
  pub out : u.body.unit.out ≡ (opening_stepped v piece Nothing answer).out

-- why a header isn't read
abbrev pub unread_as : FieldError → OpenError
unread_as (fields.Fault fault) = errors.Fault fault
unread_as fields.Stopped = errors.Stopped
unread_as fields.Memory = errors.Memory
