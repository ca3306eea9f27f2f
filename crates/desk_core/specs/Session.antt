-- One session of a desk, and what each call makes of it: what it answers, what it gives, and what
-- the session is worth then. Nothing but the session's own worth, and what the manager said in that
-- call, plays a part. Standard: AWS Encryption SDK Specification, "Encrypt" and "Decrypt", of which
-- each session is one.
use Rattle.std.specs.Prelude.{ℕ, List, [], Bool, Option, Some, None, Result, Ok, Err, if◌then◌else◌}
use Rattle.esdk_fields.specs.declared.refusals.Refusal.{Refusal}
use Rattle.context_codec.specs.Context.{KeyValue}
use Rattle.header_codec.specs.declared.settings.Settings.{Settings}
use Rattle.header_codec.specs.Header.{HeaderValue}
use Rattle.keyring_trait.specs.declared.manager_errors.ManagerError.{ManagerError}
use Rattle.keyring_trait.specs.declared.manager_errors.ManagerError.TheVariants as managers
use Rattle.keyring_trait.specs.Materials.{EncMaterialsValue}
use Rattle.stream_seal.specs.declared.errors.SealError.{SealError}
use Rattle.stream_seal.specs.declared.errors.SealError.TheVariants as seals
use Rattle.stream_seal.specs.Session as seal
use Rattle.stream_seal.specs.Session.{SealingValue, beginning}
use Rattle.stream_seal.specs.Start.{start_refusal, drawn_id}
use Rattle.stream_open.specs.declared.errors.OpenError.{OpenError}
use Rattle.stream_open.specs.declared.errors.OpenError.TheVariants as opens
use Rattle.stream_open.specs.Asking.{Heard}
use Rattle.stream_open.specs.Session as open_session
use Rattle.stream_open.specs.Session.{OpeningValue, asked_header, whole_context}
use Rattle.desk_core.specs.declared.errors.DeskError.{DeskError}
use Rattle.desk_core.specs.declared.errors.DeskError.TheVariants as errors
use Rattle.desk_core.specs.SealRequest.{SealRequestValue}

-- What a session is worth: that of a message which is sealed, or of one which is opened.
pub data SessionValue : Type 0 where
  Sealing : (v : SealingValue) → SessionValue
  Opening : (v : OpeningValue) → SessionValue

-- what its last call gave
abbrev pub session_out : SessionValue → List ℕ
session_out (Sealing v) = v.out
session_out (Opening v) = v.out

-- what a message begins with that is sealed; nothing, of one that is opened
abbrev pub sealed_header : SessionValue → List ℕ
sealed_header (Sealing v) = beginning v
sealed_header (Opening v) = []

-- the whole context of a message that is opened, once its header is unlocked
abbrev pub context_of : SessionValue → Option (List KeyValue)
context_of (Sealing v) = None
context_of (Opening v) = whole_context v

-- the header about which a step asks the manager; a message that is sealed asks about none
abbrev pub header_asked_about : Option SessionValue → List ℕ → Option HeaderValue
header_asked_about None piece = None
header_asked_about (Some (Sealing v)) piece = None
header_asked_about (Some (Opening v)) piece = asked_header v piece

-- ---- errors

-- what the desk calls the error of a sealer; a session that is live isn't stopped
abbrev pub seal_error : SealError → DeskError
seal_error (seals.Refusal refusal) = errors.Refusal refusal
seal_error seals.Stopped = errors.NotLive
seal_error seals.Memory = errors.Memory

-- what it calls the error of an opener
abbrev pub open_error : OpenError → DeskError
open_error (opens.Fault fault) = errors.Fault fault
open_error opens.KeyringFault = errors.KeyringFault
open_error opens.Stopped = errors.NotLive
open_error opens.Memory = errors.Memory

-- what it calls a manager's reason to give no materials
abbrev pub manager_error : ManagerError → DeskError
manager_error (managers.Fault fault) = errors.Fault fault
manager_error (managers.Refusal refusal) = errors.Refusal refusal
manager_error managers.KeyringFault = errors.KeyringFault
manager_error managers.Memory = errors.Memory

-- the answers of both machines, as the desk gives them
abbrev pub seal_answer : {A : Type 0} → Result A SealError → Result A DeskError
seal_answer (Ok value) = Ok value
seal_answer (Err error) = Err (seal_error error)

abbrev pub open_answer : {A : Type 0} → Result A OpenError → Result A DeskError
open_answer (Ok value) = Ok value
open_answer (Err error) = Err (open_error error)

-- ---- turns

-- What a call comes to for its session: what it answers, what it gives, and what the session is
-- worth then, where it is live.
pub record Turn (A : Type 0) : Type 0 where
  pub answer : Result A DeskError
  pub out : List ℕ
  pub left : Option SessionValue

-- an error: nothing is given, and the session isn't live
abbrev pub failed : {A : Type 0} → DeskError → Turn A
failed error = record { answer = Err error; out = []; left = None }

-- the session answered so, and is worth this; `left` says whether it is live where it answered no
-- error
abbrev pub answered : {A : Type 0} → Result A DeskError → SessionValue → Option SessionValue
    → Turn A
answered (Ok value) s left = record { answer = Ok value; out = session_out s; left = left }
answered (Err error) s left = failed error

-- ---- a step

-- what an opener answers: `short` says that memory ran out
abbrev pub opener_answer : OpeningValue → List ℕ → Heard → Bool → Result ℕ OpenError
opener_answer v piece heard short =
    if short then Err opens.Memory else open_session.opening_step_answer v piece heard

-- what a step answers
abbrev pub desk_step_answer : SessionValue → List ℕ → Heard → Bool → Result ℕ DeskError
desk_step_answer (Sealing v) piece heard short = seal_answer (seal.sealing_step_answer v piece)
desk_step_answer (Opening v) piece heard short = open_answer (opener_answer v piece heard short)

-- the session after it
abbrev pub desk_stepped : SessionValue → List ℕ → Heard → Bool → SessionValue
desk_stepped (Sealing v) piece heard short = Sealing (seal.sealing_stepped v piece)
desk_stepped (Opening v) piece heard short =
    Opening (open_session.opening_stepped v piece heard (opener_answer v piece heard short))

-- A step of the session, where there is one, in which this was heard: it stays live, unless it
-- answers an error.
abbrev pub desk_fed : Option SessionValue → List ℕ → Heard → Bool → Turn ℕ
desk_fed None piece heard short = failed errors.NotLive
desk_fed (Some s) piece heard short =
    answered (desk_step_answer s piece heard short) (desk_stepped s piece heard short)
    (Some (desk_stepped s piece heard short))

-- ---- the end

-- what `finish` answers
abbrev pub desk_finish_answer : SessionValue → Result (Unit {0}) DeskError
desk_finish_answer (Sealing v) = seal_answer (seal.sealing_finish_answer v)
desk_finish_answer (Opening v) = open_answer (open_session.opening_finish_answer v)

-- the session after it
abbrev pub desk_finished : SessionValue → SessionValue
desk_finished (Sealing v) = Sealing (seal.sealing_finished v)
desk_finished (Opening v) = Opening (open_session.opening_finished v)

-- `finish` of the session, where there is one, which isn't live any more.
abbrev pub ended : Option SessionValue → Turn (Unit {0})
ended None = failed errors.NotLive
ended (Some s) = answered (desk_finish_answer s) (desk_finished s) None

-- It isn't live any more, whatever it was worth.
abbrev pub dropped : Option SessionValue → Turn (Unit {0})
dropped None = failed errors.NotLive
dropped (Some s) = record { answer = Ok tt; out = []; left = None }

-- ---- the beginning

-- What the manager says to a request for materials: nothing, where it wasn't heard for want of
-- memory; the materials that it gives; why it refuses; or that it failed.
pub data Reply : Type 0 where
  NoReply : Reply
  Gives : (materials : EncMaterialsValue) → Reply
  Refuses : (refusal : Refusal) → Reply
  Fails : Reply

-- a session of this number, where no header of these materials is refused
abbrev pub begun_turn : SealRequestValue → List ℕ → EncMaterialsValue → ℕ → Option Refusal → Turn ℕ
begun_turn request random m id None =
    record {
      answer = Ok id;
      out = [];
      left = Some (Sealing (seal.new_sealing_session m request.wish.declared request.size
          (drawn_id random)));
    }
begun_turn request random m id (Some refusal) = failed (errors.Refusal refusal)

-- A message that is to be sealed: its session begins with the materials given, or there is none.
abbrev pub seal_opened : SealRequestValue → List ℕ → Reply → Bool → ℕ → Turn ℕ
seal_opened request random NoReply short id = failed errors.Memory
seal_opened request random (Gives m) short id =
    if short then failed errors.Memory
    else begun_turn request random m id (start_refusal m request.max_keys (drawn_id random))
seal_opened request random (Refuses refusal) short id = failed (errors.Refusal refusal)
seal_opened request random Fails short id = failed errors.KeyringFault

-- A message that is to be opened.
abbrev pub open_opened : Settings → List KeyValue → Bool → ℕ → Turn ℕ
open_opened settings given short id =
    if short then failed errors.Memory
    else record {
      answer = Ok id;
      out = [];
      left = Some (Opening (open_session.new_opening_session settings given));
    }
