-- Many sessions side by side: what a desk is worth, and what each call makes of it.
use Rattle.std.specs.Prelude.{ℕ, ◌+◌, List, [], ◌∷◌, ◌++◌, Bool, Option, Some, None, Result, nat_eq}
use Rattle.std.specs.Prelude.{filter, if◌then◌else◌}
use Rattle.std.specs.Map.{update}
use Rattle.context_codec.specs.Context.{KeyValue}
use Rattle.header_codec.specs.declared.settings.Settings.{Settings}
use Rattle.keyring_trait.specs.declared.journal.JournalLine.{JournalLine}
use Rattle.keyring_trait.specs.declared.journal.Kind.{Kind}
use Rattle.keyring_trait.specs.declared.journal.Kind.TheVariants.{Seal, Unseal}
use Rattle.keyring_trait.specs.declared.served.Served.{Served}
use Rattle.stream_open.specs.Asking.{Heard, served_in}
use Rattle.desk_core.specs.declared.errors.DeskError.{DeskError}
use Rattle.desk_core.specs.SealRequest.{SealRequestValue}
use Rattle.desk_core.specs.Session.{SessionValue, Turn, desk_fed, ended, dropped, Reply, NoReply}
use Rattle.desk_core.specs.Session.{Gives, Refuses, Fails, seal_opened, open_opened}

-- What a desk is worth: the sessions that are live, by their numbers; the last number that was
-- drawn; what the manager answered so far; and what the last call gave.
pub record DeskValue : Type 0 where
  pub live : ℕ → Option SessionValue
  pub last : ℕ
  pub journal : List JournalLine
  pub out : List ℕ

-- no session is live, and none was
abbrev pub empty_desk : DeskValue
empty_desk = record { live = λ id. None; last = 0; journal = []; out = [] }

-- ---- the journal

-- the line of an answer that was served so; none, where no materials were
abbrev pub lines_of : ℕ → Kind → ℕ → Option ℕ → Option Served → List JournalLine
lines_of id kind now length None = []
lines_of id kind now length (Some served) =
    record { session = id; kind = kind; served = served; now = now; length = length } ∷ []

-- how the materials were served that the manager gave to seal with, if it gave some
abbrev pub served_by : Reply → Option Served
served_by NoReply = None
served_by (Gives m) = Some m.served
served_by (Refuses refusal) = None
served_by Fails = None

-- the line that is added where a session is opened to seal a message, and where the header of one
-- that is opened becomes whole
abbrev pub seal_lines : ℕ → ℕ → SealRequestValue → Reply → List JournalLine
seal_lines id now request reply = lines_of id Seal now request.wish.declared (served_by reply)

abbrev pub open_lines : ℕ → ℕ → Heard → List JournalLine
open_lines id now heard = lines_of id Unseal now None (served_in heard)

-- ---- what a call leaves

-- The desk after a call of this session, which came to this turn and added these lines. Every other
-- session is worth what it was.
abbrev pub after_turn : {A : Type 0} → DeskValue → ℕ → List JournalLine → Turn A → DeskValue
after_turn v id lines turn = record {
  live = update nat_eq v.live id turn.left;
  last = v.last;
  journal = v.journal ++ lines;
  out = turn.out;
}

-- the next number is drawn
abbrev pub drawn : DeskValue → DeskValue
drawn v = record v { last = v.last + 1 }

-- ---- calls in a row

-- A call: a session is opened, to seal or to open a message; a piece is fed; the session is ended,
-- or dropped. With each comes what the manager said in it.
pub data DeskCall : Type 0 where
  OpenSeal : (request : SealRequestValue) (now : ℕ) (random : List ℕ) (reply : Reply) → DeskCall
  OpenOpen : (settings : Settings) (given : List KeyValue) → DeskCall
  Feed : (now : ℕ) (piece : List ℕ) (heard : Heard) → DeskCall
  End : DeskCall
  DropSession : DeskCall

-- One call, of this session, and whether memory ran out in it.
pub record DeskEvent : Type 0 where
  pub session : ℕ
  pub call : DeskCall
  pub short : Bool

-- What a call answers: a number, which is that of the session opened or of the bytes used; or
-- nothing more.
pub data Answer : Type 0 where
  Number : (result : Result ℕ DeskError) → Answer
  Plain : (result : Result (Unit {0}) DeskError) → Answer

-- What a call hands to its session: what it answers, and what it gives.
pub record Handed : Type 0 where
  pub answer : Answer
  pub out : List ℕ

abbrev pub handed_number : Turn ℕ → Handed
handed_number turn = record { answer = Number turn.answer; out = turn.out }

abbrev pub plain : Turn (Unit {0}) → Handed
plain turn = record { answer = Plain turn.answer; out = turn.out }

-- what a call hands out, by what its session was worth before
abbrev pub handed_in : ℕ → Bool → Option SessionValue → DeskCall → Handed
handed_in id short live (OpenSeal request now random reply) =
    handed_number (seal_opened request random reply short id)
handed_in id short live (OpenOpen settings given) =
    handed_number (open_opened settings given short id)
handed_in id short live (Feed now piece heard) = handed_number (desk_fed live piece heard short)
handed_in id short live End = plain (ended live)
handed_in id short live DropSession = plain (dropped live)

abbrev pub handed_by : DeskValue → DeskEvent → Handed
handed_by v e = handed_in e.session e.short (v.live e.session) e.call

-- the desk after it
abbrev pub after_desk_call : DeskValue → ℕ → Bool → DeskCall → DeskValue
after_desk_call v id short (OpenSeal request now random reply) =
    after_turn (drawn v) id (seal_lines id now request reply)
    (seal_opened request random reply short id)
after_desk_call v id short (OpenOpen settings given) =
    after_turn (drawn v) id [] (open_opened settings given short id)
after_desk_call v id short (Feed now piece heard) =
    after_turn v id (open_lines id now heard) (desk_fed (v.live id) piece heard short)
after_desk_call v id short End = after_turn v id [] (ended (v.live id))
after_desk_call v id short DropSession = after_turn v id [] (dropped (v.live id))

abbrev pub after_desk_event : DeskValue → DeskEvent → DeskValue
after_desk_event v e = after_desk_call v e.session e.short e.call

-- the desk after these calls
unfoldable pub desk : List DeskEvent → DeskValue → DeskValue
desk [] v = v
desk (e ∷ es) v = desk es (after_desk_event v e)

-- the calls of this session, in their order
abbrev pub own : ℕ → List DeskEvent → List DeskEvent
own s events = filter (λ e. nat_eq e.session s) events

-- what this session was handed in these calls, one after another
unfoldable pub handed : ℕ → List DeskEvent → DeskValue → List Handed
handed s [] v = []
handed s (e ∷ es) v = (if nat_eq e.session s then handed_by v e ∷ [] else [])
    ++ handed s es (after_desk_event v e)
