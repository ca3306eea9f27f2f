-- A session that is opened: the desk after it.
use Rattle.std.proofs.Common.{◌≡◌, ℕ, ◌+◌, List, [], ◌++◌, Bool, true, false, nat_eq, Option, Some, None, Result, Ok, Err, IfOk, IfErr, OnOk, OnErr, refl, sym, ap, subst, ◌∙◌, arith}
use Rattle.std.proofs.lemmas.List.{append-nil}
use Rattle.std.specs.Global.{Box}
use Rattle.std.specs.Map.{update}
use Rattle.context_codec.specs.Context.{KeyValue}
use Rattle.header_codec.specs.declared.settings.Settings.{Settings}
use Rattle.keyring_trait.specs.declared.journal.JournalLine.{JournalLine}
use Rattle.keyring_trait.specs.Saying.{Saying}
use Rattle.stream_open.specs.Session as open_session
use Rattle.desk_core.specs.declared.errors.DeskError.{DeskError}
use Rattle.desk_core.specs.declared.errors.DeskError.TheVariants as errors
use Rattle.desk_core.specs.declared.session.Session.{Session}
use Rattle.desk_core.specs.declared.live_sessions.Desk.{Desk}
use Rattle.desk_core.specs.declared.live_sessions.Lent.{Lent}
use Rattle.desk_core.specs.declared.live_sessions.Lent.TheVariants as lents
use Rattle.desk_core.specs.SealRequest.{SealRequestValue}
use Rattle.desk_core.specs.Session.{SessionValue, Opening, Turn, Reply, NoReply, Gives, Refuses, Fails, failed, open_opened, seal_opened}
use Rattle.desk_core.specs.Desk.{DeskValue, after_turn, drawn, seal_lines}
use Rattle.desk_core.specs.Calls.{IsReply, OpensOpen, OpensSeal}
use Rattle.desk_core.specs.Stands.{StandsFor, IsLive, AreLive, Lends, Stands}
use Rattle.desk_core.specs.Beginning.{DeskBegins}
use Rattle.desk_core.proofs.Live.{are_live_same}
use Rattle.desk_core.proofs.Desks.{NoneAbove, stands_turn}

-- the next number isn't live, nor one above it
above_next : (live : ℕ → Option SessionValue) (last : ℕ) → NoneAbove live last → NoneAbove live (last + 1)
above_next live last above id h = above id (omega arith)

-- the desk after the next number was drawn, by what the turn left under it
stands_drawn : {M A : Type 0} (next : Desk M) (v : DeskValue) (lines : List JournalLine) (turn : Turn A) (left : Option SessionValue) → turn.left ≡ left → turn.out ≡ [] → NoneAbove v.live v.last
    → AreLive next.sessions (update nat_eq v.live (v.last + 1) left) → next.last_id ≡ v.last + 1 → next.journal.items ≡ v.journal ++ lines → next.lent ≡ lents.Nothing
    → Stands next (after_turn (drawn v) (v.last + 1) lines turn)
stands_drawn next v lines turn left is gives above alive last journal lent =
    stands_turn next (drawn v) (v.last + 1) lines turn left [] is gives (above_next v.live v.last above) (λ h. absurd (omega arith)) alive last journal
    (subst (λ (l : Lent). Lends l (update nat_eq v.live (v.last + 1) left) []) (sym lent) refl)

-- no session has the number that was drawn
none_next : (v : DeskValue) → NoneAbove v.live v.last → v.live (v.last + 1) ≡ None
none_next v above = above (v.last + 1) (omega arith)

-- ---- to open a message

pub opens_open : {M : Type 0} (next : Desk M) (v : DeskValue) (settings : Settings) (given : List KeyValue) (result : Result ℕ DeskError) → NoneAbove v.live v.last
    → next.last_id ≡ v.last + 1 → next.journal.items ≡ v.journal → next.lent ≡ lents.Nothing → IfOk result (λ number. number ≡ v.last + 1) → IfErr result (λ error. error ≡ errors.Memory)
    → OnOk result (AreLive next.sessions (update nat_eq v.live (v.last + 1) (Some (Opening (open_session.new_opening_session settings given))))) → OnErr result (AreLive next.sessions v.live)
    → OpensOpen v settings given result next
opens_open next v settings given (Ok number) above last journal lent is memory alive same = record {
  short = false;
  answer = ap (λ (n : ℕ). Ok n) is;
  stands = stands_drawn next v [] (open_opened settings given false (v.last + 1)) (Some (Opening (open_session.new_opening_session settings given))) refl refl above alive last (journal ∙ sym (append-nil v.journal)) lent;
}
opens_open next v settings given (Err error) above last journal lent is memory alive same = record {
  short = true;
  answer = ap (λ (e : DeskError). Err e) memory;
  stands = stands_drawn next v [] (open_opened settings given true (v.last + 1)) None refl refl above (are_live_same next.sessions v.live (v.last + 1) same (none_next v above)) last
      (journal ∙ sym (append-nil v.journal)) lent;
}

-- the same, by a number that is the next
pub opens_open_at : {M : Type 0} (next : Desk M) (v : DeskValue) (settings : Settings) (given : List KeyValue) (result : Result ℕ DeskError) (id : ℕ) → id ≡ v.last + 1 → NoneAbove v.live v.last
    → next.last_id ≡ id → next.journal.items ≡ v.journal → next.lent ≡ lents.Nothing → IfOk result (λ number. number ≡ id) → IfErr result (λ error. error ≡ errors.Memory)
    → OnOk result (AreLive next.sessions (update nat_eq v.live id (Some (Opening (open_session.new_opening_session settings given))))) → OnErr result (AreLive next.sessions v.live)
    → OpensOpen v settings given result next
opens_open_at next v settings given result id e above last journal lent is memory alive same =
    opens_open next v settings given result above (last ∙ e) journal lent (subst (λ (i : ℕ). IfOk result (λ number. number ≡ i)) e is) memory
    (subst (λ (i : ℕ). OnOk result (AreLive next.sessions (update nat_eq v.live i (Some (Opening (open_session.new_opening_session settings given)))))) e alive) same

-- ---- to seal a message

pub opens_not : {M : Type 0} (manager : Saying) (next : Desk M) (v : DeskValue) (request : SealRequestValue) (now : ℕ) (random : List ℕ) (error : DeskError) (before : List JournalLine)
    → DeskBegins manager request (v.last + 1) now random (Err error) before next.journal.items → before ≡ v.journal → NoneAbove v.live v.last → next.last_id ≡ v.last + 1 → next.lent ≡ lents.Nothing
    → AreLive next.sessions v.live → OpensSeal manager v request now random (Err error) next
opens_not manager next v request now random error before begins same above last lent alive =
    let lines : List JournalLine = seal_lines (v.last + 1) now request begins.reply in
    record {
      reply = begins.reply;
      short = begins.short;
      replies = begins.replies;
      answer = sym begins.begins.0;
      stands = stands_drawn next v lines (seal_opened request random begins.reply begins.short (v.last + 1)) None begins.begins.1 begins.begins.2 above
          (are_live_same next.sessions v.live (v.last + 1) alive (none_next v above)) last (begins.journal ∙ ap (λ (l : List JournalLine). l ++ lines) same) lent;
    }

-- a reply with which a session begins can also be followed by want of memory
record Shortened (manager : Saying) (request : SealRequestValue) (now : ℕ) (random : List ℕ) (reply : Reply) (id : ℕ) : Type 0 where
  replies : IsReply manager request now random true reply
  turn : seal_opened request random reply true id ≡ failed errors.Memory

shortened : (manager : Saying) (request : SealRequestValue) (now : ℕ) (random : List ℕ) (reply : Reply) (short : Bool) (id number : ℕ) → IsReply manager request now random short reply
    → (seal_opened request random reply short id).answer ≡ Ok number → Shortened manager request now random reply id
shortened manager request now random NoReply short id number is e = absurd (cc)
shortened manager request now random (Gives m) short id number is e = record { replies = is; turn = refl }
shortened manager request now random (Refuses refusal) short id number is e = absurd (cc)
shortened manager request now random Fails short id number is e = absurd (cc)

pub opens_seal : {M : Type 0} (manager : Saying) (next : Desk M) (v : DeskValue) (request : SealRequestValue) (now : ℕ) (random : List ℕ) (machine : Box Session) (result : Result ℕ DeskError)
    (before : List JournalLine) → DeskBegins manager request (v.last + 1) now random (Ok machine) before next.journal.items → before ≡ v.journal → NoneAbove v.live v.last → next.last_id ≡ v.last + 1
    → next.lent ≡ lents.Nothing → IfOk result (λ number. number ≡ v.last + 1) → IfErr result (λ error. error ≡ errors.Memory)
    → ((s : SessionValue) → StandsFor machine.value s → IsLive s → OnOk result (AreLive next.sessions (update nat_eq v.live (v.last + 1) (Some s)))) → OnErr result (AreLive next.sessions v.live)
    → OpensSeal manager v request now random result next
opens_seal manager next v request now random machine (Ok number) before begins same above last lent is memory alive err =
    let lines : List JournalLine = seal_lines (v.last + 1) now request begins.reply in
    let session = begins.begins in
    record {
      reply = begins.reply;
      short = begins.short;
      replies = begins.replies;
      answer = ap (λ (n : ℕ). Ok n) is ∙ sym session.1;
      stands = stands_drawn next v lines (seal_opened request random begins.reply begins.short (v.last + 1)) (Some session.0) session.2 session.3 above (alive session.0 session.4 session.5) last
          (begins.journal ∙ ap (λ (l : List JournalLine). l ++ lines) same) lent;
    }
opens_seal manager next v request now random machine (Err error) before begins same above last lent is memory alive err =
    let lines : List JournalLine = seal_lines (v.last + 1) now request begins.reply in
    let then : Shortened manager request now random begins.reply (v.last + 1) =
    shortened manager request now random begins.reply begins.short (v.last + 1) (v.last + 1) begins.replies begins.begins.1 in
    record {
      reply = begins.reply;
      short = true;
      replies = then.replies;
      answer = ap (λ (e : DeskError). Err e) memory ∙ sym (ap (λ (t : Turn ℕ). t.answer) then.turn);
      stands = stands_drawn next v lines (seal_opened request random begins.reply true (v.last + 1)) None (ap (λ (t : Turn ℕ). t.left) then.turn) (ap (λ (t : Turn ℕ). t.out) then.turn) above
          (are_live_same next.sessions v.live (v.last + 1) err (none_next v above)) last (begins.journal ∙ ap (λ (l : List JournalLine). l ++ lines) same) lent;
    }

pub opens_seal_at : {M : Type 0} (manager : Saying) (next : Desk M) (v : DeskValue) (request : SealRequestValue) (now : ℕ) (random : List ℕ) (machine : Box Session) (result : Result ℕ DeskError)
    (before : List JournalLine) (id : ℕ) → id ≡ v.last + 1 → DeskBegins manager request id now random (Ok machine) before next.journal.items → before ≡ v.journal → NoneAbove v.live v.last
    → next.last_id ≡ id → next.lent ≡ lents.Nothing → IfOk result (λ number. number ≡ id) → IfErr result (λ error. error ≡ errors.Memory)
    → ((s : SessionValue) → StandsFor machine.value s → IsLive s → OnOk result (AreLive next.sessions (update nat_eq v.live id (Some s)))) → OnErr result (AreLive next.sessions v.live)
    → OpensSeal manager v request now random result next
opens_seal_at manager next v request now random machine result before id e begins same above last lent is memory alive err =
    opens_seal manager next v request now random machine result before (subst (λ (i : ℕ). DeskBegins manager request i now random (Ok machine) before next.journal.items) e begins) same above (last ∙ e) lent
    (subst (λ (i : ℕ). IfOk result (λ number. number ≡ i)) e is) memory
    (λ s stands goes. subst (λ (i : ℕ). OnOk result (AreLive next.sessions (update nat_eq v.live i (Some s)))) e (alive s stands goes)) err
