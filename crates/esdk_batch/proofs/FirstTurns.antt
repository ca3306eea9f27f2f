-- A job's first turn: what it leaves of the desk, and what it makes of the job's file.
use Rattle.std.proofs.Common.{◌≡◌, ◌≢◌, ◌≤◌, ◌+◌, ℕ, List, [], ◌∷◌, ◌++◌, length, take, false, refl, sym, ap, subst, ◌∙◌, inl, inr, arith, append-nil}
use Rattle.std.specs.Prelude.{◌⊎◌, Option, Some, None, is_some, nat_eq, option_map, slice_get}
use Rattle.std.specs.Map.{update}
use Rattle.std.proofs.lemmas.Map.{update_apart, update_here}
use Rattle.esdk_fields.specs.declared.refusals.Outside.TheVariants as outsides
use Rattle.esdk_base.specs.Shelf.{Files, file_of}
use Rattle.esdk_base.specs.Streams.{EntropyState}
use Rattle.keyring_trait.specs.declared.journal.JournalLine.{JournalLine}
use Rattle.keyring_trait.specs.declared.journal.Kind.{Kind}
use Rattle.keyring_trait.specs.declared.served.Served.{Served}
use Rattle.desk_core.specs.Session.{SessionValue, Turn, dropped, sealed_header}
use Rattle.desk_core.specs.Desk.{DeskValue, DropSession, after_desk_call, after_turn, drawn, lines_of}
use Rattle.job_file.specs.declared.job.Job.{Job}
use Rattle.batch_report.specs.declared.job_lines.JobEnd.TheVariants as ends
use Rattle.esdk_batch.specs.declared.progress.Live.{Live}
use Rattle.esdk_batch.specs.declared.progress.Progress.{Progress}
use Rattle.esdk_batch.specs.declared.progress.Progress.TheVariants as stages
use Rattle.esdk_batch.specs.Batch.{Draws}
use Rattle.esdk_batch.specs.Ending.{KeepsDesk}
use Rattle.esdk_batch.specs.Files.{Holding, KeepsOthers}
use Rattle.keyring_trait.specs.Saying.{Saying}
use Rattle.esdk_batch.specs.Opening.{BeginsFile}
use Rattle.esdk_batch.specs.Underway.{JobHasSession, IsAt, TakesTurn, sessions_beside}
use Rattle.esdk_batch.proofs.Beside.{rest_begun, rest_never}

-- ---- the desk

-- At most the next number was drawn, every session of another number is as it was, and the journal gained these lines.
pub record DrawsAtMost (v w : DeskValue) (lines : List JournalLine) : Type 0 where
  pub sessions : (session : ℕ) → session ≢ v.last + 1 → w.live session ≡ v.live session
  pub last : v.last ≤ w.last
  pub next : w.last ≤ v.last + 1
  pub journal : w.journal ≡ v.journal ++ lines

pub draws_none : (v : DeskValue) → DrawsAtMost v v []
draws_none v = record { sessions = λ session apart. refl; last = omega arith; next = omega arith; journal = sym (append-nil v.journal) }

pub draws_next : {A : Type 0} (v : DeskValue) (lines : List JournalLine) (turn : Turn A) → DrawsAtMost v (after_turn (drawn v) (v.last + 1) lines turn) lines
draws_next v lines turn = record {
  sessions = λ session apart. update_apart v.live (v.last + 1) turn.left session apart;
  last = omega arith;
  next = omega arith;
  journal = refl;
}

-- the session of that number was touched then
pub draws_on : (v u w : DeskValue) (session : ℕ) (lines : List JournalLine) → DrawsAtMost v u lines → session ≡ v.last + 1 → KeepsDesk session u w [] → DrawsAtMost v w lines
draws_on v u w session lines draws is keeps = record {
  sessions = λ other apart. keeps.others other (λ same. apart (same ∙ is)) ∙ draws.sessions other apart;
  last = omega (arith, draws.last, keeps.last);
  next = omega (arith, draws.next, keeps.last);
  journal = keeps.journal ∙ append-nil u.journal ∙ draws.journal;
}

-- the session of that number is live; none was before
pub rest_live : (v w : DeskValue) (lines : List JournalLine) (live : Live) → DrawsAtMost v w lines → live.session ≡ v.last + 1 → v.live (v.last + 1) ≡ None
    → (session : ℕ) → update nat_eq w.live live.session None session ≡ v.live session
rest_live v w lines live draws is undrawn = rest_begun v.live w.live live.session (λ other apart. draws.sessions other (λ same. apart (same ∙ sym is))) (ap v.live is ∙ undrawn)

-- it isn't
pub rest_none : (v w : DeskValue) (lines : List JournalLine) → DrawsAtMost v w lines → v.live (v.last + 1) ≡ None → w.live (v.last + 1) ≡ None → (session : ℕ) → w.live session ≡ v.live session
rest_none v w lines draws undrawn over = rest_never v.live w.live (v.last + 1) draws.sessions undrawn over

-- ---- the session's file

kept_desk : (v : DeskValue) (session : ℕ) → KeepsDesk session v v []
kept_desk v session = record { others = λ other apart. refl; last = refl; journal = sym (append-nil v.journal) }

pub dropped_desk : (v : DeskValue) (session : ℕ) → KeepsDesk session v (after_desk_call v session false DropSession) []
dropped_desk v session = record { others = λ other apart. update_apart v.live session (dropped (v.live session)).left other apart; last = refl; journal = refl }

pub dropped_left : (v : DeskValue) (session : ℕ) (s : SessionValue) → v.live session ≡ Some s → (after_desk_call v session false DropSession).live session ≡ None
dropped_left v session s live = update_here v.live session (dropped (v.live session)).left ∙ ap (λ (o : Option SessionValue). (dropped o).left) live

-- the file was made
pub file_begun : (session : ℕ) (kind : Kind) (served : Option Served) (s : SessionValue) (v : DeskValue) (files after : Option Files) (to : List ℕ) → v.live session ≡ Some s
    → Holding files after to (sealed_header s) → BeginsFile session kind served s v v files after to (stages.Live (record { session = session; at = 0; served = served }))
file_begun session kind served s v files after to live holding = record { desk = kept_desk v session; begins = (refl, live, holding) }

-- it wasn't, and the session was dropped
pub file_failed : (session : ℕ) (kind : Kind) (served : Option Served) (s : SessionValue) (v : DeskValue) (files after : Option Files) (to : List ℕ) (next : Progress)
    → next ≡ stages.Ended (record { kind = kind; end = ends.Outside outsides.ShelfFault; served = served }) → v.live session ≡ Some s
    → (after ≡ files) ⊎ ((n : ℕ) × Holding files after to (take n (sealed_header s))) → BeginsFile session kind served s v (after_desk_call v session false DropSession) files after to next
file_failed session kind served s v files after to next is live left =
    subst (λ (p : Progress). BeginsFile session kind served s v (after_desk_call v session false DropSession) files after to p) (sym is)
    (record { desk = dropped_desk v session; begins = (refl, dropped_left v session s live, left) })

-- ---- files

pub keeps_all : (told : Option Files) (name : List ℕ) → KeepsOthers told told name
keeps_all told name = record { tells = refl; others = λ other apart. refl }

-- what the name holds where it was made to
pub holds_now : (files left : Option Files) (name bytes : List ℕ) (now then_held : Files) → Holding files left name bytes → files ≡ Some now → left ≡ Some then_held
    → file_of (Some then_held) name ≡ Some bytes
holds_now files left name bytes now then_held holding was is = ap (λ (told : Option Files). file_of told name) (sym is) ∙ holding.this (ap (λ (told : Option Files). is_some told) was)

-- what it holds where nothing changed
pub same_now : (files left : Option Files) (name : List ℕ) (before now then_held : Files) → left ≡ files → files ≡ Some now → left ≡ Some then_held
    → file_of (Some now) name ≡ file_of (Some before) name → file_of (Some then_held) name ≡ file_of (Some before) name
same_now files left name before now then_held same was is unmade = ap (λ (told : Option Files). file_of told name) (sym is ∙ same ∙ was) ∙ unmade

-- what it holds where it wasn't made, or not whole
pub left_now : (files left : Option Files) (name bytes : List ℕ) (before now then_held : Files) → (left ≡ files) ⊎ ((n : ℕ) × Holding files left name (take n bytes))
    → files ≡ Some now → left ≡ Some then_held → file_of (Some now) name ≡ file_of (Some before) name
    → (file_of (Some then_held) name ≡ file_of (Some before) name) ⊎ ((n : ℕ) × (file_of (Some then_held) name ≡ Some (take n bytes)))
left_now files left name bytes before now then_held made was is unmade = elim made [
  | inl same ↦ inl (same_now files left name before now then_held same was is unmade)
  | inr front ↦ inr (front.0, holds_now files left name (take front.0 bytes) now then_held front.1 was is)
]

pub left_others : (files left : Option Files) (name bytes : List ℕ) → (left ≡ files) ⊎ ((n : ℕ) × Holding files left name (take n bytes)) → KeepsOthers files left name
left_others files left name bytes made = elim made [
  | inl same ↦ subst (λ (told : Option Files). KeepsOthers files told name) (sym same) (keeps_all files name)
  | inr front ↦ front.1.keeps
]

-- ---- how materials were served

get_behind : {X : Type 0} (xs ys : List X) → slice_get (xs ++ ys) (length xs) ≡ slice_get ys 0
get_behind [] ys = refl
get_behind (x ∷ xs) ys = get_behind xs ys

served_line : (id : ℕ) (kind : Kind) (now : ℕ) (size : Option ℕ) (served : Option Served) → option_map (λ (line : JournalLine). line.served) (slice_get (lines_of id kind now size served) 0) ≡ served
served_line id kind now size None = refl
served_line id kind now size (Some served) = refl

-- the line behind those before says so
pub served_behind : (id : ℕ) (kind : Kind) (now : ℕ) (size : Option ℕ) (served : Option Served) (before after : List JournalLine) (count : ℕ) → count ≡ length before
    → after ≡ before ++ lines_of id kind now size served → option_map (λ (line : JournalLine). line.served) (slice_get after count) ≡ served
served_behind id kind now size served before after count counted grown =
    ap (λ (lines : List JournalLine). option_map (λ (line : JournalLine). line.served) (slice_get lines count)) grown
    ∙ ap (λ (n : ℕ). option_map (λ (line : JournalLine). line.served) (slice_get (before ++ lines_of id kind now size served) n)) counted
    ∙ ap (λ (o : Option JournalLine). option_map (λ (line : JournalLine). line.served) o) (get_behind before (lines_of id kind now size served))
    ∙ served_line id kind now size served

-- ---- the turn

-- A job that waited drew nothing before, and its file was as before the batch.
pub takes_first : (manager : Saying) (job : Job) (next : Progress) (v w : DeskValue) (lines : List JournalLine) (files left : Option Files) (entropy spent : EntropyState) (more : List ℕ)
    → DrawsAtMost v w lines → ((session : ℕ) → sessions_beside next w.live session ≡ v.live session) → Draws entropy spent more → KeepsOthers files left job.to
    → JobHasSession w.live next
    → ((before now then_held : Files) → files ≡ Some now → left ≡ Some then_held → file_of (Some now) job.to ≡ file_of (Some before) job.to → IsAt manager job before then_held more w.live next)
    → TakesTurn manager job stages.Waiting next v w files left entropy spent
takes_first manager job next v w lines files left entropy spent more draws rest drew others has stands = record {
  more = more;
  drawn = drew;
  sessions = λ session lacks low. draws.sessions session (λ same. omega (arith, same, low));
  rest = rest;
  last = draws.last;
  next = draws.next;
  gained = lines;
  journal = draws.journal;
  others = λ left is. others;
  has = has;
  stands = λ before now then_held held was is from at.
      subst (λ (d : List ℕ). IsAt manager job before then_held d w.live next) (ap (λ (d : List ℕ). d ++ more) (sym at.0)) (stands before now then_held was is at.1);
}
