-- A job's first turn: the number of its session, and what the journal says of its materials.
use Rattle.std.proofs.Common.{◌≡◌, ◌+◌, ℕ, List, [], ◌++◌, map, refl, sym, ap, subst, ◌∙◌, arith}
use Rattle.std.specs.Prelude.{All, Option, Some, None, option_map}
use Rattle.std.specs.Option.{option_to_list}
use Rattle.std.proofs.lemmas.List.Elements.{All-cons, All-nil}
use Rattle.esdk_base.specs.Shelf.{Files}
use Rattle.context_codec.specs.Context.{KeyValue}
use Rattle.keyring_trait.specs.declared.journal.JournalLine.{JournalLine}
use Rattle.keyring_trait.specs.declared.journal.Kind.{Kind}
use Rattle.keyring_trait.specs.declared.journal.Kind.TheVariants.{Seal, Unseal}
use Rattle.keyring_trait.specs.declared.served.Served.{Served}
use Rattle.stream_seal.specs.Session.{SealingValue}
use Rattle.stream_open.specs.Session.{OpeningValue}
use Rattle.desk_core.specs.Session.{Opening, Sealing, SessionValue}
use Rattle.desk_core.specs.Desk.{DeskValue, lines_of}
use Rattle.desk_core.specs.declared.live_sessions.Desk.{Desk}
use Rattle.desk_core.specs.Stands.{Stands, last_of}
use Rattle.job_file.specs.declared.job.Job.{Job}
use Rattle.job_file.specs.declared.job.Work.{Work}
use Rattle.job_file.specs.declared.job.Work.TheVariants.{Decrypt, Encrypt}
use Rattle.batch_report.specs.declared.job_lines.JobEnd.{JobEnd}
use Rattle.batch_report.specs.declared.job_lines.JobLine.{JobLine}
use Rattle.esdk_batch.specs.declared.progress.Live.{Live}
use Rattle.esdk_batch.specs.declared.progress.Progress.{Progress}
use Rattle.esdk_batch.specs.declared.progress.Progress.TheVariants as stages
use Rattle.esdk_batch.specs.Batch.{ManagerAnswer, in_line, kind_of, length_of}
use Rattle.esdk_batch.specs.Opening.{BeginsFile}
use Rattle.esdk_batch.specs.SealStory.{SealAsked}
use Rattle.esdk_batch.specs.Turns.{AddsLines, DrawsNumber, Knows, served_so_far}

-- ---- the number

begun_number : (session : ℕ) (kind : Kind) (served : Option Served) (s : SessionValue) (v w : DeskValue) (files after : Option Files) (to : List ℕ) (next : Progress) (last now : ℕ)
    → BeginsFile session kind served s v w files after to next → session ≡ last + 1 → now ≡ last + 1 → DrawsNumber stages.Waiting next last now
begun_number session kind served s v w files after to stages.Waiting last now file is drawn = absurd file.begins
begun_number session kind served s v w files after to (stages.Live live) last now file is drawn = (ap (λ (l : Live). l.session) file.begins.0 ∙ is, drawn)
begun_number session kind served s v w files after to (stages.Ended line) last now file is drawn = (omega (arith, drawn), omega (arith, drawn))

-- the desk drew it in the call that opened the session
pub number_drawn : {M : Type 0} (before opened after : Desk M) (session : ℕ) (kind : Kind) (served : Option Served) (s : SessionValue) (v u w : DeskValue) (files left : Option Files) (to : List ℕ)
    (next : Progress) → Stands before v → BeginsFile session kind served s u w files left to next → session ≡ v.last + 1 → last_of opened ≡ last_of before + 1 → last_of after ≡ last_of opened
    → DrawsNumber stages.Waiting next (last_of before) (last_of after)
number_drawn before opened after session kind served s v u w files left to next stands file is drawn kept =
    begun_number session kind served s u w files left to next (last_of before) (last_of after) file (is ∙ ap (λ (n : ℕ). n + 1) (sym stands.last)) (kept ∙ drawn)

-- ---- how its materials were served

begun_served : (session : ℕ) (kind : Kind) (served : Option Served) (s : SessionValue) (v w : DeskValue) (files after : Option Files) (to : List ℕ) (next : Progress)
    → BeginsFile session kind served s v w files after to next → served_so_far next ≡ served
begun_served session kind served s v w files after to stages.Waiting file = absurd file.begins
begun_served session kind served s v w files after to (stages.Live live) file = ap (λ (l : Live). l.served) file.begins.0
begun_served session kind served s v w files after to (stages.Ended line) file = ap (λ (l : JobLine). l.served) file.begins.0

abbrev answer_of : Work → Served → ManagerAnswer
answer_of work served = record { kind = kind_of work; served = served; length = length_of work }

abbrev told_of : Work → Option Served → List ManagerAnswer
told_of work served = option_to_list (option_map (answer_of work) served)

told_seal : (id now : ℕ) (size : Option ℕ) (frame : ℕ) (context : List KeyValue) (required : List (List ℕ)) (served : Option Served)
    → told_of (Encrypt size frame context required) served ≡ map in_line (lines_of id Seal now size served)
told_seal id now size frame context required None = refl
told_seal id now size frame context required (Some served) = refl

lines_seal : (id now : ℕ) (size : Option ℕ) (served : Option Served) → All (λ (line : JournalLine). (line.kind ≡ Seal) × (line.session ≡ id)) (lines_of id Seal now size served)
lines_seal id now size None = All-nil (λ (line : JournalLine). (line.kind ≡ Seal) × (line.session ≡ id))
lines_seal id now size (Some served) = All-cons (λ (line : JournalLine). (line.kind ≡ Seal) × (line.session ≡ id)) (record { session = id; kind = Seal; served = served; now = now; length = size }) [] (refl, refl)
    (All-nil (λ (line : JournalLine). (line.kind ≡ Seal) × (line.session ≡ id)))

-- an encrypt job whose materials were served so
seal_adds : (job : Job) (asked : SealAsked) (next : Progress) (v w : DeskValue) (now : ℕ) (served : Option Served) → job.work ≡ Encrypt asked.declared asked.frame asked.context asked.required
    → served_so_far next ≡ served → w.journal ≡ v.journal ++ lines_of (v.last + 1) Seal now asked.declared served
    → Knows (Encrypt asked.declared asked.frame asked.context asked.required) next w.live → AddsLines job stages.Waiting next v w
seal_adds job asked next v w now served work serves journal knows = record {
  knows = subst (λ (work : Work). Knows work next w.live) (sym work) knows;
  gained = lines_of (v.last + 1) Seal now asked.declared served;
  journal = journal;
  lines = lines_seal (v.last + 1) now asked.declared served;
  served = ap (λ (work : Work). told_of work (served_so_far next)) work
      ∙ ap (λ (o : Option Served). told_of (Encrypt asked.declared asked.frame asked.context asked.required) o) serves
      ∙ told_seal (v.last + 1) now asked.declared asked.frame asked.context asked.required served;
}

-- the lines by how they say it was served
lines_told : (before after : List JournalLine) (id now : ℕ) (size : Option ℕ) (served told : Option Served) → after ≡ before ++ lines_of id Seal now size told → served ≡ told
    → after ≡ before ++ lines_of id Seal now size served
lines_told before after id now size served told journal same = journal ∙ ap (λ (s : Option Served). before ++ lines_of id Seal now size s) (sym same)

-- one that ended at once
pub seal_ended_adds : (job : Job) (asked : SealAsked) (next : Progress) (v w : DeskValue) (now : ℕ) (end : JobEnd) (served told : Option Served)
    → job.work ≡ Encrypt asked.declared asked.frame asked.context asked.required → next ≡ stages.Ended (record { kind = Seal; end = end; served = served })
    → w.journal ≡ v.journal ++ lines_of (v.last + 1) Seal now asked.declared told → served ≡ told → AddsLines job stages.Waiting next v w
seal_ended_adds job asked next v w now end served told work ends_so journal same =
    subst (λ (p : Progress). AddsLines job stages.Waiting p v w) (sym ends_so)
    (seal_adds job asked (stages.Ended (record { kind = Seal; end = end; served = served })) v w now served work refl
    (lines_told v.journal w.journal (v.last + 1) now asked.declared served told journal same) tt)

-- a decrypt job
open_adds : (job : Job) (given : List KeyValue) (required : List (List ℕ)) (next : Progress) (v w : DeskValue) → job.work ≡ Decrypt given required → served_so_far next ≡ None
    → w.journal ≡ v.journal ++ [] → Knows (Decrypt given required) next w.live → AddsLines job stages.Waiting next v w
open_adds job given required next v w work serves journal knows = record {
  knows = subst (λ (work : Work). Knows work next w.live) (sym work) knows;
  gained = [];
  journal = journal;
  lines = All-nil (λ (line : JournalLine). (line.kind ≡ Seal) × (line.session ≡ v.last + 1));
  served = ap (λ (o : Option Served). told_of job.work o) serves;
}

-- ---- the session that began

seal_knows : (asked : SealAsked) (session : ℕ) (served : Option Served) (s : SealingValue) (v w : DeskValue) (files after : Option Files) (to : List ℕ) (next : Progress)
    → BeginsFile session Seal served (Sealing s) v w files after to next → Knows (Encrypt asked.declared asked.frame asked.context asked.required) next w.live
seal_knows asked session served s v w files after to stages.Waiting file = absurd file.begins
seal_knows asked session served s v w files after to (stages.Live live) file = (s, ap (λ (l : Live). w.live l.session) file.begins.0 ∙ file.begins.1)
seal_knows asked session served s v w files after to (stages.Ended line) file = tt

open_knows : (given : List KeyValue) (required : List (List ℕ)) (session : ℕ) (s : OpeningValue) (v w : DeskValue) (files after : Option Files) (to : List ℕ) (next : Progress) → s.served ≡ None
    → BeginsFile session Unseal None (Opening s) v w files after to next → Knows (Decrypt given required) next w.live
open_knows given required session s v w files after to stages.Waiting unserved file = absurd file.begins
open_knows given required session s v w files after to (stages.Live live) unserved file =
    (s, ap (λ (l : Live). w.live l.session) file.begins.0 ∙ file.begins.1, ap (λ (l : Live). l.served) file.begins.0 ∙ sym unserved)
open_knows given required session s v w files after to (stages.Ended line) unserved file = tt

pub seal_begun_adds : (job : Job) (asked : SealAsked) (session now : ℕ) (served told : Option Served) (s : SealingValue) (v u w : DeskValue) (files after : Option Files) (to : List ℕ) (next : Progress)
    → job.work ≡ Encrypt asked.declared asked.frame asked.context asked.required → w.journal ≡ v.journal ++ lines_of (v.last + 1) Seal now asked.declared told → served ≡ told
    → BeginsFile session Seal served (Sealing s) u w files after to next → AddsLines job stages.Waiting next v w
seal_begun_adds job asked session now served told s v u w files after to next work journal same file =
    seal_adds job asked next v w now served work (begun_served session Seal served (Sealing s) u w files after to next file)
    (lines_told v.journal w.journal (v.last + 1) now asked.declared served told journal same) (seal_knows asked session served s u w files after to next file)

pub open_begun_adds : (job : Job) (given : List KeyValue) (required : List (List ℕ)) (session : ℕ) (s : OpeningValue) (v u w : DeskValue) (files after : Option Files) (to : List ℕ) (next : Progress)
    → job.work ≡ Decrypt given required → s.served ≡ None → w.journal ≡ v.journal ++ [] → BeginsFile session Unseal None (Opening s) u w files after to next → AddsLines job stages.Waiting next v w
open_begun_adds job given required session s v u w files after to next work unserved journal file =
    open_adds job given required next v w work (begun_served session Unseal None (Opening s) u w files after to next file) journal
    (open_knows given required session s u w files after to next unserved file)
