-- What a turn takes of all that the jobs share: a number of the desk, bytes that are drawn, and
-- lines of the journal.
use Rattle.std.specs.Prelude.{◌≡◌, ◌≤◌, ◌+◌, ℕ, List, ◌++◌, map, All, Option, Some, None}
use Rattle.std.specs.Prelude.{option_map}
use Rattle.std.specs.Option.{option_to_list}
use Rattle.esdk_fields.specs.Counts.{Stayed}
use Rattle.esdk_base.specs.Streams.{EntropyState}
use Rattle.keyring_trait.specs.declared.journal.JournalLine.{JournalLine}
use Rattle.keyring_trait.specs.declared.journal.Kind.TheVariants.{Seal, Unseal}
use Rattle.keyring_trait.specs.declared.served.Served.{Served}
use Rattle.stream_seal.specs.Session.{SealingValue}
use Rattle.stream_open.specs.Session.{OpeningValue}
use Rattle.desk_core.specs.Session.{SessionValue, Sealing, Opening}
use Rattle.desk_core.specs.Desk.{DeskValue}
use Rattle.job_file.specs.declared.job.Job.{Job}
use Rattle.job_file.specs.declared.job.Work.{Work}
use Rattle.job_file.specs.declared.job.Work.TheVariants.{Encrypt, Decrypt}
use Rattle.esdk_batch.specs.declared.progress.Progress.{Progress}
use Rattle.esdk_batch.specs.declared.progress.Progress.TheVariants as stages
use Rattle.esdk_batch.specs.Batch.{ManagerAnswer, in_line, kind_of, length_of}

-- ---- two answers

-- the first of the two that is there
abbrev pub either : Option Served → Option Served → Option Served
either None second = second
either (Some served) second = Some served

-- ---- one job

-- how many jobs wait, of one
abbrev pub waits : Progress → ℕ
waits stages.Waiting = 1
waits (stages.Live now) = 0
waits (stages.Ended line) = 0

-- what is said of a job that ended says what it was for
abbrev pub HasKind : Work → Progress → Type 0
HasKind work stages.Waiting = Unit {0}
HasKind work (stages.Live now) = Unit {0}
HasKind work (stages.Ended line) = line.kind ≡ kind_of work

-- ---- numbers and bytes

-- A first turn draws a number at most, which is its session's. A further turn draws none, and keeps
-- the session. A job that ended has no turn. `last` was drawn last before it, and `next` behind it.
abbrev pub DrawsNumber : Progress → Progress → (last next : ℕ) → Type 0
DrawsNumber stages.Waiting stages.Waiting last next = ⊥
DrawsNumber stages.Waiting (stages.Live now) last next =
    (now.session ≡ last + 1) × (next ≡ last + 1)
DrawsNumber stages.Waiting (stages.Ended line) last next = (last ≤ next) × (next ≤ last + 1)
DrawsNumber (stages.Live live) stages.Waiting last next = ⊥
DrawsNumber (stages.Live live) (stages.Live now) last next =
    (now.session ≡ live.session) × (next ≡ last)
DrawsNumber (stages.Live live) (stages.Ended line) last next = next ≡ last
DrawsNumber (stages.Ended line) new last next = (new ≡ stages.Ended line) × (next ≡ last)

-- A first turn draws a number, unless its bytes couldn't be drawn. No other turn draws bytes.
abbrev pub DrawsBytes : Progress → (last next : ℕ) → (entropy spent : EntropyState) → Type 0
DrawsBytes stages.Waiting last next entropy spent =
    (entropy.faults ≤ spent.faults) × (Stayed entropy.faults spent.faults → next ≡ last + 1)
DrawsBytes (stages.Live live) last next entropy spent = spent ≡ entropy
DrawsBytes (stages.Ended line) last next entropy spent = spent ≡ entropy

-- ---- lines

-- how the materials of a job were served so far
abbrev pub served_so_far : Progress → Option Served
served_so_far stages.Waiting = None
served_so_far (stages.Live now) = now.served
served_so_far (stages.Ended line) = line.served

abbrev pub answered_so_far : Job × Progress → Option ManagerAnswer
answered_so_far pair =
    option_map (λ served. record {
      kind = kind_of pair.0.work;
      served = served;
      length = length_of pair.0.work;
    })
    (served_so_far pair.1)

-- a live job's session does what the job does, and its job knows how an opener's materials were
-- served
abbrev pub Knows : Work → Progress → (ℕ → Option SessionValue) → Type 0
Knows work stages.Waiting live = Unit {0}
Knows (Encrypt length frame context required) (stages.Live now) live =
    (s : SealingValue) × (live now.session ≡ Some (Sealing s))
Knows (Decrypt given required) (stages.Live now) live =
    (s : OpeningValue) × (live now.session ≡ Some (Opening s)) × (now.served ≡ s.served)
Knows work (stages.Ended line) live = Unit {0}

-- the lines of a first turn say that something was sealed by the session whose number is drawn, and
-- those of a further turn that something was opened
abbrev pub LinesOf : Progress → ℕ → List JournalLine → Type 0
LinesOf stages.Waiting last gained =
    All (λ line. (line.kind ≡ Seal) × (line.session ≡ last + 1)) gained
LinesOf (stages.Live live) last gained = All (λ line. line.kind ≡ Unseal) gained
LinesOf (stages.Ended line) last gained = All (λ line. line.kind ≡ Unseal) gained

-- The journal gained these lines in a turn, which are the answers of which the job says more than
-- before.
pub record AddsLines (job : Job) (old new : Progress) (v w : DeskValue) : Type 0 where
  pub knows : Knows job.work new w.live
  pub gained : List JournalLine
  pub journal : w.journal ≡ v.journal ++ gained
  pub lines : LinesOf old v.last gained
  pub served : option_to_list (answered_so_far (job, new))
      ≡ option_to_list (answered_so_far (job, old)) ++ map in_line gained
