-- How a job stands between its turns: what its session is worth, what it took of its file, and what
-- the file holds that it writes.
use Rattle.std.specs.Prelude.{◌≡◌, ◌≢◌, ◌≤◌, ◌+◌, ℕ, List, [], ◌++◌, length, drop, Option, Some}
use Rattle.std.specs.Prelude.{None, nat_eq}
use Rattle.std.specs.Map.{update}
use Rattle.header_codec.specs.Header.{no_limits}
use Rattle.esdk_base.specs.Shelf.{Files, file_of}
use Rattle.esdk_base.specs.Streams.{EntropyState, most_input}
use Rattle.context_codec.specs.Context.{KeyValue}
use Rattle.keyring_trait.specs.declared.journal.JournalLine.{JournalLine}
use Rattle.keyring_trait.specs.Saying.{Saying}
use Rattle.stream_seal.specs.Feeding as seals
use Rattle.stream_seal.specs.Session.{SealingValue}
use Rattle.stream_seal.specs.Start.{start_refusal, drawn_id, drawn_rest}
use Rattle.stream_open.specs.Feeding as opens
use Rattle.stream_open.specs.Session.{OpeningValue, judged_now}
use Rattle.message_format.specs.Judgement.{content}
use Rattle.esdk_encrypt.specs.Encrypt.{drawn_count}
use Rattle.desk_core.specs.declared.live_sessions.Desk.{Desk}
use Rattle.desk_core.specs.Session.{SessionValue, Sealing, Opening}
use Rattle.desk_core.specs.Desk.{DeskValue}
use Rattle.desk_core.specs.Stands.{Stands}
use Rattle.job_file.specs.declared.job.Job.{Job}
use Rattle.job_file.specs.declared.job.Work.{Work}
use Rattle.job_file.specs.declared.job.Work.TheVariants.{Encrypt, Decrypt}
use Rattle.esdk_batch.specs.declared.progress.Live.{Live}
use Rattle.esdk_batch.specs.declared.progress.Progress.{Progress}
use Rattle.esdk_batch.specs.declared.progress.Progress.TheVariants as stages
use Rattle.esdk_batch.specs.Answering.{KeepsServed}
use Rattle.esdk_batch.specs.Files.{KeepsOthers}
use Rattle.esdk_batch.specs.SealStory.{SealAsked, held_or_none, wish_of}
use Rattle.esdk_batch.specs.Batch.{Draws, WorksSo, kind_of, seen_of}

-- the desk is worth something at which this session is live
abbrev pub IsLiveAt : {M : Type 0} → Desk M → ℕ → Type 0
IsLiveAt desk session = (v : DeskValue) × Stands desk v
    × ((s : SessionValue) × (v.live session ≡ Some s))

-- ---- a session that is live

-- The bytes taken are so many, and stand at the front of what the file holds; none, where it isn't
-- there.
pub record Took (taken : List ℕ) (at : ℕ) (from : Option (List ℕ)) : Type 0 where
  pub count : length taken ≡ at
  pub most : at ≤ most_input
  pub front : held_or_none from ≡ taken ++ drop at (held_or_none from)

-- The session seals for a job that asked so and drew these bytes. Each piece so far was fed to its
-- end, and the file holds what that gave.
pub record JobIsSealing (manager : Saying) (asked : SealAsked) (from to : Option (List ℕ))
    (drawn : List ℕ) (live : Live) (s : SealingValue) : Type 0 where
  pub count : length drawn ≡ drawn_count manager.wraps
  pub moment : ℕ
  pub given : manager.gives (wish_of asked) moment (drawn_rest drawn) s.materials
  pub served : live.served ≡ Some s.materials.served
  pub begins : start_refusal s.materials None (drawn_id drawn) ≡ None
  pub declared : s.declared ≡ asked.declared
  pub size : s.size ≡ asked.frame
  pub id : s.id ≡ drawn_id drawn
  pub is_fed : seals.SealerIsFed s
  pub took : Took s.taken live.at from
  pub holds : to ≡ Some (seals.given_so_far s)

-- The session opens for a job that gives these pairs. It goes on and keeps the manager's answer,
-- and the file holds what was released.
pub record JobIsOpening (manager : Saying) (given : List KeyValue) (from to : Option (List ℕ))
    (live : Live) (s : OpeningValue) : Type 0 where
  pub settings : s.settings ≡ no_limits
  pub pairs : s.given ≡ given
  pub goes : opens.GoesOn s
  pub keeps : KeepsServed manager s s.taken
  pub served : live.served ≡ s.served
  pub took : Took s.taken live.at from
  pub holds : to ≡ Some (content (judged_now s))

-- a live job's session, by what the job does
abbrev pub JobIsLive : Saying → Work → Option (List ℕ) → Option (List ℕ) → List ℕ → Live
    → Option SessionValue → Type 0
JobIsLive manager (Encrypt length frame context required) from to drawn live (Some (Sealing s)) =
    JobIsSealing manager (record {
      declared = length;
      frame = frame;
      context = context;
      required = required;
    }) from to drawn live s
JobIsLive manager (Decrypt given required) from to drawn live (Some (Opening s)) =
    (drawn ≡ []) × JobIsOpening manager given from to live s
JobIsLive manager work from to drawn live session = ⊥

-- ---- a job

-- It waits, and drew nothing, and its file is as before; or it is live; or it ended, and what is
-- said of it is so. `before` are the files before the batch, `files` those now.
abbrev pub IsAt : Saying → Job → Files → Files → List ℕ → (ℕ → Option SessionValue) → Progress
    → Type 0
IsAt manager job before files drawn live stages.Waiting =
    (drawn ≡ []) × (file_of (Some files) job.to ≡ file_of (Some before) job.to)
IsAt manager job before files drawn live (stages.Live now) =
    JobIsLive manager job.work (file_of (Some before) job.from)
    (file_of (Some files) job.to) drawn now (live now.session)
IsAt manager job before files drawn live (stages.Ended line) =
    (line.kind ≡ kind_of job.work)
    × WorksSo manager job.work (seen_of job before files drawn line) line.end

-- the job's session is live, where the job is, and the job took no more than it may
abbrev pub JobHasSession : (ℕ → Option SessionValue) → Progress → Type 0
JobHasSession live stages.Waiting = Unit {0}
JobHasSession live (stages.Live now) =
    (s : SessionValue) × (live now.session ≡ Some s) × (now.at ≤ most_input)
JobHasSession live (stages.Ended line) = Unit {0}

-- the desk is worth something at which the job's session is live, where the job is
abbrev pub IsReady : {M : Type 0} → Desk M → Progress → Type 0
IsReady desk progress = (v : DeskValue) × Stands desk v × JobHasSession v.live progress

-- the job doesn't have this session
abbrev pub LacksSession : ℕ → Progress → Type 0
LacksSession session stages.Waiting = Unit {0}
LacksSession session (stages.Live now) = now.session ≢ session
LacksSession session (stages.Ended line) = Unit {0}

-- the sessions that are live beside the job's
abbrev pub sessions_beside : Progress → (ℕ → Option SessionValue) → ℕ → Option SessionValue
sessions_beside stages.Waiting live session = live session
sessions_beside (stages.Live now) live session = update nat_eq live now.session None session
sessions_beside (stages.Ended line) live session = live session

-- ---- a turn

-- What a turn of a job comes to, whose file of this batch held so at first: the job drew these
-- bytes more, every session of another job and every file but its own are as before, beside the
-- job's own session those are live that were, the journal gained these lines, and the job stands
-- where it is now.
pub record TakesTurn (manager : Saying) (job : Job) (old new : Progress) (v w : DeskValue)
    (files left : Option Files) (entropy spent : EntropyState) : Type 0 where
  pub more : List ℕ
  pub drawn : Draws entropy spent more
  pub sessions : (session : ℕ) → LacksSession session old → session ≤ v.last
      → w.live session ≡ v.live session
  pub rest : (session : ℕ) → sessions_beside new w.live session ≡ sessions_beside old v.live session
  pub last : v.last ≤ w.last
  pub next : w.last ≤ v.last + 1
  pub gained : List JournalLine
  pub journal : w.journal ≡ v.journal ++ gained
  pub others : (then_held : Files) → left ≡ Some then_held → KeepsOthers files left job.to
  pub has : JobHasSession w.live new
  pub stands : (before now then_held : Files) (drawn : List ℕ) → files ≡ Some now
      → left ≡ Some then_held
      → file_of (Some now) job.from ≡ file_of (Some before) job.from
      → IsAt manager job before now drawn v.live old
      → IsAt manager job before then_held (drawn ++ more) w.live new

-- The same of a further turn, which draws nothing and no number.
pub record FurtherTurn (manager : Saying) (job : Job) (live : Live) (new : Progress)
    (v w : DeskValue) (files left : Option Files) : Type 0 where
  pub sessions : (session : ℕ) → session ≢ live.session → w.live session ≡ v.live session
  pub rest : (session : ℕ) → sessions_beside new w.live session
      ≡ sessions_beside (stages.Live live) v.live session
  pub last : w.last ≡ v.last
  pub gained : List JournalLine
  pub journal : w.journal ≡ v.journal ++ gained
  pub others : (then_held : Files) → left ≡ Some then_held → KeepsOthers files left job.to
  pub has : JobHasSession w.live new
  pub stands : (before now then_held : Files) (drawn : List ℕ) → files ≡ Some now
      → left ≡ Some then_held
      → file_of (Some now) job.from ≡ file_of (Some before) job.from
      → IsAt manager job before now drawn v.live (stages.Live live)
      → IsAt manager job before then_held drawn w.live new
