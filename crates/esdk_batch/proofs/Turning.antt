-- A turn of one job: what it leaves of the other jobs' sessions, and of their files.
use Rattle.std.proofs.Common.{◌≡◌, ◌≢◌, ◌<◌, ◌≤◌, ℕ, true, false, List, length, get_or, set, refl, sym, ap, subst, ◌∙◌, inl, inr, arith}
use Rattle.std.specs.Prelude.{AllPairs, Option, Some, None}
use Rattle.std.proofs.lemmas.Bool.{cases_lt}
use Rattle.std.proofs.lemmas.List.{get_or_read, get_or_default}
use Rattle.esdk_base.specs.Shelf.{Files, file_of}
use Rattle.desk_core.specs.Session.{SessionValue}
use Rattle.job_file.specs.declared.job.Job.{Job}
use Rattle.job_file.specs.declared.job.Work.{Work}
use Rattle.job_file.specs.declared.job.Work.TheVariants.{Encrypt, Decrypt}
use Rattle.esdk_batch.specs.declared.progress.Progress.{Progress}
use Rattle.esdk_batch.specs.declared.progress.Progress.TheVariants as stages
use Rattle.esdk_batch.specs.Batch.{WorksSo}
use Rattle.keyring_trait.specs.Saying.{Saying}
use Rattle.esdk_batch.specs.Underway.{JobHasSession, IsAt, JobIsLive, LacksSession}
use Rattle.esdk_batch.specs.Turns.{DrawsNumber, Knows}
use Rattle.esdk_batch.specs.Rounds.{HasOwn, HaveBegun, HaveSessions, has_begun}
use Rattle.esdk_batch.proofs.Places.{at_places, front_at, within_old}

-- ---- one job

-- it isn't waiting any more
pub begun_by : (old new : Progress) (last next : ℕ) → DrawsNumber old new last next → has_begun new ≡ true
begun_by stages.Waiting stages.Waiting last next draws = absurd draws
begun_by stages.Waiting (stages.Live now) last next draws = refl
begun_by stages.Waiting (stages.Ended line) last next draws = refl
begun_by (stages.Live live) stages.Waiting last next draws = absurd draws
begun_by (stages.Live live) (stages.Live now) last next draws = refl
begun_by (stages.Live live) (stages.Ended line) last next draws = refl
begun_by (stages.Ended line) new last next draws = ap has_begun draws.0

pub begun_waits_not : (one : Progress) → has_begun one ≡ true → one ≡ stages.Waiting → ⊥
begun_waits_not one begun waits = let no : false ≡ true = ap has_begun (sym waits) ∙ begun in cc

-- its session is as before
abbrev pub KeepsSession : Progress → (live left : ℕ → Option SessionValue) → Type 0
KeepsSession stages.Waiting live left = Unit {0}
KeepsSession (stages.Live now) live left = left now.session ≡ live now.session
KeepsSession (stages.Ended line) live left = Unit {0}

-- the number of a session that is live was drawn
pub is_drawn : (live : ℕ → Option SessionValue) (last session : ℕ) (s : SessionValue) → ((id : ℕ) → last < id → live id ≡ None) → live session ≡ Some s → session ≤ last
is_drawn live last session s undrawn is = elim (cases_lt last session) [
  | inl later ↦ absurd (let no : None ≡ Some s = sym (undrawn session later) ∙ is in cc)
  | inr drawn ↦ drawn
]

-- the number of its session was drawn
abbrev pub IsDrawn : ℕ → Progress → Type 0
IsDrawn last stages.Waiting = Unit {0}
IsDrawn last (stages.Live now) = now.session ≤ last
IsDrawn last (stages.Ended line) = Unit {0}

pub session_drawn : (live : ℕ → Option SessionValue) (last : ℕ) (one : Progress) → ((id : ℕ) → last < id → live id ≡ None) → JobHasSession live one → IsDrawn last one
session_drawn live last stages.Waiting undrawn has = tt
session_drawn live last (stages.Live now) undrawn has = is_drawn live last now.session has.0 undrawn has.1
session_drawn live last (stages.Ended line) undrawn has = tt

-- another job's session
pub session_kept : (live left : ℕ → Option SessionValue) (last : ℕ) (old other : Progress)
    → ((session : ℕ) → LacksSession session old → session ≤ last → left session ≡ live session) → IsDrawn last other → HasOwn other old → KeepsSession other live left
session_kept live left last old stages.Waiting kept drawn own = tt
session_kept live left last old (stages.Live now) kept drawn own = kept now.session own drawn
session_kept live left last old (stages.Ended line) kept drawn own = tt

pub has_kept : (live left : ℕ → Option SessionValue) (one : Progress) → KeepsSession one live left → JobHasSession live one → JobHasSession left one
has_kept live left stages.Waiting kept has = tt
has_kept live left (stages.Live now) kept has = (has.0, kept ∙ has.1, has.2)
has_kept live left (stages.Ended line) kept has = tt

pub knows_kept : (live left : ℕ → Option SessionValue) (work : Work) (one : Progress) → KeepsSession one live left → Knows work one live → Knows work one left
knows_kept live left work stages.Waiting kept knows = tt
knows_kept live left (Encrypt length frame context required) (stages.Live now) kept knows = (knows.0, kept ∙ knows.1)
knows_kept live left (Decrypt given required) (stages.Live now) kept knows = (knows.0, kept ∙ knows.1, knows.2)
knows_kept live left work (stages.Ended line) kept knows = tt

-- where its session and its file are as before, it stands where it stood
pub stays_at : (manager : Saying) (job : Job) (before now later : Files) (drawn : List ℕ) (live left : ℕ → Option SessionValue) (one : Progress)
    → file_of (Some later) job.to ≡ file_of (Some now) job.to → KeepsSession one live left → IsAt manager job before now drawn live one → IsAt manager job before later drawn left one
stays_at manager job before now later drawn live left stages.Waiting same kept at = (at.0, same ∙ at.1)
stays_at manager job before now later drawn live left (stages.Live l) same kept at =
    subst (λ to. JobIsLive manager job.work (file_of (Some before) job.from) to drawn l (left l.session)) (sym same)
    (subst (λ session. JobIsLive manager job.work (file_of (Some before) job.from) (file_of (Some now) job.to) drawn l session) (sym kept) at)
stays_at manager job before now later drawn live left (stages.Ended line) same kept at = (
  at.0,
  subst (λ to. WorksSo manager job.work (record { from = file_of (Some before) job.from; before = file_of (Some before) job.to; to = to; drawn = drawn; served = line.served }) line.end) (sym same) at.1,
)

-- ---- sessions of their own

lacks_other : (a b : ℕ) → (a ≡ b → ⊥) → b ≡ a → ⊥
lacks_other a b apart same = apart (sym same)

-- the job's session after its turn isn't another's
pub owns_new : (old new other : Progress) (last next : ℕ) → DrawsNumber old new last next → IsDrawn last other → HasOwn old other → HasOwn new other
owns_new old stages.Waiting other last next draws drawn own = tt
owns_new old (stages.Ended line) other last next draws drawn own = tt
owns_new old (stages.Live now) stages.Waiting last next draws drawn own = tt
owns_new old (stages.Live now) (stages.Ended line) last next draws drawn own = tt
owns_new stages.Waiting (stages.Live now) (stages.Live o) last next draws drawn own = λ same. omega (arith, draws.0, drawn, same)
owns_new (stages.Live live) (stages.Live now) (stages.Live o) last next draws drawn own = λ same. own (same ∙ draws.0)
owns_new (stages.Ended line) (stages.Live now) (stages.Live o) last next draws drawn own = absurd (let no = draws.0 in cc)

pub owns_other : (old new other : Progress) (last next : ℕ) → DrawsNumber old new last next → IsDrawn last other → HasOwn other old → HasOwn other new
owns_other old new stages.Waiting last next draws drawn own = tt
owns_other old new (stages.Ended line) last next draws drawn own = tt
owns_other old stages.Waiting (stages.Live o) last next draws drawn own = tt
owns_other old (stages.Ended line) (stages.Live o) last next draws drawn own = tt
owns_other stages.Waiting (stages.Live now) (stages.Live o) last next draws drawn own = λ same. omega (arith, draws.0, drawn, same)
owns_other (stages.Live live) (stages.Live now) (stages.Live o) last next draws drawn own = λ same. own (sym draws.0 ∙ same)
owns_other (stages.Ended line) (stages.Live now) (stages.Live o) last next draws drawn own = absurd (let no = draws.0 in cc)

-- ---- all jobs

-- The job at a place had a turn, and all before it had one too.
pub record Turned (jobs : List Job) (progress : List Progress) (i : ℕ) (job : Job) (old new : Progress) (last next : ℕ) (live left : ℕ → Option SessionValue) : Type 0 where
  pub within : i < length progress
  pub each : length progress ≡ length jobs
  pub is : job ≡ get_or jobs i job
  pub was : old ≡ get_or progress i old
  pub begun : HaveBegun i progress
  pub undrawn : (id : ℕ) → last < id → live id ≡ None
  pub numbers : DrawsNumber old new last next
  pub sessions : (session : ℕ) → LacksSession session old → session ≤ last → left session ≡ live session
  pub has : JobHasSession left new
  pub knows : Knows job.work new left

module _ (jobs : List Job) (progress : List Progress) (i : ℕ) (job : Job) (old new : Progress) (last next : ℕ) (live left : ℕ → Option SessionValue)
    (t : Turned jobs progress i job old new last next live left) (have : HaveSessions jobs progress live) where
  now_begun : has_begun new ≡ true
  now_begun = begun_by old new last next t.numbers

  drawn_at : (k : ℕ) (d : Progress) → k < length progress → IsDrawn last (get_or progress k d)
  drawn_at k d below = session_drawn live last (get_or progress k d) t.undrawn (have.sessions k d below)

  -- the job's progress was that one
  was_at : (d : Progress) → get_or progress i d ≡ old
  was_at d = sym (get_or_read progress i old t.within t.was d)

  own_old : (k : ℕ) (d : Progress) → k ≢ i → k < length progress → HasOwn (get_or progress k d) old
  own_old k d apart below = subst (HasOwn (get_or progress k d)) (was_at d) (have.own k i d apart below t.within)

  old_own : (k : ℕ) (d : Progress) → k ≢ i → k < length progress → HasOwn old (get_or progress k d)
  old_own k d apart below = subst (λ one. HasOwn one (get_or progress k d)) (was_at d) (have.own i k d (lacks_other k i apart) t.within below)

  pub kept_at : (k : ℕ) (d : Progress) → k ≢ i → k < length progress → KeepsSession (get_or progress k d) live left
  kept_at k d apart below = session_kept live left last old (get_or progress k d) t.sessions (drawn_at k d below) (own_old k d apart below)

  own_after : (a b : ℕ) (d : Progress) → a ≢ b → a < length (set progress i new) → b < length (set progress i new)
      → HasOwn (get_or (set progress i new) a d) (get_or (set progress i new) b d)
  own_after a b d apart first second =
      let inside = within_old (λ k one. Unit {0}) progress i new t.within in
      at_places (λ a one. a ≢ b → HasOwn one (get_or (set progress i new) b d)) progress i new t.within
      (λ apart. at_places (λ b other. i ≢ b → HasOwn new other) progress i new t.within
      (λ same. absurd (same refl))
      (λ k d other below mine. owns_new old new (get_or progress k d) last next t.numbers (drawn_at k d below) (old_own k d other below)) b d second apart)
      (λ k e other below mine. at_places (λ b one. k ≢ b → HasOwn (get_or progress k e) one) progress i new t.within
      (λ apart. owns_other old new (get_or progress k e) last next t.numbers (drawn_at k e below) (own_old k e other below))
      (λ l f another under mine. subst (λ one. HasOwn (get_or progress k e) one) (get_or_default progress l e f under) (have.own k l e mine below under)) b d second mine)
      a d first apart

  order_after : AllPairs (λ one later. one ≡ stages.Waiting → later ≡ stages.Waiting) (set progress i new)
  order_after a b d before below =
      let first : a < length (set progress i new) = omega (arith, before, below) in
      at_places (λ a one. a < b → one ≡ stages.Waiting → get_or (set progress i new) b d ≡ stages.Waiting) progress i new t.within
      (λ before waits. absurd (begun_waits_not new now_begun waits))
      (λ k e apart under before waits. elim (cases_lt k i) [
        | inl earlier ↦ absurd (begun_waits_not (get_or progress k e) (front_at (λ one. has_begun one ≡ true) progress i k e t.begun earlier under) waits)
        | inr later ↦ at_places (λ b one. i < b → k < b → one ≡ stages.Waiting) progress i new t.within
            (λ behind after. absurd (omega (arith, behind)))
            (λ l f another inside behind after. have.order k l f after inside (get_or_default progress k f e under ∙ waits)) b d below (omega (arith, later, apart, before)) before
      ]) a d first before

  pub sessions_after : HaveSessions jobs (set progress i new) left
  sessions_after = record {
    sessions = at_places (λ k one. JobHasSession left one) progress i new t.within t.has
        (λ k d apart below. has_kept live left (get_or progress k d) (kept_at k d apart below) (have.sessions k d below));
    knows = λ k job' d below. at_places (λ k one. Knows (get_or jobs k job').work one left) progress i new t.within
        (subst (λ j. Knows j.work new left) (get_or_read jobs i job (omega (arith, t.within, t.each)) t.is job') t.knows)
        (λ k d apart below. knows_kept live left (get_or jobs k job').work (get_or progress k d) (kept_at k d apart below) (have.knows k job' d below)) k d below;
    own = own_after;
    order = order_after;
  }
