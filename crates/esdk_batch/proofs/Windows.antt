-- A round: the turns of the jobs in the window so far.
use Rattle.std.proofs.Common.{◌≡◌, ◌<◌, ◌≤◌, ◌+◌, ℕ, true, false, List, length, take, get_or, set, refl, sym, ap, subst, ◌∙◌, inl, inr, arith, length-set, get_or-set_other, get_or-set_same}
use Rattle.std.specs.Prelude.{◌⊎◌, All, Some, is_some}
use Rattle.std.proofs.lemmas.Bool.{cases_eq, cases_lt}
use Rattle.std.proofs.lemmas.List.{get_or_read, take-set-le}
use Rattle.std.proofs.lemmas.List.Elements.{All-weaker}
use Rattle.std.proofs.lemmas.List.Sums.{sum_by-set}
use Rattle.esdk_base.specs.Streams.{EntropyState, ShelfState}
use Rattle.keyring_trait.specs.Manager.{ManagerNow, Went}
use Rattle.desk_core.specs.declared.live_sessions.Desk.{Desk}
use Rattle.desk_core.specs.Desk.{DeskValue}
use Rattle.desk_core.specs.Stands.{Stands, last_of, manager_of}
use Rattle.job_file.specs.declared.job.Job.{Job}
use Rattle.esdk_batch.specs.declared.progress.Progress.{Progress}
use Rattle.esdk_batch.specs.declared.progress.Progress.TheVariants as stages
use Rattle.esdk_batch.specs.Batch.{OnlyWritten}
use Rattle.esdk_batch.specs.Files.{KeepsOthers}
use Rattle.esdk_batch.specs.Managing.{ManagerWent, SaysWithin}
use Rattle.esdk_batch.specs.Progress.{IsFirstRunning, all_turns_left, is_ended, turns_left}
use Rattle.esdk_batch.specs.Underway.{JobHasSession, TakesTurn}
use Rattle.esdk_batch.specs.Watching.{IsFrom, Watch, as_told, files_by}
use Rattle.esdk_batch.specs.Turns.{AddsLines, DrawsBytes, DrawsNumber, HasKind, Knows}
use Rattle.esdk_batch.specs.Rounds.{FilesAreApart, AreReady, Beginning, HaveBegun, HaveSessions, RoundIsBegun, Stand, all_waits, has_begun}
use Rattle.esdk_batch.proofs.Managers.{admits_between, desk_none, desk_on, said, says_earlier, says_later}
use Rattle.esdk_batch.proofs.Places.{front_at, front_from, front_set}
use Rattle.esdk_batch.proofs.SameDesk.{adds_too}
use Rattle.esdk_batch.proofs.SealedFirst.{room_after}
use Rattle.esdk_batch.proofs.Standing.{others_after, stand_after}
use Rattle.esdk_batch.proofs.Turning.{Turned, begun_by, sessions_after}

-- ---- one job

begun_ended : (one : Progress) → is_ended one ≡ true → has_begun one ≡ true
begun_ended stages.Waiting ended = absurd cc
begun_ended (stages.Live now) ended = refl
begun_ended (stages.Ended line) ended = refl

turns_running : (one : Progress) → is_ended one ≡ false → 0 < turns_left one
turns_running stages.Waiting running = omega arith
turns_running (stages.Live now) running = omega arith
turns_running (stages.Ended line) running = absurd cc

-- ---- a turn

-- What a turn of a job ensures.
pub record TurnOf {M : Type 0} (state : M → ManagerNow) (job : Job) (old new : Progress) (before desk : Desk M) (files held : ShelfState) (entropy spent : EntropyState) : Type 0 where
  pub turn : (by : Watch) (start last : M) (v : DeskValue) → IsFrom by files → SaysWithin state start last before desk → Stands before v → JobHasSession v.live old
      → (w : DeskValue) × Stands desk w × TakesTurn (said state start last) job old new v w (files_by by files) (files_by by held) entropy spent
  pub numbers : DrawsNumber old new (last_of before) (last_of desk)
  pub bytes : DrawsBytes old (last_of before) (last_of desk) entropy spent
  pub lines : (v : DeskValue) → Stands before v → Knows job.work old v.live → (w : DeskValue) × Stands desk w × AddsLines job old new v w
  pub kind : HasKind job.work old → HasKind job.work new
  pub falls : 0 < turns_left old → turns_left new < turns_left old
  pub went : ManagerWent state before desk
  pub kept : KeepsOthers files.files held.files job.to
  pub known : (by : Watch) → IsFrom by files → IsFrom by held

module _ {M : Type 0} (state : M → ManagerNow) (jobs : List Job) (progress : List Progress) (i : ℕ) (job : Job) (old new : Progress) (before desk : Desk M)
    (files held : ShelfState) (entropy spent : EntropyState) (within : i < length progress) (each : length progress ≡ length jobs) (is : job ≡ get_or jobs i job) (was : old ≡ get_or progress i old)
    (begun : HaveBegun i progress) (t : TurnOf state job old new before desk files held entropy spent) where
  turned_by : (by : Watch) (start last : M) (v w : DeskValue) → Stands before v → Stands desk w → TakesTurn (said state start last) job old new v w (files_by by files) (files_by by held) entropy spent
      → AddsLines job old new v w → Turned jobs progress i job old new v.last w.last v.live w.live
  turned_by by start last v w stands then turn adds = record {
    within = within;
    each = each;
    is = is;
    was = was;
    begun = begun;
    undrawn = stands.undrawn;
    numbers = subst (λ next. DrawsNumber old new v.last next) then.last (subst (λ last. DrawsNumber old new last (last_of desk)) stands.last t.numbers);
    sessions = turn.sessions;
    has = turn.has;
    knows = adds.knows;
  }

  -- the desk after the turn, and all that was said of the turn
  record After (by : Watch) (start last : M) (v : DeskValue) : Type 0 where
    w : DeskValue
    stands : Stands desk w
    turn : TakesTurn (said state start last) job old new v w (files_by by files) (files_by by held) entropy spent
    adds : AddsLines job old new v w
    turned : Turned jobs progress i job old new v.last w.last v.live w.live

  after : (by : Watch) (start last : M) (v : DeskValue) → IsFrom by files → SaysWithin state start last before desk → Stands before v → HaveSessions jobs progress v.live → After by start last v
  after by start last v from admits stands have =
      let had : JobHasSession v.live old = subst (JobHasSession v.live) (sym was) (have.sessions i old within) in
      let knew : Knows job.work old v.live = subst (λ (j : Job). Knows j.work old v.live) (sym is) (subst (λ one. Knows (get_or jobs i job).work one v.live) (sym was) (have.knows i job old within)) in
      let (w, then, turn) = t.turn by start last v from admits stands had in
      let (u, other, adds) = t.lines v stands knew in
      let lines : AddsLines job old new v w = adds_too desk u w other then job old new v adds in
      record { w = w; stands = then; turn = turn; adds = lines; turned = turned_by by start last v w stands then turn lines }

  pub ready_after : AreReady before jobs progress → AreReady desk jobs (set progress i new)
  ready_after (v, stands, have) =
      let admits = admits_between (state (manager_of before)) (state (manager_of desk)) in
      let a = after as_told (manager_of before) (manager_of desk) v tt admits stands have in (
        a.w,
        a.stands,
        sessions_after jobs progress i job old new v.last a.w.last v.live a.w.live a.turned have,
      )

  pub stand_on : (width : ℕ) (by : Watch) (start last : M) (began : Beginning) (v : DeskValue) → FilesAreApart jobs → (old ≡ stages.Waiting) ⊎ HaveBegun width progress
      → IsFrom by files → SaysWithin state start last before desk → Stands before v → Stand (said state start last) jobs width began (files_by by files) entropy v progress
      → (w : DeskValue) × Stands desk w × Stand (said state start last) jobs width began (files_by by held) spent w (set progress i new)
  stand_on width by start last began v apart window from admits stands stand =
      let a = after by start last v from admits stands stand.sessions in
      let bytes : DrawsBytes old v.last a.w.last entropy spent =
      subst (λ next. DrawsBytes old v.last next entropy spent) a.stands.last (subst (λ last. DrawsBytes old last (last_of desk) entropy spent) stands.last t.bytes) in (
        a.w,
        a.stands,
        stand_after (said state start last) jobs width began progress i job old new v a.w (files_by by files) (files_by by held) entropy spent
            (record { apart = apart; turned = a.turned; turn = a.turn; bytes = bytes; lines = a.adds; kind = t.kind; window = window }) stand,
      )

-- ---- the turns of a round

-- The jobs before `at` that hadn't ended had their turns, so many; those from there on are as before the round.
pub record RoundOn {M : Type 0} (state : M → ManagerNow) (jobs : List Job) (width first : ℕ) (before desk : Desk M) (old progress : List Progress)
    (files held : ShelfState) (entropy spent : EntropyState) (at turns : ℕ) : Type 0 where
  pub each : length progress ≡ length jobs
  pub whole : length old ≡ length jobs
  pub begun : HaveBegun at progress
  pub past : All (λ one. is_ended one ≡ true) (take first progress)
  pub left : (k : ℕ) (one : Progress) → at ≤ k → get_or progress k one ≡ get_or old k one
  pub room : last_of desk + all_waits progress ≤ last_of before + all_waits old
  pub ready : AreReady desk jobs progress
  pub opened : All (λ one. one ≡ stages.Waiting) old ⊎ HaveBegun width progress
  pub some : first < at → 1 ≤ turns
  pub slow : turns + first ≤ at
  pub few : turns ≤ width
  pub falls : all_turns_left progress + turns ≤ all_turns_left old
  pub others : OnlyWritten jobs files.files held.files
  pub told : is_some held.files ≡ is_some files.files
  pub known : (by : Watch) → IsFrom by files → IsFrom by held
  pub still : Went (state (manager_of before)) (state (manager_of before))
  pub went : ManagerWent state before desk
  pub stand : (by : Watch) (start last : M) (began : Beginning) (v : DeskValue) → IsFrom by files → SaysWithin state start last before desk → Stands before v
      → Stand (said state start last) jobs width began (files_by by files) entropy v old
      → (w : DeskValue) × Stands desk w × Stand (said state start last) jobs width began (files_by by held) spent w progress

pub round_starts : {M : Type 0} (state : M → ManagerNow) (jobs : List Job) (width first : ℕ) (desk : Desk M) (progress : List Progress)
    (files : ShelfState) (entropy : EntropyState) → length progress ≡ length jobs → IsFirstRunning progress (Some first) → AreReady desk jobs progress → RoundIsBegun width progress → Went (state (manager_of desk)) (state (manager_of desk))
    → RoundOn state jobs width first desk desk progress progress files files entropy entropy first 0
round_starts state jobs width first desk progress files entropy each running ready opened still = record {
  each = each;
  whole = each;
  begun = All-weaker (λ one. is_ended one ≡ true) (λ one. has_begun one ≡ true) begun_ended (take first progress) running.1;
  past = running.1;
  left = λ k one from. refl;
  room = omega arith;
  ready = ready;
  opened = opened;
  some = λ past. absurd (omega (arith, past));
  slow = omega arith;
  few = omega arith;
  falls = omega arith;
  others = λ name none. refl;
  told = refl;
  known = λ by from. from;
  still = still;
  went = desk_none state desk still;
  stand = λ by start last began v from admits stands stand. (v, stands, stand);
}

begun_more : (progress : List Progress) (at : ℕ) (one : Progress) → at < length progress → one ≡ get_or progress at one → has_begun one ≡ true → HaveBegun at progress → HaveBegun (at + 1) progress
begun_more progress at one within is begun all =
    front_from (λ one. has_begun one ≡ true) progress (at + 1) (λ k d before below. elim (cases_eq k at) [
      | inl same ↦ subst (λ k. has_begun (get_or progress k d) ≡ true) (sym same) (ap has_begun (sym (get_or_read progress at one within is d)) ∙ begun)
      | inr other ↦ front_at (λ one. has_begun one ≡ true) progress at k d all (omega (arith, before, other)) below
    ])

module _ {M : Type 0} (state : M → ManagerNow) (jobs : List Job) (width first : ℕ) (before mid : Desk M) (old progress : List Progress)
    (files held : ShelfState) (entropy spent : EntropyState) (at turns : ℕ) (on : RoundOn state jobs width first before mid old progress files held entropy spent at turns)
    (within : at < length jobs) (running : IsFirstRunning old (Some first)) (one : Progress) (was : one ≡ get_or progress at one) where
  inside : at < length progress
  inside = omega (arith, within, on.each)

  -- a job that ended has no turn; it isn't the first of the window
  pub round_skips : is_ended one ≡ true → RoundOn state jobs width first before mid old progress files held entropy spent (at + 1) turns
  round_skips ended = record {
    each = on.each;
    whole = on.whole;
    begun = begun_more progress at one inside was (begun_ended one ended) on.begun;
    past = on.past;
    left = λ k d from. on.left k d (omega (arith, from));
    room = on.room;
    ready = on.ready;
    opened = on.opened;
    some = λ past. elim (cases_eq at first) [
      | inl same ↦ absurd (
          let here : is_ended (get_or old first one) ≡ false = running.2 one in
          let is : one ≡ get_or old first one = was ∙ on.left at one (omega arith) ∙ ap (λ k. get_or old k one) same in
          let no : true ≡ false = sym ended ∙ ap is_ended is ∙ here in cc)
      | inr other ↦ on.some (omega (arith, past, other))
    ];
    slow = omega (arith, on.slow);
    few = on.few;
    falls = on.falls;
    others = on.others;
    told = on.told;
    known = on.known;
    still = on.still;
    went = on.went;
    stand = on.stand;
  }

  window_at : (one ≡ stages.Waiting) ⊎ HaveBegun width progress
  window_at = elim on.opened [
    | inl waiting ↦ inl (was ∙ on.left at one (omega arith) ∙ waited waiting)
    | inr begun ↦ inr begun
  ]
    where
      waited : All (λ one. one ≡ stages.Waiting) old → get_or old at one ≡ stages.Waiting
      waited waiting = elim (cases_lt at (length old)) [
        | inl below ↦ waiting at one below
        | inr past ↦ absurd (omega (arith, past, within, on.whole))
      ]

  module _ (job : Job) (new : Progress) (desk : Desk M) (put : ShelfState) (drawn : EntropyState) (is : job ≡ get_or jobs at job) (apart : FilesAreApart jobs) (runs : is_ended one ≡ false) (room : turns < width)
      (t : TurnOf state job one new mid desk held put spent drawn) where
    begun_new : has_begun new ≡ true
    begun_new = begun_by one new (last_of mid) (last_of desk) t.numbers

    admits_first : (start last : M) → SaysWithin state start last before desk
        → SaysWithin state start last before mid
    admits_first start last admits = says_earlier state start last before mid desk on.still t.went admits

    admits_last : (start last : M) → SaysWithin state start last before desk
        → SaysWithin state start last mid desk
    admits_last start last admits = says_later state start last before mid desk on.went t.went admits

    pub round_turns : RoundOn state jobs width first before desk old (set progress at new) files put entropy drawn (at + 1) (turns + 1)
    round_turns = record {
      each = length-set progress at new ∙ on.each;
      whole = on.whole;
      begun = begun_more (set progress at new) at new (omega (arith, inside, length-set progress at new)) (sym (get_or-set_same progress at new new inside)) begun_new
          (front_set (λ one. has_begun one ≡ true) progress at new at inside begun_new on.begun);
      past = subst (All (λ one. is_ended one ≡ true)) (sym (take-set-le first progress at new (omega (arith, on.slow)))) on.past;
      left = λ k d from. get_or-set_other progress at k new d (λ same. omega (arith, from, same)) ∙ on.left k d (omega (arith, from));
      room = omega (arith, on.room, room_after one new progress at (last_of mid) (last_of desk) spent drawn inside was t.numbers);
      ready = ready_after state jobs progress at job one new mid desk held put spent drawn inside on.each is was on.begun t on.ready;
      opened = elim on.opened [
        | inl waiting ↦ inl waiting
        | inr begun ↦ inr (front_set (λ one. has_begun one ≡ true) progress at new width inside begun_new begun)
      ];
      some = λ past. omega arith;
      slow = omega (arith, on.slow);
      few = omega (arith, room);
      falls = omega (arith, on.falls, sum_by-set turns_left progress at new one inside, ap turns_left (sym was), t.falls (turns_running one runs));
      others = others_after jobs at job files.files held.files put.files within is t.kept on.others;
      told = t.kept.tells ∙ on.told;
      known = λ by from. t.known by (on.known by from);
      still = on.still;
      went = desk_on state before mid desk on.went t.went;
      stand = λ by start last began v from admits stands stand.
          let (u, then, st) = on.stand by start last began v from (admits_first start last admits) stands stand in
          stand_on state jobs progress at job one new mid desk held put spent drawn inside on.each is was on.begun t width by start last began u apart window_at
          (on.known by from) (admits_last start last admits) then st;
    }

-- ---- the end of a round

-- as many had their turns as the window is wide, or no job is left
pub round_begun : (width first at turns : ℕ) (progress : List Progress) → HaveBegun at progress → (width ≤ at) ⊎ (length progress ≤ at) → HaveBegun width progress
round_begun width first at turns progress begun end =
    front_from (λ one. has_begun one ≡ true) progress width (λ k d before below. front_at (λ one. has_begun one ≡ true) progress at k d begun
    (elim end [
      | inl wide ↦ omega (arith, before, wide)
      | inr all ↦ omega (arith, below, all)
    ]) below)

-- ---- rounds

-- The jobs had so many rounds.
pub record RoundsOn {M : Type 0} (state : M → ManagerNow) (jobs : List Job) (width : ℕ) (before desk : Desk M) (old progress : List Progress) (files held : ShelfState)
    (entropy spent : EntropyState) : Type 0 where
  pub each : length progress ≡ length jobs
  pub room : last_of desk + all_waits progress ≤ last_of before + all_waits old
  pub ready : AreReady desk jobs progress
  pub opened : RoundIsBegun width progress
  pub others : OnlyWritten jobs files.files held.files
  pub told : is_some held.files ≡ is_some files.files
  pub known : (by : Watch) → IsFrom by files → IsFrom by held
  pub still : Went (state (manager_of before)) (state (manager_of before))
  pub went : ManagerWent state before desk
  pub stand : (by : Watch) (start last : M) (began : Beginning) (v : DeskValue) → IsFrom by files → SaysWithin state start last before desk → Stands before v
      → Stand (said state start last) jobs width began (files_by by files) entropy v old
      → (w : DeskValue) × Stands desk w × Stand (said state start last) jobs width began (files_by by held) spent w progress

pub rounds_start : {M : Type 0} (state : M → ManagerNow) (jobs : List Job) (width : ℕ) (desk : Desk M) (progress : List Progress) (files : ShelfState) (entropy : EntropyState)
    → length progress ≡ length jobs → AreReady desk jobs progress → RoundIsBegun width progress → Went (state (manager_of desk)) (state (manager_of desk))
    → RoundsOn state jobs width desk desk progress progress files files entropy entropy
rounds_start state jobs width desk progress files entropy each ready opened still = record {
  each = each;
  room = omega arith;
  ready = ready;
  opened = opened;
  others = λ name none. refl;
  told = refl;
  known = λ by from. from;
  still = still;
  went = desk_none state desk still;
  stand = λ by start last began v from admits stands stand. (v, stands, stand);
}

-- one round more
pub rounds_more : {M : Type 0} (state : M → ManagerNow) (jobs : List Job) (width : ℕ) (before mid desk : Desk M) (old progress new : List Progress) (files held put : ShelfState)
    (entropy spent drawn : EntropyState) → RoundsOn state jobs width before mid old progress files held entropy spent → length new ≡ length jobs
    → last_of desk + all_waits new ≤ last_of mid + all_waits progress → AreReady desk jobs new → HaveBegun width new → ManagerWent state mid desk → OnlyWritten jobs held.files put.files → is_some put.files ≡ is_some held.files → ((by : Watch) → IsFrom by held → IsFrom by put)
    → ((by : Watch) (start last : M) (began : Beginning) (v : DeskValue) → IsFrom by held → SaysWithin state start last mid desk → Stands mid v
    → Stand (said state start last) jobs width began (files_by by held) spent v progress → (w : DeskValue) × Stands desk w × Stand (said state start last) jobs width began (files_by by put) drawn w new)
    → RoundsOn state jobs width before desk old new files put entropy drawn
rounds_more state jobs width before mid desk old progress new files held put entropy spent drawn on each room ready begun went others told known round = record {
  each = each;
  room = omega (arith, on.room, room);
  ready = ready;
  opened = inr begun;
  others = λ name none. others name none ∙ on.others name none;
  told = told ∙ on.told;
  known = λ by from. known by (on.known by from);
  still = on.still;
  went = desk_on state before mid desk on.went went;
  stand = λ by start last began v from admits stands stand.
      let (u, then, st) = on.stand by start last began v from (says_earlier state start last before mid desk on.still went admits) stands stand in
      round by start last began u (on.known by from) (says_later state start last before mid desk on.went went admits) then st;
}
