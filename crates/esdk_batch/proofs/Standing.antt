-- A turn of one job: what all jobs come to.
use Rattle.std.proofs.Common.{◌≡◌, ◌≢◌, ◌<◌, ◌≤◌, ℕ, true, false, List, [], ◌++◌, length, map, get_or, set, refl, sym, ap, subst, ◌∙◌, inl, inr, arith, append_assoc, length-set, get_or-set_same, get_or-set_other}
use Rattle.std.specs.Prelude.{◌⊎◌, AllPairs, Option, Some, None, is_some, zip, filter_map, bytes_eq}
use Rattle.std.specs.List.{concat}
use Rattle.std.specs.Option.{option_to_list}
use Rattle.std.specs.List.Sorted.{IsPermutation}
use Rattle.std.specs.Cmp.Lexicographic.{bytes_decides}
use Rattle.std.proofs.lemmas.Bool.{cases_eq, cases_lt}
use Rattle.std.proofs.lemmas.List.{get_or_read, map-append}
use Rattle.std.proofs.lemmas.List.Folds.{list_any_at}
use Rattle.std.proofs.lemmas.List.Sorted.{IsPermutation-append_left, IsPermutation-sym, IsPermutation-trans}
use Rattle.esdk_fields.specs.Counts.{Stayed}
use Rattle.esdk_base.specs.Shelf.{Files, file_of}
use Rattle.esdk_base.specs.Streams.{EntropyState}
use Rattle.keyring_trait.specs.declared.journal.JournalLine.{JournalLine}
use Rattle.desk_core.specs.Desk.{DeskValue}
use Rattle.job_file.specs.declared.job.Job.{Job}
use Rattle.job_file.specs.JobFile.{is_written}
use Rattle.esdk_batch.specs.declared.progress.Progress.{Progress}
use Rattle.esdk_batch.specs.declared.progress.Progress.TheVariants as stages
use Rattle.esdk_batch.specs.Files.{KeepsOthers}
use Rattle.esdk_batch.specs.Batch.{Draws, OnlyWritten, in_line}
use Rattle.keyring_trait.specs.Saying.{Saying}
use Rattle.esdk_batch.specs.Underway.{IsAt, TakesTurn}
use Rattle.esdk_batch.specs.Turns.{AddsLines, DrawsBytes, HasKind, answered_so_far}
use Rattle.esdk_batch.specs.Rounds.{FilesAreApart, AreAt, Beginning, HaveBegun, HaveDrawn, HaveSessions, Stand, has_begun}
use Rattle.esdk_batch.proofs.Beside.{rest_set}
use Rattle.esdk_batch.proofs.Places.{at_places, concat_last, drew_both, drew_same, finds_more, nothing_more}
use Rattle.esdk_batch.proofs.SealedFirst.{sealed_after}
use Rattle.esdk_batch.proofs.Turning.{Turned, begun_by, begun_waits_not, kept_at, sessions_after, stays_at}

-- ---- bytes that were drawn

-- a job that had a turn before draws nothing
draws_none : (old : Progress) (last next : ℕ) (entropy spent : EntropyState) → has_begun old ≡ true → DrawsBytes old last next entropy spent → spent ≡ entropy
draws_none stages.Waiting last next entropy spent begun draws = absurd cc
draws_none (stages.Live live) last next entropy spent begun draws = draws
draws_none (stages.Ended line) last next entropy spent begun draws = draws

pub is_begun : (one : Progress) → (one ≡ stages.Waiting) ⊎ (has_begun one ≡ true)
is_begun stages.Waiting = inl refl
is_begun (stages.Live now) = inr refl
is_begun (stages.Ended line) = inr refl

module _ (draws : List (List ℕ)) (progress : List Progress) (i : ℕ) (old new : Progress) (more : List ℕ) (last next : ℕ) (first entropy spent : EntropyState)
    (within : i < length progress) (was : old ≡ get_or progress i old) (begun : has_begun new ≡ true)
    (order : AllPairs (λ one later. one ≡ stages.Waiting → later ≡ stages.Waiting) progress)
    (bytes : DrawsBytes old last next entropy spent) (drew : Draws entropy spent more) (drawn : HaveDrawn draws progress first entropy) where
  there : i < length draws
  there = omega (arith, within, drawn.count)

  -- no job from this one on drew anything, where it waited
  none_behind : old ≡ stages.Waiting → (k : ℕ) (d : List ℕ) → i ≤ k → k < length draws → get_or draws k d ≡ []
  none_behind waits k d from below =
      let under : k < length progress = omega (arith, below, drawn.count) in
      drawn.none k d old under (elim (cases_eq k i) [
        | inl same ↦ subst (λ n. get_or progress n old ≡ stages.Waiting) (sym same) (sym was ∙ waits)
        | inr apart ↦ order i k old (omega (arith, from, apart)) under (sym was ∙ waits)
      ])

  taken_first : old ≡ stages.Waiting → Draws first spent (concat (set draws i (get_or draws i [] ++ more)))
  taken_first waits =
      subst (Draws first spent) (sym (concat_last draws i more there (none_behind waits))) (drew_both first entropy spent (concat draws) more drawn.taken drew)

  taken_later : has_begun old ≡ true → Draws first spent (concat (set draws i (get_or draws i [] ++ more)))
  taken_later had =
      let same : spent ≡ entropy = draws_none old last next entropy spent had bytes in
      let none : more ≡ [] = drew_same entropy more (subst (λ s. Draws entropy s more) same drew) in
      subst (λ s. Draws first s (concat (set draws i (get_or draws i [] ++ more)))) (sym same)
      (subst (λ pieces. Draws first entropy (concat pieces)) (sym (nothing_more draws i more none)) drawn.taken)

  pub drawn_after : HaveDrawn (set draws i (get_or draws i [] ++ more)) (set progress i new) first spent
  drawn_after = record {
    count = length-set draws i (get_or draws i [] ++ more) ∙ drawn.count ∙ sym (length-set progress i new);
    taken = elim (is_begun old) [ inl waits ↦ taken_first waits | inr had ↦ taken_later had ];
    none = λ k d one below. at_places (λ k one. one ≡ stages.Waiting → get_or (set draws i (get_or draws i [] ++ more)) k d ≡ []) progress i new within
        (λ waits. absurd (begun_waits_not new begun waits))
        (λ k e apart under waits. get_or-set_other draws i k (get_or draws i [] ++ more) d apart ∙ drawn.none k d e under waits) k one below;
  }

-- ---- how materials were served

pub served_after : (jobs : List Job) (progress : List Progress) (i : ℕ) (job : Job) (old new : Progress) (gained more : List JournalLine)
    → length progress ≡ length jobs → i < length progress → job ≡ get_or jobs i job → old ≡ get_or progress i old
    → option_to_list (answered_so_far (job, new)) ≡ option_to_list (answered_so_far (job, old)) ++ map in_line more
    → IsPermutation (filter_map answered_so_far (zip jobs progress)) (map in_line gained)
    → IsPermutation (filter_map answered_so_far (zip jobs (set progress i new))) (map in_line (gained ++ more))
served_after jobs progress i job old new gained more each within is was serves served =
    let before = filter_map answered_so_far (zip jobs progress) in
    let after = filter_map answered_so_far (zip jobs (set progress i new)) in
    let lines = map in_line more in
    let grown : IsPermutation (before ++ lines) after = finds_more answered_so_far jobs progress i job old new lines each within is was serves in
    subst (IsPermutation after) (sym (map-append in_line gained more))
    (IsPermutation-trans after (before ++ lines) (map in_line gained ++ lines) (IsPermutation-sym (before ++ lines) after grown)
    (IsPermutation-append_left lines before (map in_line gained) served))

-- ---- files

-- a name that no job writes
pub not_written : (jobs : List Job) (i : ℕ) (job : Job) (name : List ℕ) → i < length jobs → job ≡ get_or jobs i job → is_written jobs name ≡ false → name ≢ job.to
not_written jobs i job name within is none same =
    let here : bytes_eq name (get_or jobs i job).to ≡ true = (bytes_decides name (get_or jobs i job).to).1 (same ∙ ap (λ (j : Job). j.to) is) in
    let written : is_written jobs name ≡ true = list_any_at (λ (j : Job). bytes_eq name j.to) jobs i job within here in
    absurd cc

pub others_after : (jobs : List Job) (i : ℕ) (job : Job) (before now later : Option Files) → i < length jobs → job ≡ get_or jobs i job → KeepsOthers now later job.to
    → OnlyWritten jobs before now → OnlyWritten jobs before later
others_after jobs i job before now later within is keeps others = λ name none. keeps.others name (not_written jobs i job name within is none) ∙ others name none

-- no two jobs write one file
pub apart_at : (jobs : List Job) (i k : ℕ) (job d : Job) → FilesAreApart jobs → i < length jobs → k < length jobs → k ≢ i → job ≡ get_or jobs i job → (get_or jobs k d).to ≢ job.to
apart_at jobs i k job d apart within below other is same =
    let at : job ≡ get_or jobs i d = get_or_read jobs i job within is d in
    elim (cases_lt k i) [
      | inl earlier ↦ apart.apart k i d earlier within (same ∙ ap (λ (j : Job). j.to) at)
      | inr later ↦ apart.apart i k d (omega (arith, later, other)) below (ap (λ (j : Job). j.to) (sym at) ∙ sym same)
    ]

told : (files : Option Files) → is_some files ≡ true → (held : Files) × (files ≡ Some held)
told None is = absurd cc
told (Some files) is = (files, refl)

still_told : (now later : Option Files) (left : Files) → is_some later ≡ is_some now → later ≡ Some left → (held : Files) × (now ≡ Some held)
still_told now later left tells is = told now (sym tells ∙ ap is_some is)

-- ---- where each job stands

module _ (manager : Saying) (jobs : List Job) (progress : List Progress) (i : ℕ) (job : Job) (old new : Progress) (v w : DeskValue) (now later : Option Files) (entropy spent : EntropyState)
    (apart : FilesAreApart jobs) (turned : Turned jobs progress i job old new v.last w.last v.live w.live) (have : HaveSessions jobs progress v.live)
    (turn : TakesTurn manager job old new v w now later entropy spent) (before : Option Files) (others : (held : Files) → now ≡ Some held → OnlyWritten jobs before now) (draws : List (List ℕ)) (count : length draws ≡ length progress)
    (at : (files held : Files) → before ≡ Some files → now ≡ Some held → AreAt manager jobs files held draws v.live progress) where
  inside : i < length jobs
  inside = omega (arith, turned.within, turned.each)

  -- what the job reads is as it was before the batch
  reads_same : (files held : Files) → before ≡ Some files → now ≡ Some held → file_of (Some held) job.from ≡ file_of (Some files) job.from
  reads_same files held was is =
      let unread : is_written jobs job.from ≡ false = subst (λ (j : Job). is_written jobs j.from ≡ false) (sym turned.is) (apart.unread i job inside) in
      ap (λ f. file_of f job.from) (sym is) ∙ others held is job.from unread ∙ ap (λ f. file_of f job.from) was

  job_after : (files held left : Files) → before ≡ Some files → now ≡ Some held → later ≡ Some left → IsAt manager job files left (get_or draws i [] ++ turn.more) w.live new
  job_after files held left was is then =
      turn.stands files held left (get_or draws i []) is then (reads_same files held was is)
      (subst (λ one. IsAt manager job files held (get_or draws i []) v.live one) (sym turned.was)
      (subst (λ (j : Job). IsAt manager j files held (get_or draws i []) v.live (get_or progress i old)) (sym turned.is) (at files held was is i job [] old turned.within)))

  other_same : (held left : Files) → now ≡ Some held → later ≡ Some left → (k : ℕ) (d : Job) → k ≢ i → k < length jobs
      → file_of (Some left) (get_or jobs k d).to ≡ file_of (Some held) (get_or jobs k d).to
  other_same held left is then k d other below =
      ap (λ f. file_of f (get_or jobs k d).to) (sym then) ∙ (turn.others left then).others (get_or jobs k d).to (apart_at jobs i k job d apart inside below other turned.is)
      ∙ ap (λ f. file_of f (get_or jobs k d).to) is

  place_after : (files held left : Files) → before ≡ Some files → now ≡ Some held → later ≡ Some left
      → AreAt manager jobs files left (set draws i (get_or draws i [] ++ turn.more)) w.live (set progress i new)
  place_after files held left was is then = λ k d drawn one below.
      let grown = get_or draws i [] ++ turn.more in
      let there : i < length draws = omega (arith, turned.within, count) in
      at_places (λ k one. IsAt manager (get_or jobs k d) files left (get_or (set draws i grown) k drawn) w.live one) progress i new turned.within
      (subst (λ (j : Job). IsAt manager j files left (get_or (set draws i grown) i drawn) w.live new) (get_or_read jobs i job inside turned.is d)
      (subst (λ bytes. IsAt manager job files left bytes w.live new) (sym (get_or-set_same draws i grown drawn there)) (job_after files held left was is then)))
      (λ k e other under.
      subst (λ bytes. IsAt manager (get_or jobs k d) files left bytes w.live (get_or progress k e)) (sym (get_or-set_other draws i k grown drawn other))
      (stays_at manager (get_or jobs k d) files held left (get_or draws k drawn) v.live w.live (get_or progress k e)
      (other_same held left is then k d other (omega (arith, under, turned.each)))
      (kept_at jobs progress i job old new v.last w.last v.live w.live turned have k e other under) (at files held was is k d drawn e under)))
      k one below

  pub at_after : (files left : Files) → before ≡ Some files → later ≡ Some left
      → AreAt manager jobs files left (set draws i (get_or draws i [] ++ turn.more)) w.live (set progress i new)
  at_after files left was then = let (held, is) = still_told now later left (turn.others left then).tells then in place_after files held left was is then

-- ---- all of it

stayed_before : (first entropy spent : EntropyState) → first.faults ≤ entropy.faults → entropy.faults ≤ spent.faults → Stayed first.faults spent.faults → Stayed first.faults entropy.faults
stayed_before first entropy spent before behind stayed = omega (arith, before, behind, stayed)

stayed_within : (first entropy spent : EntropyState) → first.faults ≤ entropy.faults → entropy.faults ≤ spent.faults → Stayed first.faults spent.faults → Stayed entropy.faults spent.faults
stayed_within first entropy spent before behind stayed = omega (arith, before, behind, stayed)

later_by : (old : Progress) (last next : ℕ) (entropy spent : EntropyState) → DrawsBytes old last next entropy spent → entropy.faults ≤ spent.faults
later_by stages.Waiting last next entropy spent bytes = bytes.0
later_by (stages.Live live) last next entropy spent bytes = omega (arith, ap (λ (s : EntropyState). s.faults) bytes)
later_by (stages.Ended line) last next entropy spent bytes = omega (arith, ap (λ (s : EntropyState). s.faults) bytes)

-- A turn of the job at a place, in all that it comes to.
pub record TakesAll (manager : Saying) (jobs : List Job) (width : ℕ) (progress : List Progress) (i : ℕ) (job : Job) (old new : Progress) (v w : DeskValue) (now later : Option Files)
    (entropy spent : EntropyState) : Type 0 where
  pub apart : FilesAreApart jobs
  pub turned : Turned jobs progress i job old new v.last w.last v.live w.live
  pub turn : TakesTurn manager job old new v w now later entropy spent
  pub bytes : DrawsBytes old v.last w.last entropy spent
  pub lines : AddsLines job old new v w
  pub kind : HasKind job.work old → HasKind job.work new
  pub window : (old ≡ stages.Waiting) ⊎ HaveBegun width progress

pub stand_after : (manager : Saying) (jobs : List Job) (width : ℕ) (began : Beginning) (progress : List Progress) (i : ℕ) (job : Job) (old new : Progress) (v w : DeskValue)
    (now later : Option Files) (entropy spent : EntropyState) → TakesAll manager jobs width progress i job old new v w now later entropy spent
    → Stand manager jobs width began now entropy v progress → Stand manager jobs width began later spent w (set progress i new)
stand_after manager jobs width began progress i job old new v w now later entropy spent t stand =
    let turned = t.turned in
    let within = turned.within in
    let begun = begun_by old new v.last w.last turned.numbers in
    let inside : i < length jobs = omega (arith, within, turned.each) in
    let behind = later_by old v.last w.last entropy spent t.bytes in
    record {
      sessions = sessions_after jobs progress i job old new v.last w.last v.live w.live turned stand.sessions;
      rest = λ session. rest_set progress i old new v.live w.live within turned.was t.turn.rest session ∙ stand.rest session;
      kinds = λ k d one below. at_places (λ k one. HasKind (get_or jobs k d).work one) progress i new within
          (subst (λ (j : Job). HasKind j.work new) (get_or_read jobs i job inside turned.is d) (t.kind
          (subst (λ (j : Job). HasKind j.work old) (sym turned.is) (subst (HasKind (get_or jobs i job).work) (sym turned.was) (stand.kinds i job old within)))))
          (λ k e other under. stand.kinds k d e under) k one below;
      draws = set stand.draws i (get_or stand.draws i [] ++ t.turn.more);
      drawn = drawn_after stand.draws progress i old new t.turn.more v.last w.last began.entropy entropy spent within turned.was begun stand.sessions.order t.bytes t.turn.drawn stand.drawn;
      gained = stand.gained ++ t.lines.gained;
      journal = t.lines.journal ∙ ap (λ l. l ++ t.lines.gained) stand.journal ∙ append_assoc began.journal stand.gained t.lines.gained;
      served = served_after jobs progress i job old new stand.gained t.lines.gained turned.each within turned.is turned.was t.lines.served stand.served;
      others = λ left then.
          (let keeps = t.turn.others left then in
          let (held, is) = still_told now later left keeps.tells then in
          others_after jobs i job began.files now later inside turned.is keeps (stand.others held is));
      at = at_after manager jobs progress i job old new v w now later entropy spent t.apart turned stand.sessions t.turn began.files stand.others stand.draws stand.drawn.count stand.at;
      later = omega (arith, stand.later, behind);
      sealed = λ stayed. sealed_after width began.last v.last w.last progress i old new stand.gained t.lines.gained entropy spent within turned.was turned.numbers t.bytes
          (stayed_within began.entropy entropy spent stand.later behind stayed) t.lines.lines (stand.sealed (stayed_before began.entropy entropy spent stand.later behind stayed))
          (is_begun old) t.window;
    }
