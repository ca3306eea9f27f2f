-- A further turn of a job: what it comes to by how its piece was read and fed.
use Rattle.std.proofs.Common.{◌≡◌, ℕ, true, false, List, [], length, refl, sym, ap, subst, ◌∙◌}
use Rattle.std.specs.Prelude.{Option, Some, None, is_some}
use Rattle.std.proofs.lemmas.Map.{update_apart}
use Rattle.esdk_fields.specs.declared.refusals.Outside.{Outside}
use Rattle.esdk_fields.specs.declared.refusals.Outside.TheVariants as outsides
use Rattle.esdk_base.specs.Shelf.{Files, file_of}
use Rattle.esdk_base.specs.Streams.{ShelfState, most_input}
use Rattle.keyring_trait.specs.declared.journal.Kind.{Kind}
use Rattle.keyring_trait.specs.declared.served.Served.{Served}
use Rattle.desk_core.specs.Session.{SessionValue, Sealing, Opening, dropped}
use Rattle.desk_core.specs.Desk.{DeskValue, DropSession, after_desk_call}
use Rattle.job_file.specs.declared.job.Job.{Job}
use Rattle.job_file.specs.declared.job.Work.{Work}
use Rattle.job_file.specs.declared.job.Work.TheVariants.{Encrypt, Decrypt}
use Rattle.batch_report.specs.declared.job_lines.JobEnd.{JobEnd}
use Rattle.batch_report.specs.declared.job_lines.JobEnd.TheVariants as ends
use Rattle.esdk_batch.specs.declared.progress.Live.{Live}
use Rattle.esdk_batch.specs.declared.progress.Progress.{Progress}
use Rattle.esdk_batch.specs.declared.progress.Progress.TheVariants as stages
use Rattle.esdk_batch.specs.Batch.{WorksSo, kind_of}
use Rattle.esdk_batch.specs.Ending.{EndsSession, FinishesSo}
use Rattle.esdk_batch.specs.Files.{KeepsOthers, ReadsNone, ReadsPiece}
use Rattle.keyring_trait.specs.Saying.{Saying}
use Rattle.esdk_batch.specs.Underway.{FurtherTurn, JobIsLive, Took}
use Rattle.esdk_batch.proofs.Beside.{rest_over}
use Rattle.esdk_batch.proofs.FirstTurns.{dropped_left}
use Rattle.esdk_batch.proofs.OpeningJobs.{open_finishes, open_too_long, open_unread}
use Rattle.esdk_batch.proofs.SealingJobs.{seal_finishes, seal_too_long, seal_unread, seen_with}
use Rattle.esdk_batch.proofs.Took.{keeps_all, took_all}

-- ---- no piece was read

-- why no piece is read: a read failed, or so many bytes were taken that no more are
abbrev UnreadFor : ℕ → Outside → Type 0
UnreadFor at outsides.ShelfFault = Unit {0}
UnreadFor at outsides.InputTooLong = at ≡ most_input
UnreadFor at outside = ⊥

unread_for : (old new : ShelfState) (name : List ℕ) (at : ℕ) (outside : Outside) → ReadsNone old new name at outside → UnreadFor at outside
unread_for old new name at outsides.ShelfFault none = tt
unread_for old new name at outsides.InputTooLong none = none.0
unread_for old new name at outside none = none

works_unread : (manager : Saying) (work : Work) (from before to : Option (List ℕ)) (drawn : List ℕ) (live : Live) (s : SessionValue) (outside : Outside)
    → JobIsLive manager work from to drawn live (Some s) → UnreadFor live.at outside → WorksSo manager work (seen_with from before to drawn live.served) (ends.Outside outside)
works_unread manager (Encrypt length frame context required) from before to drawn live (Sealing s) outsides.ShelfFault at none =
    seal_unread manager (record { declared = length; frame = frame; context = context; required = required }) from before to drawn live s at
works_unread manager (Encrypt length frame context required) from before to drawn live (Sealing s) outsides.InputTooLong at none =
    seal_too_long manager (record { declared = length; frame = frame; context = context; required = required }) from before to drawn live s none at
works_unread manager (Decrypt given required) from before to drawn live (Opening s) outsides.ShelfFault at none =
    (at.0, open_unread manager given from before to drawn live s at.1)
works_unread manager (Decrypt given required) from before to drawn live (Opening s) outsides.InputTooLong at none =
    (at.0, open_too_long manager given from before to drawn live s none at.1)
works_unread manager (Encrypt length frame context required) from before to drawn live (Opening s) outside at none = absurd at
works_unread manager (Decrypt given required) from before to drawn live (Sealing s) outside at none = absurd at
works_unread manager (Encrypt length frame context required) from before to drawn live (Sealing s) outside at none = absurd none
works_unread manager (Decrypt given required) from before to drawn live (Opening s) outside at none = absurd none

-- what a name holds, of the same files
same_file : (files after : Option Files) (now left : Files) (name : List ℕ) → files ≡ Some now → after ≡ Some left → after ≡ files → file_of (Some now) name ≡ file_of (Some left) name
same_file files after now left name is later same = ap (λ (o : Option Files). file_of o name) (sym is ∙ sym same ∙ later)

-- the session is dropped
pub unread_turn : (manager : Saying) (job : Job) (live : Live) (s : SessionValue) (v : DeskValue) (files after : Option Files) (outside : Outside) → v.live live.session ≡ Some s
    → UnreadFor live.at outside → after ≡ files
    → FurtherTurn manager job live (stages.Ended (record { kind = kind_of job.work; end = ends.Outside outside; served = live.served })) v (after_desk_call v live.session false DropSession) files after
unread_turn manager job live s v files after outside lives none same = record {
  sessions = λ other apart. update_apart v.live live.session (dropped (v.live live.session)).left other apart;
  rest = rest_over v.live (after_desk_call v live.session false DropSession).live live.session (λ other apart. update_apart v.live live.session (dropped (v.live live.session)).left other apart)
      (dropped_left v live.session s lives);
  last = refl;
  gained = [];
  journal = refl;
  others = λ left is. keeps_all files after job.to same;
  has = tt;
  stands = λ before now left drawn is later from at.
      let at_s = subst (λ (o : Option SessionValue). JobIsLive manager job.work (file_of (Some before) job.from) (file_of (Some now) job.to) drawn live o) lives at in (
        refl,
        subst (λ (o : Option (List ℕ)). WorksSo manager job.work (seen_with (file_of (Some before) job.from) (file_of (Some before) job.to) o drawn live.served) (ends.Outside outside))
            (same_file files after now left job.to is later same)
            (works_unread manager job.work (file_of (Some before) job.from) (file_of (Some before) job.to) (file_of (Some now) job.to) drawn live s outside at_s none),
      );
}

-- ---- the end was seen

keeps_finished : (s : SessionValue) (to : List ℕ) (files after : Option Files) (end : JobEnd) → FinishesSo s to files after end → KeepsOthers files after to
keeps_finished (Sealing s) to files after ends.Done gains = gains.keeps
keeps_finished (Sealing s) to files after (ends.Outside outsides.ShelfFault) gains = gains.1.keeps
keeps_finished (Sealing s) to files after end none = absurd none
keeps_finished (Opening s) to files after ends.Done whole = whole.1.keeps
keeps_finished (Opening s) to files after (ends.Fault fault) same = keeps_all files after to same.1
keeps_finished (Opening s) to files after end none = absurd none

works_finished : (manager : Saying) (work : Work) (from before : Option (List ℕ)) (to drawn : List ℕ) (live : Live) (s : SessionValue) (files after : Option Files) (now left : Files) (end : JobEnd)
    → JobIsLive manager work from (file_of (Some now) to) drawn live (Some s) → ((taken : List ℕ) → Took taken live.at from → from ≡ Some taken)
    → files ≡ Some now → after ≡ Some left → FinishesSo s to files after end → WorksSo manager work (seen_with from before (file_of (Some left) to) drawn live.served) end
works_finished manager (Encrypt length frame context required) from before to drawn live (Sealing s) files after now left end at whole is later finishes =
    seal_finishes manager (record { declared = length; frame = frame; context = context; required = required }) from before drawn live s to files after now left end at
    (whole s.taken at.took) is later finishes
works_finished manager (Decrypt given required) from before to drawn live (Opening s) files after now left end at whole is later finishes =
    (at.0, open_finishes manager given from before drawn live s to files after now left end at.1 (whole s.taken at.1.took) is later finishes)
works_finished manager (Encrypt length frame context required) from before to drawn live (Opening s) files after now left end at whole is later finishes = absurd at
works_finished manager (Decrypt given required) from before to drawn live (Sealing s) files after now left end at whole is later finishes = absurd at

pub finished_turn : (manager : Saying) (job : Job) (live : Live) (s : SessionValue) (v w : DeskValue) (files after : Option Files) (buffer : List ℕ) (count : ℕ) (end : JobEnd)
    → v.live live.session ≡ Some s → ReadsPiece files job.from live.at count buffer → count ≡ 0 → EndsSession live.session s v w job.to files after end
    → FurtherTurn manager job live (stages.Ended (record { kind = kind_of job.work; end = end; served = live.served })) v w files after
finished_turn manager job live s v w files after buffer count end lives reads none finished = record {
  sessions = finished.desk.others;
  rest = rest_over v.live w.live live.session finished.desk.others finished.left;
  last = finished.desk.last;
  gained = [];
  journal = finished.desk.journal;
  others = λ left is. keeps_finished s job.to files after end finished.finishes;
  has = tt;
  stands = λ before now left drawn is later from at.
      let at_s = subst (λ (o : Option SessionValue). JobIsLive manager job.work (file_of (Some before) job.from) (file_of (Some now) job.to) drawn live o) lives at in (
        refl,
        works_finished manager job.work (file_of (Some before) job.from) (file_of (Some before) job.to) job.to drawn live s files after now left end at_s
            (λ taken took. took_all files now job.from buffer taken live.at count (file_of (Some before) job.from) is from reads none took) is later finished.finishes,
      );
}

-- ---- as the code says it

-- a job that ended
abbrev pub ended_as : Kind → JobEnd → Option Served → Progress
ended_as kind end served = stages.Ended (record { kind = kind; end = end; served = served })

pub unread_so : (manager : Saying) (job : Job) (live : Live) (next : Progress) (kind : Kind) (name : List ℕ) (s : SessionValue) (v : DeskValue) (old new : ShelfState) (files after : Option Files) (outside : Outside)
    → kind ≡ kind_of job.work → next ≡ ended_as kind (ends.Outside outside) live.served → v.live live.session ≡ Some s
    → ReadsNone old new name live.at outside → after ≡ files → FurtherTurn manager job live next v (after_desk_call v live.session false DropSession) files after
unread_so manager job live next kind name s v old new files after outside kind_is next_is lives none same =
    subst (λ (n : Progress). FurtherTurn manager job live n v (after_desk_call v live.session false DropSession) files after)
    (sym (next_is ∙ ap (λ (k : Kind). ended_as k (ends.Outside outside) live.served) kind_is))
    (unread_turn manager job live s v files after outside lives (unread_for old new name live.at outside none) same)

pub finished_so : (manager : Saying) (job : Job) (live : Live) (next : Progress) (kind : Kind) (name to : List ℕ) (s : SessionValue) (v w : DeskValue) (files mid after : Option Files) (buffer : List ℕ) (count : ℕ) (end : JobEnd)
    → kind ≡ kind_of job.work → next ≡ ended_as kind end live.served → name ≡ job.from → to ≡ job.to → mid ≡ files → v.live live.session ≡ Some s
    → ReadsPiece files name live.at count buffer → count ≡ 0 → EndsSession live.session s v w to mid after end → FurtherTurn manager job live next v w files after
finished_so manager job live next kind name to s v w files mid after buffer count end kind_is next_is name_is to_is same lives reads none finished =
    subst (λ (n : Progress). FurtherTurn manager job live n v w files after)
    (sym (next_is ∙ ap (λ (k : Kind). ended_as k end live.served) kind_is))
    (finished_turn manager job live s v w files after buffer count end lives (subst (λ (n : List ℕ). ReadsPiece files n live.at count buffer) name_is reads) none
    (subst (λ (t : List ℕ). EndsSession live.session s v w t files after end) to_is
    (subst (λ (f : Option Files). EndsSession live.session s v w to f after end) same finished)))

-- ---- the files as they are known

known : (files : Option Files) → is_some files ≡ true → (held : Files) × (files ≡ Some held)
known None is = absurd cc
known (Some files) is = (files, refl)

-- what is known behind a read was known before it: so a turn from behind it is one from before it
pub turn_sooner : (manager : Saying) (job : Job) (live : Live) (next : Progress) (v w : DeskValue) (files mid after : Option Files) → ((held : Files) → mid ≡ Some held → files ≡ Some held)
    → FurtherTurn manager job live next v w mid after → FurtherTurn manager job live next v w files after
turn_sooner manager job live next v w files mid after sooner turn =
    let same : (left : Files) → after ≡ Some left → mid ≡ files = λ left is.
    (let (held, mid_is) = known mid (sym (turn.others left is).tells ∙ ap is_some is) in mid_is ∙ sym (sooner held mid_is)) in
    record {
      sessions = turn.sessions;
      rest = turn.rest;
      last = turn.last;
      gained = turn.gained;
      journal = turn.journal;
      others = λ left is. subst (λ (f : Option Files). KeepsOthers f after job.to) (same left is) (turn.others left is);
      has = turn.has;
      stands = λ before now left drawn is later from at. turn.stands before now left drawn (same left later ∙ is) later from at;
    }
