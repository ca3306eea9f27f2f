-- A further turn of a job whose piece was fed: how its session and its file stand, or how it ended.
use Rattle.std.proofs.Common.{◌≡◌, ◌≤◌, ◌+◌, ℕ, List, [], ◌∷◌, ◌++◌, length, take, refl, sym, ap, subst, ◌∙◌, inl, inr}
use Rattle.std.specs.Prelude.{Option, Some, None, nat_eq, option_map, slice_get}
use Rattle.std.specs.Map.{update}
use Rattle.esdk_base.specs.Shelf.{Files, file_of}
use Rattle.esdk_base.specs.Streams.{most_input}
use Rattle.keyring_trait.specs.declared.journal.JournalLine.{JournalLine}
use Rattle.keyring_trait.specs.declared.journal.Kind.{Kind}
use Rattle.keyring_trait.specs.declared.served.Served.{Served}
use Rattle.stream_seal.specs.Feeding.{fed_out, given_so_far}
use Rattle.desk_core.specs.Session.{SessionValue, Sealing, Opening}
use Rattle.desk_core.specs.Desk.{DeskValue}
use Rattle.job_file.specs.declared.job.Job.{Job}
use Rattle.job_file.specs.declared.job.Work.{Work}
use Rattle.job_file.specs.declared.job.Work.TheVariants.{Encrypt, Decrypt}
use Rattle.batch_report.specs.declared.job_lines.JobEnd.{JobEnd}
use Rattle.esdk_batch.specs.declared.progress.Live.{Live}
use Rattle.esdk_batch.specs.declared.progress.Progress.{Progress}
use Rattle.esdk_batch.specs.declared.progress.Progress.TheVariants as stages
use Rattle.esdk_batch.specs.Batch.{WorksSo, kind_of}
use Rattle.esdk_batch.specs.Ending.{FeedsJobPiece, FeedsSo, JobGoesOnAs, ServedOnce, ServesSo}
use Rattle.esdk_batch.specs.Files.{ReadsPiece}
use Rattle.keyring_trait.specs.Saying.{Saying}
use Rattle.esdk_batch.specs.OpenStory.{OpensSo}
use Rattle.esdk_batch.specs.Turns.{either}
use Rattle.esdk_batch.specs.Underway.{FurtherTurn, JobIsLive, Took}
use Rattle.esdk_batch.proofs.Beside.{rest_on, rest_over}
use Rattle.esdk_batch.proofs.FurtherTurns.{ended_as}
use Rattle.esdk_batch.proofs.OpeningJobs.{open_ends, open_goes}
use Rattle.esdk_batch.proofs.SealingJobs.{seal_ends, seal_goes, seen_with}
use Rattle.esdk_batch.proofs.Took.{TookPiece, gains_behind, took_piece}

-- ---- how materials were served

-- the line behind so many
pub line_behind : (lines gained : List JournalLine) → slice_get (lines ++ gained) (length lines) ≡ slice_get gained 0
line_behind [] gained = refl
line_behind (line ∷ lines) gained = line_behind lines gained

-- how the materials were served of the first of these lines, if one is there
abbrev pub served_first : List JournalLine → Option Served
served_first gained = option_map (λ line. line.served) (slice_get gained 0)

either_none : (first : Option Served) → either first None ≡ first
either_none None = refl
either_none (Some served) = refl

-- no line came
pub served_still : (before : Option Served) (gained : List JournalLine) → gained ≡ [] → either before (served_first gained) ≡ before
served_still before gained none = ap (λ (l : List JournalLine). either before (served_first l)) none ∙ either_none before

-- what a job says of it is what its session says
pub served_now : (session : ℕ) (known before after : Option Served) (gained : List JournalLine) → known ≡ before → ServedOnce session before gained after → either known (served_first gained) ≡ after
served_now session known before after gained is once = elim once [
  | inl still ↦ served_still known gained still.0 ∙ is ∙ sym still.1
  | inr new ↦ ap (λ (o : Option Served). either o (served_first gained)) (is ∙ new.0) ∙ ap served_first new.1.2 ∙ sym new.1.3
]

-- what a job says of it, by the lines of the desk's journal
pub reported_is : (known since reported : Option Served) (all lines gained : List JournalLine) (n : ℕ) → reported ≡ either known since
    → since ≡ option_map (λ line. line.served) (slice_get all n) → all ≡ lines ++ gained → n ≡ length lines → reported ≡ either known (served_first gained)
reported_is known since reported all lines gained n reports since_is all_is n_is =
    reports ∙ ap (either known) (since_is ∙ ap (λ (l : List JournalLine). served_at l n) all_is ∙ ap (served_at (lines ++ gained)) n_is ∙ ap (option_map (λ line. line.served)) (line_behind lines gained))
  where
    served_at : List JournalLine → ℕ → Option Served
    served_at l k = option_map (λ line. line.served) (slice_get l k)

-- ---- the session goes on

lives_fed : (manager : Saying) (work : Work) (from : Option (List ℕ)) (drawn : List ℕ) (live next : Live) (s : SessionValue) (piece to : List ℕ) (count : ℕ)
    (session : Option SessionValue) (gained : List JournalLine) (behind : Option Served) (files after : Option Files) (now left : Files) → next.at ≡ live.at + count
    → next.served ≡ either live.served (served_first gained) → JobIsLive manager work from (file_of (Some now) to) drawn live (Some s)
    → ((taken : List ℕ) → Took taken live.at from → TookPiece taken piece live.at count from) → files ≡ Some now → after ≡ Some left
    → ServesSo live.session s gained session behind None → FeedsSo manager s piece session to files after behind None → JobIsLive manager work from (file_of (Some left) to) drawn next session
lives_fed manager (Encrypt length frame context required) from drawn live next (Sealing s) piece to count session gained behind files after now left further served at took is later serves feeds =
    let f = feeds at.is_fed in
    subst (λ (o : Option SessionValue). JobIsLive manager (Encrypt length frame context required) from (file_of (Some left) to) drawn next o) (sym f.0)
    (seal_goes manager (record { declared = length; frame = frame; context = context; required = required }) from (file_of (Some now) to) (file_of (Some left) to) drawn live next s piece count
    further (served ∙ served_still live.served gained serves) at (took s.taken at.took) f.1 (gains_behind files after now left to (fed_out s piece) (given_so_far s) is later f.2 at.holds))
lives_fed manager (Decrypt given required) from drawn live next (Opening s) piece to count session gained behind files after now left further served at took is later serves feeds =
    let f = feeds at.1.goes in
    subst (λ (o : Option SessionValue). JobIsLive manager (Decrypt given required) from (file_of (Some left) to) drawn next o) (sym f.1) (
      at.0,
      open_goes manager given from live next s f.0 piece to count files after now left further
          (served ∙ served_now live.session live.served s.served behind gained at.1.served serves.once ∙ sym (serves.kept f.0 f.1)) at.1 (took s.taken at.1.took) is later f.2,
    )
lives_fed manager (Encrypt length frame context required) from drawn live next (Opening s) piece to count session gained behind files after now left further served at took is later serves feeds = absurd at
lives_fed manager (Decrypt given required) from drawn live next (Sealing s) piece to count session gained behind files after now left further served at took is later serves feeds = absurd at

-- a session that goes on is live
still_live : (s : SessionValue) (left : Option SessionValue) → JobGoesOnAs s left → (t : SessionValue) × (left ≡ Some t)
still_live (Sealing s) left goes = (Sealing goes.0, goes.1)
still_live (Opening s) left goes = (Opening goes.0, goes.1)

-- The piece was fed to its end.
pub fed_turn : (manager : Saying) (job : Job) (live next : Live) (s : SessionValue) (v w : DeskValue) (files after : Option Files) (buffer : List ℕ) (count : ℕ)
    → v.live live.session ≡ Some s → ReadsPiece files job.from live.at count buffer → (fed : FeedsJobPiece manager live.session s (take count buffer) v w job.to files after None)
    → next.session ≡ live.session → next.at ≡ live.at + count → next.served ≡ either live.served (served_first fed.gained)
    → FurtherTurn manager job live (stages.Live next) v w files after
fed_turn manager job live next s v w files after buffer count lives reads fed same further served = record {
  sessions = fed.desk.others;
  rest = subst (λ (id : ℕ). (session : ℕ) → update nat_eq w.live id None session ≡ update nat_eq v.live live.session None session) (sym same)
      (rest_on v.live w.live live.session fed.desk.others);
  last = fed.desk.last;
  gained = fed.gained;
  journal = fed.desk.journal;
  others = λ left is. fed.others;
  has =
      let on = still_live s (w.live live.session) (fed.lives refl) in
      (on.0, ap w.live same ∙ on.1, subst (λ (n : ℕ). n ≤ most_input) (sym further) reads.most);
  stands = λ before now left drawn is later from at.
      let at_s = subst (λ (o : Option SessionValue). JobIsLive manager job.work (file_of (Some before) job.from) (file_of (Some now) job.to) drawn live o) lives at in
      subst (λ (id : ℕ). JobIsLive manager job.work (file_of (Some before) job.from) (file_of (Some left) job.to) drawn next (w.live id)) (sym same)
      (lives_fed manager job.work (file_of (Some before) job.from) drawn live next s (take count buffer) job.to count (w.live live.session) fed.gained fed.served files after now left further served at_s
      (λ taken took. took_piece files now job.from buffer taken live.at count (file_of (Some before) job.from) is from reads took) is later fed.serves fed.feeds);
}

-- ---- the job ended

works_broken : (manager : Saying) (work : Work) (from before : Option (List ℕ)) (drawn : List ℕ) (live : Live) (served : Option Served) (s : SessionValue) (piece to : List ℕ) (count : ℕ)
    (session : Option SessionValue) (gained : List JournalLine) (behind : Option Served) (files after : Option Files) (now left : Files) (end : JobEnd)
    → served ≡ either live.served (served_first gained) → JobIsLive manager work from (file_of (Some now) to) drawn live (Some s)
    → ((taken : List ℕ) → Took taken live.at from → TookPiece taken piece live.at count from) → files ≡ Some now → after ≡ Some left
    → ServesSo live.session s gained session behind (Some end) → FeedsSo manager s piece session to files after behind (Some end)
    → WorksSo manager work (seen_with from before (file_of (Some left) to) drawn served) end
works_broken manager (Encrypt length frame context required) from before drawn live served (Sealing s) piece to count session gained behind files after now left end reports at took is later serves feeds =
    subst (λ (o : Option Served). WorksSo manager (Encrypt length frame context required) (seen_with from before (file_of (Some left) to) drawn o) end)
    (sym (reports ∙ served_still live.served gained serves))
    (seal_ends manager (record { declared = length; frame = frame; context = context; required = required }) from before drawn live s piece to count session files after now left end at
    (took s.taken at.took) is later (feeds at.is_fed))
works_broken manager (Decrypt given required) from before drawn live served (Opening s) piece to count session gained behind files after now left end reports at took is later serves feeds = (
  at.0,
  subst (λ (o : Option Served). OpensSo manager given
      (seen_with from before (file_of (Some left) to) drawn o) end)
      (sym (reports
      ∙ served_now live.session live.served s.served behind gained at.1.served serves.once))
      (open_ends manager given from before drawn behind live s piece to count session files after now
      left end (λ failed. serves.failed (ap (λ (e : JobEnd). Some e) failed)) at.1
      (took s.taken at.1.took) is later (feeds at.1.goes)),
)
works_broken manager (Encrypt length frame context required) from before drawn live served (Opening s) piece to count session gained behind files after now left end reports at took is later serves feeds = absurd at
works_broken manager (Decrypt given required) from before drawn live served (Sealing s) piece to count session gained behind files after now left end reports at took is later serves feeds = absurd at

-- The piece wasn't fed to its end.
pub broken_turn : (manager : Saying) (job : Job) (live : Live) (served : Option Served) (s : SessionValue) (v w : DeskValue) (files after : Option Files) (buffer : List ℕ) (count : ℕ) (end : JobEnd)
    → v.live live.session ≡ Some s → ReadsPiece files job.from live.at count buffer → (fed : FeedsJobPiece manager live.session s (take count buffer) v w job.to files after (Some end))
    → served ≡ either live.served (served_first fed.gained)
    → FurtherTurn manager job live (stages.Ended (record { kind = kind_of job.work; end = end; served = served })) v w files after
broken_turn manager job live served s v w files after buffer count end lives reads fed reports = record {
  sessions = fed.desk.others;
  rest = rest_over v.live w.live live.session fed.desk.others (fed.over refl);
  last = fed.desk.last;
  gained = fed.gained;
  journal = fed.desk.journal;
  others = λ left is. fed.others;
  has = tt;
  stands = λ before now left drawn is later from at.
      let at_s = subst (λ (o : Option SessionValue). JobIsLive manager job.work (file_of (Some before) job.from) (file_of (Some now) job.to) drawn live o) lives at in (
        refl,
        works_broken manager job.work (file_of (Some before) job.from) (file_of (Some before) job.to) drawn live served s (take count buffer) job.to count (w.live live.session) fed.gained fed.served
            files after now left end reports at_s
            (λ taken took. took_piece files now job.from buffer taken live.at count (file_of (Some before) job.from) is from reads took) is later fed.serves fed.feeds,
      );
}

-- ---- as the code says it

-- what feeding came to, of the file and the files as the turn has them
pub fed_as : (manager : Saying) (session : ℕ) (s : SessionValue) (piece : List ℕ) (v w : DeskValue) (to name : List ℕ) (files mid after : Option Files) (end known : Option JobEnd)
    → to ≡ name → mid ≡ files → end ≡ known → FeedsJobPiece manager session s piece v w to mid after end → FeedsJobPiece manager session s piece v w name files after known
fed_as manager session s piece v w to name files mid after end known to_is same end_is fed =
    subst (λ (t : List ℕ). FeedsJobPiece manager session s piece v w t files after known) to_is
    (subst (λ (f : Option Files). FeedsJobPiece manager session s piece v w to f after known) same
    (subst (λ (e : Option JobEnd). FeedsJobPiece manager session s piece v w to mid after e) end_is fed))

pub fed_so : (manager : Saying) (job : Job) (live : Live) (name : List ℕ) (served : Option Served) (s : SessionValue) (v w : DeskValue) (files after : Option Files) (buffer : List ℕ) (count : ℕ)
    → name ≡ job.from → v.live live.session ≡ Some s → ReadsPiece files name live.at count buffer
    → (fed : FeedsJobPiece manager live.session s (take count buffer) v w job.to files after None) → served ≡ either live.served (served_first fed.gained)
    → FurtherTurn manager job live (stages.Live (record { session = live.session; at = live.at + count; served = served })) v w files after
fed_so manager job live name served s v w files after buffer count name_is lives reads fed reports =
    fed_turn manager job live (record { session = live.session; at = live.at + count; served = served }) s v w files after buffer count lives
    (subst (λ (n : List ℕ). ReadsPiece files n live.at count buffer) name_is reads) fed refl refl reports

pub broken_so : (manager : Saying) (job : Job) (live : Live) (next : Progress) (kind : Kind) (name : List ℕ) (served : Option Served) (s : SessionValue) (v w : DeskValue) (files after : Option Files)
    (buffer : List ℕ) (count : ℕ) (end : JobEnd) → kind ≡ kind_of job.work → next ≡ ended_as kind end served → name ≡ job.from → v.live live.session ≡ Some s
    → ReadsPiece files name live.at count buffer → (fed : FeedsJobPiece manager live.session s (take count buffer) v w job.to files after (Some end))
    → served ≡ either live.served (served_first fed.gained) → FurtherTurn manager job live next v w files after
broken_so manager job live next kind name served s v w files after buffer count end kind_is next_is name_is lives reads fed reports =
    subst (λ (n : Progress). FurtherTurn manager job live n v w files after) (sym (next_is ∙ ap (λ (k : Kind). ended_as k end served) kind_is))
    (broken_turn manager job live served s v w files after buffer count end lives (subst (λ (n : List ℕ). ReadsPiece files n live.at count buffer) name_is reads) fed reports)
