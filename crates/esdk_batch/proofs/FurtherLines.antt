-- The journal's lines of a further turn, and the numbers of the desk in it.
use Rattle.std.proofs.Common.{◌≡◌, ℕ, List, [], ◌∷◌, ◌++◌, map, refl, sym, ap, subst, ◌∙◌, append-nil, inl, inr}
use Rattle.std.specs.Prelude.{All, Option, Some, None, option_map}
use Rattle.std.specs.Option.{option_to_list}
use Rattle.std.proofs.lemmas.List.Elements.{All-cons, All-nil}
use Rattle.esdk_base.specs.Shelf.{Files}
use Rattle.keyring_trait.specs.declared.journal.JournalLine.{JournalLine}
use Rattle.keyring_trait.specs.declared.journal.Kind.{Kind}
use Rattle.keyring_trait.specs.declared.journal.Kind.TheVariants.{Unseal}
use Rattle.keyring_trait.specs.declared.served.Served.{Served}
use Rattle.desk_core.specs.Session.{SessionValue, Sealing, Opening}
use Rattle.desk_core.specs.Desk.{DeskValue, lines_of}
use Rattle.job_file.specs.declared.job.Job.{Job}
use Rattle.job_file.specs.declared.job.Work.{Work}
use Rattle.job_file.specs.declared.job.Work.TheVariants.{Encrypt, Decrypt}
use Rattle.batch_report.specs.declared.job_lines.JobEnd.{JobEnd}
use Rattle.batch_report.specs.declared.job_lines.JobLine.{JobLine}
use Rattle.esdk_batch.specs.declared.progress.Live.{Live}
use Rattle.esdk_batch.specs.declared.progress.Progress.{Progress}
use Rattle.esdk_batch.specs.declared.progress.Progress.TheVariants as stages
use Rattle.esdk_batch.specs.Batch.{ManagerAnswer, in_line, kind_of, length_of}
use Rattle.esdk_batch.specs.Ending.{FeedsJobPiece, JobGoesOnAs, ServedOnce, ServesSo}
use Rattle.keyring_trait.specs.Saying.{Saying}
use Rattle.esdk_batch.specs.Turns.{AddsLines, DrawsNumber, Knows, either}
use Rattle.esdk_batch.proofs.FurtherTurns.{ended_as}
use Rattle.esdk_batch.proofs.FedTurns.{served_first, served_now, served_still}

-- the session that a live job knows
abbrev pub known : (work : Work) (live : Live) (sessions : ℕ → Option SessionValue) → Knows work (stages.Live live) sessions → (s : SessionValue) × (sessions live.session ≡ Some s)
known (Encrypt length frame context required) live sessions knows = (Sealing knows.0, knows.1)
known (Decrypt given required) live sessions knows = (Opening knows.0, knows.1)

-- what is known of an answer for this work
abbrev pub answer_for : Work → Option Served → List ManagerAnswer
answer_for work served = option_to_list (option_map (λ s. record { kind = kind_of work; served = s; length = length_of work }) served)

-- ---- no line

pub no_lines : (job : Job) (live : Live) (line : JobLine) (v w : DeskValue) → line.served ≡ live.served → w.journal ≡ v.journal ++ [] → AddsLines job (stages.Live live) (stages.Ended line) v w
no_lines job live line v w same journal = record {
  knows = tt;
  gained = [];
  journal = journal;
  lines = All-nil (λ (l : JournalLine). l.kind ≡ Unseal);
  served = ap (answer_for job.work) same ∙ sym (append-nil (answer_for job.work live.served));
}

-- ---- the lines of a piece

-- Each line says that something was opened, and they are the answers of which the job says more.
pub record AreLines (work : Work) (before after : Option Served) (gained : List JournalLine) : Type 0 where
  pub lines : All (λ line. line.kind ≡ Unseal) gained
  pub served : answer_for work after ≡ answer_for work before ++ map in_line gained

none_came : (work : Work) (before after : Option Served) (gained : List JournalLine) → gained ≡ [] → after ≡ before → AreLines work before after gained
none_came work before after gained none same = record {
  lines = subst (λ (l : List JournalLine). All (λ line. line.kind ≡ Unseal) l) (sym none) (All-nil (λ (l : JournalLine). l.kind ≡ Unseal));
  served = ap (answer_for work) same ∙ sym (append-nil (answer_for work before)) ∙ ap (λ (l : List JournalLine). answer_for work before ++ map in_line l) (sym none);
}

-- one line came
one_came : (work : Work) → kind_of work ≡ Unseal → length_of work ≡ None → (session now : ℕ) (served : Served) (before after : Option Served) (gained : List JournalLine)
    → gained ≡ lines_of session Unseal now None (Some served) → before ≡ None → after ≡ Some served → AreLines work before after gained
one_came work kind size session now served before after gained lines none some = record {
  lines = subst (λ (l : List JournalLine). All (λ line. line.kind ≡ Unseal) l) (sym lines)
      (All-cons (λ (l : JournalLine). l.kind ≡ Unseal) _ [] refl (All-nil (λ (l : JournalLine). l.kind ≡ Unseal)));
  served = ap (answer_for work) some ∙ one_answer ∙ sym (ap (λ (o : Option Served). answer_for work o ++ map in_line gained) none ∙ ap (map in_line) lines);
}
  where
    one_answer : answer_for work (Some served) ≡ record { kind = Unseal; served = served; length = None } ∷ []
    one_answer = cc

opened_lines : (work : Work) → kind_of work ≡ Unseal → length_of work ≡ None → (session : ℕ) (told before after reported : Option Served) (gained : List JournalLine)
    → told ≡ before → reported ≡ either told (served_first gained) → ServedOnce session before gained after → AreLines work told reported gained
opened_lines work kind size session told before after reported gained is reports (inl still) = none_came work told reported gained still.0 (reports ∙ served_still told gained still.0)
opened_lines work kind size session told before after reported gained is reports (inr new) =
    one_came work kind size session new.1.0 new.1.1 told reported gained new.1.2 (is ∙ new.0) (reports ∙ served_now session told before after gained is (inr new) ∙ new.1.3)

are_lines : (work : Work) (live : Live) (sessions : ℕ → Option SessionValue) (knows : Knows work (stages.Live live) sessions) (gained : List JournalLine) (left : Option SessionValue) (end : Option JobEnd)
    (reported behind : Option Served) → ServesSo live.session (known work live sessions knows).0 gained left behind end → reported ≡ either live.served (served_first gained) → AreLines work live.served reported gained
are_lines (Encrypt length frame context required) live sessions knows gained left end reported behind serves reports =
    none_came (Encrypt length frame context required) live.served reported gained serves (reports ∙ served_still live.served gained serves)
are_lines (Decrypt given required) live sessions knows gained left end reported behind serves reports =
    opened_lines (Decrypt given required) refl refl live.session live.served knows.0.served behind reported gained knows.2 reports serves.once

knows_on : (work : Work) (live next : Live) (sessions later : ℕ → Option SessionValue) (knows : Knows work (stages.Live live) sessions) (gained : List JournalLine) (behind : Option Served)
    → next.session ≡ live.session → next.served ≡ either live.served (served_first gained) → ServesSo live.session (known work live sessions knows).0 gained (later live.session) behind None
    → JobGoesOnAs (known work live sessions knows).0 (later live.session) → Knows work (stages.Live next) later
knows_on (Encrypt length frame context required) live next sessions later knows gained behind same served serves goes = (goes.0, ap later same ∙ goes.1)
knows_on (Decrypt given required) live next sessions later knows gained behind same served serves goes = (
  goes.0,
  ap later same ∙ goes.1,
  served ∙ served_now live.session live.served knows.0.served behind gained knows.2 serves.once ∙ sym (serves.kept goes.0 goes.1),
)

-- the piece was fed to its end
pub fed_lines : (manager : Saying) (job : Job) (live next : Live) (v w : DeskValue) (piece : List ℕ) (files after : Option Files) (knows : Knows job.work (stages.Live live) v.live)
    → (fed : FeedsJobPiece manager live.session (known job.work live v.live knows).0 piece v w job.to files after None)
    → next.session ≡ live.session → next.served ≡ either live.served (served_first fed.gained) → AddsLines job (stages.Live live) (stages.Live next) v w
fed_lines manager job live next v w piece files after knows fed same served =
    let are = are_lines job.work live v.live knows fed.gained (w.live live.session) None next.served fed.served fed.serves served in
    record {
      knows = knows_on job.work live next v.live w.live knows fed.gained fed.served same served fed.serves (fed.lives refl);
      gained = fed.gained;
      journal = fed.desk.journal;
      lines = are.lines;
      served = are.served;
    }

-- or it wasn't
pub broken_lines : (manager : Saying) (job : Job) (live : Live) (line : JobLine) (v w : DeskValue) (piece : List ℕ) (files after : Option Files) (end : JobEnd)
    (knows : Knows job.work (stages.Live live) v.live) → (fed : FeedsJobPiece manager live.session (known job.work live v.live knows).0 piece v w job.to files after (Some end))
    → line.served ≡ either live.served (served_first fed.gained) → AddsLines job (stages.Live live) (stages.Ended line) v w
broken_lines manager job live line v w piece files after end knows fed served =
    let are = are_lines job.work live v.live knows fed.gained (w.live live.session) (Some end) line.served fed.served fed.serves served in
    record { knows = tt; gained = fed.gained; journal = fed.desk.journal; lines = are.lines; served = are.served }

-- ---- as the code says it

pub no_lines_so : (job : Job) (live : Live) (next : Progress) (kind : Kind) (end : JobEnd) (v w : DeskValue) → next ≡ ended_as kind end live.served → w.journal ≡ v.journal ++ []
    → AddsLines job (stages.Live live) next v w
no_lines_so job live next kind end v w next_is journal =
    subst (λ (n : Progress). AddsLines job (stages.Live live) n v w) (sym next_is)
    (no_lines job live (record { kind = kind; end = end; served = live.served }) v w refl journal)

pub broken_lines_so : (manager : Saying) (job : Job) (live : Live) (next : Progress) (kind : Kind) (served : Option Served) (v w : DeskValue) (piece : List ℕ) (files after : Option Files) (end : JobEnd)
    (knows : Knows job.work (stages.Live live) v.live) → (fed : FeedsJobPiece manager live.session (known job.work live v.live knows).0 piece v w job.to files after (Some end))
    → next ≡ ended_as kind end served → served ≡ either live.served (served_first fed.gained) → AddsLines job (stages.Live live) next v w
broken_lines_so manager job live next kind served v w piece files after end knows fed next_is reports =
    subst (λ (n : Progress). AddsLines job (stages.Live live) n v w) (sym next_is)
    (broken_lines manager job live (record { kind = kind; end = end; served = served }) v w piece files after end knows fed reports)

-- a job that ended drew no number
pub draws_none : (live : Live) (next : Progress) (kind : Kind) (end : JobEnd) (served : Option Served) (last later : ℕ) → next ≡ ended_as kind end served → later ≡ last
    → DrawsNumber (stages.Live live) next last later
draws_none live next kind end served last later next_is same = subst (λ (n : Progress). DrawsNumber (stages.Live live) n last later) (sym next_is) same
