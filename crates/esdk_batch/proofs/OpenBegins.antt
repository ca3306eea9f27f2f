-- The first turn of a decrypt job.
use Rattle.std.proofs.Common.{◌≡◌, ◌+◌, ℕ, Bool, true, false, List, [], take, drop, refl, sym, ap, subst, ◌∙◌, inl, inr, arith}
use Rattle.std.specs.Prelude.{◌⊎◌, Option, Some, None, Ok, nat_eq}
use Rattle.std.specs.Map.{update}
use Rattle.std.proofs.lemmas.Map.{update_here}
use Rattle.std.proofs.Math.Seq.{take-nil}
use Rattle.esdk_fields.specs.declared.refusals.Outside.TheVariants as outsides
use Rattle.esdk_base.specs.Shelf.{Files, file_of}
use Rattle.esdk_base.specs.Streams.{EntropyState}
use Rattle.context_codec.specs.Context.{KeyValue}
use Rattle.header_codec.specs.declared.settings.Settings.{Settings}
use Rattle.header_codec.specs.Header.{no_limits}
use Rattle.keyring_trait.specs.declared.journal.JournalLine.{JournalLine}
use Rattle.keyring_trait.specs.declared.journal.Kind.TheVariants.{Unseal}
use Rattle.message_format.specs.Judgement.{content}
use Rattle.stream_open.specs.Session as open_session
use Rattle.stream_open.specs.Session.{OpeningValue, judged_now}
use Rattle.stream_open.proofs.AnyCut.{kept_none}
use Rattle.stream_open.proofs.Feeding.{opened_goes}
use Rattle.stream_open.proofs.Keeping.{opened_keeps}
use Rattle.desk_core.specs.Session.{Opening, SessionValue, Turn, open_opened}
use Rattle.desk_core.specs.Desk.{DeskValue}
use Rattle.job_file.specs.declared.job.Job.{Job}
use Rattle.job_file.specs.declared.job.Work.{Work}
use Rattle.job_file.specs.declared.job.Work.TheVariants.{Decrypt}
use Rattle.batch_report.specs.declared.job_lines.JobEnd.{JobEnd}
use Rattle.batch_report.specs.declared.job_lines.JobEnd.TheVariants as ends
use Rattle.batch_report.specs.declared.job_lines.JobLine.{JobLine}
use Rattle.esdk_batch.specs.declared.progress.Live.{Live}
use Rattle.esdk_batch.specs.declared.progress.Progress.{Progress}
use Rattle.esdk_batch.specs.declared.progress.Progress.TheVariants as stages
use Rattle.esdk_batch.specs.Batch.{WorksSo, kind_of, seen_of}
use Rattle.keyring_trait.specs.Saying.{Saying}
use Rattle.esdk_batch.specs.Answering.{serving}
use Rattle.esdk_batch.specs.OpenStory.{OpensSo}
use Rattle.esdk_batch.specs.Opening.{BeginsFile}
use Rattle.esdk_batch.specs.SealStory.{Seen, held_or_none}
use Rattle.esdk_batch.specs.Underway.{JobIsLive, JobIsOpening, TakesTurn}
use Rattle.esdk_batch.proofs.FirstTurns.{DrawsAtMost, draws_on, holds_now, left_now, left_others, rest_live, rest_none, takes_first}
use Rattle.esdk_batch.proofs.Places.{drew_none}

-- the session of a job that gives these pairs
abbrev pub opening_of : List KeyValue → OpeningValue
opening_of given = open_session.new_opening_session no_limits given

-- The session that begins, and its number.
pub record HasBegun (given : List KeyValue) (turn : Turn ℕ) (id session : ℕ) : Type 0 where
  pub same : session ≡ id
  pub left : turn.left ≡ Some (Opening (opening_of given))

pub has_begun : (settings : Settings) (pairs given : List KeyValue) (short : Bool) (id session : ℕ) → settings ≡ no_limits → pairs ≡ given
    → Ok session ≡ (open_opened settings pairs short id).answer → HasBegun given (open_opened settings pairs short id) id session
has_begun settings pairs given true id session limits same is = absurd cc
has_begun settings pairs given false id session limits same is = record {
  same = cc;
  left = ap (λ (s : Settings). Some (Opening (open_session.new_opening_session s pairs))) limits ∙ ap (λ (p : List KeyValue). Some (Opening (open_session.new_opening_session no_limits p))) same;
}

-- it is live
pub opening_live : (v : DeskValue) (given : List KeyValue) (turn : Turn ℕ) (session : ℕ) → HasBegun given turn (v.last + 1) session
    → update nat_eq v.live (v.last + 1) turn.left session ≡ Some (Opening (opening_of given))
opening_live v given turn session begun = ap (update nat_eq v.live (v.last + 1) turn.left) begun.same ∙ update_here v.live (v.last + 1) turn.left ∙ begun.left

-- nothing is released yet
nothing_released : (given : List KeyValue) → content (judged_now (opening_of given)) ≡ []
nothing_released given = sym (kept_none no_limits given).released

is_opening : (manager : Saying) (given : List KeyValue) (from to : Option (List ℕ)) (live : Live) → live.at ≡ 0 → live.served ≡ None → to ≡ Some []
    → JobIsOpening manager given from to live (opening_of given)
is_opening manager given from to live none unserved holds = record {
  settings = refl;
  pairs = refl;
  goes = opened_goes no_limits given;
  keeps = record {
    moment = 0;
    keeps = opened_keeps (serving manager None) 0 no_limits given;
    unserved = refl;
  };
  served = unserved;
  took = record { count = sym none; most = omega (arith, none); front = ap (λ (n : ℕ). drop n (held_or_none from)) (sym none) };
  holds = holds ∙ ap (λ (l : List ℕ). Some l) (sym (nothing_released given));
}

-- the file wasn't made, or holds nothing
fails_so : (manager : Saying) (given : List KeyValue) (seen : Seen) → (seen.to ≡ seen.before) ⊎ ((n : ℕ) × (seen.to ≡ Some (take n []))) → OpensSo manager given seen (ends.Outside outsides.ShelfFault)
fails_so manager given seen left = elim left [
  | inl same ↦ inl same
  | inr front ↦ inr (inl (front.1 ∙ ap (λ (l : List ℕ). Some l) (take-nil front.0)))
]

-- what is said of a decrypt job that ended
opened_line : (manager : Saying) (job : Job) (given : List KeyValue) (required : List (List ℕ)) (seen : Seen) (line : JobLine) → job.work ≡ Decrypt given required → line.kind ≡ Unseal
    → seen.drawn ≡ [] → OpensSo manager given seen line.end → (line.kind ≡ kind_of job.work) × WorksSo manager job.work seen line.end
opened_line manager job given required seen line work kind drawn opens =
    subst (λ (w : Work). (line.kind ≡ kind_of w) × WorksSo manager w seen line.end) (sym work) (kind, (drawn, opens))

-- by what became of the file
open_begins : (manager : Saying) (job : Job) (given : List KeyValue) (required : List (List ℕ)) (v u w : DeskValue) (lines : List JournalLine) (files left : Option Files) (entropy : EntropyState)
    (session : ℕ) (next : Progress) → job.work ≡ Decrypt given required → DrawsAtMost v u lines → session ≡ v.last + 1
    → v.live (v.last + 1) ≡ None → BeginsFile session Unseal None (Opening (opening_of given)) u w files left job.to next → TakesTurn manager job stages.Waiting next v w files left entropy entropy
open_begins manager job given required v u w lines files left entropy session stages.Waiting work draws is undrawn file = absurd file.begins
open_begins manager job given required v u w lines files left entropy session (stages.Live live) work draws is undrawn file =
    let s : SessionValue = Opening (opening_of given) in
    let here : w.live live.session ≡ Some s = ap (λ (l : Live). w.live l.session) file.begins.0 ∙ file.begins.1 in
    let drew = draws_on v u w session lines draws is file.desk in
    takes_first manager job (stages.Live live) v w lines files left entropy entropy [] drew (rest_live v w lines live drew (ap (λ (l : Live). l.session) file.begins.0 ∙ is) undrawn) (drew_none entropy) file.begins.2.keeps
    (s, here, omega (arith, ap (λ (l : Live). l.at) file.begins.0))
    (λ before now then_held was found unmade.
    let holds = holds_now files left job.to [] now then_held file.begins.2 was found in
    let opening = is_opening manager given (file_of (Some before) job.from) (file_of (Some then_held) job.to) live (ap (λ (l : Live). l.at) file.begins.0) (ap (λ (l : Live). l.served) file.begins.0) holds in
    subst (λ (o : Option SessionValue). JobIsLive manager job.work (file_of (Some before) job.from) (file_of (Some then_held) job.to) [] live o) (sym here)
    (subst (λ (work : Work). JobIsLive manager work (file_of (Some before) job.from) (file_of (Some then_held) job.to) [] live (Some s)) (sym work) (refl, opening)))
open_begins manager job given required v u w lines files left entropy session (stages.Ended line) work draws is undrawn file =
    let drew = draws_on v u w session lines draws is file.desk in
    takes_first manager job (stages.Ended line) v w lines files left entropy entropy [] drew (rest_none v w lines drew undrawn (ap w.live (sym is) ∙ file.begins.1)) (drew_none entropy)
    (left_others files left job.to [] file.begins.2) tt
    (λ before now then_held was found unmade.
    let made = left_now files left job.to [] before now then_held file.begins.2 was found unmade in
    let fails = fails_so manager given (seen_of job before then_held [] line) made in
    opened_line manager job given required _ line work (ap (λ (l : JobLine). l.kind) file.begins.0) refl
    (subst (λ (e : JobEnd). OpensSo manager given (seen_of job before then_held [] line) e) (sym (ap (λ (l : JobLine). l.end) file.begins.0)) fails))

-- the same of the file that the desk and the shelf were given by its name
pub open_begins_at : (manager : Saying) (job : Job) (given : List KeyValue) (required : List (List ℕ)) (v u w : DeskValue) (lines : List JournalLine) (files left : Option Files) (entropy : EntropyState)
    (session : ℕ) (to : List ℕ) (next : Progress) → job.work ≡ Decrypt given required → job.to ≡ to → DrawsAtMost v u lines → session ≡ v.last + 1
    → v.live (v.last + 1) ≡ None → BeginsFile session Unseal None (Opening (opening_of given)) u w files left to next → TakesTurn manager job stages.Waiting next v w files left entropy entropy
open_begins_at manager job given required v u w lines files left entropy session to next work at draws is undrawn file =
    open_begins manager job given required v u w lines files left entropy session next work draws is undrawn
    (subst (λ (name : List ℕ). BeginsFile session Unseal None (Opening (opening_of given)) u w files left name next) (sym at) file)
