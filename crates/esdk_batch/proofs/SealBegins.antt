-- The first turn of an encrypt job, by what the desk answered and what became of the job's file.
use Rattle.std.proofs.Common.{◌≡◌, ◌≤◌, ◌+◌, ℕ, Bool, List, [], ◌++◌, length, take, drop, min, refl, sym, ap, subst, ◌∙◌, inl, inr, arith}
use Rattle.std.specs.Prelude.{◌⊎◌, Option, Some, None, Ok, Err}
use Rattle.std.specs.Io.KnownBytes.{Keeps}
use Rattle.std.proofs.lemmas.List.{take_min, take-append-le}
use Rattle.esdk_fields.specs.declared.refusals.Outside.TheVariants as outsides
use Rattle.esdk_base.specs.Shelf.{Files, file_of}
use Rattle.esdk_base.specs.Streams.{EntropyState}
use Rattle.body_format.specs.Written.{framed_body}
use Rattle.keyring_trait.specs.declared.journal.JournalLine.{JournalLine}
use Rattle.keyring_trait.specs.declared.journal.Kind.TheVariants.{Seal}
use Rattle.keyring_trait.specs.declared.served.Served.{Served}
use Rattle.keyring_trait.specs.Materials.{EncMaterialsValue}
use Rattle.stream_seal.specs.Feeding.{BeginsFed}
use Rattle.stream_seal.specs.Session as seal
use Rattle.stream_seal.specs.Session.{SealingValue, beginning, under_of}
use Rattle.stream_seal.specs.Start.{message_of, start_refusal, drawn_id, drawn_rest}
use Rattle.stream_seal.proofs.AnyCut.{message_is}
use Rattle.stream_seal.proofs.Feeding.{begin_fed}
use Rattle.esdk_encrypt.specs.Encrypt.{drawn_count}
use Rattle.desk_core.specs.declared.errors.DeskError.{DeskError}
use Rattle.desk_core.specs.SealRequest.{SealRequestValue}
use Rattle.desk_core.specs.Session.{Reply, Sealing, SessionValue, seal_opened}
use Rattle.desk_core.specs.Desk.{DeskValue, served_by}
use Rattle.job_file.specs.declared.job.Job.{Job}
use Rattle.job_file.specs.declared.job.Work.{Work}
use Rattle.job_file.specs.declared.job.Work.TheVariants.{Encrypt}
use Rattle.batch_report.specs.declared.job_lines.JobEnd.{JobEnd}
use Rattle.batch_report.specs.declared.job_lines.JobEnd.TheVariants as ends
use Rattle.batch_report.specs.declared.job_lines.JobLine.{JobLine}
use Rattle.esdk_batch.specs.declared.progress.Live.{Live}
use Rattle.esdk_batch.specs.declared.progress.Progress.{Progress}
use Rattle.esdk_batch.specs.declared.progress.Progress.TheVariants as stages
use Rattle.esdk_batch.specs.Batch.{Draws, WorksSo, kind_of, seen_of}
use Rattle.esdk_batch.specs.Ending.{EndsFor}
use Rattle.keyring_trait.specs.Saying.{Saying}
use Rattle.esdk_batch.specs.Opening.{BeginsFile, job_request}
use Rattle.esdk_batch.specs.SealStory.{JobIsGiven, SealAsked, SealsSo, Seen, held_or_none, sealed_text, wish_of}
use Rattle.esdk_batch.specs.Underway.{JobIsLive, JobIsSealing, TakesTurn}
use Rattle.esdk_batch.proofs.FirstTurns.{DrawsAtMost, draws_none, draws_on, holds_now, keeps_all, left_now, left_others, rest_live, rest_none, same_now, takes_first}
use Rattle.esdk_batch.proofs.Places.{drew_kept}
use Rattle.esdk_batch.proofs.SealTurns.{HasBegun, IsAnswered, Says, is_given, seals_none}

-- the work of an encrypt job
abbrev work_of : SealAsked → Work
work_of asked = Encrypt asked.declared asked.frame asked.context asked.required

-- what is said of an encrypt job that ended
sealed_line : (manager : Saying) (job : Job) (asked : SealAsked) (seen : Seen) (line : JobLine) → job.work ≡ work_of asked → line.kind ≡ Seal → SealsSo manager asked seen line.end
    → (line.kind ≡ kind_of job.work) × WorksSo manager job.work seen line.end
sealed_line manager job asked seen line work kind seals = subst (λ (w : Work). (line.kind ≡ kind_of w) × WorksSo manager w seen line.end) (sym work) (kind, seals)

-- ---- no session began

-- no byte was drawn
pub draws_nothing : (manager : Saying) (job : Job) (asked : SealAsked) (v : DeskValue) (files : Option Files) (entropy spent : EntropyState) (next : Progress)
    → job.work ≡ work_of asked → Keeps entropy.to_come spent.to_come → spent.drawn ≡ entropy.drawn
    → next ≡ stages.Ended (record { kind = Seal; end = ends.Outside outsides.EntropyFault; served = None })
    → TakesTurn manager job stages.Waiting next v v files files entropy spent
draws_nothing manager job asked v files entropy spent next work kept same_drawn ends_so =
    subst (λ (p : Progress). TakesTurn manager job stages.Waiting p v v files files entropy spent) (sym ends_so) (
    takes_first manager job _ v v [] files files entropy spent [] (draws_none v) (λ session. refl) (drew_kept entropy spent kept same_drawn)
    (keeps_all files job.to) tt
    (λ before now then_held was is unmade.
    let same = same_now files files job.to before now then_held refl was is unmade in
    sealed_line manager job asked _ (record { kind = Seal; end = ends.Outside outsides.EntropyFault; served = None }) work refl (record { drawn = refl; unserved = refl; same = same })))

-- the desk answered an error
pub opens_none : (manager : Saying) (job : Job) (asked : SealAsked) (v w : DeskValue) (lines : List JournalLine) (files : Option Files) (entropy spent : EntropyState) (random : List ℕ)
    (reply : Reply) (short : Bool) (id wraps : ℕ) (error : DeskError) (end : JobEnd) (served : Option Served) (next : Progress) → job.work ≡ work_of asked → DrawsAtMost v w lines
    → v.live (v.last + 1) ≡ None → w.live (v.last + 1) ≡ None → Draws entropy spent random → length random ≡ drawn_count wraps → wraps ≡ manager.wraps → Says manager asked random reply
    → served ≡ served_by reply → Err error ≡ (seal_opened (job_request asked) random reply short id).answer → EndsFor error (Ok end)
    → next ≡ stages.Ended (record { kind = Seal; end = end; served = served }) → TakesTurn manager job stages.Waiting next v w files files entropy spent
opens_none manager job asked v w lines files entropy spent random reply short id wraps error end served next work drew undrawn over bytes count same_wraps says serves is ends_for ends_so =
    subst (λ (p : Progress). TakesTurn manager job stages.Waiting p v w files files entropy spent) (sym ends_so) (
    takes_first manager job _ v w lines files files entropy spent random drew (rest_none v w lines drew undrawn over) bytes (keeps_all files job.to) tt
    (λ before now then_held was found unmade.
    let same = same_now files files job.to before now then_held refl was found unmade in
    let line : JobLine = record { kind = Seal; end = end; served = served } in
    let answered : IsAnswered manager asked (seen_of job before then_held random line) random reply = record { drawn = refl; count = count ∙ ap drawn_count same_wraps; says = says; served = serves; same = same } in
    sealed_line manager job asked _ line work refl (seals_none manager asked _ random reply short id error end answered is ends_for)))

-- ---- a session began

-- a front of the beginning is a front of the message
begins_front : (n : ℕ) (first more whole : List ℕ) → whole ≡ first ++ more → take n first ≡ take (min n (length first)) whole
begins_front n first more whole is =
    sym (take_min n first) ∙ sym (take-append-le (min n (length first)) first more (omega arith)) ∙ ap (λ (l : List ℕ). take (min n (length first)) l) (sym is)

-- What was drawn, given and begun with.
pub record IsBegun (manager : Saying) (asked : SealAsked) (random : List ℕ) (m : EncMaterialsValue) (served : Option Served) : Type 0 where
  pub wide : 1 ≤ asked.frame
  pub count : length random ≡ drawn_count manager.wraps
  pub moment : ℕ
  pub gives : manager.gives (wish_of asked) moment (drawn_rest random) m
  pub begins : start_refusal m None (drawn_id random) ≡ None
  pub serves : served ≡ Some m.served

pub is_begun : (manager : Saying) (asked : SealAsked) (request : SealRequestValue) (random : List ℕ) (reply : Reply) (short : Bool) (id session wraps : ℕ) (served : Option Served)
    (b : HasBegun asked random reply short id session) → request ≡ job_request asked → 1 ≤ request.size → length random ≡ drawn_count wraps → wraps ≡ manager.wraps → Says manager asked random reply
    → served ≡ served_by reply → IsBegun manager asked random b.materials served
is_begun manager asked request random reply short id session wraps served b same wide count same_wraps says serves = record {
  wide = subst (λ (r : SealRequestValue). 1 ≤ r.size) same wide;
  count = count ∙ ap drawn_count same_wraps;
  moment = (subst (λ (r : Reply). Says manager asked random r) b.gives says).0.0;
  gives = (subst (λ (r : Reply). Says manager asked random r) b.gives says).0.1;
  begins = b.begins;
  serves = serves ∙ ap (λ (r : Reply). served_by r) b.gives;
}

-- the session
abbrev pub sealing_of : SealAsked → List ℕ → EncMaterialsValue → SealingValue
sealing_of asked random m = seal.new_sealing_session m asked.declared asked.frame (drawn_id random)

is_sealing : (manager : Saying) (asked : SealAsked) (from to : Option (List ℕ)) (random : List ℕ) (m : EncMaterialsValue) (served : Option Served) (live : Live)
    → IsBegun manager asked random m served → live.at ≡ 0 → live.served ≡ served → to ≡ Some (beginning (sealing_of asked random m))
    → JobIsSealing manager asked from to random live (sealing_of asked random m)
is_sealing manager asked from to random m served live begun none serves holds =
    let fed : BeginsFed (sealing_of asked random m) = begin_fed m asked.declared asked.frame (drawn_id random) begun.wide in
    record {
      count = begun.count;
      moment = begun.moment;
      given = begun.gives;
      served = serves ∙ begun.serves;
      begins = begun.begins;
      declared = refl;
      size = refl;
      id = refl;
      is_fed = fed.is_fed;
      took = record { count = sym none; most = omega (arith, none); front = ap (λ (n : ℕ). drop n (held_or_none from)) (sym none) };
      holds = holds ∙ ap (λ (l : List ℕ). Some l) (sym fed.given);
    }

-- the file wasn't made, or not whole
fails_so : (manager : Saying) (asked : SealAsked) (seen : Seen) (random : List ℕ) (m : EncMaterialsValue) (served : Option Served) → IsBegun manager asked random m served → seen.drawn ≡ random
    → seen.served ≡ served → (seen.to ≡ seen.before) ⊎ ((n : ℕ) × (seen.to ≡ Some (take n (beginning (sealing_of asked random m))))) → SealsSo manager asked seen (ends.Outside outsides.ShelfFault)
fails_so manager asked seen random m served begun drawn serves left =
    let given : JobIsGiven manager asked seen m = is_given manager asked seen random m begun.moment drawn begun.count begun.gives (serves ∙ begun.serves) in
    let first : List ℕ = beginning (sealing_of asked random m) in
    let text : List ℕ = sealed_text asked seen in
    record {
      materials = m;
      given = given;
      left = elim left [
        | inl same ↦ inl same
        | inr front ↦ inr (record {
          materials = m;
          given = given;
          begins = ap (λ (d : List ℕ). start_refusal m None (drawn_id d)) drawn ∙ begun.begins;
          count = min front.0 (length first);
          front = front.1
              ∙ ap (λ (l : List ℕ). Some l)
              (begins_front front.0 first (framed_body asked.frame (under_of (sealing_of asked random m)) text) (message_of m asked.frame (drawn_id random) text) (message_is (sealing_of asked random m) text)
              ∙ ap (λ (d : List ℕ). take (min front.0 (length first)) (message_of m asked.frame (drawn_id d) text)) (sym drawn));
        })
      ];
    }

-- by what became of the file
seal_begins : (manager : Saying) (job : Job) (asked : SealAsked) (v u w : DeskValue) (lines : List JournalLine) (files left : Option Files) (entropy spent : EntropyState) (random : List ℕ)
    (m : EncMaterialsValue) (session : ℕ) (served : Option Served) (next : Progress) → job.work ≡ work_of asked → DrawsAtMost v u lines → session ≡ v.last + 1
    → v.live (v.last + 1) ≡ None → Draws entropy spent random → IsBegun manager asked random m served → BeginsFile session Seal served (Sealing (sealing_of asked random m)) u w files left job.to next
    → TakesTurn manager job stages.Waiting next v w files left entropy spent
seal_begins manager job asked v u w lines files left entropy spent random m session served stages.Waiting work draws is undrawn bytes begun file = absurd file.begins
seal_begins manager job asked v u w lines files left entropy spent random m session served (stages.Live live) work draws is undrawn bytes begun file =
    let s : SessionValue = Sealing (sealing_of asked random m) in
    let here : w.live live.session ≡ Some s = ap (λ (l : Live). w.live l.session) file.begins.0 ∙ file.begins.1 in
    let drew = draws_on v u w session lines draws is file.desk in
    takes_first manager job (stages.Live live) v w lines files left entropy spent random drew (rest_live v w lines live drew (ap (λ (l : Live). l.session) file.begins.0 ∙ is) undrawn) bytes file.begins.2.keeps
    (s, here, omega (arith, ap (λ (l : Live). l.at) file.begins.0))
    (λ before now then_held was found unmade.
    let holds = holds_now files left job.to (beginning (sealing_of asked random m)) now then_held file.begins.2 was found in
    let sealing = is_sealing manager asked (file_of (Some before) job.from) (file_of (Some then_held) job.to) random m served live begun (ap (λ (l : Live). l.at) file.begins.0)
    (ap (λ (l : Live). l.served) file.begins.0) holds in
    subst (λ (o : Option SessionValue). JobIsLive manager job.work (file_of (Some before) job.from) (file_of (Some then_held) job.to) random live o) (sym here)
    (subst (λ (work : Work). JobIsLive manager work (file_of (Some before) job.from) (file_of (Some then_held) job.to) random live (Some s)) (sym work) sealing))
seal_begins manager job asked v u w lines files left entropy spent random m session served (stages.Ended line) work draws is undrawn bytes begun file =
    let drew = draws_on v u w session lines draws is file.desk in
    takes_first manager job (stages.Ended line) v w lines files left entropy spent random drew (rest_none v w lines drew undrawn (ap w.live (sym is) ∙ file.begins.1)) bytes
    (left_others files left job.to (beginning (sealing_of asked random m)) file.begins.2) tt
    (λ before now then_held was found unmade.
    let made = left_now files left job.to (beginning (sealing_of asked random m)) before now then_held file.begins.2 was found unmade in
    let fails = fails_so manager asked (seen_of job before then_held random line) random m served begun refl (ap (λ (l : JobLine). l.served) file.begins.0) made in
    sealed_line manager job asked _ line work (ap (λ (l : JobLine). l.kind) file.begins.0)
    (subst (λ (e : JobEnd). SealsSo manager asked (seen_of job before then_held random line) e) (sym (ap (λ (l : JobLine). l.end) file.begins.0)) fails))

-- the same of the file that the desk and the shelf were given by its name
pub seal_begins_at : (manager : Saying) (job : Job) (asked : SealAsked) (v u w : DeskValue) (lines : List JournalLine) (files left : Option Files) (entropy spent : EntropyState) (random : List ℕ)
    (m : EncMaterialsValue) (session : ℕ) (served : Option Served) (to : List ℕ) (next : Progress) → job.work ≡ work_of asked → job.to ≡ to → DrawsAtMost v u lines → session ≡ v.last + 1
    → v.live (v.last + 1) ≡ None → Draws entropy spent random → IsBegun manager asked random m served → BeginsFile session Seal served (Sealing (sealing_of asked random m)) u w files left to next
    → TakesTurn manager job stages.Waiting next v w files left entropy spent
seal_begins_at manager job asked v u w lines files left entropy spent random m session served to next work at draws is undrawn bytes begun file =
    seal_begins manager job asked v u w lines files left entropy spent random m session served next work draws is undrawn bytes begun
    (subst (λ (name : List ℕ). BeginsFile session Seal served (Sealing (sealing_of asked random m)) u w files left name next) (sym at) file)
