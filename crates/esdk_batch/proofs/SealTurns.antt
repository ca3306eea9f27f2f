-- The first turn of an encrypt job.
use Rattle.std.proofs.Common.{◌≡◌, ◌+◌, ℕ, Bool, true, false, List, length, refl, sym, ap, subst, ◌∙◌, arith, length-take}
use Rattle.std.specs.Prelude.{⊤, Option, Some, None, Result, Ok, Err, alloc_error, nat_eq, option_map, slice_get}
use Rattle.std.specs.Map.{update}
use Rattle.std.proofs.lemmas.Map.{update_here}
use Rattle.esdk_fields.specs.declared.refusals.Outside.TheVariants as outsides
use Rattle.esdk_fields.specs.declared.refusals.Refusal.{Refusal}
use Rattle.esdk_fields.specs.declared.refusals.Refusal.TheVariants as refusals
use Rattle.context_codec.specs.Context.{KeyValue}
use Rattle.keyring_trait.specs.declared.journal.JournalLine.{JournalLine}
use Rattle.keyring_trait.specs.declared.journal.Kind.TheVariants.{Seal}
use Rattle.keyring_trait.specs.declared.manager_errors.ManagerError.{ManagerError}
use Rattle.keyring_trait.specs.declared.manager_errors.ManagerError.TheVariants as managers
use Rattle.keyring_trait.specs.declared.served.Served.{Served}
use Rattle.keyring_trait.specs.Manager.{ManagerMeaning, ManagerNow, RefusalStands}
use Rattle.keyring_trait.specs.Materials.{EncMaterialsValue}
use Rattle.keyring_trait.specs.Saying.{Admits, Saying, said_between, said_last}
use Rattle.stream_seal.specs.Session as seal
use Rattle.stream_seal.specs.Start.{start_refusal, drawn_id, drawn_rest}
use Rattle.esdk_encrypt.specs.Encrypt.{drawn_count}
use Rattle.esdk_encrypt.proofs.Fitting.{few_begin}
use Rattle.desk_core.specs.declared.errors.DeskError.{DeskError}
use Rattle.desk_core.specs.declared.errors.DeskError.TheVariants as errors
use Rattle.desk_core.specs.SealRequest.{SealRequestValue}
use Rattle.desk_core.specs.Session.{Fails, Gives, NoReply, Refuses, Reply, Sealing, SessionValue, begun_turn, seal_opened}
use Rattle.desk_core.specs.Desk.{DeskValue, after_turn, drawn, lines_of, served_by}
use Rattle.desk_core.specs.Stands.{Stands, journal_of}
use Rattle.desk_core.specs.Calls.{IsReply, MaterialsAreWritable, OpensSeal}
use Rattle.desk_core.specs.declared.live_sessions.Desk.{Desk}
use Rattle.batch_report.specs.declared.job_lines.JobEnd.{JobEnd}
use Rattle.batch_report.specs.declared.job_lines.JobEnd.TheVariants as ends
use Rattle.esdk_batch.specs.Ending.{EndsFor}
use Rattle.esdk_batch.specs.Opening.{job_request}
use Rattle.esdk_batch.specs.SealStory.{JobIsGiven, IsGivenNone, SealAsked, SealsSo, Seen, wish_of}
use Rattle.esdk_batch.proofs.FirstTurns.{served_behind}

-- ---- what the manager said

-- the refusals that a manager has
abbrev IsOfManager : Refusal → Type 0
IsOfManager (refusals.ReservedPrefix key) = ⊤
IsOfManager (refusals.RequiredAbsent key) = ⊤
IsOfManager refusals.NoGenerator = ⊤
IsOfManager refusals.GeneratorHasKey = ⊤
IsOfManager refusal = ⊥

-- it was said to the job's request, at some moment, with these bytes; of what was given a header can
-- be made
abbrev pub Says : Saying → SealAsked → List ℕ → Reply → Type 0
Says manager asked random NoReply = ⊤
Says manager asked random (Gives m) =
    ((moment : ℕ) × manager.gives (wish_of asked) moment (drawn_rest random) m) × MaterialsAreWritable m
Says manager asked random (Refuses refusal) = IsOfManager refusal × manager.gives_none (wish_of asked) (managers.Refusal refusal)
Says manager asked random Fails = manager.gives_none (wish_of asked) managers.KeyringFault

of_manager : (meaning : ManagerMeaning) (context : List KeyValue) (refusal : Refusal) → RefusalStands meaning context refusal → IsOfManager refusal
of_manager meaning context (refusals.ReservedPrefix key) stands = tt
of_manager meaning context (refusals.RequiredAbsent key) stands = tt
of_manager meaning context refusals.NoGenerator stands = tt
of_manager meaning context refusals.GeneratorHasKey stands = tt
of_manager meaning context refusal stands = absurd stands

pub says : (manager : Saying) (old new : ManagerNow) (asked : SealAsked) (now : ℕ)
    (random : List ℕ) (short : Bool) (reply : Reply) → Admits manager (said_between old new)
    → IsReply (said_last old new) (job_request asked) now random short reply
    → Says manager asked random reply
says manager old new asked now random short NoReply admits replies = tt
says manager old new asked now random short (Gives m) admits replies =
    ((now, admits.gives (wish_of asked) now (drawn_rest random) m replies.0.0), replies.1)
says manager old new asked now random short (Refuses refusal) admits replies = (
  of_manager old.meaning asked.context refusal replies.0.0,
  admits.gives_none (wish_of asked) (managers.Refusal refusal) replies.0,
)
says manager old new asked now random short Fails admits replies =
    admits.gives_none (wish_of asked) managers.KeyringFault replies.0

-- ---- no session began

-- Bytes were drawn and the manager said this; the file is as before the batch.
pub record IsAnswered (manager : Saying) (asked : SealAsked) (seen : Seen) (random : List ℕ) (reply : Reply) : Type 0 where
  pub drawn : seen.drawn ≡ random
  pub count : length random ≡ drawn_count manager.wraps
  pub says : Says manager asked random reply
  pub served : seen.served ≡ served_by reply
  pub same : seen.to ≡ seen.before

pub is_given : (manager : Saying) (asked : SealAsked) (seen : Seen) (random : List ℕ)
    (m : EncMaterialsValue) (moment : ℕ) → seen.drawn ≡ random → length random ≡ drawn_count manager.wraps
    → manager.gives (wish_of asked) moment (drawn_rest random) m → seen.served ≡ Some m.served
    → JobIsGiven manager asked seen m
is_given manager asked seen random m moment drawn count gives served = record {
  count = ap (λ (d : List ℕ). length d) drawn ∙ count;
  moment = moment;
  given = subst (λ (d : List ℕ). manager.gives (wish_of asked) moment (drawn_rest d) m) (sym drawn)
      gives;
  served = served;
}

given_none : (manager : Saying) (asked : SealAsked) (seen : Seen) (refusal : Refusal) → IsOfManager refusal → IsGivenNone manager asked seen (managers.Refusal refusal)
    → SealsSo manager asked seen (ends.Refusal refusal)
given_none manager asked seen (refusals.ReservedPrefix key) of none = none
given_none manager asked seen (refusals.RequiredAbsent key) of none = none
given_none manager asked seen refusals.NoGenerator of none = none
given_none manager asked seen refusals.GeneratorHasKey of none = none
given_none manager asked seen refusal of none = absurd of

-- the error names how the job ends
named : (error other : DeskError) (end : JobEnd) → error ≡ other → EndsFor error (Ok end) → EndsFor other (Ok end)
named error other end same ends_for = subst (λ (e : DeskError). EndsFor e (Ok end)) same ends_for

no_memory : (error : DeskError) (end : JobEnd) → error ≡ errors.Memory → EndsFor error (Ok end) → ⊥
no_memory error end same ends_for = let no : Ok end ≡ Err alloc_error = named error errors.Memory end same ends_for in absurd cc

-- a message begins with what was given, since its header can be made
given_begins : (random : List ℕ) (wraps : ℕ) (m : EncMaterialsValue) → length random ≡ drawn_count wraps → MaterialsAreWritable m → start_refusal m None (drawn_id random) ≡ None
given_begins random wraps m count writable =
    few_begin m (drawn_id random) None (omega (arith, length-take 32 random, count)) writable.context writable.each writable.few tt

-- so that no error comes of them
none_began : (asked : SealAsked) (random : List ℕ) (m : EncMaterialsValue) (id : ℕ) (error : DeskError) (refusal : Option Refusal) → refusal ≡ None
    → Err error ≡ (begun_turn (job_request asked) random m id refusal).answer → ⊥
none_began asked random m id error None begins is = absurd cc
none_began asked random m id error (Some refusal) begins is = absurd cc

none_given : (manager : Saying) (asked : SealAsked) (seen : Seen) (random : List ℕ) (reply : Reply) (error : ManagerError) → IsAnswered manager asked seen random reply → served_by reply ≡ None
    → manager.gives_none (wish_of asked) error → IsGivenNone manager asked seen error
none_given manager asked seen random reply error answered none gives_none = record {
  count = ap (λ (d : List ℕ). length d) answered.drawn ∙ answered.count;
  cause = gives_none;
  unserved = answered.served ∙ none;
  same = answered.same;
}

-- whatever error the desk answered
pub seals_none : (manager : Saying) (asked : SealAsked) (seen : Seen) (random : List ℕ) (reply : Reply) (short : Bool) (id : ℕ) (error : DeskError) (end : JobEnd)
    → IsAnswered manager asked seen random reply → Err error ≡ (seal_opened (job_request asked) random reply short id).answer → EndsFor error (Ok end) → SealsSo manager asked seen end
seals_none manager asked seen random NoReply short id error end answered is ends_for = absurd (no_memory error end (cc) ends_for)
seals_none manager asked seen random (Gives m) true id error end answered is ends_for = absurd (no_memory error end (cc) ends_for)
seals_none manager asked seen random (Gives m) false id error end answered is ends_for =
    absurd (none_began asked random m id error (start_refusal m None (drawn_id random)) (given_begins random manager.wraps m answered.count answered.says.1) is)
seals_none manager asked seen random (Refuses refusal) short id error end answered is ends_for =
    let same : error ≡ errors.Refusal refusal = cc in
    let ended : Ok end ≡ Ok (ends.Refusal refusal) = named error (errors.Refusal refusal) end same ends_for in
    let last : end ≡ ends.Refusal refusal = cc in
    subst (λ (e : JobEnd). SealsSo manager asked seen e) (sym last)
    (given_none manager asked seen refusal answered.says.0 (none_given manager asked seen random (Refuses refusal) (managers.Refusal refusal) answered refl answered.says.1))
seals_none manager asked seen random Fails short id error end answered is ends_for =
    let same : error ≡ errors.KeyringFault = cc in
    let ended : Ok end ≡ Ok (ends.Outside outsides.KeyringFault) = named error errors.KeyringFault end same ends_for in
    let last : end ≡ ends.Outside outsides.KeyringFault = cc in
    subst (λ (e : JobEnd). SealsSo manager asked seen e) (sym last) (none_given manager asked seen random Fails managers.KeyringFault answered refl answered.says)

-- ---- a session began

-- The manager gave these materials, and a message of them begins.
pub record HasBegun (asked : SealAsked) (random : List ℕ) (reply : Reply) (short : Bool) (id session : ℕ) : Type 0 where
  pub materials : EncMaterialsValue
  pub gives : reply ≡ Gives materials
  pub begins : start_refusal materials None (drawn_id random) ≡ None
  pub same : session ≡ id
  pub left : (seal_opened (job_request asked) random reply short id).left ≡ Some (Sealing (seal.new_sealing_session materials asked.declared asked.frame (drawn_id random)))

begun_with : (asked : SealAsked) (random : List ℕ) (m : EncMaterialsValue) (id session : ℕ) (refusal : Option Refusal) → start_refusal m None (drawn_id random) ≡ refusal
    → Ok session ≡ (begun_turn (job_request asked) random m id refusal).answer → HasBegun asked random (Gives m) false id session
begun_with asked random m id session None starts is = record {
  materials = m;
  gives = refl;
  begins = starts;
  same = cc;
  left = ap (λ (r : Option Refusal). (begun_turn (job_request asked) random m id r).left) starts;
}
begun_with asked random m id session (Some refusal) starts is = absurd cc

pub has_begun : (asked : SealAsked) (random : List ℕ) (reply : Reply) (short : Bool) (id session : ℕ) → Ok session ≡ (seal_opened (job_request asked) random reply short id).answer
    → HasBegun asked random reply short id session
has_begun asked random NoReply short id session is = absurd cc
has_begun asked random (Gives m) true id session is = absurd cc
has_begun asked random (Gives m) false id session is = begun_with asked random m id session (start_refusal m None (drawn_id random)) refl is
has_begun asked random (Refuses refusal) short id session is = absurd cc
has_begun asked random Fails short id session is = absurd cc

-- it is live
pub sealing_live : (v : DeskValue) (asked : SealAsked) (random : List ℕ) (reply : Reply) (short : Bool) (session : ℕ) (b : HasBegun asked random reply short (v.last + 1) session)
    → update nat_eq v.live (v.last + 1) (seal_opened (job_request asked) random reply short (v.last + 1)).left session
    ≡ Some (Sealing (seal.new_sealing_session b.materials asked.declared asked.frame (drawn_id random)))
sealing_live v asked random reply short session b =
    let left : Option SessionValue = (seal_opened (job_request asked) random reply short (v.last + 1)).left in
    ap (update nat_eq v.live (v.last + 1) left) b.same ∙ update_here v.live (v.last + 1) left ∙ b.left

-- ---- what the desk did

-- The next number was drawn, and the manager said this to the request; the journal has its line, and so the materials were served.
pub record Opened {M : Type 0} (manager : Saying) (asked : SealAsked) (now : ℕ) (random : List ℕ) (v : DeskValue) (result : Result ℕ DeskError) (served : Option Served) (desk : Desk M) : Type 0 where
  pub reply : Reply
  pub short : Bool
  pub replies : IsReply manager (job_request asked) now random short reply
  pub answer : result ≡ (seal_opened (job_request asked) random reply short (v.last + 1)).answer
  pub serves : served ≡ served_by reply
  pub stands : Stands desk
      (after_turn (drawn v) (v.last + 1) (lines_of (v.last + 1) Seal now asked.declared (served_by reply)) (seal_opened (job_request asked) random reply short (v.last + 1)))

pub opened_so : {M : Type 0} (manager : Saying) (new : Desk M) (asked : SealAsked)
    (request : SealRequestValue) (now : ℕ) (random : List ℕ) (v : DeskValue)
    (result : Result ℕ DeskError) (served : Option Served) (lines : List JournalLine)
    → request ≡ job_request asked → OpensSeal manager v request now random result new
    → lines ≡ v.journal
    → served ≡ option_map (λ (line : JournalLine). line.served)
    (slice_get (journal_of new) (length lines))
    → Opened manager asked now random v result served new
opened_so manager new asked request now random v result served lines same opens were is =
    let o : OpensSeal manager v (job_request asked) now random result new =
    subst (λ (r : SealRequestValue). OpensSeal manager v r now random result new) same opens in
    record {
      reply = o.reply;
      short = o.short;
      replies = o.replies;
      answer = o.answer;
      serves = is
          ∙ served_behind (v.last + 1) Seal now asked.declared (served_by o.reply) v.journal
          (journal_of new) (length lines) (ap (λ (l : List JournalLine). length l) were)
          o.stands.journal;
      stands = o.stands;
    }
