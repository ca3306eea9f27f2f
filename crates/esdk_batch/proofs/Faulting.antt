-- A session's error, and the failure that was counted for it.
use Rattle.std.proofs.Common.{◌≡◌, ◌∙◌, ℕ, ◌≤◌, ◌+◌, Bool, true, false, List, [], refl, sym, ap, subst, arith}
use Rattle.std.specs.Prelude.{Option, Some, None, Result, Ok, Err, IfOk, alloc_error}
use Rattle.std.specs.declared.alloc.AllocError.{AllocError}
use Rattle.esdk_fields.specs.Counts.{Rose, RoseBy}
use Rattle.esdk_fields.specs.declared.refusals.Refusal.{Refusal}
use Rattle.esdk_fields.specs.declared.refusals.Outside.TheVariants as outsides
use Rattle.esdk_base.specs.Shelf.{is_missing}
use Rattle.esdk_base.specs.Streams.{ShelfState}
use Rattle.esdk_base.specs.declared.receiver.FeedError.{FeedError}
use Rattle.esdk_base.specs.declared.receiver.FeedError.TheVariants as failures
use Rattle.context_codec.specs.Context.{KeyValue}
use Rattle.header_codec.specs.Header.{HeaderValue}
use Rattle.header_codec.specs.declared.settings.Settings.{Settings}
use Rattle.keyring_trait.specs.declared.manager_errors.ManagerError.TheVariants as managers
use Rattle.keyring_trait.specs.Manager.{ManagerNow}
use Rattle.keyring_trait.specs.Materials.{EncMaterialsValue}
use Rattle.keyring_trait.specs.Requests.{DecRequestValue}
use Rattle.keyring_trait.specs.Saying.{Saying, said_last}
use Rattle.stream_seal.specs.Start.{start_refusal, drawn_id}
use Rattle.stream_open.specs.declared.errors.OpenError.{OpenError}
use Rattle.stream_open.specs.declared.errors.OpenError.TheVariants as opens
use Rattle.stream_open.specs.declared.session.Opener.{Opener}
use Rattle.stream_open.specs.Asking.{Failed, Found, Heard, IsHeard, Named, Nothing}
use Rattle.stream_open.specs.Receiving.{FedShort}
use Rattle.stream_open.specs.Session.{OpeningValue, asked_header}
use Rattle.desk_core.specs.Calls.{IsReply, OpensSeal}
use Rattle.desk_core.specs.Desk.{DeskValue}
use Rattle.desk_core.specs.Receiving.{FeedsInto, FeedsSession, FinishesSession}
use Rattle.desk_core.specs.SealRequest.{SealRequestValue}
use Rattle.desk_core.specs.Session.{Fails, Gives, NoReply, Opening, Refuses, Reply, Sealing, SessionValue, begun_turn, desk_finish_answer, open_error, open_opened, seal_opened}
use Rattle.desk_core.specs.Stands.{manager_of}
use Rattle.desk_core.specs.declared.errors.DeskError.{DeskError}
use Rattle.desk_core.specs.declared.errors.DeskError.TheVariants as errors
use Rattle.desk_core.specs.declared.live_sessions.Desk.{Desk}
use Rattle.batch_report.specs.declared.job_lines.JobEnd.{JobEnd}
use Rattle.batch_report.specs.declared.job_lines.JobEnd.TheVariants as ends
use Rattle.esdk_batch.specs.Ending.{JobEndsBy, EndsFor}
use Rattle.esdk_batch.specs.Failures.{PieceCounts, entropy_fails, fails_in, keyring_fails, shelf_fails}
use Rattle.esdk_batch.specs.FileEndLaws.{gained_there}
use Rattle.esdk_batch.specs.Files.{FileGains}
use Rattle.esdk_batch.proofs.Counting.{rose_none, rose_zero}
use Rattle.esdk_batch.proofs.Ends.{error_so, named_ok, session_put}
use Rattle.esdk_batch.proofs.Writing.{Put, Writes}

pub not_memory : (end : JobEnd) → (let r : Result JobEnd AllocError = Ok end in r ≡ Err alloc_error) → ⊥
not_memory end e = cc

-- ---- how a job ends whose session answers an error

pub entropy_sound : (error : DeskError) (end : JobEnd) → EndsFor error (Ok end) → entropy_fails end ≡ 0
entropy_sound (errors.Refusal refusal) end is = ap entropy_fails (named_ok (ends.Refusal refusal) end is)
entropy_sound (errors.Fault fault) end is = ap entropy_fails (named_ok (ends.Fault fault) end is)
entropy_sound errors.KeyringFault end is = ap entropy_fails (named_ok (ends.Outside outsides.KeyringFault) end is)
entropy_sound errors.Memory end is = absurd (not_memory end is)
entropy_sound errors.NotLive end is = absurd is

pub shelf_sound : (error : DeskError) (end : JobEnd) → EndsFor error (Ok end) → shelf_fails end ≡ 0
shelf_sound (errors.Refusal refusal) end is = ap shelf_fails (named_ok (ends.Refusal refusal) end is)
shelf_sound (errors.Fault fault) end is = ap shelf_fails (named_ok (ends.Fault fault) end is)
shelf_sound errors.KeyringFault end is = ap shelf_fails (named_ok (ends.Outside outsides.KeyringFault) end is)
shelf_sound errors.Memory end is = absurd (not_memory end is)
shelf_sound errors.NotLive end is = absurd is

-- only where the session answers that the manager failed has it failed
pub keyring_counted : (error : DeskError) (end : JobEnd) (before now : ℕ) → EndsFor error (Ok end) → before ≤ now → (error ≡ errors.KeyringFault → Rose before now) → RoseBy (keyring_fails end) before now
keyring_counted (errors.Refusal refusal) end before now is later rose = rose_zero (keyring_fails end) before now (ap keyring_fails (named_ok (ends.Refusal refusal) end is)) later
keyring_counted (errors.Fault fault) end before now is later rose = rose_zero (keyring_fails end) before now (ap keyring_fails (named_ok (ends.Fault fault) end is)) later
keyring_counted errors.KeyringFault end before now is later rose =
    subst (λ (e : JobEnd). RoseBy (keyring_fails e) before now) (sym (named_ok (ends.Outside outsides.KeyringFault) end is)) (rose refl)
keyring_counted errors.Memory end before now is later rose = absurd (not_memory end is)
keyring_counted errors.NotLive end before now is later rose = absurd is

-- ---- a piece

failed_asked : (asking : Saying) (moment : ℕ) (given : List KeyValue) (asked : Option HeaderValue) (short : Type 0) (heard : Heard) → heard ≡ Failed → IsHeard asking moment given asked short heard
    → (request : DecRequestValue) × asking.finds_none request managers.KeyringFault
failed_asked asking moment given asked short Nothing is hears = absurd cc
failed_asked asking moment given asked short (Found m) is hears = absurd cc
failed_asked asking moment given asked short (Named fault) is hears = absurd cc
failed_asked asking moment given asked short Failed is (h, same, none) = (_, none)

-- an opener answers that the manager failed only where that says so
short_rose : {M R : Type 0} (state : M → ManagerNow) (takes : R → R → List ℕ → Type 0) (now : ℕ) (v : OpeningValue) (piece : List ℕ) (own : OpenError) (old new : M) (before after : R) (opener : Opener)
    → FedShort state takes now v piece own old new before after opener → errors.KeyringFault ≡ open_error own → Rose (state old).meaning.faults (state new).meaning.faults
short_rose state takes now v piece (opens.Fault fault) old new before after opener short is = absurd cc
short_rose state takes now v piece opens.KeyringFault old new before after opener short is =
    let (request, none) = failed_asked (said_last (state old) (state new)) now v.given (asked_header v piece) (opens.KeyringFault ≡ opens.Memory) short.heard short.why.0 short.hears in none.0
short_rose state takes now v piece opens.Stopped old new before after opener short is = absurd short.why
short_rose state takes now v piece opens.Memory old new before after opener short is = absurd cc

fed_rose : {M R E : Type 0} (state : M → ManagerNow) (takes : R → R → List ℕ → Type 0) (fails : R → R → List ℕ → E → Type 0) (now : ℕ) (s : SessionValue) (piece : List ℕ) (old new : M) (before after : R) (heard : Heard)
    (left : Option SessionValue) → FeedsSession {T = Unit {0}} state takes fails now (Some s) piece old new before after heard left (Err (failures.Machine errors.KeyringFault))
    → Rose (state old).meaning.faults (state new).meaning.faults
fed_rose state takes fails now (Sealing s) piece old new before after heard left fed = absurd fed.2
fed_rose state takes fails now (Opening s) piece old new before after heard left (opener, own, short, same, none, named) = short_rose state takes now s piece own old new before after opener short named

pub feed_rose : {M R E : Type 0} (state : M → ManagerNow) (takes : R → R → List ℕ → Type 0) (fails : R → R → List ℕ → E → Type 0) (v : DeskValue) (session now : ℕ) (s : SessionValue) (piece : List ℕ) (old new : Desk M)
    (before after : R) (error : FeedError DeskError E) → v.live session ≡ Some s → FeedsInto {T = Unit {0}} state takes fails v session now piece old new before after (Err error)
    → error ≡ failures.Machine errors.KeyringFault → Rose (state (manager_of old)).meaning.faults (state (manager_of new)).meaning.faults
feed_rose state takes fails v session now s piece old new before after error live f is =
    fed_rose state takes fails now s piece (manager_of old) (manager_of new) before after f.heard f.left
    (subst (λ (e : FeedError DeskError _). FeedsSession {T = Unit {0}} state takes fails now (Some s) piece (manager_of old) (manager_of new) before after f.heard f.left (Err e)) is
    (subst (λ (o : Option SessionValue). FeedsSession {T = Unit {0}} state takes fails now o piece (manager_of old) (manager_of new) before after f.heard f.left (Err error)) live f.feeds))

-- ---- what was counted

-- of a call that did all
pub done_counted : (end : Option JobEnd) (to bytes : List ℕ) (old new : ShelfState) (asked failed : ℕ) → fails_in entropy_fails end ≡ 0 → fails_in keyring_fails end ≡ 0 → fails_in shelf_fails end ≡ 0
    → FileGains old.files new.files to bytes → old.faults ≤ new.faults → is_missing old.files to ≡ false → asked ≤ failed → PieceCounts to end old new asked failed
done_counted end to bytes old new asked failed drew asked_none wrote gains later there went = record {
  there = gained_there old.files new.files to bytes gains there;
  entropy = drew;
  keyring = rose_zero (fails_in keyring_fails end) asked failed asked_none went;
  shelf = rose_zero (fails_in shelf_fails end) old.faults new.faults wrote later;
}

pub session_counted : {R E : Type 0} (takes : R → R → List ℕ → Type 0) (fails : R → R → List ℕ → E → Type 0) (before after : R) (to : List ℕ) (lent still : ℕ) (missing : Bool) (old new : ShelfState)
    (writes : Writes takes fails before after to lent still missing old new) (v : DeskValue) (session : ℕ) (s : SessionValue) (keyring : ℕ) → v.live session ≡ Some s
    → FinishesSession {T = Unit {0}} takes fails (v.live session) before after (Ok tt) → is_missing old.files to ≡ false → PieceCounts to (Some ends.Done) old new keyring keyring
session_counted takes fails before after to lent still missing old new writes v session s keyring live finishes there =
    let put = session_put takes fails before after to lent still missing old new writes v session s (Ok tt) live finishes in
    done_counted (Some ends.Done) to put.0 old new keyring keyring refl refl refl put.1 put.2 there (omega arith)

-- of an error with which the job ended
pub error_counted : {E : Type 0} (error : FeedError DeskError E) (end : JobEnd) (to : List ℕ) (lent still : ℕ) (old new : ShelfState) (asked failed : ℕ) → JobEndsBy error (Ok end) → Put {T = Unit {0}} lent still (is_missing old.files to) old new to (Err error)
    → is_missing old.files to ≡ false → asked ≤ failed → (error ≡ failures.Machine errors.KeyringFault → Rose asked failed) → PieceCounts to (Some end) old new asked failed
error_counted (failures.Machine error) end to lent still old new asked failed is put there later rose = record {
  there = gained_there old.files new.files to put.0 put.1 there;
  entropy = entropy_sound error end is;
  keyring = keyring_counted error end asked failed is later (λ same. rose (ap (λ (e : DeskError). failures.Machine e) same));
  shelf = rose_zero (shelf_fails end) old.faults new.faults (shelf_sound error end is) put.2;
}
error_counted (failures.Receiver error) end to lent still old new asked failed is put there later rose =
    subst (λ (e : JobEnd). PieceCounts to (Some e) old new asked failed) (sym (named_ok (ends.Outside outsides.ShelfFault) end is))
    (record {
      there = gained_there old.files new.files to put.0 put.1 there;
      entropy = refl;
      keyring = rose_none asked failed later;
      shelf = put.3 there;
    })

pub errors_counted : {E : Type 0} (error : FeedError DeskError E) (result : Result JobEnd AllocError) (to : List ℕ) (lent still : ℕ) (old new : ShelfState) (keyring : ℕ) → JobEndsBy error result
    → Put {T = Unit {0}} lent still (is_missing old.files to) old new to (Err error) → is_missing old.files to ≡ false → (error ≡ failures.Machine errors.KeyringFault → ⊥) → IfOk result (λ end. PieceCounts to (Some end) old new keyring keyring)
errors_counted error (Ok end) to lent still old new keyring is put there sound = error_counted error end to lent still old new keyring keyring is put there (omega arith) (λ same. absurd (sound same))
errors_counted error (Err failed) to lent still old new keyring is put there sound = tt

-- ---- the beginning

begun_soundly : (request : SealRequestValue) (random : List ℕ) (m : EncMaterialsValue) (id : ℕ) (refusal : Option Refusal) → Err errors.KeyringFault ≡ (begun_turn request random m id refusal).answer → ⊥
begun_soundly request random m id None is = absurd cc
begun_soundly request random m id (Some refusal) is = absurd cc

seal_failed : (manager : Saying) (request : SealRequestValue) (now : ℕ) (random : List ℕ)
    (reply : Reply) (short : Bool) (id : ℕ) → IsReply manager request now random short reply
    → Err errors.KeyringFault ≡ (seal_opened request random reply short id).answer
    → manager.gives_none request.wish managers.KeyringFault
seal_failed manager request now random NoReply short id replies is = absurd cc
seal_failed manager request now random (Gives m) true id replies is = absurd cc
seal_failed manager request now random (Gives m) false id replies is =
    absurd (begun_soundly request random m id (start_refusal m request.max_keys (drawn_id random)) is)
seal_failed manager request now random (Refuses refusal) short id replies is = absurd cc
seal_failed manager request now random Fails short id replies is = replies.0

pub seal_rose : {M : Type 0} (old new : ManagerNow) (now : ℕ) (v : DeskValue)
    (request : SealRequestValue) (random : List ℕ) (error : DeskError) (desk : Desk M)
    → OpensSeal (said_last old new) v request now random (Err error) desk
    → error ≡ errors.KeyringFault → Rose old.meaning.faults new.meaning.faults
seal_rose old new now v request random error desk opens is =
    (seal_failed (said_last old new) request now random opens.reply opens.short (v.last + 1)
    opens.replies (ap (λ (e : DeskError). Err e) (sym is) ∙ opens.answer)).0

pub open_soundly : (settings : Settings) (given : List KeyValue) (short : Bool) (id : ℕ) (error : DeskError) → Err error ≡ (open_opened settings given short id).answer → error ≡ errors.KeyringFault → ⊥
open_soundly settings given true id error is failed = absurd cc
open_soundly settings given false id error is failed = absurd cc

-- ---- the end

pub finish_soundly : (s : SessionValue) (error : DeskError) → desk_finish_answer s ≡ Err error → error ≡ errors.KeyringFault → ⊥
finish_soundly (Sealing s) error is failed =
    error_so (Sealing s) errors.KeyringFault [] None (Ok (ends.Outside outsides.KeyringFault)) (is ∙ ap (λ (e : DeskError). Err e) failed) refl
finish_soundly (Opening s) error is failed =
    error_so (Opening s) errors.KeyringFault [] None (Ok (ends.Outside outsides.KeyringFault)) (is ∙ ap (λ (e : DeskError). Err e) failed) refl

-- no failure is told of
pub record IsSound (end : JobEnd) : Type 0 where
  pub entropy : entropy_fails end ≡ 0
  pub keyring : keyring_fails end ≡ 0
  pub shelf : shelf_fails end ≡ 0

pub sound_end : (error : DeskError) (result : Result JobEnd AllocError) → EndsFor error result → (error ≡ errors.KeyringFault → ⊥) → IfOk result IsSound
sound_end (errors.Refusal refusal) result is sound = subst (λ (r : Result JobEnd AllocError). IfOk r IsSound) (sym is) (record { entropy = refl; keyring = refl; shelf = refl })
sound_end (errors.Fault fault) result is sound = subst (λ (r : Result JobEnd AllocError). IfOk r IsSound) (sym is) (record { entropy = refl; keyring = refl; shelf = refl })
sound_end errors.KeyringFault result is sound = absurd (sound refl)
sound_end errors.Memory result is sound = subst (λ (r : Result JobEnd AllocError). IfOk r IsSound) (sym is) tt
sound_end errors.NotLive result is sound = absurd is

-- the end of a session doesn't say that the manager failed
pub ended_soundly : {R E : Type 0} (takes : R → R → List ℕ → Type 0) (fails : R → R → List ℕ → E → Type 0) (before after : R) (o : Option SessionValue) (s : SessionValue) (error : FeedError DeskError E) → o ≡ Some s
    → FinishesSession {T = Unit {0}} takes fails o before after (Err error) → error ≡ failures.Machine errors.KeyringFault → ⊥
ended_soundly takes fails before after o s error live ends_so is =
    by s (subst (λ (e : FeedError DeskError _). FinishesSession {T = Unit {0}} takes fails (Some s) before after (Err e)) is
    (subst (λ (p : Option SessionValue). FinishesSession {T = Unit {0}} takes fails p before after (Err error)) live ends_so))
  where
    by : (s : SessionValue) → FinishesSession {T = Unit {0}} takes fails (Some s) before after (Err (failures.Machine errors.KeyringFault)) → ⊥
    by (Sealing v) ends_so = ends_so
    by (Opening v) ends_so = finish_soundly (Opening v) errors.KeyringFault ends_so.0 refl
