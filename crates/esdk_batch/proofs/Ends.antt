-- The end of a session, and what its job's file holds then.
use Rattle.std.proofs.Common.{◌≡◌, ◌≤◌, ℕ, Bool, true, false, List, [], take, refl, sym, ap, subst, arith}
use Rattle.std.specs.Prelude.{Option, Some, None, Result, Ok, Err, IfOk, if◌then◌else◌}
use Rattle.std.specs.declared.alloc.AllocError.{AllocError}
use Rattle.std.proofs.lemmas.Map.{update_apart, update_here}
use Rattle.esdk_fields.specs.declared.faults.Fault.{Fault}
use Rattle.esdk_fields.specs.declared.faults.Fault.TheVariants.{Truncated}
use Rattle.esdk_fields.specs.declared.refusals.Outside.TheVariants as outsides
use Rattle.esdk_base.specs.Shelf.{Files}
use Rattle.esdk_base.specs.Streams.{ShelfState}
use Rattle.esdk_base.specs.declared.receiver.FeedError.{FeedError}
use Rattle.esdk_base.specs.declared.receiver.FeedError.TheVariants as failures
use Rattle.body_format.specs.declared.verdicts.Verdict.{Verdict}
use Rattle.body_format.specs.declared.verdicts.Verdict.TheVariants.{Going, Whole, Faulty}
use Rattle.stream_seal.specs.Session as seal
use Rattle.stream_seal.specs.declared.errors.SealError.TheVariants as seals
use Rattle.stream_open.specs.Session as open_session
use Rattle.stream_open.specs.Session.{end_of_verdict, judged_now}
use Rattle.stream_open.specs.declared.errors.OpenError.TheVariants as opens
use Rattle.esdk_decrypt.specs.Decrypt.{fault_at_end}
use Rattle.desk_core.specs.declared.errors.DeskError.{DeskError}
use Rattle.desk_core.specs.declared.errors.DeskError.TheVariants as errors
use Rattle.desk_core.specs.declared.live_sessions.Desk.{Desk}
use Rattle.desk_core.specs.Desk.{DeskValue}
use Rattle.desk_core.specs.Stands.{Stands}
use Rattle.desk_core.specs.Receiving.{FinishesSession, handed_over}
use Rattle.desk_core.specs.Session.{SessionValue, Sealing, Opening, desk_finish_answer, open_answer, seal_answer}
use Rattle.batch_report.specs.declared.job_lines.JobEnd.{JobEnd}
use Rattle.batch_report.specs.declared.job_lines.JobEnd.TheVariants as ends
use Rattle.esdk_batch.specs.Ending.{JobEndsBy, EndsFor, EndsSession, FinishesSo}
use Rattle.esdk_batch.specs.FileEndLaws.{calls_none, gained_nothing}
use Rattle.esdk_batch.specs.Files.{FileGains, KeepsOthers}
use Rattle.esdk_batch.specs.ShelfCalls.{HasCalls, IsWrite}
use Rattle.esdk_batch.proofs.Writing.{Put, Writes, put_calls, put_keeps, put_same}

-- ---- what is left of the desk

pub ends_as : (v : DeskValue) (session : ℕ) (s : SessionValue) (to : List ℕ) (files after : Option Files) (end : JobEnd) → FinishesSo s to files after end
    → EndsSession session s v (handed_over v session [] None) to files after end
ends_as v session s to files after end finishes = record {
  desk = record { others = λ other apart. update_apart v.live session None other apart; last = refl; journal = refl };
  left = update_here v.live session None;
  finishes = finishes;
}

-- ---- how it ends

whole_by : (stopped : Bool) (verdict : Verdict) (x : Unit {0}) → open_answer (if stopped then Err opens.Stopped else end_of_verdict verdict) ≡ Ok x → verdict ≡ Whole
whole_by true verdict x e = absurd cc
whole_by false Going x e = absurd cc
whole_by false Whole x e = refl
whole_by false (Faulty fault) x e = absurd cc

fault_by : (stopped : Bool) (verdict : Verdict) (fault : Fault) → open_answer (if stopped then Err opens.Stopped else end_of_verdict verdict) ≡ Err (errors.Fault fault) → fault_at_end verdict ≡ Some fault
fault_by true verdict fault e = absurd cc
fault_by false Going fault e = let same : Truncated ≡ fault = cc in ap (λ f. Some f) same
fault_by false Whole fault e = absurd cc
fault_by false (Faulty other) fault e = let same : other ≡ fault = cc in ap (λ f. Some f) same

seal_by : (stopped : Bool) (error : DeskError) → seal_answer {A = Unit {0}} (if stopped then Err seals.Stopped else Ok tt) ≡ Err error → error ≡ errors.NotLive
seal_by true error e = cc
seal_by false error e = absurd cc

-- the session answered an error
pub error_so : (s : SessionValue) (error : DeskError) (to : List ℕ) (files : Option Files) (result : Result JobEnd AllocError) → desk_finish_answer s ≡ Err error → EndsFor error result
    → IfOk result (λ end. FinishesSo s to files files end)
unfolding seal.sealing_finish_answer open_session.opening_finish_answer
error_so (Sealing s) error to files result is ends_for = absurd (subst (λ error. EndsFor error result) (seal_by s.stopped error is) ends_for)
error_so (Opening s) (errors.Fault fault) to files result is ends_for =
    subst (λ r. IfOk r (λ end. FinishesSo (Opening s) to files files end)) (sym ends_for) (fault_by s.stopped (judged_now s).verdict fault is, refl)
error_so (Opening s) (errors.Refusal refusal) to files result is ends_for = absurd (no_refusal s.stopped (judged_now s).verdict is)
  where
    no_refusal : (stopped : Bool) (verdict : Verdict) → open_answer (if stopped then Err opens.Stopped else end_of_verdict verdict) ≡ Err (errors.Refusal refusal) → ⊥
    no_refusal true verdict e = absurd cc
    no_refusal false Going e = absurd cc
    no_refusal false Whole e = absurd cc
    no_refusal false (Faulty fault) e = absurd cc
error_so (Opening s) errors.KeyringFault to files result is ends_for = absurd (no_failure s.stopped (judged_now s).verdict is)
  where
    no_failure : (stopped : Bool) (verdict : Verdict) → open_answer (if stopped then Err opens.Stopped else end_of_verdict verdict) ≡ Err errors.KeyringFault → ⊥
    no_failure true verdict e = absurd cc
    no_failure false Going e = absurd cc
    no_failure false Whole e = absurd cc
    no_failure false (Faulty fault) e = absurd cc
error_so (Opening s) errors.Memory to files result is ends_for = subst (λ r. IfOk r (λ end. FinishesSo (Opening s) to files files end)) (sym ends_for) tt
error_so (Opening s) errors.NotLive to files result is ends_for = absurd ends_for

pub named_ok : (named end : JobEnd) → (let r : Result JobEnd AllocError = Ok end in r ≡ Ok named) → end ≡ named
named_ok named end e = cc

-- ---- what was put behind the file

module _ {R E : Type 0} (takes : R → R → List ℕ → Type 0) (fails : R → R → List ℕ → E → Type 0) (before after : R) (to : List ℕ) (lent still : ℕ) (missing : Bool) (old new : ShelfState) (writes : Writes takes fails before after to lent still missing old new) where
  nothing_put : after ≡ before → (bytes : List ℕ) × FileGains old.files new.files to bytes × (old.faults ≤ new.faults) × (still ≡ lent) × HasCalls (IsWrite to) old new
  nothing_put same =
      let kept = writes.same same in (
        [],
        subst (λ (shelf : ShelfState). FileGains old.files shelf.files to []) (sym kept.0) (gained_nothing old.files to),
        omega (arith, ap (λ (shelf : ShelfState). shelf.faults) kept.0),
        kept.1,
        subst (HasCalls (IsWrite to) old) (sym kept.0) (calls_none (IsWrite to) old),
      )

  pub put_ended : (s : SessionValue) (result : Result (Unit {0}) (FeedError DeskError E)) → FinishesSession takes fails (Some s) before after result → Put lent still missing old new to result
  put_ended (Sealing s) (Ok done) ends_so = let took = writes.took (seal.sealing_finished s).out ends_so in ((seal.sealing_finished s).out, took.0, took.1, took.2, took.3)
  put_ended (Sealing s) (Err (failures.Receiver error)) ends_so =
      let front = writes.failed (seal.sealing_finished s).out error ends_so.1 in (take front.0 (seal.sealing_finished s).out, front.1, front.2, front.3, front.4, front.5)
  put_ended (Sealing s) (Err (failures.Machine error)) ends_so = absurd ends_so
  put_ended (Opening s) (Ok done) ends_so = nothing_put ends_so.1
  put_ended (Opening s) (Err (failures.Receiver error)) ends_so = absurd ends_so
  put_ended (Opening s) (Err (failures.Machine error)) ends_so = nothing_put ends_so.1

  pub ends_whole : (s : SessionValue) → FinishesSession {T = Unit {0}} takes fails (Some s) before after (Ok tt) → FinishesSo s to old.files new.files ends.Done
  unfolding open_session.opening_finish_answer
  ends_whole (Sealing s) ends_so = (writes.took (seal.sealing_finished s).out ends_so).0
  ends_whole (Opening s) ends_so = (
    whole_by s.stopped (judged_now s).verdict tt (ap open_answer ends_so.0),
    subst (λ (shelf : ShelfState). FileGains old.files shelf.files to []) (sym (writes.same ends_so.1).0) (gained_nothing old.files to),
  )

  pub ends_broken : (s : SessionValue) (error : FeedError DeskError E) (end : JobEnd) → JobEndsBy error (Ok end) → FinishesSession {T = Unit {0}} takes fails (Some s) before after (Err error)
      → FinishesSo s to old.files new.files end
  ends_broken (Sealing s) (failures.Receiver error) end is ends_so =
      let front = writes.failed (seal.sealing_finished s).out error ends_so.1 in
      subst (λ (e : JobEnd). FinishesSo (Sealing s) to old.files new.files e) (sym (named_ok (ends.Outside outsides.ShelfFault) end is)) (front.0, front.1)
  ends_broken (Sealing s) (failures.Machine error) end is ends_so = absurd ends_so
  ends_broken (Opening s) (failures.Receiver error) end is ends_so = absurd ends_so
  ends_broken (Opening s) (failures.Machine error) end is ends_so =
      subst (λ (shelf : ShelfState). FinishesSo (Opening s) to old.files shelf.files end) (sym (writes.same ends_so.1).0) (error_so (Opening s) error to old.files (Ok end) ends_so.0 is)

  -- ---- the desk

  ended_as : (v : DeskValue) (session : ℕ) (s : SessionValue) (result : Result (Unit {0}) (FeedError DeskError E)) → v.live session ≡ Some s → FinishesSession takes fails (v.live session) before after result
      → FinishesSession takes fails (Some s) before after result
  ended_as v session s result live ends_so = subst (λ (o : Option SessionValue). FinishesSession takes fails o before after result) live ends_so

  pub session_put : (v : DeskValue) (session : ℕ) (s : SessionValue) (result : Result (Unit {0}) (FeedError DeskError E)) → v.live session ≡ Some s → FinishesSession takes fails (v.live session) before after result
      → Put lent still missing old new to result
  session_put v session s result live ends_so = put_ended s result (ended_as v session s result live ends_so)

  pub session_same : (v : DeskValue) (session : ℕ) (s : SessionValue) (result : Result (Unit {0}) (FeedError DeskError E)) → v.live session ≡ Some s → FinishesSession takes fails (v.live session) before after result
      → still ≡ lent
  session_same v session s result live ends_so = put_same lent still missing old new to result (session_put v session s result live ends_so)

  pub session_calls : (v : DeskValue) (session : ℕ) (s : SessionValue) (result : Result (Unit {0}) (FeedError DeskError E)) → v.live session ≡ Some s → FinishesSession takes fails (v.live session) before after result
      → HasCalls (IsWrite to) old new
  session_calls v session s result live ends_so = put_calls lent still missing old new to result (session_put v session s result live ends_so)

  pub session_keeps : (v : DeskValue) (session : ℕ) (s : SessionValue) (result : Result (Unit {0}) (FeedError DeskError E)) → v.live session ≡ Some s → FinishesSession takes fails (v.live session) before after result
      → KeepsOthers old.files new.files to
  session_keeps v session s result live ends_so = put_keeps lent still missing old new to result (session_put v session s result live ends_so)

  pub session_whole : {M : Type 0} (next : Desk M) (v : DeskValue) (session : ℕ) (s : SessionValue) → v.live session ≡ Some s → FinishesSession {T = Unit {0}} takes fails (v.live session) before after (Ok tt)
      → Stands next (handed_over v session [] None) → (w : DeskValue) × Stands next w × EndsSession session s v w to old.files new.files ends.Done
  session_whole next v session s live ends_so stands =
      (handed_over v session [] None, stands, ends_as v session s to old.files new.files ends.Done (ends_whole s (ended_as v session s (Ok tt) live ends_so)))

  pub session_broken : {M : Type 0} (next : Desk M) (v : DeskValue) (session : ℕ) (s : SessionValue) (error : FeedError DeskError E) (result : Result JobEnd AllocError) → v.live session ≡ Some s → JobEndsBy error result
      → FinishesSession {T = Unit {0}} takes fails (v.live session) before after (Err error) → Stands next (handed_over v session [] None)
      → IfOk result (λ end. (w : DeskValue) × Stands next w × EndsSession session s v w to old.files new.files end)
  session_broken next v session s error (Ok end) live is ends_so stands =
      (handed_over v session [] None, stands, ends_as v session s to old.files new.files end (ends_broken s error end is (ended_as v session s (Err error) live ends_so)))
  session_broken next v session s error (Err failed) live is ends_so stands = tt
