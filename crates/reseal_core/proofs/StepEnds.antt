-- A step of an input that is resealed: the bytes that it used were fed too, or the run ends.
use Rattle.std.proofs.Common.{◌≡◌, ◌⊎◌, ℕ, ◌≤◌, List, ◌++◌, length, take, None, Result, Ok, Err, inl, inr, sym, subst}
use Rattle.esdk_base.specs.Streams.{SinkState, SourceState}
use Rattle.context_codec.specs.Context.{KeyValue}
use Rattle.header_codec.specs.declared.settings.Settings.{Settings}
use Rattle.keyring_trait.specs.declared.manager_errors.ManagerError.{ManagerError}
use Rattle.keyring_trait.specs.declared.manager_errors.ManagerError.TheVariants as managers
use Rattle.keyring_trait.specs.Manager.{ManagerNow}
use Rattle.keyring_trait.specs.Saying.{said_last}
use Rattle.stream_open.specs.declared.errors.OpenError.{OpenError}
use Rattle.stream_open.specs.declared.errors.OpenError.TheVariants as opens
use Rattle.stream_open.specs.Asking.{served_in}
use Rattle.stream_open.specs.Session.{OpeningValue, asked_header, opening_stepped}
use Rattle.stream_open.specs.Session.{new_opening_session as new_opening}
use Rattle.stream_open.specs.Stands.{OpenerSteps as StepsOpener}
use Rattle.stream_open.proofs.FedPieces.{joins}
use Rattle.whole_input.specs.Pieces.{most_piece}
use Rattle.whole_input.specs.Taken.{Came}
use Rattle.esdk_decrypt.specs.Underway.{BearsOnce}
use Rattle.reseal_core.specs.declared.errors.InputError.{InputError}
use Rattle.reseal_core.specs.declared.errors.ResealError.{ResealError}
use Rattle.reseal_core.specs.declared.errors.ResealError.TheVariants as reseals
use Rattle.reseal_core.specs.declared.resealer.Resealer.{Resealer}
use Rattle.reseal_core.specs.Errors.{given_as, open_error_as}
use Rattle.reseal_core.specs.NewMessage.{NewHeaderFails, IsNotBegun}
use Rattle.reseal_core.specs.Reseal.{ResealEndsSo, Resealing, resealing_from}
use Rattle.reseal_core.specs.Session.{ResealingValue, gone_on, new_resealing_session}
use Rattle.reseal_core.specs.Stands.{NewMessageBeginsNot, SealsAfter, ResealerSteps}
use Rattle.reseal_core.specs.Underway.{ResealErrorIsCalled, Reached}
use Rattle.reseal_core.proofs.OpenerEnds.{never_stopped, opener_ends}
use Rattle.reseal_core.proofs.Reaching.{begins_ends, passes_ends, reached_on, used_some, used_within}

abbrev failed : ResealError → Result ℕ ResealError
failed error = Err error

same_error : (error why : ResealError) → failed error ≡ failed why → error ≡ why
same_error error why e = cc

not_both : (n : ℕ) (error : ResealError) → Ok n ≡ Err error → ⊥
not_both n error e = cc

-- Some bytes were used, and fed.
pub record StepsFed {A B : Type 0} (opened : A → ManagerNow) (sealed : B → ManagerNow) (now : ℕ) (v : ResealingValue) (bytes rest : List ℕ) (n : ℕ) (old new : A) (before after : B) (output put : SinkState) (resealer : Resealer) : Type 0 where
  pub some : 1 ≤ n
  pub within : n ≤ length rest
  pub reached : Reached opened sealed now v (bytes ++ take n rest) old new before after output put resealer

module _ {A B : Type 0} (opened : A → ManagerNow) (sealed : B → ManagerNow) (now : ℕ) (settings : Settings) (given : List KeyValue) (size : ℕ) (random : List ℕ) (bytes : List ℕ) (old new : A) (before after : B)
    (output put : SinkState) (resealer : Resealer) (r : Reached opened sealed now (new_resealing_session settings given size random) bytes old new before after output put resealer)
    (rest : List ℕ) (last : A) (end : B) (now_put : SinkState) (next : Resealer) (unwritten : Type 0) (some : 1 ≤ length rest) (stays : asked_header r.fed.session rest ≡ None → last ≡ new) where
  abbrev v : ResealingValue
  v = gone_on (new_resealing_session settings given size random) r.fed.session r.materials

  abbrev asked : Resealing
  asked = resealing_from (opened old) (opened last) (sealed before) (sealed end) now settings given size

  -- ---- it went on

  fed_by : (n : ℕ) (answer : Result ℕ OpenError) (s : StepsOpener (opened new) (opened last) now r.fed.session rest answer next.opener)
      → SealsAfter (said_last (sealed after) (sealed end)) now v (opening_stepped r.fed.session rest s.heard answer) answer put now_put (end ≡ after) unwritten (Ok n) next
      → StepsFed opened sealed now (new_resealing_session settings given size random) bytes rest n old last before end output now_put next
  fed_by n (Err why) s not = absurd (not_both n (open_error_as why) not.named)
  fed_by n (Ok used) s (same, on) =
      rw same (record {
        some = used_some opened sealed now settings given size random bytes old new before after output put resealer r rest last end now_put used some next s stays;
        within = used_within opened sealed now settings given size random bytes old new before after output put resealer r rest last end now_put used some next s stays;
        reached = reached_on opened sealed now settings given size random bytes old new before after output put resealer r rest last end now_put used some next s stays on;
      })

  pub steps_fed : (n : ℕ) → ResealerSteps (opened new) (opened last) (said_last (sealed after) (sealed end)) now v rest put now_put (end ≡ after) unwritten (Ok n) next
      → StepsFed opened sealed now (new_resealing_session settings given size random) bytes rest n old last before end output now_put next
  steps_fed n s = fed_by n s.answer s.opens s.seals

  -- ---- it failed

  module _ (kept : unwritten → now_put ≡ put) (input taken : SourceState) (came : Came input taken (bytes ++ rest)) (faults : taken.faults ≡ input.faults)
      (few : length rest ≤ most_piece) where
    ends_by : (error : ResealError) (named : InputError) (answer : Result ℕ OpenError) (s : StepsOpener (opened new) (opened last) now r.fed.session rest answer next.opener)
        → SealsAfter (said_last (sealed after) (sealed end)) now v (opening_stepped r.fed.session rest s.heard answer) answer put now_put (end ≡ after) unwritten (Err error) next
        → ResealErrorIsCalled error named → ResealEndsSo asked random input taken output now_put named
    ends_by error named (Err why) s not called =
        subst (λ (x : SinkState). ResealEndsSo asked random input taken output x named) (sym (kept not.output))
        (opener_ends opened sealed now settings given size random bytes old new before after output put resealer r rest last end next.opener stays not.manager input taken came faults few why named s
        (subst (λ (e : ResealError). ResealErrorIsCalled e named) (same_error error (open_error_as why) not.named) called))
    ends_by error named (Ok used) s (stopped, inl b) called =
        begins_ends opened sealed now settings given size random bytes old new before after output put resealer r rest last end now_put used some next s stays input taken came faults few error named unwritten kept b called
    ends_by error named (Ok used) s (stopped, inr p) called =
        passes_ends opened sealed now settings given size random bytes old new before after output put resealer r rest last end now_put used some next s stays input taken came faults few error named p called

    pub step_ends : (error : ResealError) (named : InputError) → ResealerSteps (opened new) (opened last) (said_last (sealed after) (sealed end)) now v rest put now_put (end ≡ after) unwritten (Err error) next → ResealErrorIsCalled error named
        → ResealEndsSo asked random input taken output now_put named
    step_ends error named s called = ends_by error named s.answer s.opens s.seals called

  -- ---- it isn't stopped

  given_not : (why : ManagerError) → reseals.Stopped ≡ given_as why → ⊥
  given_not (managers.Fault fault) e = cc
  given_not (managers.Refusal refusal) e = cc
  given_not managers.KeyringFault e = cc
  given_not managers.Memory e = cc

  begun_not : (whole only : List KeyValue) → IsNotBegun (said_last (sealed after) (sealed end)) now random whole only reseals.Stopped → ⊥
  begun_not whole only (inl gives) = given_not gives.why gives.named
  begun_not whole only (inr (inl starts)) = let no : reseals.Stopped ≡ reseals.Refusal starts.refusal = starts.named in cc
  begun_not whole only (inr (inr memory)) = cc

  begins_not : (opening : OpeningValue) → NewMessageBeginsNot r.materials (said_last (sealed after) (sealed end)) now size random opening put now_put unwritten reseals.Stopped → ⊥
  begins_not opening b = by b.why
    where
      by : ((reseals.Stopped ≡ reseals.SinkFault) × NewHeaderFails (said_last (sealed after) (sealed end)) now b.whole b.only size random put now_put)
          ⊎ (IsNotBegun (said_last (sealed after) (sealed end)) now random b.whole b.only reseals.Stopped × unwritten) → ⊥
      by (inl (is, header)) = cc
      by (inr (why, un)) = begun_not b.whole b.only why

  stopped_by : (why : OpenError) → StepsOpener (opened new) (opened last) now r.fed.session rest (Err why) next.opener → reseals.Stopped ≡ open_error_as why → ⊥
  stopped_by (opens.Fault fault) s e = cc
  stopped_by opens.KeyringFault s e = cc
  stopped_by opens.Memory s e = cc
  stopped_by opens.Stopped s e = never_stopped opened sealed now settings given size random bytes old new before after output put resealer r rest last end next.opener stays s

  unstopped_by : (answer : Result ℕ OpenError) (s : StepsOpener (opened new) (opened last) now r.fed.session rest answer next.opener)
      → SealsAfter (said_last (sealed after) (sealed end)) now v (opening_stepped r.fed.session rest s.heard answer) answer put now_put (end ≡ after) unwritten (Err reseals.Stopped) next → ⊥
  unstopped_by (Err why) s not = stopped_by why s (same_error reseals.Stopped (open_error_as why) not.named)
  unstopped_by (Ok used) s (stopped, inl b) = begins_not (opening_stepped r.fed.session rest s.heard (Ok used)) b
  unstopped_by (Ok used) s (stopped, inr p) = p.why

  pub unstopped : ResealerSteps (opened new) (opened last) (said_last (sealed after) (sealed end)) now v rest put now_put (end ≡ after) unwritten (Err reseals.Stopped) next → ⊥
  unstopped s = unstopped_by s.answer s.opens s.seals

  -- ---- what the manager of the old message bears

  pub opened_bears : (result : Result ℕ ResealError) → ResealerSteps (opened new) (opened last) (said_last (sealed after) (sealed end)) now v rest put now_put (end ≡ after) unwritten result next → BearsOnce (opened old) (opened last) now
  opened_bears result s =
      let j = joins opened now (new_opening settings given) bytes rest r.text old new last resealer.opener r.fed (s.answer ≡ Err opens.Memory) s.opens.heard s.opens.hears s.opens.bears stays in
      (served_in j.heard, j.bears)
