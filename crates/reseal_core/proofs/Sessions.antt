-- The session of a new resealer, and of one that is finished.
use Rattle.std.proofs.Common.{◌≡◌, ◌∙◌, ℕ, true, false, is_some, List, [], Option, Some, None, Result, Ok, Err, refl, sym, ap, subst}
use Rattle.esdk_base.specs.Streams.{SinkState}
use Rattle.esdk_fields.specs.declared.faults.Fault.{Fault}
use Rattle.esdk_fields.specs.declared.faults.Fault.TheVariants.{Truncated}
use Rattle.context_codec.specs.Context.{KeyValue}
use Rattle.header_codec.specs.declared.settings.Settings.{Settings}
use Rattle.keyring_trait.specs.Materials.{EncMaterialsValue}
use Rattle.body_format.specs.declared.verdicts.Verdict.{Verdict}
use Rattle.body_format.specs.declared.verdicts.Verdict.TheVariants as verdicts
use Rattle.message_format.specs.Judgement.{Judged}
use Rattle.stream_open.specs.declared.errors.OpenError.{OpenError}
use Rattle.stream_open.specs.declared.errors.OpenError.TheVariants as opens
use Rattle.stream_open.specs.declared.session.Opener.{Opener}
use Rattle.stream_open.specs.Feeding.{GoesOn}
use Rattle.stream_open.specs.Session.{OpeningValue, answer_kept, end_of_verdict, opening_finish_answer, judged_now, whole_context}
use Rattle.stream_open.specs.Session.{opening_finished as finished_opening, new_opening_session as new_opening}
use Rattle.stream_open.specs.Stands.{Stands as Opens}
use Rattle.stream_open.proofs.Feeding.{ends_so, opened_goes}
use Rattle.stream_open.proofs.GoingOn.{stands_goes}
use Rattle.message_format.proofs.Judging.{judged_wanting}
use Rattle.esdk_decrypt.proofs.Answering.{still_wanting}
use Rattle.esdk_decrypt.proofs.Concluding.{has_context, is_whole, some_context}
use Rattle.esdk_decrypt.specs.Decrypt.{fault_at_end}
use Rattle.whole_input.specs.declared.pieces.End.TheVariants.{Seen}
use Rattle.reseal_core.specs.declared.errors.InputError.{InputError}
use Rattle.reseal_core.specs.declared.errors.ResealError.{ResealError}
use Rattle.reseal_core.specs.declared.errors.ResealError.TheVariants as errors
use Rattle.reseal_core.specs.declared.new_message.NewMessage.{NewMessage}
use Rattle.reseal_core.specs.declared.resealer.Resealer.{Resealer}
use Rattle.reseal_core.specs.Errors.{open_error_as}
use Rattle.reseal_core.specs.NewMessage.{FinishesAs, IsWritten}
use Rattle.reseal_core.specs.Session.{ResealingValue, new_resealing_session, text_so_far}
use Rattle.reseal_core.specs.Stands.{ResealerFinishes, Stands}
use Rattle.reseal_core.specs.Underway.{ConcludesNewMessage, EndsNewMessage, EndsResealing, ResealErrorIsCalled}
use Rattle.reseal_core.proofs.Unlocked.{locked_content, whole_unlocked}

-- ---- a new one

-- no header is whole yet
pub wants_header : (v : OpeningValue) → GoesOn v → v.answer ≡ None → (judged_now v).unlocked ≡ false
wants_header v goes none = ap (λ (j : Judged). j.unlocked) (judged_wanting v.taken v.settings (answer_kept v.answer) (still_wanting v goes none))

pub stands_new : (settings : Settings) (given : List KeyValue) (size : ℕ) (random : List ℕ) (opener : Opener) (message : NewMessage) → Opens opener (new_opening settings given) → IsWritten message size random None []
    → Stands (record { opener = opener; message = message; stopped = false }) (new_resealing_session settings given size random)
stands_new settings given size random opener message opens written =
    let v : OpeningValue = new_opening settings given in
    let locked : (judged_now v).unlocked ≡ false = wants_header v (opened_goes settings given) refl in
    record {
      opener = opens;
      stopped = refl;
      going = λ on. record {
        on = refl;
        written = subst (λ (t : List ℕ). IsWritten message size random None t) (sym (locked_content v locked)) written;
        unlocked = sym locked;
        held = tt;
      };
    }

-- ---- the end

some_from : (m : Option EncMaterialsValue) → is_some m ≡ true → (x : EncMaterialsValue) × (m ≡ Some x)
some_from (Some m) e = (m, refl)
some_from None e = absurd (let no : false ≡ true = e in cc)

module _ (resealer : Resealer) (v : ResealingValue) (old new : SinkState) (unwritten : Type 0) (stands : Stands resealer v) (going : v.stopped ≡ false) where
  goes : GoesOn v.opening
  goes = stands_goes resealer.opener v.opening stands.opener (stands.going going).on

  -- The message is whole, and the new one was finished.
  finishes_some : (m : EncMaterialsValue) → v.materials ≡ Some m → (result : Result (Unit {0}) ResealError) → (judged_now v.opening).verdict ≡ verdicts.Whole
      → FinishesAs m v.size v.random (text_so_far v) old new result → ResealerFinishes v old new unwritten result
  finishes_some m is (Ok done) whole ends = (whole, (m, is, ends))
  finishes_some m is (Err errors.SinkFault) whole ends = (whole, (m, is, ends))
  finishes_some m is (Err (errors.Fault fault)) whole ends = absurd ends
  finishes_some m is (Err (errors.Refusal refusal)) whole ends = absurd ends
  finishes_some m is (Err errors.KeyringFault) whole ends = absurd ends
  finishes_some m is (Err errors.Stopped) whole ends = absurd ends
  finishes_some m is (Err errors.Memory) whole ends = absurd ends

  pub finishes_whole : (result : Result (Unit {0}) ResealError) → opening_finish_answer v.opening ≡ Ok tt
      → ((m : EncMaterialsValue) → IsWritten resealer.message v.size v.random (Some m) (text_so_far v) → FinishesAs m v.size v.random (text_so_far v) old new result)
      → ResealerFinishes v old new unwritten result
  finishes_whole result answer ends =
      let whole = is_whole v.opening goes answer in
      let (m, is) = some_from v.materials ((stands.going going).unlocked ∙ whole_unlocked v.opening.taken v.opening.settings (answer_kept v.opening.answer) whole) in
      finishes_some m is result whole (ends m (subst (λ (x : Option EncMaterialsValue). IsWritten resealer.message v.size v.random x (text_so_far v)) is (stands.going going).written))

  -- or it isn't whole
  ends_fault : (verdict : Verdict) (error : OpenError) → end_of_verdict verdict ≡ Err error → (fault : Fault) × (error ≡ opens.Fault fault)
  ends_fault verdicts.Going error e = (Truncated, sym (going_same error e))
    where
      going_same : (a : OpenError) → end_of_verdict verdicts.Going ≡ Err a → opens.Fault Truncated ≡ a
      going_same a e = cc
  ends_fault verdicts.Whole error e = absurd cc
  ends_fault (verdicts.Faulty fault) error e = (fault, sym (fault_same error e))
    where
      fault_same : (a : OpenError) → end_of_verdict (verdicts.Faulty fault) ≡ Err a → opens.Fault fault ≡ a
      fault_same a e = cc

  pub finishes_not : (error : OpenError) → opening_finish_answer v.opening ≡ Err error → unwritten → ResealerFinishes v old new unwritten (Err (open_error_as error))
  finishes_not error answer un =
      let (fault, is) = ends_fault (judged_now v.opening).verdict error (sym (ends_so v.opening goes) ∙ answer) in
      subst (λ (e : OpenError). ResealerFinishes v old new unwritten (Err (open_error_as e))) (sym is) (answer ∙ ap (λ (e : OpenError). Err e) is, un)

-- ---- what a finished session concludes

module _ (v : ResealingValue) (old new : SinkState) where
  pub concludes_ok : (unwritten : Type 0) (context : List KeyValue) → ResealerFinishes v old new unwritten (Ok tt) → whole_context (finished_opening v.opening) ≡ Some context → ConcludesNewMessage v old new (Ok context)
  concludes_ok unwritten context ends told = (ends, has_context v.opening context told)

  pub no_none : (unwritten : Type 0) → ResealerFinishes v old new unwritten (Ok tt) → whole_context (finished_opening v.opening) ≡ None → ⊥
  no_none unwritten ends none = some_context v.opening ends.0 none

  fault_ends : (verdict : Verdict) (fault : Fault) → end_of_verdict verdict ≡ Err (opens.Fault fault) → fault_at_end verdict ≡ Some fault
  fault_ends verdicts.Going fault e = going_is fault e
    where
      going_is : (f : Fault) → end_of_verdict verdicts.Going ≡ Err (opens.Fault f) → fault_at_end verdicts.Going ≡ Some f
      going_is f e = cc
  fault_ends verdicts.Whole fault e = absurd cc
  fault_ends (verdicts.Faulty other) fault e = faulty_is fault e
    where
      faulty_is : (f : Fault) → end_of_verdict (verdicts.Faulty other) ≡ Err (opens.Fault f) → fault_at_end (verdicts.Faulty other) ≡ Some f
      faulty_is f e = cc

  pub concludes_err : (unwritten : Type 0) (error : ResealError) (named : InputError) → GoesOn v.opening → (unwritten → new ≡ old) → ResealerFinishes v old new unwritten (Err error) → ResealErrorIsCalled error named
      → ConcludesNewMessage v old new (Err named)
  concludes_err unwritten (errors.Fault fault) named on kept (answer, un) called =
      subst (λ (e : InputError). ConcludesNewMessage v old new (Err e)) (sym called) (fault_ends (judged_now v.opening).verdict fault (sym (ends_so v.opening on) ∙ answer), kept un)
  concludes_err unwritten errors.SinkFault named on kept ends called = subst (λ (e : InputError). ConcludesNewMessage v old new (Err e)) (sym called) ends
  concludes_err unwritten (errors.Refusal refusal) named on kept (whole, (m, is, none)) called = absurd none
  concludes_err unwritten errors.KeyringFault named on kept (whole, (m, is, none)) called = absurd none
  concludes_err unwritten errors.Stopped named on kept (whole, (m, is, none)) called = absurd none
  concludes_err unwritten errors.Memory named on kept (whole, (m, is, none)) called = absurd none

  -- where all bytes came, so does the run
  pub seen_ends : (result : Result (Unit {0}) InputError) → EndsNewMessage v old new result → EndsResealing v old new Seen result
  seen_ends (Ok done) is = (refl, is)
  seen_ends (Err error) is = is

  pub unstopped_end : (unwritten : Type 0) → ResealerFinishes v old new unwritten (Err errors.Stopped) → ⊥
  unstopped_end unwritten (whole, (m, is, none)) = none
