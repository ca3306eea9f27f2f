-- What a decryption comes to, by what was read of the bytes that came.
use Rattle.std.proofs.Common.{◌≡◌, ◌∙◌, ℕ, List, ◌++◌, Option, Some, None, refl, sym, ap, subst}
use Rattle.std.specs.List.{concat}
use Rattle.std.proofs.lemmas.List.Folds.{concat-append}
use Rattle.std.specs.Io.KnownBytes.{Appends}
use Rattle.esdk_fields.specs.declared.faults.Fault.{Fault}
use Rattle.esdk_fields.specs.declared.faults.Fault.TheVariants.{BadArmour}
use Rattle.esdk_base.specs.Sink.{AppendsFront}
use Rattle.context_codec.specs.Context.{KeyValue}
use Rattle.keyring_trait.specs.Unlocking.{Unlocking}
use Rattle.body_format.specs.declared.verdicts.Verdict.{Verdict}
use Rattle.body_format.specs.declared.verdicts.Verdict.TheVariants as verdicts
use Rattle.message_format.specs.Judgement.{Judged, content}
use Rattle.message_format.specs.Reading.{unlocking}
use Rattle.message_format.proofs.Following.{faults_stay, units_stay}
use Rattle.message_format.proofs.ReadingOn.{read_goes_on}
use Rattle.armour_core.specs.Outlook.{Outlook}
use Rattle.armour_core.specs.declared.text_end.TextEnd.{TextEnd}
use Rattle.armour_core.specs.declared.text_end.TextEnd.TheVariants as ends
use Rattle.esdk_decrypt.specs.Decrypt.{HasContext, fault_at_end, fault_of}
use Rattle.esdk_decrypt.specs.Told.{Reader, judged_by}
use Rattle.esdk_report.specs.Report.{IsReported, Reports, context_line}
use Rattle.esdk_report.specs.declared.failure.Failure.{Failure}
use Rattle.esdk_report.specs.declared.failure.Failure.TheVariants as failures
use Rattle.esdk_run.specs.Run.{TellsOrLacksMemory}
use Rattle.esdk_program.specs.Effect.{RunComesTo, Effect, RunFailed, done_with, refused}
use Rattle.esdk_program.specs.Program.{failure_at, opened_effect, judged_effect, context_found}
use Rattle.esdk_program.specs.World.{Run, World}
use Rattle.esdk_program.proofs.Ends.{front_all, front_of, refuses, stops, tells}

-- ---- what is judged of more bytes

abbrev pub unlocks : Reader → List ℕ → Unlocking
unlocks reader bytes = unlocking bytes reader.settings reader.given reader.required reader.keys

faulty : (v : Verdict) (fault : Fault) → fault_of v ≡ Some fault → v ≡ verdicts.Faulty fault
faulty verdicts.Going fault e = absurd (cc e)
faulty verdicts.Whole fault e = absurd (cc e)
faulty (verdicts.Faulty other) fault e = cc

-- a fault stays
pub fault_same : (reader : Reader) (all bytes more : List ℕ) (fault : Fault) → all ≡ bytes ++ more → fault_of (judged_by reader bytes).verdict ≡ Some fault → judged_by reader all ≡ judged_by reader bytes
fault_same reader all bytes more fault is e =
    ap (judged_by reader) is
    ∙ faults_stay (judged_by reader) (read_goes_on reader.settings reader.given reader.required reader.keys) bytes more fault (faulty (judged_by reader bytes).verdict fault e)

-- what is released stays
pub content_more : (reader : Reader) (all bytes more : List ℕ) → all ≡ bytes ++ more → (rest : List ℕ) × (content (judged_by reader all) ≡ content (judged_by reader bytes) ++ rest)
content_more reader all bytes more is =
    let stay = units_stay (judged_by reader) (read_goes_on reader.settings reader.given reader.required reader.keys) bytes more in (
      concat stay.0,
      ap (λ (b : List ℕ). content (judged_by reader b)) is ∙ ap concat stay.1 ∙ concat-append (judged_by reader bytes).units stay.0,
    )

-- a fault that stands in the bytes
pub early_named : (v : Verdict) (end : TextEnd) (fault : Fault) → fault_of v ≡ Some fault → failure_at v end ≡ Some (failures.Fault fault)
early_named verdicts.Going end fault e = absurd (cc e)
early_named verdicts.Whole end fault e = absurd (cc e)
early_named (verdicts.Faulty other) ends.Whole fault e = cc
early_named (verdicts.Faulty other) (ends.Bad number) fault e = cc
early_named (verdicts.Faulty other) ends.TooLong fault e = cc

-- one that they have at their end
pub late_named : (v : Verdict) (fault : Fault) → fault_at_end v ≡ Some fault → failure_at v ends.Whole ≡ Some (failures.Fault fault)
late_named verdicts.Going fault e = cc
late_named verdicts.Whole fault e = absurd (cc e)
late_named (verdicts.Faulty other) fault e = cc

-- M27
pub bad_named : (v : Verdict) (number : ℕ) → fault_of v ≡ None → failure_at v (ends.Bad number) ≡ Some (failures.Fault (BadArmour number))
bad_named verdicts.Going number sound = refl
bad_named verdicts.Whole number sound = refl
bad_named (verdicts.Faulty fault) number sound = absurd (cc sound)

-- ---- the effect

opened_output : (text : List ℕ) (answer : Unlocking) (failure : Option Failure) → text ≡ (opened_effect text answer failure).output
opened_output text answer None = refl
opened_output text answer (Some failure) = refl

pub whole_is : (reader : Reader) (o : Outlook) (bytes : List ℕ) (context : List KeyValue) → o.bytes ≡ bytes → o.end ≡ ends.Whole → (judged_by reader bytes).verdict ≡ verdicts.Whole
    → HasContext (unlocks reader bytes) context → judged_effect reader o ≡ done_with (content (judged_by reader bytes)) (context_line context)
whole_is reader o bytes context all end whole has =
    (λ i. opened_effect (content (judged_by reader (all i))) (unlocks reader (all i)) (failure_at (judged_by reader (all i)).verdict (end i)))
    ∙ ap (λ (v : Verdict). opened_effect (content (judged_by reader bytes)) (unlocks reader bytes) (failure_at v ends.Whole)) whole
    ∙ ap (λ (a : Unlocking). done_with (content (judged_by reader bytes)) (context_line (context_found a))) has.2

fault_is : (reader : Reader) (o : Outlook) (j : Judged) (fault : Fault) → judged_by reader o.bytes ≡ j → failure_at j.verdict o.end ≡ Some (failures.Fault fault)
    → judged_effect reader o ≡ refused (content j) (failures.Fault fault)
fault_is reader o j fault same cause =
    ap (λ (x : Judged). opened_effect (content x) (unlocks reader o.bytes) (failure_at x.verdict o.end)) same
    ∙ ap (λ (f : Option Failure). opened_effect (content j) (unlocks reader o.bytes) f) cause

-- ---- what the run came to

module _ (r : Run) (world : World) (reader : Reader) (o : Outlook) where
  abbrev Opened : Type 0
  Opened = RunComesTo r world (judged_effect reader o)

  pub opens_whole : (bytes : List ℕ) (context : List KeyValue) → o.bytes ≡ bytes → o.end ≡ ends.Whole → (judged_by reader bytes).verdict ≡ verdicts.Whole
      → HasContext (unlocks reader bytes) context → Appends r.before.output.written r.after.output.written (content (judged_by reader bytes))
      → TellsOrLacksMemory context r.code r.before.report r.after.report → Opened
  opens_whole bytes context all end whole has gained told =
      subst (λ (e : Effect). RunComesTo r world e) (sym (whole_is reader o bytes context all end whole has)) (tells r world (content (judged_by reader bytes)) context gained told)

  pub opens_faulty : (j : Judged) (fault : Fault) → judged_by reader o.bytes ≡ j → failure_at j.verdict o.end ≡ Some (failures.Fault fault)
      → Appends r.before.output.written r.after.output.written (content j) → Reports (failures.Fault fault) r.code r.before.report r.after.report → Opened
  opens_faulty j fault same cause gained said =
      subst (λ (e : Effect). RunComesTo r world e) (sym (fault_is reader o j fault same cause)) (refuses r world (content j) (failures.Fault fault) gained said)

  -- a fault of the bytes that came
  pub opens_early : (bytes more : List ℕ) (fault : Fault) → o.bytes ≡ bytes ++ more → fault_of (judged_by reader bytes).verdict ≡ Some fault
      → Appends r.before.output.written r.after.output.written (content (judged_by reader bytes)) → Reports (failures.Fault fault) r.code r.before.report r.after.report → Opened
  opens_early bytes more fault is e gained said =
      opens_faulty (judged_by reader bytes) fault (fault_same reader o.bytes bytes more fault is e) (early_named (judged_by reader bytes).verdict o.end fault e) gained said

  -- a front of what they release, or of what bytes release that come before more
  pub opens_front : (bytes more : List ℕ) (failure : Failure) → o.bytes ≡ bytes ++ more → RunFailed r world failure → IsReported failure r.code r.before.report r.after.report
      → AppendsFront r.before.output.written r.after.output.written (content (judged_by reader bytes)) → Opened
  opens_front bytes more failure is why said front =
      let rest = content_more reader o.bytes bytes more is in
      stops r world (judged_effect reader o) failure why said
      (subst (λ (t : List ℕ). AppendsFront r.before.output.written r.after.output.written t)
      (opened_output (content (judged_by reader o.bytes)) (unlocks reader o.bytes) (failure_at (judged_by reader o.bytes).verdict o.end))
      (front_of r.before.output.written r.after.output.written (content (judged_by reader bytes)) rest.0 (content (judged_by reader o.bytes)) rest.1 front))

  pub opens_some : (bytes more : List ℕ) (failure : Failure) → o.bytes ≡ bytes ++ more → RunFailed r world failure → IsReported failure r.code r.before.report r.after.report
      → Appends r.before.output.written r.after.output.written (content (judged_by reader bytes)) → Opened
  opens_some bytes more failure is why said gained =
      opens_front bytes more failure is why said (front_all r.before.output.written r.after.output.written (content (judged_by reader bytes)) gained)
