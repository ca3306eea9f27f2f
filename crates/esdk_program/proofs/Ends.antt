-- How a run ended, and what it came to.
use Rattle.std.proofs.Common.{◌≡◌, ◌⊎◌, ℕ, List, [], ◌++◌, length, Option, Some, None, refl, sym, ap, subst, arith, inl, inr}
use Rattle.std.specs.Prelude.{IfSome}
use Rattle.std.proofs.KnownBytes.{Appends-nil}
use Rattle.std.proofs.lemmas.List.{take_all}
use Rattle.std.specs.Io.KnownBytes.{Appends}
use Rattle.esdk_base.specs.Sink.{AppendsFront}
use Rattle.esdk_base.specs.Streams.{SinkState}
use Rattle.whole_input.proofs.Fronts.{front_longer, front_none}
use Rattle.context_codec.specs.Context.{KeyValue}
use Rattle.esdk_report.specs.Report.{ReportGains, IsReported, Reports, ShowsContext, context_line}
use Rattle.esdk_report.specs.declared.failure.Failure.{Failure}
use Rattle.esdk_report.specs.declared.failure.Failure.TheVariants as failures
use Rattle.esdk_run.specs.Run.{TellsOrLacksMemory}
use Rattle.esdk_program.specs.Effect.{RunComesTo, Effect, RunFailed, done_with, refused}
use Rattle.esdk_program.specs.World.{Run, World}

-- ---- fronts

pub front_all : (a b : Option (List ℕ)) (xs : List ℕ) → Appends a b xs → AppendsFront a b xs
front_all a b xs gained = (length xs, subst (λ (ys : List ℕ). Appends a b ys) (sym (take_all (length xs) xs (omega arith))) gained)

-- a front of what more follows
pub front_of : (a b : Option (List ℕ)) (xs more all : List ℕ) → all ≡ xs ++ more → AppendsFront a b xs → AppendsFront a b all
front_of a b xs more all is front = subst (λ (ys : List ℕ). AppendsFront a b ys) (sym is) (front_longer a b xs more front)

-- nothing was written
pub same_front : (old new : SinkState) (xs : List ℕ) → new ≡ old → AppendsFront old.written new.written xs
same_front old new xs same = subst (λ (s : SinkState). AppendsFront old.written s.written xs) (sym same) (front_none old.written xs)

pub same_none : (old new : SinkState) → new ≡ old → Appends old.written new.written []
same_none old new same = subst (λ (s : SinkState). Appends old.written s.written []) (sym same) (Appends-nil old.written)

-- ---- the report

pub gains_none : (old new : SinkState) → new ≡ old → ReportGains [] old new
gains_none old new same = record {
  later = omega (arith, ap (λ (s : SinkState). s.faults) same);
  front = same_front old new [] same;
  whole = λ stayed. same_none old new same;
}

pub gains_shown : (pairs : List KeyValue) (code : ℕ) (old new : SinkState) → ShowsContext pairs code old new → ReportGains (context_line pairs) old new
gains_shown pairs code old new shown = record {
  later = omega (arith, shown.faults);
  front = front_all old.written new.written (context_line pairs) shown.line;
  whole = λ stayed. shown.line;
}

-- a failure was reported, or that memory was wanting for its line
pub reported : (failure : Failure) (code : ℕ) (old new : SinkState) → Reports failure code old new → IsReported failure code old new ⊎ IsReported failures.Memory code old new
reported failures.NotRead code old new said = inl said
reported (failures.BadNumber name) code old new said = inl said
reported (failures.BadPair number) code old new said = said
reported (failures.Fault fault) code old new said = said
reported (failures.File refusal) code old new said = said
reported (failures.Outside outside) code old new said = inl said
reported (failures.Refusal refusal) code old new said = said
reported failures.Memory code old new said = inl said

-- ---- an effect that is known

pub at_some : (o : Option Effect) (e : Effect) (P : Effect → Type 0) → o ≡ Some e → P e → IfSome o P
at_some o e P is so = subst (λ (x : Option Effect). IfSome x P) (sym is) so

pub at_any : (o : Option Effect) (P : Effect → Type 0) → ((e : Effect) → P e) → IfSome o P
at_any (Some e) P each = each e
at_any None P each = tt

module _ (r : Run) (world : World) where
  -- memory ran out, or an object or a keyring failed
  pub stops : (e : Effect) (failure : Failure) → RunFailed r world failure → IsReported failure r.code r.before.report r.after.report
      → AppendsFront r.before.output.written r.after.output.written e.output → RunComesTo r world e
  stops e failure why said front = inr (inl (record { failure = failure; why = why; said = said; front = front }))

  -- and nothing was written
  pub stops_unwritten : (o : Option Effect) (failure : Failure) → RunFailed r world failure → IsReported failure r.code r.before.report r.after.report
      → r.after.output ≡ r.before.output → IfSome o (RunComesTo r world)
  stops_unwritten o failure why said same = at_any o (RunComesTo r world) (λ e. stops e failure why said (same_front r.before.output r.after.output e.output same))

  -- a refusal or a fault, behind this text
  pub refuses : (text : List ℕ) (failure : Failure) → Appends r.before.output.written r.after.output.written text → Reports failure r.code r.before.report r.after.report
      → RunComesTo r world (refused text failure)
  refuses text failure gained said = elim (reported failure r.code r.before.report r.after.report said) [
    | inl is ↦ inl (record { code = is.status; output = gained; report = is.line })
    | inr memory ↦ stops (refused text failure) failures.Memory tt memory (front_all r.before.output.written r.after.output.written text gained)
  ]

  pub refuses_unwritten : (o : Option Effect) (failure : Failure) → o ≡ Some (refused [] failure) → Reports failure r.code r.before.report r.after.report
      → r.after.output ≡ r.before.output → IfSome o (RunComesTo r world)
  refuses_unwritten o failure is said same = at_some o (refused [] failure) (RunComesTo r world) is (refuses [] failure (same_none r.before.output r.after.output same) said)

  -- the whole context was told, behind this text
  pub tells : (text : List ℕ) (context : List KeyValue) → Appends r.before.output.written r.after.output.written text → TellsOrLacksMemory context r.code r.before.report r.after.report
      → RunComesTo r world (done_with text (context_line context))
  tells text context gained (inl (inl shown)) =
      inl (record { code = shown.status; output = gained; report = gains_shown context r.code r.before.report r.after.report shown })
  tells text context gained (inl (inr lost)) = inr (inr (inl (record { done = refl; code = lost.status; output = gained; report = lost.front; rose = lost.rose })))
  tells text context gained (inr lacking) =
      stops (done_with text (context_line context)) failures.Memory tt lacking (front_all r.before.output.written r.after.output.written text gained)
