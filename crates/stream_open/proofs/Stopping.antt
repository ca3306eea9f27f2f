-- When a session is stopped, and what it answers then.
use Rattle.std.proofs.Common.{◌≡◌, ℕ, List, [], ◌∷◌, Bool, true, false, not, ◌||◌, Result, Ok, Err, if◌then◌else◌, refl, ap, ◌∙◌}
use Rattle.std.specs.Prelude.{is_err}
use Rattle.context_codec.specs.Context.{KeyValue}
use Rattle.header_codec.specs.declared.settings.Settings.{Settings}
use Rattle.body_format.specs.declared.verdicts.Verdict.{Verdict}
use Rattle.body_format.specs.declared.verdicts.Verdict.TheVariants.{Going, Whole, Faulty}
use Rattle.stream_open.specs.declared.errors.OpenError.{OpenError}
use Rattle.stream_open.specs.declared.errors.OpenError.TheVariants as errors
use Rattle.stream_open.specs.Asking.{Heard, Nothing, Found, Named, Failed}
use Rattle.stream_open.specs.Session.{OpeningValue, new_opening_session, judged_now, judged_with, keeping, reach, answer_at, answer_on, opening_step_answer, end_of_verdict, is_end, opening_finish_answer, opening_finished}
use Rattle.stream_open.specs.Laws.{OpeningEvent, Step, Finish, after_opening_event, after_opening_events, fails, opening_is_stopped_by, OpeningStopsExactlyOf}

or_true : (b : Bool) → true ≡ b || true
or_true true = refl
or_true false = refl

or_false : (b : Bool) → b ≡ b || false
or_false true = refl
or_false false = refl

or_assoc : (a b c : Bool) → (a || b) || c ≡ a || (b || c)
or_assoc true b c = refl
or_assoc false b c = refl

keeping_stopped : (v : OpeningValue) (heard : Heard) → (keeping v heard).stopped ≡ v.stopped
keeping_stopped v Nothing = refl
keeping_stopped v (Found m) = refl
keeping_stopped v (Named fault) = refl
keeping_stopped v Failed = refl

end_fails : (b : Bool) (verdict : Verdict) → b || not (is_end verdict) ≡ b || is_err (if b then Err errors.Stopped else end_of_verdict verdict)
end_fails true verdict = refl
end_fails false Going = refl
end_fails false Whole = refl
end_fails false (Faulty fault) = refl

stopped_event : (v : OpeningValue) (e : OpeningEvent) → (after_opening_event v e).stopped ≡ v.stopped || fails v e
unfolding opening_finished opening_finish_answer
stopped_event v (Step piece heard (Ok n)) = keeping_stopped v heard ∙ or_false v.stopped
stopped_event v (Step piece heard (Err error)) = or_true v.stopped
stopped_event v Finish = end_fails v.stopped (judged_now v).verdict

stopped_all : (es : List OpeningEvent) (v : OpeningValue) → (after_opening_events es v).stopped ≡ v.stopped || opening_is_stopped_by es v
unfolding after_opening_events opening_is_stopped_by
stopped_all [] v = or_false v.stopped
stopped_all (e ∷ es) v =
    stopped_all es (after_opening_event v e) ∙ ap (λ (b : Bool). b || opening_is_stopped_by es (after_opening_event v e)) (stopped_event v e)
    ∙ or_assoc v.stopped (fails v e) (opening_is_stopped_by es (after_opening_event v e))

-- ---- the answers

unstopped_at : (k : ℕ) (verdict : Verdict) → answer_at k verdict ≡ Err errors.Stopped → ⊥
unstopped_at k Going e = cc
unstopped_at k Whole e = cc
unstopped_at k (Faulty fault) e = cc

pub unstopped_on : (v : OpeningValue) (piece : List ℕ) (heard : Heard) → answer_on v piece heard ≡ Err errors.Stopped → ⊥
unstopped_on v piece Nothing e = unstopped_at (reach v piece) (judged_with v piece (reach v piece)).verdict e
unstopped_on v piece (Found m) e = let w : OpeningValue = keeping v (Found m) in unstopped_at (reach w piece) (judged_with w piece (reach w piece)).verdict e
unstopped_on v piece (Named fault) e = let w : OpeningValue = keeping v (Named fault) in unstopped_at (reach w piece) (judged_with w piece (reach w piece)).verdict e
unstopped_on v piece Failed e = cc

unstopped_end : (verdict : Verdict) → end_of_verdict verdict ≡ Err errors.Stopped → ⊥
unstopped_end Going e = cc
unstopped_end Whole e = cc
unstopped_end (Faulty fault) e = cc

only_stopped : {A : Type 0} (b : Bool) (r : Result A OpenError) → (r ≡ Err errors.Stopped → ⊥) → (if b then Err errors.Stopped else r) ≡ Err errors.Stopped → b ≡ true
only_stopped true r other e = refl
only_stopped false r other e = absurd (other e)

then_stopped : {A : Type 0} (b : Bool) (r : Result A OpenError) → b ≡ true → (if b then Err errors.Stopped else r) ≡ Err errors.Stopped
then_stopped true r e = refl
then_stopped false r e = absurd cc

pub stops_exactly : (settings : Settings) (given : List KeyValue) (events : List OpeningEvent) → OpeningStopsExactlyOf (new_opening_session settings given) events
unfolding opening_step_answer opening_finish_answer
stops_exactly settings given events =
    let v : OpeningValue = after_opening_events events (new_opening_session settings given) in
    record {
      stopped = stopped_all events (new_opening_session settings given);
      step = λ piece heard. (
        (λ is. only_stopped v.stopped (answer_on v piece heard) (unstopped_on v piece heard) is),
        (λ is. then_stopped v.stopped (answer_on v piece heard) is),
      );
      finish = (
        (λ is. only_stopped v.stopped (end_of_verdict (judged_now v).verdict) (unstopped_end (judged_now v).verdict) is),
        (λ is. then_stopped v.stopped (end_of_verdict (judged_now v).verdict) is),
      );
    }
