-- What a step comes to where the manager isn't asked.
use Rattle.std.proofs.Common.{◌≡◌, ℕ, Bool, true, false, Option, Some, None, Result, Ok, Err, List, ◌++◌, if◌then◌else◌, sym, ap, subst, ◌∙◌, inl}
use Rattle.std.specs.Prelude.{is_err}
use Rattle.keyring_trait.specs.Manager.{ManagerNow}
use Rattle.stream_open.specs.declared.errors.OpenError.{OpenError}
use Rattle.stream_open.specs.declared.errors.OpenError.TheVariants as errors
use Rattle.stream_open.specs.declared.session.Opener.{Opener}
use Rattle.stream_open.specs.declared.unlocked.Unlocked.{Unlocked}
use Rattle.stream_open.specs.Asking.{BearsHeard, Nothing}
use Rattle.stream_open.specs.Session.{OpeningValue, header_asked, answer_on, opening_step_answer, opening_stepped}
use Rattle.stream_open.specs.Stands.{quiet, opener_out, OpenerIsUnlocked, StandsAt, Stands, StepsUnlocked, OpenerSteps}
use Rattle.stream_open.proofs.Standing.{stands_as, stands_quiet}

-- once an error stopped the session
stopped_answer : (v : OpeningValue) (piece : List ℕ) → v.stopped ≡ true → opening_step_answer v piece Nothing ≡ Err errors.Stopped
unfolding opening_step_answer
stopped_answer v piece off = ap (λ (b : Bool). if b then Err errors.Stopped else answer_on v piece Nothing) off

pub steps_stopped : (first last : ManagerNow) (moment : ℕ) (opener next : Opener) (v : OpeningValue) (piece : List ℕ) → Stands opener v → v.stopped ≡ true → BearsHeard first last moment None
    → next.settings ≡ opener.settings → next.given ≡ opener.given → next.reader ≡ opener.reader → next.served ≡ opener.served → next.stopped ≡ true → next.unlocked ≡ quiet opener.unlocked
    → OpenerSteps first last moment v piece (Err errors.Stopped) next
steps_stopped first last moment opener next v piece stands off bears settings given reader served stopped unlocked = record {
  heard = Nothing;
  hears = inl (ap (λ (b : Bool). if b then None else header_asked v.answer v.settings (v.taken ++ piece)) off);
  bears = bears;
  answers = stopped_answer v piece off;
  stands = stands_quiet opener next v true stands (λ e. absurd cc) settings given reader served stopped unlocked;
}

-- behind the header
pub unlocked_at : (opener : Opener) (v : OpeningValue) (u : Unlocked) → opener.unlocked ≡ Some u → Stands opener v → OpenerIsUnlocked u v
unlocked_at opener v u is stands = stands_as opener v (Some u) is stands

stands_after : (opener next : Opener) (v : OpeningValue) (piece : List ℕ) (r : Result ℕ OpenError) (new : Unlocked) → Stands opener v → v.stopped ≡ false → StepsUnlocked v piece r new
    → next.settings ≡ opener.settings → next.given ≡ opener.given → next.served ≡ opener.served → next.stopped ≡ is_err r → next.unlocked ≡ Some new
    → Stands next (opening_stepped v piece Nothing r)
stands_after opener next v piece (Ok n) new stands going steps settings given served stopped unlocked = record {
  settings = settings ∙ stands.settings;
  given = given ∙ stands.given;
  served = served ∙ stands.served;
  stopped = stopped ∙ sym going;
  out = ap opener_out unlocked ∙ steps.out;
  at = subst (λ (o : Option Unlocked). StandsAt next (opening_stepped v piece Nothing (Ok n)) o) (sym unlocked) steps.stands;
}
stands_after opener next v piece (Err error) new stands going steps settings given served stopped unlocked = record {
  settings = settings ∙ stands.settings;
  given = given ∙ stands.given;
  served = served ∙ stands.served;
  stopped = stopped;
  out = ap opener_out unlocked ∙ steps.out;
  at = subst (λ (o : Option Unlocked). StandsAt next (opening_stepped v piece Nothing (Err error)) o) (sym unlocked) steps.stands;
}

pub steps_behind : (first last : ManagerNow) (moment : ℕ) (opener next : Opener) (v : OpeningValue) (piece : List ℕ) (r : Result ℕ OpenError) (new : Unlocked) → Stands opener v → v.stopped ≡ false → BearsHeard first last moment None
    → StepsUnlocked v piece r new → next.settings ≡ opener.settings → next.given ≡ opener.given → next.served ≡ opener.served → next.stopped ≡ is_err r → next.unlocked ≡ Some new
    → OpenerSteps first last moment v piece r next
steps_behind first last moment opener next v piece r new stands going bears steps settings given served stopped unlocked = record {
  heard = Nothing;
  hears = inl steps.unasked;
  bears = bears;
  answers = steps.answers;
  stands = stands_after opener next v piece r new stands going steps settings given served stopped unlocked;
}
