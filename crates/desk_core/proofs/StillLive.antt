-- A session that is live isn't said not to be.
use Rattle.std.proofs.Common.{◌≡◌, ◌≢◌, ◌↔◌, ℕ, List, if◌then◌else◌, Bool, true, false, Option, Some, None, Result, Ok, Err, refl, sym, subst, ◌∙◌}
use Rattle.std.specs.BTreeMap.{BTreeMap}
use Rattle.std.specs.Global.{Box}
use Rattle.body_format.specs.declared.verdicts.Verdict.{Verdict}
use Rattle.body_format.specs.declared.verdicts.Verdict.TheVariants.{Going, Whole, Faulty}
use Rattle.stream_seal.specs.declared.errors.SealError.{SealError}
use Rattle.stream_seal.specs.declared.errors.SealError.TheVariants as seals
use Rattle.stream_seal.specs.Session as seal
use Rattle.stream_seal.specs.Session.{SealingValue}
use Rattle.stream_seal.proofs.Refusing.{stopped_only}
use Rattle.stream_seal.proofs.Standing.{finish_on}
use Rattle.stream_open.specs.declared.errors.OpenError.{OpenError}
use Rattle.stream_open.specs.declared.errors.OpenError.TheVariants as opens
use Rattle.stream_open.specs.Asking.{Heard, Nothing, Found, Named, Failed}
use Rattle.stream_open.specs.Session as open_session
use Rattle.stream_open.specs.Session.{OpeningValue, answer_at, answer_on, end_of_verdict, judged_now, judged_with, keeping, reach}
use Rattle.desk_core.specs.declared.errors.DeskError.{DeskError}
use Rattle.desk_core.specs.declared.errors.DeskError.TheVariants as errors
use Rattle.desk_core.specs.declared.session.Session.{Session}
use Rattle.desk_core.specs.Session.{SessionValue, Sealing, Opening, ended, desk_fed, desk_finish_answer, opener_answer, open_answer, seal_answer, desk_step_answer}
use Rattle.desk_core.specs.Stands.{IsLive, StandsAtNumber, AreLive, machine_at}
use Rattle.desk_core.proofs.Live.{answered_is}

-- ---- the machines' answers

seal_named : {A : Type 0} (r : Result A SealError) → r ≢ Err seals.Stopped → seal_answer r ≢ Err errors.NotLive
seal_named (Ok value) h e = absurd (cc)
seal_named (Err (seals.Refusal refusal)) h e = absurd (cc)
seal_named (Err seals.Stopped) h e = h refl
seal_named (Err seals.Memory) h e = absurd (cc)

open_named : {A : Type 0} (r : Result A OpenError) → r ≢ Err opens.Stopped → open_answer r ≢ Err errors.NotLive
open_named (Ok value) h e = absurd (cc)
open_named (Err (opens.Fault fault)) h e = absurd (cc)
open_named (Err opens.KeyringFault) h e = absurd (cc)
open_named (Err opens.Stopped) h e = h refl
open_named (Err opens.Memory) h e = absurd (cc)

seal_step_named : (v : SealingValue) (piece : List ℕ) → v.stopped ≡ false → seal.sealing_step_answer v piece ≢ Err seals.Stopped
seal_step_named v piece going = λ e. let off : true ≡ false = sym (stopped_only v piece e) ∙ going in cc

answer_at_named : (n : ℕ) (verdict : Verdict) → answer_at n verdict ≢ Err opens.Stopped
answer_at_named n Going = λ e. cc
answer_at_named n Whole = λ e. cc
answer_at_named n (Faulty fault) = λ e. cc

answer_on_named : (v : OpeningValue) (piece : List ℕ) (heard : Heard) → answer_on v piece heard ≢ Err opens.Stopped
answer_on_named v piece Nothing = answer_at_named (reach v piece) (judged_with v piece (reach v piece)).verdict
answer_on_named v piece (Found m) = let w = keeping v (Found m) in answer_at_named (reach w piece) (judged_with w piece (reach w piece)).verdict
answer_on_named v piece (Named fault) = let w = keeping v (Named fault) in answer_at_named (reach w piece) (judged_with w piece (reach w piece)).verdict
answer_on_named v piece Failed = λ e. cc

open_step_named : (v : OpeningValue) (piece : List ℕ) (heard : Heard) → v.stopped ≡ false → open_session.opening_step_answer v piece heard ≢ Err opens.Stopped
unfolding open_session.opening_step_answer
open_step_named v piece heard going =
    subst (λ (b : Bool). (if b then Err opens.Stopped else answer_on v piece heard) ≢ Err opens.Stopped) (sym going) (answer_on_named v piece heard)

opener_named : (short : Bool) (v : OpeningValue) (piece : List ℕ) (heard : Heard) → v.stopped ≡ false → opener_answer v piece heard short ≢ Err opens.Stopped
opener_named true v piece heard going = λ e. cc
opener_named false v piece heard going = open_step_named v piece heard going

end_of_named : (verdict : Verdict) → end_of_verdict verdict ≢ Err opens.Stopped
end_of_named Going = λ e. cc
end_of_named Whole = λ e. cc
end_of_named (Faulty fault) = λ e. cc

open_finish_named : (v : OpeningValue) → v.stopped ≡ false → open_session.opening_finish_answer v ≢ Err opens.Stopped
unfolding open_session.opening_finish_answer
open_finish_named v going =
    subst (λ (b : Bool). (if b then Err opens.Stopped else end_of_verdict (judged_now v).verdict) ≢ Err opens.Stopped) (sym going) (end_of_named (judged_now v).verdict)

seal_finish_named : (v : SealingValue) → v.stopped ≡ false → seal.sealing_finish_answer v ≢ Err seals.Stopped
seal_finish_named v going = λ e. let on = finish_on v going in cc

-- ---- the desk's answers

step_named : (s : SessionValue) (piece : List ℕ) (heard : Heard) (short : Bool) → IsLive s → desk_step_answer s piece heard short ≢ Err errors.NotLive
step_named (Sealing v) piece heard short live = seal_named (seal.sealing_step_answer v piece) (seal_step_named v piece live)
step_named (Opening v) piece heard short live = open_named (opener_answer v piece heard short) (opener_named short v piece heard live.0)

pub finish_named : (s : SessionValue) → IsLive s → desk_finish_answer s ≢ Err errors.NotLive
finish_named (Sealing v) live = seal_named (seal.sealing_finish_answer v) (seal_finish_named v live)
finish_named (Opening v) live = open_named (open_session.opening_finish_answer v) (open_finish_named v live.0)

-- an answer says that a session isn't live exactly where it isn't
not_live : {A : Type 0} (o : Option SessionValue) (answer : Option SessionValue → Result A DeskError) (result : Result A DeskError) → result ≡ answer o → answer None ≡ Err errors.NotLive
    → ((s : SessionValue) → o ≡ Some s → answer (Some s) ≢ Err errors.NotLive) → (result ≡ Err errors.NotLive) ↔ (o ≡ None)
not_live None answer result e none some = (λ h. refl, λ h. e ∙ none)
not_live (Some s) answer result e none some = (λ h. absurd (some s refl (sym e ∙ h)), λ h. absurd (cc))

live_goes : (machine : Option Session) (s : SessionValue) → StandsAtNumber machine (Some s) → IsLive s
live_goes None s at = absurd at
live_goes (Some m) s at = at.1

goes_at : (sessions : BTreeMap ℕ (Box Session)) (live : ℕ → Option SessionValue) (id : ℕ) → AreLive sessions live → (s : SessionValue) → live id ≡ Some s → IsLive s
goes_at sessions live id alive s e = live_goes (machine_at sessions id) s (subst (λ (o : Option SessionValue). StandsAtNumber (machine_at sessions id) o) e (alive id))

pub fed_not_live : (sessions : BTreeMap ℕ (Box Session)) (live : ℕ → Option SessionValue) (id : ℕ) (piece : List ℕ) (heard : Heard) (short : Bool) (result : Result ℕ DeskError) → AreLive sessions live
    → result ≡ (desk_fed (live id) piece heard short).answer → (result ≡ Err errors.NotLive) ↔ (live id ≡ None)
fed_not_live sessions live id piece heard short result alive e =
    not_live (live id) (λ o. (desk_fed o piece heard short).answer) result e refl
    (λ s there h. step_named s piece heard short (goes_at sessions live id alive s there) (sym (answered_is (desk_step_answer s piece heard short) _ _) ∙ h))

pub ended_not_live : (sessions : BTreeMap ℕ (Box Session)) (live : ℕ → Option SessionValue) (id : ℕ) (result : Result (Unit {0}) DeskError) → AreLive sessions live
    → result ≡ (ended (live id)).answer → (result ≡ Err errors.NotLive) ↔ (live id ≡ None)
ended_not_live sessions live id result alive e =
    not_live (live id) (λ o. (ended o).answer) result e refl
    (λ s there h. finish_named s (goes_at sessions live id alive s there) (sym (answered_is (desk_finish_answer s) _ _) ∙ h))
