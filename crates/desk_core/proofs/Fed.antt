-- A session that is fed is fed as its machine is.
use Rattle.std.proofs.Common.{◌≡◌, ℕ, List, Bool, true, false, Some, Result, Ok, Err, refl, ap, ◌∙◌}
use Rattle.esdk_fields.specs.declared.faults.Fault.{Fault}
use Rattle.esdk_fields.specs.declared.refusals.Refusal.{Refusal}
use Rattle.stream_seal.specs.declared.errors.SealError.{SealError}
use Rattle.stream_seal.specs.declared.errors.SealError.TheVariants as seals
use Rattle.stream_seal.specs.Session as seal
use Rattle.stream_seal.specs.Session.{SealingValue}
use Rattle.stream_open.specs.declared.errors.OpenError.{OpenError}
use Rattle.stream_open.specs.declared.errors.OpenError.TheVariants as opens
use Rattle.stream_open.specs.Asking.{Heard}
use Rattle.stream_open.specs.Session as open_session
use Rattle.stream_open.specs.Session.{OpeningValue}
use Rattle.desk_core.specs.declared.errors.DeskError.TheVariants as errors
use Rattle.desk_core.specs.Session.{SessionValue, Sealing, Opening, Turn, answered, desk_fed, open_answer, session_out, seal_answer}
use Rattle.desk_core.specs.Laws.{FeedsMachines, FeedsOpener, FeedsSealer}

-- ---- the machine's answer, by the desk's

record Uses {E : Type 0} (r : Result ℕ E) (turn : Turn ℕ) (s : SessionValue) (n : ℕ) : Type 0 where
  steps : r ≡ Ok n
  left : turn.left ≡ Some s
  out : turn.out ≡ session_out s

seal_uses : (r : Result ℕ SealError) (s : SessionValue) (n : ℕ) → (answered (seal_answer r) s (Some s)).answer ≡ Ok n → Uses r (answered (seal_answer r) s (Some s)) s n
seal_uses (Ok m) s n e = record { steps = cc; left = refl; out = refl }
seal_uses (Err error) s n e = absurd (cc)

open_uses : (r : Result ℕ OpenError) (s : SessionValue) (n : ℕ) → (answered (open_answer r) s (Some s)).answer ≡ Ok n → Uses r (answered (open_answer r) s (Some s)) s n
open_uses (Ok m) s n e = record { steps = cc; left = refl; out = refl }
open_uses (Err error) s n e = absurd (cc)

seal_refuses : (r : Result ℕ SealError) (s : SessionValue) (refusal : Refusal) → (answered (seal_answer r) s (Some s)).answer ≡ Err (errors.Refusal refusal) → r ≡ Err (seals.Refusal refusal)
seal_refuses (Ok m) s refusal e = absurd (cc)
seal_refuses (Err (seals.Refusal other)) s refusal e = cc
seal_refuses (Err seals.Stopped) s refusal e = absurd (cc)
seal_refuses (Err seals.Memory) s refusal e = absurd (cc)

open_faulty : (r : Result ℕ OpenError) (s : SessionValue) (fault : Fault) → (answered (open_answer r) s (Some s)).answer ≡ Err (errors.Fault fault) → r ≡ Err (opens.Fault fault)
open_faulty (Ok m) s fault e = absurd (cc)
open_faulty (Err (opens.Fault other)) s fault e = cc
open_faulty (Err opens.KeyringFault) s fault e = absurd (cc)
open_faulty (Err opens.Stopped) s fault e = absurd (cc)
open_faulty (Err opens.Memory) s fault e = absurd (cc)

open_failed : (r : Result ℕ OpenError) (s : SessionValue) → (answered (open_answer r) s (Some s)).answer ≡ Err errors.KeyringFault → r ≡ Err opens.KeyringFault
open_failed (Ok m) s e = absurd (cc)
open_failed (Err (opens.Fault other)) s e = absurd (cc)
open_failed (Err opens.KeyringFault) s e = refl
open_failed (Err opens.Stopped) s e = absurd (cc)
open_failed (Err opens.Memory) s e = absurd (cc)

-- ---- the session's

feeds_sealed : (v : SealingValue) (piece : List ℕ) (heard : Heard) (short : Bool) (n : ℕ) → (desk_fed (Some (Sealing v)) piece heard short).answer ≡ Ok n
    → FeedsSealer v piece (desk_fed (Some (Sealing v)) piece heard short) n
feeds_sealed v piece heard short n e =
    let uses = seal_uses (seal.sealing_step_answer v piece) (Sealing (seal.sealing_stepped v piece)) n e in record { steps = uses.steps; left = uses.left; out = uses.out }

feeds_opened : (v : OpeningValue) (piece : List ℕ) (heard : Heard) (short : Bool) (n : ℕ) → (desk_fed (Some (Opening v)) piece heard short).answer ≡ Ok n
    → FeedsOpener v piece heard (desk_fed (Some (Opening v)) piece heard short) n
feeds_opened v piece heard true n e = absurd (cc)
feeds_opened v piece heard false n e =
    let answer : Result ℕ OpenError = open_session.opening_step_answer v piece heard in
    let uses = open_uses answer (Opening (open_session.opening_stepped v piece heard answer)) n e in
    record {
      steps = uses.steps;
      left = uses.left ∙ ap (λ (r : Result ℕ OpenError). Some (Opening (open_session.opening_stepped v piece heard r))) uses.steps;
      out = uses.out ∙ ap (λ (r : Result ℕ OpenError). (open_session.opening_stepped v piece heard r).out) uses.steps;
    }

feeds_faulty : (v : OpeningValue) (piece : List ℕ) (heard : Heard) (short : Bool) (fault : Fault) → (desk_fed (Some (Opening v)) piece heard short).answer ≡ Err (errors.Fault fault)
    → open_session.opening_step_answer v piece heard ≡ Err (opens.Fault fault)
feeds_faulty v piece heard true fault e = absurd (cc)
feeds_faulty v piece heard false fault e =
    let answer : Result ℕ OpenError = open_session.opening_step_answer v piece heard in open_faulty answer (Opening (open_session.opening_stepped v piece heard answer)) fault e

feeds_failed : (v : OpeningValue) (piece : List ℕ) (heard : Heard) (short : Bool) → (desk_fed (Some (Opening v)) piece heard short).answer ≡ Err errors.KeyringFault
    → open_session.opening_step_answer v piece heard ≡ Err opens.KeyringFault
feeds_failed v piece heard true e = absurd (cc)
feeds_failed v piece heard false e =
    let answer : Result ℕ OpenError = open_session.opening_step_answer v piece heard in open_failed answer (Opening (open_session.opening_stepped v piece heard answer)) e

pub feeds_machines : FeedsMachines
feeds_machines = record {
  sealed = λ v piece heard short n e. feeds_sealed v piece heard short n e;
  refused = λ v piece heard short refusal e. seal_refuses (seal.sealing_step_answer v piece) (Sealing (seal.sealing_stepped v piece)) refusal e;
  opened = λ v piece heard short n e. feeds_opened v piece heard short n e;
  faulty = λ v piece heard short fault e. feeds_faulty v piece heard short fault e;
  failed = λ v piece heard short e. feeds_failed v piece heard short e;
}
