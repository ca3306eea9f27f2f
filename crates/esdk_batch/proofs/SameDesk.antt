-- Two values that one desk is worth: what a job knows of its session at one it knows at the other.
use Rattle.std.proofs.Common.{◌≡◌, refl, sym, subst, ◌∙◌}
use Rattle.std.specs.Prelude.{Option, Some, None}
use Rattle.keyring_trait.specs.declared.served.Served.{Served}
use Rattle.stream_seal.specs.Session.{SealingValue}
use Rattle.stream_open.specs.Session.{OpeningValue}
use Rattle.desk_core.specs.declared.session.Session.{Session}
use Rattle.desk_core.specs.declared.session.Session.TheVariants as machines
use Rattle.desk_core.specs.declared.live_sessions.Desk.{Desk}
use Rattle.desk_core.specs.Session.{SessionValue, Sealing, Opening}
use Rattle.desk_core.specs.Desk.{DeskValue}
use Rattle.desk_core.specs.Stands.{Stands, StandsAtNumber, machine_at}
use Rattle.job_file.specs.declared.job.Job.{Job}
use Rattle.job_file.specs.declared.job.Work.{Work}
use Rattle.job_file.specs.declared.job.Work.TheVariants.{Encrypt, Decrypt}
use Rattle.esdk_batch.specs.declared.progress.Progress.{Progress}
use Rattle.esdk_batch.specs.declared.progress.Progress.TheVariants as stages
use Rattle.esdk_batch.specs.Turns.{AddsLines, Knows}

seals_too : (machine : Option Session) (a b : Option SessionValue) (s : SealingValue) → StandsAtNumber machine a → StandsAtNumber machine b → a ≡ Some (Sealing s) → (t : SealingValue) × (b ≡ Some (Sealing t))
seals_too None a b s one other is = absurd (subst (StandsAtNumber None) is one)
seals_too (Some (machines.Sealing m)) a None s one other is = absurd other
seals_too (Some (machines.Sealing m)) a (Some (Sealing t)) s one other is = (t, refl)
seals_too (Some (machines.Sealing m)) a (Some (Opening t)) s one other is = absurd other.0
seals_too (Some (machines.Opening m)) a b s one other is = absurd (subst (StandsAtNumber (Some (machines.Opening m))) is one).0

opens_too : (machine : Option Session) (a b : Option SessionValue) (s : OpeningValue) (served : Option Served) → StandsAtNumber machine a → StandsAtNumber machine b → a ≡ Some (Opening s) → served ≡ s.served
    → (t : OpeningValue) × (b ≡ Some (Opening t)) × (served ≡ t.served)
opens_too None a b s served one other is knows = absurd (subst (StandsAtNumber None) is one)
opens_too (Some (machines.Sealing m)) a b s served one other is knows = absurd (subst (StandsAtNumber (Some (machines.Sealing m))) is one).0
opens_too (Some (machines.Opening m)) a None s served one other is knows = absurd other
opens_too (Some (machines.Opening m)) a (Some (Sealing t)) s served one other is knows = absurd other.0
opens_too (Some (machines.Opening m)) a (Some (Opening t)) s served one other is knows =
    let first = (subst (StandsAtNumber (Some (machines.Opening m))) is one).0.served in (
      t,
      refl,
      knows ∙ sym first ∙ other.0.served,
    )

module _ {M : Type 0} (desk : Desk M) (v w : DeskValue) (one : Stands desk v) (other : Stands desk w) where
  knows_too : (work : Work) (progress : Progress) → Knows work progress v.live → Knows work progress w.live
  knows_too work stages.Waiting knows = tt
  knows_too (Encrypt length frame context required) (stages.Live now) knows =
      seals_too (machine_at desk.sessions now.session) (v.live now.session) (w.live now.session) knows.0 (one.sessions now.session) (other.sessions now.session) knows.1
  knows_too (Decrypt given required) (stages.Live now) knows =
      opens_too (machine_at desk.sessions now.session) (v.live now.session) (w.live now.session) knows.0 now.served (one.sessions now.session) (other.sessions now.session) knows.1 knows.2
  knows_too work (stages.Ended line) knows = tt

  -- the same lines
  pub adds_too : (job : Job) (old new : Progress) (u : DeskValue) → AddsLines job old new u v → AddsLines job old new u w
  adds_too job old new u adds = record {
    knows = knows_too job.work new adds.knows;
    gained = adds.gained;
    journal = sym other.journal ∙ one.journal ∙ adds.journal;
    lines = adds.lines;
    served = adds.served;
  }
