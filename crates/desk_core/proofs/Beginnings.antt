-- What the beginning of a session that seals a message comes to.
use Rattle.std.proofs.Common.{◌≡◌, ℕ, List, ◌++◌, true, false, Option, None, Result, Ok, Err, IfOk, IfErr, OnOk, refl, sym, subst, ◌∙◌}
use Rattle.std.proofs.lemmas.List.{append-nil}
use Rattle.std.specs.Global.{Box}
use Rattle.esdk_fields.specs.declared.faults.Fault.{Fault}
use Rattle.esdk_fields.specs.declared.refusals.Refusal.{Refusal}
use Rattle.keyring_trait.specs.declared.journal.JournalLine.{JournalLine}
use Rattle.keyring_trait.specs.declared.manager_errors.ManagerError.{ManagerError}
use Rattle.keyring_trait.specs.declared.manager_errors.ManagerError.TheVariants as managers
use Rattle.keyring_trait.specs.Materials.{EncMaterialsValue}
use Rattle.keyring_trait.specs.Saying.{Saying}
use Rattle.stream_seal.specs.declared.errors.SealError.{SealError}
use Rattle.stream_seal.specs.declared.errors.SealError.TheVariants as seals
use Rattle.stream_seal.specs.Start.{BeginsNot, start_refusal, drawn_id, drawn_rest}
use Rattle.desk_core.specs.declared.errors.DeskError.{DeskError}
use Rattle.desk_core.specs.declared.errors.DeskError.TheVariants as errors
use Rattle.desk_core.specs.declared.session.Session.{Session}
use Rattle.desk_core.specs.SealRequest.{SealRequestValue}
use Rattle.desk_core.specs.Session.{NoReply, Gives, Refuses, Fails, begun_turn, manager_error, seal_error}
use Rattle.desk_core.specs.Desk.{seal_lines}
use Rattle.desk_core.specs.Stands.{StandsFor}
use Rattle.desk_core.specs.Calls.{MaterialsAreWritable}
use Rattle.desk_core.specs.Beginning.{DeskBegins, DeskBeginsAs, NotBegun, begun_value}

-- a sealer's reason is the desk's
pub not_begun : (refusal : Option Refusal) (error : SealError) → BeginsNot refusal error → NotBegun refusal (seal_error error)
not_begun refusal (seals.Refusal r) cause = cause
not_begun refusal seals.Stopped cause = absurd cause
not_begun refusal seals.Memory cause = tt

-- ---- the manager isn't asked, or gives nothing

pub begins_short : (manager : Saying) (request : SealRequestValue) (id now : ℕ) (random : List ℕ) (before after : List JournalLine) → after ≡ before
    → DeskBegins manager request id now random (Err errors.Memory) before after
begins_short manager request id now random before after same =
    record { reply = NoReply; short = true; replies = refl; journal = same ∙ sym (append-nil before); begins = (refl, refl, refl) }

pub begins_not : (manager : Saying) (request : SealRequestValue) (id now : ℕ) (random : List ℕ) (error : ManagerError) (lines : List JournalLine)
    → ((fault : Fault) → manager.gives_none request.wish (managers.Fault fault) → ⊥) → manager.gives_none request.wish error → DeskBegins manager request id now random (Err (manager_error error)) lines lines
begins_not manager request id now random (managers.Fault fault) lines none cause = absurd (none fault cause)
begins_not manager request id now random (managers.Refusal refusal) lines none cause =
    record { reply = Refuses refusal; short = false; replies = (cause, refl); journal = sym (append-nil lines); begins = (refl, refl, refl) }
begins_not manager request id now random managers.KeyringFault lines none cause =
    record { reply = Fails; short = false; replies = (cause, refl); journal = sym (append-nil lines); begins = (refl, refl, refl) }
begins_not manager request id now random managers.Memory lines none cause = begins_short manager request id now random lines lines refl

-- ---- it gives materials

pub begins_given : (manager : Saying) (request : SealRequestValue) (id now : ℕ) (random : List ℕ) (m : EncMaterialsValue) (result : Result (Box Session) DeskError) (before after : List JournalLine)
    → manager.gives request.wish now (drawn_rest random) m → MaterialsAreWritable m → after ≡ before ++ seal_lines id now request (Gives m) → IfOk result (λ machine. StandsFor machine.value (begun_value m request (drawn_id random)))
    → OnOk result (start_refusal m request.max_keys (drawn_id random) ≡ None) → IfErr result (NotBegun (start_refusal m request.max_keys (drawn_id random)))
    → DeskBegins manager request id now random result before after
begins_given manager request id now random m (Ok machine) before after gives writable journal stands taken cause =
    let begins : Option Refusal → Type 0 = λ o. DeskBeginsAs (begun_turn request random m id o) id (Ok machine) in
    record { reply = Gives m; short = false; replies = (gives, writable); journal = journal; begins = subst begins (sym taken) (begun_value m request (drawn_id random), refl, refl, refl, stands, refl) }
begins_given manager request id now random m (Err (errors.Refusal r)) before after gives writable journal stands taken cause =
    let begins : Option Refusal → Type 0 = λ o. DeskBeginsAs (begun_turn request random m id o) id (Err (errors.Refusal r)) in
    record { reply = Gives m; short = false; replies = (gives, writable); journal = journal; begins = subst begins (sym cause) (refl, refl, refl) }
begins_given manager request id now random m (Err errors.Memory) before after gives writable journal stands taken cause =
    record { reply = Gives m; short = true; replies = (gives, writable); journal = journal; begins = (refl, refl, refl) }
begins_given manager request id now random m (Err errors.NotLive) before after gives writable journal stands taken cause = absurd cause
begins_given manager request id now random m (Err (errors.Fault fault)) before after gives writable journal stands taken cause = absurd cause
begins_given manager request id now random m (Err errors.KeyringFault) before after gives writable journal stands taken cause = absurd cause
