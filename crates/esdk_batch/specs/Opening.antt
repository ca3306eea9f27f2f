-- The first turn of a job: what is asked of the desk, and the file that its session begins.
use Rattle.std.specs.Prelude.{◌≡◌, ◌⊎◌, ℕ, List, [], take, Option, Some, None}
use Rattle.esdk_fields.specs.declared.refusals.Outside.TheVariants as outsides
use Rattle.esdk_base.specs.Shelf.{Files}
use Rattle.keyring_trait.specs.declared.journal.Kind.{Kind}
use Rattle.keyring_trait.specs.declared.served.Served.{Served}
use Rattle.desk_core.specs.SealRequest.{SealRequestValue}
use Rattle.desk_core.specs.Session.{SessionValue, sealed_header}
use Rattle.desk_core.specs.Desk.{DeskValue}
use Rattle.batch_report.specs.declared.job_lines.JobEnd.TheVariants as ends
use Rattle.esdk_batch.specs.declared.progress.Progress.{Progress}
use Rattle.esdk_batch.specs.declared.progress.Progress.TheVariants as stages
use Rattle.esdk_batch.specs.Ending.{KeepsDesk}
use Rattle.esdk_batch.specs.Files.{Holding}
use Rattle.esdk_batch.specs.SealStory.{SealAsked, wish_of}

-- what an encrypt job asks the desk for; there is no limit on entries
abbrev pub job_request : SealAsked → SealRequestValue
job_request asked = record { wish = wish_of asked; size = asked.frame; max_keys = None }

-- The session is live, nothing was taken yet, and the file holds what the message begins with.
-- Or the shelf failed, and the session is live no more.
abbrev pub BeginsSo : ℕ → Kind → Option Served → SessionValue → Option SessionValue
    → Option Files → Option Files → List ℕ → Progress → Type 0
BeginsSo session kind served s left files after to (stages.Live live) =
    (live ≡ record { session = session; at = 0; served = served })
    × (left ≡ Some s) × Holding files after to (sealed_header s)
BeginsSo session kind served s left files after to (stages.Ended line) =
    (line ≡ record { kind = kind; end = ends.Outside outsides.ShelfFault; served = served })
    × (left ≡ None)
    × ((after ≡ files) ⊎ ((n : ℕ) × Holding files after to (take n (sealed_header s))))
BeginsSo session kind served s left files after to stages.Waiting = ⊥

-- What making the file of a session comes to that was opened just now. The desk keeps all else.
pub record BeginsFile (session : ℕ) (kind : Kind) (served : Option Served) (s : SessionValue)
    (v w : DeskValue) (files after : Option Files) (to : List ℕ) (next : Progress) : Type 0 where
  pub desk : KeepsDesk session v w []
  pub begins : BeginsSo session kind served s (w.live session) files after to next
