-- What a run comes to, and that a run came to it.
use Rattle.std.specs.Prelude.{◌≡◌, ◌⊎◌, ℕ, List, [], ◌∷◌, ⊤, Some, Ok}
use Rattle.std.specs.Io.KnownBytes.{Appends}
use Rattle.esdk_fields.specs.Counts.{Rose}
use Rattle.esdk_fields.specs.declared.refusals.Outside.TheVariants as outsides
use Rattle.esdk_base.specs.Sink.{AppendsFront}
use Rattle.keyring_trait.specs.Keyring.{KeyringMeaning}
use Rattle.esdk_report.specs.Lines.{printed_line}
use Rattle.esdk_report.specs.Report.{ReportGains, IsReported, failure_status, failure_line}
use Rattle.esdk_report.specs.declared.failure.Failure.{Failure}
use Rattle.esdk_report.specs.declared.failure.Failure.TheVariants as failures
use Rattle.esdk_run.specs.Trees.{TreeGoes}
use Rattle.esdk_program.specs.World.{Run, World}

-- The status, and what the output and the report gain.
pub record Effect : Type 0 where
  pub code : ℕ
  pub output : List ℕ
  pub report : List ℕ

-- all is done, and this is on the output and on the report
abbrev pub done_with : List ℕ → List ℕ → Effect
done_with output report = record { code = 0; output = output; report = report }

-- a refusal, a fault or an outside failure, with this on the output and its line on the report
abbrev pub refused : List ℕ → Failure → Effect
refused output failure = record {
  code = failure_status failure;
  output = output;
  report = printed_line (failure_line failure);
}

-- ---- the run did this

-- The status is the effect's; the output gained its bytes; and the report its line, or a front of
-- that, where a write of it failed.
pub record DoesAll (r : Run) (e : Effect) : Type 0 where
  pub code : r.code ≡ e.code
  pub output : Appends r.before.output.written r.after.output.written e.output
  pub report : ReportGains e.report r.before.report r.after.report

-- ---- or it was disturbed

-- A keyring failed: the tree that the world has in a file of some name is given back with its keys,
-- and its count of faults rose.
pub record KeyringFailed (r : Run) (world : World) : Type 0 where
  pub name : List ℕ
  pub bytes : List ℕ
  pub tree : KeyringMeaning
  pub left : KeyringMeaning
  pub file : world.files name ≡ Some bytes
  pub read : r.trees.read bytes ≡ Ok (tree ∷ [])
  pub kept : r.trees.kept ≡ Some left
  pub goes : TreeGoes tree left
  pub rose : Rose tree.faults left.faults

-- What this failure is about failed: a count of faults rose, or is worn. Memory may be wanting at
-- any time.
abbrev pub RunFailed : Run → World → Failure → Type 0
RunFailed r world (failures.Outside outsides.SourceFault) =
    Rose r.before.input.faults r.after.input.faults
RunFailed r world (failures.Outside outsides.SinkFault) =
    Rose r.before.output.faults r.after.output.faults
RunFailed r world (failures.Outside outsides.ShelfFault) =
    Rose r.before.shelf.faults r.after.shelf.faults
RunFailed r world (failures.Outside outsides.EntropyFault) =
    Rose r.before.entropy.faults r.after.entropy.faults
RunFailed r world (failures.Outside outsides.KeyringFault) = KeyringFailed r world
RunFailed r world failures.Memory = ⊤
RunFailed r world failure = ⊥

-- Memory ran out, or an object or a keyring failed. The status and the report's line are those of
-- that, and the output gained a front.
pub record IsStopped (r : Run) (world : World) (e : Effect) : Type 0 where
  pub failure : Failure
  pub why : RunFailed r world failure
  pub said : IsReported failure r.code r.before.report r.after.report
  pub front : AppendsFront r.before.output.written r.after.output.written e.output

-- A write of the report failed at the end. All was done but that, and the status is 4.
pub record RunLosesReport (r : Run) (e : Effect) : Type 0 where
  pub done : e.code ≡ 0
  pub code : r.code ≡ 4
  pub output : Appends r.before.output.written r.after.output.written e.output
  pub report : AppendsFront r.before.report.written r.after.report.written e.report
  pub rose : Rose r.before.report.faults r.after.report.faults

-- ---- both

-- The run was stopped; or its report was lost; or a keyring failed: of `encrypt`, `decrypt` and
-- `extract` that are done `Keeps` says what was written then.
abbrev pub IsDisturbed : Run → World → Effect → Type 0
IsDisturbed r world e = IsStopped r world e ⊎ RunLosesReport r e ⊎ KeyringFailed r world

-- The run did just this, or it was disturbed.
abbrev pub RunComesTo : Run → World → Effect → Type 0
RunComesTo r world e = DoesAll r e ⊎ IsDisturbed r world e
