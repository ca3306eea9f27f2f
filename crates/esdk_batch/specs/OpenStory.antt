-- What a decrypt job comes to. Standard: AWS Encryption SDK Specification, "Decrypt".
use Rattle.std.specs.Prelude.{◌≡◌, ◌⊎◌, ◌≤◌, ℕ, List, [], length, take, Some, None}
use Rattle.esdk_base.specs.Streams.{most_input}
use Rattle.header_codec.specs.Header.{no_limits}
use Rattle.esdk_fields.specs.declared.faults.Fault.{Fault}
use Rattle.esdk_fields.specs.declared.refusals.Outside.TheVariants as outsides
use Rattle.context_codec.specs.Context.{KeyValue}
use Rattle.keyring_trait.specs.Saying.{Saying}
use Rattle.keyring_trait.specs.Unlocking.{Unlocking}
use Rattle.body_format.specs.declared.verdicts.Verdict.TheVariants.{Whole}
use Rattle.message_format.specs.Judgement.{Judged, content, judged}
use Rattle.esdk_decrypt.specs.Decrypt.{fault_at_end}
use Rattle.batch_report.specs.declared.job_lines.JobEnd.{JobEnd}
use Rattle.batch_report.specs.declared.job_lines.JobEnd.TheVariants as ends
use Rattle.esdk_batch.specs.Answering.{HasAnswer, HasFailed}
use Rattle.esdk_batch.specs.SealStory.{Seen, held_or_none}

-- the judgement of bytes under this answer
abbrev pub judged_under : Unlocking → List ℕ → Judged
judged_under answer bytes = judged bytes no_limits answer

-- What it reads is judged by the manager's answer to its header, whose materials were served so,
-- and its file holds a front of what that releases.
pub record OpensFront (manager : Saying) (given : List KeyValue) (seen : Seen) : Type 0 where
  pub answer : Unlocking
  pub answered : HasAnswer manager no_limits given (held_or_none seen.from) seen.served answer
  pub count : ℕ
  pub front : seen.to ≡ Some (take count (content (judged_under answer (held_or_none seen.from))))

-- its file holds nothing, or a front of that
abbrev pub OpenJobLeavesFront : Saying → List KeyValue → Seen → Type 0
OpenJobLeavesFront manager given seen = (seen.to ≡ Some []) ⊎ OpensFront manager given seen

-- What it reads is judged by the manager's answer to its header, whose materials were served so,
-- and its file holds what that releases.
pub record JobOpens (manager : Saying) (given : List KeyValue) (seen : Seen) (bytes : List ℕ)
    (answer : Unlocking) : Type 0 where
  pub from : seen.from ≡ Some bytes
  pub answered : HasAnswer manager no_limits given bytes seen.served answer
  pub to : seen.to ≡ Some (content (judged_under answer bytes))

-- What it reads is a whole message, and its file holds the message's content.
pub record JobOpensWhole (manager : Saying) (given : List KeyValue) (seen : Seen) : Type 0 where
  pub bytes : List ℕ
  pub answer : Unlocking
  pub opens : JobOpens manager given seen bytes answer
  pub whole : (judged_under answer bytes).verdict ≡ Whole

-- What it reads has this fault, and its file holds what was released before.
pub record OpenJobFindsFault (manager : Saying) (given : List KeyValue) (seen : Seen)
    (fault : Fault) : Type 0 where
  pub bytes : List ℕ
  pub answer : Unlocking
  pub opens : JobOpens manager given seen bytes answer
  pub cause : fault_at_end (judged_under answer bytes).verdict ≡ Some fault

-- The manager failed when it was asked about the header of what the job reads, and its file holds
-- nothing.
pub record OpenJobManagerFails (manager : Saying) (given : List KeyValue) (seen : Seen)
    : Type 0 where
  pub bytes : List ℕ
  pub from : seen.from ≡ Some bytes
  pub failed : HasFailed manager no_limits given bytes
  pub unserved : seen.served ≡ None
  pub to : seen.to ≡ Some []

-- It took 2^62 bytes, its end wasn't seen, and its file holds nothing, or a front of what they
-- release.
pub record OpenJobIsTooLong (manager : Saying) (given : List KeyValue) (seen : Seen) : Type 0 where
  pub front : OpenJobLeavesFront manager given seen
  pub long : most_input ≤ length (held_or_none seen.from)

-- what it comes to, by how it ended
abbrev pub OpensSo : Saying → List KeyValue → Seen → JobEnd → Type 0
OpensSo manager given seen ends.Done = JobOpensWhole manager given seen
OpensSo manager given seen (ends.Fault fault) = OpenJobFindsFault manager given seen fault
OpensSo manager given seen (ends.Outside outsides.KeyringFault) =
    OpenJobManagerFails manager given seen
OpensSo manager given seen (ends.Outside outsides.ShelfFault) =
    (seen.to ≡ seen.before) ⊎ OpenJobLeavesFront manager given seen
OpensSo manager given seen (ends.Outside outsides.InputTooLong) =
    OpenJobIsTooLong manager given seen
OpensSo manager given seen (ends.Outside outside) = ⊥
OpensSo manager given seen (ends.Refusal refusal) = ⊥
