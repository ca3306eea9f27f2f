-- What the members come to is what those that are left come to, behind the pairs so far.
use Rattle.std.proofs.Common.{◌≡◌, []}
use Rattle.serde_json.specs.View.{members_view}
use Rattle.job_file.specs.JobForm.{member_pairs}
use Rattle.job_file.proofs.contexts.pairs_in.Given as goal

abbrev pub invariant-loop-key : goal.invariant-loop-key
invariant-loop-key l = member_pairs [] (members_view l.members.entries) ≡ member_pairs l.context (members_view l.key-iterator)
