use Rattle.std.proofs.Common.{◌++◌, false}
use Rattle.serde_json.specs.Written.{members_text}
use Rattle.esdk_report.specs.ContextLine.{members_of}
use Rattle.esdk_report.proofs.Members.{MembersGo}
use Rattle.esdk_report.proofs.context_line.push_members.Given as goal

abbrev pub invariant-loop-i : goal.invariant-loop-i
invariant-loop-i l = MembersGo (l.fn.out ++ members_text false (members_of l.pairs)) l.out l.pairs l.i
