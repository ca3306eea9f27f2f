use Rattle.esdk_report.proofs.Members.{members_go_on}
use Rattle.esdk_report.proofs.context_line.push_members.Goals as goal

pub loop-i-preserved : goal.loop-i-preserved
loop-i-preserved c =
    members_go_on _ c.loop-i.out c.push_member.new.out c.args.pairs.now c.loop-i.i c.index-pairs-i.result c.loop-i-test.true c.index-pairs-i.is c.loop-i.invariant
    c.in_ok-push_member.ensures
