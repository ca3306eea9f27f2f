-- Each insertion is of one name more.
use Rattle.std.proofs.Common.{arith}
use Rattle.job_file.proofs.NameSets.{read_more, all_read}
use Rattle.job_file.proofs.names.names_read.Goals as goal

pub loop-job-preserved : goal.loop-job-preserved
loop-job-preserved c =
    read_more c.args.jobs.now c.loop-job.job-index c.job-item.result (omega (arith, c.loop-job-test.true)) c.job-item.is c.loop-job.names c.insert.new.self c.as_str.result c.as_str.ensures.text
    c.loop-job.invariant c.in_ok-insert.ensures.updates

pub returns : goal.returns
returns c =
    all_read c.args.jobs.now c.loop-job.job-index c.args.own_name c.args.keyring c.loop-job.names c.insert-2.new.self c.insert-3.new.self (omega (arith, c.loop-job-test.false))
    c.loop-job.invariant c.in_ok-insert-2.ensures.updates c.in_ok-insert-3.ensures.updates
