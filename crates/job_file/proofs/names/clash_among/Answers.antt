-- The name at the index is the first that clashes, or none is.
use Rattle.std.proofs.Common.{rules, sym, ◌∙◌, arith}
use Rattle.job_file.specs.Jobs.{read_names}
use Rattle.job_file.proofs.Clashing.{clash_here, clash_later, clash_nowhere}
use Rattle.job_file.proofs.NameSets.{written_more}
use Rattle.job_file.proofs.names.clash_among.Goals as goal

pub returns-then-not-branch : goal.returns-then-not-branch
returns-then-not-branch c =
    sym (c.loop-job.invariant.none ∙ clash_here (read_names c.args.own_name.now c.args.keyring.now c.args.jobs.now) c.args.jobs.now c.loop-job.job-index c.job-item.result c.as_str-name.result.now _
    (omega (arith, c.loop-job-test.true)) c.job-item.is c.as_str-name.ensures.text (c.loop-job.invariant.those c.as_str-name.result) (search rules))

pub loop-job-preserved : goal.loop-job-preserved
loop-job-preserved c = record {
  those = written_more c.args.jobs.now c.loop-job.job-index c.job-item.result (omega (arith, c.loop-job-test.true)) c.job-item.is (read_names c.args.own_name.now c.args.keyring.now c.args.jobs.now)
      c.loop-job.taken c.insert.new.self c.as_str-name.result c.as_str-name.ensures.text c.loop-job.invariant.those c.in_ok-insert.ensures.updates;
  none = c.loop-job.invariant.none ∙ clash_later (read_names c.args.own_name.now c.args.keyring.now c.args.jobs.now) c.args.jobs.now c.loop-job.job-index c.job-item.result c.as_str-name.result.now _
      (omega (arith, c.loop-job-test.true)) c.job-item.is c.as_str-name.ensures.text (c.loop-job.invariant.those c.as_str-name.result) (search rules);
}

pub returns : goal.returns
returns c = sym (c.loop-job.invariant.none ∙ clash_nowhere (read_names c.args.own_name.now c.args.keyring.now c.args.jobs.now) c.args.jobs.now c.loop-job.job-index (omega (arith, c.loop-job-test.false)))
