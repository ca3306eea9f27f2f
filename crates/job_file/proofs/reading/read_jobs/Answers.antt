-- No name clashes.
use Rattle.std.proofs.Common.{◌≡◌, List, [], rules, sym, ap, subst, ◌∙◌}
use Rattle.std.specs.Prelude.{None, option_map}
use Rattle.job_file.specs.declared.job.Job.{Job}
use Rattle.job_file.specs.Jobs.{clash_among, read_names}
use Rattle.job_file.proofs.Apart.{reads_apart, written_apart}
use Rattle.job_file.proofs.reading.read_jobs.Goals as goal

pub new-requires-3 : goal.new-requires-3
new-requires-3 c =
    let head = c.in-Some.ensures.bounded in
    let none = sym c.in_ok-name.ensures ∙ ap (option_map (λ name. name.now)) c.in-None.is in
    let clear = subst (λ (jobs : List Job). clash_among (read_names c.args.own_name.now c.in-Some.head.keyring.now jobs) [] jobs ≡ None) c.deref.ensures.value none in
    record {
      wide = head.wide;
      narrow = head.narrow;
      some = head.some;
      short = head.short;
      limits = head.limits;
      jobs = search rules;
      few = search rules;
      fit = c.in_ok-jobs.ensures.fit;
      unread = reads_apart _ _ _ clear;
      apart = written_apart _ _ clear;
    }
