use Rattle.run_cases.proofs.values.+prefixed.Given as goal

abbrev pub decreases-prefixed : goal.decreases-prefixed
decreases-prefixed l = l.most
