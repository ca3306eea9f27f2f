-- What the inner manager finds is what it found last.
use Rattle.cmm_caching.proofs.Fitting.{was_found}
use Rattle.cmm_caching.proofs.opening.ask_to_open.Goals as goal

pub returns-clause-last : goal.returns-clause-last
returns-clause-last g c =
    was_found ((g.M.Manager.state c.for_decryption.new.self).found (g.M.Manager.state c.args.inner.now).uses c.args.request.now c.args.now) c.in_ok-found.found c.of_opening.result c.in_ok-found.ensures.found c.of_opening.ensures
