-- What the inner manager gives fits the request, and is what it gave last.
use Rattle.cmm_caching.proofs.Fitting.{gave_fits, was_given}
use Rattle.cmm_caching.proofs.sealing.ask_to_seal.Goals as goal

pub returns-clause-fits : goal.returns-clause-fits
returns-clause-fits g c =
    gave_fits _ c.args.request.now c.args.random.now c.in_ok-made.made c.of_sealing.result c.in_ok-made.ensures.gives c.of_sealing.ensures.given c.of_sealing.ensures.materials

pub returns-clause-last : goal.returns-clause-last
returns-clause-last g c =
    was_given ((g.M.Manager.state c.for_encryption.new.self).gave (g.M.Manager.state c.args.inner.now).uses c.args.request.now c.args.now c.args.random.now) c.in_ok-made.made c.of_sealing.result c.in_ok-made.ensures.gave
    c.of_sealing.ensures.given
