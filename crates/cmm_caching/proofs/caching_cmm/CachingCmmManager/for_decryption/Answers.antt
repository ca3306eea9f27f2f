-- All that the manager promises of the answer.
use Rattle.std.proofs.Common.{◌≡◌}
use Rattle.std.specs.Prelude.{IfErr}
use Rattle.keyring_trait.specs.declared.manager_errors.ManagerError.TheVariants.{Memory}
use Rattle.cmm_caching.proofs.Opened.{open_answered, open_promises}
use Rattle.cmm_caching.proofs.caching_cmm.CachingCmmManager.for_decryption.Goals as goal

pub returns : goal.returns
returns g c =
    let p = open_promises c.self.inside.cache c.open.new.cache (g.M.Manager.state c.self.inside.inner) (g.M.Manager.state c.open.new.inner)
    c.args.request.now c.args.now c.open.result c.open.ensures.opens c.open.ensures.asked c.open.ensures.sound in
    rw (← c.self.view_is)
    (record {
      went = p.went;
      finds = p.finds;
      cause = p.cause;
      bears = p.bears;
      found = c.open.ensures.opens.last;
      answers = p.answers;
      stands = p.stands;
      spares = λ s stands. open_answered (c.open.new.inner ≡ c.self.inside.inner) c.self.inside.cache (g.M.Manager.state c.self.inside.inner) c.args.request.now c.args.now s
          c.open.ensures.spares stands;
      certain = λ s stands. open_answered (IfErr c.open.result (λ error. error ≡ Memory)) c.self.inside.cache (g.M.Manager.state c.self.inside.inner) c.args.request.now c.args.now s
          c.open.ensures.certain stands;
      limits = p.limits;
    })
