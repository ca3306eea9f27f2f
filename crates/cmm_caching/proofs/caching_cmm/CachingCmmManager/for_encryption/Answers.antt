-- All that the manager promises of the answer.
use Rattle.std.proofs.Common.{◌≡◌}
use Rattle.std.specs.Prelude.{IfErr}
use Rattle.keyring_trait.specs.declared.manager_errors.ManagerError.TheVariants.{Memory}
use Rattle.cmm_caching.proofs.Sealed.{seal_answered, seal_promises}
use Rattle.cmm_caching.proofs.caching_cmm.CachingCmmManager.for_encryption.Goals as goal

pub returns : goal.returns
returns g c =
    let p = seal_promises c.self.inside.cache c.seal.new.cache (g.M.Manager.state c.self.inside.inner) (g.M.Manager.state c.seal.new.inner)
    c.args.request.now c.args.now c.args.random.now c.seal.result c.seal.ensures.seals c.seal.ensures.asked c.seal.ensures.plain c.seal.ensures.sound in
    rw (← c.self.view_is)
    (record {
      went = p.went;
      gives = p.gives;
      cause = p.cause;
      bears = p.bears;
      gave = c.seal.ensures.seals.last;
      answers = p.answers;
      stands = p.stands;
      spares = λ s stands. seal_answered (c.seal.new.inner ≡ c.self.inside.inner) c.self.inside.cache (g.M.Manager.state c.self.inside.inner) c.args.request.now c.args.now s
          c.seal.ensures.spares stands;
      certain = λ s stands. seal_answered (IfErr c.seal.result (λ error. error ≡ Memory)) c.self.inside.cache (g.M.Manager.state c.self.inside.inner) c.args.request.now c.args.now s
          c.seal.ensures.certain stands;
      limits = p.limits;
    })
