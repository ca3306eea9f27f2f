use Rattle.aes_core.proofs.key.Key256.page.Goals as goal

pub returns-clause-page : goal.returns-clause-page
returns-clause-page c = rw (← c.self.view_is) (c.page_of.ensures.page _ c.self.invariant.0 c.self.invariant.2)
