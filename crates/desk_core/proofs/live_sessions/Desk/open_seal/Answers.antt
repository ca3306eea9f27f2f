-- The sealer that is made live stands for a session that took nothing.
use Rattle.std.proofs.Common.{ℕ, ◌+◌, refl, ap}
use Rattle.keyring_trait.specs.Saying.{Saying, said_last}
use Rattle.desk_core.specs.declared.live_sessions.Desk.{Desk}
use Rattle.desk_core.specs.declared.live_sessions.Lent.TheVariants as lents
use Rattle.desk_core.proofs.Openings.{opens_seal_at}
use Rattle.desk_core.proofs.live_sessions.Desk.open_seal.Goals as goal

pub returns-clause-opens : goal.returns-clause-opens
returns-clause-opens g c = λ v stands.
    let manager : Saying = said_last (g.M.Manager.state c.args.self.now.manager) (g.M.Manager.state c.begin_sealing.new.manager) in
    let next : Desk g.row.M.Denot =
    record { manager = c.begin_sealing.new.manager; sessions = c.insert.new.sessions; last_id = c.args.self.now.last_id + 1; journal = c.begin_sealing.new.journal; lent = lents.Nothing } in
    opens_seal_at manager next v c.args.request.now c.args.now c.args.random.now c.in_ok-session.session c.insert.result c.args.self.now.journal.items (c.args.self.now.last_id + 1)
    (ap (λ (n : ℕ). n + 1) stands.last) c.in_ok-session.ensures.begins stands.journal stands.undrawn refl refl c.insert.ensures.number c.insert.ensures.memory
    (λ s machine live. c.insert.ensures.ok v.live s stands.sessions machine live) (c.insert.ensures.err v.live stands.sessions)
