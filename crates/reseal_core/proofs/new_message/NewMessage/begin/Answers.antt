use Rattle.std.proofs.Common.{inl, inr, refl}
use Rattle.std.proofs.lemmas.Result.{err_from_is_err_and}
use Rattle.keyring_trait.specs.Saying.{Saying, said_last}
use Rattle.reseal_core.specs.NewMessage.{MaterialsAreGiven}
use Rattle.reseal_core.proofs.NewMessages.{begins, header_fails, not_given, not_started}
use Rattle.reseal_core.proofs.new_message.NewMessage.begin.Goals as goal

-- ---- what it comes to

pub returns-in_err-materials-clause-begins : goal.returns-in_err-materials-clause-begins
returns-in_err-materials-clause-begins g c = λ size random text written.
    let saying : Saying = said_last (g.B.Manager.state c.args.sealing.now) (g.B.Manager.state c.materials_for.new.sealing) in
    let p = err_from_is_err_and c.from_residual.result c.from_residual.ensures.1 in
    rw (p.1, p.2) (inr (not_given saying c.args.now random c.args.whole.now c.args.only.now c.in_err-materials.field-0.0 c.in_err-materials.ensures.gives, refl))

pub returns-in_err-sealer-clause-begins : goal.returns-in_err-sealer-clause-begins
returns-in_err-sealer-clause-begins g c = λ size random text written.
    let saying : Saying = said_last (g.B.Manager.state c.args.sealing.now) (g.B.Manager.state c.materials_for.new.sealing) in
    let p = err_from_is_err_and c.from_residual-in_err-sealer.result c.from_residual-in_err-sealer.ensures.1 in
    rw (p.1, p.2, ← written.random_is)
    (inr (
      not_started saying c.args.now c.args.self.now.random c.args.whole.now c.args.only.now c.in_ok-materials.materials c.in_err-sealer.field-0.0 (rw c.bytes.ensures at c.in_ok-materials.ensures.gives) c.in_err-sealer.ensures.sound
          c.in_err-sealer.ensures.cause,
      refl,
    ))

pub returns-in_default-clause-begins : goal.returns-in_default-clause-begins
returns-in_default-clause-begins g c = λ size random text written.
    let saying : Saying = said_last (g.B.Manager.state c.args.sealing.now) (g.B.Manager.state c.materials_for.new.sealing) in
    let given : MaterialsAreGiven saying c.args.now c.args.self.now.random c.args.whole.now c.args.only.now c.in_ok-materials.materials =
    record { given = rw c.bytes.ensures at c.in_ok-materials.ensures.gives; sound = c.in_ok-sealer.ensures.sound; begins = c.in_ok-sealer.ensures.taken } in
    inl (
      refl,
      header_fails saying c.args.now c.args.whole.now c.args.only.now c.args.self.now size random text c.in_ok-materials.materials written given c.header.result.now (c.header.ensures _ c.in_ok-sealer.ensures.stands)
          (g.O.Sink.state c.args.output.now) (g.O.Sink.state c.put.new.self) c.in_default.ensures.bytes c.in_default.ensures.cause.failed,
    )

pub returns-clause-begins : goal.returns-clause-begins
returns-clause-begins g c = λ size random text written.
    let saying : Saying = said_last (g.B.Manager.state c.args.sealing.now) (g.B.Manager.state c.materials_for.new.sealing) in
    let given : MaterialsAreGiven saying c.args.now c.args.self.now.random c.args.whole.now c.args.only.now c.in_ok-materials.materials =
    record { given = rw c.bytes.ensures at c.in_ok-materials.ensures.gives; sound = c.in_ok-sealer.ensures.sound; begins = c.in_ok-sealer.ensures.taken } in
    begins saying c.args.now c.args.whole.now c.args.only.now c.args.self.now size random text c.in_ok-materials.materials written given c.header.result.now (c.header.ensures _ c.in_ok-sealer.ensures.stands)
    (g.O.Sink.state c.args.output.now) (g.O.Sink.state c.put.new.self) c.in_ok-sealer.sealer c.in_ok-sealer.ensures.stands c.in-Ok.ensures.bytes c.in-Ok.ensures.cause.same

-- ---- what the manager bears

pub returns-in_err-materials-clause-bears : goal.returns-in_err-materials-clause-bears
returns-in_err-materials-clause-bears g c =
    let p = err_from_is_err_and c.from_residual.result c.from_residual.ensures.1 in rw p.1 c.in_err-materials.ensures.bears

pub returns-in_err-sealer-clause-bears : goal.returns-in_err-sealer-clause-bears
returns-in_err-sealer-clause-bears g c =
    let p = err_from_is_err_and c.from_residual-in_err-sealer.result c.from_residual-in_err-sealer.ensures.1 in rw p.1 (inr c.in_ok-materials.ensures.bears)

pub returns-in_default-clause-bears : goal.returns-in_default-clause-bears
returns-in_default-clause-bears g c = inr c.in_ok-materials.ensures.bears

pub returns-clause-bears : goal.returns-clause-bears
returns-clause-bears g c = c.in_ok-materials.ensures.bears
