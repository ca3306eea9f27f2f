use Rattle.stream_seal.specs.Session.{new_sealing_session}
use Rattle.c_session.proofs.Sealings.{seals_first}
use Rattle.c_session.proofs.sealing.begin_sealer.Goals as goal

pub returns-in-Ok-take-clause-seals : goal.returns-in-Ok-take-clause-seals
returns-in-Ok-take-clause-seals c =
    let stands = c.in-Ok.ensures.stands in
    seals_first c.args.materials.now c.args.declared c.args.frame_length c.args.message_id.now
    c.in-Ok.sealer c.args.waiting.now c.header.result.now c.take.new.self c.requires.some stands
    (c.header.ensures (new_sealing_session c.args.materials.now c.args.declared c.args.frame_length
    c.args.message_id.now) stands)
    c.requires.none c.in-Ok-take.ensures
