use Rattle.c_session.proofs.NewKeys.{begins_anew}
use Rattle.c_session.proofs.new_keys.reseal_under.Goals as goal

pub returns : goal.returns
returns c = λ file reads.
    begins_anew c.args.session c.reseal.result.1 file c.args.sealing c.args.frame_length c.args.settings c.args.random.now c.reseal.result.0
    c.requires.set_up reads c.reseal.ensures
