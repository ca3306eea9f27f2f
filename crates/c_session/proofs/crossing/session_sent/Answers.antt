use denote.Param.Send.{sendable}
use Rattle.c_session.proofs.Crosses.{session_send}
use Rattle.c_session.proofs.crossing.session_sent.Goals as goal

pub sent-requires : goal.sent-requires
sent-requires c = search (session_send, sendable)
