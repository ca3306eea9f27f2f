use Rattle.stream_seal.proofs.FeedingAll.{fed_any_cut, feeds_all}
use Rattle.stream_seal.proofs.laws.fed_pieces_give_the_message.Goals as goal

pub returns-clause-all : goal.returns-clause-all
returns-clause-all c = feeds_all

pub returns-clause-message : goal.returns-clause-message
returns-clause-message c = fed_any_cut
