use Rattle.std.proofs.Common.{refl}
use Rattle.esdk_encrypt.proofs.Messages.{finish_names, puts_last}
use Rattle.esdk_encrypt.proofs.writing.conclude.Goals as goal

pub written-requires : goal.written-requires
written-requires g c =
    finish_names g.O.Receiver.takes g.O.Receiver.fails c.requires.session _ _ c.finish_into.result c.requires.goes (c.finish_into.ensures.ends c.requires.session c.requires.stands)

pub returns-in-Seen : goal.returns-in-Seen
returns-in-Seen g c = λ v stands goes.
    rw c.in-Seen.is
    (puts_last g.O.Receiver.takes g.O.Receiver.fails v _ _ c.finish_into.result c.written.result c.written.ensures (c.finish_into.ensures.ends v stands))

pub returns-in-Failed : goal.returns-in-Failed
returns-in-Failed g c = λ v stands goes. rw c.in-Failed.is (refl, refl)

pub returns : goal.returns
returns g c = λ v stands goes. rw c.in-TooLong.is (refl, refl)
