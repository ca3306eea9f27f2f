use Rattle.std.proofs.Common.{refl}
use Rattle.reseal_core.proofs.Sessions.{seen_ends}
use Rattle.reseal_core.proofs.input.finish_at.Goals as goal

pub returns-in-Seen-clause-ends : goal.returns-in-Seen-clause-ends
returns-in-Seen-clause-ends g c = λ v stands going. rw c.in-Seen.is (seen_ends v _ _ c.finish_whole.result (c.finish_whole.ensures.ends v stands going))

pub returns-in-Failed-clause-ends : goal.returns-in-Failed-clause-ends
returns-in-Failed-clause-ends g c = λ v stands going. rw c.in-Failed.is refl

pub returns-in-TooLong-clause-ends : goal.returns-in-TooLong-clause-ends
returns-in-TooLong-clause-ends g c = λ v stands going. rw c.in-TooLong.is refl

pub returns-in-Seen-clause-stands : goal.returns-in-Seen-clause-stands
returns-in-Seen-clause-stands g c = c.finish_whole.ensures.stands

pub returns-in-Failed-clause-stands : goal.returns-in-Failed-clause-stands
returns-in-Failed-clause-stands g c = λ v stands going. tt

pub returns-in-TooLong-clause-stands : goal.returns-in-TooLong-clause-stands
returns-in-TooLong-clause-stands g c = λ v stands going. tt
