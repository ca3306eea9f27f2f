use Rattle.stream_seal.proofs.Feeding.{begin_fed, feeding_ends, feeds, finishes, refuses_piece}
use Rattle.stream_seal.proofs.FeedingSteps.{step_feeds}
use Rattle.stream_seal.proofs.laws.feeding_comes_to_its_end.Goals as goal

pub returns-clause-begins : goal.returns-clause-begins
returns-clause-begins c = begin_fed

pub returns-clause-steps : goal.returns-clause-steps
returns-clause-steps c = step_feeds

pub returns-clause-ends : goal.returns-clause-ends
returns-clause-ends c = feeding_ends

pub returns-clause-feeds : goal.returns-clause-feeds
returns-clause-feeds c = feeds

pub returns-clause-refuses : goal.returns-clause-refuses
returns-clause-refuses c = refuses_piece

pub returns-clause-finishes : goal.returns-clause-finishes
returns-clause-finishes c = finishes
