use Rattle.stream_open.proofs.Feeding.{opened_goes, feeds_exactly, feeds_compose, feeds_nothing, runs_out_before}
use Rattle.stream_open.proofs.laws.pieces_are_fed_to_their_end.Goals as goal

pub returns-clause-begins : goal.returns-clause-begins
returns-clause-begins c = opened_goes

pub returns-clause-once : goal.returns-clause-once
returns-clause-once c = feeds_exactly

pub returns-clause-on : goal.returns-clause-on
returns-clause-on c = feeds_compose

pub returns-clause-none : goal.returns-clause-none
returns-clause-none c = feeds_nothing

pub returns-clause-memory : goal.returns-clause-memory
returns-clause-memory c = runs_out_before
