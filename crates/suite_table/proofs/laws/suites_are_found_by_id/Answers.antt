use Rattle.suite_table.proofs.SuiteLemmas.{found_has_id, is_found_by_id}
use Rattle.suite_table.proofs.laws.suites_are_found_by_id.Goals as goal

pub returns : goal.returns
returns c id suite = (found_has_id id suite, is_found_by_id id suite)
