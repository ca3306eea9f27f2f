use Rattle.body_format.proofs.TableLaws.{frames_tabled, first_found}
use Rattle.body_format.proofs.BlockTable.{block_tabled}
use Rattle.body_format.proofs.laws.bodies_are_judged_by_the_table.Goals as goal

pub returns : goal.returns
returns c = record { frames = frames_tabled; block = block_tabled; first = first_found }
