use Rattle.extract_core.proofs.Judged.{extracts_content, extracts_whole}
use Rattle.extract_core.proofs.laws.extractions_are_of_the_content.Goals as goal

pub returns-clause-content : goal.returns-clause-content
returns-clause-content c = extracts_content

pub returns-clause-whole : goal.returns-clause-whole
returns-clause-whole c = extracts_whole
