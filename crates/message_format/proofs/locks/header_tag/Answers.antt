-- The text is that of the pairs.
use Rattle.message_format.proofs.locks.header_tag.Goals as goal

pub returns-clause-tag : goal.returns-clause-tag
returns-clause-tag c = rw (c.bytes.ensures, c.in_ok-text.ensures.text) at c.tag_of.ensures.tag
