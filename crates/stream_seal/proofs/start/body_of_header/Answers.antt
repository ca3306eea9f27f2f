use Rattle.message_format.specs.Message.{header_body}
use Rattle.stream_seal.proofs.start.body_of_header.Goals as goal

pub returns-clause-body : goal.returns-clause-body
unfolding header_body
returns-clause-body c =
    rw (c.in_ok-stored.ensures, c.required.ensures.required, c.context.ensures.context, c.entries.ensures.entries, c.requires.commits) at c.write_header.ensures.written

pub returns-clause-taken : goal.returns-clause-taken
returns-clause-taken c =
    rw (c.in_ok-stored.ensures, c.required.ensures.required, c.context.ensures.context, c.entries.ensures.entries) at c.write_header.ensures.taken

pub returns-clause-cause : goal.returns-clause-cause
returns-clause-cause c =
    rw (c.in_ok-stored.ensures, c.required.ensures.required, c.context.ensures.context, c.entries.ensures.entries) at c.write_header.ensures.cause
