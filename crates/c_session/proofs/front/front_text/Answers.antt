use Rattle.c_session.proofs.front.front_text.Goals as goal

pub returns-in-Ok-list_text : goal.returns-in-Ok-list_text
returns-in-Ok-list_text c =
    (c.in-Ok.header, (rw c.settings.ensures at c.in-Ok.ensures), c.in-Ok-list_text.ensures)
