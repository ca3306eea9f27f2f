use Rattle.session_parts.proofs.opening.open_piece.Goals as goal

pub returns-clause-fed : goal.returns-clause-fed
returns-clause-fed g c = c.feed.ensures.fed
