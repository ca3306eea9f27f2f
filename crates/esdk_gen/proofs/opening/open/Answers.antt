use Rattle.std.proofs.Common.{◌∙◌, sym}
use Rattle.esdk_gen.proofs.Openings.{all_opened, opening_ends}
use Rattle.esdk_gen.proofs.opening.open.Goals as goal

pub feed_message-requires : goal.feed_message-requires
feed_message-requires c = let (key, text, idle, whole) = c.requires in (key, text, c.in_ok-id.ensures key c.args.message.now text idle whole)

pub unreachable-requires : goal.unreachable-requires
unreachable-requires c =
    let (key, text, idle, whole) = c.requires in
    let is = c.in_ok-opened.ensures key text (c.in_ok-id.ensures key c.args.message.now text idle whole) in
    let answer = sym c.in-Err.is ∙ c.end.ensures.answer is.at.value is.at.stands ∙ opening_ends c.feed_message.new.desk key c.in_ok-id.id c.args.message.now text c.in_ok-opened.opened is in
    absurd cc

pub returns : goal.returns
returns c = λ key text idle whole.
    all_opened c.feed_message.new.desk key c.in_ok-id.id c.args.message.now text c.in_ok-opened.opened (c.in_ok-opened.ensures key text (c.in_ok-id.ensures key c.args.message.now text idle whole))
