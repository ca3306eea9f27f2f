use Rattle.std.proofs.Common.{◌∙◌, sym}
use Rattle.esdk_decrypt.proofs.Concluding.{ends_named, has_context, is_whole, some_context, unstopped_finish}
use Rattle.esdk_decrypt.proofs.decryption.whole_context.Goals as goal

pub named-requires : goal.named-requires
named-requires c = λ stopped.
    let going = c.requires in
    unstopped_finish going.session going.goes (sym (c.finish.ensures.answer going.session going.stands) ∙ rw stopped at c.in-Err.is)

pub returns-in-Err : goal.returns-in-Err
returns-in-Err c = λ v stands goes. ends_named v c.in-Err.error c.named.result goes (sym (c.finish.ensures.answer v stands) ∙ c.in-Err.is) c.named.ensures

pub unreachable-requires : goal.unreachable-requires
unreachable-requires c =
    let going = c.requires in
    let v = going.session in
    let whole = is_whole v going.goes (sym (c.finish.ensures.answer v going.stands) ∙ c.in_default.is) in
    some_context v whole (sym (c.into_context.ensures _ (c.finish.ensures.stands v going.stands)) ∙ c.in-None.is)

pub returns : goal.returns
returns c = λ v stands goes. (
  is_whole v goes (sym (c.finish.ensures.answer v stands) ∙ c.in_default.is),
  has_context v c.in-Some.context (sym (c.into_context.ensures _ (c.finish.ensures.stands v stands)) ∙ c.in-Some.is),
)
