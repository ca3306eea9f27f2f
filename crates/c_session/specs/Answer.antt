-- What an answer says.
use Rattle.std.specs.Prelude.{Bool, true, false}
use Rattle.c_session.specs.declared.answer.Answer.{Answer}
use Rattle.c_session.specs.declared.answer.Answer.TheVariants as answers

-- the caller may not call so, and nothing was changed
abbrev pub is_callers : Answer → Bool
is_callers answers.Done = false
is_callers answers.Failed = false
is_callers answer = true

-- it is done
abbrev pub is_done_answer : Answer → Bool
is_done_answer answers.Done = true
is_done_answer answer = false
