-- The codes of why no range of a message comes.
use Rattle.std.specs.Prelude.{ℕ, None}
use Rattle.c_session.specs.declared.no_range.NoRange.{NoRange}
use Rattle.c_session.specs.declared.no_range.NoRange.TheVariants as errors
use Rattle.c_session.specs.FileSession.{answer_code}
use Rattle.c_session.specs.Reason.{code_of_reason}

abbrev pub no_range_code : NoRange → ℕ
no_range_code (errors.Call answer) = answer_code answer None
no_range_code (errors.Reason reason) = code_of_reason reason
no_range_code errors.TooFar = 2009
no_range_code errors.Missing = 2010
