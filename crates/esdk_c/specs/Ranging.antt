-- What the calls come to that are about a range of a message.
use Rattle.std.specs.Prelude.{◌≡◌, ℕ, ℤ, pos, Bool, List, Result, Ok, Err}
use Rattle.c_session.specs.declared.no_range.NoRange.{NoRange}
use Rattle.c_session.specs.declared.span.Span.{Span}
use Rattle.c_session.specs.NoRange.{no_range_code}
use Rattle.c_session.specs.Span.{SpansFront}

-- the code is 0 where there is a span, else it says why there is none
abbrev pub span_code : Result Span NoRange → ℤ
span_code (Ok span) = pos 0
span_code (Err error) = pos (no_range_code error)

-- the span, and one of zeros where there is none
abbrev pub span_or_none : Result Span NoRange → Span
span_or_none (Ok span) = span
span_or_none (Err error) = record { header = 0; frame = 0; offset = 0; length = 0 }

-- It is told where the bytes stand that hold so many bytes of the text from one on, of the message
-- that begins so; or why that can't be told.
pub record SpansInto (uncommitted : Bool) (message : List ℕ) (at count : ℕ) (code : ℤ)
    (header frame offset size : ℕ) : Type 0 where
  pub came : Result Span NoRange
  pub spans : SpansFront uncommitted message at count came
  pub code_is : code ≡ span_code came
  pub header_is : header ≡ (span_or_none came).header
  pub frame_is : frame ≡ (span_or_none came).frame
  pub offset_is : offset ≡ (span_or_none came).offset
  pub size_is : size ≡ (span_or_none came).length
