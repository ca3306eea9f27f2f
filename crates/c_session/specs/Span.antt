-- Where the bytes of a message stand that hold a range of its text, by its header alone.
-- AWS Encryption SDK, message body, "Framed Data" and "Nonframed Data".
use Rattle.std.specs.Prelude.{◌≡◌, ◌≤◌, ◌⊎◌, ℕ, ◌+◌, ◌-◌, ◌*◌, ◌^◌, Bool, List, Result, Ok, Err}
use Rattle.esdk_fields.specs.declared.contents.Content.{Content}
use Rattle.esdk_fields.specs.declared.contents.Content.TheVariants.{Single, Framed}
use Rattle.header_codec.specs.Header.{HeaderValue, frame_length}
use Rattle.esdk_list.specs.List.{BeginsWithHeader, list_settings}
use Rattle.extract_core.specs.Extract.{body_begin, range_of}
use Rattle.extract_core.specs.Extracted.{ByteRange, first_slot, slot_count, slot_width}
use Rattle.c_session.specs.declared.no_range.NoRange.{NoRange}
use Rattle.c_session.specs.declared.no_range.NoRange.TheVariants as errors
use Rattle.c_session.specs.declared.span.Span.{Span}
use Rattle.c_session.specs.Front.{ReadsHeaderFront}

-- how many bytes of the body hold the range at the most: the slots that the range names, of which
-- the last may be a final frame, with 8 bytes more; of a single block all that there are
abbrev pub slots_size : Content → ByteRange → ℕ
slots_size Single range = 2 ^ 64 - 1
slots_size (Framed frame) range = slot_count (Framed frame) range * slot_width (Framed frame) + 8

-- It tells where the body begins and how it is cut, and where the first of these slots stands.
pub record IsSpan (begin : ℕ) (content : Content) (range : ByteRange) (span : Span) : Type 0 where
  pub header : span.header ≡ begin
  pub frame : span.frame ≡ frame_length content
  pub offset : span.offset ≡ begin + first_slot content range * slot_width content
  pub size : span.length ≡ slots_size content range

-- In a body of frames there is no such range: it has no bytes, or it ends behind all that 64 bits
-- can tell, or the bytes that hold it end there.
abbrev pub IsTooFar : ℕ → Content → ByteRange → Type 0
IsTooFar begin Single range = ⊥
IsTooFar begin (Framed frame) range = (range.count ≡ 0)
    ⊎ (2 ^ 64 ≤ range.at + range.count)
    ⊎ (2 ^ 64 ≤ begin + first_slot (Framed frame) range * slot_width (Framed frame)
    + slots_size (Framed frame) range)

-- So it is of the header that the bytes begin with, for so many bytes of the text from one on; or
-- there is none, for this reason, or the range is empty or too far off behind that header.
abbrev pub SpansFront : Bool → List ℕ → ℕ → ℕ → Result Span NoRange → Type 0
SpansFront uncommitted message at count (Ok span) = (h : HeaderValue)
    × BeginsWithHeader uncommitted h message
    × IsSpan (body_begin h) h.content (range_of at count) span
SpansFront uncommitted message at count (Err (errors.Reason reason)) =
    ReadsHeaderFront (list_settings uncommitted) message (Err reason)
SpansFront uncommitted message at count (Err errors.TooFar) = (count ≡ 0)
    ⊎ ((h : HeaderValue) × BeginsWithHeader uncommitted h message
    × IsTooFar (body_begin h) h.content (range_of at count))
SpansFront uncommitted message at count (Err error) = ⊥
