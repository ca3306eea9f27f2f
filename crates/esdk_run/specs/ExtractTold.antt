-- What `extract` says over the tree that it gives back, where the shelf tells the message's file.
use Rattle.std.specs.Prelude.{◌≡◌, ℕ, ◌+◌, ◌≤◌, List, None, Some}
use Rattle.std.specs.Io.KnownBytes.{Appends}
use Rattle.esdk_args.specs.declared.request.ExtractWords.{ExtractWords}
use Rattle.esdk_fields.specs.Counts.{Stayed}
use Rattle.esdk_fields.specs.declared.contents.Content.{Content}
use Rattle.esdk_fields.specs.declared.faults.Fault.{Fault}
use Rattle.esdk_base.specs.Shelf.{Holds}
use Rattle.esdk_base.specs.Streams.{ShelfState}
use Rattle.context_codec.specs.Context.{KeyValue}
use Rattle.header_codec.specs.Header.{HeaderValue}
use Rattle.keyring_trait.specs.Wrapping.{WrapKeyValue}
use Rattle.message_format.specs.Judgement.{content}
use Rattle.esdk_decrypt.specs.Told.{Reader, judged_by, unlocked_to}
use Rattle.extract_core.specs.Extracted.{ByteRange, Extraction, extracted, in_range}
use Rattle.extract_core.specs.Extract.{IsHeaderOf, most_bytes_read}
use Rattle.extract_core.specs.Laws.{BeginsWithin, EndsAsItBegins}
use Rattle.whole_input.specs.File.{most_file}
use Rattle.whole_input.specs.Pieces.{most_piece}
use Rattle.esdk_report.specs.Lines.{fault_line, printed_line}
use Rattle.esdk_report.specs.Report.{ReportGains}
use Rattle.esdk_run.specs.Extract.{as_decryption, range_asked}
use Rattle.esdk_run.specs.Objects.{Objects}
use Rattle.esdk_run.specs.Told.{HasPairsAndKeys}
use Rattle.esdk_run.specs.Trees.{Trees}

-- what this reader extracts of a message
abbrev pub extracted_by : Reader → List ℕ → ByteRange → Extraction
extracted_by reader bytes range = extracted bytes reader.settings
    (unlocked_to reader bytes) range

-- The shelf gave no more bytes than a keyring file may have, one piece, and what this reader reads
-- of this message: the header, up to a piece behind it, and the slots that are taken.
abbrev pub ReadsTaken : Reader → List ℕ → ByteRange → ShelfState → ShelfState → Type 0
ReadsTaken reader bytes range old new = new.given ≤ old.given + most_file + most_piece
    + most_bytes_read bytes reader.settings
    (unlocked_to reader bytes) range

-- ---- what is written

-- The words give these pairs, a tree is given back that tells these keys, and the shelf tells that
-- the message's file holds these bytes.
pub record ReadsMessageFile (trees : Trees) (asked : ExtractWords) (before : Objects)
    (given : List KeyValue) (keys : List WrapKeyValue) (bytes : List ℕ) : Type 0 where
  pub reads : HasPairsAndKeys trees (as_decryption asked) given keys
  pub held : Holds before.shelf.files asked.from bytes

-- The output gained what is extracted, which no fault ends, and no more bytes were read than
-- `ReadsTaken` says.
pub record GainsRange (reader : Reader) (asked : ExtractWords) (bytes : List ℕ)
    (before after : Objects) : Type 0 where
  pub sound : (extracted_by reader bytes (range_asked asked)).fault ≡ None
  pub gained : Appends before.output.written after.output.written
      (extracted_by reader bytes (range_asked asked)).part
  pub read : ReadsTaken reader bytes (range_asked asked) before.shelf after.shelf

-- The output gained what is extracted before this fault, and the report the fault's line; no more
-- bytes were read than `ReadsTaken` says.
pub record NamesExtractFault (reader : Reader) (asked : ExtractWords) (bytes : List ℕ)
    (before after : Objects) : Type 0 where
  pub fault : Fault
  pub cause : (extracted_by reader bytes (range_asked asked)).fault ≡ Some fault
  pub gained : Appends before.output.written after.output.written
      (extracted_by reader bytes (range_asked asked)).part
  pub line : ReportGains (printed_line (fault_line fault)) before.report after.report
  pub read : ReadsTaken reader bytes (range_asked asked) before.shelf after.shelf

-- No count of faults of the shelf, the output and the report rose, and none is at its end.
pub record ShelfAndOutputsDontFail (before after : Objects) : Type 0 where
  pub reading : Stayed before.shelf.faults after.shelf.faults
  pub writing : Stayed before.output.faults after.output.faults
  pub reporting : Stayed before.report.faults after.report.faults

-- This fault of a range that begins behind the slots of a whole message is named.
pub record NamesRangeBehind (content : Content) (range : ByteRange) (units : List (List ℕ))
    (before after : Objects) : Type 0 where
  pub fault : Fault
  pub ends : EndsAsItBegins content range units (Some fault)
  pub line : ReportGains (printed_line (fault_line fault)) before.report after.report

-- At status 0 and 1 the output gained the bytes of the range, as far as there are any, of what
-- `decrypt` writes: none, where the range begins at their end or behind it. Status 0 comes where
-- the range is empty or begins within the message's slots, and status 1 where it begins behind
-- them, with M10, or with M18 where the end of the last tag stands in the range's first slot.
pub record WritesOfContent (reader : Reader) (asked : ExtractWords) (bytes : List ℕ)
    (before after : Objects) (code : ℕ) : Type 0 where
  pub header : HeaderValue
  pub stands : IsHeaderOf reader.settings header bytes
  pub written : code ≤ 1 → Appends before.output.written after.output.written
      (in_range (range_asked asked) 0 (content (judged_by reader bytes)))
  pub done : code ≡ 0
      → BeginsWithin header.content (range_asked asked) (judged_by reader bytes).units
  pub named : code ≡ 1
      → NamesRangeBehind header.content (range_asked asked) (judged_by reader bytes).units
      before after

-- ---- how much is read
