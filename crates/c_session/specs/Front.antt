-- The front of a message: its header, which is read without a key.
-- AWS Encryption SDK, message header, "Structure" of versions 1.0 and 2.0.
use Rattle.std.specs.Prelude.{◌≡◌, ℕ, Bool, List, ⊤, Some, Result, Ok, Err}
use Rattle.esdk_fields.specs.Place.{Place, start}
use Rattle.header_codec.specs.declared.settings.Settings.{Settings}
use Rattle.header_codec.specs.Header.{HeaderValue}
use Rattle.header_codec.specs.Table.{BeginsWith, header}
use Rattle.esdk_list.specs.List.{BeginsWithHeader, reading_fault_at_end, list_settings}
use Rattle.esdk_list.specs.Listing.{list_of}
use Rattle.c_session.specs.declared.reason.Reason.{Reason}
use Rattle.c_session.specs.declared.reason.Reason.TheVariants as reasons

-- The bytes begin with this header and its authentication. Else a field of theirs has this fault,
-- or they end before the header is whole, which is M10; or memory ran out.
abbrev pub ReadsHeaderFront : Settings → List ℕ → Result HeaderValue Reason → Type 0
ReadsHeaderFront settings bytes (Ok h) = (end : Place) × BeginsWith settings bytes h end
ReadsHeaderFront settings bytes (Err (reasons.Fault fault)) =
    reading_fault_at_end (header settings (start bytes)) ≡ Some fault
ReadsHeaderFront settings bytes (Err reasons.Memory) = ⊤
ReadsHeaderFront settings bytes (Err reason) = ⊥

-- The text is the listing of the header that the bytes begin with; or there is none, for this
-- reason.
abbrev pub ListsHeaderFront : Bool → List ℕ → Result (List ℕ) Reason → Type 0
ListsHeaderFront uncommitted bytes (Ok text) =
    (h : HeaderValue) × BeginsWithHeader uncommitted h bytes × (text ≡ list_of h)
ListsHeaderFront uncommitted bytes (Err reason) =
    ReadsHeaderFront (list_settings uncommitted) bytes (Err reason)
