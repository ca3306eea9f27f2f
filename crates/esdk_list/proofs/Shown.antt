-- The header that a reader shows is the input's.
use Rattle.std.proofs.Common.{◌≡◌, ℕ, Bool, List, [], length, None, Some, sym, ap, subst, arith, length-append}
use Rattle.std.specs.declared.option.Option.{Option}
use Rattle.std.specs.Io.KnownBytes.{Appends, Consumes}
use Rattle.esdk_base.specs.Sink.{AppendsFront}
use Rattle.esdk_fields.specs.Place.{Place, start, followed}
use Rattle.esdk_fields.specs.Reading.{Reading, Read, Wanting}
use Rattle.header_codec.specs.declared.session.HeaderReader.{HeaderReader}
use Rattle.header_codec.specs.declared.settings.Settings.{Settings}
use Rattle.header_codec.specs.Header.{HeaderValue}
use Rattle.header_codec.specs.Session.{ShowsHeader}
use Rattle.header_codec.specs.Table.{header, BeginsWith}
use Rattle.header_codec.proofs.Followed.{BeginsWith-append}
use Rattle.esdk_list.specs.List.{list_settings, BeginsWithHeader, HeaderCame, Lists, ListsFront}
use Rattle.esdk_base.specs.Streams.{OnTold, SourceState}
use Rattle.header_input.specs.Feeding.{header_session_of, HasTakenHeader}
use Rattle.header_input.specs.Taking.{HoldsHeader}
use Rattle.esdk_list.specs.Listing.{list_of}

read_not_wanting : {A : Type 0} (x : A) (end : Place) (r : Reading A) → r ≡ Read x end → r ≡ Wanting → ⊥
read_not_wanting x end r read wanting = cc

-- a reader that took a whole header shows one
pub shows_some : (settings : Settings) (reader : HeaderReader) (bytes : List ℕ) (holds : HasTakenHeader settings reader bytes) → ShowsHeader (header_session_of settings holds.taken) None → ⊥
shows_some settings reader bytes holds wanting = read_not_wanting holds.parts holds.end (header settings (start holds.taken)) holds.read wanting

-- the header that it shows is the one with which the bytes that came begin, and the piece of its last byte was the last
pub shows_came : (uncommitted : Bool) (reader : HeaderReader) (first now : SourceState) (holds : HoldsHeader (list_settings uncommitted) reader first now) (h : HeaderValue)
    → ShowsHeader (header_session_of (list_settings uncommitted) holds.holds.taken) (Some h) → HeaderCame uncommitted h first now
shows_came uncommitted reader first now holds h shows =
    let limits = list_settings uncommitted in
    let taken = holds.holds.taken in
    let rest = holds.holds.rest in
    let end : Place = followed (record { at = length taken; left = [] }) rest in
    record {
      bytes = holds.bytes;
      end = end;
      came = holds.came;
      begins = subst (λ (b : List ℕ). BeginsWith limits b h end) (sym holds.holds.front)
          (BeginsWith-append limits taken rest h (record { at = length taken; left = [] }) shows);
      few = omega (arith, ap length holds.holds.front, length-append taken rest, holds.few);
      faults = holds.faults;
    }

-- where it is told, the input begins with it
begins_told : (uncommitted : Bool) (input left : Option (List ℕ)) (bytes : List ℕ) (h : HeaderValue) (end : Place) → Consumes input left bytes
    → BeginsWith (list_settings uncommitted) bytes h end → OnTold input (BeginsWithHeader uncommitted h)
begins_told uncommitted None left bytes h end consumed begins = tt
begins_told uncommitted (Some told) None bytes h end consumed begins = absurd consumed
begins_told uncommitted (Some told) (Some rest) bytes h end consumed begins =
    subst (λ (b : List ℕ). BeginsWithHeader uncommitted h b) (sym consumed) (followed end rest, BeginsWith-append (list_settings uncommitted) bytes rest h end begins)

header_told : (uncommitted : Bool) (first now : SourceState) (h : HeaderValue) → HeaderCame uncommitted h first now → OnTold first.left (BeginsWithHeader uncommitted h)
header_told uncommitted first now h came = begins_told uncommitted first.left now.left came.bytes h came.end came.came.consumed came.begins

-- a put of the listing's text
pub lists : (uncommitted : Bool) (first now : SourceState) (old new : Option (List ℕ)) (h : HeaderValue) (text : List ℕ) → HeaderCame uncommitted h first now → text ≡ list_of h
    → Appends old new text → Lists uncommitted first now old new
lists uncommitted first now old new h text came is gained =
    record { header = h; begins = header_told uncommitted first now h came; came = came; gained = subst (λ (b : List ℕ). Appends old new b) is gained }

pub lists_front : (uncommitted : Bool) (first now : SourceState) (old new : Option (List ℕ)) (h : HeaderValue) (text : List ℕ) → HeaderCame uncommitted h first now
    → text ≡ list_of h → AppendsFront old new text → ListsFront uncommitted first now old new
lists_front uncommitted first now old new h text came is gained =
    record { header = h; begins = header_told uncommitted first now h came; came = came; gained = subst (λ (b : List ℕ). AppendsFront old new b) is gained }
