-- The header that a reader shows is the one that came.
use Rattle.std.proofs.Common.{◌≡◌, ℕ, List, [], length, None, Some, sym, ap, subst, arith}
use Rattle.std.proofs.lemmas.List.{length-append}
use Rattle.esdk_fields.specs.Place.{Place, start, followed}
use Rattle.esdk_fields.specs.Reading.{Reading, Read, Wanting}
use Rattle.esdk_base.specs.Streams.{SourceState}
use Rattle.header_codec.specs.declared.session.HeaderReader.{HeaderReader}
use Rattle.header_codec.specs.Header.{HeaderValue, no_limits}
use Rattle.header_codec.specs.Session.{ShowsHeader}
use Rattle.header_codec.specs.Table.{BeginsWith, header}
use Rattle.header_codec.proofs.Followed.{BeginsWith-append}
use Rattle.header_input.specs.Feeding.{HasTakenHeader, header_session_of}
use Rattle.header_input.specs.Taking.{HoldsHeader}
use Rattle.audit_core.specs.Taking.{FileHeaderCame}

read_not_wanting : {A : Type 0} (x : A) (end : Place) (r : Reading A) → r ≡ Read x end → r ≡ Wanting → ⊥
read_not_wanting x end r read wanting = cc

-- a reader that took a whole header shows one
pub shows_some : (reader : HeaderReader) (bytes : List ℕ) (holds : HasTakenHeader no_limits reader bytes) → ShowsHeader (header_session_of no_limits holds.taken) None → ⊥
shows_some reader bytes holds wanting = read_not_wanting holds.parts holds.end (header no_limits (start holds.taken)) holds.read wanting

-- what it shows is the header with which the bytes that came begin
pub shows_came : (reader : HeaderReader) (old new : SourceState) (holds : HoldsHeader no_limits reader old new) (h : HeaderValue)
    → ShowsHeader (header_session_of no_limits holds.holds.taken) (Some h) → FileHeaderCame h old new
shows_came reader old new holds h shows =
    let taken = holds.holds.taken in
    let rest = holds.holds.rest in
    let end : Place = followed (record { at = length taken; left = [] }) rest in
    record {
      bytes = holds.bytes;
      end = end;
      came = holds.came;
      begins = subst (λ (b : List ℕ). BeginsWith no_limits b h end) (sym holds.holds.front) (BeginsWith-append no_limits taken rest h (record { at = length taken; left = [] }) shows);
      few = omega (arith, ap length holds.holds.front, length-append taken rest, holds.few);
      faults = holds.faults;
    }
