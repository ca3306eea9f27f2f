-- A reader that is fed from an input.
use Rattle.std.proofs.Common.{◌≡◌, ◌<◌, ◌≤◌, ◌∙◌, ℕ, ◌+◌, ◌-◌, ◌^◌, Bool, true, false, List, [], ◌++◌, length, take, drop, Ok, Err, Result, refl, sym, ap, subst, arith, append_assoc, length-append, take-append-drop}
use Rattle.std.proofs.Math.Seq.{take-length, take-append-add}
use Rattle.std.proofs.lemmas.List.{length-drop}
use Rattle.esdk_fields.specs.Counts.{Rose}
use Rattle.esdk_fields.specs.declared.faults.Fault.{Fault}
use Rattle.esdk_fields.specs.declared.refusals.FieldError.TheVariants as errors
use Rattle.esdk_fields.specs.Place.{Place, start, cut}
use Rattle.esdk_fields.specs.Reading.{Reading, Read, Refused, Wanting}
use Rattle.esdk_fields.proofs.Fronts.{fault_after_at, value_from, read_after, read_within}
use Rattle.header_codec.specs.declared.session.HeaderReader.{HeaderReader}
use Rattle.header_codec.specs.declared.session.HeaderStep.{HeaderStep}
use Rattle.header_codec.specs.declared.settings.Settings.{Settings}
use Rattle.header_codec.specs.Session.{answer, answer_to, header_stepped}
use Rattle.header_codec.specs.Stands.{Stands}
use Rattle.header_codec.specs.Table.{HeaderFields, header, opening}
use Rattle.header_codec.proofs.Order.{IsSequential-header}
use Rattle.header_input.specs.declared.errors.NoHeader.{NoHeader}
use Rattle.header_input.specs.declared.errors.NoHeader.TheVariants as failures
use Rattle.esdk_base.specs.Streams.{SourceState}
use Rattle.whole_input.specs.declared.pieces.End.{End}
use Rattle.whole_input.specs.declared.pieces.End.TheVariants as ends
use Rattle.whole_input.specs.Pieces.{NextPiece, PiecesValue}
use Rattle.whole_input.specs.Taken.{Came, PieceCame}
use Rattle.whole_input.proofs.Coming.{came_more, came_none, came_still}
use Rattle.header_input.specs.Feeding.{header_session_of, Waits, HasTakenHeader, HeaderEnds, FeedsHeaderReader}
use Rattle.header_input.specs.Taking.{HoldsHeader, NoneCame}

-- ---- one step of the reader

ok_is : {T E : Type 0} (x y : T) → ◌≡◌ {A = Result T E} (Ok x) (Ok y) → x ≡ y
ok_is x y same = cc

fed_read : (settings : Settings) (taken piece : List ℕ) (parts : HeaderFields) (end : Place) (reader : HeaderReader) → header settings (start (taken ++ piece)) ≡ Read parts end
    → header settings (start taken) ≡ Wanting → Stands reader (header_session_of settings (taken ++ take (end.at - length taken) piece)) → HeaderEnds settings reader taken piece
fed_read settings taken piece parts end reader read wanting stands =
    let s = IsSequential-header settings in
    let used = end.at - length taken in
    let after : length taken < end.at = read_after (header settings) taken piece parts end s wanting read in
    let sum : length taken + used ≡ end.at = omega arith in
    let front : take end.at (taken ++ piece) ≡ taken ++ take used piece = ap (λ (n : ℕ). take n (taken ++ piece)) (sym sum) ∙ take-append-add taken piece used in
    let within : end.at ≤ length (taken ++ piece) = read_within (header settings) (taken ++ piece) parts end s read in
    let holds : HasTakenHeader settings reader (taken ++ piece) =
    record {
      taken = taken ++ take used piece;
      rest = drop used piece;
      parts = parts;
      end = cut end.at end;
      stands = stands;
      read = ap (λ (b : List ℕ). header settings (start b)) (sym front) ∙ value_from (header settings) (taken ++ piece) parts end end.at s read (omega arith);
      front = ap (λ (b : List ℕ). taken ++ b) (sym (take-append-drop used piece)) ∙ sym (append_assoc taken (take used piece) (drop used piece));
    } in
    record { holds = holds; few = omega (arith, length-drop used piece, length-append taken piece, within, after) }

fed_cases : (settings : Settings) (taken piece : List ℕ) (step : HeaderStep) (reader : HeaderReader) (r : Reading HeaderFields) → header settings (start (taken ++ piece)) ≡ r
    → answer_to (header_session_of settings taken) piece r ≡ Ok step → header settings (start taken) ≡ Wanting → Stands reader (header_stepped (header_session_of settings taken) piece (Ok step))
    → FeedsHeaderReader settings taken piece reader (Ok step.ready)
fed_cases settings taken piece step reader (Read parts end) judged answers wanting =
    let P : HeaderStep → Type 0 = λ s. Stands reader (header_stepped (header_session_of settings taken) piece (Ok s)) → FeedsHeaderReader settings taken piece reader (Ok s.ready) in
    subst P (ok_is _ step answers) (λ stands. fed_read settings taken piece parts end reader judged wanting stands)
fed_cases settings taken piece step reader (Refused fault at) judged answers wanting = absurd (cc)
fed_cases settings taken piece step reader Wanting judged answers wanting =
    let P : HeaderStep → Type 0 = λ s. Stands reader (header_stepped (header_session_of settings taken) piece (Ok s)) → FeedsHeaderReader settings taken piece reader (Ok s.ready) in
    let Q : List ℕ → Type 0 = λ b. Stands reader (header_session_of settings (taken ++ b)) in
    subst P (ok_is _ step answers) (λ stands. record { stands = subst Q (take-length piece) stands; wanting = judged })

-- a step that takes all or some of a piece
pub fed : (settings : Settings) (taken piece : List ℕ) (step : HeaderStep) (reader : HeaderReader) → answer (header_session_of settings taken) piece ≡ Ok step
    → header settings (start taken) ≡ Wanting → Stands reader (header_stepped (header_session_of settings taken) piece (Ok step)) → FeedsHeaderReader settings taken piece reader (Ok step.ready)
fed settings taken piece step reader answers wanting stands =
    fed_cases settings taken piece step reader (header settings (start (taken ++ piece))) refl answers wanting stands

fault_cases : (settings : Settings) (taken piece : List ℕ) (fault : Fault) (reader : HeaderReader) (r : Reading HeaderFields) → header settings (start (taken ++ piece)) ≡ r
    → answer_to (header_session_of settings taken) piece r ≡ Err (errors.Fault fault) → header settings (start taken) ≡ Wanting
    → FeedsHeaderReader settings taken piece reader (Err (failures.Fault fault))
fault_cases settings taken piece fault reader (Read parts end) judged answers wanting = absurd (cc)
fault_cases settings taken piece fault reader (Refused f at) judged answers wanting =
    let same : f ≡ fault = cc in
    let refused : header settings (start (taken ++ piece)) ≡ Refused fault at = judged ∙ ap (λ (g : Fault). Refused g at) same in
    let after = fault_after_at (header settings) (start taken) piece fault at (IsSequential-header settings) wanting refused in
    (at, refused, omega (arith, after))
fault_cases settings taken piece fault reader Wanting judged answers wanting = absurd (cc)

-- a step that finds a fault
pub fed_fault : (settings : Settings) (taken piece : List ℕ) (fault : Fault) (reader : HeaderReader) → answer (header_session_of settings taken) piece ≡ Err (errors.Fault fault)
    → header settings (start taken) ≡ Wanting → FeedsHeaderReader settings taken piece reader (Err (failures.Fault fault))
fed_fault settings taken piece fault reader answers wanting =
    fault_cases settings taken piece fault reader (header settings (start (taken ++ piece))) refl answers wanting

stopped_cases : (settings : Settings) (taken piece : List ℕ) (r : Reading HeaderFields) → answer_to (header_session_of settings taken) piece r ≡ Err errors.Stopped → ⊥
stopped_cases settings taken piece (Read parts end) answers = cc
stopped_cases settings taken piece (Refused f at) answers = cc
stopped_cases settings taken piece Wanting answers = cc

-- a reader that met no error isn't stopped
pub fed_not_stopped : (settings : Settings) (taken piece : List ℕ) → answer (header_session_of settings taken) piece ≡ Err errors.Stopped → ⊥
fed_not_stopped settings taken piece answers = stopped_cases settings taken piece (header settings (start (taken ++ piece))) answers

-- the same piece is fed
pub fed_same : (settings : Settings) (taken piece same : List ℕ) (reader : HeaderReader) (r : Result Bool NoHeader) → piece ≡ same → FeedsHeaderReader settings taken piece reader r
    → FeedsHeaderReader settings taken same reader r
fed_same settings taken piece same reader r is = subst (λ (b : List ℕ). FeedsHeaderReader settings taken b reader r) is

-- ---- the loop

-- So many bytes were taken and fed, no read failed, and the reader waits for more.
pub record Going (settings : Settings) (first now : SourceState) (taken : ℕ) (reader : HeaderReader) : Type 0 where
  pub bytes : List ℕ
  pub count : length bytes ≡ taken
  pub most : taken ≤ 2 ^ 62
  pub came : Came first now bytes
  pub faults : now.faults ≡ first.faults
  pub waits : Waits settings reader bytes

-- before the first byte, bytes are wanted
pub wanting_first : (settings : Settings) → header settings (start []) ≡ Wanting
unfolding header opening
wanting_first settings = refl

pub going_first : (settings : Settings) (first : SourceState) (v : PiecesValue) (reader : HeaderReader) → v ≡ record { taken = 0; piece = [] }
    → Stands reader (header_session_of settings []) → Going settings first first v.taken reader
going_first settings first v reader none stands = record {
  bytes = [];
  count = ap (λ (w : PiecesValue). w.taken) (sym none);
  most = subst (λ (w : PiecesValue). w.taken ≤ 2 ^ 62) (sym none) (omega arith);
  came = came_none first;
  faults = refl;
  waits = record { stands = stands; wanting = wanting_first settings };
}

-- a piece came, and it is fed
pub going_on : (settings : Settings) (first now new : SourceState) (taken : ℕ) (v : PiecesValue) (reader grown : HeaderReader) (going : Going settings first now taken reader)
    → PieceCame 65536 now new v.piece → v.taken ≡ taken + length v.piece → v.taken ≤ 2 ^ 62 → FeedsHeaderReader settings going.bytes v.piece grown (Ok false)
    → Going settings first new v.taken grown
going_on settings first now new taken v reader grown going piece count most feeds = record {
  bytes = going.bytes ++ v.piece;
  count = omega (arith, length-append going.bytes v.piece, going.count, count);
  most = most;
  came = came_more first now new going.bytes v.piece going.came piece.came;
  faults = piece.faults ∙ going.faults;
  waits = feeds;
}

-- the header ends in the piece
pub going_whole : (settings : Settings) (first now new : SourceState) (taken : ℕ) (piece : List ℕ) (reader grown : HeaderReader) (going : Going settings first now taken reader)
    → PieceCame 65536 now new piece → FeedsHeaderReader settings going.bytes piece grown (Ok true) → HoldsHeader settings grown first new
going_whole settings first now new taken piece reader grown going came feeds = record {
  bytes = going.bytes ++ piece;
  holds = feeds.holds;
  came = came_more first now new going.bytes piece going.came came.came;
  few = omega (arith, feeds.few, came.fits);
  faults = came.faults ∙ going.faults;
}

-- the piece is refused
pub going_refused : (settings : Settings) (first now new : SourceState) (taken : ℕ) (piece : List ℕ) (reader grown : HeaderReader) (error : NoHeader)
    (going : Going settings first now taken reader) → PieceCame 65536 now new piece → FeedsHeaderReader settings going.bytes piece grown (Err error)
    → NoneCame settings first new error
going_refused settings first now new taken piece reader grown (failures.Fault fault) going came feeds = record {
  bytes = going.bytes ++ piece;
  at = feeds.0;
  came = came_more first now new going.bytes piece going.came came.came;
  refused = feeds.1;
  few = omega (arith, length-append going.bytes piece, feeds.2, came.fits);
  faults = came.faults ∙ going.faults;
}
going_refused settings first now new taken piece reader grown (failures.End end) going came feeds = absurd feeds
going_refused settings first now new taken piece reader grown failures.Memory going came feeds = record {
  bytes = going.bytes ++ piece;
  came = came_more first now new going.bytes piece going.came came.came;
  last = record { before = going.bytes; piece = piece; all = refl; few = came.fits; was = going.waits.wanting };
  faults = came.faults ∙ going.faults;
}

-- there is no buffer for a piece
pub lacks_buffer : (settings : Settings) (first : SourceState) → NoneCame settings first first failures.Memory
lacks_buffer settings first = record {
  bytes = [];
  came = came_none first;
  last = record { before = []; piece = []; all = refl; few = omega arith; was = wanting_first settings };
  faults = refl;
}

-- no piece came
pub going_ended : (T : Type 0) (settings : Settings) (first now new : SourceState) (taken : ℕ) (v : PiecesValue) (reader : HeaderReader) (end : End) → Going settings first now taken reader
    → NextPiece {T = T} taken now new v (Err end) → NoneCame settings first new (failures.End end)
going_ended T settings first now new taken v reader ends.Seen going next = record {
  bytes = going.bytes;
  came = came_still first now new going.bytes going.came next.0;
  end = record { end = next.1; seen = next.5; faults = next.2 ∙ going.faults; few = omega (arith, going.count, next.3) };
  wanting = going.waits.wanting;
}
going_ended T settings first now new taken v reader ends.Failed going next = record {
  bytes = going.bytes;
  came = came_still first now new going.bytes going.came next.0;
  wanting = going.waits.wanting;
  rose = subst (λ (n : ℕ). Rose n new.faults) going.faults next.1;
}
going_ended T settings first now new taken v reader ends.TooLong going next = record {
  bytes = going.bytes;
  came = subst (λ (s : SourceState). Came first s going.bytes) (sym next.0) going.came;
  most = record { faults = ap (λ (s : SourceState). s.faults) next.0 ∙ going.faults; count = going.count ∙ next.1 };
  wanting = going.waits.wanting;
}
