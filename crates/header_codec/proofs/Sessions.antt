-- A session that finds its header, and one that has found it.
use Rattle.std.proofs.Common.{◌≡◌, ℕ, ◌+◌, ◌-◌, ◌<◌, ◌≤◌, true, false, List, [], ◌++◌, length, take, Option, Some, None, Ok, refl, sym, ap, subst, ◌∙◌, arith}
use Rattle.std.specs.Prelude.{is_some}
use Rattle.std.proofs.Math.Seq.{take-append-add}
use Rattle.std.proofs.lemmas.List.{length-take, take-take}
use Rattle.esdk_fields.specs.Place.{start}
use Rattle.esdk_fields.specs.Reading.{Read, Wanting}
use Rattle.esdk_fields.proofs.Fronts.{value_stays, value_from, read_within, read_after}
use Rattle.header_codec.specs.declared.settings.Settings.{Settings}
use Rattle.header_codec.specs.declared.session.HeaderReader.{HeaderReader}
use Rattle.header_codec.specs.Stands.{Stands}
use Rattle.header_codec.specs.Header.{HeaderValue}
use Rattle.header_codec.specs.Table.{header, BeginsWith}
use Rattle.header_codec.specs.Session.{Session, answer, ShowsHeader}
use Rattle.header_codec.proofs.Order.{IsSequential-header}
use Rattle.header_codec.proofs.Whole.{size_before_end}

-- after the header is whole, no byte is used
pub answer_found : (v : Session) (o : Option HeaderValue) (piece : List ℕ) → ShowsHeader v o → is_some o ≡ true → v.stopped ≡ false → answer v piece ≡ Ok (record { used = 0; ready = true })
answer_found v None piece shows some on = absurd cc
answer_found v (Some h) piece shows some on =
    let read = value_stays (header v.settings) v.taken piece shows.parts _ (IsSequential-header v.settings) shows.read in
    let zero : length v.taken - length v.taken ≡ 0 = omega arith in
    rw (on, read, zero) refl

-- the same header, when only the bytes up to its authentication's end were taken
pub shows_found : (v : Session) (piece : List ℕ) (h : HeaderValue) (end : ℕ) (left : List ℕ) → header v.settings (start v.taken) ≡ Wanting
    → BeginsWith v.settings (v.taken ++ piece) h (record { at = end; left = left })
    → ShowsHeader (record v { taken = v.taken ++ take (end - length v.taken) piece }) (Some h)
shows_found v piece h end left waits begins =
    let b : List ℕ = v.taken ++ piece in
    let s = IsSequential-header v.settings in
    let after : length v.taken < end = read_after (header v.settings) v.taken piece begins.parts (record { at = end; left = left }) s waits begins.read in
    let within : end ≤ length b = read_within (header v.settings) b begins.parts (record { at = end; left = left }) s begins.read in
    let size : begins.parts.size ≤ end = size_before_end v.settings (start b) begins.parts (record { at = end; left = left }) begins.read in
    let sum : length v.taken + (end - length v.taken) ≡ end = omega arith in
    let taken : take end b ≡ v.taken ++ take (end - length v.taken) piece = ap (λ (n : ℕ). take n b) (sym sum) ∙ take-append-add v.taken piece (end - length v.taken) in
    let len : length (v.taken ++ take (end - length v.taken) piece) ≡ end = ap length (sym taken) ∙ omega (arith, length-take end b) in
    let none : end - end ≡ 0 = omega arith in
    let read : header v.settings (start (take end b)) ≡ Read begins.parts (record { at = end; left = [] }) =
    value_from (header v.settings) b begins.parts (record { at = end; left = left }) end s begins.read (omega arith) ∙ ap (λ (n : ℕ). Read begins.parts (record { at = end; left = take n left })) none in
    let raw : take begins.parts.size b ≡ take begins.parts.size (take end b) = sym (take-take begins.parts.size end b size) in
    record {
      parts = begins.parts;
      read = ap (λ (t : List ℕ). header v.settings (start t)) (sym taken) ∙ read ∙ ap (λ (n : ℕ). Read begins.parts (record { at = n; left = [] })) (sym len);
      stored = begins.stored;
      is = begins.is ∙ ap (λ (r : List ℕ). value (record { suite = begins.parts.opening.suite; message_id = begins.parts.opening.id; stored = h.stored; entries = begins.parts.entries; content = begins.parts.content; commitment = begins.parts.commitment; raw = r; iv = begins.parts.iv; tag = begins.parts.tag })) (raw ∙ ap (take begins.parts.size) taken);
    }
  where
    value : HeaderValue → HeaderValue
    value x = x

pub none_found : {A : Type 0} (o : Option A) → false ≡ is_some o → o ≡ None
none_found None e = refl
none_found (Some x) e = absurd cc

-- while nothing was found, more bytes are wanted
wants : (v : Session) (o : Option HeaderValue) → o ≡ None → ShowsHeader v o → header v.settings (start v.taken) ≡ Wanting
wants v None e shows = shows
wants v (Some h) e shows = absurd cc

-- a reader that just found the header stands for the session that took all of it
pub stands_found : (reader next : HeaderReader) (v : Session) (piece bytes : List ℕ) (h : HeaderValue) (had used end : ℕ) (left : List ℕ) → Stands reader v
    → reader.stopped ≡ false → false ≡ is_some reader.found → had ≡ length reader.intake.taken → bytes ≡ reader.intake.taken ++ piece → used ≡ end - had
    → BeginsWith reader.intake.settings bytes h (record { at = end; left = left })
    → next.intake.settings ≡ reader.intake.settings → next.stopped ≡ false → next.found ≡ Some h
    → Stands next (record v { taken = v.taken ++ take used piece })
stands_found reader next v piece bytes h had used end left stands on none had-is bytes-is used-is begins settings-is stopped-is found-is =
    let empty : reader.found ≡ None = none_found reader.found none in
    let same : reader.intake.taken ≡ v.taken = stands.taken (sym stands.stopped ∙ on) empty in
    let started : BeginsWith v.settings (v.taken ++ piece) h (record { at = end; left = left }) =
    subst (λ (b : List ℕ). BeginsWith v.settings b h (record { at = end; left = left })) (bytes-is ∙ ap (λ (t : List ℕ). t ++ piece) same)
    (subst (λ (s : Settings). BeginsWith s bytes h (record { at = end; left = left })) stands.settings begins) in
    let count : used ≡ end - length v.taken = used-is ∙ ap (λ (n : ℕ). end - n) (had-is ∙ ap length same) in
    record {
      settings = settings-is ∙ stands.settings;
      stopped = stopped-is ∙ sym on ∙ stands.stopped;
      taken = λ _ is_none. absurd (some_found h (sym found-is ∙ is_none));
      found = subst (λ (o : Option HeaderValue). ShowsHeader (record v { taken = v.taken ++ take used piece }) o) (sym found-is)
          (subst (λ (n : ℕ). ShowsHeader (record v { taken = v.taken ++ take n piece }) (Some h)) (sym count)
          (shows_found v piece h end left (wants v reader.found empty stands.found) started));
    }
  where
    some_found : (x : HeaderValue) → Some x ≡ None → ⊥
    some_found x e = cc

-- while no header was found and more bytes are wanted, the whole piece is used, and nothing is ready
pub answer_wanting : (reader : HeaderReader) (v : Session) (piece : List ℕ) → Stands reader v → reader.stopped ≡ false → false ≡ is_some reader.found
    → header reader.intake.settings (start (reader.intake.taken ++ piece)) ≡ Wanting → answer v piece ≡ Ok (record { used = length piece; ready = false })
answer_wanting reader v piece stands on none waits =
    let off : v.stopped ≡ false = sym stands.stopped ∙ on in
    let same : reader.intake.taken ≡ v.taken = stands.taken off (none_found reader.found none) in
    let waiting : header v.settings (start (v.taken ++ piece)) ≡ Wanting = rw (stands.settings, same) at waits in
    rw (off, waiting) refl

-- what is shown doesn't tell whether the session is stopped
shows_stopped : (v : Session) (o : Option HeaderValue) → ShowsHeader v o → ShowsHeader (record v { stopped = true }) o
shows_stopped v None shows = shows
shows_stopped v (Some h) shows = shows

-- a reader that met an error stands for the session that it stopped
pub stands_stopped : (reader next : HeaderReader) (v : Session) → Stands reader v → next.intake.settings ≡ reader.intake.settings → next.stopped ≡ true → next.found ≡ reader.found
    → Stands next (record v { stopped = true })
stands_stopped reader next v stands settings stopped found = record {
  settings = settings ∙ stands.settings;
  stopped = stopped;
  taken = λ on none. absurd cc;
  found = subst (λ (o : Option HeaderValue). ShowsHeader (record v { stopped = true }) o) (sym found) (shows_stopped v reader.found stands.found);
}
