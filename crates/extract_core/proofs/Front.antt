-- The header at the front of a file.
use Rattle.std.proofs.Common.{◌≡◌, ◌⊎◌, ℕ, ◌+◌, ◌^◌, ◌<◌, ◌≤◌, Bool, true, false, List, [], ◌∷◌, ◌++◌, length, take, drop, Option, Some, None, refl, sym, ap, subst, ◌∙◌, arith, inl, inr, append_assoc}
use Rattle.std.specs.FinMap.{get}
use Rattle.std.specs.Io.KnownBytes.{Consumes, IsAtEnd}
use Rattle.std.proofs.lemmas.List.{append-nil, length-append, length-take}
use Rattle.esdk_fields.specs.Counts.{Rose}
use Rattle.esdk_fields.specs.declared.faults.Fault.{Fault}
use Rattle.esdk_fields.specs.Place.{Place, start, followed}
use Rattle.esdk_fields.specs.Reading.{Reading, Read, Refused, Wanting, bytes, value_of}
use Rattle.esdk_fields.proofs.Fronts.{fault_after_at, fault_stays, read_after, value_stays}
use Rattle.esdk_fields.proofs.Inverse.{field_is_read}
use Rattle.esdk_base.specs.Shelf.{Files, Holds, is_missing}
use Rattle.esdk_base.specs.Streams.{FailsToRead, ShelfState, SourceState}
use Rattle.suite_table.specs.declared.suite.Suite.{Suite}
use Rattle.suite_table.specs.declared.suite.Suite.TheVariants.{Committing, Uncommitted}
use Rattle.header_codec.specs.declared.session.HeaderReader.{HeaderReader}
use Rattle.header_codec.specs.declared.settings.Settings.{Settings}
use Rattle.header_codec.specs.Header.{HeaderValue}
use Rattle.header_codec.specs.Session.{ShowsHeader}
use Rattle.header_codec.specs.Table.{BeginsWith, HeaderFields, head, header, header_iv, opening}
use Rattle.header_codec.proofs.Followed.{BeginsWith-append}
use Rattle.header_codec.proofs.Order.{IsSequential-header}
use Rattle.header_codec.proofs.Steps.{header_is_read}
use Rattle.header_codec.proofs.Whole.{size_within}
use Rattle.header_input.specs.Feeding.{HasTakenHeader as ReaderHolds, header_session_of}
use Rattle.header_input.specs.Taking.{HoldsHeader, HeaderInputLacksMemory, NoneCame}
use Rattle.header_input.specs.declared.errors.NoHeader.{NoHeader}
use Rattle.header_input.specs.declared.errors.NoHeader.TheVariants as headers
use Rattle.whole_input.specs.declared.pieces.End.TheVariants as ends
use Rattle.whole_input.specs.FileReads.{ComesFrom, Grows, IsSeenAs, reads_in_row}
use Rattle.whole_input.specs.Pieces.{most_piece}
use Rattle.whole_input.specs.Taken.{Came, EndSeen}
use Rattle.whole_input.proofs.Agreeing.{came_front, came_whole, grows_more, grows_none}
use Rattle.extract_core.specs.Extract.{GaveHeader, HasHeader, HasNoHeader, IsHeaderOf, OnFile, authentication_size, body_begin, header_fault_at_end, header_reach, most_header, unheaded_as}
use Rattle.whole_input.specs.FileSource.{FileReadsOn, file_left, left_from}

-- ---- where a header ends

field_end : (n : ℕ) (p : Place) (x : List ℕ) (next : Place) → bytes n p ≡ Read x next → next.at ≡ p.at + n
field_end n p x next e = let f = field_is_read (λ b. b) n p x next e in ap (λ (q : Place). q.at) (sym f.after)

iv_end : (suite : Suite) (p : Place) (x : List ℕ) (next : Place) → header_iv suite p ≡ Read x next → next.at + 16 ≡ p.at + authentication_size suite
unfolding header_iv
iv_end Committing p x next e = let same : p ≡ next = cc in omega (arith, ap (λ (q : Place). q.at) same)
iv_end Uncommitted p x next e = omega (arith, field_end 12 p x next e)

pub header_end : (settings : Settings) (p : Place) (parts : HeaderFields) (end : Place) → header settings p ≡ Read parts end → end.at ≡ parts.size + authentication_size parts.opening.suite
header_end settings p parts end e =
    let h = header_is_read settings p parts end e in
    omega (arith, h.size, iv_end parts.opening.suite h.body_end parts.iv h.iv_end h.iv, field_end 16 h.iv_end parts.tag end h.tag)

-- a header's body is as long as its size says
pub begins_at : (settings : Settings) (b : List ℕ) (h : HeaderValue) (end : Place) → BeginsWith settings b h end → end.at ≡ body_begin h
begins_at settings b h end begins =
    let size : length (take begins.parts.size b) ≡ begins.parts.size = length-take begins.parts.size b ∙ omega (arith, size_within settings b begins.parts end begins.read) in
    header_end settings (start b) begins.parts end begins.read
    ∙ ap (λ (n : ℕ). n + authentication_size begins.parts.opening.suite) (sym size)
    ∙ ap body_begin (sym begins.is)

-- no header is whole in no bytes, and none has a fault
nothing_read : (settings : Settings) → header settings (start []) ≡ Wanting
unfolding header opening
nothing_read settings = refl

-- ---- what is told of the file

-- what is left of a file that is told, from its front on
left_is : (files : Option Files) (name told : List ℕ) → Holds files name told → file_left files name 0 ≡ Some told
left_is (Some files) name told h = ap (λ (o : Option (List ℕ)). Some (left_from 0 o)) h
left_is None name told h = absurd cc

missing_left : (files : Option Files) (name : List ℕ) (at : ℕ) → is_missing files name ≡ true → file_left files name at ≡ Some (0 ∷ [])
missing_left (Some files) name at missing = ap (λ (o : Option (List ℕ)). Some (left_from at o)) (none_of (get files name) missing)
  where
    none_of : (o : Option (List ℕ)) → Rattle.std.specs.Prelude.is_none o ≡ true → o ≡ None
    none_of (Some x) e = absurd cc
    none_of None e = refl
missing_left None name at missing = absurd cc

-- the file begins with what came
front_of : (old new : Option (List ℕ)) (told bytes : List ℕ) → old ≡ Some told → Consumes old new bytes → (rest : List ℕ) × (told ≡ bytes ++ rest)
front_of (Some l) (Some rest) told bytes is consumed = (rest, sym (inner l told is) ∙ consumed)
  where
    inner : (a b : List ℕ) → Some a ≡ Some b → a ≡ b
    inner a b e = cc
front_of (Some l) None told bytes is consumed = absurd consumed
front_of None new told bytes is consumed = absurd cc

-- the whole file came
all_of : (old new : Option (List ℕ)) (told bytes : List ℕ) → old ≡ Some told → Consumes old new bytes → IsAtEnd new → told ≡ bytes
all_of (Some l) (Some rest) told bytes is consumed end = sym (inner l told is) ∙ consumed ∙ ap (λ (r : List ℕ). bytes ++ r) end ∙ append-nil bytes
  where
    inner : (a b : List ℕ) → Some a ≡ Some b → a ≡ b
    inner a b e = cc
all_of (Some l) None told bytes is consumed end = absurd consumed
all_of None new told bytes is consumed end = absurd cc

-- the end of a file that isn't there is never seen
never_ends : (now : Option (List ℕ)) → now ≡ Some (0 ∷ []) → IsAtEnd now → ⊥
never_ends (Some l) is end = let same : l ≡ 0 ∷ [] = cc in cc
never_ends None is end = cc

-- ---- the file between the first read and the last

-- The state of the source is that of the file, which was read on from its front.
pub record IsFront (old new : ShelfState) (name : List ℕ) (first now : SourceState) (at : ℕ) : Type 0 where
  pub first_is : first ≡ record { left = file_left old.files name 0; given = 0; faults = 0; came = []; ended = false }
  pub left : now.left ≡ file_left new.files name at
  pub given : now.given ≡ at
  pub few : at ≤ 2 ^ 62
  pub on : FileReadsOn old new name 0 at 0 now.faults
  pub comes : ComesFrom name 0 at old.calls new.calls [] now.came false now.ended

first_left : (old new : ShelfState) (name : List ℕ) (first now : SourceState) (at : ℕ) → IsFront old new name first now at → (told : List ℕ) → Holds old.files name told → first.left ≡ Some told
first_left old new name first now at front told h = ap (λ (s : SourceState). s.left) front.first_is ∙ left_is old.files name told h

came_is : (old new : ShelfState) (name : List ℕ) (first now : SourceState) (at : ℕ) (bytes : List ℕ) → IsFront old new name first now at → Came first now bytes → now.came ≡ [] ++ bytes
came_is old new name first now at bytes front came = came.told ∙ ap (λ (s : SourceState). s.came ++ bytes) front.first_is

-- the file begins with what came
begins_with : (old new : ShelfState) (name : List ℕ) (first now : SourceState) (at : ℕ) (told bytes : List ℕ) → IsFront old new name first now at → IsSeenAs old new name told → Came first now bytes
    → (rest : List ℕ) × (told ≡ bytes ++ rest)
begins_with old new name first now at told bytes front (inl h) came = front_of first.left now.left told bytes (first_left old new name first now at front told h) came.consumed
begins_with old new name first now at told bytes front (inr read) came =
    (drop (length bytes) told, came_front name at old.calls new.calls [] now.came bytes told false now.ended front.comes (came_is old new name first now at bytes front came) read)

-- and is it, where its end was seen
is_whole : (old new : ShelfState) (name : List ℕ) (first now : SourceState) (at : ℕ) (told bytes : List ℕ) → IsFront old new name first now at → IsSeenAs old new name told → Came first now bytes
    → EndSeen first now bytes → told ≡ bytes
is_whole old new name first now at told bytes front (inl h) came end = all_of first.left now.left told bytes (first_left old new name first now at front told h) came.consumed end.end
is_whole old new name first now at told bytes front (inr read) came end =
    came_whole name at old.calls new.calls [] now.came bytes told false now.ended front.comes (came_is old new name first now at bytes front came) refl end.seen read

-- calls were only added
pub front_grows : (old new : ShelfState) (name : List ℕ) (first now : SourceState) (at : ℕ) → IsFront old new name first now at → Grows old.calls new.calls
front_grows old new name first now at front = (reads_in_row name 0 front.comes.row.pieces, front.comes.row.calls)

cases : (b : Bool) → (b ≡ true) ⊎ (b ≡ false)
cases true = inl refl
cases false = inr refl

-- where bytes came, the file is there
there_came : (old new : ShelfState) (name : List ℕ) (first now : SourceState) (at count : ℕ) → IsFront old new name first now at → 1 ≤ count → Rattle.esdk_fields.specs.Counts.RoseBy count first.given now.given
    → is_missing old.files name ≡ false
there_came old new name first now at count front some rose =
    elim (cases (is_missing old.files name)) [
      | inl missing ↦ (let stays = (front.on.absent missing).0 in absurd (omega (arith, stays, some, rose, front.given, ap (λ (s : SourceState). s.given) front.first_is)))
      | inr there ↦ there
    ]

there_ended : (old new : ShelfState) (name : List ℕ) (first now : SourceState) (at : ℕ) → IsFront old new name first now at → IsAtEnd now.left → is_missing old.files name ≡ false
there_ended old new name first now at front end =
    elim (cases (is_missing old.files name)) [
      | inl missing ↦ absurd (never_ends now.left (front.left ∙ missing_left new.files name at (ap (λ (f : Option Files). is_missing f name) front.on.files ∙ missing)) end)
      | inr there ↦ there
    ]

-- where no read of the source failed, none of the file did
none_failed : (old new : ShelfState) (name : List ℕ) (first now : SourceState) (at : ℕ) → IsFront old new name first now at → now.faults ≡ first.faults → new.faults ≡ old.faults
none_failed old new name first now at front same = front.on.same (same ∙ ap (λ (s : SourceState). s.faults) front.first_is) (omega (arith, same, ap (λ (s : SourceState). s.faults) front.first_is))

some_bytes : (settings : Settings) (b : List ℕ) → (header settings (start b) ≡ Wanting → ⊥) → 1 ≤ length b
some_bytes settings [] other = absurd (other (nothing_read settings))
some_bytes settings (x ∷ xs) other = omega arith

-- a header came
pub header_came : (settings : Settings) (reader : HeaderReader) (old new : ShelfState) (name : List ℕ) (first now : SourceState) (at : ℕ) (h : HeaderValue) → IsFront old new name first now at
    → (holds : HoldsHeader settings reader first now) → ShowsHeader (header_session_of settings holds.holds.taken) (Some h) → HasHeader settings old new name h
header_came settings reader old new name first now at h front holds shows =
    let taken : List ℕ = holds.holds.taken in
    let rest : List ℕ = holds.holds.rest in
    let begin : length taken ≡ body_begin h = begins_at settings taken h (record { at = length taken; left = [] }) shows in
    let long = length-append taken rest in
    record {
      there = there_came old new name first now at (length holds.bytes) front
          (omega (arith, ap length holds.holds.front, long, some_bytes settings taken (λ wanting. read_not_wanting (header settings (start taken)) holds.holds.parts holds.holds.end holds.holds.read wanting))) holds.came.given;
      is = λ told h_told.
          let more = begins_with old new name first now at told holds.bytes front h_told holds.came in
          let all : told ≡ taken ++ (rest ++ more.0) = more.1 ∙ ap (λ (l : List ℕ). l ++ more.0) holds.holds.front ∙ append_assoc taken rest more.0 in
          subst (IsHeaderOf settings h) (sym all) (record {
            end = followed (record { at = length taken; left = [] }) (rest ++ more.0);
            begins = BeginsWith-append settings taken (rest ++ more.0) h (record { at = length taken; left = [] }) shows;
            begin = begin;
          });
      faults = none_failed old new name first now at front holds.faults;
      given = omega (arith, front.on.given, front.given, holds.came.most, holds.few, ap length holds.holds.front, long, begin, ap (λ (s : SourceState). s.given) front.first_is);
    }
  where
    read_not_wanting : (r : Reading HeaderFields) (parts : HeaderFields) (end : Place) → r ≡ Read parts end → r ≡ Wanting → ⊥
    read_not_wanting r parts end e w = cc

-- and it is whole in what the shelf's calls gave
pub header_gave : (settings : Settings) (reader : HeaderReader) (old new : ShelfState) (name : List ℕ) (first now : SourceState) (at : ℕ) → IsFront old new name first now at → HoldsHeader settings reader first now
    → GaveHeader settings old new name
header_gave settings reader old new name first now at front holds =
    let taken : List ℕ = holds.holds.taken in
    let rest : List ℕ = holds.holds.rest in
    let same : front.comes.bytes ≡ taken ++ rest = sym front.comes.more ∙ came_is old new name first now at holds.bytes front holds.came ∙ holds.holds.front in
    record {
      bytes = front.comes.bytes;
      first = new.calls;
      row = front.comes.row;
      on = grows_none new.calls;
      parts = holds.holds.parts;
      whole = ap (head settings) same ∙ ap value_of (value_stays (header settings) taken rest holds.holds.parts holds.holds.end (IsSequential-header settings) holds.holds.read);
    }

-- whatever is called later
pub gave_later : (settings : Settings) (old new later : ShelfState) (name : List ℕ) → GaveHeader settings old new name → Grows new.calls later.calls → GaveHeader settings old later name
gave_later settings old new later name gave grows = record {
  bytes = gave.bytes;
  first = gave.first;
  row = gave.row;
  on = grows_more gave.first new.calls later.calls gave.on grows;
  parts = gave.parts;
  whole = gave.whole;
}

-- ---- none came

refused_not_wanting : (r : Reading HeaderFields) (fault : Fault) (at : ℕ) → r ≡ Refused fault at → r ≡ Wanting → ⊥
refused_not_wanting r fault at e w = cc

failed_cause : (old new : ShelfState) (name : List ℕ) (first now : SourceState) (at : ℕ) → IsFront old new name first now at → Rose first.faults now.faults → FailsToRead old new name
failed_cause old new name first now at front rose =
    let some : 0 < now.faults = omega (arith, rose, ap (λ (s : SourceState). s.faults) front.first_is) in
    elim (cases (is_missing old.files name)) [
      | inl missing ↦ inr (missing, (front.on.absent missing).1)
      | inr there ↦ inl (front.on.failed some (omega (arith, front.few)) there)
    ]

pub none_came : (settings : Settings) (old new : ShelfState) (name : List ℕ) (first now : SourceState) (at : ℕ) (error : NoHeader) → IsFront old new name first now at
    → NoneCame settings first now error → HasNoHeader settings old new name (unheaded_as error)
none_came settings old new name first now at (headers.Fault fault) front none = (
  there_came old new name first now at (length none.bytes) front (some_bytes settings none.bytes (refused_not_wanting (header settings (start none.bytes)) fault none.at none.refused)) none.came.given,
  none_failed old new name first now at front none.faults,
  λ told h.
      let more = begins_with old new name first now at told none.bytes front h none.came in
      ap (λ (b : List ℕ). header_fault_at_end (header settings (start b))) more.1
      ∙ ap header_fault_at_end (fault_stays (header settings) none.bytes more.0 fault none.at (IsSequential-header settings) none.refused),
)
none_came settings old new name first now at (headers.End ends.Seen) front none = (
  there_ended old new name first now at front none.end.end,
  none_failed old new name first now at front none.end.faults,
  λ told h. ap (λ (b : List ℕ). header_fault_at_end (header settings (start b))) (is_whole old new name first now at told none.bytes front h none.came none.end)
      ∙ ap header_fault_at_end none.wanting,
)
none_came settings old new name first now at (headers.End ends.Failed) front none = failed_cause old new name first now at front none.rose
none_came settings old new name first now at (headers.End ends.TooLong) front none = none_failed old new name first now at front none.most.faults
none_came settings old new name first now at headers.Memory front none = none_failed old new name first now at front none.faults

-- ---- how much was read

reach_of : (settings : Settings) (told : List ℕ) (r : Reading HeaderFields) → header settings (start told) ≡ r → most_header settings told ≡ header_reach told r
reach_of settings told r e = ap (header_reach told) e

pub given_came : (settings : Settings) (reader : HeaderReader) (old new : ShelfState) (name : List ℕ) (h : HeaderValue) → HasHeader settings old new name h
    → OnFile old new name (λ told. new.given ≤ old.given + most_header settings told)
given_came settings reader old new name h has = λ told holds.
    let is = has.is told holds in
    omega (arith, has.given, reach_of settings told (Read is.begins.parts is.end) is.begins.read, is.begin)

-- bytes that want more are within what is read at the most
within_reach : (settings : Settings) (told b rest : List ℕ) (r : Reading HeaderFields) → told ≡ b ++ rest → header settings (start b) ≡ Wanting → header settings (start (b ++ rest)) ≡ r
    → length b ≤ header_reach told r
within_reach settings told b rest (Read parts end) is wants e =
    let h = read_after (header settings) b rest parts end (IsSequential-header settings) wants e in omega (arith, h)
within_reach settings told b rest (Refused fault at) is wants e =
    let h = fault_after_at (header settings) (start b) rest fault at (IsSequential-header settings) wants e in omega (arith, h)
within_reach settings told b rest Wanting is wants e = omega (arith, ap length is, length-append b rest)

-- of bytes that want more, and a piece behind them
piece_reach : (settings : Settings) (told before piece rest : List ℕ) (r : Reading HeaderFields) → told ≡ (before ++ piece) ++ rest → header settings (start before) ≡ Wanting → length piece ≤ most_piece
    → header settings (start (before ++ (piece ++ rest))) ≡ r → length before + length piece ≤ header_reach told r
piece_reach settings told before piece rest (Read parts end) is wants few e =
    let h = read_after (header settings) before (piece ++ rest) parts end (IsSequential-header settings) wants e in omega (arith, h, few)
piece_reach settings told before piece rest (Refused fault at) is wants few e =
    let h = fault_after_at (header settings) (start before) (piece ++ rest) fault at (IsSequential-header settings) wants e in omega (arith, h, few)
piece_reach settings told before piece rest Wanting is wants few e = omega (arith, ap length is, length-append (before ++ piece) rest, length-append before piece)

-- memory ran out at a piece behind bytes that want more
lacking_given : (settings : Settings) (old new : ShelfState) (name : List ℕ) (first now : SourceState) (at : ℕ) → IsFront old new name first now at
    → HeaderInputLacksMemory settings first now → OnFile old new name (λ told. new.given ≤ old.given + most_header settings told)
lacking_given settings old new name first now at front lacks = λ told h.
    let more = begins_with old new name first now at told lacks.bytes front h lacks.came in
    let before : List ℕ = lacks.last.before in
    let piece : List ℕ = lacks.last.piece in
    let is : told ≡ (before ++ piece) ++ more.0 = more.1 ∙ ap (λ (l : List ℕ). l ++ more.0) lacks.last.all in
    let most = piece_reach settings told before piece more.0 (header settings (start (before ++ (piece ++ more.0)))) is lacks.last.was lacks.last.few refl in
    let same = ap (λ (l : List ℕ). header_reach told (header settings (start l))) (is ∙ append_assoc before piece more.0) in
    omega (arith, front.on.given, front.given, lacks.came.most, most, same, ap length lacks.last.all, length-append before piece, ap (λ (s : SourceState). s.given) front.first_is)

wanting_given : (settings : Settings) (old new : ShelfState) (name : List ℕ) (first now : SourceState) (at : ℕ) (b : List ℕ) → IsFront old new name first now at
    → Came first now b → header settings (start b) ≡ Wanting → OnFile old new name (λ told. new.given ≤ old.given + most_header settings told)
wanting_given settings old new name first now at b front came wants = λ told h.
    let more = begins_with old new name first now at told b front h came in
    let most = within_reach settings told b more.0 (header settings (start (b ++ more.0))) more.1 wants refl in
    let same = ap (λ (l : List ℕ). header_reach told (header settings (start l))) more.1 in
    omega (arith, front.on.given, front.given, came.most, most, same, ap (λ (s : SourceState). s.given) front.first_is)

pub none_given : (settings : Settings) (old new : ShelfState) (name : List ℕ) (first now : SourceState) (at : ℕ) (error : NoHeader) → IsFront old new name first now at
    → NoneCame settings first now error → OnFile old new name (λ told. new.given ≤ old.given + most_header settings told)
none_given settings old new name first now at (headers.Fault fault) front none = λ told h.
    let more = begins_with old new name first now at told none.bytes front h none.came in
    let refused : header settings (start told) ≡ Refused fault none.at =
    ap (λ (b : List ℕ). header settings (start b)) more.1 ∙ fault_stays (header settings) none.bytes more.0 fault none.at (IsSequential-header settings) none.refused in
    omega (arith, front.on.given, front.given, none.came.most, none.few, reach_of settings told (Refused fault none.at) refused, ap (λ (s : SourceState). s.given) front.first_is)
none_given settings old new name first now at (headers.End ends.Seen) front none = wanting_given settings old new name first now at none.bytes front none.came none.wanting
none_given settings old new name first now at (headers.End ends.Failed) front none = wanting_given settings old new name first now at none.bytes front none.came none.wanting
none_given settings old new name first now at (headers.End ends.TooLong) front none = wanting_given settings old new name first now at none.bytes front none.came none.wanting
none_given settings old new name first now at headers.Memory front none = lacking_given settings old new name first now at front none

pub shows_none : (settings : Settings) (reader : HeaderReader) (bytes : List ℕ) (holds : ReaderHolds settings reader bytes) → ShowsHeader (header_session_of settings holds.taken) None → ⊥
shows_none settings reader bytes holds wanting = read_not_wanting (header settings (start holds.taken)) holds.parts holds.end holds.read wanting
  where
    read_not_wanting : (r : Reading HeaderFields) (parts : HeaderFields) (end : Place) → r ≡ Read parts end → r ≡ Wanting → ⊥
    read_not_wanting r parts end e w = cc

-- The source was made of the file, and is read on.
pub front_is : (old new : ShelfState) (name : List ℕ) (first now : SourceState) (at faults : ℕ) (came : List ℕ) (ended : Bool)
    → first ≡ record { left = file_left old.files name 0; given = 0; faults = 0; came = []; ended = false }
    → now ≡ record { left = file_left new.files name at; given = at; faults = faults; came = came; ended = ended } → now.given ≤ first.given + 2 ^ 62 → FileReadsOn old new name 0 at 0 faults
    → ComesFrom name 0 at old.calls new.calls [] now.came false now.ended → IsFront old new name first now at
front_is old new name first now at faults came ended first_is now_is few on comes = record {
  first_is = first_is;
  left = ap (λ (s : SourceState). s.left) now_is;
  given = ap (λ (s : SourceState). s.given) now_is;
  few = omega (arith, few, ap (λ (s : SourceState). s.given) now_is, ap (λ (s : SourceState). s.given) first_is);
  on = subst (λ (n : ℕ). FileReadsOn old new name 0 at 0 n) (sym (ap (λ (s : SourceState). s.faults) now_is)) on;
  comes = comes;
}

-- the same by what is known of the source's parts
pub front_made : (made old read : ShelfState) (made_name name now_name : List ℕ) (made_at made_faults at faults : ℕ) (made_came came : List ℕ) (made_ended ended : Bool) → made ≡ old → made_name ≡ name → made_at ≡ 0 → made_faults ≡ 0
    → made_came ≡ [] → made_ended ≡ false → now_name ≡ made_name → FileReadsOn made read made_name made_at at made_faults faults → ComesFrom made_name made_at at made.calls read.calls made_came came made_ended ended → at ≤ made_at + 2 ^ 62
    → IsFront old read name (record { left = file_left made.files made_name made_at; given = made_at; faults = made_faults; came = made_came; ended = made_ended })
    (record { left = file_left read.files now_name at; given = at; faults = faults; came = came; ended = ended }) at
front_made made old read made_name name now_name made_at made_faults at faults made_came came made_ended ended shelf name_is at_is faults_is came_none not_ended same on comes few =
    front_is old read name _ _ at faults came ended (rw (shelf, name_is, at_is, faults_is, came_none, not_ended) refl) (rw (same, name_is) refl) few
    (subst (λ (s : ShelfState). FileReadsOn s read name 0 at 0 faults) shelf
    (subst (λ (n : List ℕ). FileReadsOn made read n 0 at 0 faults) name_is
    (subst (λ (m : ℕ). FileReadsOn made read made_name m at 0 faults) at_is
    (subst (λ (m : ℕ). FileReadsOn made read made_name made_at at m faults) faults_is on))))
    (subst (λ (s : ShelfState). ComesFrom name 0 at s.calls read.calls [] came false ended) shelf
    (subst (λ (n : List ℕ). ComesFrom n 0 at made.calls read.calls [] came false ended) name_is
    (subst (λ (m : ℕ). ComesFrom made_name m at made.calls read.calls [] came false ended) at_is
    (subst (λ (b : List ℕ). ComesFrom made_name made_at at made.calls read.calls b came false ended) came_none
    (subst (λ (e : Bool). ComesFrom made_name made_at at made.calls read.calls made_came came e ended) not_ended comes)))))
