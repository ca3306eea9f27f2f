-- What was taken of a file, by what its source gave.
use Rattle.std.proofs.Common.{◌≡◌, ◌∙◌, ℕ, ◌+◌, ◌^◌, ◌≤◌, Bool, true, false, List, [], ◌∷◌, ◌++◌, length, drop, Option, None, Some, Ok, Err, inl, inr, refl, sym, ap, subst, arith, append-nil}
use Rattle.std.specs.Prelude.{IfErr, IfOk, Result, is_none}
use Rattle.std.specs.FinMap.{get}
use Rattle.std.specs.Io.KnownBytes.{Consumes, IsAtEnd}
use Rattle.std.proofs.Math.Seq.{drop-append_seam}
use Rattle.esdk_fields.specs.Counts.{Rose}
use Rattle.esdk_fields.specs.declared.faults.Fault.{Fault}
use Rattle.esdk_fields.specs.declared.refusals.Outside.TheVariants as outsides
use Rattle.esdk_fields.specs.Place.{start}
use Rattle.esdk_fields.specs.Reading.{Wanting}
use Rattle.esdk_base.specs.Shelf.{Files, Holds, is_missing}
use Rattle.esdk_base.specs.Streams.{FailsToRead, ShelfState, SourceState}
use Rattle.header_codec.specs.Header.{HeaderValue, no_limits}
use Rattle.header_codec.specs.Table.{header, opening}
use Rattle.header_input.specs.Taking.{EndCame, FaultCame, HeaderInputIsTooLong, HeaderInputLacksMemory, ReadFailed}
use Rattle.whole_input.specs.FileReads.{ComesFrom, ReadsRow, SeesEnd}
use Rattle.whole_input.specs.FileSource.{FileReadsOn, file_left, left_from}
use Rattle.whole_input.specs.Taken.{Came}
use Rattle.esdk_report.specs.declared.failure.Failure.{Failure}
use Rattle.esdk_report.specs.declared.failure.Failure.TheVariants as failures
use Rattle.audit_core.specs.MessageFiles.{FindsMessageHeader, FindsNoHeader, HasHeaderFault, HasMessageHeader, IsCut, IsEndless, HeaderLacksMemory, HeaderUnread, ReadsWell, ReadsFileFront}
use Rattle.audit_core.specs.Taking.{FileHeaderCame, TakesHeader, TakesNoHeader}

-- the source of a file that came so far and failed so often, and what came from it
abbrev pub source_at : ShelfState → List ℕ → ℕ → ℕ → List ℕ → Bool → SourceState
source_at s name at count came ended =
    record { left = file_left s.files name at; given = at; faults = count; came = came; ended = ended }

-- ---- what is told

left_held : (files : Option Files) (name told : List ℕ) → Holds files name told → file_left files name 0 ≡ Some told
left_held None name told holds = absurd cc
left_held (Some files) name told holds = ap (λ (o : Option (List ℕ)). Some (left_from 0 o)) holds

left_missing : (files : Option Files) (name : List ℕ) (at : ℕ) → is_missing files name ≡ true → file_left files name at ≡ Some (0 ∷ [])
left_missing None name at missing = absurd cc
left_missing (Some files) name at missing = none_left (get files name) missing
  where
    none_left : (found : Option (List ℕ)) → is_none found ≡ true → Some (left_from at found) ≡ Some (0 ∷ [])
    none_left None is = refl
    none_left (Some held) is = absurd cc

front_told : (first now : Option (List ℕ)) (front told : List ℕ) → Consumes first now front → first ≡ Some told → told ≡ front ++ drop (length front) told
front_told None now front told consumed is = absurd cc
front_told (Some held) None front told consumed is = absurd consumed
front_told (Some held) (Some rest) front told consumed is =
    let same : held ≡ told = cc in
    let all : told ≡ front ++ rest = sym same ∙ consumed in
    all ∙ ap (λ (l : List ℕ). front ++ l) (sym (ap (drop (length front)) all ∙ drop-append_seam front rest))

whole_told : (first now : Option (List ℕ)) (front told : List ℕ) → Consumes first now front → IsAtEnd now → first ≡ Some told → told ≡ front
whole_told None now front told consumed end is = absurd cc
whole_told (Some held) None front told consumed end is = absurd consumed
whole_told (Some held) (Some rest) front told consumed end is =
    let same : held ≡ told = cc in
    sym same ∙ (consumed ∙ (ap (λ (l : List ℕ). front ++ l) end ∙ append-nil front))

-- ---- what was read

module _ (old new : ShelfState) (name : List ℕ) (at count : ℕ) (came : List ℕ) (ended : Bool) (on : FileReadsOn old new name 0 at 0 count) (comes : ComesFrom name 0 at old.calls new.calls [] came false ended) where
  reads_front : (taken : List ℕ) → Came (source_at old name 0 0 [] false) (source_at new name at count came ended) taken → ReadsFileFront old new name taken
  reads_front taken is = record {
    came = subst (ReadsRow name 0 old.calls new.calls) (sym comes.more ∙ is.told) comes.row;
    front = λ told holds. front_told (file_left old.files name 0) (file_left new.files name at) taken told is.consumed (left_held old.files name told holds);
    given = omega (arith, on.given, is.most);
    files = on.files;
  }

  -- a missing file gives nothing
  none_given : (taken : List ℕ) → Came (source_at old name 0 0 [] false) (source_at new name at count came ended) taken → is_missing old.files name ≡ true → length taken ≡ 0
  none_given taken is missing = omega (arith, (on.absent missing).0, is.given)

  reads : (taken : List ℕ) → Came (source_at old name 0 0 [] false) (source_at new name at count came ended) taken → count ≡ 0 → is_missing old.files name ≡ false → ReadsWell old new name taken
  reads taken is none there = record { read = reads_front taken is; there = there; faults = on.same none (omega (arith, none)) }

empty_wanting : header no_limits (start []) ≡ Wanting
unfolding header opening
empty_wanting = refl

-- ---- a header, a fault, or neither

no_bytes : (taken : List ℕ) → length taken ≡ 0 → taken ≡ []
no_bytes [] none = refl
no_bytes (b ∷ taken) none = absurd (omega (arith, none))

read_none : (taken : List ℕ) → length taken ≡ 0 → header no_limits (start taken) ≡ Wanting
read_none taken none = ap (λ (l : List ℕ). header no_limits (start l)) (no_bytes taken none) ∙ empty_wanting

-- the file isn't missing, or this is impossible
unless_missing : (missing : Bool) → (missing ≡ true → ⊥) → missing ≡ false
unless_missing true never = absurd (never refl)
unless_missing false never = refl

module _ (old new : ShelfState) (name : List ℕ) (at count : ℕ) (came : List ℕ) (ended : Bool) (on : FileReadsOn old new name 0 at 0 count) (comes : ComesFrom name 0 at old.calls new.calls [] came false ended) where
  came_header : (h : HeaderValue) → FileHeaderCame h (source_at old name 0 0 [] false) (source_at new name at count came ended) → HasMessageHeader old new name h
  came_header h found =
      let there = unless_missing (is_missing old.files name) (λ missing.
      (let wanting = read_none found.bytes (none_given old new name at count came ended on comes found.bytes found.came missing) in
      let read = found.begins.read in
      cc)) in
      record { bytes = found.bytes; end = found.end; reads = reads old new name at count came ended on comes found.bytes found.came found.faults there; begins = found.begins; few = found.few }

  came_fault : (fault : Fault) → FaultCame no_limits fault (source_at old name 0 0 [] false) (source_at new name at count came ended) → HasHeaderFault old new name fault
  came_fault fault found =
      let there = unless_missing (is_missing old.files name) (λ missing.
      (let wanting = read_none found.bytes (none_given old new name at count came ended on comes found.bytes found.came missing) in
      let refused = found.refused in
      cc)) in
      record { bytes = found.bytes; at = found.at; reads = reads old new name at count came ended on comes found.bytes found.came found.faults there; refused = found.refused; few = found.few }

  -- the end of a missing file isn't seen
  missing_unseen : IsAtEnd (file_left new.files name at) → is_missing old.files name ≡ true → ⊥
  missing_unseen end missing =
      let gone : is_missing new.files name ≡ true = ap (λ (f : Option Files). is_missing f name) on.files ∙ missing in
      not_at_end (subst (λ (l : Option (List ℕ)). IsAtEnd l) (left_missing new.files name at gone) end)
    where
      not_at_end : IsAtEnd (Some (0 ∷ [])) → ⊥
      not_at_end is = cc

  -- and where it's seen, a read gave nothing behind the bytes that came
  sees_end : (taken : List ℕ) → came ≡ taken → ended ≡ true → SeesEnd name (length taken) old.calls new.calls
  sees_end taken told seen =
      let far : at ≡ length taken = omega (arith, comes.on, ap length (sym comes.more ∙ told)) in
      elim (comes.end seen) [
        | inl was ↦ absurd cc
        | inr sees ↦ subst (λ (n : ℕ). SeesEnd name n old.calls new.calls) far sees
      ]

  came_end : EndCame no_limits (source_at old name 0 0 [] false) (source_at new name at count came ended) → IsCut old new name
  came_end found =
      let there = unless_missing (is_missing old.files name) (missing_unseen found.end.end) in
      record {
        bytes = found.bytes;
        reads = reads old new name at count came ended on comes found.bytes found.came found.end.faults there;
        end = sees_end found.bytes found.came.told found.end.seen;
        whole = λ told holds. whole_told (file_left old.files name 0) (file_left new.files name at) found.bytes told found.came.consumed found.end.end (left_held old.files name told holds);
        wanting = found.wanting;
      }

  takes_header : (taken : Result HeaderValue Fault) → TakesHeader (source_at old name 0 0 [] false) (source_at new name at count came ended) taken → FindsMessageHeader old new name taken
  takes_header (Ok h) came = came_header h came
  takes_header (Err fault) (inl came) = inl (came_fault fault came)
  takes_header (Err fault) (inr came) = inr (came.0, came_end came.1)

  -- why a read failed
  read_failed : (missing : Bool) → is_missing old.files name ≡ missing → Rose 0 count → at ≤ 2 ^ 62 → FailsToRead old new name
  read_failed true is rose few = inr (is, (on.absent is).1)
  read_failed false is rose few = inl (on.failed (omega (arith, rose)) (omega (arith, few)) is)

  came_unread : ReadFailed no_limits (source_at old name 0 0 [] false) (source_at new name at count came ended) → at ≤ 2 ^ 62 → HeaderUnread old new name
  came_unread found few = record {
    bytes = found.bytes;
    read = reads_front old new name at count came ended on comes found.bytes found.came;
    wanting = found.wanting;
    cause = read_failed (is_missing old.files name) refl found.rose few;
  }

  came_endless : HeaderInputIsTooLong no_limits (source_at old name 0 0 [] false) (source_at new name at count came ended) → IsEndless old new name
  came_endless found =
      record { bytes = found.bytes; read = reads_front old new name at count came ended on comes found.bytes found.came; wanting = found.wanting; count = found.most.count }

  came_lacking : HeaderInputLacksMemory no_limits (source_at old name 0 0 [] false) (source_at new name at count came ended) → HeaderLacksMemory old new name
  came_lacking found = record {
    bytes = found.bytes;
    read = reads_front old new name at count came ended on comes found.bytes found.came;
    last = found.last;
    faults = on.same found.faults (omega (arith, found.faults));
  }

  takes_none : (failure : Failure) → at ≤ 2 ^ 62 → TakesNoHeader (source_at old name 0 0 [] false) (source_at new name at count came ended) failure → FindsNoHeader old new name failure
  takes_none (failures.Outside outsides.ShelfFault) few came = came_unread came few
  takes_none (failures.Outside outsides.InputTooLong) few came = came_endless came
  takes_none failures.Memory few came = came_lacking came
  takes_none (failures.Outside outside) few came = absurd came
  takes_none failures.NotRead few came = absurd came
  takes_none (failures.BadNumber option) few came = absurd came
  takes_none (failures.BadPair place) few came = absurd came
  takes_none (failures.Fault fault) few came = absurd came
  takes_none (failures.File refusal) few came = absurd came
  takes_none (failures.Refusal refusal) few came = absurd came

-- ---- the source begins at the front of the file

-- What is known of a source over a shelf once a header was taken from it.
pub record IsSource (old mid : ShelfState) (name first_name last_name : List ℕ) (first : ShelfState) (begun at before count : ℕ) (begun_came came : List ℕ) (begun_ended ended : Bool) : Type 0 where
  pub same : first ≡ old
  pub named : first_name ≡ name
  pub still : last_name ≡ first_name
  pub zero_at : begun ≡ 0
  pub zero_faults : before ≡ 0
  pub nothing : begun_came ≡ []
  pub unseen : begun_ended ≡ false
  pub on : FileReadsOn first mid first_name begun at before count
  pub comes : ComesFrom first_name begun at first.calls mid.calls begun_came came begun_ended ended
  pub few : at ≤ begun + 2 ^ 62

-- what is so of it is so of the file from its front on
module _ (old mid : ShelfState) (name first_name last_name : List ℕ) (first : ShelfState) (begun at before count : ℕ) (begun_came came : List ℕ) (begun_ended ended : Bool) (is : IsSource old mid name first_name last_name first begun at before count begun_came came begun_ended ended) where
  of_front : (So : ShelfState → List ℕ → List ℕ → ℕ → ℕ → List ℕ → Bool → Type 0) → So first first_name last_name begun before begun_came begun_ended → So old name name 0 0 [] false
  of_front So is_so =
      subst (λ (e : Bool). So old name name 0 0 [] e) is.unseen
      (subst (λ (c : List ℕ). So old name name 0 0 c begun_ended) is.nothing
      (subst (λ (b : ℕ). So old name name 0 b begun_came begun_ended) is.zero_faults
      (subst (λ (b : ℕ). So old name name b before begun_came begun_ended) is.zero_at
      (subst (λ (n : List ℕ). So old name n begun before begun_came begun_ended) (is.still ∙ is.named)
      (subst (λ (n : List ℕ). So old n last_name begun before begun_came begun_ended) is.named
      (subst (λ (s : ShelfState). So s first_name last_name begun before begun_came begun_ended) is.same is_so))))))

  on_front : FileReadsOn old mid name 0 at 0 count
  on_front = of_front (λ s n l b f c e. FileReadsOn s mid n b at f count) is.on

  comes_front : ComesFrom name 0 at old.calls mid.calls [] came false ended
  comes_front = of_front (λ s n l b f c e. ComesFrom n b at s.calls mid.calls c came e ended) is.comes

pub header_found : (old mid new : ShelfState) (name first_name last_name : List ℕ) (first : ShelfState) (begun at before count : ℕ) (begun_came came : List ℕ) (begun_ended ended : Bool) (r : Result (Result HeaderValue Fault) Failure) → new ≡ mid
    → IsSource old mid name first_name last_name first begun at before count begun_came came begun_ended ended
    → IfOk r (TakesHeader (source_at first first_name begun before begun_came begun_ended) (source_at mid last_name at count came ended)) → IfOk r (FindsMessageHeader old new name)
header_found old mid new name first_name last_name first begun at before count begun_came came begun_ended ended (Err failure) end is takes = tt
header_found old mid new name first_name last_name first begun at before count begun_came came begun_ended ended (Ok taken) end is takes =
    subst (λ (s : ShelfState). FindsMessageHeader old s name taken) (sym end)
    (takes_header old mid name at count came ended (on_front old mid name first_name last_name first begun at before count begun_came came begun_ended ended is) (comes_front old mid name first_name last_name first begun at before count begun_came came begun_ended ended is) taken
    (of_front old mid name first_name last_name first begun at before count begun_came came begun_ended ended is (λ s n l b f c e. TakesHeader (source_at s n b f c e) (source_at mid l at count came ended) taken) takes))

pub header_not_found : (old mid new : ShelfState) (name first_name last_name : List ℕ) (first : ShelfState) (begun at before count : ℕ) (begun_came came : List ℕ) (begun_ended ended : Bool) (r : Result (Result HeaderValue Fault) Failure) → new ≡ mid
    → IsSource old mid name first_name last_name first begun at before count begun_came came begun_ended ended
    → IfErr r (TakesNoHeader (source_at first first_name begun before begun_came begun_ended) (source_at mid last_name at count came ended)) → IfErr r (FindsNoHeader old new name)
header_not_found old mid new name first_name last_name first begun at before count begun_came came begun_ended ended (Ok taken) end is takes = tt
header_not_found old mid new name first_name last_name first begun at before count begun_came came begun_ended ended (Err failure) end is takes =
    subst (λ (s : ShelfState). FindsNoHeader old s name failure) (sym end)
    (takes_none old mid name at count came ended (on_front old mid name first_name last_name first begun at before count begun_came came begun_ended ended is) (comes_front old mid name first_name last_name first begun at before count begun_came came begun_ended ended is) failure (omega (arith, is.few, is.zero_at))
    (of_front old mid name first_name last_name first begun at before count begun_came came begun_ended ended is (λ s n l b f c e. TakesNoHeader (source_at s n b f c e) (source_at mid l at count came ended) failure) takes))
