-- What is found of messages in files of a shelf. Of each file at most its header and its
-- authentication are read, and one piece of 65,536 bytes.
use Rattle.std.specs.Prelude.{◌≡◌, ◌⊎◌, ◌+◌, ◌≤◌, ◌<◌, ◌^◌, ℕ}
use Rattle.std.specs.Prelude.{List, [], ◌∷◌, ◌++◌, length, ⊤, false}
use Rattle.std.specs.Prelude.{Option, Some, None, Result, Ok, Err}
use Rattle.esdk_fields.specs.Counts.{Rose}
use Rattle.esdk_fields.specs.declared.faults.Fault as faults
use Rattle.esdk_fields.specs.declared.faults.Fault.TheVariants.{Truncated}
use Rattle.esdk_fields.specs.declared.refusals.Outside.TheVariants as outsides
use Rattle.esdk_fields.specs.Place.{Place, start}
use Rattle.esdk_fields.specs.Reading.{Refused, Wanting}
use Rattle.esdk_seen.specs.Calls.{ShelfCall}
use Rattle.esdk_base.specs.Shelf.{Files, Holds, is_missing}
use Rattle.esdk_base.specs.Streams.{FailsToRead, ShelfState}
use Rattle.header_codec.specs.Header.{HeaderValue, no_limits}
use Rattle.header_codec.specs.Table.{BeginsWith, header}
use Rattle.keyring_trait.specs.Keyring.{KeyringMeaning}
use Rattle.keyring_trait.specs.Unlocking.{pair_offence}
use Rattle.multi_keyring.specs.Tree.{all_faults}
use Rattle.whole_input.specs.File.{IsFront}
use Rattle.whole_input.specs.FileReads.{ReadsRow, SeesEnd}
use Rattle.whole_input.specs.Pieces.{APieceBehind, most_piece}
use Rattle.job_file.specs.declared.audit.AuditMessage.{AuditMessage}
use Rattle.esdk_report.specs.declared.failure.Failure.{Failure}
use Rattle.esdk_report.specs.declared.failure.Failure.TheVariants as failures
use Rattle.audit_core.specs.declared.audited.Audited.{Audited}
use Rattle.audit_core.specs.declared.audited.Audited.TheVariants.{OpenedBy, Fault}
use Rattle.audit_core.specs.Asking.{NamesOpeners}
use Rattle.audit_core.specs.Messages.{Message}

-- ---- the header in a file

-- These bytes are what the calls between gave, which read the file in a row from its front. They
-- stand there, where the shelf tells, and no more were given; the files of the shelf stayed.
pub record ReadsFileFront (old new : ShelfState) (name bytes : List ℕ) : Type 0 where
  pub came : ReadsRow name 0 old.calls new.calls bytes
  pub front : IsFront old.files name bytes
  pub given : new.given ≤ old.given + length bytes
  pub files : new.files ≡ old.files

-- The same, where the shelf doesn't tell that the file isn't there, and no read failed.
pub record ReadsWell (old new : ShelfState) (name bytes : List ℕ) : Type 0 where
  pub read : ReadsFileFront old new name bytes
  pub there : is_missing old.files name ≡ false
  pub faults : new.faults ≡ old.faults

-- The file begins with this header and its authentication; what was read behind it is less than a
-- piece.
pub record HasMessageHeader (old new : ShelfState) (name : List ℕ) (h : HeaderValue) : Type 0 where
  pub bytes : List ℕ
  pub end : Place
  pub reads : ReadsWell old new name bytes
  pub begins : BeginsWith no_limits bytes h end
  pub few : length bytes < end.at + most_piece

-- A field at the front of the file has this fault; what was read behind it is less than a piece.
pub record HasHeaderFault (old new : ShelfState) (name : List ℕ) (fault : faults.Fault)
    : Type 0 where
  pub bytes : List ℕ
  pub at : ℕ
  pub reads : ReadsWell old new name bytes
  pub refused : header no_limits (start bytes) ≡ Refused fault at
  pub few : length bytes < at + most_piece

-- The whole file was read, since a read gave nothing at its end, and its header isn't whole.
pub record IsCut (old new : ShelfState) (name : List ℕ) : Type 0 where
  pub bytes : List ℕ
  pub reads : ReadsWell old new name bytes
  pub end : SeesEnd name (length bytes) old.calls new.calls
  pub whole : (told : List ℕ) → Holds old.files name told → told ≡ bytes
  pub wanting : header no_limits (start bytes) ≡ Wanting

-- the header, or its fault, which is M10 where the file ends before it does
abbrev pub FindsMessageHeader : ShelfState → ShelfState → (name : List ℕ)
    → Result HeaderValue faults.Fault → Type 0
FindsMessageHeader old new name (Ok h) = HasMessageHeader old new name h
FindsMessageHeader old new name (Err fault) =
    HasHeaderFault old new name fault ⊎ ((fault ≡ Truncated) × IsCut old new name)

-- A read failed, and what was read before is the beginning of a header.
pub record HeaderUnread (old new : ShelfState) (name : List ℕ) : Type 0 where
  pub bytes : List ℕ
  pub read : ReadsFileFront old new name bytes
  pub wanting : header no_limits (start bytes) ≡ Wanting
  pub cause : FailsToRead old new name

-- 2^62 bytes of the file were read, and are the beginning of a header.
pub record IsEndless (old new : ShelfState) (name : List ℕ) : Type 0 where
  pub bytes : List ℕ
  pub read : ReadsFileFront old new name bytes
  pub wanting : header no_limits (start bytes) ≡ Wanting
  pub count : length bytes ≡ 2 ^ 62

-- Memory ran out before the first read or at the last piece that was read; what was read before it
-- is the beginning of a header, and no read failed.
pub record HeaderLacksMemory (old new : ShelfState) (name : List ℕ) : Type 0 where
  pub bytes : List ℕ
  pub read : ReadsFileFront old new name bytes
  pub last : APieceBehind (λ before. header no_limits (start before) ≡ Wanting) bytes
  pub faults : new.faults ≡ old.faults

-- why there is neither
abbrev pub FindsNoHeader : ShelfState → ShelfState → (name : List ℕ) → Failure → Type 0
FindsNoHeader old new name (failures.Outside outsides.ShelfFault) = HeaderUnread old new name
FindsNoHeader old new name (failures.Outside outsides.InputTooLong) = IsEndless old new name
FindsNoHeader old new name failures.Memory = HeaderLacksMemory old new name
FindsNoHeader old new name failure = ⊥

-- ---- one message

-- The file has this header, and these leaves open the message.
pub record IsOpenedBy (old new : ShelfState) (before after : List KeyringMeaning)
    (m : AuditMessage) (openers : List ℕ) : Type 0 where
  pub header : HeaderValue
  pub has : HasMessageHeader old new m.from header
  pub names : NamesOpeners before after header m.given openers

-- The file has a header, and this is wrong with its pairs and those that are given.
pub record MessageHasOffence (old new : ShelfState) (m : AuditMessage) (fault : faults.Fault)
    : Type 0 where
  pub header : HeaderValue
  pub has : HasMessageHeader old new m.from header
  pub offence : pair_offence header.stored m.given [] ≡ Some fault

-- What was found of a message: of the leaves this is what they meant before and after. Where it has
-- a fault they mean what they meant.
abbrev pub FindsOf : ShelfState → ShelfState → (before after : List KeyringMeaning) → AuditMessage
    → Audited → Type 0
FindsOf old new before after m (OpenedBy openers) = IsOpenedBy old new before after m openers
FindsOf old new before after m (Fault fault) =
    (FindsMessageHeader old new m.from (Err fault) ⊎ MessageHasOffence old new m fault)
    × (after ≡ before)

-- The file has a header, nothing is wrong with its pairs, and a leaf failed.
pub record LeafFails (old new : ShelfState) (before after : ℕ) (m : AuditMessage) : Type 0 where
  pub header : HeaderValue
  pub has : HasMessageHeader old new m.from header
  pub sound : pair_offence header.stored m.given [] ≡ None
  pub rose : Rose before after

-- Memory ran out while the header wasn't whole, or once it or its fault was found.
abbrev pub AtHeader : ShelfState → ShelfState → (name : List ℕ) → Type 0
AtHeader old new name = HeaderLacksMemory old new name
    ⊎ ((found : Result HeaderValue faults.Fault) × FindsMessageHeader old new name found)

-- The file has a header, and nothing is wrong with its pairs.
pub record HasSoundHeader (old new : ShelfState) (m : AuditMessage) : Type 0 where
  pub header : HeaderValue
  pub has : HasMessageHeader old new m.from header
  pub sound : pair_offence header.stored m.given [] ≡ None

-- Memory ran out so, and the count of faults is as it was; or it ran out once the header was found,
-- with nothing wrong with its pairs.
abbrev pub LacksMemoryForMessage : ShelfState → ShelfState → (before after : ℕ) → AuditMessage
    → Type 0
LacksMemoryForMessage old new before after m =
    (AtHeader old new m.from × (after ≡ before)) ⊎ HasSoundHeader old new m

-- why nothing was found of a message, where so many faults of the tree were counted before and
-- after
abbrev pub FindsNotOf : ShelfState → ShelfState → (before after : ℕ) → AuditMessage → Failure
    → Type 0
FindsNotOf old new before after m (failures.Outside outsides.KeyringFault) =
    LeafFails old new before after m
FindsNotOf old new before after m failures.Memory = LacksMemoryForMessage old new before after m
FindsNotOf old new before after m failure = FindsNoHeader old new m.from failure

-- ---- each of them

-- What was found of the first message, and of the others behind it.
pub record FirstFound (old new : ShelfState) (before : List KeyringMeaning) (m : AuditMessage)
    (found : Audited) (Others : ShelfState → List KeyringMeaning → Type 0) : Type 0 where
  pub between : ShelfState
  pub leaves : List KeyringMeaning
  pub first : FindsOf old between before leaves m found
  pub others : Others between leaves

-- what was found of each of these messages, in their order
abbrev pub FindsEach : ShelfState → ShelfState → (before after : List KeyringMeaning)
    → List AuditMessage → List Audited → Type 0
FindsEach old new before after [] [] = (new ≡ old) × (after ≡ before)
FindsEach old new before after [] (x ∷ xs) = ⊥
FindsEach old new before after (m ∷ ms) [] = ⊥
FindsEach old new before after (m ∷ ms) (x ∷ xs) =
    FirstFound old new before m x (λ between leaves. FindsEach between new leaves after ms xs)

-- It was found of the first messages, and not of the one behind them, for this reason.
pub record FindsNotEach (old new : ShelfState) (before : List KeyringMeaning) (after : ℕ)
    (messages : List AuditMessage) (failure : Failure) : Type 0 where
  pub done : List AuditMessage
  pub message : AuditMessage
  pub behind : List AuditMessage
  pub are : messages ≡ done ++ message ∷ behind
  pub found : List Audited
  pub between : ShelfState
  pub leaves : List KeyringMeaning
  pub each : FindsEach old between before leaves done found
  pub fails : FindsNotOf between new (all_faults leaves) after message failure

-- ---- files that the shelf tells

-- The shelf tells that the files of these messages hold these bytes.
abbrev pub AreHeld : Option Files → List AuditMessage → List Message → Type 0
AreHeld files [] [] = ⊤
AreHeld files [] (h ∷ hs) = ⊥
AreHeld files (m ∷ ms) [] = ⊥
AreHeld files (m ∷ ms) (h ∷ hs) =
    Holds files m.from h.bytes × (h.given ≡ m.given) × AreHeld files ms hs

-- ---- bytes that came

-- The calls of the shelf read the file of this message in a row from its front, and these bytes are
-- what they gave; where these are the beginning of a header, a read gave nothing behind them. So it
-- is of the others, behind it.
pub record FirstCame (old : List ShelfCall) (m : AuditMessage) (h : Message)
    (Others : List ShelfCall → Type 0) : Type 0 where
  pub between : List ShelfCall
  pub row : ReadsRow m.from 0 old between h.bytes
  pub end : header no_limits (start h.bytes) ≡ Wanting
      → SeesEnd m.from (length h.bytes) old between
  pub given : h.given ≡ m.given
  pub others : Others between

-- The calls between read the files of these messages, one behind another, and nothing else. These
-- bytes came from them.
abbrev pub HaveCome : List ShelfCall → List ShelfCall → List AuditMessage → List Message → Type 0
HaveCome old new [] [] = new ≡ old
HaveCome old new [] (h ∷ hs) = ⊥
HaveCome old new (m ∷ ms) [] = ⊥
HaveCome old new (m ∷ ms) (h ∷ hs) = FirstCame old m h (λ between. HaveCome between new ms hs)
