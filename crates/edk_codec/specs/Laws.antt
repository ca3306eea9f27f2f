-- The text of an entry and the reader are two readings of one format.
use Rattle.std.specs.Prelude.{◌≡◌, ℕ, List, ◌++◌, length}
use Rattle.esdk_fields.specs.Bytes.{AreBytes}
use Rattle.esdk_fields.specs.Place.{Place, start}
use Rattle.esdk_fields.specs.Reading.{Read, Refused}
use Rattle.esdk_fields.specs.declared.faults.Fault.{Fault}
use Rattle.edk_codec.specs.Entry.{Entry, IsEntry, edk_text}
use Rattle.edk_codec.specs.EntryReader.{entry_reader}

-- bytes that begin with an entry's text are read as this entry, and reading stands behind the text
abbrev pub WrittenIsRead : Type 0
WrittenIsRead = (e : Entry) (rest : List ℕ) → IsEntry e
    → entry_reader (start (edk_text e ++ rest))
    ≡ Read e (record { at = length (edk_text e); left = rest })

-- where an entry is read, the bytes begin with its text, and reading stands behind it
pub record BeginsWithEntry (bytes : List ℕ) (e : Entry) (end : Place) : Type 0 where
  pub is_entry : IsEntry e
  pub text : bytes ≡ edk_text e ++ end.left
  pub behind : end.at ≡ length (edk_text e)

abbrev pub ReadIsWritten : Type 0
ReadIsWritten = (bytes : List ℕ) (e : Entry) (end : Place) → AreBytes bytes
    → entry_reader (start bytes) ≡ Read e end → BeginsWithEntry bytes e end

-- no bytes of an entry are refused: more are wanted, or it is read
abbrev pub NoneRefused : Type 0
NoneRefused = (p : Place) (fault : Fault) (at : ℕ) → entry_reader p ≡ Refused fault at → ⊥
