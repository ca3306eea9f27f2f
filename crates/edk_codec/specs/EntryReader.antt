-- Reading an encrypted data key, field by field. Standard: AWS Encryption SDK, message header,
-- "Encrypted Data Key Entries".
use Rattle.std.specs.Prelude.{◌≡◌, Option, Some, None, Result, Ok, Err}
use Rattle.esdk_fields.specs.Place.{Place}
use Rattle.esdk_fields.specs.Reading.{Reading, Read, Wanting, FieldReader, ◌>>=◌, done}
use Rattle.esdk_fields.specs.Sized.{sized_bytes}
use Rattle.edk_codec.specs.Entry.{Entry}

unfoldable pub entry_reader : FieldReader Entry
entry_reader = do
  provider ← sized_bytes
  info ← sized_bytes
  cipher ← sized_bytes
  done (record { provider = provider; info = info; cipher = cipher })

-- What is read was found, and the cursor stands behind it; or more bytes are wanted.
abbrev pub ReadsPart : {X Y : Type 0} → (X → Y) → Option X → Place → Reading Y → Type 0
ReadsPart view (Some x) new reading = reading ≡ Read (view x) new
ReadsPart view None new reading = reading ≡ Wanting

-- A whole entry was read, and the cursor stands behind it. Else, and where memory ran out, the
-- cursor stays.
abbrev pub ReadsEntry : {E : Type 0} → Result (Option Entry) E → Place → Place → Type 0
ReadsEntry (Ok (Some e)) old new = entry_reader old ≡ Read e new
ReadsEntry (Ok None) old new = (entry_reader old ≡ Wanting) × (new ≡ old)
ReadsEntry (Err e) old new = new ≡ old
