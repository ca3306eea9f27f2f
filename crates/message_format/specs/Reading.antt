-- How any bytes are judged by a reader that holds wrapping keys.
use Rattle.std.specs.Prelude.{ℕ, List}
use Rattle.esdk_fields.specs.declared.faults.Fault.TheVariants.{Truncated}
use Rattle.esdk_fields.specs.Place.{start}
use Rattle.esdk_fields.specs.Reading.{Reading, Read, Refused, Wanting}
use Rattle.context_codec.specs.Context.{KeyValue}
use Rattle.header_codec.specs.declared.settings.Settings.{Settings}
use Rattle.header_codec.specs.Header.{HeaderValue}
use Rattle.header_codec.specs.Table.{HeaderFields, header}
use Rattle.keyring_trait.specs.Wrapping.{WrapKeyValue}
use Rattle.keyring_trait.specs.Unlocking.{Unlocking, Refuses, unlock}
use Rattle.message_format.specs.Judgement.{Judged, judged, header_of}

abbrev pub unlock_header : HeaderValue → List KeyValue → List (List ℕ) → List WrapKeyValue
    → Unlocking
unlock_header h given required keys = unlock h.stored h.entries given required keys

-- without a whole header there is nothing to unlock, and no judgement looks at this answer
abbrev pub unlock_reading : List ℕ → List KeyValue → List (List ℕ) → List WrapKeyValue
    → Reading HeaderFields → Unlocking
unlock_reading bytes given required keys (Read parts body) =
    unlock_header (header_of bytes parts) given required keys
unlock_reading bytes given required keys (Refused fault at) = Refuses fault
unlock_reading bytes given required keys Wanting = Refuses Truncated

-- what the header at the front of the bytes unlocks to: under these wrapping keys, with these pairs
-- given, and with these keys required of the giver
unfoldable pub unlocking : List ℕ → Settings → List KeyValue → List (List ℕ) → List WrapKeyValue
    → Unlocking
unlocking bytes settings given required keys =
    unlock_reading bytes given required keys (header settings (start bytes))

unfoldable pub read : List ℕ → Settings → List KeyValue → List (List ℕ) → List WrapKeyValue → Judged
read bytes settings given required keys =
    judged bytes settings (unlocking bytes settings given required keys)
