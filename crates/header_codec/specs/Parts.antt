-- A header's parts as they are read from the bytes.
use Rattle.edk_codec.specs.Entry.{Entry}
use Rattle.header_codec.specs.declared.parts.RawEntry.{RawEntry}
use Rattle.header_codec.specs.declared.parts.RawOpening.{RawOpening}
use Rattle.header_codec.specs.declared.parts.HeaderEnding.{HeaderEnding}
use Rattle.header_codec.specs.Header.{Opening}
use Rattle.header_codec.specs.Rest.{Ending}

abbrev pub raw_entry : RawEntry → Entry
raw_entry e = record { provider = e.provider.now; info = e.info.now; cipher = e.cipher.now }

abbrev pub raw_opening : RawOpening → Opening
raw_opening o = record { suite = o.suite; id = o.id.now }

abbrev pub ending_fields : HeaderEnding → Ending
ending_fields e = record {
  content = e.content;
  commitment = e.commitment.items;
  size = e.size;
  iv = e.iv;
  tag = e.tag;
}
