-- The parts of an entry as they are borrowed.
use Rattle.edk_codec.specs.declared.reading.Parts.{Parts}
use Rattle.edk_codec.specs.Entry.{Entry}

abbrev pub parts_view : Parts → Entry
parts_view parts = record {
  provider = parts.provider.now;
  info = parts.info.now;
  cipher = parts.cipher.now;
}
