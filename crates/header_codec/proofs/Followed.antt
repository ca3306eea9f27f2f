-- A header that bytes begin with, when more bytes follow.
use Rattle.std.proofs.Common.{◌≡◌, List, ℕ, ◌++◌, take, sym, ap, ◌∙◌}
use Rattle.std.proofs.lemmas.List.{take-append-le}
use Rattle.esdk_fields.specs.Place.{Place, followed}
use Rattle.esdk_fields.proofs.Fronts.{value_stays}
use Rattle.header_codec.specs.declared.settings.Settings.{Settings}
use Rattle.header_codec.specs.Header.{HeaderValue}
use Rattle.header_codec.specs.Table.{header, BeginsWith}
use Rattle.header_codec.proofs.Order.{IsSequential-header}
use Rattle.header_codec.proofs.Whole.{size_within}

pub BeginsWith-append : (settings : Settings) (b more : List ℕ) (h : HeaderValue) (end : Place) → BeginsWith settings b h end → BeginsWith settings (b ++ more) h (followed end more)
BeginsWith-append settings b more h end begins =
    let raw : take begins.parts.size b ≡ take begins.parts.size (b ++ more) = sym (take-append-le begins.parts.size b more (size_within settings b begins.parts end begins.read)) in
    record {
      parts = begins.parts;
      read = value_stays (header settings) b more begins.parts end (IsSequential-header settings) begins.read;
      stored = begins.stored;
      is = begins.is ∙ ap (λ (r : List ℕ). value (record { suite = begins.parts.opening.suite; message_id = begins.parts.opening.id; stored = h.stored; entries = begins.parts.entries; content = begins.parts.content; commitment = begins.parts.commitment; raw = r; iv = begins.parts.iv; tag = begins.parts.tag })) raw;
    }
  where
    value : HeaderValue → HeaderValue
    value x = x
