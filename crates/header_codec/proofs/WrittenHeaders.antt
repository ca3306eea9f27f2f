-- What is written is the body of a header, and is read back.
use Rattle.std.proofs.Common.{◌≡◌, ℕ, ◌+◌, ◌≤◌, Bool, true, false, List, ◌++◌, length, refl, arith}
use Rattle.std.specs.Prelude.{IfSome, Some, None, nat_lt, if◌then◌else◌}
use Rattle.std.specs.Int.{w16}
use Rattle.std.specs.List.{flat_map}
use Rattle.std.proofs.lemmas.Bool.{ltb-false}
use Rattle.std.proofs.lemmas.List.{length-append}
use Rattle.esdk_fields.specs.declared.refusals.Refusal.{Refusal}
use Rattle.esdk_fields.specs.declared.refusals.Refusal.TheVariants.{HeaderTooLong}
use Rattle.esdk_fields.specs.Numbers.{to_big_endian}
use Rattle.esdk_fields.specs.Sized.{sized}
use Rattle.esdk_fields.proofs.Again.{length-to_big_endian16}
use Rattle.esdk_fields.proofs.Sized.{length-sized}
use Rattle.context_codec.specs.Context.{KeyValue, ctx_text}
use Rattle.context_codec.proofs.Written.{spells_written}
use Rattle.edk_codec.specs.Entry.{Entry, edk_text}
use Rattle.suite_table.specs.Suites.{data_length}
use Rattle.header_codec.specs.declared.settings.Settings.{Settings}
use Rattle.header_codec.specs.Header.{Opening, IsHeader, IsIv, IsAllowed, frame_length, behind_keys, latest_end, version_text, opening_text, edks_text, content_text, header_text, authentication_text}
use Rattle.header_codec.specs.Offence.{opened_text, keys_text}
use Rattle.header_codec.specs.Table.{BeginsWith}
use Rattle.header_codec.specs.Written.{HeaderParts, AreParts, body_of_parts, header_value, end_refusal, keys_end}
use Rattle.header_codec.proofs.ReadBack.{begins}
use Rattle.header_codec.proofs.Spelled.{length-behind_keys, length-opening_text}

pub written_is_header : (parts : HeaderParts) (iv tag : List ℕ) → AreParts parts → IsIv parts.opening.suite iv → IsHeader (body_of_parts parts) (header_value parts iv tag)
unfolding body_of_parts header_text
written_is_header parts iv tag are is-iv = record {
  context = ctx_text parts.stored;
  spells = spells_written parts.stored are.is_context;
  short = are.is_context.short;
  id = are.id_len;
  some = are.some;
  few = are.few;
  entries = are.each;
  content = are.content;
  commitment = are.commitment_len;
  iv = is-iv;
  text = refl;
  raw = refl;
}

-- three parts, each behind two bytes of length
pub entry_text_len : (e : Entry) → length (edk_text e) ≡ 6 + (length e.provider + length e.info + length e.cipher)
unfolding edk_text
entry_text_len e =
    omega (arith, length-append (sized e.provider ++ sized e.info) (sized e.cipher), length-append (sized e.provider) (sized e.info), length-sized e.provider, length-sized e.info, length-sized e.cipher)

-- the opening, the context behind its length, the entries behind their count
pub keys_end_is : (o : Opening) (stored : List KeyValue) (entries : List Entry)
    → keys_end o stored entries ≡ length (version_text o.suite) + 2 + length o.id + (2 + length (ctx_text stored)) + 2 + length (flat_map edk_text entries)
unfolding keys_end keys_text opened_text edks_text
keys_end_is o stored entries =
    let count = to_big_endian w16 (length entries) in
    omega (
      arith,
      length-append (opening_text o ++ sized (ctx_text stored)) (count ++ flat_map edk_text entries),
      length-append count (flat_map edk_text entries),
      length-append (opening_text o) (sized (ctx_text stored)),
      length-opening_text o,
      length-sized (ctx_text stored),
      length-to_big_endian16 (length entries),
    )

-- what the body has behind the data keys
pub length-written : (parts : HeaderParts) → length parts.commitment ≡ data_length parts.opening.suite → length (body_of_parts parts) ≡ keys_end parts.opening parts.stored parts.entries + behind_keys parts.opening.suite
unfolding body_of_parts header_text keys_end keys_text opened_text
length-written parts len =
    let suite = parts.opening.suite in
    let keys = opening_text parts.opening ++ sized (ctx_text parts.stored) ++ edks_text parts.entries in
    omega (arith, length-append (keys ++ content_text suite parts.content) parts.commitment, length-append keys (content_text suite parts.content), length-behind_keys suite parts.content, len)

test_fails : (b : Bool) (refusal : Refusal) → (if b then Some refusal else None) ≡ None → b ≡ false
test_fails true refusal e = absurd cc
test_fails false refusal e = refl

-- where nothing is refused, the data keys end in time
pub ends_in_time : (o : Opening) (stored : List KeyValue) (entries : List Entry) → end_refusal o stored entries ≡ None → keys_end o stored entries ≤ latest_end
ends_in_time o stored entries e =
    ltb-false latest_end (keys_end o stored entries) (test_fails (nat_lt latest_end (keys_end o stored entries)) (HeaderTooLong (keys_end o stored entries)) e)

pub written_is_read : (settings : Settings) (parts : HeaderParts) (iv tag more : List ℕ)
    → AreParts parts → IsIv parts.opening.suite iv → length tag ≡ 16 → IsAllowed settings.uncommitted parts.opening.suite
    → end_refusal parts.opening parts.stored parts.entries ≡ None
    → IfSome settings.max_keys (λ most. length parts.entries ≤ most) → IfSome settings.max_unit (λ most. frame_length parts.content ≤ most)
    → BeginsWith settings (body_of_parts parts ++ authentication_text (header_value parts iv tag) ++ more) (header_value parts iv tag)
    (record { at = length (body_of_parts parts) + length (authentication_text (header_value parts iv tag)); left = more })
written_is_read settings parts iv tag more are is-iv len allowed taken keys unit =
    let body = body_of_parts parts in
    let value = header_value parts iv tag in
    begins settings (body ++ authentication_text value ++ more) value (record { at = length body + length (authentication_text value); left = more }) (record {
      body = written_is_header parts iv tag are is-iv;
      within = record {
        allowed = allowed;
        keys_end = omega (arith, length-written parts are.commitment_len, ends_in_time parts.opening parts.stored parts.entries taken);
        max_keys = keys;
        max_unit = unit;
      };
      tag = len;
      front = refl;
      behind = refl;
    })
