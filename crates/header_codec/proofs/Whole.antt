-- Where a header's body ends, and what is kept of it.
use Rattle.std.proofs.Common.{◌≡◌, ℕ, ◌≤◌, List, length, take, refl, ap, sym, ◌∙◌, arith}
use Rattle.std.proofs.lemmas.List.{length-take}
use Rattle.esdk_fields.specs.Bytes.{AreBytes}
use Rattle.esdk_fields.specs.Place.{Place, start}
use Rattle.esdk_fields.specs.Reading.{Read, bytes}
use Rattle.esdk_fields.proofs.Sequential.{IsSequential-bytes}
use Rattle.esdk_fields.proofs.Fronts.{read_within, onward_from}
use Rattle.esdk_fields.proofs.Inverse.{field_is_read}
use Rattle.header_codec.specs.declared.settings.Settings.{Settings}
use Rattle.context_codec.specs.Context.{KeyValue}
use Rattle.context_codec.specs.Split.{SpellsContext}
use Rattle.edk_codec.specs.Entry.{Entry}
use Rattle.header_codec.specs.Header.{HeaderValue, IsKept, IsLock, lock_of}
use Rattle.header_codec.specs.Table.{HeaderFields, header, header_iv, made_of, BeginsWith}
use Rattle.header_codec.proofs.Steps.{header_is_read}
use Rattle.header_codec.proofs.Spelled.{is_spelled}
use Rattle.header_codec.proofs.Order.{IsSequential-header, IsSequential-header_iv}

length_of_field : (n : ℕ) (p : Place) (x : List ℕ) (next : Place) → bytes n p ≡ Read x next → length x ≡ n
length_of_field n p x next e =
    let f = field_is_read (λ b. b) n p x next e in
    ap length (sym f.value) ∙ omega (arith, f.long, length-take n p.left)

pub length-tag : (settings : Settings) (p : Place) (parts : HeaderFields) (end : Place) → header settings p ≡ Read parts end → length parts.tag ≡ 16
length-tag settings p parts end e =
    let h = header_is_read settings p parts end e in
    length_of_field 16 h.iv_end parts.tag end h.tag

-- the body ends before the authentication does
pub size_before_end : (settings : Settings) (p : Place) (parts : HeaderFields) (end : Place) → header settings p ≡ Read parts end → parts.size ≤ end.at
size_before_end settings p parts end e =
    let h = header_is_read settings p parts end e in
    let iv = onward_from (header_iv parts.opening.suite) h.body_end parts.iv h.iv_end (IsSequential-header_iv parts.opening.suite) h.iv in
    omega (arith, h.size, iv, onward_from (bytes 16) h.iv_end parts.tag end (IsSequential-bytes 16) h.tag)

pub size_within : (settings : Settings) (b : List ℕ) (parts : HeaderFields) (end : Place) → header settings (start b) ≡ Read parts end → parts.size ≤ length b
size_within settings b parts end e =
    omega (arith, size_before_end settings (start b) parts end e, read_within (header settings) b parts end (IsSequential-header settings) e)

abbrev value : HeaderValue → HeaderValue
value h = h

-- a header made of what was read
pub begins_with : (settings : Settings) (b : List ℕ) (parts : HeaderFields) (next : Place) (stored : List KeyValue) (end : ℕ) (id : List ℕ) (entries : List Entry) (commitment raw tag : List ℕ)
    → header settings (start b) ≡ Read parts next → SpellsContext parts.context stored → end ≡ next.at
    → id ≡ parts.opening.id → entries ≡ parts.entries → commitment ≡ parts.commitment → raw ≡ take parts.size b → tag ≡ parts.tag
    → (left : List ℕ) × BeginsWith settings b (record { suite = parts.opening.suite; message_id = id; stored = stored; entries = entries; content = parts.content; commitment = commitment; raw = raw; iv = parts.iv; tag = tag }) (record { at = end; left = left })
begins_with settings b parts next stored end id entries commitment raw tag read spells at_end is-id is-entries is-commitment is-raw is-tag = (
  next.left,
  record {
    parts = parts;
    read = read ∙ ap (λ (a : ℕ). Read parts (record { at = a; left = next.left })) (sym at_end);
    stored = spells;
    is = made id entries commitment raw tag is-id is-entries is-commitment is-raw is-tag;
  },
)
  where
    made : (i : List ℕ) (e : List Entry) (c r t : List ℕ) → i ≡ parts.opening.id → e ≡ parts.entries → c ≡ parts.commitment → r ≡ take parts.size b → t ≡ parts.tag
        → value (record { suite = parts.opening.suite; message_id = i; stored = stored; entries = e; content = parts.content; commitment = c; raw = r; iv = parts.iv; tag = t }) ≡ made_of b parts stored
    made i e c r t pi pe pc pr pt = rw (pi, pe, pc, pr, pt) refl

-- what was read keeps what the type of headers keeps
pub kept : (settings : Settings) (b : List ℕ) (h : HeaderValue) (end : Place) → AreBytes b → BeginsWith settings b h end → IsKept h
kept settings b h end fits begins = let s = is_spelled settings b h end fits begins in record { body = s.body; keys_end = s.within.keys_end }

-- and so does what is left of it without its pairs and its encrypted data keys
pub lock_kept : (h : HeaderValue) → IsKept h → IsLock (lock_of h)
lock_kept h k = record { id = k.body.id; content = k.body.content; commitment = k.body.commitment; keys_end = k.keys_end }
