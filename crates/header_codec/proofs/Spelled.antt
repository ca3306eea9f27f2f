-- Where a header was read, its spelling stands at the front of the bytes.
use Rattle.std.proofs.Common.{◌≡◌, ℕ, ◌+◌, ◌≤◌, not, List, [], ◌++◌, length, replicate, take, Option, refl, sym, ap, subst, ◌∙◌, arith}
use Rattle.std.specs.Prelude.{◌==◌, IfSome}
use Rattle.std.specs.Int.{w8, w16, w32}
use Rattle.std.specs.List.{flat_map, AllByRecursion}
use Rattle.std.proofs.lemmas.Bool.{eqb-false, eqb-true}
use Rattle.std.proofs.lemmas.List.{length-append, take_at}
use Rattle.std.proofs.lemmas.List.Elements.{All-from_recursion}
use Rattle.esdk_fields.specs.declared.faults.Fault.TheVariants.{NoDataKeys, TooManyDataKeys, BadContentType, BadFrameLength, UnitTooLong, BadReserved, BadIvLength}
use Rattle.esdk_fields.specs.declared.contents.Content.{Content}
use Rattle.esdk_fields.specs.Bytes.{AreBytes}
use Rattle.esdk_fields.specs.Place.{Place, start}
use Rattle.esdk_fields.specs.Numbers.{to_big_endian}
use Rattle.esdk_fields.specs.Reading.{Read, ◌>>=◌, ◌>>◌, done, number, refuse_if, repeat}
use Rattle.esdk_fields.specs.Sized.{sized}
use Rattle.esdk_fields.proofs.Again.{length-to_big_endian8, length-to_big_endian16, length-to_big_endian32}
use Rattle.esdk_fields.proofs.Inverse.{read_same, then_is_read}
use Rattle.esdk_fields.proofs.Sized.{length-sized}
use Rattle.esdk_fields.proofs.Taken.{IsTaken, IsTaken-then, bytes_taken, number8_taken, number16_taken, number32_taken}
use Rattle.suite_table.specs.declared.suite.Suite.{Suite}
use Rattle.suite_table.specs.declared.suite.Suite.TheVariants.{Committing, Uncommitted}
use Rattle.suite_table.specs.Suites.{suite_id, id_length, data_length}
use Rattle.context_codec.specs.Context.{KeyValue}
use Rattle.context_codec.specs.Split.{SpellsContext}
use Rattle.edk_codec.specs.Entry.{Entry, IsEntry, edk_text}
use Rattle.header_codec.specs.declared.settings.Settings.{Settings}
use Rattle.header_codec.specs.Header.{Opening, HeaderValue, latest_end, content_type, frame_length, behind_keys, IsContent, IsIv, type_text, version_text, opening_text, edks_text, reserved_text, content_text, header_text, iv_text, authentication_text}
use Rattle.esdk_fields.specs.Limits.{is_over}
use Rattle.header_codec.specs.Table.{HeaderFields, is_content_type, is_frame_length, is_unit_over, content_of, entry, data_keys, reserved, content_field, header_iv, header, made_of, BeginsWith}
use Rattle.header_codec.specs.Laws.{HeaderIsSpelled}
use Rattle.header_codec.proofs.Steps.{after_count, after_kind, after_iv_length, after_zeros, after_reserved, after_type_of_content, after_frame, header_is_read}
use Rattle.header_codec.proofs.Readings.{guard_read, refuse_read}
use Rattle.header_codec.proofs.Fronts.{not_false, nothing_taken, opening_taken, context_taken, entries_taken}
use Rattle.esdk_fields.proofs.Limited.{within_limit}
use Rattle.header_codec.proofs.Contents.{is_made}

-- ---- the data keys

pub record KeysTaken (max_keys : Option ℕ) (p : Place) (es : List Entry) (q : Place) : Type 0 where
  pub taken : IsTaken p (edks_text es) q
  pub some : 1 ≤ length es
  pub few : length es ≤ 65535
  pub limit : IfSome max_keys (λ most. length es ≤ most)
  pub entries : AllByRecursion IsEntry es
  pub within : q.at ≤ latest_end

pub keys_taken : (max_keys : Option ℕ) (p : Place) (es : List Entry) (q : Place) → AreBytes p.left → p.at + 2 ≤ latest_end → data_keys max_keys p ≡ Read es q → KeysTaken max_keys p es q
unfolding data_keys edks_text
keys_taken max_keys p es q fits low e =
    let a = then_is_read (number w16 p) (after_count max_keys) es q e in
    let b = guard_read (a.value == 0) NoDataKeys (refuse_if (is_over max_keys a.value) (TooManyDataKeys a.value) >> repeat entry a.value) a.next es q a.second in
    let c = guard_read (is_over max_keys a.value) (TooManyDataKeys a.value) (repeat entry a.value) a.next es q b.1 in
    let n = number16_taken p a.value a.next fits a.first in
    let t = entries_taken a.value a.next es q n.0.rest c.1 in
    let some = eqb-false a.value 0 b.0 in
    let limit : IfSome max_keys (λ most. length es ≤ most) = subst (λ (k : ℕ). IfSome max_keys (λ most. k ≤ most)) (sym t.len) (within_limit max_keys a.value c.0) in
    record {
      taken = subst (λ (k : ℕ). IsTaken p (to_big_endian w16 k ++ flat_map edk_text es) q) (sym t.len) (IsTaken-then p (to_big_endian w16 a.value) a.next (flat_map edk_text es) q n.0 t.taken);
      some = omega (arith, t.len);
      few = omega (arith, t.len, n.1);
      limit = limit;
      entries = t.entries;
      within = t.within (omega (arith, n.0.end, length-to_big_endian16 a.value));
    }

-- ---- the content

pub reserved_taken : (suite : Suite) (p : Place) (x : Unit {0}) (q : Place) → AreBytes p.left → reserved suite p ≡ Read x q → IsTaken p (reserved_text suite) q
unfolding reserved reserved_text
reserved_taken Committing p x q fits e = subst (λ (n : Place). IsTaken p [] n) (read_same tt x p q e).1 (nothing_taken p fits)
reserved_taken Uncommitted p x q fits e =
    let a = then_is_read (number w32 p) after_zeros x q e in
    let b = guard_read (not (a.value == 0)) (BadReserved a.value) (number w8 >>= after_iv_length) a.next x q a.second in
    let c = then_is_read (number w8 a.next) after_iv_length x q b.1 in
    let d = refuse_read (not (c.value == 12)) (BadIvLength c.value) c.next x q c.second in
    let z = number32_taken p a.value a.next fits a.first in
    let l = number8_taken a.next c.value c.next z.0.rest c.first in
    let zeros : a.value ≡ 0 = eqb-true a.value 0 (not_false (a.value == 0) b.0) in
    let twelve : c.value ≡ 12 = eqb-true c.value 12 (not_false (c.value == 12) d.0) in
    let first : IsTaken p (to_big_endian w32 0) a.next = subst (λ (n : ℕ). IsTaken p (to_big_endian w32 n) a.next) zeros z.0 in
    let second : IsTaken a.next (to_big_endian w8 12) c.next = subst (λ (n : ℕ). IsTaken a.next (to_big_endian w8 n) c.next) twelve l.0 in
    subst (λ (n : Place). IsTaken p (to_big_endian w32 0 ++ to_big_endian w8 12) n) d.1 (IsTaken-then p (to_big_endian w32 0) a.next (to_big_endian w8 12) c.next first second)

pub record ContentTaken (suite : Suite) (max_unit : Option ℕ) (p : Place) (c : Content) (q : Place) : Type 0 where
  pub taken : IsTaken p (content_text suite c) q
  pub content : IsContent c
  pub limit : IfSome max_unit (λ most. frame_length c ≤ most)

pub content_taken : (suite : Suite) (max_unit : Option ℕ) (p : Place) (c : Content) (q : Place) → AreBytes p.left → content_field suite max_unit p ≡ Read c q → ContentTaken suite max_unit p c q
unfolding content_field content_text
content_taken suite max_unit p c q fits e =
    let a = then_is_read (number w8 p) (after_kind suite max_unit) c q e in
    let b = guard_read (not (is_content_type a.value)) (BadContentType a.value) (after_type_of_content suite max_unit a.value) a.next c q a.second in
    let r = then_is_read (reserved suite a.next) (λ _. after_reserved max_unit a.value) c q b.1 in
    let d = then_is_read (number w32 r.next) (after_frame max_unit a.value) c q r.second in
    let f = guard_read (not (is_frame_length a.value d.value)) (BadFrameLength d.value) (refuse_if (is_unit_over max_unit a.value d.value) (UnitTooLong d.value) >> done (content_of a.value d.value)) d.next c q d.second in
    let g = guard_read (is_unit_over max_unit a.value d.value) (UnitTooLong d.value) (done (content_of a.value d.value)) d.next c q f.1 in
    let same = read_same (content_of a.value d.value) c d.next q g.1 in
    let kind = number8_taken p a.value a.next fits a.first in
    let zeros = reserved_taken suite a.next r.value r.next kind.0.rest r.first in
    let frame = number32_taken r.next d.value d.next zeros.rest d.first in
    let made = is_made max_unit a.value d.value (not_false (is_content_type a.value) b.0) (not_false (is_frame_length a.value d.value) f.0) g.0 frame.1 in
    let text : IsTaken p (to_big_endian w8 a.value ++ reserved_text suite ++ to_big_endian w32 d.value) d.next =
    IsTaken-then p (to_big_endian w8 a.value ++ reserved_text suite) r.next (to_big_endian w32 d.value) d.next (IsTaken-then p (to_big_endian w8 a.value) a.next (reserved_text suite) r.next kind.0 zeros) frame.0 in
    let spelled : IsTaken p (to_big_endian w8 (content_type (content_of a.value d.value)) ++ reserved_text suite ++ to_big_endian w32 (frame_length (content_of a.value d.value))) d.next =
    subst (λ (k : ℕ). IsTaken p (to_big_endian w8 (content_type (content_of a.value d.value)) ++ reserved_text suite ++ to_big_endian w32 k) d.next) made.frame_is
    (subst (λ (k : ℕ). IsTaken p (to_big_endian w8 k ++ reserved_text suite ++ to_big_endian w32 d.value) d.next) made.kind_is text) in
    let found : ContentTaken suite max_unit p (content_of a.value d.value) d.next = record { taken = spelled; content = made.content; limit = made.limit } in
    subst (λ (n : Place). ContentTaken suite max_unit p c n) same.1 (subst (λ (y : Content). ContentTaken suite max_unit p y d.next) same.0 found)

-- ---- the authentication

pub iv_taken : (suite : Suite) (p : Place) (iv : List ℕ) (q : Place) → AreBytes p.left → header_iv suite p ≡ Read iv q → IsTaken p (iv_text suite iv) q × IsIv suite iv
unfolding header_iv
iv_taken Committing p iv q fits e =
    let same = read_same (replicate 12 0) iv p q e in
    (subst (λ (n : Place). IsTaken p [] n) same.1 (nothing_taken p fits), sym same.0)
iv_taken Uncommitted p iv q fits e = bytes_taken 12 p iv q fits e

-- ---- lengths

pub committing_version_length : length (version_text Committing) ≡ 1
unfolding version_text type_text
committing_version_length = omega (arith, length-append (to_big_endian w8 2) [], length-to_big_endian8 2)

pub uncommitted_version_length : length (version_text Uncommitted) ≡ 2
unfolding version_text type_text
uncommitted_version_length = omega (arith, length-append (to_big_endian w8 1) (to_big_endian w8 0x80), length-to_big_endian8 1, length-to_big_endian8 0x80)

pub version_short : (suite : Suite) → length (version_text suite) ≤ 2
version_short Committing = omega (arith, committing_version_length)
version_short Uncommitted = omega (arith, uncommitted_version_length)

pub id_short : (suite : Suite) → id_length suite ≤ 32
id_short Committing = omega arith
id_short Uncommitted = omega arith

pub length-opening_text : (o : Opening) → length (opening_text o) ≡ length (version_text o.suite) + 2 + length o.id
unfolding opening_text
length-opening_text o =
    omega (arith, length-append (version_text o.suite ++ to_big_endian w16 (suite_id o.suite)) o.id, length-append (version_text o.suite) (to_big_endian w16 (suite_id o.suite)), length-to_big_endian16 (suite_id o.suite))

-- at most 36 bytes
pub opening_short : (o : Opening) → length o.id ≡ id_length o.suite → length (opening_text o) ≤ 36
opening_short o len = omega (arith, length-opening_text o, version_short o.suite, id_short o.suite, len)

length-reserved : (suite : Suite) → length (reserved_text suite) + 5 + data_length suite ≡ behind_keys suite
unfolding reserved_text
length-reserved Committing = omega arith
length-reserved Uncommitted = omega (arith, length-append (to_big_endian w32 0) (to_big_endian w8 12), length-to_big_endian32 0, length-to_big_endian8 12)

length-content : (suite : Suite) (c : Content) → length (content_text suite c) ≡ 5 + length (reserved_text suite)
unfolding content_text
length-content suite c =
    omega (
      arith,
      length-append (to_big_endian w8 (content_type c) ++ reserved_text suite) (to_big_endian w32 (frame_length c)),
      length-append (to_big_endian w8 (content_type c)) (reserved_text suite),
      length-to_big_endian8 (content_type c),
      length-to_big_endian32 (frame_length c),
    )

-- what stands behind the data keys
pub length-behind_keys : (suite : Suite) (c : Content) → length (content_text suite c) + data_length suite ≡ behind_keys suite
length-behind_keys suite c = omega (arith, length-content suite c, length-reserved suite)

-- ---- the header

pub spelled_made : (settings : Settings) (b : List ℕ) (parts : HeaderFields) (end : Place) (stored : List KeyValue) → AreBytes b → header settings (start b) ≡ Read parts end → SpellsContext parts.context stored
    → HeaderIsSpelled settings b (made_of b parts stored) end
unfolding header_text authentication_text
spelled_made settings b parts end stored fits e spells =
    let h = header_is_read settings (start b) parts end e in
    let o = parts.opening in
    let opening = opening_taken settings.uncommitted (start b) o h.after_id fits h.opening in
    let context = context_taken h.after_id parts.context h.after_context opening.taken.rest h.context in
    let low : h.after_context.at + 2 ≤ latest_end = omega (arith, opening.taken.end, context.0.end, opening_short o opening.id_len, length-sized parts.context, context.1) in
    let keys = keys_taken settings.max_keys h.after_context parts.entries h.after_entries context.0.rest low h.entries in
    let kind = content_taken o.suite settings.max_unit h.after_entries parts.content h.after_content keys.taken.rest h.content in
    let commitment = bytes_taken (data_length o.suite) h.after_content parts.commitment h.body_end kind.taken.rest h.commitment in
    let iv = iv_taken o.suite h.body_end parts.iv h.iv_end commitment.0.rest h.iv in
    let tag = bytes_taken 16 h.iv_end parts.tag end iv.0.rest h.tag in
    let two = IsTaken-then (start b) (opening_text o) h.after_id (sized parts.context) h.after_context opening.taken context.0 in
    let three = IsTaken-then (start b) (opening_text o ++ sized parts.context) h.after_context (edks_text parts.entries) h.after_entries two keys.taken in
    let four = IsTaken-then (start b) (opening_text o ++ sized parts.context ++ edks_text parts.entries) h.after_entries (content_text o.suite parts.content) h.after_content three kind.taken in
    let body : List ℕ = opening_text o ++ sized parts.context ++ edks_text parts.entries ++ content_text o.suite parts.content ++ parts.commitment in
    let five : IsTaken (start b) body h.body_end = IsTaken-then (start b) (opening_text o ++ sized parts.context ++ edks_text parts.entries ++ content_text o.suite parts.content) h.after_content parts.commitment h.body_end four commitment.0 in
    let authentication : List ℕ = iv_text o.suite parts.iv ++ parts.tag in
    let six : IsTaken h.body_end authentication end = IsTaken-then h.body_end (iv_text o.suite parts.iv) h.iv_end parts.tag end iv.0 tag.0 in
    let seven : IsTaken (start b) (body ++ authentication) end = IsTaken-then (start b) body h.body_end authentication end five six in
    let size : parts.size ≡ length body = omega (arith, h.size, five.end) in
    let raw : take parts.size b ≡ body = ap (take parts.size) five.front ∙ take_at body h.body_end.left parts.size (sym size) in
    record {
      body = record {
        context = parts.context;
        spells = spells;
        short = context.1;
        id = opening.id_len;
        some = keys.some;
        few = keys.few;
        entries = All-from_recursion IsEntry parts.entries keys.entries;
        content = kind.content;
        commitment = commitment.1;
        iv = iv.1;
        text = raw;
        raw = refl;
      };
      within = record {
        allowed = opening.allowed;
        keys_end = omega (arith, ap length raw, size, h.size, keys.within, kind.taken.end, length-behind_keys o.suite parts.content, commitment.0.end, commitment.1);
        max_keys = keys.limit;
        max_unit = kind.limit;
      };
      tag = tag.1;
      front = seven.front ∙ ap (λ (r : List ℕ). r ++ authentication ++ end.left) (sym raw);
      behind = omega (arith, six.end, five.end, ap length raw);
    }

pub is_spelled : (settings : Settings) (b : List ℕ) (h : HeaderValue) (end : Place) → AreBytes b → BeginsWith settings b h end → HeaderIsSpelled settings b h end
is_spelled settings b h end fits begins =
    subst (λ (x : HeaderValue). HeaderIsSpelled settings b x end) (sym begins.is) (spelled_made settings b begins.parts end h.stored fits begins.read begins.stored)
