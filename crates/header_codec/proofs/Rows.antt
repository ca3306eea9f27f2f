-- Each row of the table: bytes that begin with fields that offend so are refused with that fault.
use Rattle.std.proofs.Common.{◌≡◌, ◌≢◌, ℕ, ◌+◌, ◌*◌, ◌^◌, ◌<◌, ◌≤◌, true, false, not, eqb, List, ◌++◌, length, All, Option, refl, sym, ap, subst, ◌∙◌, append_assoc, arith, inl, inr, ◌⊎◌}
use Rattle.std.specs.Prelude.{◌==◌, IsSomeAnd}
use Rattle.std.specs.Int.{w8, w16, w32}
use Rattle.std.specs.List.{flat_map}
use Rattle.std.proofs.lemmas.Bool.{ne_eqb, eq-eqb, or_from}
use Rattle.std.proofs.lemmas.List.{length-append}
use Rattle.std.proofs.lemmas.List.Elements.{recursion_from_All}
use Rattle.esdk_fields.specs.declared.faults.Fault.{Fault}
use Rattle.esdk_fields.specs.declared.faults.Fault.TheVariants.{NoDataKeys, TooManyDataKeys, BadContentType, BadFrameLength, HeaderTooLong, UnitTooLong, BadReserved, BadIvLength}
use Rattle.esdk_fields.specs.Place.{start}
use Rattle.esdk_fields.specs.Numbers.{to_big_endian}
use Rattle.esdk_fields.specs.Reading.{Refused, ◌>>=◌, ◌>>◌, done, number, refuse_if, repeat}
use Rattle.esdk_fields.specs.Sized.{sized}
use Rattle.suite_table.specs.declared.suite.Suite.{Suite}
use Rattle.suite_table.specs.declared.suite.Suite.TheVariants.{Uncommitted}
use Rattle.edk_codec.specs.Entry.{Entry, IsEntry}
use Rattle.header_codec.specs.declared.settings.Settings.{Settings}
use Rattle.header_codec.specs.Header.{Opening, latest_end, opening_text, edks_text, reserved_text}
use Rattle.esdk_fields.specs.Limits.{is_over}
use Rattle.header_codec.specs.Table.{is_content_type, is_frame_length, is_unit_over, content_of, opening, context_field, entry, data_keys, reserved, content_field, header}
use Rattle.header_codec.specs.Offence.{opened_text, IsIdentified, OpeningIsRead, IsCount, parts_text, keys_text, AreKeys, IsType, typed_text, Offends, HasOffence}
use Rattle.header_codec.specs.Offence.{Version, MessageType, Forbidden, SuiteId, Context, NoKeys, ManyKeys, LatePart, ContentType, Reserved, IvLength, FrameLength, LongFrame}
use Rattle.header_codec.proofs.Steps.{after_count, after_kind, after_iv_length, after_zeros, after_reserved, after_type_of_content, after_frame, after_opening, after_context, after_keys, after_content}
use Rattle.header_codec.proofs.Readings.{place, Refuses, Refuses-bind, Refuses-first, Refuses-after, guard_passes, guard_refuses, refuse_refuses}
use Rattle.esdk_fields.proofs.Limited.{limit_within, limit_over}
use Rattle.header_codec.proofs.ReadBack.{Reads-number8, Reads-number16, Reads-number32, Reads-reserved, Reads-opening, Reads-keys}
use Rattle.header_codec.proofs.Offending.{Refuses-guard, not_of_false, not_of_true, version_refused, type_refused, forbidden_refused, suite_refused, context_refused, behind_context, no_keys_refused, many_keys_refused, EndsLate, late_text, entries_late}

-- ---- the content

content_type_refused : (suite : Suite) (max_unit : Option ℕ) (at kind : ℕ) → kind < 2 ^ 8 → kind ≢ 1 → kind ≢ 2 → Refuses (content_field suite max_unit) at (to_big_endian w8 kind) (BadContentType kind)
unfolding content_field
content_type_refused suite max_unit at kind lt not_single not_framed =
    Refuses-after (number w8) (after_kind suite max_unit) at (to_big_endian w8 kind) kind (BadContentType kind) (Reads-number8 at kind lt)
    (λ rest. guard_refuses (not (is_content_type kind)) (BadContentType kind) (after_type_of_content suite max_unit kind) (place (at + length (to_big_endian w8 kind)) rest)
    (not_of_false (is_content_type kind) (or_from (eqb kind 1) (eqb kind 2) (ne_eqb kind 1 not_single) (ne_eqb kind 2 not_framed))))

-- a content type is read, and what follows it is refused
behind_type : (suite : Suite) (max_unit : Option ℕ) (at kind : ℕ) (text : List ℕ) (fault : Fault) → IsType kind
    → ((q : ℕ) → Refuses (after_type_of_content suite max_unit kind) q text fault) → Refuses (content_field suite max_unit) at (to_big_endian w8 kind ++ text) fault
unfolding content_field
behind_type suite max_unit at kind text fault type refuses =
    Refuses-bind (number w8) (after_kind suite max_unit) at (to_big_endian w8 kind) text kind fault (Reads-number8 at kind (small kind type))
    (Refuses-guard (not (is_content_type kind)) (BadContentType kind) (after_type_of_content suite max_unit kind) (at + length (to_big_endian w8 kind)) text fault (not_of_true (is_content_type kind) (known kind type))
    (refuses (at + length (to_big_endian w8 kind))))
  where
    small : (k : ℕ) → IsType k → k < 2 ^ 8
    small k (inl one) = omega (arith, one)
    small k (inr two) = omega (arith, two)

    known : (k : ℕ) → IsType k → is_content_type k ≡ true
    known k (inl one) = subst (λ (n : ℕ). is_content_type n ≡ true) (sym one) refl
    known k (inr two) = subst (λ (n : ℕ). is_content_type n ≡ true) (sym two) refl

zeros_refused : (max_unit : Option ℕ) (kind q zeros : ℕ) → zeros < 2 ^ 32 → zeros ≢ 0 → Refuses (after_type_of_content Uncommitted max_unit kind) q (to_big_endian w32 zeros) (BadReserved zeros)
unfolding reserved
zeros_refused max_unit kind q zeros lt some =
    let z = to_big_endian w32 zeros in
    Refuses-first (number w32 >>= after_zeros) (λ _. after_reserved max_unit kind) q z (BadReserved zeros)
    (Refuses-after (number w32) after_zeros q z zeros (BadReserved zeros) (Reads-number32 q zeros lt)
    (λ rest. guard_refuses (not (zeros == 0)) (BadReserved zeros) (number w8 >>= after_iv_length) (place (q + length z) rest) (not_of_false (zeros == 0) (ne_eqb zeros 0 some))))

iv_length_refused : (max_unit : Option ℕ) (kind q iv_length : ℕ) → iv_length < 2 ^ 8 → iv_length ≢ 12
    → Refuses (after_type_of_content Uncommitted max_unit kind) q (to_big_endian w32 0 ++ to_big_endian w8 iv_length) (BadIvLength iv_length)
unfolding reserved
iv_length_refused max_unit kind q iv_length lt other =
    let z = to_big_endian w32 0 in
    let l = to_big_endian w8 iv_length in
    Refuses-first (number w32 >>= after_zeros) (λ _. after_reserved max_unit kind) q (z ++ l) (BadIvLength iv_length)
    (Refuses-bind (number w32) after_zeros q z l 0 (BadIvLength iv_length) (Reads-number32 q 0 (omega arith))
    (Refuses-guard (not (0 == 0)) (BadReserved 0) (number w8 >>= after_iv_length) (q + length z) l (BadIvLength iv_length) refl
    (Refuses-after (number w8) after_iv_length (q + length z) l iv_length (BadIvLength iv_length) (Reads-number8 (q + length z) iv_length lt)
    (λ rest. refuse_refuses (not (iv_length == 12)) (BadIvLength iv_length) (place (q + length z + length l) rest) (not_of_false (iv_length == 12) (ne_eqb iv_length 12 other))))))

-- content type and reserved bytes are read, and the frame length is refused
behind_reserved : (suite : Suite) (max_unit : Option ℕ) (at kind frame : ℕ) (fault : Fault) → IsType kind
    → ((q : ℕ) → Refuses (after_reserved max_unit kind) q (to_big_endian w32 frame) fault) → Refuses (content_field suite max_unit) at (to_big_endian w8 kind ++ (reserved_text suite ++ to_big_endian w32 frame)) fault
behind_reserved suite max_unit at kind frame fault type refuses =
    let r = reserved_text suite in
    behind_type suite max_unit at kind (r ++ to_big_endian w32 frame) fault type
    (λ q. Refuses-bind (reserved suite) (λ _. after_reserved max_unit kind) q r (to_big_endian w32 frame) tt fault (Reads-reserved suite q) (refuses (q + length r)))

wrong_length : (max_unit : Option ℕ) (at kind frame : ℕ) → frame < 2 ^ 32 → is_frame_length kind frame ≡ false → Refuses (after_reserved max_unit kind) at (to_big_endian w32 frame) (BadFrameLength frame)
wrong_length max_unit at kind frame lt wrong =
    Refuses-after (number w32) (after_frame max_unit kind) at (to_big_endian w32 frame) frame (BadFrameLength frame) (Reads-number32 at frame lt)
    (λ rest. guard_refuses (not (is_frame_length kind frame)) (BadFrameLength frame) (refuse_if (is_unit_over max_unit kind frame) (UnitTooLong frame) >> done (content_of kind frame)) (place (at + length (to_big_endian w32 frame)) rest)
    (not_of_false (is_frame_length kind frame) wrong))

length_refused : (suite : Suite) (max_unit : Option ℕ) (at kind frame : ℕ) → frame < 2 ^ 32 → ((kind ≡ 1) × (frame ≢ 0)) ⊎ ((kind ≡ 2) × (frame ≡ 0))
    → Refuses (content_field suite max_unit) at (to_big_endian w8 kind ++ (reserved_text suite ++ to_big_endian w32 frame)) (BadFrameLength frame)
length_refused suite max_unit at kind frame lt (inl single) =
    subst (λ (k : ℕ). Refuses (content_field suite max_unit) at (to_big_endian w8 k ++ (reserved_text suite ++ to_big_endian w32 frame)) (BadFrameLength frame)) (sym single.0)
    (behind_reserved suite max_unit at 1 frame (BadFrameLength frame) (inl refl) (λ q. wrong_length max_unit q 1 frame lt (ne_eqb frame 0 single.1)))
length_refused suite max_unit at kind frame lt (inr framed) =
    subst (λ (k : ℕ). Refuses (content_field suite max_unit) at (to_big_endian w8 k ++ (reserved_text suite ++ to_big_endian w32 frame)) (BadFrameLength frame)) (sym framed.0)
    (behind_reserved suite max_unit at 2 frame (BadFrameLength frame) (inr refl) (λ q. wrong_length max_unit q 2 frame lt (not_of_true (eqb frame 0) (eq-eqb frame 0 framed.1))))

frame_refused : (suite : Suite) (max_unit : Option ℕ) (at frame : ℕ) → 1 ≤ frame → frame < 2 ^ 32 → IsSomeAnd max_unit (λ most. most < frame)
    → Refuses (content_field suite max_unit) at (to_big_endian w8 2 ++ (reserved_text suite ++ to_big_endian w32 frame)) (UnitTooLong frame)
frame_refused suite max_unit at frame some lt over =
    behind_reserved suite max_unit at 2 frame (UnitTooLong frame) (inr refl)
    (λ q. Refuses-after (number w32) (after_frame max_unit 2) q (to_big_endian w32 frame) frame (UnitTooLong frame) (Reads-number32 q frame lt)
    (λ rest.
    let p = place (q + length (to_big_endian w32 frame)) rest in
    guard_passes (not (is_frame_length 2 frame)) (BadFrameLength frame) (refuse_if (is_unit_over max_unit 2 frame) (UnitTooLong frame) >> done (content_of 2 frame)) p
    (not_of_true (is_frame_length 2 frame) (not_of_false (eqb frame 0) (ne_eqb frame 0 (λ e. omega arith))))
    ∙ guard_refuses (is_unit_over max_unit 2 frame) (UnitTooLong frame) (done (content_of 2 frame)) p (limit_over max_unit frame over)))

-- ---- behind the data keys

behind_keys : (settings : Settings) (o : Opening) (context : List ℕ) (entries : List Entry) (text : List ℕ) (fault : Fault) → AreKeys settings o context entries
    → ((at : ℕ) → Refuses (content_field o.suite settings.max_unit) at text fault) → Refuses (header settings) 0 (keys_text o context entries ++ text) fault
unfolding keys_text
behind_keys settings o context entries text fault keys refuses =
    let front = opened_text o context in
    let k = edks_text entries in
    let end : length front + length k ≤ latest_end = omega (arith, keys.end, length-append front k) in
    let reads = Reads-keys settings.max_keys (length front) entries keys.count.some keys.count.few keys.count.limit (recursion_from_All IsEntry entries keys.each) end in
    subst (λ (t : List ℕ). Refuses (header settings) 0 t fault) (sym (append_assoc front k text))
    (behind_context settings o context (k ++ text) fault keys.opened
    (Refuses-bind (data_keys settings.max_keys) (after_keys settings o context) (length front) k text entries fault reads
    (Refuses-first (content_field o.suite settings.max_unit) (after_content o context entries) (length front + length k) text fault (refuses (length front + length k)))))

-- a part of an entry
late_refused : (settings : Settings) (o : Opening) (context : List ℕ) (count : ℕ) (parts : List (List ℕ)) (n : ℕ) → OpeningIsRead settings o context → IsCount settings count → length parts < 3 * count → All (λ part. length part ≤ 65535) parts
    → length (parts_text o context count parts) ≤ latest_end → n < 2 ^ 16 → latest_end < length (parts_text o context count parts) + 2 + n
    → Refuses (header settings) 0 (parts_text o context count parts ++ to_big_endian w16 n) (HeaderTooLong (length (parts_text o context count parts) + 2 + n))
unfolding parts_text data_keys late_text
late_refused settings o context count parts n opened counted few short before fits over =
    let front = opened_text o context in
    let c = to_big_endian w16 count in
    let flat : List ℕ = flat_map sized parts in
    let end = length (front ++ c ++ flat) + 2 + n in
    let len : length (front ++ c ++ flat) ≡ length front + length c + length flat = omega (arith, length-append (front ++ c) flat, length-append front c) in
    let late : EndsLate (length front + length c) parts n end = record {
      short = recursion_from_All (λ part. length part ≤ 65535) parts short;
      before = omega (arith, before, len);
      fits = fits;
      over = over;
      end_is = omega (arith, len);
    } in
    let keys : Refuses (number w16 >>= after_count settings.max_keys) (length front) (c ++ (flat ++ to_big_endian w16 n)) (HeaderTooLong end) =
    Refuses-bind (number w16) (after_count settings.max_keys) (length front) c (flat ++ to_big_endian w16 n) count (HeaderTooLong end) (Reads-number16 (length front) count (omega (arith, counted.few)))
    (Refuses-guard (count == 0) NoDataKeys (refuse_if (is_over settings.max_keys count) (TooManyDataKeys count) >> repeat entry count) (length front + length c) (flat ++ to_big_endian w16 n) (HeaderTooLong end)
    (ne_eqb count 0 (λ e. omega (arith, counted.some)))
    (Refuses-guard (is_over settings.max_keys count) (TooManyDataKeys count) (repeat entry count) (length front + length c) (flat ++ to_big_endian w16 n) (HeaderTooLong end) (limit_within settings.max_keys count counted.limit)
    (entries_late count (length front + length c) parts n end few late))) in
    subst (λ (t : List ℕ). Refuses (header settings) 0 t (HeaderTooLong end)) (sym (append_assoc (front ++ c) flat (to_big_endian w16 n) ∙ append_assoc front c (flat ++ to_big_endian w16 n)))
    (behind_context settings o context (c ++ (flat ++ to_big_endian w16 n)) (HeaderTooLong end) opened
    (Refuses-first (data_keys settings.max_keys) (after_keys settings o context) (length front) (c ++ (flat ++ to_big_endian w16 n)) (HeaderTooLong end) keys))

-- ---- the rows

-- fields that are this text, and a fault that is this one
as_said : (settings : Settings) (fields text : List ℕ) (fault own : Fault) → fields ≡ text → fault ≡ own → Refuses (header settings) 0 text own → Refuses (header settings) 0 fields fault
as_said settings fields text fault own fields-is fault-is refuses =
    subst (λ (f : Fault). Refuses (header settings) 0 fields f) (sym fault-is) (subst (λ (t : List ℕ). Refuses (header settings) 0 t own) (sym fields-is) refuses)

in_opening : (settings : Settings) (text : List ℕ) (fault : Fault) → Refuses (opening settings.uncommitted) 0 text fault → Refuses (header settings) 0 text fault
unfolding header
in_opening settings text fault refuses = Refuses-first (opening settings.uncommitted) (after_opening settings) 0 text fault refuses

in_context : (settings : Settings) (o : Opening) (context : List ℕ) (fault : Fault) → IsIdentified settings o → Refuses context_field (0 + length (opening_text o)) (sized context) fault → Refuses (header settings) 0 (opened_text o context) fault
unfolding header opened_text
in_context settings o context fault known refuses =
    Refuses-bind (opening settings.uncommitted) (after_opening settings) 0 (opening_text o) (sized context) o fault (Reads-opening settings.uncommitted 0 o known.allowed known.id_len)
    (Refuses-first context_field (after_context settings o) (0 + length (opening_text o)) (sized context) fault refuses)

in_keys : (settings : Settings) (o : Opening) (context text : List ℕ) (fault : Fault) → OpeningIsRead settings o context → Refuses (data_keys settings.max_keys) (length (opened_text o context)) text fault → Refuses (header settings) 0 (opened_text o context ++ text) fault
in_keys settings o context text fault opened refuses =
    behind_context settings o context text fault opened (Refuses-first (data_keys settings.max_keys) (after_keys settings o context) (length (opened_text o context)) text fault refuses)

-- reserved bytes of version 1, behind a content type
in_reserved : (settings : Settings) (o : Opening) (context : List ℕ) (entries : List Entry) (kind : ℕ) (text : List ℕ) (fault : Fault) → AreKeys settings o context entries → o.suite ≡ Uncommitted → IsType kind
    → ((q : ℕ) → Refuses (after_type_of_content Uncommitted settings.max_unit kind) q text fault) → Refuses (header settings) 0 (keys_text o context entries ++ (to_big_endian w8 kind ++ text)) fault
in_reserved settings o context entries kind text fault keys is type refuses =
    behind_keys settings o context entries (to_big_endian w8 kind ++ text) fault keys
    (λ at. behind_type o.suite settings.max_unit at kind text fault type
    (subst (λ (s : Suite). (q : ℕ) → Refuses (after_type_of_content s settings.max_unit kind) q text fault) (sym is) refuses))

-- the fields before a frame length, and the length
typed_is : (o : Opening) (context : List ℕ) (entries : List Entry) (kind frame : ℕ)
    → typed_text o context entries kind ++ to_big_endian w32 frame ≡ keys_text o context entries ++ (to_big_endian w8 kind ++ (reserved_text o.suite ++ to_big_endian w32 frame))
unfolding typed_text
typed_is o context entries kind frame = all (keys_text o context entries) (to_big_endian w8 kind) (reserved_text o.suite) (to_big_endian w32 frame)
  where
    all : (a b c d : List ℕ) → a ++ b ++ c ++ d ≡ a ++ (b ++ (c ++ d))
    all a b c d = simp append_assoc

offends_refused : (settings : Settings) (fields : List ℕ) (fault : Fault) → Offends settings fields fault → Refuses (header settings) 0 fields fault
offends_refused settings fields fault (Version version lt not_one not_two text own) =
    as_said settings fields _ fault _ text own (in_opening settings _ _ (version_refused settings.uncommitted 0 version lt not_one not_two))
offends_refused settings fields fault (MessageType kind lt other text own) =
    as_said settings fields _ fault _ text own (in_opening settings _ _ (type_refused settings.uncommitted 0 kind lt other))
offends_refused settings fields fault (Forbidden unset text own) = as_said settings fields _ fault _ text own (in_opening settings _ _ (forbidden_refused settings.uncommitted 0 unset))
offends_refused settings fields fault (SuiteId suite id lt other text own) =
    as_said settings fields _ fault _ text own (in_opening settings _ _ (suite_refused settings.uncommitted suite 0 id lt other))
offends_refused settings fields fault (Context o context why known short bad text own) =
    as_said settings fields _ fault _ text own (in_context settings o context _ known (context_refused (0 + length (opening_text o)) context why short bad))
offends_refused settings fields fault (NoKeys o context opened text own) =
    as_said settings fields _ fault _ text own (in_keys settings o context _ _ opened (no_keys_refused settings.max_keys (length (opened_text o context))))
offends_refused settings fields fault (ManyKeys o context count opened some lt over text own) =
    as_said settings fields _ fault _ text own (in_keys settings o context _ _ opened (many_keys_refused settings.max_keys (length (opened_text o context)) count some lt over))
offends_refused settings fields fault (LatePart o context count parts n opened counted few short before fits over text own) =
    as_said settings fields _ fault _ text own (late_refused settings o context count parts n opened counted few short before fits over)
offends_refused settings fields fault (ContentType o context entries kind keys lt not_single not_framed text own) =
    as_said settings fields _ fault _ text own (behind_keys settings o context entries _ _ keys (λ at. content_type_refused o.suite settings.max_unit at kind lt not_single not_framed))
offends_refused settings fields fault (Reserved o context entries kind zeros keys is type lt some text own) =
    let k = keys_text o context entries in
    as_said settings fields (k ++ (to_big_endian w8 kind ++ to_big_endian w32 zeros)) fault _ (text ∙ append_assoc k (to_big_endian w8 kind) (to_big_endian w32 zeros)) own
    (in_reserved settings o context entries kind _ _ keys is type (λ q. zeros_refused settings.max_unit kind q zeros lt some))
offends_refused settings fields fault (IvLength o context entries kind iv_length keys is type lt other text own) =
    let k = keys_text o context entries in
    let t = to_big_endian w8 kind in
    let z = to_big_endian w32 0 in
    let l = to_big_endian w8 iv_length in
    as_said settings fields (k ++ (t ++ (z ++ l))) fault _ (text ∙ append_assoc (k ++ t) z l ∙ append_assoc k t (z ++ l)) own
    (in_reserved settings o context entries kind _ _ keys is type (λ q. iv_length_refused settings.max_unit kind q iv_length lt other))
offends_refused settings fields fault (FrameLength o context entries kind frame keys lt wrong text own) =
    as_said settings fields _ fault _ (text ∙ typed_is o context entries kind frame) own
    (behind_keys settings o context entries _ _ keys (λ at. length_refused o.suite settings.max_unit at kind frame lt wrong))
offends_refused settings fields fault (LongFrame o context entries frame keys some lt over text own) =
    as_said settings fields _ fault _ (text ∙ typed_is o context entries 2 frame) own
    (behind_keys settings o context entries _ _ keys (λ at. frame_refused o.suite settings.max_unit at frame some lt over))

pub is_refused : (settings : Settings) (b : List ℕ) (fault : Fault) (at : ℕ) → HasOffence settings b fault at → header settings (start b) ≡ Refused fault at
is_refused settings b fault at has =
    let end : 0 + length has.fields ≡ at = omega (arith, has.end) in
    ap (λ (l : List ℕ). header settings (start l)) has.front ∙ (offends_refused settings has.fields fault has.offends).again has.rest ∙ ap (λ (n : ℕ). Refused fault n) end
