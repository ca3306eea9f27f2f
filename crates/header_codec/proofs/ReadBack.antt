-- A header's spelling is read as this header.
use Rattle.std.proofs.Common.{◌≡◌, ℕ, ◌+◌, ◌^◌, ◌<◌, ◌≤◌, Bool, true, false, not, eqb, List, [], ◌∷◌, ◌++◌, length, replicate, take, Option, None, refl, sym, ap, subst, ◌∙◌, append_assoc, arith}
use Rattle.std.specs.Prelude.{◌==◌, nat_lt, IfSome, option_map}
use Rattle.std.specs.Int.{w8, w16, w32}
use Rattle.std.specs.List.{flat_map, AllByRecursion}
use Rattle.std.proofs.lemmas.Bool.{le-ltb, ne_eqb}
use Rattle.std.proofs.lemmas.List.{length-append, take_at}
use Rattle.std.proofs.lemmas.List.Concat.{flat_map-cons}
use Rattle.std.proofs.lemmas.List.Elements.{recursion_from_All}
use Rattle.esdk_fields.specs.declared.faults.Fault.{Fault}
use Rattle.esdk_fields.specs.declared.faults.Fault.TheVariants.{BadVersion, BadContext, NoDataKeys, TooManyDataKeys, BadContentType, BadFrameLength, HeaderTooLong, UnitTooLong, BadReserved}
use Rattle.esdk_fields.specs.declared.contents.Content.{Content}
use Rattle.esdk_fields.specs.Place.{Place, start}
use Rattle.esdk_fields.specs.Numbers.{to_big_endian}
use Rattle.esdk_fields.specs.Reading.{Read, FieldReader, ◌>>=◌, ◌>>◌, done, bytes, number, refuse_if, judge, repeat}
use Rattle.esdk_fields.specs.Sized.{sized}
use Rattle.esdk_fields.proofs.Again.{bytes_again, number8_again, number16_again, number32_again, length-to_big_endian8, length-to_big_endian16, length-to_big_endian32}
use Rattle.suite_table.specs.declared.suite.Suite.{Suite}
use Rattle.suite_table.specs.declared.suite.Suite.TheVariants.{Committing, Uncommitted}
use Rattle.suite_table.specs.Suites.{suite_id, format_version, id_length, data_length}
use Rattle.context_codec.specs.Split.{context_fault}
use Rattle.context_codec.proofs.Verdicts.{spells_fault_none}
use Rattle.edk_codec.specs.Entry.{Entry, IsEntry, edk_text}
use Rattle.header_codec.specs.declared.settings.Settings.{Settings}
use Rattle.header_codec.specs.Header.{Opening, HeaderValue, opening_of, latest_end, content_type, frame_length, behind_keys, IsContent, IsIv, IsAllowed, type_text, version_text, opening_text, edks_text, reserved_text, content_text, header_text, iv_text, authentication_text}
use Rattle.esdk_fields.specs.Limits.{is_over}
use Rattle.header_codec.specs.Table.{HeaderFields, is_version, is_content_type, is_frame_length, is_unit_over, content_of, type_field, suite_field, identity, opening, context_field, entry_part, entry, data_keys, reserved, content_field, header_iv, header, BeginsWith}
use Rattle.header_codec.specs.Laws.{HeaderIsSpelled}
use Rattle.header_codec.proofs.Steps.{after_version, after_type, after_suite_id, after_suite, after_type_field, after_context_length, after_part_length, after_provider, after_info, after_count, after_kind, after_iv_length, after_zeros, after_reserved, after_type_of_content, after_frame, after_opening, after_context, after_keys, after_content, after_commitment, after_size, after_iv, head_with}
use Rattle.header_codec.proofs.Readings.{place, Reads, Reads-bind, Reads-after, guard_passes, judge_passes}
use Rattle.esdk_fields.proofs.Limited.{limit_within}
use Rattle.header_codec.proofs.Contents.{passes}
use Rattle.header_codec.proofs.Spelled.{length-behind_keys}

-- ---- fields

pub Reads-bytes : (n at : ℕ) (text : List ℕ) → length text ≡ n → Reads (bytes n) at text text
Reads-bytes n at text len = record { again = λ rest. bytes_again text rest n at len ∙ ap (λ (k : ℕ). Read text (place (at + k) rest)) (sym len) }

pub Reads-number8 : (at n : ℕ) → n < 2 ^ 8 → Reads (number w8) at (to_big_endian w8 n) n
Reads-number8 at n lt = record { again = λ rest. number8_again n rest at lt ∙ ap (λ (k : ℕ). Read n (place (at + k) rest)) (sym (length-to_big_endian8 n)) }

pub Reads-number16 : (at n : ℕ) → n < 2 ^ 16 → Reads (number w16) at (to_big_endian w16 n) n
Reads-number16 at n lt = record { again = λ rest. number16_again n rest at lt ∙ ap (λ (k : ℕ). Read n (place (at + k) rest)) (sym (length-to_big_endian16 n)) }

pub Reads-number32 : (at n : ℕ) → n < 2 ^ 32 → Reads (number w32) at (to_big_endian w32 n) n
Reads-number32 at n lt = record { again = λ rest. number32_again n rest at lt ∙ ap (λ (k : ℕ). Read n (place (at + k) rest)) (sym (length-to_big_endian32 n)) }

-- a test that passes leaves what is read behind it
pub Reads-guard : {A : Type 0} (b : Bool) (fault : Fault) (k : FieldReader A) (at : ℕ) (text : List ℕ) (x : A) → b ≡ false → Reads k at text x → Reads (refuse_if b fault >> k) at text x
Reads-guard b fault k at text x e reads = record { again = λ rest. guard_passes b fault k (place at (text ++ rest)) e ∙ reads.again rest }

-- ---- the table's readers

Reads-nothing : {A : Type 0} (x : A) (at : ℕ) → Reads (done x) at [] x
Reads-nothing x at = record { again = λ rest. let none : at + 0 ≡ at = omega arith in ap (λ (n : ℕ). Read x (place n rest)) (sym none) }

pub Reads-type : (suite : Suite) (at : ℕ) → Reads (type_field suite) at (type_text suite) tt
unfolding type_field type_text
Reads-type Committing at = Reads-nothing tt at
Reads-type Uncommitted at = Reads-after (number w8) after_type at (to_big_endian w8 0x80) 0x80 tt (Reads-number8 at 0x80 (omega arith)) (λ p. refl)

Reads-suite_id : (uncommitted : Bool) (suite : Suite) (at : ℕ) → IsAllowed uncommitted suite → Reads (suite_field uncommitted suite) at (to_big_endian w16 (suite_id suite)) tt
unfolding suite_field
Reads-suite_id uncommitted Committing at allowed =
    Reads-after (number w16) (after_suite_id uncommitted Committing) at (to_big_endian w16 0x0478) 0x0478 tt (Reads-number16 at 0x0478 (omega arith)) (λ p. refl)
Reads-suite_id true Uncommitted at allowed =
    Reads-after (number w16) (after_suite_id true Uncommitted) at (to_big_endian w16 0x0178) 0x0178 tt (Reads-number16 at 0x0178 (omega arith)) (λ p. refl)
Reads-suite_id false Uncommitted at allowed = absurd cc

-- what follows the version
Reads-identity : (uncommitted : Bool) (suite : Suite) (at : ℕ) (id : List ℕ) → IsAllowed uncommitted suite → length id ≡ id_length suite
    → Reads (identity uncommitted suite) at (type_text suite ++ (to_big_endian w16 (suite_id suite) ++ id)) (record { suite = suite; id = id })
unfolding identity
Reads-identity uncommitted suite at id allowed len =
    let o : Opening = record { suite = suite; id = id } in
    let t = type_text suite in
    let s = to_big_endian w16 (suite_id suite) in
    let last : Reads (after_suite suite) (at + length t + length s) id o =
    Reads-after (bytes (id_length suite)) (λ i. done (record { suite = suite; id = i })) (at + length t + length s) id id o (Reads-bytes (id_length suite) (at + length t + length s) id len) (λ p. refl) in
    let known : Reads (after_type_field uncommitted suite) (at + length t) (s ++ id) o =
    Reads-bind (suite_field uncommitted suite) (λ _. after_suite suite) (at + length t) s id tt o (Reads-suite_id uncommitted suite (at + length t) allowed) last in
    Reads-bind (type_field suite) (λ _. after_type_field uncommitted suite) at t (s ++ id) tt o (Reads-type suite at) known

-- a suite's version is read, and the suite is chosen by it
pub Reads-version : (uncommitted : Bool) (suite : Suite) (at : ℕ) (text : List ℕ) (o : Opening) → Reads (identity uncommitted suite) at text o → Reads (after_version uncommitted (format_version suite)) at text o
Reads-version uncommitted Committing at text o reads = Reads-guard (not (is_version 2)) (BadVersion 2) (identity uncommitted Committing) at text o refl reads
Reads-version uncommitted Uncommitted at text o reads = Reads-guard (not (is_version 1)) (BadVersion 1) (identity uncommitted Uncommitted) at text o refl reads

pub version_small : (suite : Suite) → format_version suite < 2 ^ 8
version_small Committing = omega arith
version_small Uncommitted = omega arith

regrouped : (v t s i : List ℕ) → v ++ (t ++ (s ++ i)) ≡ v ++ t ++ s ++ i
regrouped v t s i = simp append_assoc

pub Reads-opening : (uncommitted : Bool) (at : ℕ) (o : Opening) → IsAllowed uncommitted o.suite → length o.id ≡ id_length o.suite → Reads (opening uncommitted) at (opening_text o) o
unfolding opening opening_text version_text
Reads-opening uncommitted at o allowed len =
    let v = to_big_endian w8 (format_version o.suite) in
    let t = type_text o.suite in
    let s = to_big_endian w16 (suite_id o.suite) in
    let whole : Reads (number w8 >>= after_version uncommitted) at (v ++ (t ++ (s ++ o.id))) o =
    Reads-bind (number w8) (after_version uncommitted) at v (t ++ (s ++ o.id)) (format_version o.suite) o (Reads-number8 at (format_version o.suite) (version_small o.suite))
    (Reads-version uncommitted o.suite (at + length v) (t ++ (s ++ o.id)) o (Reads-identity uncommitted o.suite (at + length v) o.id allowed len)) in
    subst (λ (x : List ℕ). Reads (number w8 >>= after_version uncommitted) at x o) (regrouped v t s o.id) whole

pub Reads-context : (at : ℕ) (context : List ℕ) → length context ≤ 65535 → context_fault context ≡ None → Reads context_field at (sized context) context
unfolding context_field sized
Reads-context at context short good =
    let n = to_big_endian w16 (length context) in
    let judged : option_map BadContext (context_fault context) ≡ None = ap (option_map BadContext) good in
    Reads-bind (number w16) after_context_length at n context (length context) context (Reads-number16 at (length context) (omega arith))
    (Reads-after (bytes (length context)) (λ read. judge (option_map BadContext (context_fault read)) >> done read) (at + length n) context context context (Reads-bytes (length context) (at + length n) context refl)
    (λ p. judge_passes (option_map BadContext (context_fault context)) (done context) p judged))

pub Reads-part : (at : ℕ) (x : List ℕ) → length x ≤ 65535 → at + length (sized x) ≤ latest_end → Reads entry_part at (sized x) x
unfolding entry_part sized
Reads-part at x short within =
    let n = to_big_endian w16 (length x) in
    let inside : nat_lt latest_end (at + length n + length x) ≡ false = le-ltb latest_end (at + length n + length x) (omega (arith, length-append n x)) in
    let last : Reads (after_part_length (length x)) (at + length n) x x = record {
      again = λ rest. guard_passes (nat_lt latest_end (at + length n + length x)) (HeaderTooLong (at + length n + length x)) (bytes (length x)) (place (at + length n) (x ++ rest)) inside
          ∙ (Reads-bytes (length x) (at + length n) x refl).again rest;
    } in
    Reads-bind (number w16) after_part_length at n x (length x) x (Reads-number16 at (length x) (omega arith)) last

pub Reads-entry : (at : ℕ) (e : Entry) → IsEntry e → at + length (edk_text e) ≤ latest_end → Reads entry at (edk_text e) e
unfolding entry edk_text
Reads-entry at e fits within =
    let ps = sized e.provider in
    let is = sized e.info in
    let cs = sized e.cipher in
    let len : length (ps ++ is ++ cs) ≡ length ps + length is + length cs = omega (arith, length-append (ps ++ is) cs, length-append ps is) in
    let cipher : Reads (after_info e.provider e.info) (at + length ps + length is) cs e =
    Reads-after entry_part (λ cipher. done (record { provider = e.provider; info = e.info; cipher = cipher })) (at + length ps + length is) cs e.cipher e (Reads-part (at + length ps + length is) e.cipher fits.cipher (omega arith)) (λ p. refl) in
    let info : Reads (after_provider e.provider) (at + length ps) (is ++ cs) e =
    Reads-bind entry_part (after_info e.provider) (at + length ps) is cs e.info e (Reads-part (at + length ps) e.info fits.info (omega arith)) cipher in
    let whole : Reads (entry_part >>= after_provider) at (ps ++ (is ++ cs)) e = Reads-bind entry_part after_provider at ps (is ++ cs) e.provider e (Reads-part at e.provider fits.provider (omega arith)) info in
    subst (λ (t : List ℕ). Reads (entry_part >>= after_provider) at t e) (sym (append_assoc ps is cs)) whole

pub Reads-entries : (at : ℕ) (es : List Entry) → AllByRecursion IsEntry es → at + length (flat_map edk_text es) ≤ latest_end → Reads (repeat entry (length es)) at (flat_map edk_text es) es
unfolding repeat
Reads-entries at [] fits within = record { again = λ rest. let none : at + 0 ≡ at = omega arith in ap (λ (n : ℕ). Read [] (place n rest)) (sym none) }
Reads-entries at (e ∷ es) fits within =
    let text : flat_map edk_text (e ∷ es) ≡ edk_text e ++ flat_map edk_text es = flat_map-cons edk_text e es in
    let len : length (flat_map edk_text (e ∷ es)) ≡ length (edk_text e) + length (flat_map edk_text es) = ap length text ∙ length-append (edk_text e) (flat_map edk_text es) in
    let others : Reads (repeat entry (length es) >>= λ others. done (e ∷ others)) (at + length (edk_text e)) (flat_map edk_text es) (e ∷ es) =
    Reads-after (repeat entry (length es)) (λ others. done (e ∷ others)) (at + length (edk_text e)) (flat_map edk_text es) es (e ∷ es) (Reads-entries (at + length (edk_text e)) es fits.1 (omega arith)) (λ p. refl) in
    subst (λ (t : List ℕ). Reads (repeat entry (length (e ∷ es))) at t (e ∷ es)) (sym text)
    (Reads-bind entry (λ first. repeat entry (length es) >>= λ others. done (first ∷ others)) at (edk_text e) (flat_map edk_text es) e (e ∷ es) (Reads-entry at e fits.0 (omega arith)) others)

pub Reads-keys : (max_keys : Option ℕ) (at : ℕ) (es : List Entry) → 1 ≤ length es → length es ≤ 65535 → IfSome max_keys (λ most. length es ≤ most) → AllByRecursion IsEntry es
    → at + length (edks_text es) ≤ latest_end → Reads (data_keys max_keys) at (edks_text es) es
unfolding data_keys edks_text
Reads-keys max_keys at es some few limit fits within =
    let n = to_big_endian w16 (length es) in
    let count : eqb (length es) 0 ≡ false = ne_eqb (length es) 0 (λ e. omega arith) in
    let others : Reads (repeat entry (length es)) (at + length n) (flat_map edk_text es) es = Reads-entries (at + length n) es fits (omega (arith, length-append n (flat_map edk_text es))) in
    Reads-bind (number w16) (after_count max_keys) at n (flat_map edk_text es) (length es) es (Reads-number16 at (length es) (omega arith))
    (Reads-guard (length es == 0) NoDataKeys (refuse_if (is_over max_keys (length es)) (TooManyDataKeys (length es)) >> repeat entry (length es)) (at + length n) (flat_map edk_text es) es count
    (Reads-guard (is_over max_keys (length es)) (TooManyDataKeys (length es)) (repeat entry (length es)) (at + length n) (flat_map edk_text es) es (limit_within max_keys (length es) limit) others))

not_true : (b : Bool) → b ≡ true → not b ≡ false
not_true true e = refl
not_true false e = absurd cc

pub Reads-reserved : (suite : Suite) (at : ℕ) → Reads (reserved suite) at (reserved_text suite) tt
unfolding reserved reserved_text
Reads-reserved Committing at = Reads-nothing tt at
Reads-reserved Uncommitted at =
    let z = to_big_endian w32 0 in
    let l = to_big_endian w8 12 in
    Reads-bind (number w32) after_zeros at z l 0 tt (Reads-number32 at 0 (omega arith))
    (Reads-guard (not (0 == 0)) (BadReserved 0) (number w8 >>= after_iv_length) (at + length z) l tt refl
    (Reads-after (number w8) after_iv_length (at + length z) l 12 tt (Reads-number8 (at + length z) 12 (omega arith)) (λ p. refl)))

pub Reads-content : (suite : Suite) (max_unit : Option ℕ) (at : ℕ) (c : Content) → IsContent c → IfSome max_unit (λ most. frame_length c ≤ most) → Reads (content_field suite max_unit) at (content_text suite c) c
unfolding content_field content_text
Reads-content suite max_unit at c is limit =
    let t = passes max_unit c is limit in
    let kind = content_type c in
    let frame = frame_length c in
    let k = to_big_endian w8 kind in
    let r = reserved_text suite in
    let f = to_big_endian w32 frame in
    let last : (p : Place) → after_frame max_unit kind frame p ≡ Read c p = λ p.
    guard_passes (not (is_frame_length kind frame)) (BadFrameLength frame) (refuse_if (is_unit_over max_unit kind frame) (UnitTooLong frame) >> done (content_of kind frame)) p (not_true (is_frame_length kind frame) t.length)
    ∙ guard_passes (is_unit_over max_unit kind frame) (UnitTooLong frame) (done (content_of kind frame)) p t.over
    ∙ ap (λ (x : Content). Read x p) t.made in
    let framed : Reads (after_reserved max_unit kind) (at + length k + length r) f c =
    Reads-after (number w32) (after_frame max_unit kind) (at + length k + length r) f frame c (Reads-number32 (at + length k + length r) frame t.small_length) last in
    let behind : Reads (after_type_of_content suite max_unit kind) (at + length k) (r ++ f) c =
    Reads-bind (reserved suite) (λ _. after_reserved max_unit kind) (at + length k) r f tt c (Reads-reserved suite (at + length k)) framed in
    let whole : Reads (number w8 >>= after_kind suite max_unit) at (k ++ (r ++ f)) c =
    Reads-bind (number w8) (after_kind suite max_unit) at k (r ++ f) kind c (Reads-number8 at kind t.small_type)
    (Reads-guard (not (is_content_type kind)) (BadContentType kind) (after_type_of_content suite max_unit kind) (at + length k) (r ++ f) c (not_true (is_content_type kind) t.type) behind) in
    subst (λ (x : List ℕ). Reads (number w8 >>= after_kind suite max_unit) at x c) (sym (append_assoc k r f)) whole

Reads-iv : (suite : Suite) (at : ℕ) (iv : List ℕ) → IsIv suite iv → Reads (header_iv suite) at (iv_text suite iv) iv
unfolding header_iv
Reads-iv Committing at iv is = subst (λ (x : List ℕ). Reads (done (replicate 12 0)) at [] x) (sym is) (Reads-nothing (replicate 12 0) at)
Reads-iv Uncommitted at iv is = Reads-bytes 12 at iv is

-- ---- the header

-- what the table reads of this header
abbrev pub parts_of : List ℕ → HeaderValue → HeaderFields
parts_of context h = head_with (opening_of h) context h.entries h.content h.commitment (length (header_text context h)) h.iv h.tag

Reads-tag : (o : Opening) (context : List ℕ) (entries : List Entry) (kind : Content) (commitment : List ℕ) (size : ℕ) (iv : List ℕ) (at : ℕ) (tag : List ℕ) → length tag ≡ 16
    → Reads (after_iv o context entries kind commitment size iv) at tag (head_with o context entries kind commitment size iv tag)
Reads-tag o context entries kind commitment size iv at tag len =
    Reads-after (bytes 16) (λ t. done (head_with o context entries kind commitment size iv t)) at tag tag (head_with o context entries kind commitment size iv tag) (Reads-bytes 16 at tag len) (λ p. refl)

-- the header's text and its authentication, the text being grouped as the table reads it
grouped : (a b c d e i t : List ℕ) → (a ++ b ++ c ++ d ++ e) ++ (i ++ t) ≡ a ++ (b ++ (c ++ (d ++ (e ++ (i ++ t)))))
grouped a b c d e i t = simp append_assoc

-- a header that may be read under these settings
pub record IsReadable (settings : Settings) (h : HeaderValue) (context : List ℕ) : Type 0 where
  pub allowed : IsAllowed settings.uncommitted h.suite
  pub id_len : length h.message_id ≡ id_length h.suite
  pub short : length context ≤ 65535
  pub good : context_fault context ≡ None
  pub some : 1 ≤ length h.entries
  pub few : length h.entries ≤ 65535
  pub max_keys : IfSome settings.max_keys (λ most. length h.entries ≤ most)
  pub entries : AllByRecursion IsEntry h.entries
  pub content : IsContent h.content
  pub max_unit : IfSome settings.max_unit (λ most. frame_length h.content ≤ most)
  pub commitment : length h.commitment ≡ data_length h.suite
  pub iv : IsIv h.suite h.iv
  pub tag : length h.tag ≡ 16
  pub within : length (header_text context h) ≤ latest_end + behind_keys h.suite

pub Reads-header : (settings : Settings) (h : HeaderValue) (context : List ℕ) → IsReadable settings h context → Reads (header settings) 0 (header_text context h ++ authentication_text h) (parts_of context h)
unfolding header header_text authentication_text
Reads-header settings h context readable =
    let o = opening_of h in
    let a = opening_text o in
    let b = sized context in
    let c = edks_text h.entries in
    let d = content_text h.suite h.content in
    let e = h.commitment in
    let i = iv_text h.suite h.iv in
    let t = h.tag in
    let size = 0 + length a + length b + length c + length d + length e in
    let made : HeaderFields = head_with o context h.entries h.content e size h.iv t in
    let sum : length (a ++ b ++ c ++ d ++ e) ≡ size = omega (arith, length-append (a ++ b ++ c ++ d) e, length-append (a ++ b ++ c) d, length-append (a ++ b) c, length-append a b) in
    let keys_end : 0 + length a + length b + length c ≤ latest_end = omega (arith, sum, readable.within, readable.commitment, length-behind_keys h.suite h.content) in
    let seven : Reads (after_size o context h.entries h.content e size) size (i ++ t) made =
    Reads-bind (header_iv h.suite) (after_iv o context h.entries h.content e size) size i t h.iv made (Reads-iv h.suite size h.iv readable.iv)
    (Reads-tag o context h.entries h.content e size h.iv (size + length i) t readable.tag) in
    let six : Reads (after_commitment o context h.entries h.content e) size (i ++ t) made = record { again = seven.again } in
    let five = Reads-bind (bytes (data_length h.suite)) (after_commitment o context h.entries h.content) (0 + length a + length b + length c + length d) e (i ++ t) e made
    (Reads-bytes (data_length h.suite) (0 + length a + length b + length c + length d) e readable.commitment) six in
    let four = Reads-bind (content_field h.suite settings.max_unit) (after_content o context h.entries) (0 + length a + length b + length c) d (e ++ (i ++ t)) h.content made
    (Reads-content h.suite settings.max_unit (0 + length a + length b + length c) h.content readable.content readable.max_unit) five in
    let three = Reads-bind (data_keys settings.max_keys) (after_keys settings o context) (0 + length a + length b) c (d ++ (e ++ (i ++ t))) h.entries made
    (Reads-keys settings.max_keys (0 + length a + length b) h.entries readable.some readable.few readable.max_keys readable.entries keys_end) four in
    let two = Reads-bind context_field (after_context settings o) (0 + length a) b (c ++ (d ++ (e ++ (i ++ t)))) context made
    (Reads-context (0 + length a) context readable.short readable.good) three in
    let one : Reads (opening settings.uncommitted >>= after_opening settings) 0 (a ++ (b ++ (c ++ (d ++ (e ++ (i ++ t)))))) made =
    Reads-bind (opening settings.uncommitted) (after_opening settings) 0 a (b ++ (c ++ (d ++ (e ++ (i ++ t))))) o made
    (Reads-opening settings.uncommitted 0 o readable.allowed readable.id_len) two in
    subst (λ (n : ℕ). Reads (opening settings.uncommitted >>= after_opening settings) 0 ((a ++ b ++ c ++ d ++ e) ++ (i ++ t)) (head_with o context h.entries h.content e n h.iv t)) (sym sum)
    (subst (λ (x : List ℕ). Reads (opening settings.uncommitted >>= after_opening settings) 0 x made) (sym (grouped a b c d e i t)) one)

abbrev value : HeaderValue → HeaderValue
value x = x

pub begins : (settings : Settings) (b : List ℕ) (h : HeaderValue) (end : Place) → HeaderIsSpelled settings b h end → BeginsWith settings b h end
begins settings b h end s =
    let context = s.body.context in
    let body = header_text context h in
    let authentication = authentication_text h in
    let text : h.raw ≡ body = s.body.text in
    let readable : IsReadable settings h context = record {
      allowed = s.within.allowed;
      id_len = s.body.id;
      short = s.body.short;
      good = spells_fault_none context h.stored s.body.spells;
      some = s.body.some;
      few = s.body.few;
      max_keys = s.within.max_keys;
      entries = recursion_from_All IsEntry h.entries s.body.entries;
      content = s.body.content;
      max_unit = s.within.max_unit;
      commitment = s.body.commitment;
      iv = s.body.iv;
      tag = s.tag;
      within = subst (λ (t : List ℕ). length t ≤ latest_end + behind_keys h.suite) text s.within.keys_end;
    } in
    let reads = Reads-header settings h context readable in
    let front : b ≡ (body ++ authentication) ++ end.left = s.front ∙ ap (λ (t : List ℕ). t ++ authentication ++ end.left) text in
    let behind : 0 + length (body ++ authentication) ≡ end.at = omega (arith, s.behind, ap length text, length-append body authentication) in
    let raw : take (length body) b ≡ h.raw =
    ap (take (length body)) (front ∙ append_assoc body authentication end.left) ∙ take_at body (authentication ++ end.left) (length body) refl ∙ sym text in
    record {
      parts = parts_of context h;
      read = ap (λ (l : List ℕ). header settings (start l)) front ∙ reads.again end.left ∙ ap (λ (n : ℕ). Read (parts_of context h) (place n end.left)) behind;
      stored = s.body.spells;
      is = ap (λ (r : List ℕ). value (record { suite = h.suite; message_id = h.message_id; stored = h.stored; entries = h.entries; content = h.content; commitment = h.commitment; raw = r; iv = h.iv; tag = h.tag })) (sym raw);
    }
