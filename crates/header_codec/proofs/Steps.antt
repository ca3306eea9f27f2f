-- What each reader does after its first steps.
use Rattle.std.proofs.Common.{refl, subst}
use Rattle.std.specs.Prelude.{◌≡◌, ℕ, ◌+◌, List, Bool, not, ◌==◌, nat_lt, Option, option_map}
use Rattle.std.specs.Int.{w8, w32}
use Rattle.esdk_fields.specs.declared.faults.Fault.TheVariants.{BadVersion, UnsupportedSuite, BadContext, NoDataKeys, TooManyDataKeys, BadContentType, BadFrameLength, HeaderTooLong, UnitTooLong, BadType, BadReserved, BadIvLength}
use Rattle.esdk_fields.specs.declared.faults.Fault.TheVariants as faults
use Rattle.esdk_fields.specs.declared.contents.Content.{Content}
use Rattle.esdk_fields.specs.Place.{Place}
use Rattle.esdk_fields.specs.Reading.{Read, FieldReader, ◌>>=◌, ◌>>◌, done, bytes, number, here, refuse_if, judge, repeat}
use Rattle.esdk_fields.proofs.Inverse.{read_same, then_is_read}
use Rattle.suite_table.specs.declared.suite.Suite.{Suite}
use Rattle.suite_table.specs.Suites.{suite_id, id_length, data_length}
use Rattle.context_codec.specs.Split.{context_fault}
use Rattle.edk_codec.specs.Entry.{Entry}
use Rattle.header_codec.specs.declared.settings.Settings.{Settings}
use Rattle.header_codec.specs.Header.{Opening, latest_end}
use Rattle.esdk_fields.specs.Limits.{is_over}
use Rattle.header_codec.specs.Table.{HeaderFields, is_version, suite_of_version, is_forbidden, is_content_type, is_frame_length, is_unit_over, content_of, suite_field, identity, opening, context_field, entry_part, entry, data_keys, reserved, content_field, header_iv, header}

abbrev pub after_type : ℕ → FieldReader (Unit {0})
after_type kind = refuse_if (not (kind == 0x80)) (BadType kind)

abbrev pub after_suite_id : Bool → Suite → ℕ → FieldReader (Unit {0})
after_suite_id uncommitted suite id = do
  refuse_if (is_forbidden uncommitted suite id) (faults.Uncommitted id)
  refuse_if (not (id == suite_id suite)) (UnsupportedSuite id)

abbrev pub after_suite : Suite → FieldReader Opening
after_suite suite = do
  id ← bytes (id_length suite)
  done (record { suite = suite; id = id })

abbrev pub after_type_field : Bool → Suite → FieldReader Opening
after_type_field uncommitted suite = do
  suite_field uncommitted suite
  after_suite suite

abbrev pub after_version : Bool → ℕ → FieldReader Opening
after_version uncommitted version = do
  refuse_if (not (is_version version)) (BadVersion version)
  identity uncommitted (suite_of_version version)

abbrev pub after_context_length : ℕ → FieldReader (List ℕ)
after_context_length n = do
  context ← bytes n
  judge (option_map BadContext (context_fault context))
  done context

abbrev pub after_part_end : ℕ → ℕ → FieldReader (List ℕ)
after_part_end n at = do
  refuse_if (nat_lt latest_end (at + n)) (HeaderTooLong (at + n))
  bytes n

abbrev pub after_part_length : ℕ → FieldReader (List ℕ)
after_part_length n = do
  at ← here
  after_part_end n at

abbrev pub after_info : List ℕ → List ℕ → FieldReader Entry
after_info provider info = do
  cipher ← entry_part
  done (record { provider = provider; info = info; cipher = cipher })

abbrev pub after_provider : List ℕ → FieldReader Entry
after_provider provider = do
  info ← entry_part
  after_info provider info

abbrev pub after_count : Option ℕ → ℕ → FieldReader (List Entry)
after_count max_keys count = do
  refuse_if (count == 0) NoDataKeys
  refuse_if (is_over max_keys count) (TooManyDataKeys count)
  repeat entry count

abbrev pub after_frame : Option ℕ → ℕ → ℕ → FieldReader Content
after_frame max_unit kind frame = do
  refuse_if (not (is_frame_length kind frame)) (BadFrameLength frame)
  refuse_if (is_unit_over max_unit kind frame) (UnitTooLong frame)
  done (content_of kind frame)

abbrev pub after_iv_length : ℕ → FieldReader (Unit {0})
after_iv_length iv_length = refuse_if (not (iv_length == 12)) (BadIvLength iv_length)

abbrev pub after_zeros : ℕ → FieldReader (Unit {0})
after_zeros zeros = do
  refuse_if (not (zeros == 0)) (BadReserved zeros)
  iv_length ← number w8
  after_iv_length iv_length

abbrev pub after_reserved : Option ℕ → ℕ → FieldReader Content
after_reserved max_unit kind = do
  frame ← number w32
  after_frame max_unit kind frame

abbrev pub after_type_of_content : Suite → Option ℕ → ℕ → FieldReader Content
after_type_of_content suite max_unit kind = do
  reserved suite
  after_reserved max_unit kind

abbrev pub after_kind : Suite → Option ℕ → ℕ → FieldReader Content
after_kind suite max_unit kind = do
  refuse_if (not (is_content_type kind)) (BadContentType kind)
  after_type_of_content suite max_unit kind

-- what was read before the tag
abbrev pub head_with : Opening → List ℕ → List Entry → Content → List ℕ → ℕ → List ℕ → List ℕ → HeaderFields
head_with o context entries kind commitment size iv tag = record { opening = o; context = context; entries = entries; content = kind; commitment = commitment; size = size; iv = iv; tag = tag }

abbrev pub after_iv : Opening → List ℕ → List Entry → Content → List ℕ → ℕ → List ℕ → FieldReader HeaderFields
after_iv o context entries kind commitment size iv = do
  tag ← bytes 16
  done (head_with o context entries kind commitment size iv tag)

abbrev pub after_size : Opening → List ℕ → List Entry → Content → List ℕ → ℕ → FieldReader HeaderFields
after_size o context entries kind commitment size = do
  iv ← header_iv o.suite
  after_iv o context entries kind commitment size iv

abbrev pub after_commitment : Opening → List ℕ → List Entry → Content → List ℕ → FieldReader HeaderFields
after_commitment o context entries kind commitment = do
  size ← here
  after_size o context entries kind commitment size

abbrev pub after_content : Opening → List ℕ → List Entry → Content → FieldReader HeaderFields
after_content o context entries kind = do
  commitment ← bytes (data_length o.suite)
  after_commitment o context entries kind commitment

abbrev pub after_keys : Settings → Opening → List ℕ → List Entry → FieldReader HeaderFields
after_keys settings o context entries = do
  kind ← content_field o.suite settings.max_unit
  after_content o context entries kind

abbrev pub after_context : Settings → Opening → List ℕ → FieldReader HeaderFields
after_context settings o context = do
  entries ← data_keys settings.max_keys
  after_keys settings o context entries

abbrev pub after_opening : Settings → Opening → FieldReader HeaderFields
after_opening settings o = do
  context ← context_field
  after_context settings o context

-- a header was read: each of its parts was, one after another
pub record HeaderRead (settings : Settings) (p : Place) (parts : HeaderFields) (end : Place) : Type 0 where
  pub after_id : Place
  pub after_context : Place
  pub after_entries : Place
  pub after_content : Place
  pub body_end : Place
  pub iv_end : Place
  pub opening : opening settings.uncommitted p ≡ Read parts.opening after_id
  pub context : context_field after_id ≡ Read parts.context after_context
  pub entries : data_keys settings.max_keys after_context ≡ Read parts.entries after_entries
  pub content : content_field parts.opening.suite settings.max_unit after_entries ≡ Read parts.content after_content
  pub commitment : bytes (data_length parts.opening.suite) after_content ≡ Read parts.commitment body_end
  pub size : parts.size ≡ body_end.at
  pub iv : header_iv parts.opening.suite body_end ≡ Read parts.iv iv_end
  pub tag : bytes 16 iv_end ≡ Read parts.tag end

pub header_is_read : (settings : Settings) (p : Place) (parts : HeaderFields) (end : Place) → header settings p ≡ Read parts end → HeaderRead settings p parts end
unfolding header
header_is_read settings p parts end e =
    let a = then_is_read (opening settings.uncommitted p) (after_opening settings) parts end e in
    let b = then_is_read (context_field a.next) (after_context settings a.value) parts end a.second in
    let c = then_is_read (data_keys settings.max_keys b.next) (after_keys settings a.value b.value) parts end b.second in
    let d = then_is_read (content_field a.value.suite settings.max_unit c.next) (after_content a.value b.value c.value) parts end c.second in
    let f = then_is_read (bytes (data_length a.value.suite) d.next) (after_commitment a.value b.value c.value d.value) parts end d.second in
    let i = then_is_read (header_iv a.value.suite f.next) (after_iv a.value b.value c.value d.value f.value f.next.at) parts end f.second in
    let g = then_is_read (bytes 16 i.next) (λ tag. done (head_with a.value b.value c.value d.value f.value f.next.at i.value tag)) parts end i.second in
    let made : HeaderFields = head_with a.value b.value c.value d.value f.value f.next.at i.value g.value in
    let same = read_same made parts g.next end g.second in
    let found : HeaderRead settings p made g.next = record {
      after_id = a.next;
      after_context = b.next;
      after_entries = c.next;
      after_content = d.next;
      body_end = f.next;
      iv_end = i.next;
      opening = a.first;
      context = b.first;
      entries = c.first;
      content = d.first;
      commitment = f.first;
      size = refl;
      iv = i.first;
      tag = g.first;
    } in
    subst (λ (h : HeaderFields). HeaderRead settings p h end) same.0 (subst (λ (q : Place). HeaderRead settings p made q) same.1 found)
