-- Which faults a message has by its bytes, whatever follows them: neither M10, which their end alone
-- gives, nor M27.
use Rattle.std.proofs.Common.{◌≡◌, ℕ, zero, suc, ◌+◌, ◌*◌, Bool, true, false, not, List, [], ◌∷◌, length, Option, Some, None, replicate, refl, subst, cond}
use Rattle.std.specs.Prelude.{◌==◌, nat_lt, option_map, if◌then◌else◌}
use Rattle.std.specs.Int.{Width, byte_len, w8, w16, w32, w64}
use Rattle.std.specs.Str.{bytes_eq}
use Rattle.esdk_fields.specs.declared.contents.Content.{Content}
use Rattle.esdk_fields.specs.declared.contents.Content.TheVariants as contents
use Rattle.esdk_fields.specs.declared.faults.ContextFault.{ContextFault}
use Rattle.esdk_fields.specs.declared.faults.Fault.{Fault}
use Rattle.esdk_fields.specs.declared.faults.Fault.TheVariants.{BadVersion, UnsupportedSuite, BadContext, NoDataKeys, TooManyDataKeys, BadContentType, BadFrameLength, HeaderTooLong, UnitTooLong, BadType, BadReserved, BadIvLength, WrongSequence, FinalTooLong, BlockTooLong, UnitTag}
use Rattle.esdk_fields.specs.declared.faults.Fault.TheVariants as faults
use Rattle.esdk_fields.specs.Limits.{is_over}
use Rattle.esdk_fields.specs.Numbers.{from_big_endian}
use Rattle.esdk_fields.specs.Place.{Place, past, start}
use Rattle.esdk_fields.specs.Reading.{Reading, Read, Refused, Wanting, FieldReader, ◌>>=◌, ◌>>◌, bytes, done, field, here, judge, number, refuse_if, repeat, then_read}
use Rattle.context_codec.specs.Context.{KeyValue}
use Rattle.context_codec.specs.Split.{context_fault}
use Rattle.suite_table.specs.declared.suite.Suite.{Suite}
use Rattle.suite_table.specs.declared.suite.Suite.TheVariants.{Committing, Uncommitted}
use Rattle.suite_table.specs.Suites.{data_length, id_length, suite_id}
use Rattle.header_codec.specs.declared.settings.Settings.{Settings}
use Rattle.header_codec.specs.Header.{HeaderValue, latest_end}
use Rattle.header_codec.specs.Table.{HeaderFields, content_field, content_of, context_field, data_keys, entry, header, header_iv, identity, is_content_type, is_forbidden, is_frame_length, is_unit_over, is_version, opening, entry_part, reserved, suite_field, suite_of_version, type_field}
use Rattle.header_codec.proofs.Steps.{after_version, after_type, after_suite_id, after_suite, after_type_field, after_context_length, after_part_length, after_part_end, after_provider, after_info, after_count, after_kind, after_iv_length, after_zeros, after_reserved, after_type_of_content, after_frame, after_opening, after_context, after_keys, after_content, after_commitment, after_size, after_iv, head_with}
use Rattle.frame_codec.specs.declared.unit_heads.UnitHead.{UnitHead}
use Rattle.frame_codec.specs.UnitHead.{final_mark, longest_block, regular_start, final_start, frame_start, block_start, unit_head}
use Rattle.frame_codec.specs.Unit.{Piece, More, Last, Under, block_unit, frame, opened_unit, opens, piece_of, unit}
use Rattle.frame_codec.proofs.Steps.{made_regular, made_final, made_block, after_length, after_final_number, after_number, after_block_length, after_block_iv, after_tag, after_cipher, after_head}
use Rattle.frame_codec.proofs.Steps.{after_iv as after_final_iv}
use Rattle.keyring_trait.specs.Manager.{FaultStands, ManagerNow}
use Rattle.keyring_trait.specs.Requests.{DecRequestValue}
use Rattle.keyring_trait.specs.Unlocking.{Unlocking, Refuses, Unlocks}
use Rattle.keyring_trait.specs.Wrapping.{WrapKeyValue}
use Rattle.body_format.specs.declared.verdicts.Verdict.{Verdict}
use Rattle.body_format.specs.declared.verdicts.Verdict.TheVariants.{Going, Whole, Faulty}
use Rattle.body_format.specs.Body.{beside_content, judged_block, judged_body, judged_frames}
use Rattle.body_format.specs.Rows.{first_other, judged_units, slot, verdict_of}
use Rattle.message_format.specs.Judgement.{commits, header_of, judged, judged_header, judged_lock, judged_reading, lock_fault}
use Rattle.message_format.specs.Message.{header_tag}
use Rattle.stream_open.specs.Asking.{request_of}
use Rattle.esdk_decrypt.specs.Decrypt.{AnswersReading, AnswersRequest, AnswersTo, answering_of, fault_at_end, fault_of}
use Rattle.suite_table.specs.Keys.{derived}

-- one of the bytes of a message
abbrev pub is_format : Fault → Bool
is_format faults.Truncated = false
is_format (faults.BadArmour number) = false
is_format fault = true

-- ---- readers

-- Whatever it reads, it refuses that for no other fault.
pub record Names {A : Type 0} (m : FieldReader A) : Type 0 where
  pub each : (p : Place) (fault : Fault) (at : ℕ) → m p ≡ Refused fault at → is_format fault ≡ true

bind_each : {A B : Type 0} (m : FieldReader A) (f : A → FieldReader B) (p : Place) (fault : Fault) (at : ℕ) (r : Reading A) → Names m → ((x : A) → Names (f x))
    → m p ≡ r → then_read r f ≡ Refused fault at → is_format fault ≡ true
bind_each m f p fault at (Read x next) first others is e = (others x).each next fault at e
bind_each m f p fault at (Refused other place) first others is e =
    let same : other ≡ fault = cc e in subst (λ (f : Fault). is_format f ≡ true) same (first.each p other place is)
bind_each m f p fault at Wanting first others is e = absurd (cc e)

names_bind : {A B : Type 0} (m : FieldReader A) (f : A → FieldReader B) → Names m → ((x : A) → Names (f x)) → Names (m >>= f)
names_bind m f first others = record { each = λ p fault at e. bind_each m f p fault at (m p) first others refl e }

names_then : {A B : Type 0} (m : FieldReader A) (k : FieldReader B) → Names m → Names k → Names (m >> k)
names_then m k first second = names_bind m (λ _. k) first (λ _. second)

names_done : {A : Type 0} (x : A) → Names (done x)
names_done x = record { each = λ p fault at e. absurd (cc e) }

names_here : Names here
names_here = record { each = λ p fault at e. absurd (cc e) }

names_refuse_if : (b : Bool) (fault : Fault) → is_format fault ≡ true → Names (refuse_if b fault)
names_refuse_if true fault is = record { each = λ p other at e. let same : fault ≡ other = cc e in subst (λ (f : Fault). is_format f ≡ true) same is }
names_refuse_if false fault is = record { each = λ p other at e. absurd (cc e) }

names_context : (o : Option ContextFault) → Names (judge (option_map BadContext o))
names_context (Some why) = record { each = λ p other at e. let same : BadContext why ≡ other = cc e in subst (λ (f : Fault). is_format f ≡ true) same refl }
names_context None = record { each = λ p other at e. absurd (cc e) }

field_each : {A : Type 0} (b : Bool) (x : A) (next : Place) (fault : Fault) (at : ℕ) → (if b then Wanting else Read x next) ≡ Refused fault at → ⊥
field_each true x next fault at e = cc e
field_each false x next fault at e = cc e

names_field : {A : Type 0} (means : List ℕ → A) (n : ℕ) → Names (field means n)
names_field means n = record { each = λ p fault at e. absurd (field_each (nat_lt (length p.left) n) _ _ fault at e) }

names_bytes : (n : ℕ) → Names (bytes n)
names_bytes n = names_field (λ b. b) n

names_number : (w : Width) → Names (number w)
names_number w = names_field (from_big_endian w) (byte_len w)

names_if : {A : Type 0} (b : Bool) (m k : FieldReader A) → Names m → Names k → Names (cond b m k)
names_if true m k first second = first
names_if false m k first second = second

names_repeat : {A : Type 0} (m : FieldReader A) → Names m → (n : ℕ) → Names (repeat m n)
unfolding repeat
names_repeat m each zero = names_done []
names_repeat m each (suc n) =
    names_bind m (λ first. repeat m n >>= λ others. done (first ∷ others)) each
    (λ first. names_bind (repeat m n) (λ others. done (first ∷ others)) (names_repeat m each n) (λ others. names_done (first ∷ others)))

-- ---- headers

names_type_field : (suite : Suite) → Names (type_field suite)
unfolding type_field
names_type_field Committing = names_done tt
names_type_field Uncommitted =
    names_bind (number w8) after_type (names_number w8) (λ kind. names_refuse_if (not (kind == 0x80)) (BadType kind) refl)

names_suite_field : (uncommitted : Bool) (suite : Suite) → Names (suite_field uncommitted suite)
unfolding suite_field
names_suite_field uncommitted suite =
    names_bind (number w16) (after_suite_id uncommitted suite) (names_number w16)
    (λ id. names_then (refuse_if (is_forbidden uncommitted suite id) (faults.Uncommitted id)) (refuse_if (not (id == suite_id suite)) (UnsupportedSuite id))
    (names_refuse_if (is_forbidden uncommitted suite id) (faults.Uncommitted id) refl) (names_refuse_if (not (id == suite_id suite)) (UnsupportedSuite id) refl))

names_identity : (uncommitted : Bool) (suite : Suite) → Names (identity uncommitted suite)
unfolding identity
names_identity uncommitted suite =
    names_then (type_field suite) (after_type_field uncommitted suite) (names_type_field suite)
    (names_then (suite_field uncommitted suite) (after_suite suite) (names_suite_field uncommitted suite)
    (names_bind (bytes (id_length suite)) (λ id. done (record { suite = suite; id = id })) (names_bytes (id_length suite))
    (λ id. names_done (record { suite = suite; id = id }))))

names_opening : (uncommitted : Bool) → Names (opening uncommitted)
unfolding opening
names_opening uncommitted =
    names_bind (number w8) (after_version uncommitted) (names_number w8)
    (λ version. names_then (refuse_if (not (is_version version)) (BadVersion version)) (identity uncommitted (suite_of_version version))
    (names_refuse_if (not (is_version version)) (BadVersion version) refl) (names_identity uncommitted (suite_of_version version)))

names_context_field : Names context_field
unfolding context_field
names_context_field =
    names_bind (number w16) after_context_length (names_number w16)
    (λ n. names_bind (bytes n) (λ context. judge (option_map BadContext (context_fault context)) >> done context) (names_bytes n)
    (λ context. names_then (judge (option_map BadContext (context_fault context))) (done context) (names_context (context_fault context)) (names_done context)))

names_part : Names entry_part
unfolding entry_part
names_part =
    names_bind (number w16) after_part_length (names_number w16)
    (λ n. names_bind here (after_part_end n) names_here
    (λ at. names_then (refuse_if (nat_lt latest_end (at + n)) (HeaderTooLong (at + n))) (bytes n) (names_refuse_if (nat_lt latest_end (at + n)) (HeaderTooLong (at + n)) refl) (names_bytes n)))

names_entry : Names entry
unfolding entry
names_entry =
    names_bind entry_part after_provider names_part
    (λ provider. names_bind entry_part (after_info provider) names_part
    (λ info. names_bind entry_part (λ cipher. done (record { provider = provider; info = info; cipher = cipher })) names_part
    (λ cipher. names_done (record { provider = provider; info = info; cipher = cipher }))))

names_data_keys : (max_keys : Option ℕ) → Names (data_keys max_keys)
unfolding data_keys
names_data_keys max_keys =
    names_bind (number w16) (after_count max_keys) (names_number w16)
    (λ count. names_then (refuse_if (count == 0) NoDataKeys) (refuse_if (is_over max_keys count) (TooManyDataKeys count) >> repeat entry count) (names_refuse_if (count == 0) NoDataKeys refl)
    (names_then (refuse_if (is_over max_keys count) (TooManyDataKeys count)) (repeat entry count) (names_refuse_if (is_over max_keys count) (TooManyDataKeys count) refl) (names_repeat entry names_entry count)))

names_reserved : (suite : Suite) → Names (reserved suite)
unfolding reserved
names_reserved Committing = names_done tt
names_reserved Uncommitted =
    names_bind (number w32) after_zeros (names_number w32)
    (λ zeros. names_then (refuse_if (not (zeros == 0)) (BadReserved zeros)) (number w8 >>= after_iv_length) (names_refuse_if (not (zeros == 0)) (BadReserved zeros) refl)
    (names_bind (number w8) after_iv_length (names_number w8) (λ iv_length. names_refuse_if (not (iv_length == 12)) (BadIvLength iv_length) refl)))

names_after_reserved : (max_unit : Option ℕ) (kind : ℕ) → Names (after_reserved max_unit kind)
names_after_reserved max_unit kind =
    names_bind (number w32) (after_frame max_unit kind) (names_number w32)
    (λ frame. names_then (refuse_if (not (is_frame_length kind frame)) (BadFrameLength frame)) (refuse_if (is_unit_over max_unit kind frame) (UnitTooLong frame) >> done (content_of kind frame))
    (names_refuse_if (not (is_frame_length kind frame)) (BadFrameLength frame) refl)
    (names_then (refuse_if (is_unit_over max_unit kind frame) (UnitTooLong frame)) (done (content_of kind frame)) (names_refuse_if (is_unit_over max_unit kind frame) (UnitTooLong frame) refl) (names_done (content_of kind frame))))

names_content : (suite : Suite) (max_unit : Option ℕ) → Names (content_field suite max_unit)
unfolding content_field
names_content suite max_unit =
    names_bind (number w8) (after_kind suite max_unit) (names_number w8)
    (λ kind. names_then (refuse_if (not (is_content_type kind)) (BadContentType kind)) (after_type_of_content suite max_unit kind) (names_refuse_if (not (is_content_type kind)) (BadContentType kind) refl)
    (names_then (reserved suite) (after_reserved max_unit kind) (names_reserved suite) (names_after_reserved max_unit kind)))

names_header_iv : (suite : Suite) → Names (header_iv suite)
unfolding header_iv
names_header_iv Committing = names_done (replicate 12 0)
names_header_iv Uncommitted = names_bytes 12

names_header : (settings : Settings) → Names (header settings)
unfolding header
names_header settings =
    names_bind (opening settings.uncommitted) (after_opening settings) (names_opening settings.uncommitted)
    (λ o. names_bind context_field (after_context settings o) names_context_field
    (λ context. names_bind (data_keys settings.max_keys) (after_keys settings o context) (names_data_keys settings.max_keys)
    (λ entries. names_bind (content_field o.suite settings.max_unit) (after_content o context entries) (names_content o.suite settings.max_unit)
    (λ kind. names_bind (bytes (data_length o.suite)) (after_commitment o context entries kind) (names_bytes (data_length o.suite))
    (λ commitment. names_bind here (after_size o context entries kind commitment) names_here
    (λ size. names_bind (header_iv o.suite) (after_iv o context entries kind commitment size) (names_header_iv o.suite)
    (λ iv. names_bind (bytes 16) (λ tag. done (head_with o context entries kind commitment size iv tag)) (names_bytes 16)
    (λ tag. names_done (head_with o context entries kind commitment size iv tag)))))))))

-- ---- what stands before the content of a unit

names_regular_start : (want frame_length got : ℕ) → Names (regular_start want frame_length got)
unfolding regular_start
names_regular_start want frame_length got =
    names_then (refuse_if (not (got == want)) (WrongSequence want got)) (bytes 12 >>= λ iv. done (made_regular want frame_length iv)) (names_refuse_if (not (got == want)) (WrongSequence want got) refl)
    (names_bind (bytes 12) (λ iv. done (made_regular want frame_length iv)) (names_bytes 12) (λ iv. names_done (made_regular want frame_length iv)))

names_final_start : (want frame_length : ℕ) → Names (final_start want frame_length)
unfolding final_start
names_final_start want frame_length =
    names_bind (number w32) (after_final_number want frame_length) (names_number w32)
    (λ got. names_then (refuse_if (not (got == want)) (WrongSequence want got)) (bytes 12 >>= after_final_iv want frame_length) (names_refuse_if (not (got == want)) (WrongSequence want got) refl)
    (names_bind (bytes 12) (after_final_iv want frame_length) (names_bytes 12)
    (λ iv. names_bind (number w32) (after_length want frame_length iv) (names_number w32)
    (λ size. names_then (refuse_if (nat_lt frame_length size) (FinalTooLong size)) (done (made_final want iv size)) (names_refuse_if (nat_lt frame_length size) (FinalTooLong size) refl) (names_done (made_final want iv size))))))

names_frame_start : (want frame_length : ℕ) → Names (frame_start want frame_length)
unfolding frame_start
names_frame_start want frame_length =
    names_bind (number w32) (after_number want frame_length) (names_number w32)
    (λ got. names_if (got == final_mark) (final_start want frame_length) (regular_start want frame_length got) (names_final_start want frame_length) (names_regular_start want frame_length got))

names_block_start : (max_unit : Option ℕ) → Names (block_start max_unit)
unfolding block_start
names_block_start max_unit =
    names_bind (bytes 12) (after_block_iv max_unit) (names_bytes 12)
    (λ iv. names_bind (number w64) (after_block_length max_unit iv) (names_number w64)
    (λ size. names_then (refuse_if (nat_lt longest_block size) (BlockTooLong size)) (refuse_if (is_over max_unit size) (UnitTooLong size) >> done (made_block iv size)) (names_refuse_if (nat_lt longest_block size) (BlockTooLong size) refl)
    (names_then (refuse_if (is_over max_unit size) (UnitTooLong size)) (done (made_block iv size)) (names_refuse_if (is_over max_unit size) (UnitTooLong size) refl) (names_done (made_block iv size)))))

names_unit_head : (content : Content) (want : ℕ) (max_unit : Option ℕ) → Names (unit_head content want max_unit)
unfolding unit_head
names_unit_head contents.Single want max_unit = names_block_start max_unit
names_unit_head (contents.Framed frame_length) want max_unit = names_frame_start want frame_length

-- ---- units

names_opens : (o : Option (List ℕ)) (number : ℕ) → Names (opens o (UnitTag number))
names_opens (Some text) number = record { each = λ p fault at e. absurd (cc e) }
names_opens None number = record { each = λ p fault at e. let same : UnitTag number ≡ fault = cc e in subst (λ (f : Fault). is_format f ≡ true) same refl }

names_after_head : (key id : List ℕ) (head : UnitHead) → Names (after_head key id head)
names_after_head key id head =
    names_bind (bytes head.length) (after_cipher key id head) (names_bytes head.length)
    (λ cipher. names_bind (bytes 16) (after_tag key id head cipher) (names_bytes 16)
    (λ tag. names_bind (opens (opened_unit key id head cipher tag) (UnitTag head.number)) (λ text. done (piece_of head.kind text)) (names_opens (opened_unit key id head cipher tag) head.number)
    (λ text. names_done (piece_of head.kind text))))

names_unit : (content : Content) (max_unit : Option ℕ) (key id : List ℕ) (want : ℕ) → Names (unit content max_unit key id want)
unfolding unit
names_unit content max_unit key id want =
    names_bind (unit_head content want max_unit) (after_head key id) (names_unit_head content want max_unit) (λ head. names_after_head key id head)

names_frame : (frame_length : ℕ) (u : Under) (k : ℕ) → Names (frame frame_length u k)
unfolding frame
names_frame frame_length u k = names_unit (contents.Framed frame_length) None u.key u.id (k + 1)

names_block : (max_unit : Option ℕ) (key id : List ℕ) → Names (block_unit max_unit key id)
unfolding block_unit
names_block max_unit key id = names_unit contents.Single max_unit key id 1

-- ---- bodies

-- no verdict names another fault
abbrev pub NamesFormat : Verdict → Type 0
NamesFormat verdict = (fault : Fault) → verdict ≡ Faulty fault → is_format fault ≡ true

behind_format : (b : Bool) → NamesFormat (if b then Whole else Faulty faults.TrailingBytes)
behind_format true fault e = absurd (cc e)
behind_format false fault e = let same : faults.TrailingBytes ≡ fault = cc e in subst (λ (f : Fault). is_format f ≡ true) same refl

reading_format : (m : FieldReader Piece) (p : Place) (r : Reading Piece) → Names m → m p ≡ r → NamesFormat (verdict_of r)
reading_format m p (Read (More text) next) names is fault e = absurd (cc e)
reading_format m p (Read (Last text) next) names is fault e = behind_format (length next.left == 0) fault e
reading_format m p (Refused other at) names is fault e =
    let same : other ≡ fault = cc e in subst (λ (f : Fault). is_format f ≡ true) same (names.each p other at is)
reading_format m p Wanting names is fault e = absurd (cc e)

units_format : (width : ℕ) (each : ℕ → FieldReader Piece) (p : Place) → ((k : ℕ) → Names (each k)) → NamesFormat (judged_units width each p).verdict
unfolding judged_units
units_format width each p names =
    let n : ℕ = first_other width each p in
    reading_format (each n) (past (n * width) p) (slot width each p n) (names n) refl

body_format : (content : Content) (max_unit : Option ℕ) (key id : List ℕ) (p : Place) → NamesFormat (judged_body content max_unit key id p).verdict
unfolding judged_body judged_frames judged_block
body_format contents.Single max_unit key id p = units_format 1 (λ k. block_unit max_unit key id) p (λ k. names_block max_unit key id)
body_format (contents.Framed n) max_unit key id p =
    let u : Under = record { key = key; id = id } in units_format (n + beside_content) (frame n u) p (names_frame n u)

-- ---- messages

-- an answer that is a fault is one of these
abbrev pub AnswersFormat : Unlocking → Type 0
AnswersFormat answer = (fault : Fault) → answer ≡ Refuses fault → is_format fault ≡ true

lock_format : (b c : Bool) (fault : Fault) → (if b then Some faults.Commitment else if c then Some faults.HeaderTag else None) ≡ Some fault → is_format fault ≡ true
lock_format true c fault e = let same : faults.Commitment ≡ fault = cc e in subst (λ (f : Fault). is_format f ≡ true) same refl
lock_format false true fault e = let same : faults.HeaderTag ≡ fault = cc e in subst (λ (f : Fault). is_format f ≡ true) same refl
lock_format false false fault e = absurd (cc e)

lock_faults : (h : HeaderValue) (only : List KeyValue) (key : List ℕ) (fault : Fault) → lock_fault h only key ≡ Some fault → is_format fault ≡ true
unfolding lock_fault
lock_faults h only key fault e =
    lock_format (not (commits h key)) (not (bytes_eq h.tag (header_tag h.suite h.iv h.raw only key h.message_id))) fault e

locked_format : (settings : Settings) (h : HeaderValue) (only : List KeyValue) (key : List ℕ) (p : Place) (o : Option Fault) → lock_fault h only key ≡ o → NamesFormat (judged_lock settings h key p o).verdict
locked_format settings h only key p (Some other) is fault e =
    let same : other ≡ fault = cc e in subst (λ (f : Fault). is_format f ≡ true) same (lock_faults h only key other is)
locked_format settings h only key p None is fault e = body_format h.content settings.max_unit (derived h.suite key h.message_id) h.message_id p fault e

header_format : (settings : Settings) (h : HeaderValue) (p : Place) (answer : Unlocking) → AnswersFormat answer → NamesFormat (judged_header settings h p answer).verdict
header_format settings h p (Refuses other) answers fault e =
    let same : other ≡ fault = cc e in subst (λ (f : Fault). is_format f ≡ true) same (answers other refl)
header_format settings h p (Unlocks whole only key) answers fault e = locked_format settings h only key p (lock_fault h only key) refl fault e

-- the answer plays a part where a header was read
message_format : (b : List ℕ) (settings : Settings) (answer : Unlocking) (r : Reading HeaderFields) → header settings (start b) ≡ r
    → ((parts : HeaderFields) (end : Place) → r ≡ Read parts end → AnswersFormat answer) → NamesFormat (judged_reading b settings answer r).verdict
message_format b settings answer (Refused other at) is answers fault e =
    let same : other ≡ fault = cc e in subst (λ (f : Fault). is_format f ≡ true) same ((names_header settings).each (start b) other at is)
message_format b settings answer Wanting is answers fault e = absurd (cc e)
message_format b settings answer (Read parts end) is answers fault e = header_format settings (header_of b parts) end answer (answers parts end refl) fault e

pub judged_format : (b : List ℕ) (settings : Settings) (answer : Unlocking) → ((parts : HeaderFields) (end : Place) → header settings (start b) ≡ Read parts end → AnswersFormat answer)
    → NamesFormat (judged b settings answer).verdict
unfolding judged
judged_format b settings answer answers = message_format b settings answer (header settings (start b)) refl answers

-- a header is refused for no other fault
pub header_names : (settings : Settings) (p : Place) (fault : Fault) (at : ℕ) → header settings p ≡ Refused fault at → is_format fault ≡ true
header_names settings p fault at e = (names_header settings).each p fault at e

-- ---- what a manager answers

stands_format : (tells : List WrapKeyValue → Type 0) (request : DecRequestValue) (fault : Fault) → FaultStands tells request fault → is_format fault ≡ true
stands_format tells request faults.ReservedKey stands = refl
stands_format tells request (faults.ContextMismatch key) stands = refl
stands_format tells request (faults.MissingRequired key) stands = refl
stands_format tells request (faults.ContextTooLong n) stands = refl
stands_format tells request faults.NoKeyOpens stands = refl
stands_format tells request fault stands = absurd stands

-- a fault that it answers to a whole header is one of these
answers_format : (old new : ManagerNow) (now : ℕ) (settings : Settings) (given : List KeyValue) (b : List ℕ) (answer : Unlocking)
    → AnswersTo (answering_of old new now) settings given b answer → (parts : HeaderFields) (end : Place) → header settings (start b) ≡ Read parts end → AnswersFormat answer
answers_format old new now settings given b answer answers parts end is fault refuses =
    let at : AnswersReading (answering_of old new now) given b (Read parts end) answer = subst (λ (r : Reading HeaderFields). AnswersReading (answering_of old new now) given b r answer) is answers in
    let none : AnswersRequest (answering_of old new now) (request_of given (header_of b parts)) (Refuses fault) =
    subst (λ (a : Unlocking). AnswersRequest (answering_of old new now) (request_of given (header_of b parts)) a) refuses at in
    stands_format old.tells (request_of given (header_of b parts)) fault none.0

-- no fault of another kind stands in bytes to whose header it answered
pub verdict_format : (old new : ManagerNow) (now : ℕ) (settings : Settings) (given : List KeyValue) (b : List ℕ) (answer : Unlocking)
    → AnswersTo (answering_of old new now) settings given b answer → NamesFormat (judged b settings answer).verdict
verdict_format old new now settings given b answer answers =
    judged_format b settings answer (answers_format old new now settings given b answer answers)

-- ---- M10 and M27

-- M10 is that more is wanted
pub cut_is_sound : (v : Verdict) → NamesFormat v → fault_at_end v ≡ Some faults.Truncated → fault_of v ≡ None
cut_is_sound Going names is = refl
cut_is_sound Whole names is = absurd (cc is)
cut_is_sound (Faulty fault) names is = let same : fault ≡ faults.Truncated = cc is in let no : false ≡ true = subst (λ (f : Fault). is_format f ≡ true) same (names fault refl) in absurd (cc no)

-- and is no fault before the end
pub never_cut : (v : Verdict) → NamesFormat v → fault_of v ≡ Some faults.Truncated → ⊥
never_cut Going names is = cc is
never_cut Whole names is = cc is
never_cut (Faulty fault) names is = let same : fault ≡ faults.Truncated = cc is in let no : false ≡ true = subst (λ (f : Fault). is_format f ≡ true) same (names fault refl) in cc no

-- nor is M27, at the end or before
pub never_armour : (v : Verdict) (number : ℕ) → NamesFormat v → fault_at_end v ≡ Some (faults.BadArmour number) → ⊥
never_armour Going number names is = cc is
never_armour Whole number names is = cc is
never_armour (Faulty fault) number names is =
    let same : fault ≡ faults.BadArmour number = cc is in let no : false ≡ true = subst (λ (f : Fault). is_format f ≡ true) same (names fault refl) in cc no

pub never_armour_before : (v : Verdict) (number : ℕ) → NamesFormat v → fault_of v ≡ Some (faults.BadArmour number) → ⊥
never_armour_before Going number names is = cc is
never_armour_before Whole number names is = cc is
never_armour_before (Faulty fault) number names is = never_armour (Faulty fault) number names is
