-- The header is read from left to right, and each field is judged at its last byte.
use Rattle.std.proofs.Common.{ℕ, ◌+◌, Bool, not, Option, replicate}
use Rattle.std.specs.Prelude.{◌==◌, nat_lt, option_map}
use Rattle.std.specs.Int.{w8, w16, w32}
use Rattle.esdk_fields.specs.declared.faults.Fault.TheVariants.{BadVersion, UnsupportedSuite, BadContext, NoDataKeys, TooManyDataKeys, BadContentType, BadFrameLength, HeaderTooLong, UnitTooLong, BadType, BadReserved, BadIvLength}
use Rattle.esdk_fields.specs.declared.faults.Fault.TheVariants as faults
use Rattle.esdk_fields.specs.Reading.{◌>>=◌, ◌>>◌, done, bytes, number, here, refuse_if, judge, repeat}
use Rattle.esdk_fields.specs.Sequential.{IsSequential}
use Rattle.esdk_fields.proofs.Sequential.{IsSequential-bind, IsSequential-then, IsSequential-bytes, IsSequential-number, IsSequential-here, IsSequential-done, IsSequential-refuse_if, IsSequential-judge, IsSequential-repeat}
use Rattle.suite_table.specs.declared.suite.Suite.{Suite}
use Rattle.suite_table.specs.declared.suite.Suite.TheVariants.{Committing, Uncommitted}
use Rattle.suite_table.specs.Suites.{suite_id, id_length, data_length}
use Rattle.context_codec.specs.Split.{context_fault}
use Rattle.header_codec.specs.declared.settings.Settings.{Settings}
use Rattle.header_codec.specs.Header.{latest_end}
use Rattle.esdk_fields.specs.Limits.{is_over}
use Rattle.header_codec.specs.Table.{is_version, suite_of_version, is_forbidden, is_content_type, is_frame_length, is_unit_over, content_of, type_field, suite_field, identity, opening, context_field, entry_part, entry, data_keys, reserved, content_field, header_iv, header}
use Rattle.header_codec.proofs.Steps.{after_version, after_type, after_suite_id, after_suite, after_type_field, after_context_length, after_part_length, after_part_end, after_provider, after_info, after_count, after_kind, after_iv_length, after_zeros, after_reserved, after_type_of_content, after_frame, after_opening, after_context, after_keys, after_content, after_commitment, after_size, after_iv, head_with}

IsSequential-type_field : (suite : Suite) → IsSequential (type_field suite)
unfolding type_field
IsSequential-type_field Committing = IsSequential-done tt
IsSequential-type_field Uncommitted =
    IsSequential-bind (number w8) after_type (IsSequential-number w8) (λ kind. IsSequential-refuse_if (not (kind == 0x80)) (BadType kind))

IsSequential-suite_field : (uncommitted : Bool) (suite : Suite) → IsSequential (suite_field uncommitted suite)
unfolding suite_field
IsSequential-suite_field uncommitted suite =
    IsSequential-bind (number w16) (after_suite_id uncommitted suite) (IsSequential-number w16)
    (λ id. IsSequential-then (refuse_if (is_forbidden uncommitted suite id) (faults.Uncommitted id)) (refuse_if (not (id == suite_id suite)) (UnsupportedSuite id))
    (IsSequential-refuse_if (is_forbidden uncommitted suite id) (faults.Uncommitted id)) (IsSequential-refuse_if (not (id == suite_id suite)) (UnsupportedSuite id)))

IsSequential-identity : (uncommitted : Bool) (suite : Suite) → IsSequential (identity uncommitted suite)
unfolding identity
IsSequential-identity uncommitted suite =
    IsSequential-then (type_field suite) (after_type_field uncommitted suite) (IsSequential-type_field suite)
    (IsSequential-then (suite_field uncommitted suite) (after_suite suite) (IsSequential-suite_field uncommitted suite)
    (IsSequential-bind (bytes (id_length suite)) (λ id. done (record { suite = suite; id = id })) (IsSequential-bytes (id_length suite))
    (λ id. IsSequential-done (record { suite = suite; id = id }))))

pub IsSequential-opening : (uncommitted : Bool) → IsSequential (opening uncommitted)
unfolding opening
IsSequential-opening uncommitted =
    IsSequential-bind (number w8) (after_version uncommitted) (IsSequential-number w8)
    (λ version. IsSequential-then (refuse_if (not (is_version version)) (BadVersion version)) (identity uncommitted (suite_of_version version))
    (IsSequential-refuse_if (not (is_version version)) (BadVersion version)) (IsSequential-identity uncommitted (suite_of_version version)))

pub IsSequential-context_field : IsSequential context_field
unfolding context_field
IsSequential-context_field =
    IsSequential-bind (number w16) after_context_length (IsSequential-number w16)
    (λ n. IsSequential-bind (bytes n) (λ context. judge (option_map BadContext (context_fault context)) >> done context) (IsSequential-bytes n)
    (λ context. IsSequential-then (judge (option_map BadContext (context_fault context))) (done context) (IsSequential-judge (option_map BadContext (context_fault context))) (IsSequential-done context)))

pub IsSequential-part : IsSequential entry_part
unfolding entry_part
IsSequential-part =
    IsSequential-bind (number w16) after_part_length (IsSequential-number w16)
    (λ n. IsSequential-bind here (after_part_end n) IsSequential-here
    (λ at. IsSequential-then (refuse_if (nat_lt latest_end (at + n)) (HeaderTooLong (at + n))) (bytes n) (IsSequential-refuse_if (nat_lt latest_end (at + n)) (HeaderTooLong (at + n))) (IsSequential-bytes n)))

pub IsSequential-entry : IsSequential entry
unfolding entry
IsSequential-entry =
    IsSequential-bind entry_part after_provider IsSequential-part
    (λ provider. IsSequential-bind entry_part (after_info provider) IsSequential-part
    (λ info. IsSequential-bind entry_part (λ cipher. done (record { provider = provider; info = info; cipher = cipher })) IsSequential-part
    (λ cipher. IsSequential-done (record { provider = provider; info = info; cipher = cipher }))))

pub IsSequential-data_keys : (max_keys : Option ℕ) → IsSequential (data_keys max_keys)
unfolding data_keys
IsSequential-data_keys max_keys =
    IsSequential-bind (number w16) (after_count max_keys) (IsSequential-number w16)
    (λ count. IsSequential-then (refuse_if (count == 0) NoDataKeys) (refuse_if (is_over max_keys count) (TooManyDataKeys count) >> repeat entry count) (IsSequential-refuse_if (count == 0) NoDataKeys)
    (IsSequential-then (refuse_if (is_over max_keys count) (TooManyDataKeys count)) (repeat entry count) (IsSequential-refuse_if (is_over max_keys count) (TooManyDataKeys count)) (IsSequential-repeat entry IsSequential-entry count)))

IsSequential-reserved : (suite : Suite) → IsSequential (reserved suite)
unfolding reserved
IsSequential-reserved Committing = IsSequential-done tt
IsSequential-reserved Uncommitted =
    IsSequential-bind (number w32) after_zeros (IsSequential-number w32)
    (λ zeros. IsSequential-then (refuse_if (not (zeros == 0)) (BadReserved zeros)) (number w8 >>= after_iv_length) (IsSequential-refuse_if (not (zeros == 0)) (BadReserved zeros))
    (IsSequential-bind (number w8) after_iv_length (IsSequential-number w8) (λ iv_length. IsSequential-refuse_if (not (iv_length == 12)) (BadIvLength iv_length))))

IsSequential-after_reserved : (max_unit : Option ℕ) (kind : ℕ) → IsSequential (after_reserved max_unit kind)
IsSequential-after_reserved max_unit kind =
    IsSequential-bind (number w32) (after_frame max_unit kind) (IsSequential-number w32)
    (λ frame. IsSequential-then (refuse_if (not (is_frame_length kind frame)) (BadFrameLength frame)) (refuse_if (is_unit_over max_unit kind frame) (UnitTooLong frame) >> done (content_of kind frame))
    (IsSequential-refuse_if (not (is_frame_length kind frame)) (BadFrameLength frame))
    (IsSequential-then (refuse_if (is_unit_over max_unit kind frame) (UnitTooLong frame)) (done (content_of kind frame)) (IsSequential-refuse_if (is_unit_over max_unit kind frame) (UnitTooLong frame)) (IsSequential-done (content_of kind frame))))

pub IsSequential-content : (suite : Suite) (max_unit : Option ℕ) → IsSequential (content_field suite max_unit)
unfolding content_field
IsSequential-content suite max_unit =
    IsSequential-bind (number w8) (after_kind suite max_unit) (IsSequential-number w8)
    (λ kind. IsSequential-then (refuse_if (not (is_content_type kind)) (BadContentType kind)) (after_type_of_content suite max_unit kind) (IsSequential-refuse_if (not (is_content_type kind)) (BadContentType kind))
    (IsSequential-then (reserved suite) (after_reserved max_unit kind) (IsSequential-reserved suite) (IsSequential-after_reserved max_unit kind)))

pub IsSequential-header_iv : (suite : Suite) → IsSequential (header_iv suite)
unfolding header_iv
IsSequential-header_iv Committing = IsSequential-done (replicate 12 0)
IsSequential-header_iv Uncommitted = IsSequential-bytes 12

pub IsSequential-header : (settings : Settings) → IsSequential (header settings)
unfolding header
IsSequential-header settings =
    IsSequential-bind (opening settings.uncommitted) (after_opening settings) (IsSequential-opening settings.uncommitted)
    (λ o. IsSequential-bind context_field (after_context settings o) IsSequential-context_field
    (λ context. IsSequential-bind (data_keys settings.max_keys) (after_keys settings o context) (IsSequential-data_keys settings.max_keys)
    (λ entries. IsSequential-bind (content_field o.suite settings.max_unit) (after_content o context entries) (IsSequential-content o.suite settings.max_unit)
    (λ kind. IsSequential-bind (bytes (data_length o.suite)) (after_commitment o context entries kind) (IsSequential-bytes (data_length o.suite))
    (λ commitment. IsSequential-bind here (after_size o context entries kind commitment) IsSequential-here
    (λ size. IsSequential-bind (header_iv o.suite) (after_iv o context entries kind commitment size) (IsSequential-header_iv o.suite)
    (λ iv. IsSequential-bind (bytes 16) (λ tag. done (head_with o context entries kind commitment size iv tag)) (IsSequential-bytes 16)
    (λ tag. IsSequential-done (head_with o context entries kind commitment size iv tag)))))))))
