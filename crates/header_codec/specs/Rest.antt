-- Reading the rest of a header, once its first fields were read.
use Rattle.std.specs.Prelude.{◌≡◌, ℕ, ◌≤◌, List, [], ◌++◌, length, drop, ◌==◌, Option}
use Rattle.std.specs.Int.{w16}
use Rattle.esdk_fields.specs.declared.contents.Content.{Content}
use Rattle.esdk_fields.specs.declared.faults.Fault.TheVariants.{NoDataKeys, TooManyDataKeys}
use Rattle.esdk_fields.specs.Place.{Place, start}
use Rattle.esdk_fields.specs.Reading.{FieldReader, ◌>>=◌, ◌>>◌, done, bytes, number, here}
use Rattle.esdk_fields.specs.Reading.{refuse_if, repeat}
use Rattle.suite_table.specs.declared.suite.Suite.{Suite}
use Rattle.suite_table.specs.Suites.{data_length}
use Rattle.edk_codec.specs.Entry.{Entry}
use Rattle.header_codec.specs.declared.settings.Settings.{Settings}
use Rattle.header_codec.specs.Header.{Opening}
use Rattle.esdk_fields.specs.Limits.{is_over}
use Rattle.header_codec.specs.Table.{HeaderFields, entry, content_field, header_iv, header}

-- what follows the encrypted data keys, and the size of the body
pub record Ending : Type 0 where
  pub content : Content
  pub commitment : List ℕ
  pub size : ℕ
  pub iv : List ℕ
  pub tag : List ℕ

unfoldable pub ending : Suite → Option ℕ → FieldReader Ending
ending suite max_unit = do
  kind ← content_field suite max_unit
  commitment ← bytes (data_length suite)
  size ← here
  iv ← header_iv suite
  tag ← bytes 16
  done (record { content = kind; commitment = commitment; size = size; iv = iv; tag = tag })

unfoldable pub keys_count : Option ℕ → FieldReader ℕ
keys_count max_keys = do
  count ← number w16
  refuse_if (count == 0) NoDataKeys
  refuse_if (is_over max_keys count) (TooManyDataKeys count)
  done count

abbrev pub fields_with : Opening → List ℕ → List Entry → Ending → HeaderFields
fields_with o context entries e = record {
  opening = o;
  context = context;
  entries = entries;
  content = e.content;
  commitment = e.commitment;
  size = e.size;
  iv = e.iv;
  tag = e.tag;
}

-- behind the encrypted data keys
abbrev pub after_all_keys : Settings → Opening → List ℕ → List Entry → FieldReader HeaderFields
after_all_keys settings o context entries = do
  e ← ending o.suite settings.max_unit
  done (fields_with o context entries e)

-- behind some of them, so many being left
abbrev pub after_some_keys : Settings → Opening → List ℕ → List Entry → ℕ → FieldReader HeaderFields
after_some_keys settings o context entries left = do
  others ← repeat entry left
  after_all_keys settings o context (entries ++ others)

-- behind the context
abbrev pub after_front : Settings → Opening → List ℕ → FieldReader HeaderFields
after_front settings o context = do
  count ← keys_count settings.max_keys
  after_some_keys settings o context [] count

-- the place behind the first n bytes
abbrev pub place_past : ℕ → List ℕ → Place
place_past n bytes = record { at = n; left = drop n bytes }

-- Whatever follows these bytes, their header is what this reader reads from that offset on, which
-- they reach.
pub record Resumes (settings : Settings) (bytes : List ℕ) (at : ℕ)
    (rest : FieldReader HeaderFields) : Type 0 where
  pub reads : (more : List ℕ) → header settings (start (bytes ++ more))
      ≡ rest (place_past at (bytes ++ more))
  pub inside : at ≤ length bytes
