-- Why nothing is read of the bytes of a file.
use Rattle.std.specs.Prelude.{◌≡◌, ℕ, List, codes, Option, Some, None, Result, Ok, Err}
use Rattle.esdk_fields.specs.Names.{file_name}
use Rattle.esdk_fields.specs.declared.refusals.FileRefusal.TheVariants.{NotJson}
use Rattle.serde_json.specs.declared.value.Value.{Value}
use Rattle.serde_json.specs.Data.{Data}
use Rattle.serde_json.specs.View.{view}
use Rattle.json_values.specs.declared.errors.ReadError.{ReadError}
use Rattle.json_values.specs.declared.errors.ReadError.TheVariants.{File, Memory}

-- this value; or the bytes are no JSON, and only then are they refused
abbrev pub ReadsValue : Result Value ReadError → Option Data → Type 0
ReadsValue (Ok value) found = found ≡ Some (view value)
ReadsValue (Err (File refusal)) found = (refusal ≡ NotJson) × (found ≡ None)
ReadsValue (Err Memory) found = Unit {0}

-- what is shown of it
unfoldable pub read_error_text : ReadError → List ℕ
read_error_text (File refusal) = file_name refusal
read_error_text Memory = codes "memory ran out"
