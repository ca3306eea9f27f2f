-- What the code finds, where it stands in the bytes.
use Rattle.std.specs.Prelude.{◌≡◌, ◌≢◌, ◌<◌, ℕ, false, slice_index_or, List, [], ◌∷◌, length}
use Rattle.std.specs.Prelude.{Option, Some, None, option_map, Result, Ok, Err}
use Rattle.std.specs.Borrow.{Bor}
use Rattle.std.specs.List.{remove}
use Rattle.esdk_fields.specs.declared.refusals.FileRefusal.{FileRefusal}
use Rattle.keyring_trait.specs.Wrapping.{WrapKeyValue}
use Rattle.keyring_trait.specs.Keyring.{KeyringMeaning}
use Rattle.serde_json.specs.View.{view, items_view}
use Rattle.json_values.specs.declared.errors.ReadError.{ReadError}
use Rattle.json_values.specs.declared.errors.ReadError.TheVariants.{File, Memory}
use Rattle.keyring_file.specs.KeyLine.{space_parts}
use Rattle.keyring_file.specs.declared.key_line.Parts.{Parts}
use Rattle.keyring_file.specs.declared.key_line.KeyLine.{KeyLine}
use Rattle.keyring_file.specs.declared.form.Form as form
use Rattle.keyring_file.specs.declared.form.Form.TheVariants as forms
use Rattle.keyring_file.specs.declared.plugs.Plug.{Plug}
use Rattle.keyring_file.specs.declared.walk.Walk.{Walk}
use Rattle.keyring_file.specs.Plugs.{taken}
use Rattle.keyring_file.specs.Walk.{Met}
use Rattle.keyring_file.specs.Form.{Form, RawForm, PlugForm, MultiForm}

-- the parts of the text are what stands before the first space and the parts of what stands behind
-- it; or the text is the one part
abbrev pub SplitsAtSpace : Option (Bor (List ℕ) × Bor (List ℕ)) → List ℕ → Type 0
SplitsAtSpace (Some halves) text = space_parts text ≡ halves.0.now ∷ space_parts halves.1.now
SplitsAtSpace None text = space_parts text ≡ text ∷ []

-- these are the parts; or there are not three of them
abbrev pub FindsParts : Option Parts → List (List ℕ) → Type 0
FindsParts (Some p) parts = parts ≡ p.namespace.now ∷ p.name.now ∷ p.digits.now ∷ []
FindsParts None parts = length parts ≢ 3

-- the key of a line
abbrev pub key_value : KeyLine → WrapKeyValue
key_value line =
    record { namespace = line.namespace.now; name = line.name.now; key = line.key; retired = false }

-- this key, or this refusal
abbrev pub FindsKey : Result KeyLine FileRefusal → Result WrapKeyValue FileRefusal → Type 0
FindsKey (Ok line) reading = reading ≡ Ok (key_value line)
FindsKey (Err refusal) reading = reading ≡ Err refusal

-- ---- JSON

-- a node's form, where its parts stand in the file
abbrev pub form_value : form.Form → Form
form_value (forms.Raw namespace name key retired) = RawForm namespace.now name.now key.now retired
form_value (forms.Plug name) = PlugForm name.now
form_value (forms.Multi generator children) =
    MultiForm (option_map (λ node. view node.now) generator) (items_view children.now)

-- ---- plugs

-- how many leaves a keyring that is handed over counts as
abbrev pub wraps_of : {P : Type 0} → (P → KeyringMeaning) → P → ℕ
wraps_of meaning keyring = (meaning keyring).wraps

-- the first plug of the name stands at this index; or no plug has the name
abbrev pub IsIndexOf : {P : Type 0} → List ℕ → List (Plug P) → Option ℕ → Type 0
IsIndexOf {P = P} name plugs (Some index) =
    (index < length plugs)
    × ((plug : Plug P) → slice_index_or plugs index plug ≡ plug
    → taken name plugs ≡ Some (plug.keyring, remove plugs index))
IsIndexOf name plugs None = taken name plugs ≡ None

-- the first keyring of the name, and the plugs that are left; or no plug has the name, and all are
-- left
abbrev pub TakesPlug : {P : Type 0} → List ℕ → List (Plug P) → List (Plug P) → Option P → Type 0
TakesPlug name old new (Some keyring) = taken name old ≡ Some (keyring, new)
TakesPlug name old new None = (taken name old ≡ None) × (new ≡ old)

-- ---- the walk

-- what a walk has met
abbrev pub met : {P : Type 0} → Walk P → Met P
met walk = record {
  nodes = walk.nodes;
  leaves = walk.leaves;
  keys = walk.keys.items;
  plugs = walk.plugs.items;
}

-- this value, and what is met then; or this refusal. Want of memory may come at any time.
abbrev pub WalkGives : {P A B : Type 0} → (A → B) → Result A ReadError → Walk P
    → Result (B × Met P) FileRefusal → Type 0
WalkGives means (Ok x) now reading = reading ≡ Ok (means x, met now)
WalkGives means (Err (File refusal)) now reading = reading ≡ Err refusal
WalkGives means (Err Memory) now reading = Unit {0}

-- the same without a value
abbrev pub WalkGivesNothing : {P A : Type 0} → Result A ReadError → Walk P
    → Result (Unit {0} × Met P) FileRefusal → Type 0
WalkGivesNothing result now reading = WalkGives (λ _. tt) result now reading

-- the keyring of this key; only memory may be wanting
abbrev pub IsKeyring : WrapKeyValue → Result WrapKeyValue ReadError → Type 0
IsKeyring w (Ok made) = made ≡ w
IsKeyring w (Err (File refusal)) = ⊥
IsKeyring w (Err Memory) = Unit {0}
