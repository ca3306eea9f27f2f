-- How far a header was read.
use Rattle.std.specs.Prelude.{ℕ, ◌≤◌, List, Option, Some, None, IfSome}
use Rattle.esdk_fields.specs.Reading.{FieldReader}
use Rattle.context_codec.specs.Split.{SpellsContext}
use Rattle.edk_codec.specs.Entry.{Entry}
use Rattle.header_codec.specs.declared.settings.Settings.{Settings}
use Rattle.header_codec.specs.declared.progress.Front.{Front}
use Rattle.header_codec.specs.declared.progress.Progress.{Progress}
use Rattle.header_codec.specs.Header.{Opening, latest_end}
use Rattle.header_codec.specs.Table.{HeaderFields, header}
use Rattle.header_codec.specs.Rest.{after_front, after_some_keys, Resumes}

abbrev pub front_opening : Front → Opening
front_opening f = record { suite = f.suite; id = f.id.items }

-- what is still to be read: all, or what is behind the context, or behind the entries read so far,
-- of which so many are left
abbrev pub rest : Settings → List ℕ → Option Front → Option ℕ → List Entry
    → FieldReader HeaderFields
rest settings context None left entries = header settings
rest settings context (Some f) None entries = after_front settings (front_opening f) context
rest settings context (Some f) (Some n) entries =
    after_some_keys settings (front_opening f) context entries n

-- the offset where it begins at the latest: the opening has at most 36 bytes, and the context
-- 65,537
abbrev pub latest_rest : Option Front → Option ℕ → ℕ
latest_rest None left = 0
latest_rest (Some f) None = 65573
latest_rest (Some f) (Some n) = latest_end

-- The front of these bytes was read so far: whatever follows them, what is still to be read gives
-- their header.
pub record HasReadSoFar (bytes : List ℕ) (p : Progress) : Type 0 where
  pub context : List ℕ
  pub spells : IfSome p.front (λ f. SpellsContext context f.stored)
  pub resumes : Resumes p.settings bytes p.at (rest p.settings context p.front p.left p.keys.items)
  pub within : p.at ≤ latest_rest p.front p.left
