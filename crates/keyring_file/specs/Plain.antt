-- Values without floats: what is written for them is read back.
use Rattle.std.specs.Prelude.{◌≡◌, ◌≤◌, ℕ, true, false, is_some}
use Rattle.json.specs.Tree.{HasNumbers}
use Rattle.serde_json.specs.Data.{Data, depth}
use Rattle.serde_json.specs.Find.{as_object}
use Rattle.serde_json.specs.Written.{has_float, outline}

-- A value whose numbers are written as JSON has them, and which nests no deeper than this.
pub record IsPlain (most : ℕ) (d : Data) : Type 0 where
  pub whole : has_float d ≡ false
  pub numbers : HasNumbers (outline d)
  pub shallow : depth d ≤ most

-- The same of an object that can be read back.
pub record IsPlainObject (d : Data) : Type 0 where
  pub plain : IsPlain 127 d
  pub object : is_some (as_object d) ≡ true
