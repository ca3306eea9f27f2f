-- What a receiver gains of bytes that go to it as armour text.
use Rattle.std.specs.Prelude.{◌≡◌, ℕ, ◌≤◌, List, ◌++◌, length, take, Result, Ok, Err}
use Rattle.armour_core.specs.declared.armour.Armour.{Armour}
use Rattle.armour_core.specs.ArmourText.{armour_text}
use Rattle.armour_core.specs.Armouring.{in_full_lines, open_line}

-- the bytes of an armour's open line
abbrev pub held_of : Armour → List ℕ
held_of armour = take armour.held armour.line

-- the armour text of the full lines of these bytes
abbrev pub full_lines_text : List ℕ → List ℕ
full_lines_text bytes = armour_text (take (in_full_lines (length bytes)) bytes)

-- Behind the bytes of an open line these came: the receiver took the text of the lines that they
-- fill, and what is left of them is the open line now.
pub record TakesLines {R : Type 0} (takes : R → R → List ℕ → Type 0) (old new : R)
    (before after bytes : List ℕ) : Type 0 where
  pub took : takes old new (full_lines_text (before ++ bytes))
  pub left : after ≡ open_line (before ++ bytes)

-- The receiver failed at a front of the text of the lines that they fill, which is something.
pub record FailsAtLine {R E : Type 0} (fails : R → R → List ℕ → E → Type 0) (old new : R)
    (before bytes : List ℕ) (error : E) : Type 0 where
  pub text : List ℕ
  pub more : List ℕ
  pub some : 1 ≤ length text
  pub is : full_lines_text (before ++ bytes) ≡ text ++ more
  pub failed : fails old new text error

-- The receiver took this text, which may be nothing, or it failed at it.
abbrev pub HandsOn : {R E T : Type 0} → (R → R → List ℕ → Type 0) → (R → R → List ℕ → E → Type 0)
    → List ℕ → R → R → Result T E → Type 0
HandsOn takes fails text old new (Ok done) = takes old new text
HandsOn takes fails text old new (Err error) = (1 ≤ length text) × fails old new text error
