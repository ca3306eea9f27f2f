-- The calls of a shelf, and how the logic stores a list of them.
use Rattle.std.specs.Prelude.{◌≡◌, ℕ, List, [], cond, ◌==◌, refl}
use Rattle.std.specs.Coded.{Coded, code_by, coded×, coded_ℕ, coded_list}

-- Who may read what was made: its owner alone, or anyone.
pub data ForWhom : Type 0 where
  its_owner : ForWhom
  anyone : ForWhom

-- One call, with the name that it was about, and what passed: what a read from an offset gave, what
-- an append took, for whom a file was finished.
pub data ShelfCall : Type 0 where
  reads : List ℕ → ℕ → List ℕ → ShelfCall
  creates : List ℕ → ShelfCall
  appends : List ℕ → List ℕ → ShelfCall
  announces : List ℕ → ShelfCall
  finishes : List ℕ → ForWhom → ShelfCall

abbrev Parts : Type 0
Parts = ℕ × (List ℕ × (ℕ × List ℕ))

abbrev to_parts : ShelfCall → Parts
to_parts (reads name at bytes) = (0, (name, (at, bytes)))
to_parts (creates name) = (1, (name, (0, [])))
to_parts (appends name bytes) = (2, (name, (0, bytes)))
to_parts (announces name) = (3, (name, (0, [])))
to_parts (finishes name its_owner) = (4, (name, (0, [])))
to_parts (finishes name anyone) = (5, (name, (0, [])))

abbrev from_parts : Parts → ShelfCall
from_parts p =
    cond (p.0 == 0) (reads p.1.0 p.1.1.0 p.1.1.1) (cond (p.0 == 1) (creates p.1.0)
    (cond (p.0 == 2) (appends p.1.0 p.1.1.1) (cond (p.0 == 3) (announces p.1.0)
    (cond (p.0 == 4) (finishes p.1.0 its_owner) (finishes p.1.0 anyone)))))

pub from_parts-to_parts : (call : ShelfCall) → from_parts (to_parts call) ≡ call
from_parts-to_parts (reads name at bytes) = refl
from_parts-to_parts (creates name) = refl
from_parts-to_parts (appends name bytes) = refl
from_parts-to_parts (announces name) = refl
from_parts-to_parts (finishes name its_owner) = refl
from_parts-to_parts (finishes name anyone) = refl

abbrev pub calls_code : Coded (List ShelfCall)
calls_code = coded_list (code_by Parts
    (coded× coded_ℕ (coded× (coded_list coded_ℕ) (coded× coded_ℕ (coded_list coded_ℕ))))
    to_parts from_parts from_parts-to_parts)
