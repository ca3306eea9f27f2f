-- The law that carries the order of judgement: fields are read from left to right, and each is
-- judged at its last byte.
use Rattle.std.specs.Prelude.{◌≡◌, ℕ, ◌-◌, ◌≤◌, drop, nat_le, if◌then◌else◌}
use Rattle.esdk_fields.specs.Place.{Place, cut}
use Rattle.esdk_fields.specs.Reading.{Reading, Read, Refused, Wanting, FieldReader}

-- what is known of the reading when only the bytes before offset n have come
abbrev pub cut_reading : {A : Type 0} → ℕ → Reading A → Reading A
cut_reading n (Read x next) = if nat_le next.at n then Read x (cut n next) else Wanting
cut_reading n (Refused fault at) = if nat_le at n then Refused fault at else Wanting
cut_reading n Wanting = Wanting

-- the reading ends at this offset or later
abbrev pub EndsFrom : {A : Type 0} → ℕ → Reading A → Type 0
EndsFrom at (Read x next) = at ≤ next.at
EndsFrom at (Refused fault end) = at ≤ end
EndsFrom at Wanting = Unit {0}

-- what is left after a value is what stood there before
abbrev pub KeepsRest : {A : Type 0} → Place → Reading A → Type 0
KeepsRest p (Read x next) = next.left ≡ drop (next.at - p.at) p.left
KeepsRest p (Refused fault at) = Unit {0}
KeepsRest p Wanting = Unit {0}

-- Reading goes from left to right; it judges each field at its last byte, no earlier and no later;
-- and it leaves the bytes that follow alone.
pub record IsSequential {A : Type 0} (read : FieldReader A) : Type 0 where
  pub onward : (p : Place) → EndsFrom p.at (read p)
  pub cuts : (n : ℕ) (p : Place) → p.at ≤ n → read (cut n p) ≡ cut_reading n (read p)
  pub rest : (p : Place) → KeepsRest p (read p)
