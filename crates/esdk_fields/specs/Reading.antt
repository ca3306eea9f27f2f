-- Reading fields in order: what a format's table says, line by line.
use Rattle.std.specs.Prelude.{ℕ, zero, suc, List, [], ◌∷◌, length, take, Bool, true, false, nat_lt}
use Rattle.std.specs.Prelude.{if◌then◌else◌, Option, Some, None}
use Rattle.std.specs.Int.{Width, byte_len}
use Rattle.esdk_fields.specs.declared.faults.Fault.{Fault}
use Rattle.esdk_fields.specs.Place.{Place, past}
use Rattle.esdk_fields.specs.Numbers.{from_big_endian}

-- A value was read, and the next field begins there. Or the field that ends at that offset has that
-- fault. Or more bytes are wanted.
pub data Reading (A : Type 0) : Type 0 where
  Read : (value : A) (next : Place) → Reading A
  Refused : (fault : Fault) (at : ℕ) → Reading A
  Wanting : Reading A

-- what is read from each place
abbrev pub FieldReader : Type 0 → Type 0
FieldReader A = Place → Reading A

-- where a value was read, the reader that it chooses goes on
abbrev pub then_read : {A B : Type 0} → Reading A → (A → FieldReader B) → Reading B
then_read (Read x next) f = f x next
then_read (Refused fault at) f = Refused fault at
then_read Wanting f = Wanting

infixl 10 ◌>>=◌
abbrev pub ◌>>=◌ : {A B : Type 0} → FieldReader A → (A → FieldReader B) → FieldReader B
(m >>= f) p = then_read (m p) f

-- one after the other
infixl 10 ◌>>◌
abbrev pub ◌>>◌ : {A B : Type 0} → FieldReader A → FieldReader B → FieldReader B
(m >> k) p = then_read (m p) (λ _. k)

-- this value, and no byte is read
abbrev pub done : {A : Type 0} → A → FieldReader A
done x p = Read x p

-- n bytes, and what they mean
abbrev pub field : {A : Type 0} → (List ℕ → A) → ℕ → FieldReader A
field means n p = if nat_lt (length p.left) n then Wanting
    else Read (means (take n p.left)) (past n p)

-- n bytes as they are
abbrev pub bytes : ℕ → FieldReader (List ℕ)
bytes n = field (λ b. b) n

-- a big-endian number
abbrev pub number : Width → FieldReader ℕ
number w = field (from_big_endian w) (byte_len w)

-- the offset
abbrev pub here : FieldReader ℕ
here p = Read p.at p

-- the field that ends here has this fault, if the test says so
abbrev pub refuse_if : Bool → Fault → FieldReader (Unit {0})
refuse_if true fault p = Refused fault p.at
refuse_if false fault p = Read tt p

-- the field that ends here has this fault, if there is one
abbrev pub judge : Option Fault → FieldReader (Unit {0})
judge (Some fault) p = Refused fault p.at
judge None p = Read tt p

-- this many, one after the other
unfoldable pub repeat : {A : Type 0} → FieldReader A → ℕ → FieldReader (List A)
repeat read zero = done []
repeat read (suc n) = do
  first ← read
  others ← repeat read n
  done (first ∷ others)

-- the fault, if there is one
abbrev pub reading_fault : {A : Type 0} → Reading A → Option Fault
reading_fault (Read x next) = None
reading_fault (Refused fault at) = Some fault
reading_fault Wanting = None

-- the value, if it was read
abbrev pub value_of : {A : Type 0} → Reading A → Option A
value_of (Read x next) = Some x
value_of (Refused fault at) = None
value_of Wanting = None
