-- What a sequential reader's judgement of some bytes is worth, and that numbers are read back as
-- they were written.
use Rattle.std.specs.Prelude.{◌≡◌, ℕ, ◌+◌, ◌<◌, ◌≤◌, List, ◌++◌, length, take, drop}
use Rattle.std.specs.Int.{Width, byte_len}
use Rattle.esdk_fields.specs.declared.faults.Fault.{Fault}
use Rattle.esdk_fields.specs.Place.{Place, start, cut, followed}
use Rattle.esdk_fields.specs.Numbers.{to_big_endian}
use Rattle.esdk_fields.specs.Reading.{Read, Refused, Wanting, FieldReader, number}

-- The judgement of some bytes stands whatever follows them, and it comes with the last byte that it
-- rests on, no earlier and no later.
pub record JudgesInOrder {A : Type 0} (read : FieldReader A) : Type 0 where
  pub fault_stays : (bytes more : List ℕ) (fault : Fault) (at : ℕ)
      → read (start bytes) ≡ Refused fault at → read (start (bytes ++ more)) ≡ Refused fault at
  pub fault_comes : (bytes : List ℕ) (fault : Fault) (at n : ℕ)
      → read (start bytes) ≡ Refused fault at → at ≤ n
      → read (start (take n bytes)) ≡ Refused fault at
  pub no_fault_before : (bytes : List ℕ) (fault : Fault) (at n : ℕ)
      → read (start bytes) ≡ Refused fault at → n < at → read (start (take n bytes)) ≡ Wanting
  pub value_stays : (bytes more : List ℕ) (x : A) (next : Place) → read (start bytes) ≡ Read x next
      → read (start (bytes ++ more)) ≡ Read x (followed next more)
  pub value_comes : (bytes : List ℕ) (x : A) (next : Place) (n : ℕ)
      → read (start bytes) ≡ Read x next → next.at ≤ n
      → read (start (take n bytes)) ≡ Read x (cut n next)
  pub no_value_before : (bytes : List ℕ) (x : A) (next : Place) (n : ℕ)
      → read (start bytes) ≡ Read x next → n < next.at → read (start (take n bytes)) ≡ Wanting
  pub value_within : (bytes : List ℕ) (x : A) (next : Place) → read (start bytes) ≡ Read x next
      → next.at ≤ length bytes
  pub rest : (bytes : List ℕ) (x : A) (next : Place) → read (start bytes) ≡ Read x next
      → next.left ≡ drop next.at bytes

-- each number of this width, written anywhere, is read back, and what follows it is left
abbrev pub ReadsBackNumbers : Width → ℕ → Type 0
ReadsBackNumbers w limit = (n : ℕ) (rest : List ℕ) (at : ℕ) → n < limit
    → number w (record { at = at; left = to_big_endian w n ++ rest })
    ≡ Read n (record { at = at + byte_len w; left = rest })
