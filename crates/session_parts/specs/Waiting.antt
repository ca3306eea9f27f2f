-- Bytes that wait until there is room for them.
use Rattle.std.specs.Prelude.{◌≡◌, ℕ, List, ◌++◌, length, take, drop, min}

-- A front of these is.
pub record GathersFront (old new bytes : List ℕ) : Type 0 where
  pub front : List ℕ
  pub rest : List ℕ
  pub cut : bytes ≡ front ++ rest
  pub gathered : new ≡ old ++ front

-- So many of those that wait stand at the room's front, as many as it has room for; the others wait
-- still, and the rest of the room is as it was.
pub record HandsOut (old room : List ℕ) (count : ℕ) (new after : List ℕ) : Type 0 where
  pub many : count ≡ min (length old) (length room)
  pub written : after ≡ take count old ++ drop count room
  pub left : new ≡ drop count old
