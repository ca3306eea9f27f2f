-- A name of a memory shelf.
use Rattle.std.specs.Prelude.{ℕ, List}
use Rattle.std.specs.declared.option.Option.{Option}

-- The name, the bytes that it holds where it is there, and how many bytes may be.
pub record MemFileState : Type 0 where
  pub name : List ℕ
  pub held : Option (List ℕ)
  pub room : ℕ
