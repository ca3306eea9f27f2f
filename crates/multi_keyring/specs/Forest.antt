-- Trees of keyrings as data: what a multi-keyring is to a contract.
-- AWS Encryption SDK Specification, "Multi-Keyring", Structure.
use Rattle.std.specs.Prelude.{ℕ, ◌+◌, max, Bool}
use Rattle.keyring_trait.specs.Wrapping.{WrapKeyValue}

-- Trees in a row, first to last. A tree is a raw key, which may be retired, a keyring that was
-- handed in, or a multi-keyring; of the latter stand here whether it has a generator, and the row
-- of its members, in which the generator is first.
pub data Forest (P : Type 0) : Type 0 where
  Nil : Forest P
  RawThen : WrapKeyValue → Forest P → Forest P
  HandedThen : P → Forest P → Forest P
  MultiThen : Bool → Forest P → Forest P → Forest P

-- the number of levels of the highest tree
abbrev pub tallest : {P : Type 0} → Forest P → ℕ
tallest Nil = 0
tallest (RawThen key f) = max 1 (tallest f)
tallest (HandedThen keyring f) = max 1 (tallest f)
tallest (MultiThen has members f) = max (tallest members + 1) (tallest f)
