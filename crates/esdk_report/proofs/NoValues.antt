-- A line without values.
use Rattle.std.proofs.Common.{◌≡◌, ℕ, List, [], ◌++◌, sym}
use Rattle.std.proofs.lemmas.List.{append-nil}

pub no_values : (line : List ℕ) → line ≡ line ++ []
no_values line = sym (append-nil line)
