-- What a fill does to the bytes that an entropy has to come.
use Rattle.std.specs.Prelude.{ℕ, List, Result, MatchResult}
use Rattle.std.specs.declared.option.Option.{Option}
use Rattle.std.specs.Io.KnownBytes.{Consumes, Keeps}

-- Ok filled all of out with the first of the told bytes and took them away, and an error took none
abbrev pub FillConsumes : {T E : Type 0} → Option (List ℕ) → Option (List ℕ) → Result T E → List ℕ
    → Type 0
FillConsumes old new result out =
    MatchResult result (λ _. Consumes old new out) (λ _. Keeps old new)
