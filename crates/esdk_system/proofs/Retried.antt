-- Reads and writes, one after the other, of which all but the last took nothing.
use Rattle.std.proofs.Common.{ℕ, List, ◌++◌, take, None, Some, Ok, Err, refl, sym, ap, ◌∙◌}
use Rattle.std.specs.Prelude.{Option, Result}
use Rattle.std.specs.Io.KnownBytes.{Keeps, ReadConsumes, WriteAppends}

pub keeps_itself : (left : Option (List ℕ)) → Keeps left left
keeps_itself None = tt
keeps_itself (Some bytes) = refl

pub keeps_on : (first then last : Option (List ℕ)) → Keeps first then → Keeps then last → Keeps first last
keeps_on None then last kept more = tt
keeps_on (Some bytes) None last kept more = absurd kept
keeps_on (Some bytes) (Some same) None kept more = absurd more
keeps_on (Some bytes) (Some same) (Some still) kept more = more ∙ kept

-- what the last read took, all of them took
pub reads_later : {E : Type 0} (first then last : Option (List ℕ)) (ended : Result ℕ E) (out : List ℕ) → Keeps first then → ReadConsumes then last ended out → ReadConsumes first last ended out
reads_later None then last (Ok n) out kept read = (tt, read.1)
reads_later (Some bytes) None last (Ok n) out kept read = absurd kept
reads_later (Some bytes) (Some same) None (Ok n) out kept read = absurd (read.0)
reads_later (Some bytes) (Some same) (Some left) (Ok n) out kept read = (sym kept ∙ read.0, read.1)
reads_later first then last (Err error) out kept read = keeps_on first then last kept read

-- what the last write appended, all of them appended
pub writes_later : {E : Type 0} (first then last : Option (List ℕ)) (ended : Result ℕ E)
    (buf : List ℕ) → Keeps first then → WriteAppends then last ended buf
    → WriteAppends first last ended buf
writes_later None then last (Ok n) buf kept wrote = tt
writes_later (Some bytes) None last (Ok n) buf kept wrote = absurd kept
writes_later (Some bytes) (Some same) None (Ok n) buf kept wrote = absurd wrote
writes_later (Some bytes) (Some same) (Some held) (Ok n) buf kept wrote =
    wrote ∙ ap (λ xs. xs ++ take n buf) kept
writes_later first then last (Err error) buf kept wrote = keeps_on first then last kept wrote
