-- A writer in the midst of some bytes: what it took so far was noted, and is a front of them.
use Rattle.std.proofs.Common.{◌≡◌, ◌∙◌, ℕ, List, ◌++◌, length, take, Option, sym, ap}
use Rattle.std.proofs.Math.Seq.{take-append_seam}
use Rattle.std.specs.Io.KnownBytes.{Appends}

-- The writer took `taken`, which was noted, and `rest` is still to be written.
pub record Halfway (held held' : Option (List ℕ)) (noted noted' bytes rest : List ℕ) : Type 0 where
  pub taken : List ℕ
  pub all : taken ++ rest ≡ bytes
  pub seen : noted' ≡ noted ++ taken
  pub gained : Appends held held' taken

pub front_is_noted : (held held' : Option (List ℕ)) (noted noted' bytes rest : List ℕ)
    → Halfway held held' noted noted' bytes rest → (n : ℕ) × (noted' ≡ noted ++ take n bytes)
front_is_noted held held' noted noted' bytes rest half = (
  length half.taken,
  half.seen ∙ ap (λ xs. noted ++ xs)
      (sym (take-append_seam half.taken rest) ∙ ap (λ xs. take (length half.taken) xs) half.all),
)
