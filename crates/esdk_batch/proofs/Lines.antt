-- The lines of jobs that ended, one after the other.
use Rattle.std.proofs.Common.{◌≡◌, List, [], ◌∷◌, ◌++◌, map, sym, ap, ◌∙◌, append_assoc}
use Rattle.std.proofs.lemmas.List.{map-append}
use Rattle.batch_report.specs.declared.job_lines.JobLine.{JobLine}
use Rattle.esdk_batch.specs.declared.progress.Progress.{Progress}
use Rattle.esdk_batch.specs.declared.progress.Progress.TheVariants.{Ended}

pub line_more : (whole left rest : List Progress) (lines more : List JobLine) (one : Progress) (line : JobLine) → whole ≡ map Ended lines ++ left → left ≡ one ∷ rest → one ≡ Ended line
    → more ≡ lines ++ line ∷ [] → whole ≡ map Ended more ++ rest
line_more whole left rest lines more one line is next ended pushed =
    is ∙ ap (λ l. map Ended lines ++ l) (next ∙ ap (λ o. o ∷ rest) ended)
    ∙ sym (append_assoc (map Ended lines) (Ended line ∷ []) rest)
    ∙ ap (λ l. l ++ rest) (sym (map-append Ended lines (line ∷ [])))
    ∙ ap (λ l. map Ended l ++ rest) (sym pushed)
