-- Lines, one after the other.
use Rattle.std.proofs.Common.{◌≡◌, ◌<◌, ◌≤◌, ◌+◌, ℕ, List, ◌∷◌, ◌++◌, length, drop, get_or, sym, ap, ◌∙◌, append_assoc, append-nil}
use Rattle.std.proofs.lemmas.List.{drop_all, drop_more}
use Rattle.batch_report.specs.declared.job_lines.JobLine.{JobLine}
use Rattle.batch_report.specs.BatchReport.{job_line, lines_from}

-- the line at the index, and those behind it
pub line_more : (lines : List JobLine) (i number : ℕ) (line : JobLine) (text : List ℕ) → i < length lines → line ≡ get_or lines i line
    → text ++ lines_from number (drop i lines) ≡ (text ++ job_line number line) ++ lines_from (number + 1) (drop (i + 1) lines)
unfolding lines_from
line_more lines i number line text lt is =
    ap (λ left. text ++ lines_from number left) (drop_more lines i line lt ∙ ap (λ x. x ∷ drop (i + 1) lines) (sym is))
    ∙ sym (append_assoc text (job_line number line) (lines_from (number + 1) (drop (i + 1) lines)))

pub lines_done : (lines : List JobLine) (i number : ℕ) (text : List ℕ) → length lines ≤ i → text ++ lines_from number (drop i lines) ≡ text
unfolding lines_from
lines_done lines i number text past = ap (λ left. text ++ lines_from number left) (drop_all i lines past) ∙ append-nil text
