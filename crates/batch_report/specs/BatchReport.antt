-- The text of a batch's report: a line for each job. It is this library's.
use Rattle.std.specs.Prelude.{ℕ, ◌+◌, Bool, true, false, List, [], ◌∷◌, ◌++◌, codes, Option, Some}
use Rattle.std.specs.Prelude.{None}
use Rattle.keyring_trait.specs.declared.journal.Kind.{Kind}
use Rattle.keyring_trait.specs.declared.journal.Kind.TheVariants.{Seal, Unseal}
use Rattle.keyring_trait.specs.declared.served.Served.{Served}
use Rattle.keyring_trait.specs.declared.served.Served.TheVariants.{Direct, New, Hit}
use Rattle.esdk_report.specs.Lines.{number_word, fault_line, refusal_line, outside_line}
use Rattle.batch_report.specs.declared.job_lines.JobEnd.{JobEnd}
use Rattle.batch_report.specs.declared.job_lines.JobEnd.TheVariants as ends
use Rattle.batch_report.specs.declared.job_lines.JobLine.{JobLine}

-- what a job does, between spaces
abbrev pub job_word : Kind → List ℕ
job_word Seal = codes " encrypt "
job_word Unseal = codes " decrypt "

-- how it ended
abbrev pub end_word : JobEnd → List ℕ
end_word ends.Done = codes "done"
end_word (ends.Refusal refusal) = refusal_line refusal
end_word (ends.Fault fault) = fault_line fault
end_word (ends.Outside outside) = outside_line outside

-- a space, and how its materials were served
abbrev pub served_word : Option Served → List ℕ
served_word None = codes " none"
served_word (Some Direct) = codes " direct"
served_word (Some (New number)) = codes " new" ++ number_word number
served_word (Some (Hit number)) = codes " hit" ++ number_word number

-- job N encrypt|decrypt done|.. new N|hit N|direct|none, and a line feed
unfoldable pub job_line : ℕ → JobLine → List ℕ
job_line number line = codes "job" ++ number_word number ++ job_word line.kind ++ end_word line.end
    ++ served_word line.served ++ 10 ∷ []

-- the lines of these jobs, the first of which has this number
unfoldable pub lines_from : (number : ℕ) → List JobLine → List ℕ
lines_from number [] = []
lines_from number (line ∷ lines) = job_line number line ++ lines_from (number + 1) lines

-- the text of the report of these lines
abbrev pub report_of : List JobLine → List ℕ
report_of lines = lines_from 1 lines

-- the job is done
abbrev pub is_ended_well : JobEnd → Bool
is_ended_well ends.Done = true
is_ended_well (ends.Refusal refusal) = false
is_ended_well (ends.Fault fault) = false
is_ended_well (ends.Outside outside) = false

abbrev pub is_done : JobLine → Bool
is_done line = is_ended_well line.end
