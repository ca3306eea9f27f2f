-- The names of files that aren't whole yet.
use Rattle.std.specs.Prelude.{ℕ, List, ◌++◌, codes}
use Rattle.std.specs.Fmt.{decimal}

-- `.esdk-PID-N.part`
abbrev pub part_name : ℕ → ℕ → List ℕ
part_name process number = codes ".esdk-"
    ++ (decimal process ++ (codes "-" ++ (decimal number ++ codes ".part")))
