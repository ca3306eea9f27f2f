-- The algorithm suites, and what a suite says of the format of its messages. Standard: AWS
-- Encryption SDK Specification, "Supported algorithm suites".
use Rattle.std.specs.Prelude.{ℕ, List, replicate, Option, Some, None, if◌then◌else◌, ◌==◌}
use Rattle.suite_table.specs.declared.suite.Suite.{Suite}
use Rattle.suite_table.specs.declared.suite.Suite.TheVariants.{Committing, Uncommitted}

-- "Algorithm Suite ID"
abbrev pub suite_id : Suite → ℕ
suite_id Committing = 0x0478
suite_id Uncommitted = 0x0178

-- the suite that has this id
abbrev pub suite_with : ℕ → Option Suite
suite_with id = if id == 0x0478 then Some Committing else if id == 0x0178 then Some Uncommitted
    else None

-- "Message Format Version"
abbrev pub format_version : Suite → ℕ
format_version Committing = 2
format_version Uncommitted = 1

-- how many bytes a message id has: "Message ID" of that version
abbrev pub id_length : Suite → ℕ
id_length Committing = 32
id_length Uncommitted = 16

-- "IV" of a header that has none of its own, which is one of version 2: zeros
abbrev pub zero_iv : List ℕ
zero_iv = replicate 12 0

-- how many bytes the header has that commit to the data key: "Algorithm Suite Data Length"
abbrev pub data_length : Suite → ℕ
data_length Committing = 32
data_length Uncommitted = 0
