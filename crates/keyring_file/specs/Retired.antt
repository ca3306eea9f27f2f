-- Retiring one raw key of a tree. Nodes have numbers from 1 in the order in which they are met: a
-- node, then those below it, then those behind it.
use Rattle.std.specs.Prelude.{ℕ, suc, ◌+◌, Bool, true, false, Option, Result, Ok, Err}
use Rattle.esdk_fields.specs.declared.refusals.FileRefusal.{FileRefusal}
use Rattle.keyring_trait.specs.Wrapping.{WrapKeyValue}
use Rattle.multi_keyring.specs.Forest.{Forest, Nil, RawThen, HandedThen, MultiThen}
use Rattle.keyring_file.specs.Migrate.{is_at}

-- how many nodes
abbrev pub nodes_in : {P : Type 0} → Forest P → ℕ
nodes_in Nil = 0
nodes_in (RawThen w trees) = suc (nodes_in trees)
nodes_in (HandedThen keyring trees) = suc (nodes_in trees)
nodes_in (MultiThen has members trees) = suc (nodes_in members + nodes_in trees)

-- the key, retired where the test says so
abbrev pub retired_if : Bool → WrapKeyValue → WrapKeyValue
retired_if true w = record w { retired = true }
retired_if false w = w

-- The trees of a row whose first node has this number, but that the raw key of the number that is
-- meant is retired.
abbrev pub retired_from : {P : Type 0} → Option ℕ → (place : ℕ) → Forest P → Forest P
retired_from retire place Nil = Nil
retired_from retire place (RawThen w trees) =
    RawThen (retired_if (is_at place retire) w) (retired_from retire (place + 1) trees)
retired_from retire place (HandedThen keyring trees) =
    HandedThen keyring (retired_from retire (place + 1) trees)
retired_from retire place (MultiThen has members trees) =
    MultiThen has (retired_from retire (place + 1) members)
    (retired_from retire (place + 1 + nodes_in members) trees)

-- the same of the tree of a file, whose node has the number 1
abbrev pub retired_in : {P : Type 0} → Option ℕ → Result (Forest P) FileRefusal
    → Result (Forest P) FileRefusal
retired_in retire (Ok tree) = Ok (retired_from retire 1 tree)
retired_in retire (Err refusal) = Err refusal
