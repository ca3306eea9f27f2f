-- The objects of a real run, by what they tell: what went through them, and not what they hold.
use Rattle.std.specs.Prelude.{List, None, Option, Some}
use Rattle.esdk_base.specs.Streams.{ClockState, ShelfState, SinkState}
use Rattle.keydir_keyring.specs.Keydir.{KeydirValue, keydir_meaning}
use Rattle.keyring_file.specs.declared.plugs.Plug.{Plug}
use Rattle.multi_keyring.specs.declared.tree.Node.{Node}
use Rattle.esdk_run.specs.Objects.{Objects, objects}
use Rattle.esdk_run.specs.Trees.{Trees, trees_of}
use Rattle.esdk_system.specs.FileShelf.{FileShelfState}
use Rattle.esdk_system.specs.RngEntropy.{RngEntropyState}
use Rattle.esdk_system.specs.StdSink.{StdSinkState}
use Rattle.esdk_system.specs.StdSource.{StdSourceState}
use Rattle.esdk_system.specs.SystemClock.{SystemClockState}

-- the files of the folder: the calls that were made, and not which files lie there
abbrev pub real_shelf : FileShelfState → ShelfState
real_shelf shelf = record {
  files = None;
  given = shelf.given;
  faults = shelf.faults;
  calls = shelf.calls;
}

-- standard input, standard output, the files of the folder, the system's generator, and a report of
-- this state
abbrev pub real_objects : {R W : Type 0} → StdSourceState R → StdSinkState W → FileShelfState
    → RngEntropyState → SinkState → Objects
real_objects input output shelf entropy report = objects
    (record {
      left = None;
      given = input.given;
      faults = input.faults;
      came = input.came;
      ended = input.ended;
    })
    (record { written = Some output.written; faults = output.faults })
    (real_shelf shelf)
    (record { to_come = None; faults = entropy.faults; drawn = entropy.drawn })
    report

-- the system's clock
abbrev pub real_clock : SystemClockState → ClockState
real_clock clock = record { moments = None; given = clock.given }

-- The keyring files that may name the keyring `keydir`, whose key stands in a file of the folder,
-- and the tree that is given back of one.
abbrev pub real_trees : List (Plug (KeydirValue FileShelfState))
    → Option (Node (KeydirValue FileShelfState)) → Trees
real_trees plugs tree = trees_of (keydir_meaning real_shelf) plugs tree
