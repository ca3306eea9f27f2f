use Rattle.std.proofs.Common.{◌≡◌, ◌+◌, ◌-◌, ◌≤◌, true, length, take}
use Rattle.esdk_fields.specs.Counts.{RoseBy}
use Rattle.esdk_base.specs.Shelf.{is_missing}
use Rattle.whole_input.specs.FileReads.{ReadsRow}
use Rattle.keydir_keyring.specs.Reading.{IsFilled}
use Rattle.keydir_keyring.proofs.KeysRead.{RowGoes}
use Rattle.keydir_keyring.proofs.reading.read_front.Given as goal

abbrev pub invariant-loop-count : goal.invariant-loop-count
invariant-loop-count g l = record {
  filled : IsFilled (g.S.Shelf.state l.fn.shelf).files l.file l.room l.count;
  read : ReadsRow l.file 0 (g.S.Shelf.state l.fn.shelf).calls (g.S.Shelf.state l.shelf).calls (take l.count l.room);
  shown : RowGoes (g.S.Shelf.state l.fn.shelf).calls (g.S.Shelf.state l.shelf).calls l.file l.room l.count;
  there : is_missing (g.S.Shelf.state l.fn.shelf).files l.file ≡ true → l.count ≡ 0;
  given : RoseBy l.count (g.S.Shelf.state l.fn.shelf).given (g.S.Shelf.state l.shelf).given;
  most : (g.S.Shelf.state l.shelf).given ≤ (g.S.Shelf.state l.fn.shelf).given + l.count;
  files : (g.S.Shelf.state l.shelf).files ≡ (g.S.Shelf.state l.fn.shelf).files;
  faults : (g.S.Shelf.state l.shelf).faults ≡ (g.S.Shelf.state l.fn.shelf).faults;
}

abbrev pub decreases-loop-count : goal.decreases-loop-count
decreases-loop-count g l = length l.initial.room - l.count
