use Rattle.std.proofs.Common.{arith}
use Rattle.keydir_keyring.proofs.Fronts.{filled_by}
use Rattle.keydir_keyring.proofs.Rows.{reads_by}
use Rattle.keydir_keyring.proofs.reading.read_more.Goals as goal

pub returns-clause-filled : goal.returns-clause-filled
returns-clause-filled g c = filled_by _ c.args.file.now c.args.room.now c.read_at.new.out _ c.args.count c.read_at.result c.read_at.ensures.bound c.read_at.ensures.bytes

pub returns-clause-read : goal.returns-clause-read
returns-clause-read g c =
    reads_by _ _ c.args.file.now c.args.room.now c.read_at.new.out _ c.args.count c.read_at.result (omega (arith, c.requires)) c.read_at.ensures.bound c.read_at.ensures.calls
