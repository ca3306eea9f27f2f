use Rattle.std.proofs.Common.{inr, arith}
use Rattle.keydir_keyring.proofs.Keys.{key_read, none_read, unread}
use Rattle.keydir_keyring.proofs.KeysRead.{shown_failed, shown_key, shown_none}
use Rattle.keydir_keyring.proofs.reading.read_key.Goals as goal

pub returns-in_default-clause-key : goal.returns-in_default-clause-key
returns-in_default-clause-key g c = unread _ _ c.args.file.now c.read_front.result c.in_default.not-Ok c.read_front.ensures.cause c.read_front.ensures.unread

pub returns-then-count-ne-KEY_LENGTH-clause-key : goal.returns-then-count-ne-KEY_LENGTH-clause-key
returns-then-count-ne-KEY_LENGTH-clause-key g c =
    inr (none_read _ _ c.args.file.now c.read_front.new.room c.in-Ok.count (omega (arith, c.read_front.auto.room)) c.if-count-ne-KEY_LENGTH.true c.in-Ok.ensures.front c.in-Ok.ensures.read
    c.in-Ok.ensures.gave)

pub returns-clause-key : goal.returns-clause-key
returns-clause-key g c =
    key_read _ _ c.args.file.now c.read_front.new.room c.key_of.result c.in-Ok.count (omega (arith, c.read_front.auto.room)) c.if-count-ne-KEY_LENGTH.false c.in-Ok.ensures.front
    c.in-Ok.ensures.read c.in-Ok.ensures.gave c.in-Ok.ensures.cause c.key_of.ensures

pub returns-in_default-clause-shown : goal.returns-in_default-clause-shown
returns-in_default-clause-shown g c = shown_failed _ _ c.args.file.now c.read_front.new.room c.read_front.result c.in_default.not-Ok c.read_front.ensures.shown

pub returns-then-count-ne-KEY_LENGTH-clause-shown : goal.returns-then-count-ne-KEY_LENGTH-clause-shown
returns-then-count-ne-KEY_LENGTH-clause-shown g c =
    shown_none _ _ c.args.file.now c.read_front.new.room c.in-Ok.count c.if-count-ne-KEY_LENGTH.true c.in-Ok.ensures.shown

pub returns-clause-shown : goal.returns-clause-shown
returns-clause-shown g c =
    shown_key _ _ c.args.file.now c.read_front.new.room c.key_of.result c.in-Ok.count (omega (arith, c.read_front.auto.room)) c.if-count-ne-KEY_LENGTH.false c.key_of.ensures c.in-Ok.ensures.shown
