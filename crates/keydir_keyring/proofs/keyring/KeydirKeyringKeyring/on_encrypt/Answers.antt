-- The key that was read wraps over the context.
use Rattle.std.proofs.Common.{rules}
use Rattle.std.specs.Option.{option_copied}
use Rattle.keydir_keyring.specs.Keydir.{keydir_meaning}
use Rattle.keydir_keyring.proofs.Answering.{wraps_by_read, wraps_raw, wraps_unread}
use Rattle.keydir_keyring.proofs.keyring.KeydirKeyringKeyring.on_encrypt.Goals as goal

pub returns-clause-wraps : goal.returns-clause-wraps
returns-clause-wraps g c = search rules

pub returns-clause-answers : goal.returns-clause-answers
returns-clause-answers g c =
    let had = c.in_ok-keyring.ensures.answers in
    wraps_raw g.S.Shelf.state c.args.self.now c.read.new.self _ _ _ _ had.0 c.in_ok-keyring.keyring c.on_encrypt.result had.1 had.2 c.on_encrypt.ensures.wraps c.on_encrypt.ensures.cause

pub returns-clause-used : goal.returns-clause-used
returns-clause-used g c =
    wraps_by_read (keydir_meaning g.S.Shelf.state c.args.self.now).uses (keydir_meaning g.S.Shelf.state c.read.new.self).uses c.in_ok-keyring.keyring c.args.context.now c.args.random.now (option_copied c.args.key) c.on_encrypt.result c.in_ok-keyring.ensures.used c.in_ok-keyring.ensures.active c.on_encrypt.ensures.wraps

pub returns-in_err-keyring-clause-used : goal.returns-in_err-keyring-clause-used
returns-in_err-keyring-clause-used g c =
    wraps_unread (keydir_meaning g.S.Shelf.state c.args.self.now).uses (keydir_meaning g.S.Shelf.state c.read.new.self).uses c.args.context.now c.args.random.now (option_copied c.args.key)
    c.from_residual.result c.in_err-keyring.field-0.0 (search rules) c.in_err-keyring.ensures.used
