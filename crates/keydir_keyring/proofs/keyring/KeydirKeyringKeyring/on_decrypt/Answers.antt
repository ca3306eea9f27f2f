-- The key that was read opens the entries.
use Rattle.std.proofs.Common.{rules}
use Rattle.keydir_keyring.specs.Keydir.{keydir_meaning}
use Rattle.keydir_keyring.proofs.Answering.{finds_by_read, finds_raw, finds_unread}
use Rattle.keydir_keyring.proofs.keyring.KeydirKeyringKeyring.on_decrypt.Goals as goal

pub returns-clause-opens : goal.returns-clause-opens
returns-clause-opens g c = search rules

pub returns-clause-answers : goal.returns-clause-answers
returns-clause-answers g c =
    let had = c.in_ok-keyring.ensures.answers in
    finds_raw g.S.Shelf.state c.args.self.now c.read.new.self _ _ had.0 c.in_ok-keyring.keyring c.on_decrypt.new.self c.on_decrypt.result had.1 had.2 c.on_decrypt.ensures.opens c.on_decrypt.ensures.cause

pub returns-clause-used : goal.returns-clause-used
returns-clause-used g c =
    finds_by_read (keydir_meaning g.S.Shelf.state c.args.self.now).uses (keydir_meaning g.S.Shelf.state c.read.new.self).uses c.in_ok-keyring.keyring c.on_decrypt.new.self c.args.context.now c.args.entries.now c.on_decrypt.result c.in_ok-keyring.ensures.used c.on_decrypt.ensures.opens
    c.on_decrypt.ensures.cause

pub returns-in_err-keyring-clause-used : goal.returns-in_err-keyring-clause-used
returns-in_err-keyring-clause-used g c =
    finds_unread (keydir_meaning g.S.Shelf.state c.args.self.now).uses (keydir_meaning g.S.Shelf.state c.read.new.self).uses c.args.context.now c.args.entries.now c.from_residual.result
    c.in_err-keyring.field-0.0 (search rules) c.in_err-keyring.ensures.used
