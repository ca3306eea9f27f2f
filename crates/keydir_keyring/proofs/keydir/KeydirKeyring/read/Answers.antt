-- The key is the one of the keyring's file, and a fault is counted.
use Rattle.std.proofs.Common.{rules, refl, None, Some}
use Rattle.keyring_trait.specs.declared.ring_refusals.RingError.TheVariants.{KeyringFault}
use Rattle.std.specs.Prelude.{Err}
use Rattle.keydir_keyring.specs.Answers.{KeyIsReadBy}
use Rattle.keydir_keyring.proofs.KeysRead.{key_used, shown_not}
use Rattle.keydir_keyring.proofs.keydir.KeydirKeyring.read.Goals as goal

pub returns-clause-answers : goal.returns-clause-answers
returns-clause-answers g c = search rules

pub returns-clause-key : goal.returns-clause-key
returns-clause-key g c = search rules

pub returns-in_default-clause-answers : goal.returns-in_default-clause-answers
returns-in_default-clause-answers g c = search rules

pub returns-in_default-clause-used : goal.returns-in_default-clause-used
returns-in_default-clause-used g c =
    key_used g.S.Shelf.state c.args.self.now c.self.inside.shelf c.read_key.new.shelf c.self.inside.file c.self.inside.namespace c.self.inside.name c.as_str.result.now None (KeyIsReadBy (Err KeyringFault))
    (search rules) (search rules) (search rules) (search rules) (search rules)
    (shown_not (g.S.Shelf.state c.self.inside.shelf).calls (g.S.Shelf.state c.read_key.new.shelf).calls c.as_str.result.now c.read_key.result c.in_default.not-Some c.read_key.ensures.shown) refl

pub returns-clause-used : goal.returns-clause-used
returns-clause-used g c =
    key_used g.S.Shelf.state c.args.self.now c.self.inside.shelf c.read_key.new.shelf c.self.inside.file c.self.inside.namespace c.self.inside.name c.as_str.result.now (Some c.in-Some.key)
    (KeyIsReadBy c.match-new.result) (search rules) (search rules) (search rules) (search rules) (search rules) c.in-Some.ensures.shown (search rules)
