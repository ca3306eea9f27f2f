-- A call that fails went by the one key, too.
use Rattle.std.proofs.Common.{refl, rules}
use Rattle.std.specs.Option.{option_copied}
use Rattle.keyring_trait.specs.declared.ring_refusals.RingError.TheVariants.{Refused, Memory}
use Rattle.keyring_trait.specs.declared.ring_refusals.RingRefusal.TheVariants.{NoGenerator}
use Rattle.raw_aes_keyring.proofs.OneKey.{wraps_not}
use Rattle.raw_aes_keyring.proofs.keyring.RawAesKeyring.on_encrypt.Goals as goal

pub returns-in-None-clause-used : goal.returns-in-None-clause-used
returns-in-None-clause-used c = wraps_not c.args.self.now c.args.context.now c.args.random.now (option_copied c.args.key) _ (Refused NoGenerator) refl

pub returns-in_err-entry-clause-used : goal.returns-in_err-entry-clause-used
returns-in_err-entry-clause-used c = wraps_not c.args.self.now c.args.context.now c.args.random.now (option_copied c.args.key) c.from_residual.result Memory (search rules)

pub returns-in_err-push-clause-used : goal.returns-in_err-push-clause-used
returns-in_err-push-clause-used c = wraps_not c.args.self.now c.args.context.now c.args.random.now (option_copied c.args.key) c.from_residual-in_err-push.result Memory (search rules)
