use Rattle.std.proofs.Common.{List, sym, ap, ◌∙◌, arith}
use Rattle.std.proofs.lemmas.List.{drop_all}
use Rattle.edk_codec.specs.Entry.{Entry}
use Rattle.keyring_trait.specs.Wrapping.{first_some, unwrap}
use Rattle.raw_aes_keyring.proofs.unwrapping.first_unwrapped.Goals as goal

pub returns : goal.returns
returns c = λ context is.
    sym (c.loop-entry.invariant.left context is ∙ ap (λ (es : List Entry). first_some (unwrap c.args.key.now context) es) (drop_all c.loop-entry.entry-index c.args.entries.now (omega arith)))
