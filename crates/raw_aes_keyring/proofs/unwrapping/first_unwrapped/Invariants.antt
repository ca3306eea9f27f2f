-- No entry before the index opens, and the opener is the one that was made.
use Rattle.std.proofs.Common.{◌≡◌, List, drop}
use Rattle.context_codec.specs.Context.{KeyValue, ctx_text}
use Rattle.keyring_trait.specs.Wrapping.{first_some, unwrap}
use Rattle.raw_aes_keyring.proofs.unwrapping.first_unwrapped.Given as goal

abbrev pub invariant-loop-entry : goal.invariant-loop-entry
invariant-loop-entry l = record {
  opener : l.opener ≡ record { key = l.key.key; aad = l.aad };
  left : (c : List KeyValue) → l.aad ≡ ctx_text c → first_some (unwrap l.key c) l.entries ≡ first_some (unwrap l.key c) (drop l.entry-index l.entries);
}
