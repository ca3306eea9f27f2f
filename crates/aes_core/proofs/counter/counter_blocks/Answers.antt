use Rattle.std.proofs.Common.{◌++◌, ℕ, ◌∙◌, arith}
use Rattle.std.specs.Int.{w32, to_be_bytes}
use Rattle.cipher_spec.specs.Gcm.{counter}
use Rattle.aes_core.proofs.CounterBlocks.{counter-later, eight_values}
use Rattle.aes_core.proofs.counter.counter_blocks.Goals as goal

pub returns : goal.returns
returns c =
    let iv = c.args.iv.now in
    let first = c.args.first in
    let later = λ (k : ℕ). counter-later iv first k c.told-iv (omega arith) in
    eight_values (counter (iv ++ to_be_bytes w32 first)) _ _ _ _ _ _ _ _ c.counter_block.ensures (c.counter_block-2.ensures ∙ later 1) (c.counter_block-3.ensures ∙ later 2) (c.counter_block-4.ensures ∙ later 3) (c.counter_block-5.ensures ∙ later 4) (c.counter_block-6.ensures ∙ later 5) (c.counter_block-7.ensures ∙ later 6) (c.counter_block-8.ensures ∙ later 7)
