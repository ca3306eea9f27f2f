use Rattle.std.proofs.Common.{refl, arith}
use Rattle.cipher_spec.specs.Aes.{words, key_expansion}
use Rattle.aes_core.proofs.Schedule.{one_more, whole}
use Rattle.aes_core.proofs.key_schedule.key_expansion.Goals as goal

pub words-init : goal.words-init
unfolding words
words-init c = rw (c.copy_from_slice.ensures.after, c.key_words.ensures) (record { done = refl; long = refl })

pub words-preserved : goal.words-preserved
words-preserved c = one_more c.args.key.now c.words.w c.words.i _ (omega arith) (omega arith) c.words.invariant.long c.words.invariant.done
    (rw (c.add_word.ensures, c.changed.ensures) refl)

pub returns : goal.returns
unfolding key_expansion
returns c = whole c.args.key.now c.words.w c.words.i (omega arith) c.words.invariant.long c.words.invariant.done
