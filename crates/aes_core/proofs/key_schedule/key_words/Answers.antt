use Rattle.std.proofs.Common.{refl}
use Rattle.cipher_spec.specs.Aes.{words}
use Rattle.aes_core.proofs.key_schedule.key_words.Goals as goal

pub returns : goal.returns
unfolding words
returns c = rw (c.key_word.ensures, c.key_word-2.ensures, c.key_word-3.ensures, c.key_word-4.ensures, c.key_word-5.ensures, c.key_word-6.ensures, c.key_word-7.ensures, c.key_word-8.ensures) refl
