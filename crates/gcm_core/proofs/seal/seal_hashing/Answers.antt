use Rattle.std.proofs.Common.{◌≡◌, ◌++◌, refl, sym, ◌∙◌, length-append}
use Rattle.cipher_spec.specs.Gcm.{cipher_of, sealed, tag_of}
use Rattle.gcm_core.proofs.Counting.{gctr-count_two}
use Rattle.gcm_core.proofs.Hashing.{tag-finished}
use Rattle.gcm_core.proofs.seal.seal_hashing.Goals as goal

pub returns-clause-sealed : goal.returns-clause-sealed
unfolding sealed
returns-clause-sealed c =
    let key = c.args.key.now in
    let iv = c.args.iv.now in
    let first = c.args.first.now in
    let second = c.args.second.now in
    let cipher = c.encipher_and_absorb.new.text in
    let enciphered : cipher ≡ cipher_of key iv c.args.text.now = c.encipher_and_absorb.ensures.enciphered ∙ gctr-count_two key iv c.args.text.now c.told-iv in
    let tag : c.finished_tag.result ≡ tag_of key iv (first ++ second) cipher = tag-finished key iv (first ++ second) cipher _ c.args.hash.now c.encipher_and_absorb.new.hash c.finished_tag.result c.requires.begun c.encipher_and_absorb.ensures.hashed (sym (length-append first second)) (c.finished_tag.ensures.tag key iv c.requires.mask) in
    rw (tag, enciphered) refl
