use Rattle.std.proofs.Common.{◌++◌, Some, true, false, sym, ap, ◌∙◌, length-append}
use Rattle.gcm_core.proofs.Counting.{gctr-count_two}
use Rattle.gcm_core.proofs.Hashing.{tag-finished}
use Rattle.gcm_core.proofs.Opening.{opened-same}
use Rattle.gcm_core.proofs.seal.open_hashing.Goals as goal

pub returns-then-not-same-clause-answer : goal.returns-then-not-same-clause-answer
returns-then-not-same-clause-answer c =
    let key = c.args.key.now in
    let iv = c.args.iv.now in
    let first = c.args.first.now in
    let second = c.args.second.now in
    let right = c.finished_tag-right.result in
    let tag = tag-finished key iv (first ++ second) c.args.text.now _ c.args.hash.now c.absorb.new.hash right c.requires.begun c.absorb.ensures (sym (length-append first second)) (c.finished_tag-right.ensures.tag key iv c.requires.mask) in
    opened-same key iv (first ++ second) c.args.text.now c.args.tag.now right false tag c.if-not-same.ensures

pub returns-clause-answer : goal.returns-clause-answer
returns-clause-answer c =
    let key = c.args.key.now in
    let iv = c.args.iv.now in
    let first = c.args.first.now in
    let second = c.args.second.now in
    let cipher = c.args.text.now in
    let right = c.finished_tag-right.result in
    let tag = tag-finished key iv (first ++ second) cipher _ c.args.hash.now c.absorb.new.hash right c.requires.begun c.absorb.ensures (sym (length-append first second)) (c.finished_tag-right.ensures.tag key iv c.requires.mask) in
    opened-same key iv (first ++ second) cipher c.args.tag.now right true tag c.if-not-same.ensures ∙ ap Some (sym (c.gctr.ensures ∙ gctr-count_two key iv cipher c.told-iv))
