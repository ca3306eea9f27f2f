use Rattle.std.proofs.Common.{◌≡◌, ◌+◌, ◌-◌, ◌*◌, ◌/◌, ◌%◌, ◌<◌, ◌≤◌, [], ◌++◌, length, take, drop, sym, ap, ◌∙◌, arith, append_assoc, length-append, length-drop}
use Rattle.std.proofs.lemmas.List.{length-take-le, take-append-drop, take_all, drop_all}
use Rattle.cipher_spec.specs.Ghash.{ghash_from}
use Rattle.cipher_spec.specs.Gcm.{blocks}
use Rattle.gcm_core.proofs.Hashing.{hasher, hash-both, hash-one}
use Rattle.gcm_core.proofs.absorbing.absorb_two.Goals as goal

pub returns-then-first-eq0 : goal.returns-then-first-eq0
returns-then-first-eq0 c =
    let old = c.args.hash.now in
    let first = c.args.first.now in
    let second = c.args.second.now in
    let k = length first / 16 in
    let whole = take (16 * k) first in
    let next = c.absorb-then-first-eq0 in
    let all : whole ≡ first = take_all (16 * k) first (omega arith) in
    hash-both whole second k old c.absorb.new.hash next.new.hash (length-take-le (16 * k) first (omega arith)) c.absorb.ensures next.ensures ∙ ap (λ l. hasher old.key (ghash_from old.key old.hash (blocks (l ++ second)))) all

pub returns : goal.returns
returns c =
    let old = c.args.hash.now in
    let first = c.args.first.now in
    let second = c.args.second.now in
    let k = length first / 16 in
    let whole = take (16 * k) first in
    let rest = take (length first - 16 * k) (drop (16 * k) first) in
    let taken = c.min-taken.result in
    let begun = take taken second in
    let behind = take (length second - taken) (drop taken second) in
    let next = c.absorb-2 in
    let back : rest ≡ drop (16 * k) first = take_all (length first - 16 * k) (drop (16 * k) first) (omega (arith, length-drop (16 * k) first)) in
    let ahead : behind ≡ drop taken second = take_all (length second - taken) (drop taken second) (omega (arith, length-drop taken second)) in
    let few : taken ≤ length second = omega (arith, c.min-taken.ensures) in
    let size : length (rest ++ begun) ≡ length first % 16 + taken = length-append rest begun ∙ omega (arith, ap length back, length-drop (16 * k) first, length-take-le taken second few) in
    let none : length (rest ++ begun) < 16 → behind ≡ [] = λ h. ahead ∙ drop_all taken second (omega (arith, c.min-taken.ensures)) in
    let step = hash-one (rest ++ begun) behind _ c.absorb.new.hash c.block.new.self next.new.hash (omega arith) (omega (arith, c.min-taken.ensures)) none c.joined.ensures c.block.ensures next.ensures in
    let two : begun ++ behind ≡ second = ap (λ l. begun ++ l) ahead ∙ take-append-drop taken second in
    let all : whole ++ ((rest ++ begun) ++ behind) ≡ first ++ second = ap (λ l. whole ++ l) (append_assoc rest begun behind ∙ ap (λ l. rest ++ l) two ∙ ap (λ l. l ++ second) back) ∙ sym (append_assoc whole (drop (16 * k) first) second) ∙ ap (λ l. l ++ second) (take-append-drop (16 * k) first) in
    hash-both whole ((rest ++ begun) ++ behind) k old c.absorb.new.hash next.new.hash (length-take-le (16 * k) first (omega arith)) c.absorb.ensures step ∙ ap (λ l. hasher old.key (ghash_from old.key old.hash (blocks l))) all
