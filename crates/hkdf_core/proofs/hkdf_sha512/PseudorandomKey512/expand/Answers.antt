-- Each turn adds one output block; the turns reach the end of `out`.
use Rattle.std.proofs.Common.{◌≡◌, ◌++◌, [], ◌+◌, ◌<◌, ◌≤◌, length, take, ◌*◌, ap, refl, sym, ◌∙◌, arith}
use Rattle.std.specs.Int.{div_ceil}
use Rattle.std.proofs.lemmas.Grind.{div_ceil_times}
use Rattle.std.proofs.lemmas.List.{take_all}
use Rattle.sha2.specs.Sha512.{sha512}
use Rattle.sha2.proofs.Facts512.{length-sha512}
use Rattle.cipher_spec.specs.Hmac.{hmac}
use Rattle.cipher_spec.specs.Hkdf.{expand, output_block, output_blocks}
use Rattle.cipher_spec.proofs.HmacLemmas.{length-hmac}
use Rattle.cipher_spec.proofs.HkdfLemmas.{length-output_blocks, output_block_next, output_blocks_next, written_more}
use Rattle.hkdf_core.proofs.hkdf_sha512.PseudorandomKey512.expand.Goals as goal

pub each-init : goal.each-init
unfolding output_block output_blocks
each-init c = record { within = omega arith; held = refl; done = sym (take_all (length c.args.out.now) [] (omega arith)) }

pub each-preserved : goal.each-preserved
unfolding hmac
each-preserved c =
    let blocks = output_blocks sha512 128 c.args.self.now c.args.info.now c.each.i in
    let next = output_block sha512 128 c.args.self.now c.args.info.now (c.each.i + 1) in
    let is : c.output_block-last.result ≡ next =
    c.output_block-last.ensures ∙ rw c.each.invariant.held
    (output_block_next sha512 128 c.args.self.now c.args.info.now _ c.each.i refl) in
    let long : length c.output_block-last.result ≡ 64 =
    ap length c.output_block-last.ensures ∙ length-hmac sha512 64 length-sha512 128 _ _ in
    let before : length blocks ≡ 64 * c.each.i =
    length-output_blocks sha512 64 length-sha512 128 _ _ c.each.i ∙ omega arith in
    let enough = div_ceil_times (length c.args.out.now) 64 (omega arith) in
    let room : 64 * c.each.i < length c.each.out = omega (arith, enough, c.div_ceil-i-end.ensures) in
    let at : 64 * (c.each.i + 1) ≡ 64 * c.each.i + 64 = omega arith in
    let more : take (64 * c.each.i + 64) c.put.new.out ≡ take (length c.each.out) (blocks ++ c.output_block-last.result) =
    written_more c.each.out c.put.new.out blocks c.output_block-last.result (64 * c.each.i) 64 before room long
    c.each.invariant.done (rw long at c.put.ensures) in
    record {
      within = omega arith;
      held = take_all 64 c.output_block-last.result (omega arith) ∙ is;
      done = rw (at, more, c.put.auto.out, is, output_blocks_next) refl;
    }

pub returns : goal.returns
unfolding expand
returns c =
    let enough = div_ceil_times (length c.args.out.now) 64 (omega arith) in
    let turns : c.each.i ≡ div_ceil (length c.args.out.now) 64 = omega (arith, c.div_ceil-i-end.ensures) in
    let all : length c.each.out ≤ 64 * c.each.i = omega (arith, enough) in
    sym (take_all (64 * c.each.i) c.each.out all) ∙ c.each.invariant.done ∙ rw (c.each.auto.out, turns) refl
