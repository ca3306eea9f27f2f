use Rattle.std.proofs.Common.{◌≡◌, ◌%◌, ◌/◌, ap, ◌∙◌, arith}
use Rattle.aes_core.specs.Counters.{last_key_byte, page_state, quad_images}
use Rattle.aes_core.proofs.page.turn.Goals as goal

pub returns-else-page-count-clause-page : goal.returns-else-page-count-clause-page
returns-else-page-count-clause-page c = λ schedule keys has old.
    let page = c.args.page.now in
    let count = c.args.count in
    let k = last_key_byte schedule in
    let s = page_state schedule c.args.iv.now page.number in
    let quad : count % 256 / 32 ≡ count / 32 % 8 = omega arith in
    record {
      is_number = omega arith;
      is_column = old.is_column;
      is_rest = old.is_rest;
      is_images = λ b h. c.quad_images-page.ensures k b s has h (old.is_column b h) ∙ ap (λ q. quad_images k s q b) quad;
    }
