use Rattle.std.proofs.Common.{[], ◌∷◌, ◌++◌, get_or, refl, sym, ap, ◌∙◌}
use Rattle.std.specs.Int.{byte_at}
use Rattle.std.proofs.lemmas.List.FromFn.{fill_by_all}
use Rattle.aes_core.proofs.CounterBlocks.{page_high}
use Rattle.aes_core.proofs.counter.page_block.Goals as goal

pub returns : goal.returns
returns c =
    let iv = c.args.iv.now in
    let n = c.args.count in
    let last = c.args.last in
    rw (c.to_be_bytes-n.ensures)
    (ap (λ l. l ++ (byte_at 3 n ∷ byte_at 2 n ∷ byte_at 1 n ∷ []) ++ last ∷ []) (sym (fill_by_all (λ i. get_or iv i 0) iv 12 0 c.told-iv (λ i h. refl)))
    ∙ ap (λ high. iv ++ high ++ last ∷ []) (page_high n))
