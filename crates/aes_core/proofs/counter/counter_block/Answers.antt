use Rattle.std.proofs.Common.{◌++◌, get_or, refl, sym, ap}
use Rattle.std.specs.Int.{w32, to_be_bytes}
use Rattle.std.proofs.lemmas.List.FromFn.{fill_by_all}
use Rattle.aes_core.proofs.counter.counter_block.Goals as goal

pub returns : goal.returns
returns c =
    let iv = c.args.iv.now in
    rw (c.to_be_bytes-n.ensures) (ap (λ l. l ++ to_be_bytes w32 c.args.count) (sym (fill_by_all (λ i. get_or iv i 0) iv 12 0 c.told-iv (λ i h. refl))))
