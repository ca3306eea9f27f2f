use Rattle.std.proofs.Common.{◌++◌, ◌-◌, List, ℕ, ap, arith, ◌∙◌, append_assoc, length}
use Rattle.std.proofs.lemmas.List.{drop-append-le}
use Rattle.stream_seal.proofs.frame_buffer.seal_behind.Goals as goal

pub returns-clause-sealed : goal.returns-clause-sealed
returns-clause-sealed c =
    rw c.append.ensures.items
    (drop-append-le (24 - length c.args.head.now) c.put_head.new.bytes.items c.seal_text-tag.result (omega (arith, c.requires.text, c.put_head.ensures.len, c.seal_text-tag.ensures.len))
    ∙ ap (λ (l : List ℕ). l ++ c.seal_text-tag.result) c.put_head.ensures.put
    ∙ append_assoc c.args.head.now _ c.seal_text-tag.result
    ∙ ap (λ (l : List ℕ). c.args.head.now ++ l) c.seal_text-tag.ensures.sealed)
