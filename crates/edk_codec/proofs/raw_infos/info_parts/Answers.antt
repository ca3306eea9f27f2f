use Rattle.std.proofs.Common.{◌≡◌, List, ℕ, ◌++◌, ◌+◌, length, take, sym, ap, ◌∙◌, arith}
use Rattle.edk_codec.proofs.Infos.{lengths, raw_info_parts, length-raw_info, name_of_raw_info, lengths_of_raw_info, same_bytes, other_bytes}
use Rattle.edk_codec.proofs.raw_infos.info_parts.Goals as goal
use Rattle.edk_codec.proofs.raw_infos.info_parts.Goals.{then-info-lt20-via-then-info-lt20, then-info-lt20-via-else-info-lt20+then-info-name, then-ne-via-then-ne, then-ne-via-else-ne+then-ne-2}

pub returns-then-info-lt20-clause-none : goal.returns-then-info-lt20-clause-none
returns-then-info-lt20-clause-none c = λ iv twelve e.
    let long : length c.args.info.now ≡ length c.args.name.now + 20 = omega (arith, ap length e, length-raw_info c.args.name.now iv) in
    elim c.then-info-lt20.branch [
      | then-info-lt20-via-then-info-lt20 w ↦ omega (arith, w.if-info-lt20.true)
      | then-info-lt20-via-else-info-lt20+then-info-name w ↦ w.if-info-name.true (omega arith)
    ]

pub returns-then-ne-clause-none : goal.returns-then-ne-clause-none
returns-then-ne-clause-none c = λ iv twelve e.
    let name : c.split_at.result.0.now ≡ c.args.name.now = c.split_at.ensures.front ∙ name_of_raw_info c.args.info.now c.args.name.now iv e in
    let between : c.split_at-2.result.0.now ≡ lengths = c.split_at-2.ensures.front ∙ ap (take 8) c.split_at.ensures.back ∙ lengths_of_raw_info c.args.info.now c.args.name.now iv e in
    elim c.then-ne.branch [
      | then-ne-via-then-ne w ↦ other_bytes c.ne.result _ _ c.ne.ensures w.if-ne.true name
      | then-ne-via-else-ne+then-ne-2 w ↦ other_bytes w.ne-else-ne.result _ _ w.ne-else-ne.ensures w.if-ne-2.true (between ∙ sym w.as_slice.ensures)
    ]

pub returns-clause-found : goal.returns-clause-found
returns-clause-found c =
    let name : c.split_at.result.0.now ≡ c.args.name.now = same_bytes c.ne.result _ _ c.ne.ensures c.if-ne.false in
    let between : c.split_at-2.result.0.now ≡ lengths = same_bytes c.ne-else-ne.result _ _ c.ne-else-ne.ensures c.if-ne-2.false ∙ c.as_slice.ensures in
    c.split_at.ensures.by_index.0
    ∙ ap (λ (front : List ℕ). front ++ c.split_at.result.1.now) name
    ∙ ap (λ (rest : List ℕ). c.args.name.now ++ rest) (c.split_at-2.ensures.by_index.0 ∙ ap (λ (l : List ℕ). l ++ c.split_at-2.result.1.now) between ∙ ap (λ (l : List ℕ). lengths ++ l) (sym c.array_of.ensures))
    ∙ sym (raw_info_parts c.args.name.now c.array_of.result)
