use Rattle.std.proofs.Common.{◌++◌, List, ℕ, drop, subst, sym, ◌∙◌, ap}
use Rattle.std.proofs.lemmas.List.{take-append-drop}
use Rattle.esdk_gen.specs.Opening.{GeneratorIsOpening}
use Rattle.esdk_gen.proofs.opening.feed_message.Goals as goal

pub feed_piece-requires : goal.feed_piece-requires
feed_piece-requires c =
    let (key, text, is) = c.requires in
    let opening = c.loop-left.invariant key text is in (
      key,
      c.args.message.now,
      text,
      drop c.min.result c.loop-left.left.now,
      subst (λ (b : List ℕ). GeneratorIsOpening c.loop-left.desk key c.args.id c.args.message.now text b c.loop-left.opened)
          (sym (take-append-drop c.min.result c.loop-left.left.now) ∙ ap (λ (b : List ℕ). b ++ drop c.min.result c.loop-left.left.now) (sym c.split_at.ensures.front)) opening,
    )

pub loop-left-preserved : goal.loop-left-preserved
loop-left-preserved c = λ key text is.
    let n : ℕ = c.min.result in
    let cut = sym (take-append-drop n c.loop-left.left.now) ∙ ap (λ (b : List ℕ). b ++ drop n c.loop-left.left.now) (sym c.split_at.ensures.front) in
    let opening = subst (λ (b : List ℕ). GeneratorIsOpening c.loop-left.desk key c.args.id c.args.message.now text b c.loop-left.opened) cut (c.loop-left.invariant key text is) in
    let more = c.in_ok-feed_piece.ensures key c.args.message.now text (drop n c.loop-left.left.now) opening in
    subst (λ (b : List ℕ). GeneratorIsOpening c.feed_piece.new.desk key c.args.id c.args.message.now text b c.feed_piece.new.opened) (sym c.split_at.ensures.back) more
