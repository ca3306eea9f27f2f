use Rattle.std.proofs.Common.{◌≡◌, ◌∙◌, ◌+◌, ◌-◌, ◌≤◌, ◌++◌, List, ℕ, length, take, drop, arith, refl, subst, sym, ap, length-append}
use Rattle.std.proofs.lemmas.List.{length-drop, length-take}
use Rattle.esdk_gen.specs.Bytes.{gen_bytes, state_after}
use Rattle.esdk_gen.specs.Sealing.{SealsText}
use Rattle.esdk_gen.proofs.Sequence.{bytes_none, bytes_then, filled, length-gen_bytes, state_none, state_then}
use Rattle.esdk_gen.proofs.Sealings.{text_more, text_none}
use Rattle.esdk_gen.proofs.sealing.feed_text.Goals as goal

pub loop-left-init : goal.loop-left-init
loop-left-init c =
    let none : c.args.size - c.args.size ≡ 0 = omega arith in
    record {
      within = omega arith;
      long = refl {A = ℕ} {a = 1000};
      state = rw none (sym (state_none c.args.text.now.state));
      sealed = λ key s sealing empty. text_none c.args.desk.now key c.args.id s _ c.args.message.now sealing (empty ∙ rw none (sym (bytes_none c.args.text.now.state)));
    }

pub feed_piece-requires : goal.feed_piece-requires
feed_piece-requires c =
    let (key, s, sealing, empty) = c.requires.live in
    let sealed = c.loop-left.invariant.sealed key s sealing empty in
    let piece = filled c.fill.new.out (drop c.min-count.result c.loop-left.piece) c.min-count.result c.loop-left.invariant.state c.fill.ensures.bytes (omega (arith, length-take c.min-count.result c.loop-left.piece, c.loop-left.invariant.long)) in (
      key,
      sealed.session,
      sealed.sealing,
      omega (arith, ap length sealed.taken, ap length piece, length-gen_bytes c.args.text.now.state (c.args.size - c.loop-left.left), length-gen_bytes (state_after c.args.text.now.state (c.args.size - c.loop-left.left)) c.min-count.result),
    )

pub loop-left-preserved : goal.loop-left-preserved
loop-left-preserved c =
    let x : ℕ = c.args.text.now.state in
    let n : ℕ = c.min-count.result in
    let before = c.loop-left.invariant in
    let full : length (take n c.loop-left.piece) ≡ n = omega (arith, length-take n c.loop-left.piece, before.long) in
    let piece = filled c.fill.new.out (drop n c.loop-left.piece) n before.state c.fill.ensures.bytes full in
    let long : length c.fill.new.out ≡ n = ap length c.fill.ensures.bytes ∙ length-gen_bytes c.loop-left.text.state (length (take n c.loop-left.piece)) ∙ full in
    record {
      within = omega arith;
      long = omega (arith, length-append c.fill.new.out (drop n c.loop-left.piece), length-drop n c.loop-left.piece, long, before.long);
      state = c.fill.ensures.state ∙ (λ i. state_after (before.state i) (full i)) ∙ state_then x c.args.size c.loop-left.left n before.within (omega arith);
      sealed = λ key s sealing empty.
          let sealed = before.sealed key s sealing empty in
          let room : length sealed.session.taken + length (take n (c.fill.new.out ++ drop n c.loop-left.piece)) ≤ 67108864 = omega (
            arith,
            c.requires.few,
            ap length sealed.taken,
            ap length piece,
            length-gen_bytes x (c.args.size - c.loop-left.left),
            length-gen_bytes (state_after x (c.args.size - c.loop-left.left)) n,
          ) in
          let more = c.in_ok-feed_piece.ensures key sealed.session sealed.sealing room in
          subst (λ (b : List ℕ). SealsText c.feed_piece.new.desk key c.args.id s b c.feed_piece.new.message)
          (ap (λ (b : List ℕ). gen_bytes x (c.args.size - c.loop-left.left) ++ b) piece ∙ bytes_then x c.args.size c.loop-left.left n before.within (omega arith))
          (text_more c.feed_piece.new.desk key c.args.id s _ _ c.feed_piece.new.message sealed.session sealed.same sealed.taken more);
    }

pub returns : goal.returns
returns c = λ key s sealing empty.
    let all : c.args.size - c.loop-left.left ≡ c.args.size = omega arith in
    subst (λ (n : ℕ). SealsText c.loop-left.desk key c.args.id s (gen_bytes c.args.text.now.state n) c.loop-left.message) all (c.loop-left.invariant.sealed key s sealing empty)
