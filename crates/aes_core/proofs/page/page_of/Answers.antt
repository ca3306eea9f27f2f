use Rattle.std.proofs.Common.{◌≡◌, ◌%◌, ◌/◌, ◌^◌, ◌<◌, List, ℕ, [], ◌∷◌, ◌++◌, ap, ◌∙◌, arith}
use Rattle.std.proofs.lemmas.List.{get_or-replicate}
use Rattle.cipher_spec.specs.Aes.{add_round_key, at, round, rounds, word_at}
use Rattle.aes_core.specs.Counters.{four_times, last_key_byte, page_bytes, page_rest, page_state, quad_images, without_column}
use Rattle.aes_core.proofs.page.page_of.Goals as goal

-- the state after round 1 of a page, by its block
state_is : (schedule : List (List ℕ)) (iv x s : List ℕ) (page : ℕ) → s ≡ round (add_round_key x (word_at schedule 0)) (word_at schedule 1)
    → x ≡ page_bytes iv page ++ last_key_byte schedule ∷ [] → s ≡ page_state schedule iv page
unfolding page_state rounds
state_is schedule iv x s page e f = e ∙ ap (λ x. round (add_round_key x (word_at schedule 0)) (word_at schedule 1)) f

rest_is : (schedule : List (List ℕ)) (iv s r : List ℕ) (page : ℕ) → s ≡ page_state schedule iv page → r ≡ round (without_column s) (word_at schedule 2) → r ≡ page_rest schedule iv page
unfolding page_rest
rest_is schedule iv s r page e f = f ∙ ap (λ s. round (without_column s) (word_at schedule 2)) e

pub returns-clause-page : goal.returns-clause-page
returns-clause-page c = λ schedule keys has.
    let iv = c.args.iv.now in
    let count = c.args.count in
    let page = count / 2 ^ 8 in
    let block = c.page_block.ensures ∙ ap (λ k. page_bytes iv page ++ at k 3 3 ∷ []) keys.is_first in
    let state = state_is schedule iv _ _ page (c.after_first_round-state.ensures schedule keys) block in
    let k = last_key_byte schedule in
    let quad : count % 256 / 32 ≡ count / 32 % 8 = omega arith in
    let column = λ (b : ℕ) (h : b < 8). c.loaded-column.ensures b h ∙ get_or-replicate 8 b c.four_times.result [] h ∙ c.four_times.ensures in
    record {
      is_number = omega arith;
      is_column = λ b h. column b h ∙ ap four_times state;
      is_rest = λ b h.
          c.loaded.ensures b h ∙ get_or-replicate 8 b c.round_without_column.result [] h ∙ rest_is schedule iv _ _ page state (c.round_without_column.ensures (word_at schedule 2) (keys.is_inner 2 (omega arith) (omega arith)));
      is_images = λ b h.
          c.quad_images.ensures k b (page_state schedule iv page) has h (column b h ∙ ap four_times state)
          ∙ ap (λ q. quad_images k (page_state schedule iv page) q b) quad;
    }
