-- Planes that have round keys, and the rounds with them.
use Rattle.std.proofs.Common.{◌≡◌, ℕ, zero, suc, ◌+◌, ◌-◌, ◌<◌, List, [], length, map, replicate, get_or, refl, sym, ap, ◌∙◌, inl, inr, arith}
use Rattle.std.proofs.Math.ListN.{set}
use Rattle.std.specs.List.{range_with_len}
use Rattle.std.proofs.lemmas.Bool.{cases_lt}
use Rattle.std.proofs.lemmas.List.{get_or-set_same, get_or-set_other, length-set, get_or-replicate, length-replicate, length-map, get_or-map}
use Rattle.std.proofs.lemmas.List.FromFn.{fill_by_all}
use Rattle.cipher_spec.specs.Aes.{add_round_key, round, last_round, rounds, cipher, word_at}
use Rattle.plane_core.specs.declared.planes.Planes.{Planes}
use Rattle.plane_core.specs.Bits.{block}
use Rattle.aes_core.specs.PlaneKeys.{with_constant, plane_key, HasKeys}

-- ---- the keys are made

-- the keys below n are made, and there is room for 15
pub record AreBegun {P : Type 0} (bit : P → ℕ → ℕ → ℕ) (count : ℕ) (keys : List (Planes P)) (schedule : List (List ℕ)) (n : ℕ) : Type 0 where
  long : length keys ≡ 15
  done : (r b : ℕ) → r < n → b < count → (d : Planes P) → block bit (get_or keys r d) b ≡ plane_key schedule r

pub with_first : {P : Type 0} → (bit : P → ℕ → ℕ → ℕ) (count : ℕ) (key : Planes P) (schedule : List (List ℕ))
    → ((b : ℕ) → b < count → block bit key b ≡ get_or (replicate count (word_at schedule 0)) b []) → AreBegun bit count (replicate 15 key) schedule 1
unfolding plane_key
with_first bit count key schedule e = record {
  long = length-replicate 15 key;
  done = λ r b h l d.
      let z : r ≡ 0 = omega arith in
      ap (λ n. block bit (get_or (replicate 15 key) n d) b) z ∙ e b l ∙ get_or-replicate count b (word_at schedule 0) [] l ∙ ap (plane_key schedule) (sym z);
}

key_is : (schedule : List (List ℕ)) (r : ℕ) → 0 < r → plane_key schedule r ≡ with_constant (word_at schedule r)
unfolding plane_key
key_is schedule zero h = absurd (omega arith)
key_is schedule (suc r) h = refl

pub one_more : {P : Type 0} → (bit : P → ℕ → ℕ → ℕ) (count : ℕ) (keys : List (Planes P)) (key : Planes P) (schedule : List (List ℕ)) (n : ℕ) (k : List ℕ)
    → 0 < n → n < 15 → AreBegun bit count keys schedule n → k ≡ with_constant (word_at schedule n)
    → ((b : ℕ) → b < count → block bit key b ≡ get_or (replicate count k) b []) → AreBegun bit count (set keys n key) schedule (n + 1)
one_more bit count keys key schedule n k low high begun is e = record {
  long = length-set keys n key ∙ begun.long;
  done = λ r b h l d. elim (cases_lt r n) [
    | inl s ↦ ap (λ x. block bit x b) (get_or-set_other keys n r key d (omega arith)) ∙ begun.done r b s l d
    | inr g ↦
        let z : r ≡ n = omega arith in
        let room : n < length keys = omega (arith, begun.long) in
        ap (λ i. block bit (get_or (set keys n key) i d) b) z ∙ ap (λ x. block bit x b) (get_or-set_same keys n key d room)
        ∙ e b l ∙ get_or-replicate count b k [] l ∙ is ∙ sym (key_is schedule n low) ∙ ap (plane_key schedule) (sym z)
  ];
}

pub all_keys : {P : Type 0} → (bit : P → ℕ → ℕ → ℕ) (count : ℕ) (keys : List (Planes P)) (schedule : List (List ℕ)) (n : ℕ)
    → n ≡ 15 → AreBegun bit count keys schedule n → HasKeys bit count keys schedule
all_keys bit count keys schedule n e begun = record { is_key = λ r b h l d. begun.done r b (omega arith) l d }

-- ---- the rounds

-- blocks written out, and the same under a map
pub all_blocks : (f : ℕ → List ℕ) (g : List ℕ → List ℕ) (x : List (List ℕ)) (n : ℕ) → length x ≡ n
    → ((b : ℕ) → b < n → f b ≡ g (get_or x b [])) → map f (range_with_len 0 n) ≡ map g x
all_blocks f g x n long e =
    sym (fill_by_all f (map g x) n [] (length-map x g ∙ long) (λ b h. get_or-map g x b [] [] (omega arith) ∙ sym (e b h)))

pub first_key : {P : Type 0} → (bit : P → ℕ → ℕ → ℕ) (count : ℕ) (keys : List (Planes P)) (schedule : List (List ℕ)) → HasKeys bit count keys schedule
    → (b : ℕ) → b < count → (d : Planes P) → block bit (get_or keys 0 d) b ≡ word_at schedule 0
unfolding plane_key
first_key bit count keys schedule has b h d = has.is_key 0 b (omega arith) h d

pub later_key : {P : Type 0} → (bit : P → ℕ → ℕ → ℕ) (count : ℕ) (keys : List (Planes P)) (schedule : List (List ℕ)) → HasKeys bit count keys schedule
    → (r b : ℕ) → 0 < r → r < 15 → b < count → (d : Planes P) → block bit (get_or keys r d) b ≡ with_constant (word_at schedule r)
later_key bit count keys schedule has r b low high h d = has.is_key r b high h d ∙ key_is schedule r low

pub before_rounds : (schedule : List (List ℕ)) (s x y k : List ℕ) → s ≡ add_round_key y k → y ≡ x → k ≡ word_at schedule 0 → s ≡ rounds schedule x 0
unfolding rounds
before_rounds schedule s x y k e f g = e ∙ rw (f, g) refl

pub round_more : (schedule : List (List ℕ)) (s t x : List ℕ) (r : ℕ) → 0 < r → t ≡ round s (word_at schedule r) → s ≡ rounds schedule x (r - 1)
    → t ≡ rounds schedule x (r + 1 - 1)
unfolding rounds
round_more schedule s t x r low e f =
    let i : suc (r - 1) ≡ r = omega arith in
    let j : r ≡ r + 1 - 1 = omega arith in
    e ∙ ap (λ s. round s (word_at schedule r)) f ∙ ap (λ n. round (rounds schedule x (r - 1)) (word_at schedule n)) (sym i) ∙ ap (rounds schedule x) (i ∙ j)

pub after_rounds : (schedule : List (List ℕ)) (s t x : List ℕ) (r : ℕ) → r ≡ 14 → t ≡ last_round s (word_at schedule 14) → s ≡ rounds schedule x (r - 1)
    → t ≡ cipher schedule x
unfolding cipher
after_rounds schedule s t x r is e f =
    let i : r - 1 ≡ 13 = omega arith in
    e ∙ ap (λ s. last_round s (word_at schedule 14)) (f ∙ ap (rounds schedule x) i)
