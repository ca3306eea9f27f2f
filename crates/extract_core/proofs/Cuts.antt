-- Parts of lists, cut in two ways.
use Rattle.std.proofs.Common.{◌≡◌, ℕ, ◌+◌, ◌-◌, min, List, [], length, take, drop, refl, sym, ap, ◌∙◌, arith, inl, inr}
use Rattle.std.proofs.lemmas.Bool.{cases_lt}
use Rattle.std.proofs.lemmas.List.{drop-take, drop-drop, drop_all, length-drop, length-take, take_all}

take_none : (n : ℕ) (l : List ℕ) → n ≡ 0 → take n l ≡ []
take_none n l e = rw e refl

-- what is dropped of what is taken
pub drop_cut : (m k : ℕ) (l : List ℕ) → drop m (take k l) ≡ take (k - m) (drop m l)
drop_cut m k l =
    elim (cases_lt k m) [
      | inl short ↦ drop_all m (take k l) (omega (arith, length-take k l)) ∙ sym (take_none (k - m) (drop m l) (omega arith))
      | inr long ↦ let e : k ≡ m + (k - m) = omega arith in ap (λ (n : ℕ). drop m (take n l)) e ∙ drop-take m (k - m) l
    ]

-- so many bytes more are taken away of those between two places
pub skipped : (begin end count : ℕ) (l : List ℕ) → take (end - (begin + count)) (drop (begin + count) l) ≡ drop count (take (end - begin) (drop begin l))
skipped begin end count l =
    let e : end - (begin + count) ≡ end - begin - count = omega arith in
    ap (λ (n : ℕ). take n (drop (begin + count) l)) e
    ∙ sym (ap (take (end - begin - count)) (drop-drop count begin l))
    ∙ sym (drop_cut count (end - begin) (drop begin l))

-- a front as long as there are bytes
front_short : (n m : ℕ) (l : List ℕ) → n ≡ min m (length l) → take n l ≡ take m l
front_short n m l is =
    elim (cases_lt (length l) m) [
      | inl short ↦ take_all n l (omega (arith, is, short)) ∙ sym (take_all m l (omega arith))
      | inr long ↦ (let e : n ≡ m = omega (arith, is, long) in ap (λ (k : ℕ). take k l) e)
    ]

-- what is behind a place that is within the bytes
rest_short : (n m : ℕ) (l : List ℕ) → n ≡ min m (length l) → drop n l ≡ drop m l
rest_short n m l is =
    elim (cases_lt (length l) m) [
      | inl short ↦ drop_all n l (omega (arith, is, short)) ∙ sym (drop_all m l (omega arith))
      | inr long ↦ (let e : n ≡ m = omega (arith, is, long) in ap (λ (k : ℕ). drop k l) e)
    ]

-- the bytes between two places that are within them
pub cut_within : (from behind begin end : ℕ) (l out : List ℕ) → l ≡ out → end ≡ min behind (length l) → begin ≡ min from end → take (length (take end l) - begin) (drop begin (take end l)) ≡ drop from (take behind out)
cut_within from behind begin end l out same end_is begin_is =
    let long : length (take end l) ≡ end = length-take end l ∙ omega (arith, end_is) in
    take_all (length (take end l) - begin) (drop begin (take end l)) (omega (arith, length-drop begin (take end l)))
    ∙ rest_short begin from (take end l) (omega (arith, begin_is, long))
    ∙ ap (drop from) (front_short end behind l end_is)
    ∙ ap (λ (x : List ℕ). drop from (take behind x)) same
