-- The numbers of those that pass a test.
use Rattle.std.proofs.Common.{◌≡◌, ℕ, ◌+◌, ◌≤◌, Bool, true, false, List, [], ◌∷◌, ◌++◌, length, map, refl, sym, ap, subst, inl, inr, arith}
use Rattle.std.specs.Prelude.{Contains, if◌then◌else◌}
use Rattle.context_codec.proofs.Members.{Contains-head, Contains-tail, Contains-cases, Contains-nil}
use Rattle.audit_core.specs.Openers.{numbers_of}

-- ---- lists

pub record SameFront {A : Type 0} (xs ys more rest : List A) : Type 0 where
  pub front : xs ≡ ys
  pub back : more ≡ rest

pub same_front : {A : Type 0} (xs ys more rest : List A) → xs ++ more ≡ ys ++ rest → length xs ≡ length ys → SameFront xs ys more rest
same_front [] [] more rest is long = record { front = refl; back = is }
same_front [] (y ∷ ys) more rest is long = absurd (omega (arith, long))
same_front (x ∷ xs) [] more rest is long = absurd (omega (arith, long))
same_front (x ∷ xs) (y ∷ ys) more rest is long =
    let behind : xs ++ more ≡ ys ++ rest = cc in
    let first : x ≡ y = cc in
    let others = same_front xs ys more rest behind (omega (arith, long)) in
    let fronts = others.front in
    record { front = cc; back = others.back }

pub Contains-map : {A B : Type 0} (f : A → B) (xs : List A) (x : A) → Contains xs x → Contains (map f xs) (f x)
Contains-map f [] x listed = absurd (Contains-nil x listed)
Contains-map {B = B} f (y ∷ ys) x listed =
    elim (Contains-cases y ys x listed) [
      | inl is ↦ subst (λ (z : B). Contains (f y ∷ map f ys) z) (ap f is) (Contains-head (f y) (map f ys))
      | inr later ↦ Contains-tail (f y) (map f ys) (f x) (Contains-map f ys x later)
    ]

-- ---- one more

chosen_append : (b : Bool) (n : ℕ) (all front back : List ℕ) → all ≡ front ++ back → (if b then n ∷ all else all) ≡ (if b then n ∷ front else front) ++ back
chosen_append true n all front back is = ap (λ (l : List ℕ). n ∷ l) is
chosen_append false n all front back is = is

pub numbers_more : {A : Type 0} (test : A → Bool) (n k : ℕ) (xs : List A) (x : A) → k ≡ n + length xs → numbers_of test n (xs ++ x ∷ []) ≡ numbers_of test n xs ++ numbers_of test k (x ∷ [])
numbers_more test n k [] x at = ap (λ (m : ℕ). numbers_of test m (x ∷ [])) (omega (arith, at))
numbers_more test n k (y ∷ ys) x at =
    chosen_append (test y) n (numbers_of test (n + 1) (ys ++ x ∷ [])) (numbers_of test (n + 1) ys) (numbers_of test k (x ∷ [])) (numbers_more test (n + 1) k ys x (omega (arith, at)))

-- ---- which numbers there are

-- It is the number of one that passes the test.
pub record IsNumberOf {A : Type 0} (test : A → Bool) (n : ℕ) (xs : List A) (number : ℕ) : Type 0 where
  pub before : List A
  pub one : A
  pub behind : List A
  pub are : xs ≡ before ++ one ∷ behind
  pub number_is : number ≡ n + length before
  pub passes : test one ≡ true

tail_number : {A : Type 0} (test : A → Bool) (n number : ℕ) (x : A) (xs : List A) → IsNumberOf test (n + 1) xs number → IsNumberOf test n (x ∷ xs) number
tail_number test n number x xs is = record {
  before = x ∷ is.before;
  one = is.one;
  behind = is.behind;
  are = ap (λ l. x ∷ l) is.are;
  number_is = omega (arith, is.number_is);
  passes = is.passes;
}

number_step : {A : Type 0} (test : A → Bool) (n number : ℕ) (x : A) (xs : List A) (b : Bool) → b ≡ test x
    → (Contains (numbers_of test (n + 1) xs) number → IsNumberOf test (n + 1) xs number)
    → Contains (if b then n ∷ numbers_of test (n + 1) xs else numbers_of test (n + 1) xs) number → IsNumberOf test n (x ∷ xs) number
number_step test n number x xs true is others here =
    elim (Contains-cases n (numbers_of test (n + 1) xs) number here) [
      | inl first ↦ record { before = []; one = x; behind = xs; are = refl; number_is = omega (arith, first); passes = sym is }
      | inr later ↦ tail_number test n number x xs (others later)
    ]
number_step test n number x xs false is others here = tail_number test n number x xs (others here)

pub number_of : {A : Type 0} (test : A → Bool) (n : ℕ) (xs : List A) (number : ℕ) → Contains (numbers_of test n xs) number → IsNumberOf test n xs number
number_of test n [] number listed = absurd (Contains-nil number listed)
number_of test n (x ∷ xs) number listed = number_step test n number x xs (test x) refl (number_of test (n + 1) xs number) listed

chosen_tail : (b : Bool) (n : ℕ) (numbers : List ℕ) (number : ℕ) → Contains numbers number → Contains (if b then n ∷ numbers else numbers) number
chosen_tail true n numbers number listed = Contains-tail n numbers number listed
chosen_tail false n numbers number listed = listed

pub number_listed : {A : Type 0} (test : A → Bool) (n : ℕ) (before : List A) (x : A) (behind : List A) (number : ℕ) → number ≡ n + length before → test x ≡ true
    → Contains (numbers_of test n (before ++ x ∷ behind)) number
number_listed test n [] x behind number at passes =
    let is : n ≡ number = omega (arith, at) in
    rw passes (subst (λ (m : ℕ). Contains (n ∷ numbers_of test (n + 1) behind) m) is (Contains-head n (numbers_of test (n + 1) behind)))
number_listed test n (y ∷ ys) x behind number at passes =
    chosen_tail (test y) n (numbers_of test (n + 1) (ys ++ x ∷ behind)) number (number_listed test (n + 1) ys x behind number (omega (arith, at)) passes)

-- ---- none

none_chosen : (b : Bool) (n : ℕ) (numbers : List ℕ) → (if b then n ∷ numbers else numbers) ≡ [] → (b ≡ false) × (numbers ≡ [])
none_chosen true n numbers none = absurd cc
none_chosen false n numbers none = (refl, none)

pub none_passes : {A : Type 0} (test : A → Bool) (n : ℕ) (xs : List A) (x : A) → numbers_of test n xs ≡ [] → Contains xs x → test x ≡ false
none_passes test n [] x none listed = absurd (Contains-nil x listed)
none_passes {A = A} test n (y ∷ ys) x none listed =
    let here = none_chosen (test y) n (numbers_of test (n + 1) ys) none in
    elim (Contains-cases y ys x listed) [
      | inl is ↦ subst (λ (z : A). test z ≡ false) is here.0
      | inr later ↦ none_passes test (n + 1) ys x here.1 later
    ]

-- ---- they ascend

pub record NumbersFrom {A : Type 0} (test : A → Bool) (least : ℕ) (numbers : List ℕ) : Type 0 where
  pub rest : List A
  pub start : ℕ
  pub late : least ≤ start
  pub are : numbers ≡ numbers_of test start rest

behind_step : {A : Type 0} (test : A → Bool) (n : ℕ) (xs : List A) (b : Bool) (one : ℕ) (more : List ℕ)
    → (numbers_of test (n + 1) xs ≡ one ∷ more → NumbersFrom {A = A} test (one + 1) more)
    → (if b then n ∷ numbers_of test (n + 1) xs else numbers_of test (n + 1) xs) ≡ one ∷ more → NumbersFrom {A = A} test (one + 1) more
behind_step test n xs true one more others here =
    let first : n ≡ one = cc in
    let rest : numbers_of test (n + 1) xs ≡ more = cc in
    record { rest = xs; start = n + 1; late = omega (arith, first); are = sym rest }
behind_step test n xs false one more others here = others here

behind_first : {A : Type 0} (test : A → Bool) (n : ℕ) (xs : List A) (one : ℕ) (more : List ℕ) → numbers_of test n xs ≡ one ∷ more → NumbersFrom {A = A} test (one + 1) more
behind_first test n [] one more is = absurd cc
behind_first test n (x ∷ xs) one more is = behind_step test n xs (test x) one more (behind_first test (n + 1) xs one more) is

-- the first two are two
pub first_two : {A : Type 0} (test : A → Bool) (n : ℕ) (xs : List A) (one two : ℕ) (more : List ℕ) → numbers_of test n xs ≡ one ∷ two ∷ more → one + 1 ≤ two
first_two test n xs one two more is =
    let from = behind_first test n xs one (two ∷ more) is in
    let second = number_of test from.start from.rest two (subst (λ (l : List ℕ). Contains l two) from.are (Contains-head two more)) in
    omega (arith, from.late, second.number_is)
