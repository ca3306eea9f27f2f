-- A journal with one line more: what a cache bears after it answered.
use Rattle.std.proofs.Common.{◌≡◌, ◌≢◌, ℕ, suc, ◌+◌, ◌<◌, ◌≤◌, Bool, true, false, cond, ◌⊎◌, List, [], ◌∷◌, ◌++◌, Contains, Option, Some, None, refl, sym, ap, subst, inl, inr, ◌∙◌, arith}
use Rattle.std.proofs.lemmas.Bool.{and_right}
use Rattle.std.proofs.lemmas.List.Sums.{sum_by-cons, sum_by_push}
use Rattle.std.proofs.lemmas.List.Elements.{Contains-push_cases}
use Rattle.std.specs.List.{AllByRecursion}
use Rattle.keyring_trait.specs.declared.journal.JournalLine.{JournalLine}
use Rattle.keyring_trait.specs.declared.served.Served.TheVariants.{New}
use Rattle.cmm_caching.specs.declared.kept.Kept.{Kept}
use Rattle.cmm_caching.specs.Limits.{LimitsValue}
use Rattle.cmm_caching.specs.Names.{NameValue}
use Rattle.cmm_caching.specs.Store.{Store, use_count, use_bytes}
use Rattle.cmm_caching.specs.Journal.{names, is_sealing, seals_with, seals, seal_bytes, AreClose, Within, InTime, Told, Bears}
use Rattle.cmm_caching.proofs.Entries.{all_weaker}

-- ---- what one line adds

abbrev pub one : ℕ → JournalLine → ℕ
one n line = cond (seals_with n line) 1 0

abbrev one_bytes : ℕ → JournalLine → ℕ
one_bytes n line = cond (seals_with n line) (use_bytes line.length) 0

seals_pushed : (n : ℕ) (lines : List JournalLine) (line : JournalLine) → seals n (lines ++ line ∷ []) ≡ seals n lines + one n line
seals_pushed n lines line = sum_by_push (λ l. one n l) lines line

bytes_pushed : (n : ℕ) (lines : List JournalLine) (line : JournalLine) → seal_bytes n (lines ++ line ∷ []) ≡ seal_bytes n lines + one_bytes n line
bytes_pushed n lines line = sum_by_push (λ l. one_bytes n l) lines line

unnamed : (n : ℕ) (line : JournalLine) → names n line.served ≡ false → (one n line ≡ 0) × (one_bytes n line ≡ 0)
unnamed n line e =
    let none : seals_with n line ≡ false = and_right (is_sealing line.kind) (names n line.served) e in
    (ap (λ b. cond b 1 0) none, ap (λ b. cond b (use_bytes line.length) 0) none)

bytes_of_one : (n : ℕ) (line : JournalLine) → one_bytes n line ≤ use_bytes line.length
bytes_of_one n line = by_test (seals_with n line)
  where
    by_test : (b : Bool) → cond b (use_bytes line.length) 0 ≤ use_bytes line.length
    by_test true = omega arith
    by_test false = omega arith

-- the lines of a number that none of them names
pub none_named : (n : ℕ) (lines : List JournalLine) → AllByRecursion (λ line. names n line.served ≡ false) lines → (seals n lines ≡ 0) × (seal_bytes n lines ≡ 0)
none_named n [] h = (refl, refl)
none_named n (line ∷ lines) h =
    let rest = none_named n lines h.1 in
    let zero_here = unnamed n line h.0 in
    let count : seals n (line ∷ lines) ≡ one n line + seals n lines = sum_by-cons (λ l. one n l) line lines in
    let bytes : seal_bytes n (line ∷ lines) ≡ one_bytes n line + seal_bytes n lines = sum_by-cons (λ l. one_bytes n l) line lines in
    (omega (arith, count, rest.0, zero_here.0), omega (arith, bytes, rest.1, zero_here.1))

pub each : (P : JournalLine → Type 0) (lines : List JournalLine) → ((line : JournalLine) → Contains lines line → P line) → AllByRecursion P lines
each P [] h = tt
each P (line ∷ lines) h = (h line (0, omega arith, refl), each P lines (λ x c. let within = c.1 in h x (suc c.0, omega arith, c.2)))

-- ---- a line of no entry

abbrev pub IsNamed : ℕ → JournalLine → Type 0
IsNamed n line = names n line.served ≡ true

-- a line that is named n stands among those before, where the last one isn't
stands_before : (n : ℕ) (lines : List JournalLine) (line x : JournalLine) → names n line.served ≡ false → Contains (lines ++ line ∷ []) x → IsNamed n x → Contains lines x
stands_before n lines line x other c named = by_place (Contains-push_cases lines line x c)
  where
    by_place : Contains lines x ⊎ (line ≡ x) → Contains lines x
    by_place (inl before) = before
    by_place (inr last) =
        let same : names n line.served ≡ true = subst (λ (l : JournalLine). names n l.served ≡ true) (sym last) named in
        let clash : false ≡ true = sym other ∙ same in absurd cc

told_other : (age : ℕ) (lines : List JournalLine) (line : JournalLine) (k : Kept) → names k.number line.served ≡ false → Told age lines k → Told age (lines ++ line ∷ []) k
told_other age lines line k other told =
    let zero_here = unnamed k.number line other in
    record {
      count = omega (arith, told.count, seals_pushed k.number lines line, zero_here.0);
      bytes = omega (arith, told.bytes, bytes_pushed k.number lines line, zero_here.1);
      young = λ x c named. told.young x (stands_before k.number lines line x other c named) named;
    }

close_other : (l : LimitsValue) (lines : List JournalLine) (line : JournalLine) (n : ℕ) (a b : JournalLine) → names n line.served ≡ false → Within l lines
    → Contains (lines ++ line ∷ []) a → Contains (lines ++ line ∷ []) b → IsNamed n a → IsNamed n b → AreClose l.age n a b
close_other l lines line n a b other within c d na nb =
    within.close n a b (stands_before n lines line a other c na) (stands_before n lines line b other d nb) na nb

-- what was served directly changes nothing
pub bears_direct : (s : Store) (lines : List JournalLine) (line : JournalLine) → Bears s lines → ((n : ℕ) → names n line.served ≡ false) → Bears s (lines ++ line ∷ [])
bears_direct s lines line bears other = record {
  within = record {
    close = λ n a b c d na nb. close_other s.limits lines line n a b (other n) bears.within c d na nb;
    messages = λ n. omega (arith, bears.within.messages n, seals_pushed n lines line, (unnamed n line (other n)).0);
    bytes = λ n. omega (arith, bears.within.bytes n, bytes_pushed n lines line, (unnamed n line (other n)).1);
  };
  below = λ n x c named. bears.below n x (stands_before n lines line x (other n) c named) named;
  told = all_weaker (λ p. Told s.limits.age lines p.1) (λ p. Told s.limits.age (lines ++ line ∷ []) p.1) (λ p t. told_other s.limits.age lines line p.1 (other p.1.number) t)
      s.entries bears.told;
}

-- ---- a line of the entry that goes to the front

-- a use of that length is within the limits
abbrev pub IsLimited : LimitsValue → Option ℕ → Kept → Type 0
IsLimited l None k = Unit {0}
IsLimited l (Some n) k = (k.count ≤ l.messages) × (k.bytes ≤ l.bytes)

-- The line is of the entry k: it names no other, its use is counted there with those of the lines before, and all are in time.
pub record Front (l : LimitsValue) (lines : List JournalLine) (line : JournalLine) (k : Kept) : Type 0 where
  pub only : (n : ℕ) → IsNamed n line → n ≡ k.number
  pub counted : (n : ℕ) → one n line ≤ use_count line.length
  pub count : seals k.number lines + use_count line.length ≤ k.count
  pub bytes : seal_bytes k.number lines + use_bytes line.length ≤ k.bytes
  pub limited : IsLimited l line.length k
  pub young : (x : JournalLine) → Contains lines x → IsNamed k.number x → InTime l.age k.made k.number x
  pub now : InTime l.age k.made k.number line

module _ (l : LimitsValue) (lines : List JournalLine) (line : JournalLine) (k : Kept) (front : Front l lines line k) where
  front_told : Told l.age (lines ++ line ∷ []) k
  front_told = record {
    count = omega (arith, front.count, seals_pushed k.number lines line, front.counted k.number);
    bytes = omega (arith, front.bytes, bytes_pushed k.number lines line, bytes_of_one k.number line);
    young = λ x c named. by_place x named (Contains-push_cases lines line x c);
  }
    where
      by_place : (x : JournalLine) → IsNamed k.number x → Contains lines x ⊎ (line ≡ x) → InTime l.age k.made k.number x
      by_place x named (inl before) = front.young x before named
      by_place x named (inr last) = subst (InTime l.age k.made k.number) last front.now

  close_front : (n : ℕ) (a b : JournalLine) → Within l lines → Contains (lines ++ line ∷ []) a → Contains (lines ++ line ∷ []) b → IsNamed n a → IsNamed n b
      → AreClose l.age n a b
  close_front n a b within c d na nb = by_test (names n line.served) refl
    where
      of_entry : n ≡ k.number → AreClose l.age n a b
      of_entry same =
          let ta = front_told.young a c (subst (λ m. names m a.served ≡ true) same na) in
          let tb = front_told.young b d (subst (λ m. names m b.served ≡ true) same nb) in
          record {
            near = omega (arith, ta.until, tb.from);
            from = λ new. let made : a.now ≡ k.made = ta.new (new ∙ ap New same) in omega (arith, made, tb.from);
          }

      by_test : (t : Bool) → names n line.served ≡ t → AreClose l.age n a b
      by_test true named = of_entry (front.only n named)
      by_test false other = close_other l lines line n a b other within c d na nb

  limited_front : (n : ℕ) → Within l lines → (seals n (lines ++ line ∷ []) ≤ l.messages) × (seal_bytes n (lines ++ line ∷ []) ≤ l.bytes)
  limited_front n within = by_test (names n line.served) refl
    where
      by_length : (o : Option ℕ) → line.length ≡ o → n ≡ k.number → (seals n (lines ++ line ∷ []) ≤ l.messages) × (seal_bytes n (lines ++ line ∷ []) ≤ l.bytes)
      by_length None e same =
          let count : one n line ≤ 0 = subst (λ (o : Option ℕ). one n line ≤ use_count o) e (front.counted n) in
          let bytes : one_bytes n line ≤ 0 = subst (λ (o : Option ℕ). one_bytes n line ≤ use_bytes o) e (bytes_of_one n line) in
          (omega (arith, count, seals_pushed n lines line, within.messages n), omega (arith, bytes, bytes_pushed n lines line, within.bytes n))
      by_length (Some size) e same =
          let limited : IsLimited l (Some size) k = subst (λ (o : Option ℕ). IsLimited l o k) e front.limited in
          let told : (seals n (lines ++ line ∷ []) ≤ k.count) × (seal_bytes n (lines ++ line ∷ []) ≤ k.bytes) =
          subst (λ m. (seals m (lines ++ line ∷ []) ≤ k.count) × (seal_bytes m (lines ++ line ∷ []) ≤ k.bytes)) (sym same) (front_told.count, front_told.bytes) in
          (omega (arith, limited.0, told.0), omega (arith, limited.1, told.1))

      by_test : (t : Bool) → names n line.served ≡ t → (seals n (lines ++ line ∷ []) ≤ l.messages) × (seal_bytes n (lines ++ line ∷ []) ≤ l.bytes)
      by_test true named = by_length line.length refl (front.only n named)
      by_test false other =
          let zero_here = unnamed n line other in
          (omega (arith, within.messages n, seals_pushed n lines line, zero_here.0), omega (arith, within.bytes n, bytes_pushed n lines line, zero_here.1))

  other_number : (m : ℕ) → m ≢ k.number → names m line.served ≡ false
  other_number m apart = by_test (names m line.served) refl
    where
      by_test : (t : Bool) → names m line.served ≡ t → t ≡ false
      by_test true named = absurd (apart (front.only m named))
      by_test false other = refl

-- the cache with k at the front bears the line too
pub bears_front : (s : Store) (next : ℕ) (lines : List JournalLine) (line : JournalLine) (name : NameValue) (k : Kept) (es : List (NameValue × Kept))
    → Bears s lines → Front s.limits lines line k → s.next ≤ next → k.number < next
    → AllByRecursion (λ p. Told s.limits.age lines p.1) es → AllByRecursion (λ p. p.1.number ≢ k.number) es
    → Bears (record { limits = s.limits; width = s.width; entries = (name, k) ∷ es; next = next }) (lines ++ line ∷ [])
bears_front s next lines line name k es bears front later below told apart = record {
  within = record {
    close = λ n a b c d na nb. close_front s.limits lines line k front n a b bears.within c d na nb;
    messages = λ n. (limited_front s.limits lines line k front n bears.within).0;
    bytes = λ n. (limited_front s.limits lines line k front n bears.within).1;
  };
  below = λ n x c named. by_place n x named (Contains-push_cases lines line x c);
  told = (front_told s.limits lines line k front, rest es told apart);
}
  where
    by_place : (n : ℕ) (x : JournalLine) → IsNamed n x → Contains lines x ⊎ (line ≡ x) → n < next
    by_place n x named (inl before) = let less : n < s.next = bears.below n x before named in omega (arith, less, later)
    by_place n x named (inr last) =
        let same : n ≡ k.number = front.only n (subst (λ (y : JournalLine). names n y.served ≡ true) (sym last) named) in
        omega (arith, same, below)

    rest : (xs : List (NameValue × Kept)) → AllByRecursion (λ p. Told s.limits.age lines p.1) xs → AllByRecursion (λ p. p.1.number ≢ k.number) xs
        → AllByRecursion (λ p. Told s.limits.age (lines ++ line ∷ []) p.1) xs
    rest [] t a = tt
    rest (x ∷ xs) t a = (told_other s.limits.age lines line x.1 (other_number s.limits lines line k front x.1.number a.0) t.0, rest xs t.1 a.1)
