-- In each run a hit gives the materials that the entry was made with.
use Rattle.std.proofs.Common.{◌≡◌, ℕ, ◌<◌, Bool, true, false, cond, ◌⊎◌, List, [], ◌∷◌, ◌++◌, length, sum, Contains, Option, Some, None, option_and_then, refl, sym, ap, subst, inl, inr, ◌∙◌, arith, eqb-true, eq-eqb, append_assoc, append-nil}
use Rattle.std.proofs.lemmas.List.Elements.{Contains-push, Contains-push_cases, Contains-append_left}
use Rattle.std.specs.List.{AllByRecursion}
use Rattle.std.specs.Map.{lookup}
use Rattle.std.specs.Option.{option_map_or}
use Rattle.keyring_trait.specs.declared.served.Served.TheVariants.{New}
use Rattle.cmm_caching.specs.Limits.{LimitsValue}
use Rattle.cmm_caching.specs.Names.{name_eq}
use Rattle.cmm_caching.specs.Ask.{GivenValue, HandedValue, CacheEntry, CacheState, Wish, Step, CacheCall, empty, ask, hit, made_new, passed_on, entry_serving, serves, is_direct, kept_if, with_use, replay}
use Rattle.cmm_caching.specs.Journal.{names}
use Rattle.cmm_caching.specs.Laws.{AreOneMaking}
use Rattle.cmm_caching.proofs.Entries.{all_weaker, all_found, all_moved, all_put}

abbrev IsNamed : ℕ → HandedValue → Type 0
IsNamed n h = names n h.served ≡ true

-- the materials of an entry were handed out under its number
record IsMade (past : List HandedValue) (number : ℕ) (given : GivenValue) : Type 0 where
  answer : HandedValue
  there : Contains past answer
  named : IsNamed number answer
  same : answer.given ≡ given

-- What is true after some answers: those of one number are of one making, all numbers were made, and what is kept was handed out.
record After (past : List HandedValue) (s : CacheState) : Type 0 where
  one : AreOneMaking past
  below : (n : ℕ) (a : HandedValue) → Contains past a → IsNamed n a → n < s.next
  made : AllByRecursion (λ p. IsMade past p.1.number p.1.given) s.entries

made_still : (past : List HandedValue) (h : HandedValue) (number : ℕ) (given : GivenValue) → IsMade past number given → IsMade (past ++ h ∷ []) number given
made_still past h number given m = record { answer = m.answer; there = Contains-append_left past (h ∷ []) m.answer m.there; named = m.named; same = m.same }

one_pushed : (past : List HandedValue) (h : HandedValue) → AreOneMaking past → ((n : ℕ) (a : HandedValue) → Contains past a → IsNamed n a → IsNamed n h → a.given ≡ h.given)
    → AreOneMaking (past ++ h ∷ [])
one_pushed past h one with_last = λ n a b c d na nb. by_places n a b na nb (Contains-push_cases past h a c) (Contains-push_cases past h b d)
  where
    by_places : (n : ℕ) (a b : HandedValue) → IsNamed n a → IsNamed n b → Contains past a ⊎ (h ≡ a) → Contains past b ⊎ (h ≡ b) → a.given ≡ b.given
    by_places n a b na nb (inl p) (inl q) = one n a b p q na nb
    by_places n a b na nb (inl p) (inr q) = with_last n a p na (subst (IsNamed n) (sym q) nb) ∙ ap (λ (x : HandedValue). x.given) q
    by_places n a b na nb (inr p) (inl q) = ap (λ (x : HandedValue). x.given) (sym p) ∙ sym (with_last n b q nb (subst (IsNamed n) (sym p) na))
    by_places n a b na nb (inr p) (inr q) = ap (λ (x : HandedValue). x.given) (sym p ∙ q)

after_step : (past : List HandedValue) (s : CacheState) (step : Step) → After past s
    → ((n : ℕ) (a : HandedValue) → Contains past a → IsNamed n a → IsNamed n step.handed → a.given ≡ step.handed.given)
    → ((n : ℕ) → IsNamed n step.handed → n < step.after.next) → ((n : ℕ) → n < s.next → n < step.after.next)
    → AllByRecursion (λ p. IsMade (past ++ step.handed ∷ []) p.1.number p.1.given) step.after.entries
    → After (past ++ step.handed ∷ []) step.after
after_step past s step after with_last last later made = record {
  one = one_pushed past step.handed after.one with_last;
  below = λ n a c na. by_place n a na (Contains-push_cases past step.handed a c);
  made = made;
}
  where
    by_place : (n : ℕ) (a : HandedValue) → IsNamed n a → Contains past a ⊎ (step.handed ≡ a) → n < step.after.next
    by_place n a na (inl p) = later n (after.below n a p na)
    by_place n a na (inr p) = last n (subst (IsNamed n) (sym p) na)

still : (past : List HandedValue) (s : CacheState) (h : HandedValue) → After past s → AllByRecursion (λ p. IsMade (past ++ h ∷ []) p.1.number p.1.given) s.entries
still past s h after =
    all_weaker (λ p. IsMade past p.1.number p.1.given) (λ p. IsMade (past ++ h ∷ []) p.1.number p.1.given) (λ p m. made_still past h p.1.number p.1.given m) s.entries after.made

-- ---- the three ways

after_direct : (past : List HandedValue) (s : CacheState) (got : GivenValue) → After past s → After (past ++ (passed_on s got).handed ∷ []) s
after_direct past s got after =
    after_step past s (passed_on s got) after (λ n a c na nh. absurd cc) (λ n nh. absurd cc) (λ n less. less) (still past s (passed_on s got).handed after)

after_hit : (past : List HandedValue) (s : CacheState) (w : Wish) (e : CacheEntry) → After past s → lookup (name_eq w.name) s.entries ≡ Some e
    → After (past ++ (hit s w e).handed ∷ []) (hit s w e).after
after_hit past s w e after found =
    after_step past s (hit s w e) after
    (λ n a c na nh. after.one n a made.answer c made.there na (subst (λ m. IsNamed m made.answer) (number n nh) made.named) ∙ made.same)
    (λ n nh. after.below n made.answer made.there (subst (λ m. IsNamed m made.answer) (number n nh) made.named))
    (λ n less. less)
    (all_moved (λ p. IsMade (past ++ (hit s w e).handed ∷ []) p.1.number p.1.given) w.name (record e { uses = with_use w.declared e.uses }) s.entries
    (made_still past (hit s w e).handed e.number e.given made) (still past s (hit s w e).handed after))
  where
    made : IsMade past e.number e.given
    made = all_found (λ p. IsMade past p.1.number p.1.given) w.name s.entries e after.made found

    number : (n : ℕ) → IsNamed n (hit s w e).handed → e.number ≡ n
    number n nh = eqb-true e.number n nh

after_new : (past : List HandedValue) (l : LimitsValue) (s : CacheState) (w : Wish) (now : ℕ) (got : GivenValue) → After past s
    → After (past ++ (made_new l s w now got).handed ∷ []) (made_new l s w now got).after
after_new past l s w now got after =
    after_step past s (made_new l s w now got) after
    (λ n a c na nh. let less : n < s.next = after.below n a c na in let same : s.next ≡ n = eqb-true s.next n nh in absurd (omega (arith, less, same)))
    (λ n nh. let same : s.next ≡ n = eqb-true s.next n nh in omega (arith, same))
    (λ n less. omega (arith, less))
    (all_put (λ p. IsMade (past ++ h ∷ []) p.1.number p.1.given) w.name l.capacity (record { number = s.next; made = now; given = got; uses = with_use w.declared [] }) s.entries
    (record { answer = h; there = Contains-push past h; named = eq-eqb s.next s.next refl; same = refl }) (still past s h after))
  where
    h : HandedValue
    h = record { given = got; served = New s.next }

-- an entry that serves is the one of the name
serving_found : (l : LimitsValue) (s : CacheState) (w : Wish) (now : ℕ) (e : CacheEntry) → entry_serving l s w now ≡ Some e → lookup (name_eq w.name) s.entries ≡ Some e
serving_found l s w now e is = by_found (lookup (name_eq w.name) s.entries) is
  where
    by_test : (b : Bool) (f : CacheEntry) → cond b (Some f) None ≡ Some e → Some f ≡ Some e
    by_test true f h = h
    by_test false f h = absurd cc

    by_found : (o : Option CacheEntry) → option_and_then (kept_if (λ f. serves l f.made (length f.uses) (sum f.uses) w.declared now)) o ≡ Some e → o ≡ Some e
    by_found None h = absurd cc
    by_found (Some f) h = by_test (serves l f.made (length f.uses) (sum f.uses) w.declared now) f h

after_ask : (past : List HandedValue) (l : LimitsValue) (s : CacheState) (w : Wish) (now : ℕ) (got : GivenValue) → After past s
    → After (past ++ (ask l s w now got).handed ∷ []) (ask l s w now got).after
unfolding ask
after_ask past l s w now got after = by_direct (is_direct l w s.next)
  where
    of_step : Step → Type 0
    of_step step = After (past ++ step.handed ∷ []) step.after

    by_serving : (o : Option CacheEntry) → entry_serving l s w now ≡ o → of_step (option_map_or (hit s w) o (made_new l s w now got))
    by_serving None is = after_new past l s w now got after
    by_serving (Some e) is = after_hit past s w e after (serving_found l s w now e is)

    by_direct : (b : Bool) → of_step (cond b (passed_on s got) (option_map_or (hit s w) (entry_serving l s w now) (made_new l s w now got)))
    by_direct true = after_direct past s got after
    by_direct false = by_serving (entry_serving l s w now) refl

-- ---- whole runs

run_on : (l : LimitsValue) (calls : List CacheCall) (past : List HandedValue) (s : CacheState) → After past s → AreOneMaking (past ++ replay l s calls)
run_on l [] past s after = subst AreOneMaking (sym (append-nil past)) after.one
run_on l (c ∷ calls) past s after =
    subst AreOneMaking (append_assoc past ((ask l s c.wish c.now c.got).handed ∷ []) (replay l (ask l s c.wish c.now c.got).after calls))
    (run_on l calls (past ++ (ask l s c.wish c.now c.got).handed ∷ []) (ask l s c.wish c.now c.got).after (after_ask past l s c.wish c.now c.got after))

pub gives_what_was_made : (l : LimitsValue) (calls : List CacheCall) → AreOneMaking (replay l empty calls)
gives_what_was_made l calls = run_on l calls [] empty (record {
  one = λ n a b c d na nb. let clash = c.1 in absurd (omega (arith, clash));
  below = λ n a c na. let clash = c.1 in absurd (omega (arith, clash));
  made = tt;
})
