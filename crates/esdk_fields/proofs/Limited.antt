-- A limit, as a test and as a fact.
use Rattle.std.proofs.Common.{◌≡◌, ℕ, ◌<◌, ◌≤◌, true, false, Option, Some, None, refl}
use Rattle.std.specs.Prelude.{IfSome, IsSomeAnd}
use Rattle.std.proofs.lemmas.Bool.{ltb-true, ltb-false, le-ltb, lt-ltb}
use Rattle.esdk_fields.specs.Limits.{is_over}

pub within_limit : (max : Option ℕ) (n : ℕ) → is_over max n ≡ false → IfSome max (λ most. n ≤ most)
within_limit None n e = tt
within_limit (Some most) n e = ltb-false most n e

pub limit_within : (max : Option ℕ) (n : ℕ) → IfSome max (λ most. n ≤ most) → is_over max n ≡ false
limit_within None n h = refl
limit_within (Some most) n h = le-ltb most n h

pub over_limit : (max : Option ℕ) (n : ℕ) → is_over max n ≡ true → IsSomeAnd max (λ most. most < n)
over_limit None n e = absurd cc
over_limit (Some most) n e = ltb-true most n e

pub limit_over : (max : Option ℕ) (n : ℕ) → IsSomeAnd max (λ most. most < n) → is_over max n ≡ true
limit_over None n h = absurd h
limit_over (Some most) n h = lt-ltb most n h
