-- A sealer that is fed a piece to its end, step by step.
use Rattle.std.proofs.Common.{◌≡◌, ℕ, ◌+◌, ◌-◌, ◌*◌, ◌<◌, ◌≤◌, List, [], ◌++◌, length, drop, Bool, true, false, ◌==◌, if◌then◌else◌, Option, Some, None, Result, Ok, Err, refl, sym, ap, subst, ◌∙◌, arith}
use Rattle.std.proofs.lemmas.Bool.{eq-eqb, ne_eqb, eqb-false}
use Rattle.stream_seal.specs.declared.declared_length.Declared.{Declared}
use Rattle.stream_seal.specs.declared.errors.SealError.{SealError}
use Rattle.stream_seal.specs.declared.errors.SealError.TheVariants as errors
use Rattle.stream_seal.specs.declared.session.Sealer.{Sealer}
use Rattle.stream_seal.specs.DeclaredLength.{spent, declared_within}
use Rattle.stream_seal.specs.Feeding.{IsFeeding, IsOnTheWay, StepFeeds}
use Rattle.stream_seal.specs.FrameBuffer.{FrameValue}
use Rattle.stream_seal.specs.Session.{SealingValue, Doing, Stops, Gives, Takes, after_doing, answer_of, doing, sealing_step_answer, sealing_stepped}
use Rattle.stream_seal.specs.Stands.{Stands, FeedsStill, FeedsNoMore, FeedFails, StillSeals}
use Rattle.stream_seal.proofs.Feeding.{arrives, begins, fails, goes_on}
use Rattle.stream_seal.proofs.FeedingSteps.{step_feeds}
use Rattle.stream_seal.proofs.Refusing.{stopped_only}

-- ---- a loop of steps

-- what `step` says of a sealer before and after it
pub record Stepped (old new : Sealer) (rest : List ℕ) (answer : Result ℕ SealError) : Type 0 where
  pub answers : (v : SealingValue) → Stands old v → answer ≡ sealing_step_answer v rest
  pub stands : (v : SealingValue) → Stands old v → Stands new (sealing_stepped v rest)

pub still_begins : (v : SealingValue) (piece : List ℕ) (sealer : Sealer) → Stands sealer v → IsFeeding v piece → FeedsStill v piece sealer piece []
still_begins v piece sealer stands is = record { now = v; stands = stands; way = begins v piece is }

pub still_arrives : (v : SealingValue) (piece : List ℕ) (sealer : Sealer) (given : List ℕ) → FeedsStill v piece sealer [] given → FeedsNoMore v piece sealer given None
still_arrives v piece sealer given still =
    let end = arrives v piece still.now given still.way in
    record { stands = subst (λ (w : SealingValue). Stands sealer w) end.end still.stands; why = end.why; out = end.out }

pub still_fails : (v : SealingValue) (piece : List ℕ) (old new : Sealer) (rest given : List ℕ) (answer : Result ℕ SealError) (error : SealError) → FeedsStill v piece old rest given
    → 1 ≤ length rest → Stepped old new rest answer → answer ≡ Err error → FeedFails v piece new given error
still_fails v piece old new rest given answer (errors.Refusal refusal) still some step is =
    let end = fails v piece still.now rest given refusal still.way some (sym (step.answers still.now still.stands) ∙ is) in
    record { stands = subst (λ (w : SealingValue). Stands new w) end.end (step.stands still.now still.stands); why = end.why; out = end.out }
still_fails v piece old new rest given answer errors.Stopped still some step is =
    subst (λ (r : Result ℕ SealError). StepFeeds still.now rest (sealing_stepped still.now rest) r) (sym (step.answers still.now still.stands) ∙ is) (step_feeds still.now rest still.way.feeding some)
still_fails v piece old new rest given answer errors.Memory still some step is =
    subst (λ (r : Result ℕ SealError). StepFeeds still.now rest (sealing_stepped still.now rest) r) (sym (step.answers still.now still.stands) ∙ is) (step_feeds still.now rest still.way.feeding some)

-- ---- a session that goes on

stays_on : (v : SealingValue) (rest : List ℕ) (does : Doing) (used : ℕ) → v.stopped ≡ false → answer_of does ≡ Ok used → (after_doing v rest does).stopped ≡ false
stays_on v rest (Stops error) used on is = absurd cc
stays_on v rest Gives used on is = on
stays_on v rest (Takes count) used on is = on

-- This is left of the piece, and the session hasn't stopped.
pub record GoesOn (v : SealingValue) (piece : List ℕ) (sealer : Sealer) (rest : List ℕ) : Type 0 where
  pub session : SealingValue
  pub stands : Stands sealer session
  pub on : session.stopped ≡ false
  pub way : IsFeeding v piece → (given : List ℕ) × IsOnTheWay v piece session rest given

pub going_begins : (v : SealingValue) (piece : List ℕ) (sealer : Sealer) → Stands sealer v → v.stopped ≡ false → GoesOn v piece sealer piece
going_begins v piece sealer stands on = record { session = v; stands = stands; on = on; way = λ is. ([], begins v piece is) }

-- no step but one that fails stops it
pub going_more : (v : SealingValue) (piece : List ℕ) (old new : Sealer) (rest : List ℕ) (answer : Result ℕ SealError) (used : ℕ) → GoesOn v piece old rest → 1 ≤ length rest
    → Stepped old new rest answer → answer ≡ Ok used → GoesOn v piece new (drop used rest)
going_more v piece old new rest answer used goes some step is =
    let now : SealingValue = goes.session in
    let steps : sealing_step_answer now rest ≡ Ok used = sym (step.answers now goes.stands) ∙ is in
    record {
      session = sealing_stepped now rest;
      stands = step.stands now goes.stands;
      on = stays_on now rest (doing now rest) used goes.on steps;
      way = λ is_feeding.
          (let way = goes.way is_feeding in
          (way.0 ++ (sealing_stepped now rest).out, goes_on v piece now rest way.0 used way.1 some steps));
    }

pub going_ends : (v : SealingValue) (piece : List ℕ) (sealer : Sealer) → GoesOn v piece sealer [] → StillSeals v piece sealer
going_ends v piece sealer goes = record {
  session = goes.session;
  stands = goes.stands;
  on = goes.on;
  feeds = λ is_feeding. (let way = goes.way is_feeding in (arrives v piece goes.session way.0 way.1).end);
}

-- and no error says that it had stopped
pub going_fails : (v : SealingValue) (piece : List ℕ) (old new : Sealer) (rest : List ℕ) (answer : Result ℕ SealError) (error : SealError) → GoesOn v piece old rest → Stepped old new rest answer
    → answer ≡ Err error → error ≡ errors.Stopped → ⊥
going_fails v piece old new rest answer error goes step is stopped =
    let steps : sealing_step_answer goes.session rest ≡ Err error = sym (step.answers goes.session goes.stands) ∙ is in
    let off : true ≡ false = sym (stopped_only goes.session rest (steps ∙ ap (λ (e : SealError). Err e) stopped)) ∙ goes.on in cc

-- ---- it ends

abbrev work : FrameValue → ℕ → ℕ
work frame count = 2 * count + (if length frame.text == frame.size then 1 else 0)

at_most : (b : Bool) → (if b then 1 else 0) ≤ 1
at_most true = omega arith
at_most false = omega arith

-- some bytes were taken
pub takes_less : (old new : FrameValue) (count used : ℕ) → 1 ≤ used → used ≤ count → work new (count - used) < work old count
takes_less old new count used some few = omega (arith, at_most (length new.text == new.size))

-- a full frame was given
pub gives_less : (old new : FrameValue) (count : ℕ) → 1 ≤ new.size → length old.text ≡ old.size → new.text ≡ [] → work new (count - 0) < work old count
gives_less old new count some full none =
    let before : (length old.text == old.size) ≡ true = eq-eqb (length old.text) old.size full in
    let now : (length new.text == new.size) ≡ false = ne_eqb (length new.text) new.size (λ e. omega (arith, e, ap length none)) in
    rw (before, now) (omega arith)

-- while not all declared bytes came, some of some can be taken
pub some_within : (declared : Option Declared) (count : ℕ) → spent declared ≡ None → 1 ≤ count → 1 ≤ declared_within declared count
some_within None count unspent some = some
some_within (Some d) count unspent some = by_test (d.left == 0) refl unspent
  where
    by_test : (b : Bool) → (d.left == 0) ≡ b → (if b then Some d.whole else None) ≡ None → 1 ≤ declared_within (Some d) count
    by_test true none is = absurd (cc)
    by_test false more is = let left = eqb-false d.left 0 more in omega (arith, left)
