-- Which error a step answers, and when a session is stopped.
use Rattle.std.proofs.Common.{◌≡◌, ◌≢◌, ℕ, ◌+◌, ◌-◌, ◌*◌, ◌≤◌, ◌⊎◌, List, [], ◌∷◌, length, min, Bool, true, false, ◌==◌, ◌||◌, Option, Some, None, IfSome, Ok, Err, if◌then◌else◌, refl, sym, ap, subst, ◌∙◌, arith, inl, inr}
use Rattle.std.specs.Prelude.{is_err}
use Rattle.std.proofs.Math.Nat.{mul-le-mul_right}
use Rattle.std.proofs.lemmas.Bool.{eqb-true, eqb-false, eq-eqb, cases_lt}
use Rattle.std.proofs.lemmas.List.{length-drop}
use Rattle.esdk_fields.specs.declared.refusals.Refusal.TheVariants as refusals
use Rattle.keyring_trait.specs.Materials.{EncMaterialsValue}
use Rattle.stream_seal.specs.declared.errors.SealError.{SealError}
use Rattle.stream_seal.specs.declared.errors.SealError.TheVariants as errors
use Rattle.stream_seal.specs.Session.{SealingValue, Doing, Stops, Gives, Takes, held, spent_of, within_of, doing, doing_full, doing_on, answer_of, after_doing, new_sealing_session, sealing_finished, sealing_step_answer}
use Rattle.stream_seal.specs.Start.{most_frames, most_text}
use Rattle.stream_seal.specs.Laws.{SealingEvent, Step, Finish, after_sealing_event, after_sealing_events, is_finished_by, sealing_is_stopped_by, stops, given_by_sealing, IsOffered, IsFull, AnswersExactly, SealingStopsExactlyOf}
use Rattle.stream_seal.proofs.Doing.{within_most, doing_stopped, doing_spent, doing_last, GoesOn}
use Rattle.stream_seal.proofs.Standing.{finished_stopped, finished_on}
use Rattle.stream_seal.proofs.AnyCut.{IsKept, kept_all, kept_none, same_all}

-- ---- stopped

or_true : (b : Bool) → true ≡ b || true
or_true true = refl
or_true false = refl

or_false : (b : Bool) → b ≡ b || false
or_false true = refl
or_false false = refl

stopped_doing : (v : SealingValue) (piece : List ℕ) (d : Doing) → (after_doing v piece d).stopped ≡ v.stopped || is_err (answer_of d)
stopped_doing v piece (Stops error) = or_true v.stopped
stopped_doing v piece Gives = or_false v.stopped
stopped_doing v piece (Takes count) = or_false v.stopped

stopped_finished : (v : SealingValue) (b : Bool) → v.stopped ≡ b → (sealing_finished v).stopped ≡ true
stopped_finished v true stopped = ap (λ (w : SealingValue). w.stopped) (finished_stopped v stopped) ∙ stopped
stopped_finished v false on = ap (λ (w : SealingValue). w.stopped) (finished_on v on)

stopped_event : (v : SealingValue) (e : SealingEvent) → (after_sealing_event v e).stopped ≡ v.stopped || stops v e
stopped_event v (Step piece) = stopped_doing v piece (doing v piece)
stopped_event v Finish = stopped_finished v v.stopped refl ∙ or_true v.stopped

or_assoc : (a b c : Bool) → (a || b) || c ≡ a || (b || c)
or_assoc true b c = refl
or_assoc false b c = refl

stopped_all : (es : List SealingEvent) (v : SealingValue) → (after_sealing_events es v).stopped ≡ v.stopped || sealing_is_stopped_by es v
unfolding after_sealing_events sealing_is_stopped_by
stopped_all [] v = or_false v.stopped
stopped_all (e ∷ es) v =
    stopped_all es (after_sealing_event v e) ∙ ap (λ (b : Bool). b || sealing_is_stopped_by es (after_sealing_event v e)) (stopped_event v e)
    ∙ or_assoc v.stopped (stops v e) (sealing_is_stopped_by es (after_sealing_event v e))

-- ---- which error

-- what a step's answer says of the session, case by case
pub record IsOver (v : SealingValue) (piece : List ℕ) (whole : ℕ) : Type 0 where
  pub offered : IsOffered v piece
  pub spent : spent_of v.declared (length v.taken) ≡ Some whole

pub record IsMany (v : SealingValue) (piece : List ℕ) : Type 0 where
  pub goes : GoesOn v piece
  pub full : length (held v) ≡ v.size
  pub last : v.handed + 1 ≡ most_frames

abbrev Tells : SealingValue → List ℕ → Doing → Type 0
Tells v piece (Stops (errors.Refusal (refusals.OverDeclared whole))) = IsOver v piece whole
Tells v piece (Stops (errors.Refusal refusals.TooManyFrames)) = IsMany v piece
Tells v piece (Stops (errors.Refusal refusal)) = ⊥
Tells v piece (Stops errors.Stopped) = v.stopped ≡ true
Tells v piece (Stops errors.Memory) = ⊥
Tells v piece Gives = Unit {0}
Tells v piece (Takes count) = Unit {0}

either : (v : SealingValue) (piece : List ℕ) (b : Bool) (x y : Doing) → (b ≡ true → Tells v piece x) → (b ≡ false → Tells v piece y) → Tells v piece (if b then x else y)
either v piece true x y first second = first refl
either v piece false x y first second = second refl

tells_on : (v : SealingValue) (piece : List ℕ) (o : Option ℕ) → v.stopped ≡ false → length piece ≢ 0 → spent_of v.declared (length v.taken) ≡ o → Tells v piece (doing_on o v piece)
tells_on v piece (Some whole) on some spent = record { offered = record { on = on; some = omega (arith, some) }; spent = spent }
tells_on v piece None on some unspent =
    either v piece (length (held v) == v.size) (doing_full v) _
    (λ full. either v piece (v.handed + 1 == most_frames) (Stops (errors.Refusal refusals.TooManyFrames)) Gives
    (λ last. record {
      goes = record { on = on; some = some; unspent = unspent };
      full = eqb-true (length (held v)) v.size full;
      last = eqb-true (v.handed + 1) most_frames last;
    })
    (λ _. tt))
    (λ _. tt)

tells : (v : SealingValue) (piece : List ℕ) → Tells v piece (doing v piece)
unfolding doing
tells v piece =
    either v piece v.stopped (Stops errors.Stopped) _ (λ stopped. stopped)
    (λ on. either v piece (length piece == 0) (Takes 0) _ (λ _. tt)
    (λ some. tells_on v piece (spent_of v.declared (length v.taken)) on (eqb-false (length piece) 0 some) refl))

-- an answer is an error only where the step stops
stops_by : (v : SealingValue) (piece : List ℕ) (d : Doing) (error : SealError) → answer_of d ≡ Err error → d ≡ Stops error
stops_by v piece (Stops e) error is = let same : e ≡ error = cc in ap Stops same
stops_by v piece Gives error is = absurd (cc)
stops_by v piece (Takes count) error is = absurd (cc)

told : (v : SealingValue) (piece : List ℕ) (error : SealError) → sealing_step_answer v piece ≡ Err error → Tells v piece (Stops error)
told v piece error is = subst (λ d. Tells v piece d) (stops_by v piece (doing v piece) error is) (tells v piece)

-- a session that goes on isn't said to have stopped
pub stopped_only : (v : SealingValue) (piece : List ℕ) → sealing_step_answer v piece ≡ Err errors.Stopped → v.stopped ≡ true
stopped_only v piece is = told v piece errors.Stopped is

answered : (v : SealingValue) (piece : List ℕ) (error : SealError) → doing v piece ≡ Stops error → sealing_step_answer v piece ≡ Err error
answered v piece error is = ap answer_of is

-- ---- the declared length

spent_all : (declared : Option ℕ) (taken whole : ℕ) → IfSome declared (λ most. taken ≤ most) → spent_of declared taken ≡ Some whole → (declared ≡ Some whole) × (taken ≡ whole)
spent_all None taken whole within spent = absurd (cc)
spent_all (Some most) taken whole within spent = by_test (most - taken == 0) refl spent
  where
    by_test : (b : Bool) → (most - taken == 0) ≡ b → (if b then Some most else None) ≡ Some whole → (Some most ≡ Some whole) × (taken ≡ whole)
    by_test true none is = (is, (let same : most ≡ whole = cc in let e = eqb-true (most - taken) 0 none in omega (arith, same, e)))
    by_test false more is = absurd (cc)

all_spent : (declared : Option ℕ) (taken whole : ℕ) → declared ≡ Some whole → taken ≡ whole → spent_of declared taken ≡ Some whole
all_spent None taken whole is all = absurd (cc)
all_spent (Some most) taken whole is all = let same : most ≡ whole = cc in let test : (most - taken == 0) ≡ true = eq-eqb (most - taken) 0 (omega (arith, same, all)) in rw test is

unspent_none : (o : Option ℕ) → ((whole : ℕ) → o ≡ Some whole → ⊥) → o ≡ None
unspent_none None never = refl
unspent_none (Some whole) never = absurd (never whole refl)

-- ---- what a step takes

abbrev TakesSome : List ℕ → Doing → Type 0
TakesSome piece (Stops error) = Unit {0}
TakesSome piece Gives = Unit {0}
TakesSome piece (Takes count) = (1 ≤ count) × (count ≤ length piece)

which : (piece : List ℕ) (b : Bool) (x y : Doing) → (b ≡ true → TakesSome piece x) → (b ≡ false → TakesSome piece y) → TakesSome piece (if b then x else y)
which piece true x y first second = first refl
which piece false x y first second = second refl

pub within_some : (declared : Option ℕ) (taken count : ℕ) → spent_of declared taken ≡ None → 1 ≤ count → 1 ≤ within_of declared taken count
within_some None taken count unspent some = some
within_some (Some whole) taken count unspent some = by_test (whole - taken == 0) refl unspent
  where
    by_test : (b : Bool) → (whole - taken == 0) ≡ b → (if b then Some whole else None) ≡ None → 1 ≤ min (whole - taken) count
    by_test true none is = absurd (cc)
    by_test false more is = let left : whole - taken ≢ 0 = eqb-false (whole - taken) 0 more in omega (arith, left)

takes_on : (v : SealingValue) (piece : List ℕ) (o : Option ℕ) → length (held v) ≤ v.size → 1 ≤ length piece → spent_of v.declared (length v.taken) ≡ o → TakesSome piece (doing_on o v piece)
takes_on v piece (Some whole) short some spent = tt
takes_on v piece None short some unspent =
    let count : ℕ = min (v.size - length (held v)) (length piece) in
    which piece (length (held v) == v.size) (doing_full v) (Takes (within_of v.declared (length v.taken) count))
    (λ _. which piece (v.handed + 1 == most_frames) (Stops (errors.Refusal refusals.TooManyFrames)) Gives (λ _. tt) (λ _. tt))
    (λ new_session.
    let room : length (held v) ≢ v.size = eqb-false (length (held v)) v.size new_session in
    (within_some v.declared (length v.taken) count unspent (omega (arith, room)), omega (arith, within_most v.declared (length v.taken) count)))

takes_some : (v : SealingValue) (piece : List ℕ) → length (held v) ≤ v.size → 1 ≤ length piece → TakesSome piece (doing v piece)
unfolding doing
takes_some v piece short some =
    which piece v.stopped (Stops errors.Stopped) _ (λ _. tt)
    (λ _. which piece (length piece == 0) (Takes 0) _ (λ none. absurd (omega (arith, eqb-true (length piece) 0 none)))
    (λ _. takes_on v piece (spent_of v.declared (length v.taken)) short some refl))

progresses_by : (v : SealingValue) (piece : List ℕ) (d : Doing) (count : ℕ) → TakesSome piece d → answer_of d ≡ Ok count
    → ((1 ≤ count) × (count ≤ length piece)) ⊎ ((count ≡ 0) × ((after_doing v piece d).handed ≡ v.handed + 1))
progresses_by v piece (Stops error) count takes is = absurd (cc)
progresses_by v piece Gives count takes is = let none : count ≡ 0 = cc in inr (none, refl)
progresses_by v piece (Takes n) count takes is = let same : n ≡ count = cc in inl (omega (arith, takes.0, same), omega (arith, takes.1, same))

-- ---- of a session that began, and took and gave what fits together

many_full : (v : SealingValue) (piece : List ℕ) (ended : Bool) (given : List ℕ) → IsKept v ended given → IsMany v piece → IsOffered v piece × IsFull v
many_full v piece ended given kept many =
    let held_is : length (held v) ≡ length v.taken - v.handed * v.size = length-drop (v.handed * v.size) v.taken in
    let product : (v.handed + 1) * v.size ≡ v.handed * v.size + v.size = omega arith in
    let all : (v.handed + 1) * v.size ≡ most_text v.size = ap (λ (n : ℕ). n * v.size) many.last in (
      record { on = many.goes.on; some = omega (arith, many.goes.some) },
      record {
        all = omega (arith, many.full, kept.low);
        unspent = λ whole spent. absurd (some_none whole (sym (all_spent v.declared (length v.taken) whole spent.declared spent.all) ∙ many.goes.unspent));
      },
    )
  where
    some_none : (x : ℕ) → Some x ≡ None → ⊥
    some_none x e = cc

full_many : (v : SealingValue) (piece : List ℕ) (ended : Bool) (given : List ℕ) → 1 ≤ v.size → IsKept v ended given → IsOffered v piece → IsFull v → IsMany v piece
full_many v piece ended given wide kept offered full =
    let held_is : length (held v) ≡ length v.taken - v.handed * v.size = length-drop (v.handed * v.size) v.taken in
    let product : (v.handed + 1) * v.size ≡ v.handed * v.size + v.size = omega arith in
    let last : v.handed + 1 ≡ most_frames = elim (cases_lt (v.handed + 1) most_frames) [
      | inl fewer ↦
          (let more : (v.handed + 1 + 1) * v.size ≤ most_frames * v.size = mul-le-mul_right v.size (omega arith) in
          let next : (v.handed + 1 + 1) * v.size ≡ (v.handed + 1) * v.size + v.size = omega arith in
          absurd (omega (arith, full.all, kept.high)))
      | inr most ↦ omega (arith, kept.numbered)
    ] in
    let all : (v.handed + 1) * v.size ≡ most_text v.size = ap (λ (n : ℕ). n * v.size) last in
    record {
      goes = record {
        on = offered.on;
        some = λ none. omega (arith, offered.some);
        unspent = unspent_none (spent_of v.declared (length v.taken))
            (λ whole spent. let is = spent_all v.declared (length v.taken) whole kept.within spent in full.unspent whole (record { declared = is.0; all = is.1 }));
      };
      full = omega (arith, full.all);
      last = last;
    }

refuses : (v : SealingValue) (piece : List ℕ) (ended : Bool) (given : List ℕ) → 1 ≤ v.size → IsKept v ended given → AnswersExactly v piece
refuses v piece ended given wide kept = record {
  over = λ whole. (
    (λ is. let over = told v piece (errors.Refusal (refusals.OverDeclared whole)) is in let spent = spent_all v.declared (length v.taken) whole kept.within over.spent in
        (over.offered, record { declared = spent.0; all = spent.1 })),
    (λ (offered, spent). answered v piece (errors.Refusal (refusals.OverDeclared whole))
        (doing_spent v piece whole offered.on (λ none. omega (arith, offered.some)) (all_spent v.declared (length v.taken) whole spent.declared spent.all))),
  );
  many = (
    (λ is. many_full v piece ended given kept (told v piece (errors.Refusal refusals.TooManyFrames) is)),
    (λ (offered, full). let many = full_many v piece ended given wide kept offered full in
        answered v piece (errors.Refusal refusals.TooManyFrames) (doing_last v piece many.goes many.full many.last)),
  );
  stopped = (
    (λ is. stopped_only v piece is),
    (λ stopped. answered v piece errors.Stopped (doing_stopped v piece stopped)),
  );
  goes = λ count offered is.
      progresses_by v piece (doing v piece) count
      (takes_some v piece (omega (arith, length-drop (v.handed * v.size) v.taken, kept.low, kept.high)) offered.some) is;
}

pub errors_exact : (m : EncMaterialsValue) (declared : Option ℕ) (size : ℕ) (id : List ℕ) (events : List SealingEvent) → 1 ≤ size → SealingStopsExactlyOf (new_sealing_session m declared size id) events
errors_exact m declared size id events wide =
    let begun : SealingValue = new_sealing_session m declared size id in
    record {
      stopped = stopped_all events begun;
      answers = λ piece. refuses (after_sealing_events events begun) piece (is_finished_by events begun) (given_by_sealing events begun) (omega (arith, (same_all events begun).size))
          (kept_all events begun false [] (kept_none m declared size id));
    }
