-- A sealer that is fed a piece step by step, and what it gives, which a receiver takes.
use Rattle.std.proofs.Common.{◌≡◌, ◌∙◌, ℕ, ◌≤◌, List, [], ◌++◌, length, drop, Bool, true, false, ◌==◌, Result, Ok, Err, refl, sym, ap, subst, arith, length-append}
use Rattle.std.proofs.lemmas.Bool.{eqb-false, eqb-true}
use Rattle.std.proofs.lemmas.List.{nil_from_length}
use Rattle.esdk_base.specs.declared.receiver.FeedError.{FeedError}
use Rattle.esdk_base.specs.declared.receiver.FeedError.TheVariants as feeds
use Rattle.stream_seal.specs.declared.errors.SealError.{SealError}
use Rattle.stream_seal.specs.declared.errors.SealError.TheVariants as errors
use Rattle.stream_seal.specs.declared.session.Sealer.{Sealer}
use Rattle.stream_seal.specs.Feeding.{IsFeeding}
use Rattle.stream_seal.specs.Receiving.{SealerFedWhole, FeedsOn, FeedsSealerPiece, SealerFinishes, SealerGivesOut}
use Rattle.stream_seal.specs.Session.{SealingValue, IsNotMemory, sealing_finish_answer, sealing_finished, sealing_stepped}
use Rattle.stream_seal.specs.Stands.{Stands, FeedsStill}
use Rattle.stream_seal.proofs.Feeding.{goes_on}
use Rattle.stream_seal.proofs.Standing.{finish_on, finish_stopped}
use Rattle.stream_seal.proofs.FedSealers.{Stepped, still_arrives, still_begins, still_fails}

-- ---- what is left of the piece

pub some_left : (rest : List ℕ) (empty : Bool) → empty ≡ (length rest == 0) → empty ≡ false
    → 1 ≤ length rest
some_left rest empty is not_empty =
    let more = eqb-false (length rest) 0 (sym is ∙ not_empty) in omega (arith, more)

pub none_left : (rest : List ℕ) (empty : Bool) → empty ≡ (length rest == 0) → empty ≡ true
    → rest ≡ []
none_left rest empty is is_empty =
    nil_from_length rest (eqb-true (length rest) 0 (sym is ∙ is_empty))

-- something is left, and nothing can be
pub some_of_none : {So : Type 0} (rest : List ℕ) (empty : Bool) → empty ≡ (length rest == 0)
    → empty ≡ false → rest ≡ [] → So
some_of_none rest empty is not_empty none =
    absurd (let more = some_left rest empty is not_empty in omega (arith, more, ap length none))

-- ---- a session that is finished

-- once, where it hadn't stopped
finishes_on : (v : SealingValue) (b : Bool) → v.stopped ≡ b → sealing_finish_answer v ≡ Ok tt
    → v.stopped ≡ false
finishes_on v false is answer = is
finishes_on v true is answer = absurd (let stopped = sym (finish_stopped v is) ∙ answer in cc)

finishes_not : (v : SealingValue) (b : Bool) (error : SealError) → v.stopped ≡ b
    → sealing_finish_answer v ≡ Err error → (v.stopped ≡ true) × (errors.Stopped ≡ error)
finishes_not v true error is answer =
    let stopped : Err errors.Stopped ≡ Err error = sym (finish_stopped v is) ∙ answer in (is, cc)
finishes_not v false error is answer = absurd (let on = sym (finish_on v is) ∙ answer in cc)

-- ---- a receiver that takes what is given

module _ {R E : Type 0} (takes : R → R → List ℕ → Type 0) (fails : R → R → List ℕ → E → Type 0)
  where
    -- This is left of the piece, and the receiver took what was given since.
    pub record Feeding (v : SealingValue) (piece : List ℕ) (output now : R) (sealer : Sealer)
        (rest : List ℕ) : Type 0 where
      pub given : List ℕ
      pub still : FeedsStill v piece sealer rest given
      pub taken : takes output now given

    pub feeding_none : ((r : R) → takes r r []) → (v : SealingValue) (piece : List ℕ) (output : R)
        (sealer : Sealer) → Stands sealer v → IsFeeding v piece → Feeding v piece output output sealer piece
    feeding_none nothing v piece output sealer stands is = record {
      given = [];
      still = still_begins v piece sealer stands is;
      taken = nothing output;
    }

    -- nothing is left
    pub feeding_ends : (v : SealingValue) (piece : List ℕ) (output now : R) (sealer : Sealer)
        → Feeding v piece output now sealer [] → SealerFedWhole takes v piece output now sealer
    feeding_ends v piece output now sealer feeding =
        let end = still_arrives v piece sealer feeding.given feeding.still in
        record {
          stands = end.stands;
          none = end.why;
          taken = subst (λ (out : List ℕ). takes output now out) end.out feeding.taken;
        }

    -- the receiver failed behind what it took
    pub fails_on : (v : SealingValue) (piece : List ℕ) (old mid now : R) (sealer : Sealer)
        (given bytes : List ℕ) (error : FeedError SealError E) → ((r s t : R) (xs ys : List ℕ) (e : E)
        → takes r s xs → fails s t ys e → fails r t (xs ++ ys) e) → takes old mid given
        → SealerGivesOut {T = Unit {0}} takes fails bytes mid now (Err error)
        → FeedsOn {T = Unit {0}} takes fails v piece old now sealer (Err error)
    fails_on v piece old mid now sealer given bytes (feeds.Receiver error) behind took gives =
        (given ++ bytes, behind old mid now given bytes error took gives.1)
    fails_on v piece old mid now sealer given bytes (feeds.Machine error) behind took gives =
        absurd gives

    -- or a byte was refused
    pub refuses_on : (v : SealingValue) (piece : List ℕ) (old now : R) (sealer : Sealer)
        (given : List ℕ) (error : SealError) → takes old now given → (error ≡ errors.Stopped → ⊥)
        → IsNotMemory error
        → FeedsOn {T = Unit {0}} takes fails v piece old now sealer (Err (feeds.Machine error))
    refuses_on v piece old now sealer given (errors.Refusal refusal) took on known = (given, took)
    refuses_on v piece old now sealer given errors.Stopped took on known = on refl
    refuses_on v piece old now sealer given errors.Memory took on known = known

    -- the final frame was handed to the receiver
    gives_last : (v : SealingValue) (old now : R) (r : Result (Unit {0}) (FeedError SealError E))
        → v.stopped ≡ false → SealerGivesOut takes fails (sealing_finished v).out old now r
        → SealerFinishes takes fails v old now r
    gives_last v old now (Ok done) on gives = (on, gives.0)
    gives_last v old now (Err (feeds.Receiver error)) on gives = (on, gives.0, gives.1)
    gives_last v old now (Err (feeds.Machine error)) on gives = absurd gives

    pub finish_gives : (v : SealingValue) (new : Sealer) (answer : Result (Unit {0}) SealError)
        (old now : R) (r : Result (Unit {0}) (FeedError SealError E)) → answer ≡ sealing_finish_answer v
        → answer ≡ Ok tt → Stands new (sealing_finished v)
        → ((w : SealingValue) → Stands new w → SealerGivesOut takes fails w.out old now r)
        → SealerFinishes takes fails v old now r
    finish_gives v new answer old now r answers is stands gives =
        gives_last v old now r (finishes_on v v.stopped refl (sym answers ∙ is))
        (gives (sealing_finished v) stands)

    pub finish_fails : (v : SealingValue) (answer : Result (Unit {0}) SealError) (error : SealError)
        (old : R) → answer ≡ sealing_finish_answer v → answer ≡ Err error
        → SealerFinishes {T = Unit {0}} takes fails v old old (Err (feeds.Machine error))
    finish_fails v answer error old answers is =
        let stopped = finishes_not v v.stopped error refl (sym answers ∙ is) in
        subst (λ (e : SealError).
        SealerFinishes {T = Unit {0}} takes fails v old old (Err (feeds.Machine e))) stopped.1
        (stopped.0, refl)

    module _ (v : SealingValue) (piece : List ℕ) (output mid : R) (old new : Sealer)
        (rest : List ℕ) (answer : Result ℕ SealError) (feeding : Feeding v piece output mid old rest)
        (some : 1 ≤ length rest) (step : Stepped old new rest answer) where
      -- a step used so many bytes
      steps : (used : ℕ) → answer ≡ Ok used
          → FeedsStill v piece new (drop used rest)
          (feeding.given ++ (sealing_stepped feeding.still.now rest).out)
      steps used is =
          let now : SealingValue = feeding.still.now in
          record {
            now = sealing_stepped now rest;
            stands = step.stands now feeding.still.stands;
            way = goes_on v piece now rest feeding.given used feeding.still.way some
                (sym (step.answers now feeding.still.stands) ∙ is);
          }

      -- and what it gave was taken
      pub feeding_more : ((r s t : R) (xs ys : List ℕ) → takes r s xs → takes s t ys
          → takes r t (xs ++ ys)) → (now : R) (used : ℕ) → answer ≡ Ok used
          → ((w : SealingValue) → Stands new w
          → SealerGivesOut {T = Unit {0}} takes fails w.out mid now (Ok tt))
          → Feeding v piece output now new (drop used rest)
      unfolding steps
      feeding_more more now used is gives =
          let still = steps used is in
          record {
            given = feeding.given ++ still.now.out;
            still = still;
            taken = more output mid now feeding.given still.now.out feeding.taken
                (gives still.now still.stands).0;
          }

      -- or the receiver failed at it
      pub receiver_fails : ((r s t : R) (xs ys : List ℕ) (e : E) → takes r s xs → fails s t ys e
          → fails r t (xs ++ ys) e) → (now : R) (used : ℕ) (error : FeedError SealError E)
          → answer ≡ Ok used → ((w : SealingValue) → Stands new w
          → SealerGivesOut {T = Unit {0}} takes fails w.out mid now (Err error))
          → FeedsSealerPiece {T = Unit {0}} takes fails v piece output now new (Err error)
      unfolding steps
      receiver_fails behind now used (feeds.Receiver error) is gives =
          let still = steps used is in
          let failed = gives still.now still.stands in
          record {
            rest = drop used rest;
            given = feeding.given ++ still.now.out;
            some = omega (arith, failed.0, length-append feeding.given still.now.out);
            still = still;
            failed = behind output mid now feeding.given still.now.out error feeding.taken failed.1;
          }
      receiver_fails behind now used (feeds.Machine error) is gives =
          let still = steps used is in absurd (gives still.now still.stands)

      -- a step failed
      pub step_fails : (error : SealError) → answer ≡ Err error
          → FeedsSealerPiece {T = Unit {0}} takes fails v piece output mid new (Err (feeds.Machine error))
      step_fails (errors.Refusal refusal) is =
          let end = still_fails v piece old new rest feeding.given answer (errors.Refusal refusal)
          feeding.still some step is in
          record {
            stands = end.stands;
            why = end.why;
            taken = subst (λ (out : List ℕ). takes output mid out) end.out feeding.taken;
          }
      step_fails errors.Stopped is =
          absurd (still_fails v piece old new rest feeding.given answer errors.Stopped feeding.still
          some step is)
      step_fails errors.Memory is =
          absurd (still_fails v piece old new rest feeding.given answer errors.Memory feeding.still
          some step is)
