-- What a step does.
use Rattle.std.proofs.Common.{◌≡◌, ◌≢◌, ℕ, ◌+◌, ◌-◌, ◌≤◌, List, length, min, Bool, true, false, ◌==◌, Option, Some, None, IfSome, if◌then◌else◌, refl, ap, ◌∙◌, arith}
use Rattle.std.proofs.lemmas.Bool.{eqb-true, eqb-false, eq-eqb, ne_eqb}
use Rattle.esdk_fields.specs.declared.refusals.Refusal.TheVariants as refusals
use Rattle.stream_seal.specs.declared.errors.SealError.TheVariants as errors
use Rattle.stream_seal.specs.Session.{SealingValue, Doing, Stops, Gives, Takes, spent_of, within_of, held, doing, doing_full, doing_on}
use Rattle.stream_seal.specs.Start.{most_frames}

-- ---- each line

pub doing_stopped : (v : SealingValue) (piece : List ℕ) → v.stopped ≡ true → doing v piece ≡ Stops errors.Stopped
unfolding doing
doing_stopped v piece stopped = rw stopped refl

pub doing_empty : (v : SealingValue) (piece : List ℕ) → v.stopped ≡ false → length piece ≡ 0 → doing v piece ≡ Takes 0
unfolding doing
doing_empty v piece on empty = let test : (length piece == 0) ≡ true = eq-eqb (length piece) 0 empty in rw (on, test) refl

-- a piece that isn't empty, of a session that goes on
some_piece : (v : SealingValue) (piece : List ℕ) → v.stopped ≡ false → length piece ≢ 0 → doing v piece ≡ doing_on (spent_of v.declared (length v.taken)) v piece
unfolding doing
some_piece v piece on some = let test : (length piece == 0) ≡ false = ne_eqb (length piece) 0 some in rw (on, test) refl

pub doing_spent : (v : SealingValue) (piece : List ℕ) (whole : ℕ) → v.stopped ≡ false → length piece ≢ 0 → spent_of v.declared (length v.taken) ≡ Some whole
    → doing v piece ≡ Stops (errors.Refusal (refusals.OverDeclared whole))
doing_spent v piece whole on some spent = some_piece v piece on some ∙ ap (λ o. doing_on o v piece) spent

-- A session that goes on with a piece that isn't empty, where more bytes may come.
pub record GoesOn (v : SealingValue) (piece : List ℕ) : Type 0 where
  pub on : v.stopped ≡ false
  pub some : length piece ≢ 0
  pub unspent : spent_of v.declared (length v.taken) ≡ None

on_goes : (v : SealingValue) (piece : List ℕ) → GoesOn v piece → doing v piece ≡ doing_on None v piece
on_goes v piece goes = some_piece v piece goes.on goes.some ∙ ap (λ o. doing_on o v piece) goes.unspent

pub doing_takes : (v : SealingValue) (piece : List ℕ) → GoesOn v piece → length (held v) ≢ v.size
    → doing v piece ≡ Takes (within_of v.declared (length v.taken) (min (v.size - length (held v)) (length piece)))
doing_takes v piece goes opened =
    let test : (length (held v) == v.size) ≡ false = ne_eqb (length (held v)) v.size opened in on_goes v piece goes ∙ rw test refl

full_goes : (v : SealingValue) (piece : List ℕ) → GoesOn v piece → length (held v) ≡ v.size
    → doing v piece ≡ doing_full v
full_goes v piece goes full =
    let test : (length (held v) == v.size) ≡ true = eq-eqb (length (held v)) v.size full in on_goes v piece goes ∙ rw test refl

pub doing_last : (v : SealingValue) (piece : List ℕ) → GoesOn v piece → length (held v) ≡ v.size
    → v.handed + 1 ≡ most_frames → doing v piece ≡ Stops (errors.Refusal refusals.TooManyFrames)
doing_last v piece goes full last =
    let test : (v.handed + 1 == most_frames) ≡ true = eq-eqb (v.handed + 1) most_frames last in full_goes v piece goes full ∙ rw test refl

pub doing_gives : (v : SealingValue) (piece : List ℕ) → GoesOn v piece → length (held v) ≡ v.size
    → v.handed + 1 ≢ most_frames → doing v piece ≡ Gives
doing_gives v piece goes full more =
    let test : (v.handed + 1 == most_frames) ≡ false = ne_eqb (v.handed + 1) most_frames more in full_goes v piece goes full ∙ rw test refl

-- ---- what follows from what is done

-- A full frame is given.
pub record IsGiving (v : SealingValue) : Type 0 where
  pub on : v.stopped ≡ false
  pub full : length (held v) ≡ v.size
  pub more : v.handed + 1 ≢ most_frames

-- So many bytes are taken, as many as the frame and the declared length allow.
pub record IsTaking (v : SealingValue) (count : ℕ) : Type 0 where
  pub on : v.stopped ≡ false
  pub room : count ≤ v.size - length (held v)
  pub within : IfSome v.declared (λ whole. count ≤ whole - length v.taken)

abbrev pub DoesSo : SealingValue → Doing → Type 0
DoesSo v (Stops error) = Unit {0}
DoesSo v Gives = IsGiving v
DoesSo v (Takes count) = IsTaking v count

either : (v : SealingValue) (b : Bool) (x y : Doing) → (b ≡ true → DoesSo v x) → (b ≡ false → DoesSo v y) → DoesSo v (if b then x else y)
either v true x y first second = first refl
either v false x y first second = second refl

none_within : (declared : Option ℕ) (taken : ℕ) → IfSome declared (λ whole. 0 ≤ whole - taken)
none_within None taken = tt
none_within (Some whole) taken = omega arith

pub within_most : (declared : Option ℕ) (taken count : ℕ) → within_of declared taken count ≤ count
within_most None taken count = omega arith
within_most (Some whole) taken count = omega arith

within_declared : (declared : Option ℕ) (taken count : ℕ) → IfSome declared (λ whole. within_of declared taken count ≤ whole - taken)
within_declared None taken count = tt
within_declared (Some whole) taken count = omega arith

does_on : (v : SealingValue) (piece : List ℕ) (spent : Option ℕ) → v.stopped ≡ false → DoesSo v (doing_on spent v piece)
does_on v piece (Some whole) on = tt
does_on v piece None on =
    let count : ℕ = min (v.size - length (held v)) (length piece) in
    either v (length (held v) == v.size) (doing_full v) (Takes (within_of v.declared (length v.taken) count))
    (λ full. either v (v.handed + 1 == most_frames) (Stops (errors.Refusal refusals.TooManyFrames)) Gives (λ _. tt)
    (λ more. record { on = on; full = eqb-true (length (held v)) v.size full; more = eqb-false (v.handed + 1) most_frames more }))
    (λ _. record {
      on = on;
      room = omega (arith, within_most v.declared (length v.taken) count);
      within = within_declared v.declared (length v.taken) count;
    })

pub does : (v : SealingValue) (piece : List ℕ) → DoesSo v (doing v piece)
unfolding doing
does v piece =
    either v v.stopped (Stops errors.Stopped) (if length piece == 0 then Takes 0 else doing_on (spent_of v.declared (length v.taken)) v piece) (λ _. tt)
    (λ on. either v (length piece == 0) (Takes 0) (doing_on (spent_of v.declared (length v.taken)) v piece)
    (λ _. record { on = on; room = omega arith; within = none_within v.declared (length v.taken) })
    (λ _. does_on v piece (spent_of v.declared (length v.taken)) on))
