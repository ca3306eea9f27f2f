-- What a step of a body answers behind the last unit.
use Rattle.std.proofs.Common.{◌≡◌, ◌≢◌, ℕ, List, length, Bool, true, false, Result, Ok, Err, refl, subst, sym}
use Rattle.std.proofs.lemmas.Bool.{eq-eqb, ne_eqb}
use Rattle.std.specs.Prelude.{◌==◌, if◌then◌else◌}
use Rattle.esdk_fields.specs.declared.faults.Fault.TheVariants.{TrailingBytes}
use Rattle.stream_open.specs.declared.body.Body.{Body}
use Rattle.stream_open.specs.declared.errors.OpenError.{OpenError}
use Rattle.stream_open.specs.declared.errors.OpenError.TheVariants as errors
use Rattle.stream_open.specs.Body.{answer_behind, body_answer, AnswersBody}

pub ended_empty : (body : Body) (piece : List ℕ) → body.ended ≡ true → length piece ≡ 0 → body_answer body piece ≡ Ok 0
unfolding body_answer
ended_empty body piece ended none = rw (ended, eq-eqb (length piece) 0 none) refl

pub ended_trailing : (body : Body) (piece : List ℕ) → body.ended ≡ true → length piece ≢ 0 → body_answer body piece ≡ Err (errors.Fault TrailingBytes)
unfolding body_answer
ended_trailing body piece ended some = rw (ended, ne_eqb (length piece) 0 some) refl

answers_if : (body : Body) (piece : List ℕ) (b : Bool) → body_answer body piece ≡ (if b then Ok 0 else Err (errors.Fault TrailingBytes)) → AnswersBody body piece (if b then Ok 0 else Err (errors.Fault TrailingBytes))
answers_if body piece true e = e
answers_if body piece false e = e

-- behind the last unit
pub answers_behind : (body : Body) (piece : List ℕ) (r : Result ℕ OpenError) → body.ended ≡ true → r ≡ answer_behind piece → AnswersBody body piece r
unfolding body_answer
answers_behind body piece r ended is = subst (AnswersBody body piece) (sym is) (answers_if body piece (length piece == 0) (rw ended refl))
