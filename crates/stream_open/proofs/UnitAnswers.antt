-- What a step within a unit answers.
use Rattle.std.proofs.Common.{◌≡◌, ℕ, ◌+◌, ◌<◌, ◌≤◌, true, false, Option, Some, None, List, ◌++◌, length, take, Result, Ok, Err, if◌then◌else◌, refl, sym, ap, subst, ◌∙◌, arith, inl, inr}
use Rattle.std.specs.Result.{IsErrAnd}
use Rattle.std.proofs.lemmas.Bool.{cases_lt}
use Rattle.std.proofs.lemmas.Result.{err_from_is_err_and}
use Rattle.std.proofs.lemmas.List.{append-nil}
use Rattle.esdk_fields.specs.declared.faults.Fault.{Fault}
use Rattle.esdk_fields.specs.declared.faults.Fault.TheVariants.{TrailingBytes}
use Rattle.esdk_fields.specs.Reading.{Reading, Read, Refused, Wanting}
use Rattle.esdk_fields.specs.Place.{Place}
use Rattle.frame_codec.specs.declared.kinds.UnitKind.{UnitKind}
use Rattle.frame_codec.specs.declared.kinds.UnitKind.TheVariants as kinds
use Rattle.frame_codec.specs.declared.unit_heads.UnitHead.{UnitHead}
use Rattle.frame_codec.specs.Unit.{Piece, piece_of}
use Rattle.frame_codec.specs.declared.unit_heads.Head.TheVariants as heads
use Rattle.frame_codec.specs.UnitHead.{IfRegular, head_of}
use Rattle.frame_codec.proofs.Units.{unit_refuses_head}
use Rattle.stream_open.specs.declared.body.Body.{Body}
use Rattle.stream_open.specs.declared.errors.OpenError.{OpenError}
use Rattle.stream_open.specs.declared.errors.OpenError.TheVariants as errors
use Rattle.stream_open.specs.Body.{AnswersBody, LacksRoom, BecameBody, GoesBehind, BodyGoesOn, StepsIn, StepsBody, is_wanting, open_unit, reach_in_piece, reading_answer, body_answer}
use Rattle.stream_open.proofs.Filling.{IsFilled}
use Rattle.stream_open.proofs.Reaching.{Reaches, reach_is}
use Rattle.frame_codec.specs.InPlace.{whole_reading}

-- the answer is what the unit is read as where the step ends
pub answer_at_reach : (old : Body) (piece : List ℕ) (n : ℕ) (r : Reading Piece) → old.ended ≡ false → Reaches old piece n → open_unit old (old.unit.held ++ take n piece) ≡ r
    → body_answer old piece ≡ reading_answer n r
unfolding body_answer
answer_at_reach old piece n r going reaches e =
    ap (λ b. if b then (if Rattle.std.specs.Prelude.nat_eq (length piece) 0 then Ok 0 else Err (errors.Fault TrailingBytes))
    else reading_answer (reach_in_piece old piece) (open_unit old (old.unit.held ++ take (reach_in_piece old piece) piece))) going
    ∙ ap (λ (m : ℕ). reading_answer m (open_unit old (old.unit.held ++ take m piece))) (reach_is old piece n reaches)
    ∙ ap (reading_answer n) e

-- none of the piece was used where the unit isn't whole yet
pub used_some : (old : Body) (piece : List ℕ) (n : ℕ) (r : Reading Piece) → open_unit old old.unit.held ≡ Wanting → open_unit old (old.unit.held ++ take n piece) ≡ r → is_wanting r ≡ false → 1 ≤ n
used_some old piece n r waits e other =
    elim (cases_lt n 1) [
      | inl none ↦
          (let zero_is : n ≡ 0 = omega arith in
          let same : old.unit.held ++ take n piece ≡ old.unit.held = ap (λ (m : ℕ). old.unit.held ++ take m piece) zero_is ∙ append-nil old.unit.held in
          absurd (true_false (sym (ap is_wanting (sym e ∙ ap (open_unit old) same ∙ waits)) ∙ other)))
      | inr some ↦ some
    ]
  where
    true_false : true ≡ false → ⊥
    true_false e = cc

-- a fault before the content
pub refused_answer : (old : Body) (piece : List ℕ) (used : ℕ) (fault : Fault) → old.ended ≡ false → open_unit old old.unit.held ≡ Wanting → used ≤ length piece
    → ((k : ℕ) → k < used → open_unit old (old.unit.held ++ take k piece) ≡ Wanting)
    → head_of old.content old.number old.max_unit (old.unit.held ++ take used piece) ≡ heads.Refused fault → body_answer old piece ≡ Err (errors.Fault fault)
refused_answer old piece used fault going waits within before e =
    let r = unit_refuses_head old.content old.max_unit old.key old.message_id old.number (old.unit.held ++ take used piece) fault e in
    let is : open_unit old (old.unit.held ++ take used piece) ≡ Refused fault (0 + r.0) = r.2 0 in
    answer_at_reach old piece used (Refused fault (0 + r.0)) going
    (record { within = within; some = λ _. used_some old piece used (Refused fault (0 + r.0)) waits is refl; before = before; here = inr (ap is_wanting is) }) is

-- all of the piece is used, and the unit wants more
pub wanting_answer : (old : Body) (piece : List ℕ) (n : ℕ) → old.ended ≡ false → n ≡ length piece
    → ((k : ℕ) → k < n → open_unit old (old.unit.held ++ take k piece) ≡ Wanting) → open_unit old (old.unit.held ++ take n piece) ≡ Wanting → body_answer old piece ≡ Ok n
wanting_answer old piece n going all before is =
    answer_at_reach old piece n Wanting going (record { within = omega arith; some = λ some. omega arith; before = before; here = inl all }) is

-- and the unit goes on
pub wanting_steps : (old now : Body) (piece : List ℕ) (n : ℕ) → old.ended ≡ false → open_unit old (old.unit.held ++ take n piece) ≡ Wanting → IsFilled old piece n now → StepsBody old piece n now
wanting_steps old now piece n going is filled =
    subst (λ b. StepsIn b old (old.unit.held ++ take n piece) now) (sym going)
    (subst (λ (r : Reading Piece). BecameBody old (old.unit.held ++ take n piece) r now) (sym is) (filled.number, filled.ended ∙ going, filled.held, filled.out))

-- ---- a unit whose last byte came

pub whole_known : (head : UnitHead) (bytes : List ℕ) (o : Option (List ℕ)) → is_wanting (whole_reading head bytes o) ≡ false
whole_known head bytes (Some text) = refl
whole_known head bytes None = refl

pub whole_answer : (old : Body) (piece : List ℕ) (n : ℕ) (head : UnitHead) (o : Option (List ℕ)) → old.ended ≡ false → open_unit old old.unit.held ≡ Wanting → n ≤ length piece
    → ((k : ℕ) → k < n → open_unit old (old.unit.held ++ take k piece) ≡ Wanting)
    → open_unit old (old.unit.held ++ take n piece) ≡ whole_reading head (old.unit.held ++ take n piece) o → body_answer old piece ≡ reading_answer n (whole_reading head (old.unit.held ++ take n piece) o)
whole_answer old piece n head o going waits within before is =
    let known : is_wanting (whole_reading head (old.unit.held ++ take n piece) o) ≡ false = whole_known head (old.unit.held ++ take n piece) o in
    answer_at_reach old piece n (whole_reading head (old.unit.held ++ take n piece) o) going
    (record { within = within; some = λ _. used_some old piece n (whole_reading head (old.unit.held ++ take n piece) o) waits is known; before = before; here = inr (ap is_wanting is ∙ known) }) is

became : (old new : Body) (bytes : List ℕ) (kind : UnitKind) (number : ℕ) (text : List ℕ) (next : Place) → IfRegular kind (number ≡ old.number) → GoesBehind kind number new → new.unit.out ≡ text
    → BecameBody old bytes (Read (piece_of kind text) next) new
became old new bytes kinds.Regular number text next same goes out = (goes.0 ∙ ap (λ (k : ℕ). k + 1) same, goes.1, goes.2, out)
became old new bytes kinds.Final number text next same goes out = (goes, out)
became old new bytes kinds.Single number text next same goes out = (goes, out)

-- the unit was opened, and the next one goes on, or none
pub opened_steps : (old new : Body) (piece : List ℕ) (n : ℕ) (head : UnitHead) → old.ended ≡ false → IfRegular head.kind (head.number ≡ old.number) → BodyGoesOn head new
    → open_unit old (old.unit.held ++ take n piece) ≡ whole_reading head (old.unit.held ++ take n piece) (Some new.unit.out) → StepsBody old piece n new
opened_steps old new piece n head going numbered goes is =
    subst (λ b. StepsIn b old (old.unit.held ++ take n piece) new) (sym going)
    (subst (λ (r : Reading Piece). BecameBody old (old.unit.held ++ take n piece) r new) (sym is)
    (became old new (old.unit.held ++ take n piece) head.kind head.number new.unit.out _ numbered goes refl))

-- ---- errors that are passed on

abbrev failed : OpenError → Result ℕ OpenError
failed error = Err error

-- memory ran out, where more was needed than is reserved
pub short_of_memory : (old : Body) (piece : List ℕ) (r : Result ℕ OpenError) → IsErrAnd r (λ error. error ≡ errors.Memory) → old.ended ≡ false → LacksRoom old → AnswersBody old piece r
short_of_memory old piece r is going lacks =
    let p = err_from_is_err_and r is in
    subst (AnswersBody old piece) (sym (p.1 ∙ ap failed p.2)) (going, lacks)
